-- By the law of what a filter prints.
use Rattle.std.proofs.Common.{[], None, false, sym, subst}
use Rattle.env_filter.proofs.Common.{IsFilterOf, FilterState, IsReadBack, fixed_builder, printed_of, text_of, statics_of, dynamics_of, filter_of}
use Rattle.env_filter.proofs.printed.TablesLemmas.{filter_again, each_printed}
use Rattle.env_filter.proofs.printed.PrintsLemmas.{reads_printed}
use Rattle.env_filter.proofs.printed.ReadBackLemmas.{read_back_each}
use Rattle.env_filter.proofs.laws.reads_back.Goals as goal

pub returns-clause-alone : goal.returns-clause-alone
returns-clause-alone c = read_back_each

pub returns-clause-same : goal.returns-clause-same
returns-clause-same c text ignored f utf8 was no_zero own = subst (λ (g : FilterState). IsFilterOf fixed_builder (text_of g) [] g) (sym was.is) again
  where
    again : IsFilterOf fixed_builder (text_of (filter_of false None was.directives)) [] (filter_of false None was.directives)
    again = record {
      directives = printed_of was.directives;
      reads = reads_printed (statics_of was.directives).directives (dynamics_of was.directives).directives (each_printed was.directives IsReadBack (read_back_each text was.directives ignored utf8 was.reads no_zero));
      is = sym (filter_again false was.directives own.0 own.1);
    }
