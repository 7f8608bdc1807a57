-- Each piece by itself; and a directive that stands in both tables is the last of its equals in each.
use Rattle.std.proofs.Common.{false, sym}
use Rattle.env_filter.proofs.Common.{IsReadBack, printed_of, statics_of, dynamics_of}
use Rattle.env_filter.proofs.printed.TablesLemmas.{same_statics, same_dynamics, filter_again, each_printed}
use Rattle.env_filter.proofs.printed.PrintsLemmas.{reads_printed}
use Rattle.env_filter.proofs.laws.printing.Goals as goal

pub returns-clause-read : goal.returns-clause-read
returns-clause-read c = reads_printed

pub returns-clause-statics : goal.returns-clause-statics
returns-clause-statics c = same_statics

pub returns-clause-dynamics : goal.returns-clause-dynamics
returns-clause-dynamics c = same_dynamics

pub returns-clause-again : goal.returns-clause-again
returns-clause-again c ds back own = record {
  directives = printed_of ds;
  reads = reads_printed (statics_of ds).directives (dynamics_of ds).directives (each_printed ds IsReadBack back);
  is = sym (filter_again false ds own.0 own.1);
}
