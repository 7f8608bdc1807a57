-- Step by step.
use Rattle.std.proofs.Common.{refl, Some}
use Rattle.span_laws.proofs.levels.LiveSpansLemmas.{kept, call_kept, call_kept_by, chain_kept, part_keys, begins_kept, world_kept}
use Rattle.span_laws.proofs.live.keeps.Goals as goal

pub returns : goal.returns
returns g c =
    let in_world = world_kept g.S.Subscriber.spans g.S.Subscriber.does g.met.S.Subscriber.sound g.met.S.Subscriber.allowed g.met.S.Subscriber.shows in
    record {
      begins = begins_kept;
      call = λ old new dispatch call counting_filter r t did says keeps. in_world old new dispatch call t did (λ sound allowed. call_kept_by counting_filter _ r call t sound allowed says keeps);
      layer_call = λ old new dispatch call r t did says keeps. in_world old new dispatch call t did (λ sound allowed. call_kept _ r call t sound allowed says keeps);
      chain = λ x y at id r t says keeps. chain_kept at (Some id) x y r t says keeps;
      ask = λ x call r t says keeps. kept x x r t (λ q. refl) (part_keys r call t says) keeps;
      take = λ x r left keeps. keeps;
    }
