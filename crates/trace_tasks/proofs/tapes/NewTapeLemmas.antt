-- A world with a new tape, which serves a lane.
use Rattle.std.proofs.Common.{◌≡◌, ℕ, zero, suc, ◌<◌, List, [], ◌∷◌, length, Option, Some, refl, sym, ap, ◌∙◌, arith, slice_get}
use Rattle.std.specs.Prelude.{sum_by}
use Rattle.std.specs.Option.{option_map_or}
use Rattle.trace_base.specs.declared.callsite.Callsite.{Callsite}
use Rattle.trace_base.specs.declared.lane.Lane.{Lane}
use Rattle.trace_base.specs.declared.subscriber.Interest.TheVariants as interests
use Rattle.trace_base.specs.Gate.{WorldValue, AreSame, IsFresh, cached_at, interests_of_sites}
use Rattle.trace_base.specs.Spans.{entries_on}
use Rattle.span_handles.specs.Worlds.{spans_in, no_spans}
use Rattle.span_registry.specs.Registering.{RegistryValue}
use Rattle.trace_tape.specs.Tapes.{TapeValue, blank_tape}
use Rattle.trace_tasks.specs.Spelled.{tape_spans, IsNewTape}
use Rattle.trace_tasks.specs.Turning.{dispatch_of_default, dispatch_serving, ReadyToPoll}

-- the one subscriber is the tape
only_tape : (xs : List TapeValue) (tape : TapeValue) → AreSame (λ s t. t ≡ s) (tape ∷ []) xs → xs ≡ tape ∷ []
only_tape [] tape same = absurd (let c = same.count in omega (arith, c))
only_tape (x ∷ []) tape same = ap (λ (t : TapeValue). t ∷ []) (same.each 0 tape x refl refl)
only_tape (x ∷ y ∷ xs) tape same = absurd (let c = same.count in omega (arith, c))

always_at : (tape : TapeValue) (sites : List Callsite) (site : ℕ) → site < length sites → cached_at (interests_of_sites (λ s c. interests.Always) (tape ∷ []) sites) 0 site ≡ interests.Always
always_at tape [] site less = absurd (omega (arith, less))
always_at tape (c ∷ sites) zero less = refl
always_at tape (c ∷ sites) (suc n) less = always_at tape sites n (omega (arith, less))

unfoldable pub below_at_first : RegistryValue
below_at_first = record { spans = record { made = []; lanes = [] }; slots = 0 }

module _ (world : WorldValue TapeValue) (d : ℕ) (tape : TapeValue) (new : tape ≡ blank_tape below_at_first) (same : AreSame (λ s t. t ≡ s) (tape ∷ []) world.subscribers) (first : d ≡ 0) where
  only : world.subscribers ≡ blank_tape below_at_first ∷ []
  only = only_tape world.subscribers tape same ∙ ap (λ (t : TapeValue). t ∷ []) new

  there : slice_get world.subscribers d ≡ Some (blank_tape below_at_first)
  there = ap (λ (n : ℕ). slice_get world.subscribers n) first ∙ ap (λ (xs : List TapeValue). slice_get xs 0) only

  pub new_tape : IsFresh (λ s c. interests.Always) world → (t : TapeValue) × IsNewTape world d t
  unfolding below_at_first
  new_tape fresh = (
    blank_tape below_at_first,
    record {
      there = there;
      cached = λ site less. ap (λ (n : ℕ). cached_at world.cached n site) first ∙ ap (λ k. cached_at k 0 site) (fresh ∙ ap (λ (xs : List TapeValue). interests_of_sites (λ s c. interests.Always) xs world.sites) only) ∙ always_at (blank_tape below_at_first) world.sites site less;
      no_spans = refl;
      no_handles = refl;
      no_due = refl;
      no_entries = refl;
      no_guards = refl;
      no_requests = refl;
    },
  )

  pub ready : (lane : Lane) → lane.default ≡ Some d → ReadyToPoll tape_spans (λ s lane number. 0) (λ s. Unit {0}) world lane
  unfolding below_at_first
  ready lane default =
      let serving : dispatch_serving lane ≡ d = ap dispatch_of_default default in
      record {
        default = default ∙ ap (λ (n : ℕ). Some n) (sym serving);
        there = (let c = same.count in omega (arith, c, serving, first));
        whole = λ e s is. tt;
        still = λ number. (let e = ap (λ (xs : List TapeValue). sum_by (λ (s : TapeValue). 0) xs) only in omega (arith, e));
        none_open = ap (λ (n : ℕ). entries_on lane.id (spans_in tape_spans world n).lanes) serving ∙ ap (λ (o : Option TapeValue). entries_on lane.id (option_map_or tape_spans o no_spans).lanes) there;
      }
