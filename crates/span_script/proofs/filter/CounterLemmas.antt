-- What stands beside the filter in place: the filter that counts, and the measures that wait.
use Rattle.std.proofs.Common.{◌≡◌, ℕ, List, [], ◌++◌, None, option_map, sym, ap, ◌∙◌}
use Rattle.std.proofs.lemmas.List.{append-nil}
use Rattle.span_script.proofs.Common.{WorldValue, read_subscriber, Measure, StackWorld, counting_filter_in, measures_in, Views, shown_of, stack_views, PipelineState, AddsMeasures, Aside, aside_in}

pub adds_none : (before later : Aside) → later.0 ≡ before.0 → later.1 ≡ before.1 → AddsMeasures before later []
adds_none before later counting_filter measures = record { counting_filter = counting_filter; measures = measures ∙ sym (append-nil before.1) }

pub adds_nothing : (before later : Aside) → AddsMeasures before later [] → (later.0 ≡ before.0) × (later.1 ≡ before.1)
adds_nothing before later adds = (adds.counting_filter, adds.measures ∙ append-nil before.1)

-- where a world didn't change
pub adds_same : {S : Type 0} (views : Views S) (old new : WorldValue S) (dispatch : ℕ) → new ≡ old → AddsMeasures (aside_in views old dispatch) (aside_in views new dispatch) []
adds_same views old new dispatch same = adds_none (aside_in views old dispatch) (aside_in views new dispatch) (ap (λ (w : WorldValue _). read_subscriber views.counting_filter None w dispatch) same) (ap (λ (w : WorldValue _). read_subscriber views.measures [] w dispatch) same)

-- the same of stacks
pub stack_same : (old new : StackWorld) (dispatch : ℕ) → counting_filter_in new dispatch ≡ counting_filter_in old dispatch → measures_in new dispatch ≡ measures_in old dispatch → AddsMeasures (aside_in stack_views old dispatch) (aside_in stack_views new dispatch) []
stack_same old new dispatch counting_filter measures = adds_none (aside_in stack_views old dispatch) (aside_in stack_views new dispatch) counting_filter measures

-- what is seen of that in what is kept
pub record AddsTo (k next : PipelineState) (added : List Measure) : Type 0 where
  pub before : Aside
  pub later : Aside
  pub shown_before : k.counting_filter ≡ option_map (shown_of 0 k.setup.ids) before.0
  pub shown_later : next.counting_filter ≡ option_map (shown_of 0 next.setup.ids) later.0
  pub waits_before : k.measures ≡ before.1
  pub waits_later : next.measures ≡ later.1
  pub adds : AddsMeasures before later added

pub measured : (k next : PipelineState) (added : List Measure) → AddsTo k next added → next.measures ≡ k.measures ++ added
measured k next added a = a.waits_later ∙ a.adds.measures ∙ ap (λ (ms : List Measure). ms ++ added) (sym a.waits_before)
