-- What the gate's answer makes of a call that stands for a macro.
use Rattle.std.proofs.Common.{◌≡◌, ℕ, ◌+◌, ◌<◌, length, Bool, true, false, Option, Some, None, Result, Ok, Err, refl, sym, ◌∙◌, arith, OnOk, OnErr, IfOk}
use Rattle.std.proofs.lemmas.Bool.{true≢false}
use Rattle.traced.proofs.Common.{Memory, Callsite, ValueSet, Lane, Parent, Ghosts, WorldValue, Admits, IsInWorld, dispatch_on, Handle, no_handle, IsKnown, MakesIf, MayMakeIf, ReplacedIf, KeepsHandles, IsLawful, CanMake, CanTell, GateAnswers, MakesOne, TellsEventIf, TellsOne, MakesIfGateAdmits}
use Rattle.trace_base.specs.declared.level.LevelFilter.{LevelFilter}
use Rattle.traced.proofs.changes.Restored.{unchanged}
use Rattle.traced.proofs.Moves.{get_there, later, made, made_one, made_global, made_count, made_can_close, none_made}

-- the gate has one answer
pub one_answer : {S : Type 0} (hint : S → Option LevelFilter) (enables : S → ℕ → Callsite → Bool) (world : WorldValue S) (lane site : ℕ) (o : Option ℕ) (a b : Bool) → IsInWorld world o → site < length world.sites → Admits hint enables world lane site o a → Admits hint enables world lane site o b → a ≡ b
one_answer hint enables world lane site None a b own there first second = first ∙ sym second
one_answer hint enables world lane site (Some d) a b own there first second =
    let s = get_there world.subscribers d own in
    let c = get_there world.sites site there in
    first s.0 c.0 s.1 c.1 ∙ sym (second s.0 c.0 s.1 c.1)

own_if : {S : Type 0} (sub : Ghosts S) (world : WorldValue S) (lane : ℕ) (parent : Parent) (o : Option ℕ) → MayMakeIf sub.spans sub.is_whole world lane parent o → IsInWorld world o
own_if sub world lane parent None may = tt
own_if sub world lane parent (Some d) may = may.there

module _ {S : Type 0} (sub : Ghosts S) (old new : WorldValue S) (lane : Lane) (at : ℕ) (parent : Parent) (site : ℕ) (values : ValueSet) where
  not_both : (answer : Bool) → CanMake sub old lane parent site → GateAnswers sub old lane site answer → (other : Bool) → GateAnswers sub old lane site other → answer ≡ other
  not_both answer can first other second =
      let o = dispatch_on lane.default old.global in
      one_answer sub.hint sub.enables old lane.id site o answer other (own_if sub old lane.id parent o can.may) can.site_there first second

  makes_at : (o : Option ℕ) (result : Result Handle Memory) → dispatch_on lane.default old.global ≡ o → Admits sub.hint sub.enables old lane.id site o true → IfOk result (MakesIf sub.spans sub.does old new lane at parent site values o) → IfOk result (MakesOne sub old new lane at parent site values)
  makes_at None result serves answer did = absurd (true≢false answer)
  makes_at (Some d) (Ok handle) serves answer did = record { dispatch = d; serves = serves; made = did }
  makes_at (Some d) (Err memory) serves answer did = tt

  -- it lets the callsite through, and a span is made
  pub makes : (law : IsLawful sub) (result : Result Handle Memory) → CanMake sub old lane parent site → GateAnswers sub old lane site true → IfOk result (MakesIf sub.spans sub.does old new lane at parent site values (dispatch_on lane.default old.global))
      → IfOk result (λ handle. IsKnown sub.spans new handle.held) → KeepsHandles sub.spans old new → OnErr result (ReplacedIf sub.same_but_room old new (dispatch_on lane.default old.global)) → MakesIfGateAdmits sub old new lane at parent site values result
  makes law result can answer did known keeps left =
      let o = dispatch_on lane.default old.global in
      record {
        made = λ through. makes_at o result refl answer did;
        refused = λ back. absurd (true≢false (not_both true can answer false back));
        stands = λ most dispatch sites lanes stands. made sub law most dispatch sites old new lanes lane at parent site values o result did left stands;
        global = made_global sub law old new lane at parent site values o result did left;
        count = made_count sub law old new lane at parent site values o result did left;
        closes = made_can_close sub law old new lane at parent site values o result did known can.may;
        newest = λ dispatch serves. made_one sub law dispatch old new lane at parent site values o result did known keeps serves;
        memory_leaves = left;
        memory_restores = none_made sub law old new o result left;
      }

  -- it doesn't, and nothing happens
  pub makes_none : CanMake sub old lane parent site → GateAnswers sub old lane site false → MakesIfGateAdmits sub old old lane at parent site values (Ok no_handle)
  makes_none can answer = record {
    made = λ through. absurd (true≢false (sym (not_both false can answer true through)));
    refused = λ back. (refl, refl);
    stands = λ most dispatch sites lanes stands. later sub most (most + 1) dispatch sites old lanes (omega arith) stands;
    global = refl;
    count = refl;
    closes = record { known = tt; whole = tt };
    newest = λ dispatch serves. record {
      known = λ held known. known;
      held = record { known = tt; of_dispatch = tt };
      is_new = tt;
      newest = unchanged _ _ refl;
    };
    memory_leaves = tt;
    memory_restores = tt;
  }

-- an event that the lane's subscriber is told
module _ {S : Type 0} (sub : Ghosts S) (old new : WorldValue S) (lane : Lane) (at : ℕ) (parent : Parent) (site : ℕ) (values : ValueSet) where
  told_at : (o : Option ℕ) (result : Result (Unit {0}) Memory) → dispatch_on lane.default old.global ≡ o → Admits sub.hint sub.enables old lane.id site o true → OnOk result (TellsEventIf sub.does old new lane at parent site values o) → OnOk result (TellsOne sub old new lane at parent site values)
  told_at None result serves answer did = absurd (true≢false answer)
  told_at (Some d) (Ok done) serves answer did = record { dispatch = d; serves = serves; told = did }
  told_at (Some d) (Err memory) serves answer did = tt

  pub tells_one : (result : Result (Unit {0}) Memory) → GateAnswers sub old lane site true → OnOk result (TellsEventIf sub.does old new lane at parent site values (dispatch_on lane.default old.global)) → OnOk result (TellsOne sub old new lane at parent site values)
  tells_one result answer did = told_at (dispatch_on lane.default old.global) result refl answer did

-- the gate doesn't both let it through and hold it back
pub apart : {S : Type 0} (sub : Ghosts S) (world : WorldValue S) (lane : Lane) (site : ℕ) → CanTell sub world lane site → GateAnswers sub world lane site true → GateAnswers sub world lane site false → ⊥
apart sub world lane site can through back = true≢false (one_answer sub.hint sub.enables world lane.id site (dispatch_on lane.default world.global) true false can.there can.site_there through back)
