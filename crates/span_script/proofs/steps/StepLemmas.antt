-- One effect more: what fits the tables fits them with the effect, whatever its kind.
use Rattle.std.proofs.Common.{◌≡◌, ℕ, ◌+◌, ◌≤◌, List, length, Option, Some, None, option_map, map, sym, ap, subst, ◌∙◌, arith}
use Rattle.span_script.proofs.Common.{Spans, span_at, OneEach, Balanced, span_of_handle, open_guard_by, Setup, Scope, ScopeGuard, Effect, Tables, after_effect, site_of, slot_at, slots_after, either_after, with_item, with_entry_on, with_exit_on, PipelineState, SpansFit, IsScope, held_of, guard_of, lane_place_of}
use Rattle.span_script.specs.Fits.{Fits}
use Rattle.span_script.proofs.steps.SlotsLemmas.{named_push, slots_map, either_map, either_count, still_named}
use Rattle.span_script.proofs.spans.ScopesLemmas.{NewMade, NewSite, lines_with, lines_after, sites_left, sited_after}

-- the handles and guards that are left
abbrev pub handles_after : Tables → Effect → List (Option Scope)
handles_after t e = slots_after t.handles e.new_handle e.spent_handle

abbrev pub guards_after : Tables → Effect → List (Option ScopeGuard)
guards_after t e = either_after t.guards e.new_guard e.new_attach e.spent_guard

-- what an effect has to leave
pub record Step (k : PipelineState) (t : Tables) (e : Effect) (next : PipelineState) : Type 0 where
  pub setup_is : next.setup ≡ k.setup
  pub dispatch_is : next.dispatch ≡ k.dispatch
  pub handles_are : next.handles ≡ slots_after k.handles (option_map (held_of k.dispatch) e.new_handle) e.spent_handle
  pub sites_are : next.handle_sites ≡ slots_after k.handle_sites (option_map (site_of (with_item t.spans e.new_span)) e.new_handle) e.spent_handle
  pub guards_are : next.guards ≡ either_after k.guards (option_map (guard_of k.dispatch) e.new_guard) e.new_attach e.spent_guard
  pub attaches_are : map (option_map lane_place_of) next.contexts.attaches ≡ either_after (map (option_map lane_place_of) k.contexts.attaches) e.new_attach e.new_guard e.spent_attach
  pub named_are : next.contexts.contexts ≡ with_item k.contexts.contexts e.new_context
  pub moment_is : next.moment ≡ e.at
  pub balanced : Balanced next.spans (map span_of_handle (handles_after t e)) (map (open_guard_by k.setup.ids) (guards_after t e)) (with_exit_on (with_entry_on t.entries e.lane e.entry) e.lane e.exit)
  pub made_fit : SpansFit next.spans.made (with_item t.spans e.new_span)
  pub new_made : NewMade t.spans e.new_span
  pub new_site : NewSite (length k.setup.sites) e.new_span
  pub new_scope : (scope : Scope) → e.new_handle ≡ Some scope → IsScope (with_item t.spans e.new_span) scope
  pub still : (n : ℕ) (g : ScopeGuard) → slot_at (guards_after t e) n ≡ Some g → slot_at (handles_after t e) g.handle ≡ Some g.scope
  pub few : length (with_item t.spans e.new_span) ≤ length (handles_after t e)
  pub few_holds : (s : ℕ) → (span_at next.spans.made s).holds ≤ length (handles_after t e) + length (guards_after t e)
  pub one : OneEach next.spans.lanes

module _ (k : PipelineState) (t : Tables) (fits : Fits k t) (next : PipelineState) (e : Effect) where
  handles_made : NewMade t.spans e.new_span → (o : Option Scope) → ((line : Scope) → o ≡ Some line → IsScope (with_item t.spans e.new_span) line) → (n : ℕ) (line : Scope) → slot_at (with_item t.handles (option_map Some o)) n ≡ Some line → IsScope (with_item t.spans e.new_span) line
  handles_made made None new n line there = lines_with t.spans e.new_span made line (fits.scopes n line there)
  handles_made made (Some x) new n line there = named_push (IsScope (with_item t.spans e.new_span)) t.handles (Some x) (λ n line e. lines_with t.spans _ made line (fits.scopes n line e)) new n line there

  pub fits_step : Step k t e next → Fits next (after_effect t e)
  fits_step s = record {
    handle_slots = s.handles_are ∙ ap (λ xs. slots_after xs (option_map (held_of k.dispatch) e.new_handle) e.spent_handle) fits.handle_slots ∙ slots_map (held_of k.dispatch) t.handles e.new_handle e.spent_handle
        ∙ ap (λ (d : ℕ). map (option_map (held_of d)) (handles_after t e)) (sym s.dispatch_is);
    site_slots = s.sites_are ∙ ap (λ xs. slots_after xs (option_map (site_of (with_item t.spans e.new_span)) e.new_handle) e.spent_handle) (fits.site_slots ∙ sites_left t.spans e.new_span t.handles fits.scopes) ∙ slots_map (site_of (with_item t.spans e.new_span)) t.handles e.new_handle e.spent_handle;
    guard_slots = s.guards_are ∙ ap (λ xs. either_after xs (option_map (guard_of k.dispatch) e.new_guard) e.new_attach e.spent_guard) fits.guard_slots ∙ either_map (guard_of k.dispatch) t.guards e.new_guard e.new_attach e.spent_guard
        ∙ ap (λ (d : ℕ). map (option_map (guard_of d)) (guards_after t e)) (sym s.dispatch_is);
    attach_slots = s.attaches_are ∙ ap (λ xs. either_after xs e.new_attach e.new_guard e.spent_attach) fits.attach_slots;
    paired = either_count t.attaches t.guards e.new_attach e.new_guard e.spent_attach e.spent_guard fits.paired;
    named_contexts = s.named_are ∙ ap (λ xs. with_item xs e.new_context) fits.named_contexts;
    latest = s.moment_is;
    balanced = subst (λ (x : Setup). Balanced next.spans (map span_of_handle (handles_after t e)) (map (open_guard_by x.ids) (guards_after t e)) (with_exit_on (with_entry_on t.entries e.lane e.entry) e.lane e.exit)) (sym s.setup_is) s.balanced;
    made = s.made_fit;
    one_row = s.one;
    scopes = λ n line there. handles_made s.new_made e.new_handle s.new_scope n line (still_named (with_item t.handles (option_map Some e.new_handle)) e.spent_handle n line there);
    still = s.still;
    own_scopes = lines_after t.spans e.new_span s.new_made fits.own_scopes;
    sited = λ n within. (let old = ap (λ (x : Setup). length x.sites) s.setup_is in let now = sited_after (length k.setup.sites) t.spans e.new_span s.new_site fits.sited n within in omega (arith, old, now));
    few = s.few;
    few_holds = s.few_holds;
  }

-- an effect that makes and spends no handle, guard or span, and leaves the lane's entries
abbrev pub quiet_of : Effect → Effect
quiet_of e = record e { new_handle = None; spent_handle = None; new_guard = None; spent_guard = None; new_attach = None; new_span = None; entry = None; exit = None }

pub quiet_step : (k next : PipelineState) (t : Tables) (e : Effect) → Fits k t → next.setup ≡ k.setup → next.dispatch ≡ k.dispatch → next.handles ≡ k.handles → next.handle_sites ≡ k.handle_sites → next.guards ≡ k.guards
    → map (option_map lane_place_of) next.contexts.attaches ≡ either_after {B = ScopeGuard} (map (option_map lane_place_of) k.contexts.attaches) None None e.spent_attach
    → next.contexts.contexts ≡ with_item k.contexts.contexts e.new_context → next.moment ≡ e.at → next.spans ≡ k.spans → Step k t (quiet_of e) next
quiet_step k next t e fits setup dispatch handles sites guards attaches named moment spans = record {
  setup_is = setup;
  dispatch_is = dispatch;
  handles_are = handles;
  sites_are = sites;
  guards_are = guards;
  attaches_are = attaches;
  named_are = named;
  moment_is = moment;
  balanced = subst (λ (x : Spans). Balanced x (map span_of_handle t.handles) (map (open_guard_by k.setup.ids) t.guards) t.entries) (sym spans) fits.balanced;
  made_fit = subst (λ (x : Spans). SpansFit x.made t.spans) (sym spans) fits.made;
  new_made = tt;
  new_site = tt;
  new_scope = λ l e. absurd (cc e);
  still = fits.still;
  few = fits.few;
  few_holds = λ s. (let f = fits.few_holds s in let e = ap (λ (x : Spans). (span_at x.made s).holds) spans in omega (arith, f, e));
  one = subst (λ (x : Spans). OneEach x.lanes) (sym spans) fits.one_row;
}
