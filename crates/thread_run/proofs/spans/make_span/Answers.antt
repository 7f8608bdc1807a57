use Rattle.std.proofs.Common.{◌≡◌, ◌<◌, ◌+◌, ℕ, List, length, slice_index_or, ap, subst, rules}
use Rattle.std.specs.Prelude.{Option}
use Rattle.otel_base.specs.declared.context.SpanContext.{SpanContext}
use Rattle.trace_base.specs.declared.callsite.Callsite.{Callsite}
use Rattle.trace_base.specs.declared.field.Value.{Value}
use Rattle.thread_run.specs.Spans.{IsFirstLane}
use Rattle.thread_run.proofs.ListLemmas.{any_default}
use Rattle.thread_run.proofs.MakingLemmas.{low_at, site_low, made_where}
use Rattle.thread_run.proofs.spans.make_span.Goals as goal

pub offset_bounds-as_slice-line : goal.offset_bounds-as_slice-line
offset_bounds-as_slice-line c =
    let small : (slice_index_or c.as_slice.result.now c.args.place (record { at = 0; site = 0 })).site < length c.as_slice-2.result.now =
    rw (c.as_slice.ensures, c.as_slice-2.ensures)
    (site_low c.args.script.now.callsites c.args.script.now.shared c.args.place (record { at = 0; site = 0 }) c.requires.script.shared c.requires.place) in
    search rules

pub bounds-as_slice-line : goal.bounds-as_slice-line
bounds-as_slice-line c =
    rw (c.as_slice.ensures, c.as_slice-2.ensures)
    (site_low c.args.script.now.callsites c.args.script.now.shared c.args.place (record { at = 0; site = 0 }) c.requires.script.shared c.requires.place)

pub make-requires : goal.make-requires
make-requires c = record {
  moment = rw c.as_slice.ensures (low_at c.args.script.now.callsites c.args.script.now.shared c.args.place (record { at = 0; site = 0 }) c.requires.script.shared c.requires.place);
}

pub returns : goal.returns
returns c = record {
  made =
      let line = slice_index_or c.as_slice.result.now c.args.place (record { at = 0; site = 0 }) in
      let site = c.index-as_slice-line.result in
      made_where c.args.script.now c.args.place line site c.in_ok-lane.lane _ c.empty.result _ c.make.result c.requires.place
      (rw c.as_slice.ensures (any_default c.args.script.now.shared c.args.place (record { at = 0; site = 0 }) _ c.requires.place))
      (rw c.as_slice.ensures (site_low c.args.script.now.callsites c.args.script.now.shared c.args.place (record { at = 0; site = 0 }) c.requires.script.shared c.requires.place))
      (subst (λ (cs : List Callsite). site ≡ slice_index_or cs line.site site) c.as_slice-2.ensures c.index-as_slice-line.is)
      (subst (λ ls. IsFirstLane ls c.in_ok-lane.lane) c.as_slice-3.ensures c.in_ok-lane.ensures)
      (ap (λ (t : ℕ). record { trace = t; span = c.args.place + 1 }) c.from.ensures) (ap (λ (s : Option SpanContext). record { span = s }) c.empty.ensures) (ap (λ (p : List (ℕ × Value)). record { pairs = p }) c.new.ensures)
      c.make.ensures.view c.make.ensures.number;
}
