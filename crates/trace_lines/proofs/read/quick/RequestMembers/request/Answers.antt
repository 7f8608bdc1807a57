use Rattle.std.proofs.Common.{◌≡◌, Some, None, rules}
use Rattle.trace_lines.proofs.read.quick.RequestMembers.request.Goals.{in-New-default-None-None-default-Some, in-Event-default-None-None-default-Some, in-Enter-None-None-Some-Contextual-None, in-Exit-None-Some-None-Contextual-None, in-Drop-None-None-Some-Contextual-None}
use Rattle.trace_lines.proofs.readings.QuickLinesLemmas.{new_read, event_read, enter_read, exit_read, drop_read}
use Rattle.trace_lines.proofs.read.quick.RequestMembers.request.Goals as goal

pub returns : goal.returns
returns c =
    let all = c.args.self in
    let at : all.at ≡ Some c.in_ok-at.field-0 = search rules in
    let kind : all.kind ≡ Some c.in_ok-kind.field-0 = search rules in
    let lane : all.lane ≡ Some c.in_ok-lane.field-0 = search rules in
    elim c.match-branch-2.branch [
      | in-New-default-None-None-default-Some w ↦
          let m = w.in-New-default-None-None-default-Some in
          let guard : all.guard ≡ None = m.is-2 in
          let handle : all.handle ≡ None = m.is-3 in
          let site : all.site ≡ Some m.site = m.is-5 in
          rw (at, kind, m.is-0, guard, handle, lane, site, w.call-is, w.unwrap_or.ensures, w.new.ensures) (new_read c.in_ok-at.field-0 c.in_ok-lane.field-0 m.site all.parent all.fields)
      | in-Event-default-None-None-default-Some w ↦
          let m = w.in-Event-default-None-None-default-Some in
          let guard : all.guard ≡ None = m.is-2 in
          let handle : all.handle ≡ None = m.is-3 in
          let site : all.site ≡ Some m.site = m.is-5 in
          rw (at, kind, m.is-0, guard, handle, lane, site, w.call-is, w.unwrap_or-in-Event-default-None-None-default-Some.ensures, w.new-in-Event-default-None-None-default-Some.ensures) (event_read c.in_ok-at.field-0 c.in_ok-lane.field-0 m.site all.parent all.fields)
      | in-Enter-None-None-Some-Contextual-None w ↦
          let m = w.in-Enter-None-None-Some-Contextual-None in
          rw (at, kind, m.is-0, m.is-1, m.is-2, m.is-3, lane, m.is-4, m.is-5, w.call-is) (enter_read c.in_ok-at.field-0 c.in_ok-lane.field-0 m.handle)
      | in-Exit-None-Some-None-Contextual-None w ↦
          let m = w.in-Exit-None-Some-None-Contextual-None in
          rw (at, kind, m.is-0, m.is-1, m.is-2, m.is-3, lane, m.is-4, m.is-5, w.call-is) (exit_read c.in_ok-at.field-0 c.in_ok-lane.field-0 m.guard)
      | in-Drop-None-None-Some-Contextual-None w ↦
          let m = w.in-Drop-None-None-Some-Contextual-None in
          rw (at, kind, m.is-0, m.is-1, m.is-2, m.is-3, lane, m.is-4, m.is-5, w.call-is) (drop_read c.in_ok-at.field-0 c.in_ok-lane.field-0 m.handle)
    ]
