-- The filter is put in, and put back where the interests find no memory.
use Rattle.std.proofs.Common.{rules, None, []}
use Rattle.span_stack.proofs.Common.{AreSame, no_recording, same_in_place, waiting_measures, stack_recording, stack_counting_filter, stack_measures, filter_in_place}
use Rattle.span_stack.proofs.worlds.ExchangesLemmas.{room_over, put_back, filter_put, read_put, rest_put, alike_put, read_left, alike_left}
use Rattle.span_stack.proofs.worlds.CacheLemmas.{middle_room, middle_recorded, middle_counter, middle_same, middle_counts, middle_measures, current_left}
use Rattle.span_stack.proofs.gate.put_in_force.Goals as goal

pub returns-in-Ok-clause-filter : goal.returns-in-Ok-clause-filter
returns-in-Ok-clause-filter c = filter_put middle_room c.args.world.now c.exchange.new.world c.rebuild_interest.new.self c.args.dispatch c.args.filter c.exchange.new.filter c.exchange.ensures c.rebuild_interest.ensures.same c.requires.in_place

pub returns-in-Ok-clause-recording : goal.returns-in-Ok-clause-recording
returns-in-Ok-clause-recording c = read_put middle_room c.args.world.now c.exchange.new.world c.rebuild_interest.new.self c.args.dispatch c.args.filter c.exchange.new.filter c.exchange.ensures c.rebuild_interest.ensures.same middle_recorded no_recording middle_same

pub returns-in-Ok-clause-counting_filter : goal.returns-in-Ok-clause-counting_filter
returns-in-Ok-clause-counting_filter c = read_put middle_room c.args.world.now c.exchange.new.world c.rebuild_interest.new.self c.args.dispatch c.args.filter c.exchange.new.filter c.exchange.ensures c.rebuild_interest.ensures.same middle_counter None middle_counts

pub returns-in-Ok-clause-measures : goal.returns-in-Ok-clause-measures
returns-in-Ok-clause-measures c = read_put middle_room c.args.world.now c.exchange.new.world c.rebuild_interest.new.self c.args.dispatch c.args.filter c.exchange.new.filter c.exchange.ensures c.rebuild_interest.ensures.same waiting_measures [] middle_measures

pub returns-in-Ok-clause-others : goal.returns-in-Ok-clause-others
returns-in-Ok-clause-others c = alike_put middle_room c.args.world.now c.exchange.new.world c.rebuild_interest.new.self c.args.dispatch c.args.filter c.exchange.new.filter c.exchange.ensures c.rebuild_interest.ensures.same _ _ _ _ c.room_leaves_spans.ensures c.requires.new c.requires.in_place

pub returns-in-Ok-clause-other_subscribers : goal.returns-in-Ok-clause-other_subscribers
returns-in-Ok-clause-other_subscribers c = rest_put middle_room c.args.world.now c.exchange.new.world c.rebuild_interest.new.self c.args.dispatch c.args.filter c.exchange.new.filter c.exchange.ensures c.rebuild_interest.ensures.same

-- all subscribers are as they were, but for room
abbrev all_left : (c : goal.After-drop-other-2) → AreSame (room_over middle_room) c.args.world.now.subscribers c.exchange-in-Err.new.world.subscribers
all_left c = put_back middle_room c.args.world.now c.exchange.new.world c.rebuild_interest.new.self c.exchange-in-Err.new.world c.args.dispatch c.args.filter c.exchange.new.filter c.exchange-in-Err.new.filter c.exchange.ensures c.rebuild_interest.ensures.same c.exchange-in-Err.ensures

pub returns-clause-recording : goal.returns-clause-recording
returns-clause-recording c = read_left (room_over middle_room) c.args.world.now c.exchange-in-Err.new.world c.args.dispatch c.exchange.ensures.before c.exchange.ensures.there (all_left c) stack_recording no_recording (λ s t h. middle_same s.inner t.inner h.0)

pub returns-clause-counting_filter : goal.returns-clause-counting_filter
returns-clause-counting_filter c = read_left (room_over middle_room) c.args.world.now c.exchange-in-Err.new.world c.args.dispatch c.exchange.ensures.before c.exchange.ensures.there (all_left c) stack_counting_filter None (λ s t h. middle_counts s.inner t.inner h.0)

pub returns-clause-measures : goal.returns-clause-measures
returns-clause-measures c = read_left (room_over middle_room) c.args.world.now c.exchange-in-Err.new.world c.args.dispatch c.exchange.ensures.before c.exchange.ensures.there (all_left c) stack_measures [] (λ s t h. middle_measures s.inner t.inner h.0)

pub returns-clause-others : goal.returns-clause-others
returns-clause-others c = alike_left (room_over middle_room) c.args.world.now c.exchange-in-Err.new.world c.args.dispatch c.exchange.ensures.before c.exchange.ensures.there (all_left c) _ _ _ _ c.room_leaves_spans.ensures

pub returns-clause-memory_same : goal.returns-clause-memory_same
returns-clause-memory_same c = all_left c

pub returns-clause-memory_leaves : goal.returns-clause-memory_leaves
returns-clause-memory_leaves c = read_left (room_over middle_room) c.args.world.now c.exchange-in-Err.new.world c.args.dispatch c.exchange.ensures.before c.exchange.ensures.there (all_left c) filter_in_place None (λ s t h. same_in_place (Unit {0}) s.layer.inner t.layer.inner h.1)

pub returns-clause-memory_current : goal.returns-clause-memory_current
returns-clause-memory_current c = current_left c.args.world.now c.exchange-in-Err.new.world (all_left c) (search rules) (search rules)
