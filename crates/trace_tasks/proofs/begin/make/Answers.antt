-- A disabled handle where the making isn't let through.
use Rattle.std.proofs.Common.{◌≡◌, ℕ, Bool, false, Option, Some, refl, subst, rules}
use Rattle.trace_tasks.proofs.Common.{Admits, dispatch_on, dispatch_serving}
use Rattle.trace_tasks.proofs.queues.NewTaskLemmas.{there, whole_made, wants_made}
use Rattle.trace_tasks.proofs.begin.make.Goals as goal

pub returns-then-not-admits-clause-ok : goal.returns-then-not-admits-clause-ok
returns-then-not-admits-clause-ok g c =
    let found = there c.args.world.now.sites c.args.site c.requires.site in
    let none : c.admits.result ≡ false = search rules in
    record {
      callsite = found.0;
      is = found.1;
      admitted = false;
      gate = subst (λ (b : Bool). Admits g.S.Subscriber.hint g.S.Subscriber.enables c.args.world.now c.args.lane.now.id c.args.site (Some (dispatch_serving c.args.lane.now)) b) none
          (subst (λ (o : Option ℕ). Admits g.S.Subscriber.hint g.S.Subscriber.enables c.args.world.now c.args.lane.now.id c.args.site (dispatch_on o c.args.world.now.global) c.admits.result) c.requires.ready.default c.admits.ensures);
      made = (c.new_disabled.ensures, refl);
    }

pub returns-clause-whole : goal.returns-clause-whole
returns-clause-whole g c =
    whole_made g.S.Subscriber.is_whole g.S.Subscriber.spans g.S.Subscriber.does g.S.Subscriber.same_but_room g.met.S.Subscriber.keeps_whole g.met.S.Subscriber.same_whole
    c.args.lane.now 0 c.args.site c.in_ok-values.values c.args.world.now c.new.new.world _ c.new.result c.requires.ready.whole c.new.ensures.makes.ok c.new.ensures.makes.memory_leaves

pub returns-clause-wants : goal.returns-clause-wants
returns-clause-wants g c =
    wants_made g.S.Subscriber.spans g.S.Subscriber.hint g.S.Subscriber.enables g.S.Subscriber.does g.S.OtelPart.touches g.S.Subscriber.same_but_room c.args.world.now c.new.new.world _ c.new.result c.new.ensures.makes.memory_leaves
