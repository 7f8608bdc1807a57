-- One callsite more has its row.
use Rattle.std.proofs.Common.{◌∙◌, rules}
use Rattle.trace_base.proofs.InterestLemmas.{same_both, interests_same, row_more}
use Rattle.trace_base.proofs.world.ask_all.Goals as goal

pub returns-in_err-ask-clause-same : goal.returns-in_err-ask-clause-same
returns-in_err-ask-clause-same g c = same_both g.S.Subscriber.same_but_room g.met.S.Subscriber.same_refl g.met.S.Subscriber.same_trans _ c.loop-site.subscribers.items c.ask.new.subscribers.items c.loop-site.invariant.same c.ask.ensures.same

pub returns-in_err-push-clause-same : goal.returns-in_err-push-clause-same
returns-in_err-push-clause-same g c = same_both g.S.Subscriber.same_but_room g.met.S.Subscriber.same_refl g.met.S.Subscriber.same_trans _ c.loop-site.subscribers.items c.ask.new.subscribers.items c.loop-site.invariant.same c.ask.ensures.same

pub loop-site-preserved : goal.loop-site-preserved
loop-site-preserved g c = record {
  same = same_both g.S.Subscriber.same_but_room g.met.S.Subscriber.same_refl g.met.S.Subscriber.same_trans _ c.loop-site.subscribers.items c.ask.new.subscribers.items c.loop-site.invariant.same c.ask.ensures.same;
  rows = c.in_ok-push.ensures.items ∙ row_more g.S.Subscriber.interest c.args.subscribers.now.items c.args.sites.now c.loop-site.site-index c.site-item.result c.in_ok-ask.field-0 c.loop-site.rows.items c.site-item.is (search rules)
      (c.in_ok-ask.ensures.row ∙ interests_same g.S.Subscriber.same_but_room g.S.Subscriber.interest g.S.Subscriber.hint g.met.S.Subscriber.same_gate c.args.subscribers.now.items c.loop-site.subscribers.items c.site-item.result c.loop-site.invariant.same) c.loop-site.invariant.rows;
}
