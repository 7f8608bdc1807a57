-- An entry, what is done inside, which leaves all as it was, and the exit.
use Rattle.traced_futures.proofs.Programs.{arith, with_entered, may_exit_kept, ends_refused, ends_exited}
use Rattle.example_desk.proofs.desk.Desk.inside.Goals as goal

pub returns-in_err-guard-clause-ends : goal.returns-in_err-guard-clause-ends
returns-in_err-guard-clause-ends g c = ends_refused c.requires.ready c.in_err-guard.ensures.refused c.from_residual.ensures.0 (omega arith)

pub pay_and_pack-told-requires : goal.pay_and_pack-told-requires
pay_and_pack-told-requires g c = with_entered c.requires.ready c.in_ok-guard.ensures.entered c.requires.held (omega arith)

pub exit-requires : goal.exit-requires
exit-requires g c = may_exit_kept c.in_ok-guard.ensures.entered c.requires.held c.pay_and_pack-told.ensures.ends.keeps

pub returns-clause-ends : goal.returns-clause-ends
returns-clause-ends g c = ends_exited c.in_ok-guard.ensures.entered c.requires.held c.pay_and_pack-told.ensures.ends c.exit.ensures
