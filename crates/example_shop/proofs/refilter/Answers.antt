-- Another filter changes nothing that is read of spans and lanes.
use Rattle.traced.proofs.Programs.{ready_alike}
use Rattle.example_shop.proofs.refilter.Goals as goal

pub returns : goal.returns
returns c = ready_alike c.requires.ready c.put_in_force.ensures.others c.requires.first c.put_in_force.ensures.sites c.put_in_force.ensures.global
