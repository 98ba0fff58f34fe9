use Rattle.std.proofs.Common.{refl}
use Rattle.irig_timekeeper.specs.Life.{device_of}
use Rattle.irig_timekeeper.proofs.LifeLaws.{begins}
use Rattle.irig_timekeeper.proofs.OrderLaws.{edges_apart}
use Rattle.irig_lives.proofs.laws.edges_lie_apart.Goals as goal

pub returns : goal.returns
returns _ made start before now earlier later beat then order answer answers =
    edges_apart (device_of made) start (begins made.rules made.clock made.table made.lines start made.fresh) refl earlier later before now beat then order answer answers
