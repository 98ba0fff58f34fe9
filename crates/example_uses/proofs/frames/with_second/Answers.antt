use Rattle.std.proofs.Common.{refl}
use Rattle.example_uses.proofs.frames.with_second.Goals as goal

pub returns-in-Ok : goal.returns-in-Ok
returns-in-Ok c = (c.in-Ok.coded, (c.in-Ok.ensures.reads c.in-Ok.coded).0 refl, c.encode.ensures.reads)
