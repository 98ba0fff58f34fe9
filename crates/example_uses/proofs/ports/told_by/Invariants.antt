use Rattle.std.proofs.Common.{take}
use Rattle.irig_port.specs.Heard.{symbols_heard}
use Rattle.example_uses.proofs.ports.told_by.Given as goal

-- the port stands for the pulses so far
abbrev pub invariant-loop-width : goal.invariant-loop-width
invariant-loop-width g l = g.P.Port.stands_for l.port l.fn.rules (symbols_heard (take l.width-index l.widths))
