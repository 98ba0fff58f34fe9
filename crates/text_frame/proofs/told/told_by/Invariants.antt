use Rattle.std.proofs.Common.{take}
use Rattle.irig_port.specs.Numbers.{Numbers}
use Rattle.text_frame.proofs.told.told_by.Given as goal

-- the port stands for the symbols so far
abbrev pub invariant-loop-symbol : goal.invariant-loop-symbol
invariant-loop-symbol l = Numbers l.port l.fn.rules (take l.symbol-index l.symbols)
