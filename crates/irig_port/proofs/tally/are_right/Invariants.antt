use Rattle.std.proofs.Common.{◌≡◌, ◌↔◌, take, None, IsTrue}
use Rattle.irig_frame.specs.Faults.{first_wrong}
use Rattle.irig_port.specs.Heard.{symbols_of}
use Rattle.irig_port.proofs.tally.are_right.Given as goal

abbrev pub invariant-loop-element : goal.invariant-loop-element
invariant-loop-element l = IsTrue l.are_right ↔ (first_wrong 0 (symbols_of (take l.element l.widths_us)) ≡ None)
