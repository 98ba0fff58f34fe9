use Rattle.std.proofs.Common.{◌≡◌, drop}
use Rattle.irig_frame.specs.Faults.{first_wrong}
use Rattle.irig_frame.proofs.decoder.lowest_fault.Given as goal

-- what is left decides
abbrev pub invariant-loop-element : goal.invariant-loop-element
invariant-loop-element l = first_wrong l.element (drop l.element l.frame) ≡ first_wrong 0 l.frame
