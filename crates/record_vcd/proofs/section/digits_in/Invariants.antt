use Rattle.std.proofs.Common.{◌≡◌, ◌+◌, drop}
use Rattle.record_vcd.specs.Sections.{digits_in}
use Rattle.record_vcd.proofs.section.digits_in.Given as goal

-- the digits so far and those of the rest
abbrev pub invariant-loop-at : goal.invariant-loop-at
invariant-loop-at l = digits_in l.word ≡ l.at + digits_in (drop l.at l.word)
