use Rattle.std.proofs.Common.{◌≡◌, ◌+◌, drop}
use Rattle.record_single.specs.Sections.{place_in}
use Rattle.record_single.proofs.section.place_in.Given as goal

-- those so far, and those of the rest
abbrev pub invariant-loop-at : goal.invariant-loop-at
invariant-loop-at l = place_in l.byte l.text ≡ l.at + place_in l.byte (drop l.at l.text)
