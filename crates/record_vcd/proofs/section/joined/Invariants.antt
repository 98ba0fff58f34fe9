use Rattle.std.proofs.Common.{◌≡◌, drop}
use Rattle.record_vcd.specs.Sections.{joined, texts_of}
use Rattle.record_vcd.proofs.section.joined.Given as goal

-- what is left is joined to the name so far
abbrev pub invariant-loop-text : goal.invariant-loop-text
invariant-loop-text l = joined l.name.items (texts_of (drop l.text-index l.others)) ≡ joined l.first (texts_of l.others)
