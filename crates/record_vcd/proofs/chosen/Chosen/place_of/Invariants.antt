use Rattle.std.proofs.Common.{◌≡◌, drop}
use Rattle.record_vcd.specs.Meanings.{codes_of, place_from}
use Rattle.record_vcd.proofs.chosen.Chosen.place_of.Given as goal

-- what is left decides
abbrev pub invariant-loop-place : goal.invariant-loop-place
invariant-loop-place l = place_from l.place (codes_of (drop l.place l.self.wires.items)) l.code ≡ place_from 0 (codes_of l.self.wires.items) l.code
