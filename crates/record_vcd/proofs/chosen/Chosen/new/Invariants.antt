use Rattle.std.proofs.Common.{◌≡◌, take, vec_len}
use Rattle.record_vcd.specs.Meanings.{codes_at, codes_of}
use Rattle.record_vcd.proofs.chosen.Chosen.new.Given as goal

-- those of the places so far
abbrev pub invariant-loop-place : goal.invariant-loop-place
invariant-loop-place l = (vec_len l.chosen ≡ l.place-index) × (codes_of l.chosen.items ≡ codes_at l.wires (take l.place-index l.places))
