use Rattle.std.proofs.Common.{◌≡◌, drop}
use Rattle.irig_frame.specs.Encoder.{with_bits}
use Rattle.irig_frame.proofs.encoder.write_bits.Given as goal

abbrev pub invariant-loop-place : goal.invariant-loop-place
invariant-loop-place l = with_bits l.frame (drop l.place-index l.places) l.number ≡ with_bits l.initial.frame l.places l.number
