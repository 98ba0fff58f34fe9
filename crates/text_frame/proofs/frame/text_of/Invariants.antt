use Rattle.std.proofs.Common.{◌≡◌, ℕ, ◌+◌, ◌*◌, ◌/◌, ◌<◌, Some, length, slice_get}
use Rattle.std.specs.Prelude.{option_map}
use Rattle.irig_frame.specs.Symbols.{letter_of}
use Rattle.text_frame.proofs.frame.text_of.Given as goal

abbrev pub invariant-loop-place : goal.invariant-loop-place
invariant-loop-place l = record {
  len : length l.text ≡ 110;
  letters : (i : ℕ) → i < l.place → slice_get l.text (i + i / 10) ≡ option_map letter_of (slice_get l.frame i);
  blanks : (group : ℕ) → group < 9 → slice_get l.text (11 * group + 10) ≡ Some 32;
}
