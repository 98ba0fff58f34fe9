use Rattle.std.proofs.Common.{◌≤◌, drop, length}
use Rattle.c_numbers.specs.CheckWord.{leap_numbers, AreSumsOf}
use Rattle.c_numbers.proofs.check_word.leaps_sums.Given as goal

-- those of the leaps from here on
abbrev pub invariant-loop-left : goal.invariant-loop-left
invariant-loop-left l = record {
  sums : AreSumsOf l.sums (leap_numbers (drop l.left l.leaps));
  left : l.left ≤ length l.leaps;
}

abbrev pub decreases-loop-left : goal.decreases-loop-left
decreases-loop-left l = l.left
