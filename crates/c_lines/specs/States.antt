-- What each line is, by numbers.
use Rattle.std.specs.Prelude.{ℕ, ◌+◌, ◌*◌, ◌/◌, ◌%◌, ◌^◌, ◌==◌, ◌||◌, Bool, if◌then◌else◌, Option, Some, None}
use Rattle.irig_timekeeper.specs.declared.states.LineState.{LineState}
use Rattle.irig_timekeeper.specs.declared.states.LineState.TheVariants as is
use Rattle.c_lines.specs.declared.masks.IrigMasks.{IrigMasks}
use Rattle.c_lines.specs.declared.masks.States.{States}

-- the states by a number each
abbrev pub number_of : LineState → ℕ
number_of is.Silent = 0
number_of is.Broken = 1
number_of is.Faulty = 2
number_of is.Uneven = 3
number_of is.Poor = 4
number_of is.Unjudged = 5
number_of is.Agreed = 6
number_of is.Apart = 7
number_of is.Differed = 8

-- 1 if a line is there and is so, else 0
abbrev pub bit_of : LineState → Option LineState → ℕ
bit_of state None = 0
bit_of state (Some other) = if number_of state == number_of other then 1 else 0

-- the number whose bit p says whether line p is so
abbrev pub mask_of : LineState → States → ℕ
mask_of state x =
    bit_of state x.a + 2 * bit_of state x.b + 4 * bit_of state x.c + 8 * bit_of state x.d
    + 16 * bit_of state x.e

-- those of each state, of which a frame that is uneven counts as faulty
abbrev pub masks_in : States → IrigMasks
masks_in x = record {
  agreed = mask_of is.Agreed x;
  apart = mask_of is.Apart x;
  differed = mask_of is.Differed x;
  faulty = mask_of is.Faulty x + mask_of is.Uneven x;
  poor = mask_of is.Poor x;
  broken = mask_of is.Broken x;
  silent = mask_of is.Silent x;
  unjudged = mask_of is.Unjudged x;
}

-- by such a number a line is said to be uneven, apart or to differ
abbrev pub is_untrue_number : ℕ → Bool
is_untrue_number number = number == 3 || (number == 7 || number == 8)

-- 1 if a line is one of a mask, else 0
abbrev pub bit_at : (mask line : ℕ) → ℕ
bit_at mask line = (mask / 2 ^ line) % 2
