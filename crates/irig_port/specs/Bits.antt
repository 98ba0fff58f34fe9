-- The numbers that a port keeps of its symbols, and what they say.
-- Source: IRIG Standard 200-16, format B, code B004: the bits of a digit stand one after another.
use Rattle.std.specs.Prelude.{◌≡◌, ℕ, zero, suc, ◌+◌, ◌*◌, ◌/◌, ◌%◌, ◌^◌, ◌≤◌, ◌==◌, nat_lt, count_ones, if◌then◌else◌, List, length, slice_get, Option, Result, Ok, Err}
use Rattle.irig_frame.specs.declared.symbol.Symbol.{Symbol}
use Rattle.irig_frame.specs.declared.layout.Field.{Field}
use Rattle.irig_frame.specs.declared.layout.Field.TheVariants.{Second, Minute, Hour, Day, Year}
use Rattle.irig_frame.specs.declared.coded.Coded.{Coded}
use Rattle.irig_frame.specs.declared.fault.FrameFault.{FrameFault}
use Rattle.irig_frame.specs.declared.fault.FrameFault.TheVariants as frame_fault
use Rattle.irig_frame.specs.Values.{is_one}
use Rattle.irig_frame.specs.Decoder.{least, most}
use Rattle.irig_frame.specs.Faults.{◌>>=◌, first_wrong}
use Rattle.irig_control.specs.Parity.{remainder_of}
use Rattle.irig_time.specs.declared.rules.Rules.{Rules}
use Rattle.irig_port.specs.declared.told.PortFault.TheVariants as fault
use Rattle.irig_port.specs.declared.told.Told.{Told}
use Rattle.irig_port.specs.declared.told.Told.TheVariants as tells
use Rattle.irig_port.specs.Told.{values_told, told_unless}

-- the number whose bit k says whether element i + k is a one, of n elements from i on
abbrev pub bits_from : ℕ → ℕ → List Symbol → ℕ
bits_from i zero s = 0
bits_from i (suc n) s =
    (if is_one (slice_get s i) then 1 else 0) + 2 * bits_from (i + 1) n s

-- the elements 0 to 59: the time of day, the day and the year
unfoldable pub time_bits : List Symbol → ℕ
time_bits s = bits_from 0 60 s

-- the elements 60 to 99: the control bits and the straight binary seconds
unfoldable pub control_bits : List Symbol → ℕ
control_bits s = bits_from 60 40 s

-- k bits of a number, from bit p on
abbrev pub bits_at : ℕ → ℕ → ℕ → ℕ
bits_at number p k = number / 2 ^ p % 2 ^ k

-- the decimal digits of a number below 1000, each five bits after the one before: so those of a
-- field stand from its first element on
abbrev pub digit_bits : ℕ → ℕ
digit_bits n = n % 10 + 2 ^ 5 * (n / 10 % 10) + 2 ^ 10 * (n / 100)

-- the elements 0 to 59 of the frame of a value
abbrev pub time_number : Coded → ℕ
time_number c =
    2 * digit_bits c.second + 2 ^ 10 * digit_bits c.minute + 2 ^ 20 * digit_bits c.hour
    + 2 ^ 30 * digit_bits c.day + 2 ^ 50 * digit_bits c.year

-- nine bits of a number, a marker's place, and the others
abbrev pub word_bits : ℕ → ℕ
word_bits n = n % 2 ^ 9 + 2 ^ 10 * (n / 2 ^ 9)

-- the elements 60 to 99 of the frame of a value
abbrev pub control_number : Coded → ℕ
control_number c = word_bits c.control + 2 ^ 20 * word_bits c.sbs

-- how many ones the parity counts of a frame without a wrong element: those at the elements 0 to 75,
-- as no marker is a one
abbrev pub counted_ones : ℕ → ℕ → ℕ
counted_ones time control = count_ones time + count_ones (control % 2 ^ 16)

-- the value of a field with these digits, or its fault
abbrev pub field_from : Field → ℕ → ℕ → ℕ → Result ℕ FrameFault
field_from f units tens hundreds =
    if nat_lt 9 units then Err (frame_fault.Digit f)
    else (if nat_lt 90 tens then Err (frame_fault.Digit f)
    else (if nat_lt (units + tens + hundreds) (least f) then Err (frame_fault.Range f)
    else (if nat_lt (most f) (units + tens + hundreds) then Err (frame_fault.Range f)
    else Ok (units + tens + hundreds))))

-- the values that these bits say, or the fault of the first wrong field
unfoldable pub values_from : ℕ → ℕ → Result Coded FrameFault
values_from time control = do
  second ← field_from Second (bits_at time 1 4) (10 * bits_at time 6 3) 0
  minute ← field_from Minute (bits_at time 10 4) (10 * bits_at time 15 3) 0
  hour ← field_from Hour (bits_at time 20 4) (10 * bits_at time 25 2) 0
  day ← field_from Day (bits_at time 30 4) (10 * bits_at time 35 4) (100 * bits_at time 40 2)
  year ← field_from Year (bits_at time 50 4) (10 * bits_at time 55 4) 0
  Ok (record {
    second = second;
    minute = minute;
    hour = hour;
    day = day;
    year = year;
    control = bits_at control 0 9 + 512 * bits_at control 10 9;
    sbs = bits_at control 20 9 + 512 * bits_at control 30 8;
  })

-- what 100 symbols with these numbers tell
unfoldable pub frame_from : Rules → Option FrameFault → ℕ → ℕ → Told
frame_from rules wrong time control =
    told_unless wrong
    (if counted_ones time control % 2 == remainder_of rules.parity
    then values_told rules (values_from time control)
    else tells.Fault fault.Parity)

-- the numbers of some symbols; past 100 nothing counts but how many there are
pub record IsOf (count time control : ℕ) (wrong : Option FrameFault) (s : List Symbol) : Type 0 where
  pub counted : count ≡ length s
  pub few : length s ≤ 101
  pub timed : length s ≤ 100 → time ≡ time_bits s
  pub controlled : length s ≤ 100 → control ≡ control_bits s
  pub lowest : length s ≤ 100 → wrong ≡ first_wrong 0 s
