-- The numbers of the frame of a value.
use Rattle.std.proofs.Common.{◌≡◌, ℕ, zero, suc, ◌+◌, ◌*◌, ◌/◌, ◌%◌, ◌^◌, ◌<◌, ◌≤◌, Bool, true, false, not, eqb, List, length, Some, None, slice_get, slice_set, refl, sym, zero-add, add-zero, ap, ◌∙◌, arith, subst}
use Rattle.std.proofs.Math.Nat.{mul_assoc, pow-succ'}
use Rattle.irig_frame.specs.declared.symbol.Symbol.{Symbol}
use Rattle.irig_frame.specs.declared.symbol.Symbol.TheVariants.{Zero}
use Rattle.irig_frame.specs.declared.layout.Field.TheVariants.{Second, Minute, Hour, Day, Year}
use Rattle.irig_frame.specs.declared.coded.Coded.{Coded}
use Rattle.irig_frame.specs.Values.{is_one}
use Rattle.irig_frame.specs.Decoder.{IsCoded, Reads}
use Rattle.irig_frame.specs.Faults.{first_wrong}
use Rattle.irig_frame.specs.Encoder.{HasUnusedZeros, frame_of_coded}
use Rattle.irig_frame.proofs.EncodingLaws.{written_reads, written_spare, value_of_places}
use Rattle.irig_frame.proofs.WritingLaws.{value-append}
use Rattle.irig_frame.proofs.ReadingLaws.{none_of}
use Rattle.irig_control.specs.declared.parity.Parity.{Parity}
use Rattle.irig_control.specs.Control.{flag}
use Rattle.irig_control.specs.Parity.{ones, remainder_of, has_parity, data_symbol, with_parity}
use Rattle.irig_control.proofs.ParityKeeps.{reads_kept, spare_kept}
use Rattle.irig_port.specs.Bits.{bits_from, time_bits, control_bits, counted_ones, digit_bits, word_bits, time_number, control_number, IsOf}
use Rattle.irig_port.proofs.BitLaws.{HasRightMarkers, bits-lt, value-doubling, right-markers, doubling, ones-counted}
use Rattle.irig_port.proofs.FrameLaws.{of_right}

-- ---- some elements, and those behind them

split : (k n i : ℕ) (s : List Symbol) → bits_from i (k + n) s ≡ bits_from i k s + 2 ^ k * bits_from (i + k) n s
split zero n i s =
    let there : i + 0 ≡ i = add-zero i in
    rw there (ap (λ (k : ℕ). bits_from i k s) (zero-add n) ∙ omega arith)
split (suc k) n i s =
    let there : i + 1 + k ≡ i + suc k = omega arith in
    let rest : bits_from (i + 1) (k + n) s ≡ bits_from (i + 1) k s + 2 ^ k * bits_from (i + suc k) n s =
    split k n (i + 1) s ∙ ap (λ (j : ℕ). bits_from (i + 1) k s + 2 ^ k * bits_from j n s) there in
    let more : suc k + n ≡ suc (k + n) = omega arith in
    let twice : 2 ^ suc k * bits_from (i + suc k) n s ≡ 2 * (2 ^ k * bits_from (i + suc k) n s) = rw (pow-succ' 2 k) (mul_assoc 2 (2 ^ k) (bits_from (i + suc k) n s)) in
    ap (λ (m : ℕ). bits_from i m s) more ∙ omega (arith, rest, twice)

-- an element that is no one
none-at : (s : List Symbol) (i : ℕ) → is_one (slice_get s i) ≡ false → bits_from i 1 s ≡ 0
none-at s i h = rw h refl

zero-at : (s : List Symbol) (i : ℕ) → slice_get s i ≡ Some Zero → bits_from i 1 s ≡ 0
zero-at s i h = rw h refl

-- ---- numbers by their digits

digits : (n u t h : ℕ) → n ≡ u + 10 * t + 100 * h → u ≤ 9 → t ≤ 9 → digit_bits n ≡ u + 2 ^ 5 * t + 2 ^ 10 * h
digits n u t h whole few less =
    let first : n % 10 ≡ u = omega (arith, whole, few) in
    let second : n / 10 % 10 ≡ t = omega (arith, whole, few, less) in
    let third : n / 100 ≡ h = omega (arith, whole, few, less) in
    omega (arith, first, second, third)

words : (n a b : ℕ) → n ≡ a + 512 * b → a < 512 → word_bits n ≡ a + 2 ^ 10 * b
words n a b whole few =
    let low : n % 512 ≡ a = omega (arith, whole, few) in
    let high : n / 512 ≡ b = omega (arith, whole, few) in
    omega (arith, low, high)

-- ---- field by field

record Unused (s : List Symbol) : Type 0 where
  markers : HasRightMarkers s
  zeros : HasUnusedZeros s

second-bits : (s : List Symbol) (c : Coded) → Reads s c → Unused s → bits_from 0 10 s ≡ 2 * digit_bits c.second
second-bits s c r n =
    let parts : bits_from 0 10 s ≡ bits_from 0 1 s + 2 * bits_from 1 9 s = split 1 9 0 s in
    let units : bits_from 1 9 s ≡ bits_from 1 4 s + 16 * bits_from 5 5 s = split 4 5 1 s in
    let spare : bits_from 5 5 s ≡ bits_from 5 1 s + 2 * bits_from 6 4 s = split 1 4 5 s in
    let tens : bits_from 6 4 s ≡ bits_from 6 3 s + 8 * bits_from 9 1 s = split 3 1 6 s in
    let whole = digits c.second (bits_from 1 4 s) (bits_from 6 3 s) 0
    (omega (arith, r.second, value_of_places Second s, value-doubling 4 1 1 s, value-doubling 3 6 10 s))
    (omega (arith, (r.digits Second).0, value-doubling 4 1 1 s)) (omega (arith, (r.digits Second).1, value-doubling 3 6 10 s)) in
    omega (arith, parts, units, spare, tens, whole, none-at s 0 (n.markers 0 refl), zero-at s 5 (n.zeros 0 0 (omega arith)), none-at s 9 (n.markers 9 refl))

minute-bits : (s : List Symbol) (c : Coded) → Reads s c → Unused s → bits_from 10 10 s ≡ digit_bits c.minute
minute-bits s c r n =
    let units : bits_from 10 10 s ≡ bits_from 10 4 s + 16 * bits_from 14 6 s = split 4 6 10 s in
    let spare : bits_from 14 6 s ≡ bits_from 14 1 s + 2 * bits_from 15 5 s = split 1 5 14 s in
    let tens : bits_from 15 5 s ≡ bits_from 15 3 s + 8 * bits_from 18 2 s = split 3 2 15 s in
    let rest : bits_from 18 2 s ≡ bits_from 18 1 s + 2 * bits_from 19 1 s = split 1 1 18 s in
    let whole = digits c.minute (bits_from 10 4 s) (bits_from 15 3 s) 0
    (omega (arith, r.minute, value_of_places Minute s, value-doubling 4 10 1 s, value-doubling 3 15 10 s))
    (omega (arith, (r.digits Minute).0, value-doubling 4 10 1 s)) (omega (arith, (r.digits Minute).1, value-doubling 3 15 10 s)) in
    omega (arith, units, spare, tens, rest, whole, zero-at s 14 (n.zeros 1 0 (omega arith)), zero-at s 18 (n.zeros 2 0 (omega arith)), none-at s 19 (n.markers 19 refl))

hour-bits : (s : List Symbol) (c : Coded) → Reads s c → Unused s → bits_from 20 10 s ≡ digit_bits c.hour
hour-bits s c r n =
    let units : bits_from 20 10 s ≡ bits_from 20 4 s + 16 * bits_from 24 6 s = split 4 6 20 s in
    let spare : bits_from 24 6 s ≡ bits_from 24 1 s + 2 * bits_from 25 5 s = split 1 5 24 s in
    let tens : bits_from 25 5 s ≡ bits_from 25 2 s + 4 * bits_from 27 3 s = split 2 3 25 s in
    let rest : bits_from 27 3 s ≡ bits_from 27 1 s + 2 * bits_from 28 2 s = split 1 2 27 s in
    let last : bits_from 28 2 s ≡ bits_from 28 1 s + 2 * bits_from 29 1 s = split 1 1 28 s in
    let whole = digits c.hour (bits_from 20 4 s) (bits_from 25 2 s) 0
    (omega (arith, r.hour, value_of_places Hour s, value-doubling 4 20 1 s, value-doubling 2 25 10 s))
    (omega (arith, (r.digits Hour).0, value-doubling 4 20 1 s)) (omega (arith, (r.digits Hour).1, value-doubling 2 25 10 s)) in
    omega (arith, units, spare, tens, rest, last, whole, zero-at s 24 (n.zeros 3 0 (omega arith)), zero-at s 27 (n.zeros 4 0 (omega arith)), zero-at s 28 (n.zeros 5 0 (omega arith)), none-at s 29 (n.markers 29 refl))

-- behind the hundreds of the day
day-end : (s : List Symbol) → Unused s → bits_from 42 8 s ≡ 0
day-end s n =
    let a : bits_from 42 8 s ≡ bits_from 42 1 s + 2 * bits_from 43 7 s = split 1 7 42 s in
    let b : bits_from 43 7 s ≡ bits_from 43 1 s + 2 * bits_from 44 6 s = split 1 6 43 s in
    let d : bits_from 44 6 s ≡ bits_from 44 1 s + 2 * bits_from 45 5 s = split 1 5 44 s in
    let e : bits_from 45 5 s ≡ bits_from 45 1 s + 2 * bits_from 46 4 s = split 1 4 45 s in
    let f : bits_from 46 4 s ≡ bits_from 46 1 s + 2 * bits_from 47 3 s = split 1 3 46 s in
    let g : bits_from 47 3 s ≡ bits_from 47 1 s + 2 * bits_from 48 2 s = split 1 2 47 s in
    let h : bits_from 48 2 s ≡ bits_from 48 1 s + 2 * bits_from 49 1 s = split 1 1 48 s in
    omega (arith, a, b, d, e, f, g, h, zero-at s 42 (n.zeros 7 0 (omega arith)), zero-at s 43 (n.zeros 8 0 (omega arith)), zero-at s 44 (n.zeros 9 0 (omega arith)), zero-at s 45 (n.zeros 10 0 (omega arith)), zero-at s 46 (n.zeros 11 0 (omega arith)), zero-at s 47 (n.zeros 12 0 (omega arith)), zero-at s 48 (n.zeros 13 0 (omega arith)), none-at s 49 (n.markers 49 refl))

day-bits : (s : List Symbol) (c : Coded) → Reads s c → Unused s → bits_from 30 20 s ≡ digit_bits c.day
day-bits s c r n =
    let units : bits_from 30 20 s ≡ bits_from 30 4 s + 16 * bits_from 34 16 s = split 4 16 30 s in
    let spare : bits_from 34 16 s ≡ bits_from 34 1 s + 2 * bits_from 35 15 s = split 1 15 34 s in
    let tens : bits_from 35 15 s ≡ bits_from 35 4 s + 16 * bits_from 39 11 s = split 4 11 35 s in
    let marker : bits_from 39 11 s ≡ bits_from 39 1 s + 2 * bits_from 40 10 s = split 1 10 39 s in
    let hundreds : bits_from 40 10 s ≡ bits_from 40 2 s + 4 * bits_from 42 8 s = split 2 8 40 s in
    let whole = digits c.day (bits_from 30 4 s) (bits_from 35 4 s) (bits_from 40 2 s)
    (omega (arith, r.day, value_of_places Day s, value-doubling 4 30 1 s, value-doubling 4 35 10 s, value-doubling 2 40 100 s))
    (omega (arith, (r.digits Day).0, value-doubling 4 30 1 s)) (omega (arith, (r.digits Day).1, value-doubling 4 35 10 s)) in
    omega (arith, units, spare, tens, marker, hundreds, whole, day-end s n, zero-at s 34 (n.zeros 6 0 (omega arith)), none-at s 39 (n.markers 39 refl))

year-bits : (s : List Symbol) (c : Coded) → Reads s c → Unused s → bits_from 50 10 s ≡ digit_bits c.year
year-bits s c r n =
    let units : bits_from 50 10 s ≡ bits_from 50 4 s + 16 * bits_from 54 6 s = split 4 6 50 s in
    let spare : bits_from 54 6 s ≡ bits_from 54 1 s + 2 * bits_from 55 5 s = split 1 5 54 s in
    let tens : bits_from 55 5 s ≡ bits_from 55 4 s + 16 * bits_from 59 1 s = split 4 1 55 s in
    let whole = digits c.year (bits_from 50 4 s) (bits_from 55 4 s) 0
    (omega (arith, r.year, value_of_places Year s, value-doubling 4 50 1 s, value-doubling 4 55 10 s))
    (omega (arith, (r.digits Year).0, value-doubling 4 50 1 s)) (omega (arith, (r.digits Year).1, value-doubling 4 55 10 s)) in
    omega (arith, units, spare, tens, whole, zero-at s 54 (n.zeros 14 0 (omega arith)), none-at s 59 (n.markers 59 refl))

time-is : (s : List Symbol) (c : Coded) → Reads s c → Unused s → bits_from 0 60 s ≡ time_number c
time-is s c r n =
    let a : bits_from 0 60 s ≡ bits_from 0 10 s + 2 ^ 10 * bits_from 10 50 s = split 10 50 0 s in
    let b : bits_from 10 50 s ≡ bits_from 10 10 s + 2 ^ 10 * bits_from 20 40 s = split 10 40 10 s in
    let d : bits_from 20 40 s ≡ bits_from 20 10 s + 2 ^ 10 * bits_from 30 30 s = split 10 30 20 s in
    let e : bits_from 30 30 s ≡ bits_from 30 20 s + 2 ^ 20 * bits_from 50 10 s = split 20 10 30 s in
    omega (arith, a, b, d, e, second-bits s c r n, minute-bits s c r n, hour-bits s c r n, day-bits s c r n, year-bits s c r n)

control-bits : (s : List Symbol) (c : Coded) → Reads s c → Unused s → bits_from 60 20 s ≡ word_bits c.control
control-bits s c r n =
    let low : bits_from 60 20 s ≡ bits_from 60 9 s + 2 ^ 9 * bits_from 69 11 s = split 9 11 60 s in
    let marker : bits_from 69 11 s ≡ bits_from 69 1 s + 2 * bits_from 70 10 s = split 1 10 69 s in
    let high : bits_from 70 10 s ≡ bits_from 70 9 s + 2 ^ 9 * bits_from 79 1 s = split 9 1 70 s in
    let whole = words c.control (bits_from 60 9 s) (bits_from 70 9 s)
    (omega (arith, r.control, value-append (doubling 60 1 9) (doubling 70 512 9) s, value-doubling 9 60 1 s, value-doubling 9 70 512 s))
    (omega (arith, bits-lt 60 9 s)) in
    omega (arith, low, marker, high, whole, none-at s 69 (n.markers 69 refl), none-at s 79 (n.markers 79 refl))

sbs-bits : (s : List Symbol) (c : Coded) → Reads s c → Unused s → bits_from 80 20 s ≡ word_bits c.sbs
sbs-bits s c r n =
    let low : bits_from 80 20 s ≡ bits_from 80 9 s + 2 ^ 9 * bits_from 89 11 s = split 9 11 80 s in
    let marker : bits_from 89 11 s ≡ bits_from 89 1 s + 2 * bits_from 90 10 s = split 1 10 89 s in
    let high : bits_from 90 10 s ≡ bits_from 90 8 s + 2 ^ 8 * bits_from 98 2 s = split 8 2 90 s in
    let rest : bits_from 98 2 s ≡ bits_from 98 1 s + 2 * bits_from 99 1 s = split 1 1 98 s in
    let whole = words c.sbs (bits_from 80 9 s) (bits_from 90 8 s)
    (omega (arith, r.sbs, value-append (doubling 80 1 9) (doubling 90 512 8) s, value-doubling 9 80 1 s, value-doubling 8 90 512 s))
    (omega (arith, bits-lt 80 9 s)) in
    omega (arith, low, marker, high, rest, whole, none-at s 89 (n.markers 89 refl), zero-at s 98 (n.zeros 15 0 (omega arith)), none-at s 99 (n.markers 99 refl))

control-is : (s : List Symbol) (c : Coded) → Reads s c → Unused s → bits_from 60 40 s ≡ control_number c
control-is s c r n =
    let parts : bits_from 60 40 s ≡ bits_from 60 20 s + 2 ^ 20 * bits_from 80 20 s = split 20 20 60 s in
    omega (arith, parts, control-bits s c r n, sbs-bits s c r n)

-- ---- with the parity

-- the numbers of what reads as a value
record HasNumbers (s : List Symbol) (time control : ℕ) : Type 0 where
  whole : length s ≡ 100
  right : first_wrong 0 s ≡ None
  timed : bits_from 0 60 s ≡ time
  controlled : bits_from 60 40 s ≡ control

reads-numbers : (s : List Symbol) (c : Coded) → Reads s c → HasUnusedZeros s → HasNumbers s (time_number c) (control_number c)
reads-numbers s c r zeros =
    let right = none_of s c r in
    let n : Unused s = record { markers = right-markers s right; zeros = zeros } in
    record { whole = r.len; right = right; timed = time-is s c r n; controlled = control-is s c r n }

-- the parity's bit is the 15th of the number
one-more : (c : Coded) (b : Bool) → c.control < 2 ^ 14 → control_number (record c { control = c.control + 2 ^ 14 * flag b }) ≡ control_number c + 2 ^ 15 * flag b
one-more c b small = omega (arith, small)

set-numbers : (c : Coded) (b : Bool) → IsCoded c → c.control < 2 ^ 14 → HasNumbers (slice_set (frame_of_coded c) 75 (data_symbol b)) (time_number c) (control_number c + 2 ^ 15 * flag b)
set-numbers c b fits small =
    let s = frame_of_coded c in
    let n = reads-numbers (slice_set s 75 (data_symbol b)) (record c { control = c.control + 2 ^ 14 * flag b }) (reads_kept s b c (written_reads c fits) small) (spare_kept s b (written_spare c)) in
    record { whole = n.whole; right = n.right; timed = n.timed; controlled = n.controlled ∙ one-more c b small }

-- what the parity counts of the frame with a 0 for its bit
zero-counted : (p : Parity) (c : Coded) → IsCoded c → c.control < 2 ^ 14
    → has_parity p (slice_set (frame_of_coded c) 75 Zero) ≡ eqb (counted_ones (time_number c) (control_number c) % 2) (remainder_of p)
unfolding time_bits control_bits
zero-counted p c fits small =
    let n = set-numbers c false fits small in
    let counted = ones-counted (slice_set (frame_of_coded c) 75 Zero) n.right in
    let control : bits_from 60 40 (slice_set (frame_of_coded c) 75 Zero) ≡ control_number c = omega (arith, n.controlled) in
    let same : counted_ones (time_number c) (control_number c) ≡ ones (slice_set (frame_of_coded c) 75 Zero) = rw (sym n.timed, sym control) counted in
    ap (λ (k : ℕ). eqb (k % 2) (remainder_of p)) (sym same)

pub numbers_of_value : (p : Parity) (c : Coded) (b : Bool) (control : ℕ) → IsCoded c → c.control < 2 ^ 14
    → eqb (counted_ones (time_number c) (control_number c) % 2) (remainder_of p) ≡ not b
    → control ≡ control_number c + 2 ^ 15 * flag b → IsOf 100 (time_number c) control None (with_parity p (frame_of_coded c))
numbers_of_value p c b control fits small test is =
    let n = set-numbers c b fits small in
    let own : with_parity p (frame_of_coded c) ≡ slice_set (frame_of_coded c) 75 (data_symbol b) =
    ap (λ (x : Bool). slice_set (frame_of_coded c) 75 (data_symbol (not x))) (zero-counted p c fits small ∙ test) ∙ twice b in
    subst (λ (s : List Symbol). IsOf 100 (time_number c) control None s) (sym own)
    (of_right (slice_set (frame_of_coded c) 75 (data_symbol b)) 100 (time_number c) control None n.whole (omega arith) (omega arith) n.right refl (sym n.timed) (is ∙ sym n.controlled))
  where
    twice : (x : Bool) → slice_set (frame_of_coded c) 75 (data_symbol (not (not x))) ≡ slice_set (frame_of_coded c) 75 (data_symbol x)
    twice true = refl
    twice false = refl
