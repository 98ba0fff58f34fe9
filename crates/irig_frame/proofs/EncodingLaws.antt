-- The frame that is written for some values reads as these values.
use Rattle.std.proofs.Common.{◌≡◌, ℕ, ◌+◌, ◌-◌, ◌%◌, ◌≤◌, ◌<◌, List, ◌++◌, length, map, slice_get, refl, sym, ap, zero-add, ◌∙◌, arith, All, Some}
use Rattle.std.specs.List.{range_with_len}
use Rattle.std.proofs.lemmas.List.Elements.{All-from_recursion}
use Rattle.std.proofs.lemmas.List.FromFn.{length-map-range_with_len, get_or-map-range_with_len}
use Rattle.std.proofs.lemmas.Option.{slice_get-get_or}
use Rattle.irig_frame.specs.declared.symbol.Symbol.{Symbol}
use Rattle.irig_frame.specs.declared.symbol.Symbol.TheVariants.{Zero}
use Rattle.irig_frame.specs.declared.layout.Field.{Field}
use Rattle.irig_frame.specs.declared.layout.Field.TheVariants.{Second, Minute, Hour, Day, Year}
use Rattle.irig_frame.specs.declared.coded.Coded.{Coded}
use Rattle.irig_frame.specs.FieldTable.{units_of, tens_of, hundreds_of, places_of, control_places, straight_binary_places, spare_places}
use Rattle.irig_frame.specs.Values.{value}
use Rattle.irig_frame.specs.Decoder.{most, IsRight, HasDigits, Reads, IsCoded}
use Rattle.irig_frame.specs.Encoder.{with_parts, parts_of, blank_at, IsBlank, blank_frame, frame_of_coded}
use Rattle.irig_frame.proofs.ReadingLaws.{each}
use Rattle.irig_frame.proofs.WritingLaws.{value-append, bits, bits_sum, HoldParts, hold_parts, length-with_parts, right_parts, right_blank, spare_zero}

pub value_of_places : (f : Field) (s : List Symbol) → value (places_of f) s ≡ value (units_of f) s + value (tens_of f) s + value (hundreds_of f) s
value_of_places f s = omega (arith, value-append (units_of f ++ tens_of f) (hundreds_of f) s, value-append (units_of f) (tens_of f) s)

units_bits : (f : Field) (n : ℕ) → n < 10 → bits (units_of f) n ≡ n
units_bits Second n h = omega (arith, bits_sum 1 (units_of Second) n (omega arith) refl)
units_bits Minute n h = omega (arith, bits_sum 1 (units_of Minute) n (omega arith) refl)
units_bits Hour n h = omega (arith, bits_sum 1 (units_of Hour) n (omega arith) refl)
units_bits Day n h = omega (arith, bits_sum 1 (units_of Day) n (omega arith) refl)
units_bits Year n h = omega (arith, bits_sum 1 (units_of Year) n (omega arith) refl)

tens_bits : (f : Field) (n : ℕ) → n ≤ most f → bits (tens_of f) (n % 100 - n % 10) ≡ n % 100 - n % 10
tens_bits Second n h = omega (arith, bits_sum 10 (tens_of Second) (n % 100 - n % 10) (omega arith) refl)
tens_bits Minute n h = omega (arith, bits_sum 10 (tens_of Minute) (n % 100 - n % 10) (omega arith) refl)
tens_bits Hour n h = omega (arith, bits_sum 10 (tens_of Hour) (n % 100 - n % 10) (omega arith) refl)
tens_bits Day n h = omega (arith, bits_sum 10 (tens_of Day) (n % 100 - n % 10) (omega arith) refl)
tens_bits Year n h = omega (arith, bits_sum 10 (tens_of Year) (n % 100 - n % 10) (omega arith) refl)

hundreds_bits : (f : Field) (n : ℕ) → n ≤ most f → bits (hundreds_of f) (n - n % 100) ≡ n - n % 100
hundreds_bits Second n h = omega arith
hundreds_bits Minute n h = omega arith
hundreds_bits Hour n h = omega arith
hundreds_bits Day n h = omega (arith, bits_sum 100 (hundreds_of Day) (n - n % 100) (omega arith) refl)
hundreds_bits Year n h = omega arith

record Holds (f : Field) (n : ℕ) (s : List Symbol) : Type 0 where
  digits : HasDigits s f
  whole : value (places_of f) s ≡ n

holds : (f : Field) (n : ℕ) (s : List Symbol) → n ≤ most f → value (units_of f) s ≡ bits (units_of f) (n % 10) → value (tens_of f) s ≡ bits (tens_of f) (n % 100 - n % 10) → value (hundreds_of f) s ≡ bits (hundreds_of f) (n - n % 100) → Holds f n s
holds f n s h u t k =
    let u' : value (units_of f) s ≡ n % 10 = u ∙ units_bits f (n % 10) (omega arith) in
    let t' : value (tens_of f) s ≡ n % 100 - n % 10 = t ∙ tens_bits f n h in
    let k' : value (hundreds_of f) s ≡ n - n % 100 = k ∙ hundreds_bits f n h in
    record { digits = (omega (arith, u'), omega (arith, t')); whole = omega (arith, value_of_places f s, u', t', k') }

pub frame_reads : (c : Coded) (s : List Symbol) → IsCoded c → IsBlank s → Reads (with_parts s (parts_of c)) c
frame_reads c s fits blank =
    let ps = parts_of c in
    let t = with_parts s ps in
    let h : HoldParts t ps = hold_parts ps s refl (omega (arith, blank.0)) in
    let len : length t ≡ 100 = length-with_parts ps s ∙ blank.0 in
    let right = right_parts ps s refl (right_blank s blank) in
    let second = holds Second c.second t fits.second h.0 h.1.0 h.1.1.0 in
    let m = h.1.1.1 in
    let minute = holds Minute c.minute t fits.minute m.0 m.1.0 m.1.1.0 in
    let o = m.1.1.1 in
    let hour = holds Hour c.hour t fits.hour o.0 o.1.0 o.1.1.0 in
    let d = o.1.1.1 in
    let day = holds Day c.day t fits.day.1 d.0 d.1.0 d.1.1.0 in
    let y = d.1.1.1 in
    let year = holds Year c.year t fits.year y.0 y.1.0 y.1.1.0 in
    let b = y.1.1.1 in
    let elements : (i : ℕ) → i < 100 → IsRight i (slice_get t i) = λ i lt. right i (omega (arith, len)) in
    record {
      len = len;
      elements = elements;
      digits = each _ second.digits minute.digits hour.digits day.digits year.digits;
      ranges = each _ (omega (arith, second.whole), omega (arith, fits.second, second.whole)) (omega arith, omega (arith, fits.minute, minute.whole)) (omega arith, omega (arith, fits.hour, hour.whole)) (omega (arith, fits.day.0, day.whole), omega (arith, fits.day.1, day.whole)) (omega arith, omega (arith, fits.year, year.whole));
      second = sym second.whole;
      minute = sym minute.whole;
      hour = sym hour.whole;
      day = sym day.whole;
      year = sym year.whole;
      control = omega (arith, b.0, fits.control, bits_sum 1 control_places c.control (omega arith) refl);
      sbs = omega (arith, b.1.0, fits.sbs, bits_sum 1 straight_binary_places c.sbs (omega arith) refl);
    }

pub frame_spare : (c : Coded) (s : List Symbol) → IsBlank s → All (λ i. slice_get (with_parts s (parts_of c)) i ≡ Some Zero) spare_places
frame_spare c s blank = All-from_recursion (λ i. slice_get (with_parts s (parts_of c)) i ≡ Some Zero) spare_places (spare_zero spare_places (parts_of c) s blank refl)

-- ---- the frame as a function

blank_there : (n i : ℕ) → i < n → slice_get (map blank_at (range_with_len 0 n)) i ≡ Some (blank_at i)
blank_there n i low =
    let markers = map blank_at (range_with_len 0 n) in
    slice_get-get_or markers i Zero (omega (arith, length-map-range_with_len blank_at 0 n))
    ∙ ap (λ (x : Symbol). Some x) (get_or-map-range_with_len blank_at 0 n i i Zero low (zero-add i))

blank_is : IsBlank blank_frame
blank_is = (length-map-range_with_len blank_at 0 100, blank_there 100)

pub written_reads : (c : Coded) → IsCoded c → Reads (frame_of_coded c) c
unfolding frame_of_coded
written_reads c fits = frame_reads c blank_frame fits blank_is

pub written_spare : (c : Coded) → All (λ i. slice_get (frame_of_coded c) i ≡ Some Zero) spare_places
unfolding frame_of_coded
written_spare c = frame_spare c blank_frame blank_is
