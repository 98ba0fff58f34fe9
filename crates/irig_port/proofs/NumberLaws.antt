-- The numbers of a port, after one more symbol and at an edge.
use Rattle.std.proofs.Common.{◌≡◌, ℕ, ◌+◌, ◌-◌, ◌*◌, ◌^◌, ◌<◌, ◌≤◌, ◌%◌, Bool, cond, List, [], ◌∷◌, ◌++◌, length, Option, Some, None, refl, sym, ◌∙◌, arith, inl, inr, length-append}
use Rattle.std.specs.Option.{option_or}
use Rattle.std.specs.Prelude.{◌==◌}
use Rattle.std.proofs.lemmas.Bool.{cases_Bool, cases_lt, eqb-true, lt-ltb}
use Rattle.irig_frame.specs.declared.symbol.Symbol.{Symbol}
use Rattle.irig_frame.specs.declared.layout.Field.{Field}
use Rattle.irig_frame.specs.declared.layout.Field.TheVariants.{Second, Minute, Hour, Day, Year}
use Rattle.irig_frame.specs.declared.fault.FrameFault.{FrameFault}
use Rattle.irig_frame.specs.declared.fault.FrameFault.TheVariants as frame_fault
use Rattle.irig_frame.specs.FieldTable.{units_of, tens_of, hundreds_of, control_places, straight_binary_places}
use Rattle.irig_frame.specs.Values.{is_one, value}
use Rattle.irig_frame.specs.Faults.{element_fault, first_wrong, field_at, values_of}
use Rattle.irig_time.specs.declared.rules.Rules.{Rules}
use Rattle.irig_port.specs.Heard.{with_symbol}
use Rattle.irig_port.specs.declared.told.Told.{Told}
use Rattle.irig_port.specs.Told.{told_of, frame_told, told_unless}
use Rattle.irig_port.specs.Bits.{time_bits, control_bits, bits_at, field_from, values_from, frame_from, IsOf}
use Rattle.irig_port.specs.declared.told.PortFault.TheVariants as fault
use Rattle.irig_port.specs.declared.told.Told.TheVariants as tells
use Rattle.irig_port.specs.declared.tally.Tally.{Tally}
use Rattle.irig_frame.specs.declared.coded.Coded.{Coded}
use Rattle.irig_frame.specs.Decoder.{Reads}
use Rattle.irig_frame.proofs.WritingLaws.{value-append}
use Rattle.irig_frame.proofs.EncodingLaws.{value_of_places}
use Rattle.irig_port.specs.Tallies.{control_word_in, fault_in, tally_told, IsTallyOf}
use Rattle.irig_port.proofs.ToldLaws.{none_told, short_told, long_told, whole_told}
use Rattle.irig_port.proofs.SumLaws.{first_wrong-push}
use Rattle.irig_port.proofs.BitLaws.{doubling, time-push, time-kept, control-push, control-kept, time-digit, control-digit, ones-counted}

-- ---- one more symbol

added-room : (s : List Symbol) (x : Symbol) → length s < 101 → with_symbol s x ≡ s ++ x ∷ []
added-room s x h = grind arith

length-push : (s : List Symbol) (x : Symbol) → length (s ++ x ∷ []) ≡ length s + 1
length-push s x = length-append s (x ∷ [])

-- the bits of the new symbol go into the one number or the other
pub record IsBitAdded (count time control time_after control_after : ℕ) (is_set : Bool) : Type 0 where
  pub low : count < 60 → time_after ≡ (time + cond is_set (2 ^ count) 0) % 18446744073709551616
  pub low_kept : count < 60 → control_after ≡ control
  pub high : 60 ≤ count → control_after ≡ (control + cond is_set (2 ^ (count - 60)) 0) % 18446744073709551616
  pub high_kept : 60 ≤ count → time_after ≡ time

time-after : (s : List Symbol) (x : Symbol) (count time control time_after control_after : ℕ)
    → count ≡ length s → time ≡ time_bits s → IsBitAdded count time control time_after control_after (is_one (Some x)) → time_after ≡ time_bits (s ++ x ∷ [])
time-after s x count time control time_after control_after same before h =
    elim (cases_lt count 60) [
      | inl low ↦
          let own = h.low low in
          let grown = time-push s x (omega (arith, same, low)) in
          cc
      | inr high ↦
          let own = h.high_kept high in
          let kept = time-kept s x (omega (arith, same, high)) in
          cc
    ]

control-after : (s : List Symbol) (x : Symbol) (count time control time_after control_after : ℕ)
    → count ≡ length s → length s < 100 → control ≡ control_bits s → IsBitAdded count time control time_after control_after (is_one (Some x)) → control_after ≡ control_bits (s ++ x ∷ [])
control-after s x count time control time_after control_after same short before h =
    elim (cases_lt count 60) [
      | inl low ↦
          let own = h.low_kept low in
          let kept = control-kept s x (omega (arith, same, low)) in
          cc
      | inr high ↦
          let own = h.high high in
          let grown = control-push s x (count - 60) (omega (arith, same, high)) (omega (arith, same, short)) in
          cc
    ]

pub numbers-push : (count time control time_after control_after : ℕ) (wrong after : Option FrameFault) (s : List Symbol) (x : Symbol)
    → IsOf count time control wrong s → count ≤ 100
    → IsBitAdded count time control time_after control_after (is_one (Some x))
    → (count < 100 → after ≡ option_or wrong (element_fault count x))
    → IsOf (count + 1) time_after control_after after (with_symbol s x)
numbers-push count time control time_after control_after wrong after s x h in_frame bits found =
    rw (added-room s x (omega (arith, h.counted, in_frame))) (record {
      counted = omega (arith, h.counted, length-push s x);
      few = omega (arith, h.counted, in_frame, length-push s x);
      timed = λ short. time-after s x count time control time_after control_after h.counted (h.timed (omega (arith, length-push s x))) bits;
      controlled = λ short. control-after s x count time control time_after control_after h.counted (omega (arith, length-push s x)) (h.controlled (omega (arith, length-push s x))) bits;
      lowest = λ short.
          let lt : count < 100 = omega (arith, h.counted, length-push s x) in
          let same_count : count ≡ length s = h.counted in
          let before : wrong ≡ first_wrong 0 s = h.lowest (omega (arith, length-push s x)) in
          let own : after ≡ option_or wrong (element_fault count x) = found lt in
          let zero : 0 + length s ≡ length s = omega arith in
          let whole = first_wrong-push 0 s x in
          cc;
    })

-- ---- no symbol yet

pub none_yet : IsOf 0 0 0 None []
unfolding time_bits control_bits
none_yet = record { counted = refl; few = omega arith; timed = λ h. refl; controlled = λ h. refl; lowest = λ h. refl }

-- ---- at an edge

field-from : (s : List Symbol) (f : Field) → field_at s f ≡ field_from f (value (units_of f) s) (value (tens_of f) s) (value (hundreds_of f) s)
unfolding field_at
field-from s f = rw (value_of_places f s) refl

one-times : (a b : ℕ) → a ≡ 1 * b → a ≡ b
one-times a b h = omega (arith, h)

units : (s : List Symbol) (p k n : ℕ) → 60 ≡ p + (k + n) → value (doubling p 1 k) s ≡ bits_at (time_bits s) p k
units s p k n total = one-times _ _ (time-digit s p k n 1 total)

-- a field of two digits
two-digits : (s : List Symbol) (f : Field) (p q k : ℕ) → hundreds_of f ≡ [] → units_of f ≡ doubling p 1 4 → tens_of f ≡ doubling q 10 k
    → p ≤ 56 → q + k ≤ 60
    → field_at s f ≡ field_from f (bits_at (time_bits s) p 4) (10 * bits_at (time_bits s) q k) 0
two-digits s f p q k none ones tens low high =
    field-from s f ∙ rw (none, ones, tens, units s p 4 (56 - p) (omega (arith, low)), time-digit s q k (60 - (q + k)) 10 (omega (arith, high))) refl

day-digits : (s : List Symbol) → field_at s Day ≡ field_from Day (bits_at (time_bits s) 30 4) (10 * bits_at (time_bits s) 35 4) (100 * bits_at (time_bits s) 40 2)
day-digits s = field-from s Day ∙ rw (units s 30 4 26 refl, time-digit s 35 4 21 10 refl, time-digit s 40 2 18 100 refl) refl

control-from : (s : List Symbol) → value control_places s ≡ bits_at (control_bits s) 0 9 + 512 * bits_at (control_bits s) 10 9
control-from s = omega (arith, value-append (doubling 60 1 9) (doubling 70 512 9) s, control-digit s 0 9 31 1 refl, control-digit s 10 9 21 512 refl)

sbs-from : (s : List Symbol) → value straight_binary_places s ≡ bits_at (control_bits s) 20 9 + 512 * bits_at (control_bits s) 30 8
sbs-from s = omega (arith, value-append (doubling 80 1 9) (doubling 90 512 8) s, control-digit s 20 9 11 1 refl, control-digit s 30 8 2 512 refl)

values-from : (s : List Symbol) → values_from (time_bits s) (control_bits s) ≡ values_of s
unfolding values_from values_of
values-from s =
    rw (two-digits s Second 1 6 3 refl refl refl (omega arith) (omega arith), two-digits s Minute 10 15 3 refl refl refl (omega arith) (omega arith), two-digits s Hour 20 25 2 refl refl refl (omega arith) (omega arith), day-digits s, two-digits s Year 50 55 4 refl refl refl (omega arith) (omega arith), control-from s, sbs-from s) refl

-- the control bits of a frame
pub word_is_read : (t : Tally) (s : List Symbol) (c : Coded) → IsTallyOf t s → Reads s c → control_word_in t ≡ c.control
word_is_read t s c h reads = rw (h.controlled (omega (arith, reads.len))) (sym (reads.control ∙ control-from s))

-- the parity is looked at if no element is wrong
told-alike : (wrong : Option FrameFault) (a b : Told) → (wrong ≡ None → a ≡ b) → told_unless wrong a ≡ told_unless wrong b
told-alike (Some f) a b h = refl
told-alike None a b h = h refl

frame-from : (rules : Rules) (s : List Symbol) (count time control : ℕ) (wrong : Option FrameFault)
    → IsOf count time control wrong s → length s ≡ 100 → frame_from rules wrong time control ≡ frame_told rules s
unfolding frame_from frame_told
frame-from rules s count time control wrong h full =
    rw (h.lowest (omega arith), h.timed (omega arith), h.controlled (omega arith), values-from s)
    (told-alike (first_wrong 0 s) _ _ (λ right. rw (ones-counted s right) refl))

pub whole_told-from : (rules : Rules) (s : List Symbol) (count time control : ℕ) (wrong : Option FrameFault)
    → IsOf count time control wrong s → length s ≡ 100 → frame_from rules wrong time control ≡ told_of rules s
whole_told-from rules s count time control wrong h full = frame-from rules s count time control wrong h full ∙ sym (whole_told rules s full)

-- what the numbers of some symbols tell is what the symbols tell
pub tally_tells : (rules : Rules) (t : Tally) (s : List Symbol) → IsTallyOf t s → tally_told rules t ≡ told_of rules s
tally_tells rules t s h =
    elim (cases_lt t.count 100) [
      | inl low ↦ elim (cases_Bool (t.count == 0)) [
        | inl none ↦
            let is : t.count ≡ 0 = eqb-true t.count 0 none in
            rw none (sym (none_told rules s (omega (arith, h.counted, is))))
        | inr some ↦
            let is : t.count ≡ 0 → ⊥ = λ e. absurd cc in
            rw (some, lt-ltb t.count 100 low) (sym (short_told rules s t.count h.counted is low))
      ]
      | inr high ↦ elim (cases_lt 100 t.count) [
        | inl long ↦ tally_long rules t long ∙ sym (long_told rules s (omega (arith, h.counted)))
        | inr whole ↦
            let is : t.count ≡ 100 = omega arith in
            tally_whole rules t is ∙ whole_told-from rules s t.count t.time t.control (fault_in t.wrong) h (omega (arith, h.counted))
      ]
    ]
  where
    tally_long : (rules : Rules) (t : Tally) → 100 < t.count → tally_told rules t ≡ tells.Fault (fault.Frame frame_fault.Long)
    tally_long rules t h = grind arith

    tally_whole : (rules : Rules) (t : Tally) → t.count ≡ 100 → tally_told rules t ≡ frame_from rules (fault_in t.wrong) t.time t.control
    tally_whole rules t h = rw h refl
