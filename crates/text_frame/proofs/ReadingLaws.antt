-- Numbers with zeros in front, and symbols past the 101st.
use Rattle.std.proofs.Common.{◌≡◌, ℕ, ◌-◌, ◌<◌, ◌^◌, false, List, [], ◌++◌, length, take, inl, inr, Err, append-nil, refl, sym, ap, ◌∙◌, arith}
use Rattle.std.specs.Prelude.{replicate}
use Rattle.std.specs.Fmt.{decimal, padded_integral, format_spec, styled_decimal, char_count}
use Rattle.std.proofs.lemmas.Bool.{cases_lt, le-ltb, lt-ltb}
use Rattle.std.proofs.lemmas.List.{length-take-le, take_all}
use Rattle.irig_frame.specs.declared.symbol.Symbol.{Symbol}
use Rattle.irig_frame.specs.Faults.{decode_result}
use Rattle.irig_time.specs.declared.rules.Rules.{Rules}
use Rattle.irig_frame.specs.declared.fault.FrameFault.TheVariants.{Long}
use Rattle.irig_port.specs.declared.told.PortFault.TheVariants as fault
use Rattle.irig_port.specs.declared.told.Told.TheVariants.{Fault}
use Rattle.irig_port.proofs.ToldLaws.{long_told}
use Rattle.text_frame.specs.Reading.{with_zeros, reading_text, told_line}

-- what a format with zeros in front writes
pub zeros_in_front : (digits n : ℕ) → padded_integral (format_spec 32 0 4 digits (2 ^ 64 - 1)) false [] (decimal n) ≡ with_zeros digits n
unfolding padded_integral char_count
zeros_in_front digits n =
    let short : digits - length (decimal n) - 0 - 0 ≡ digits - length (decimal n) = omega arith in
    ap (λ k. replicate k 48 ++ (decimal n ++ [])) short ∙ ap (λ s. replicate (digits - length (decimal n)) 48 ++ s) (append-nil (decimal n))

pub two_digits : (n : ℕ) → styled_decimal (format_spec 32 0 4 2 (2 ^ 64 - 1)) n ≡ with_zeros 2 n
two_digits n = zeros_in_front 2 n

pub three_digits : (n : ℕ) → styled_decimal (format_spec 32 0 4 3 (2 ^ 64 - 1)) n ≡ with_zeros 3 n
three_digits n = zeros_in_front 3 n

-- the faults of the length come first, and 101 symbols are too many already
too_many : (rules : Rules) (s : List Symbol) → 100 < length s → reading_text rules s ≡ told_line (Fault (fault.Frame Long))
unfolding decode_result
too_many rules s long =
    let decoded : decode_result s ≡ Err Long = rw (le-ltb (length s) 100 (omega arith), lt-ltb 100 (length s) long) refl in
    rw (decoded, long_told rules s long) refl

pub cut_reading : (rules : Rules) (symbols : List Symbol) → reading_text rules (take 101 symbols) ≡ reading_text rules symbols
cut_reading rules s = elim (cases_lt 101 (length s)) [
  | inl more ↦ too_many rules (take 101 s) (omega (arith, length-take-le 101 s (omega arith))) ∙ sym (too_many rules s (omega arith))
  | inr few ↦ ap (reading_text rules) (take_all 101 s (omega arith))
]
