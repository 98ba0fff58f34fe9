-- What five ports add up to, if one of them is set, and what becomes of a check word that is renewed
-- by the difference.
use Rattle.std.proofs.Common.{◌≡◌, ◌↔◌, ℕ, ◌+◌, ◌-◌, ◌*◌, ◌<◌, ◌%◌, List, length, slice_set, refl, ap, arith, inl, inr}
use Rattle.std.proofs.lemmas.Bool.{cases_eq}
use Rattle.std.proofs.lemmas.List.{get_or-set_same, get_or-set_other}
use Rattle.irig_port.specs.declared.tally.Tally.{Tally}
use Rattle.c_numbers.specs.declared.reader.IrigReader.{IrigReader}
use Rattle.c_numbers.specs.CheckWord.{check_of, port_numbers, tally_numbers, weighted, IsSealed}
use Rattle.c_numbers.specs.Tallies.{no_tally, tally_at}

-- what a port adds
abbrev part : ℕ → List Tally → ℕ → ℕ
part port ports at = weighted (291 + 10 * port) (tally_numbers (tally_at ports at))

other_part : (port at : ℕ) (ports : List Tally) (t : Tally) → (at ≡ port → ⊥) → part at (slice_set ports port t) at ≡ part at ports at
other_part port at ports t apart = ap (λ (x : Tally). weighted (291 + 10 * at) (tally_numbers x)) (get_or-set_other ports port at t no_tally apart)

own_part : (port : ℕ) (ports : List Tally) (t : Tally) → length ports ≡ 5 → port < 5 → part port (slice_set ports port t) port ≡ weighted (291 + 10 * port) (tally_numbers t)
own_part port ports t five here = ap (λ (x : Tally). weighted (291 + 10 * port) (tally_numbers x)) (get_or-set_same ports port t no_tally (omega (arith, five, here)))

all_parts : (ports : List Tally) → weighted 291 (port_numbers ports) ≡ part 0 ports 0 + part 1 ports 1 + part 2 ports 2 + part 3 ports 3 + part 4 ports 4
all_parts ports = omega arith

abbrev IsSet : List Tally → Tally → ℕ → Type 0
IsSet ports t port =
    weighted 291 (port_numbers (slice_set ports port t)) + weighted (291 + 10 * port) (tally_numbers (tally_at ports port))
    ≡ weighted 291 (port_numbers ports) + weighted (291 + 10 * port) (tally_numbers t)

first_set : (ports : List Tally) (t : Tally) → length ports ≡ 5 → IsSet ports t 0
first_set ports t five =
    omega (arith, all_parts ports, all_parts (slice_set ports 0 t), own_part 0 ports t five (omega arith), other_part 0 1 ports t (λ e. omega (arith, e)), other_part 0 2 ports t (λ e. omega (arith, e)), other_part 0 3 ports t (λ e. omega (arith, e)), other_part 0 4 ports t (λ e. omega (arith, e)))

second_set : (ports : List Tally) (t : Tally) → length ports ≡ 5 → IsSet ports t 1
second_set ports t five =
    omega (arith, all_parts ports, all_parts (slice_set ports 1 t), own_part 1 ports t five (omega arith), other_part 1 0 ports t (λ e. omega (arith, e)), other_part 1 2 ports t (λ e. omega (arith, e)), other_part 1 3 ports t (λ e. omega (arith, e)), other_part 1 4 ports t (λ e. omega (arith, e)))

third_set : (ports : List Tally) (t : Tally) → length ports ≡ 5 → IsSet ports t 2
third_set ports t five =
    omega (arith, all_parts ports, all_parts (slice_set ports 2 t), own_part 2 ports t five (omega arith), other_part 2 0 ports t (λ e. omega (arith, e)), other_part 2 1 ports t (λ e. omega (arith, e)), other_part 2 3 ports t (λ e. omega (arith, e)), other_part 2 4 ports t (λ e. omega (arith, e)))

fourth_set : (ports : List Tally) (t : Tally) → length ports ≡ 5 → IsSet ports t 3
fourth_set ports t five =
    omega (arith, all_parts ports, all_parts (slice_set ports 3 t), own_part 3 ports t five (omega arith), other_part 3 0 ports t (λ e. omega (arith, e)), other_part 3 1 ports t (λ e. omega (arith, e)), other_part 3 2 ports t (λ e. omega (arith, e)), other_part 3 4 ports t (λ e. omega (arith, e)))

fifth_set : (ports : List Tally) (t : Tally) → length ports ≡ 5 → IsSet ports t 4
fifth_set ports t five =
    omega (arith, all_parts ports, all_parts (slice_set ports 4 t), own_part 4 ports t five (omega arith), other_part 4 0 ports t (λ e. omega (arith, e)), other_part 4 1 ports t (λ e. omega (arith, e)), other_part 4 2 ports t (λ e. omega (arith, e)), other_part 4 3 ports t (λ e. omega (arith, e)))

-- a port is set: the sum changes by what its part does
pub port_set : (ports : List Tally) (port : ℕ) (t : Tally) → length ports ≡ 5 → port < 5 → IsSet ports t port
port_set ports port t five here =
    elim (cases_eq port 0) [
      | inl e ↦ rw e (first_set ports t five)
      | inr a ↦ elim (cases_eq port 1) [
        | inl e ↦ rw e (second_set ports t five)
        | inr b ↦ elim (cases_eq port 2) [
          | inl e ↦ rw e (third_set ports t five)
          | inr d ↦ elim (cases_eq port 3) [
            | inl e ↦ rw e (fourth_set ports t five)
            | inr f ↦ let e : port ≡ 4 = omega (arith, a, b, d, f) in rw e (fifth_set ports t five)
          ]
        ]
      ]
    ]

-- a check word that is renewed by a difference is right exactly if it was
pub renewed : (check rest before after old new change : ℕ) → new + before ≡ old + after → check < 18446744073709551616
    → (before + change) % 18446744073709551616 ≡ after % 18446744073709551616
    → ((check + change) % 18446744073709551616 ≡ (rest + new) % 18446744073709551616) ↔ (check ≡ (rest + old) % 18446744073709551616)
renewed check rest before after old new change moved fits adds =
    (λ h. omega (arith, moved, fits, adds, h), λ h. omega (arith, moved, fits, adds, h))

-- the check word is no part of what it adds up
without_check : (r : IrigReader) (n : ℕ) → check_of (record r { check = n }) ≡ check_of r
unfolding check_of
without_check r n = refl

-- the same of a reader, if all that changes is taken away and what it is then is added
pub resealed : (r q : IrigReader) (fixed before after : ℕ) → r.check < 18446744073709551616 → before < 18446744073709551616
    → check_of r ≡ (fixed + before) % 18446744073709551616 → check_of q ≡ (fixed + after) % 18446744073709551616 → q.check ≡ r.check
    → IsSealed (record q { check = ((q.check + (18446744073709551616 - before)) % 18446744073709551616 + after) % 18446744073709551616 }) ↔ IsSealed r
resealed r q fixed before after fits small was is kept =
    rw (without_check q (((q.check + (18446744073709551616 - before)) % 18446744073709551616 + after) % 18446744073709551616), was, is, kept)
    (by_numbers r.check fits)
  where
    by_numbers : (check : ℕ) → check < 18446744073709551616
        → (((check + (18446744073709551616 - before)) % 18446744073709551616 + after) % 18446744073709551616 ≡ (fixed + after) % 18446744073709551616)
        ↔ (check ≡ (fixed + before) % 18446744073709551616)
    by_numbers check low = (λ h. omega (arith, low, small, h), λ h. omega (arith, low, small, h))
