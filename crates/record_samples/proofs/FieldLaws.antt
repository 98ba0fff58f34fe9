-- The fields of a line, and those that stand before one of them.
use Rattle.std.proofs.Common.{◌≡◌, ℕ, zero, suc, ◌+◌, ◌-◌, ◌<◌, ◌≤◌, if◌then◌else◌, List, [], ◌∷◌, length, drop, true, false, nat_eq, refl, ap, sym, ◌∙◌, arith}
use Rattle.record_text.specs.Fields.{after_comma, comma_in}
use Rattle.record_samples.specs.Rows.{fields_in, from_field}

pub fields_few : (text : List ℕ) → fields_in text ≤ length text + 1
fields_few [] = omega arith
fields_few (b ∷ bs) =
    let h : fields_in bs ≤ length bs + 1 = fields_few bs in
    elim (nat_eq b 44) as (λ v. (if v then fields_in bs + 1 else fields_in bs) ≤ suc (length bs) + 1) [
      | true ↦ omega (arith, h)
      | false ↦ omega (arith, h)
    ]

-- a comma has a field more after it
pub fields_step : (line : List ℕ) → comma_in line < length line → fields_in line ≡ fields_in (after_comma line) + 1
fields_step [] h = absurd (omega (arith, h))
fields_step (c ∷ cs) h =
    (elim (nat_eq c 44) as (λ v. (if v then 0 else comma_in cs + 1) < suc (length cs)
    → (if v then fields_in cs + 1 else fields_in cs) ≡ fields_in (drop ((if v then 0 else comma_in cs + 1) + 1) (c ∷ cs)) + 1) [
      | true ↦ λ h. refl
      | false ↦ λ h.
          let e : (comma_in cs + 1) + 1 ≡ suc (comma_in cs + 1) = omega arith in
          fields_step cs (omega (arith, h)) ∙ ap (λ n. fields_in (drop n (c ∷ cs)) + 1) (sym e)
    ]) h

-- a line without one has one field
pub fields_one : (line : List ℕ) → length line ≤ comma_in line → fields_in line ≡ 1
fields_one [] h = refl
fields_one (c ∷ cs) h =
    (elim (nat_eq c 44) as (λ v. suc (length cs) ≤ (if v then 0 else comma_in cs + 1) → (if v then fields_in cs + 1 else fields_in cs) ≡ 1) [
      | true ↦ λ h. absurd (omega (arith, h))
      | false ↦ λ h. fields_one cs (omega (arith, h))
    ]) h

-- one field less to pass
pub from_step : (place passed : ℕ) (line : List ℕ) → passed < place
    → from_field (place - passed) line ≡ from_field (place - (passed + 1)) (after_comma line)
from_step place passed line h =
    let e : place - passed ≡ suc (place - (passed + 1)) = omega (arith, h) in
    ap (λ n. from_field n line) e

from_nothing : (place : ℕ) → from_field place [] ≡ []
from_nothing zero = refl
from_nothing (suc n) = from_nothing n

-- nothing follows after the last field
pub from_last : (place passed : ℕ) (line : List ℕ) → passed < place → after_comma line ≡ [] → from_field (place - passed) line ≡ []
from_last place passed line h e =
    from_step place passed line h ∙ ap (from_field (place - (passed + 1))) e ∙ from_nothing (place - (passed + 1))
