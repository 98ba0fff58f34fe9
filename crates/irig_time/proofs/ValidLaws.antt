-- That a second is of UTC is a fact which a struct may keep: if it cannot be false, it is true.
use Rattle.std.proofs.Common.{◌≡◌, ◌≤◌, ℕ, inl, inr, arith}
use Rattle.std.proofs.Math.Logic.{∥∥₁_elim}
use Rattle.std.proofs.lemmas.Bool.{cases_Bool, cases_lt, cases_eq, both_ways}
use Rattle.irig_time.specs.declared.second.UtcSecond.{UtcSecond}
use Rattle.irig_time.specs.Days.{IsMonthEnd, is_month_end}
use Rattle.irig_time.specs.Seconds.{IsValid}
use Rattle.irig_time.proofs.MonthEnds.{month_end_from_test, month_end_is_test}

month_end : (day : ℕ) → day ≤ 36523 → ¬ ¬ IsMonthEnd day → IsMonthEnd day
month_end day low h =
    elim (cases_Bool (is_month_end day)) [
      | inl end ↦ month_end_from_test day end
      | inr mid ↦ absurd (h (λ end. both_ways (is_month_end day) mid (month_end_is_test day low end)))
    ]

pub valid_if_not_wrong : (u : UtcSecond) → ¬ ¬ IsValid u → IsValid u
valid_if_not_wrong u h =
    let high : u.day ≤ 36523 = elim (cases_lt 36523 u.day) [ inl lt ↦ absurd (h (λ v. omega (arith, v.day, lt))) | inr ge ↦ ge ] in
    record {
      day = (elim (cases_lt u.day 1) [ inl lt ↦ absurd (h (λ v. omega (arith, v.day, lt))) | inr ge ↦ ge ], high);
      sod = elim (cases_lt 86399 u.sod) [
        | inr ge ↦ inl ge
        | inl late ↦ inr (
          elim (cases_eq u.sod 86400) [ inl e ↦ e | inr ne ↦ absurd (h (λ v. elim v.sod [ inl low ↦ omega (arith, low, late) | inr last ↦ ne last.0 ])) ],
          month_end u.day high (λ never. h (λ v. elim v.sod [ inl low ↦ omega (arith, low, late) | inr last ↦ never last.1 ])),
        )
      ];
    }

none : (x y : ⊥) → x ≡ y
none x y = absurd x

pub not_wrong : {T : Type 0} → ∥ T ∥₁ → ¬ ¬ T
not_wrong kept wrong = ∥∥₁_elim kept none wrong

pub still_valid : (u : UtcSecond) → ∥ IsValid u ∥₁ → IsValid u
still_valid u kept = valid_if_not_wrong u (not_wrong kept)
