-- What is said to the audit of a pulse that a device hears.
use Rattle.std.proofs.Common.{◌≡◌, ◌∙◌, ℕ, zero, suc, ◌+◌, ◌-◌, ◌*◌, ◌/◌, ◌%◌, ◌^◌, ◌<◌, ◌≤◌, ◌⊎◌, Bool, true, false, Option, refl, sym, ap, arith, inl, inr, subst}
use Rattle.std.specs.Prelude.{◌==◌, min, nat_lt, if◌then◌else◌}
use Rattle.std.proofs.lemmas.Bool.{cases_Bool, le-ltb, lt-ltb, ltb-false, ltb-true}
use Rattle.std.proofs.lemmas.Bool.Decides.{eqb_tells}
use Rattle.std.proofs.Math.Nat.{div-mul-le_self, lt-div-mul-add, div-div-eq-div-mul, mul-div-mul_left, mul-le-mul_right}
use Rattle.irig_frame.specs.declared.symbol.Symbol.{Symbol}
use Rattle.irig_frame.specs.declared.symbol.Symbol.TheVariants.{Bad}
use Rattle.irig_frame.specs.Symbols.{symbol_of}
use Rattle.irig_wires.specs.Oscillator.{counter_at, edges_by}
use Rattle.irig_witness.specs.Elements.{element_near}
use Rattle.irig_witness.specs.Witness.{IsSaidOf}
use Rattle.irig_simulated.specs.declared.second.Second.{Second}
use Rattle.irig_simulated.specs.Seconds.{IsSecondOf, asked_of}

narrow_is_bad : (width : ℕ) → width < 500 → symbol_of width ≡ Bad
narrow_is_bad width narrow = (let e : nat_lt width 500 ≡ true = lt-ltb width 500 narrow in rw e refl)

wide_is_bad : (width : ℕ) → 9500 ≤ width → symbol_of width ≡ Bad
wide_is_bad width wide =
    let a : nat_lt width 500 ≡ false = le-ltb width 500 (omega (arith, wide)) in
    let b : nat_lt width 3500 ≡ false = le-ltb width 3500 (omega (arith, wide)) in
    let c : nat_lt width 6500 ≡ false = le-ltb width 6500 (omega (arith, wide)) in
    let d : nat_lt width 9500 ≡ false = le-ltb width 9500 wide in
    rw (a, b, c, d) refl

-- the second of the element that is near a rise
second_near : (first rate rise : ℕ) → element_near first rate rise / 100 ≡ (rise + 450 - first) / rate
second_near first rate rise =
    let behind = rise + 450 - first in
    div-div-eq-div-mul (100 * behind) rate 100 ∙ ap (λ (d : ℕ). 100 * behind / d) (let e : rate * 100 ≡ 100 * rate = grind arith in e) ∙ mul-div-mul_left behind rate (omega arith)

module _ (first rate rise width now number : ℕ) (slow : 999000 ≤ rate) (risen : first ≤ rise) (past : rise ≤ now) (is : width ≡ min (now - rise) (2 ^ 32 - 1))
    (begun : edges_by first rate number ≤ now) (within : now ≤ edges_by first rate (number + 1)) where
  abbrev near : ℕ
  near = (rise + 450 - first) / rate

  least : near * rate ≤ rise + 450 - first
  least = div-mul-le_self (rise + 450 - first) rate

  most : rise + 450 - first < near * rate + rate
  most = lt-div-mul-add (omega (arith, slow))

  abbrev k : ℕ
  k = element_near first rate rise

  -- a second that is to come has begun by no pulse's end but a narrow one's
  ahead : number < near → symbol_of width ≡ Bad
  ahead more =
      let times : (number + 1) * rate ≤ near * rate = mul-le-mul_right rate (let h : number + 1 ≤ near = omega (arith, more) in h) in
      narrow_is_bad width (omega (arith, least, times, within, past, is, risen))

  -- of a second before the last one only a wide pulse ends now
  behind : near + 1 < number → symbol_of width ≡ Bad
  behind less =
      let times : (near + 2) * rate ≤ number * rate = mul-le-mul_right rate (let h : near + 2 ≤ number = omega (arith, less) in h) in
      let twice : (near + 2) * rate ≡ near * rate + 2 * rate = grind arith in
      wide_is_bad width (omega (arith, most, times, twice, begun, past, is, risen, slow))

  pub said : (s : Second) (signal : ℕ → ℕ → Option Symbol) (symbol : ℕ → ℕ → Symbol) → IsSecondOf s signal symbol → s.number ≡ number → (line : ℕ)
      → IsSaidOf (symbol line) (element_near first rate rise) width (asked_of s line (element_near first rate rise))
  said s signal symbol of same line = elim (eqb_tells (element_near first rate rise / 100 + 1) s.number) [
    | inl before ↦ inl (rw before.0 (sym (of.had line (k % 100) (k / 100) place (sym before.1 ∙ after_is (k / 100))) ∙ ap (symbol line) (whole (k / 100) refl)))
    | inr not_before ↦ elim (eqb_tells (k / 100) s.number) [
      | inl now ↦ inl (here not_before.0 ∙ ap (symbol line) (whole s.number (sym now.1)))
      | inr not_now ↦ other (100 * s.number + k % 100) (bad_else not_before.1 not_now.1) (here not_before.0)
    ]
  ]
    where
      place : k % 100 < 100
      place = omega arith

      after_is : (n : ℕ) → n + 1 ≡ suc n
      after_is n = omega arith

      whole : (n : ℕ) → n ≡ k / 100 → 100 * n + k % 100 ≡ k
      whole n e = omega (arith, e)

      other : (element : ℕ) → symbol_of width ≡ Bad → asked_of s line k ≡ symbol line element → IsSaidOf (symbol line) k width (asked_of s line k)
      other element bad is_said = inr (bad, (λ e. of.proper line element (sym is_said ∙ e)), of.proper line k)

      here : (k / 100 + 1 == s.number) ≡ false → asked_of s line k ≡ symbol line (100 * s.number + k % 100)
      here not_before = rw not_before (sym (of.has line (k % 100) place))

      bad_else : ¬ (k / 100 + 1 ≡ s.number) → ¬ (k / 100 ≡ s.number) → symbol_of width ≡ Bad
      bad_else not_before not_now =
          let at : k / 100 ≡ near = second_near first rate rise in
          elim (cases_Bool (nat_lt number near)) [
            | inl more ↦ ahead (ltb-true _ _ more)
            | inr not_more ↦ behind (omega (arith, ltb-false _ _ not_more, at, same, not_before, not_now))
          ]
