-- The code's test of a second is that of the definition.
use Rattle.std.proofs.Common.{◌≡◌, ◌↔◌, ◌≤◌, ℕ, Bool, true, false, Option, Some, None, refl, sym, ap, ◌∙◌, inl, inr}
use Rattle.std.specs.Prelude.{IfSome, ◌==◌, ◌&&◌, nat_le}
use Rattle.std.proofs.lemmas.Bool.{and_parts, and_from, or_cases, or_left, or_right, leb-true, le-leb, eqb-true, eq-eqb}
use Rattle.std.proofs.lemmas.Bool.Decides.{same_from_decides}
use Rattle.irig_time.specs.declared.second.UtcSecond.{UtcSecond}
use Rattle.irig_time.specs.Days.{IsMonthEnd, is_month_end}
use Rattle.irig_time.specs.Seconds.{IsValid}
use Rattle.irig_time.proofs.Dates.{date_of_parts}
use Rattle.irig_time.proofs.MonthEnds.{month_end_from_test, month_end_test}
use Rattle.irig_time.specs.declared.claim.Claim.{Claim}
use Rattle.irig_time.specs.Next.{next_of}
use Rattle.irig_time.specs.declared.mark.Mark.{Mark}
use Rattle.irig_hold.proofs.Stepping.{next_valid}
use Rattle.report_found.specs.Ticks.{is_valid, second_after, frame_of}

ends : (day : ℕ) → day ≤ 36523 → IsMonthEnd day → is_month_end day ≡ true
unfolding date_of_parts
ends day low h = (month_end_test day low (date_of_parts h.0 h.1 1 h.2.0) h.2.1).1 h

pub valid_from_test : (u : UtcSecond) → is_valid u ≡ true → IsValid u
valid_from_test u h =
    let day = and_parts _ _ h in
    let sod = and_parts _ _ day.1 in
    record {
      day = (leb-true 1 u.day day.0, leb-true u.day 36523 sod.0);
      sod = elim (or_cases _ _ sod.1) [
        | inl low ↦ inl (leb-true u.sod 86399 low)
        | inr last ↦ let both = and_parts _ _ last in inr (eqb-true u.sod 86400 both.0, month_end_from_test u.day both.1)
      ];
    }

pub test_from_valid : (u : UtcSecond) → IsValid u → is_valid u ≡ true
test_from_valid u h =
    and_from (nat_le 1 u.day) _ (le-leb 1 u.day h.day.0) (and_from (nat_le u.day 36523) _ (le-leb u.day 36523 h.day.1) (elim h.sod [
      | inl low ↦ or_left (nat_le u.sod 86399) ((u.sod == 86400) && is_month_end u.day) (le-leb u.sod 86399 low)
      | inr last ↦ or_right (nat_le u.sod 86399) ((u.sod == 86400) && is_month_end u.day)
          (and_from (u.sod == 86400) (is_month_end u.day) (eq-eqb u.sod 86400 last.0) (ends u.day h.day.1 last.1))
    ]))

pub valid_is : (b : Bool) (u : UtcSecond) → (b ≡ true) ↔ IsValid u → b ≡ is_valid u
valid_is b u h = same_from_decides b (is_valid u) h (valid_from_test u, test_from_valid u)

-- the second after a claim's, if that is valid
pub second_is : (truth : Option Claim) (claim : Claim) (valid : Bool) → truth ≡ Some claim → (valid ≡ true) ↔ IsValid claim.at → valid ≡ true → next_of claim.at claim.mark ≡ second_after truth
second_is truth claim valid is tells holds =
    let test : is_valid claim.at ≡ true = sym (valid_is valid claim.at tells) ∙ holds in
    let here : second_after (Some claim) ≡ next_of claim.at claim.mark = rw test refl in
    sym (ap second_after is ∙ here)

pub no_second : (truth : Option Claim) (claim : Claim) (valid : Bool) → truth ≡ Some claim → (valid ≡ true) ↔ IsValid claim.at → valid ≡ false → None ≡ second_after truth
no_second truth claim valid is tells fails =
    let test : is_valid claim.at ≡ false = sym (valid_is valid claim.at tells) ∙ fails in
    let here : second_after (Some claim) ≡ None = rw test refl in
    sym (ap second_after is ∙ here)

-- so its own second
pub frame_is : (truth : Option Claim) (claim : Claim) (valid : Bool) → truth ≡ Some claim → (valid ≡ true) ↔ IsValid claim.at → valid ≡ true → Some claim.at ≡ frame_of truth
frame_is truth claim valid is tells holds =
    let test : is_valid claim.at ≡ true = sym (valid_is valid claim.at tells) ∙ holds in
    let here : frame_of (Some claim) ≡ Some claim.at = rw test refl in
    sym (ap frame_of is ∙ here)

pub no_frame : (truth : Option Claim) (claim : Claim) (valid : Bool) → truth ≡ Some claim → (valid ≡ true) ↔ IsValid claim.at → valid ≡ false → None ≡ frame_of truth
no_frame truth claim valid is tells fails =
    let test : is_valid claim.at ≡ false = sym (valid_is valid claim.at tells) ∙ fails in
    let here : frame_of (Some claim) ≡ None = rw test refl in
    sym (ap frame_of is ∙ here)

-- the next of a valid second is valid
pub next_is_valid : (o : Option UtcSecond) (u : UtcSecond) (mark : Mark) → IsValid u → o ≡ next_of u mark → IfSome o IsValid
next_is_valid None u mark valid is = tt
next_is_valid (Some v) u mark valid is = next_valid u v mark valid (sym is)
