-- What a frame claims is a valid second.
use Rattle.std.proofs.Common.{◌≡◌, ℕ, ◌/◌, ◌%◌, ◌<◌, ◌≤◌, Bool, true, false, not, ◌&&◌, cond, eqb, int_lt, Result, Ok, Err, refl, sym, subst, arith, inl, inr, ℤ, pos, negsuc, unsigned_abs}
use Rattle.std.specs.Prelude.{IfOk, nat_lt}
use Rattle.std.proofs.lemmas.Bool.{cases_Bool, cases_eq, and_parts, eqb-true, eq-eqb, ltb-true, ltb-false}
use Rattle.irig_frame.specs.declared.coded.Coded.{Coded}
use Rattle.irig_control.specs.declared.control.Control.{Control}
use Rattle.irig_time.specs.declared.claim.Claim.{Claim}
use Rattle.irig_time.specs.declared.claim.TimeFault.{TimeFault}
use Rattle.irig_time.specs.declared.rules.Sense.{Sense}
use Rattle.irig_time.specs.Days.{is_month_end}
use Rattle.irig_time.specs.Seconds.{IsValid}
use Rattle.irig_time.specs.Claims.{utc_minute, utc_at, is_last_minute, frame_mark, claim_by, IsMarkedLate}
use Rattle.irig_time.proofs.MonthEnds.{month_end_from_test}

-- a test that did not fail, and one that had to hold
passed : (b : Bool) (d : TimeFault) (r : Result Claim TimeFault) (y : Claim) → cond b (Err d) r ≡ Ok y → (b ≡ false) × (r ≡ Ok y)
passed true d r y e = absurd cc
passed false d r y e = (refl, e)

needed : (b : Bool) (d : TimeFault) (r : Result Claim TimeFault) (y : Claim) → cond b r (Err d) ≡ Ok y → (b ≡ true) × (r ≡ Ok y)
needed true d r y e = (refl, e)
needed false d r y e = absurd cc

served : (z : ℤ) → int_lt z (pos 1440) ≡ false → int_lt z (pos 52594560) ≡ true → (1440 ≤ unsigned_abs z) × (unsigned_abs z < 52594560)
served (pos n) low high = (ltb-false n 1440 low, ltb-true n 52594560 high)
served (negsuc n) low high = absurd cc

both_hold : (a b : Bool) → a ≡ true → (a && not b) ≡ false → b ≡ true
both_hold true true e h = refl
both_hold true false e h = absurd cc
both_hold false b e h = absurd cc

valid_at : (minute second : ℕ) → 1440 ≤ minute → minute < 52594560 → second ≤ 60 → (eqb second 60 && not (is_last_minute minute)) ≡ false → IsValid (utc_at minute second)
valid_at minute second low high small h = record {
  day = (omega arith, omega arith);
  sod = elim (cases_eq second 60) [
    | inr other ↦ inl (omega (arith, other))
    | inl last ↦
        let end = both_hold (eqb second 60) (is_last_minute minute) (eq-eqb second 60 last) h in
        let parts = and_parts (is_month_end (minute / 1440)) (eqb (minute % 1440) 1439) end in
        inr (omega (arith, last, eqb-true (minute % 1440) 1439 parts.1), month_end_from_test (minute / 1440) parts.0)
  ];
}

-- a claim is of the minute that its frame tells, which is served
claim_made : (sense : Sense) (c : Coded) (k : Control) (claim : Claim) → claim_by sense c k ≡ Ok claim → let minute = unsigned_abs (utc_minute sense c k) in (1440 ≤ minute) × (minute < 52594560)
    × ((eqb c.second 60 && not (is_last_minute minute)) ≡ false) × (record { at = utc_at minute c.second; mark = frame_mark (is_last_minute minute) c.second k } ≡ claim)
claim_made sense c k claim h =
    let day = passed _ _ _ _ h in
    let low = passed _ _ _ _ day.1 in
    let high = needed _ _ _ _ low.1 in
    let within = served (utc_minute sense c k) low.0 high.0 in
    let sixty = passed (eqb c.second 60 && not (is_last_minute (unsigned_abs (utc_minute sense c k)))) _ _ claim high.1 in
    let deleted = passed _ _ _ _ sixty.1 in
    (within.0, within.1, sixty.0, same_ok deleted.1)
  where
    same_ok : {c claim : Claim} → ◌≡◌ {A = Result Claim TimeFault} (Ok c) (Ok claim) → c ≡ claim
    same_ok h = cc

pub claim_valid : (sense : Sense) (c : Coded) (k : Control) (claim : Claim) → c.second ≤ 60 → claim_by sense c k ≡ Ok claim → IsValid claim.at
claim_valid sense c k claim small h =
    let made = claim_made sense c k claim h in
    subst (λ (x : Claim). IsValid x.at) made.3 (valid_at (unsigned_abs (utc_minute sense c k)) c.second made.0 made.1 small made.2)

-- the same of an answer
pub answer_valid : (sense : Sense) (c : Coded) (k : Control) (answer : Result Claim TimeFault) → c.second ≤ 60 → answer ≡ claim_by sense c k → IfOk answer (λ claim. IsValid claim.at)
answer_valid sense c k (Ok claim) small e = claim_valid sense c k claim small (sym e)
answer_valid sense c k (Err f) small e = tt

-- what a claim says of a leap it says in a month's last minute
marked_at : (minute second : ℕ) (k : Control) → IsMarkedLate (record { at = utc_at minute second; mark = frame_mark (is_last_minute minute) second k })
marked_at minute second k =
    elim (cases_Bool (is_last_minute minute && (nat_lt 0 second && nat_lt second 60))) [
      | inl speaks ↦
          let both = and_parts (is_last_minute minute) (nat_lt 0 second && nat_lt second 60) speaks in
          let end = and_parts (is_month_end (minute / 1440)) (eqb (minute % 1440) 1439) both.0 in
          let some = and_parts (nat_lt 0 second) (nat_lt second 60) both.1 in
          inr (end.0, omega (arith, eqb-true (minute % 1440) 1439 end.1, ltb-true 0 second some.0))
      | inr silent ↦ inl (rw silent refl)
    ]

pub claim_marked : (sense : Sense) (c : Coded) (k : Control) (claim : Claim) → claim_by sense c k ≡ Ok claim → IsMarkedLate claim
claim_marked sense c k claim h = subst IsMarkedLate (claim_made sense c k claim h).3 (marked_at (unsigned_abs (utc_minute sense c k)) c.second k)
