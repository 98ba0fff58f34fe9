-- The claim of the frame that codes a second is that second.
use Rattle.std.proofs.Common.{◌≡◌, ℕ, ◌+◌, ◌*◌, ◌/◌, ◌%◌, ◌≤◌, Bool, true, false, not, ◌&&◌, cond, eqb, ltb, int_lt, Err, refl, ap, ◌∙◌, arith, inl, inr, ℤ, pos, neg_ℤ, unsigned_abs}
use Rattle.std.proofs.lemmas.Bool.{le-ltb, lt-ltb, ne_eqb, eq-eqb, and_left, and_right, and_from, not_from_true}
use Rattle.jiff_core.proofs.SignedLemmas.{signed_arith}
use Rattle.irig_frame.specs.declared.coded.Coded.{Coded}
use Rattle.irig_control.specs.declared.control.Control.{Control}
use Rattle.irig_time.specs.declared.second.UtcSecond.{UtcSecond}
use Rattle.irig_time.specs.declared.claim.Claim.{Claim}
use Rattle.irig_time.specs.declared.rules.Sense.TheVariants.{Add, Subtract}
use Rattle.irig_time.specs.declared.claim.TimeFault.TheVariants as fault
use Rattle.irig_time.specs.Days.{IsMonthEnd, is_month_end, year_length}
use Rattle.irig_time.specs.Seconds.{IsValid, minute_of, second_of}
use Rattle.irig_time.specs.CodedTime.{IsCodedOf}
use Rattle.irig_time.specs.Claims.{utc_minute, is_last_minute, frame_mark, claim_at, claim_by, claim_of_second}
use Rattle.irig_time.proofs.MonthEnds.{month_end_is_test}

last_minute : (u : UtcSecond) → IsValid u → u.sod ≡ 86400 → IsMonthEnd u.day → is_last_minute (1440 * u.day + minute_of u) ≡ true
last_minute u valid e h =
    let day : (1440 * u.day + minute_of u) / 1440 ≡ u.day = omega arith in
    let minute : (1440 * u.day + minute_of u) % 1440 ≡ 1439 = omega (arith, e) in
    and_from _ _ (ap is_month_end day ∙ month_end_is_test u.day valid.day.1 h) (eq-eqb _ _ minute)

no_second_60 : (u : UtcSecond) → IsValid u → (eqb (second_of u) 60 && not (is_last_minute (1440 * u.day + minute_of u))) ≡ false
no_second_60 u valid =
    elim valid.sod [
      | inl low ↦ and_left _ _ (ne_eqb (second_of u) 60 (λ e. omega (arith, low, e)))
      | inr end ↦ and_right _ _ (not_from_true _ (last_minute u valid end.0 end.1))
    ]

claim_is : (u : UtcSecond) (m s : ℕ) (k : Control) (last : Bool) → m / 1440 ≡ u.day → 60 * (m % 1440) + s ≡ u.sod → ◌≡◌ {A = Claim} (record { at = record { day = m / 1440; sod = 60 * (m % 1440) + s }; mark = frame_mark last s k }) (record { at = u; mark = frame_mark last s k })
claim_is u m s k last day sod = rw (day, sod) refl

at_second : (u : UtcSecond) (c : Coded) (k : Control) → IsValid u → c.second ≡ second_of u → claim_at (1440 * u.day + minute_of u) c k ≡ claim_of_second u k
at_second u c k valid e =
    let m = 1440 * u.day + minute_of u in
    let low : u.sod ≤ 86400 = elim valid.sod [ inl a ↦ omega (arith, a) | inr b ↦ omega (arith, b.0) ] in
    let day : m / 1440 ≡ u.day = omega arith in
    let sod : 60 * (m % 1440) + second_of u ≡ u.sod = omega (arith, low) in
    rw (e, no_second_60 u valid, claim_is u m (second_of u) k (is_last_minute m) day sod) refl

by_minute : (u : UtcSecond) (h : ℤ) (c : Coded) (k : Control) (z : ℤ) → IsValid u → IsCodedOf u h c → z ≡ pos (1440 * u.day + minute_of u)
    → cond (ltb (year_length c.year) c.day) (Err fault.NoSuchDay) (cond (int_lt z (pos 1440)) (Err fault.OutOfYears) (cond (int_lt z (pos 52594560)) (claim_at (unsigned_abs z) c k) (Err fault.OutOfYears))) ≡ claim_of_second u k
by_minute u h c k z valid r e =
    let m = 1440 * u.day + minute_of u in
    rw (le-ltb (year_length c.year) c.day r.day.1, e, le-ltb m 1440 (omega (arith, valid.day)), lt-ltb m 52594560 (omega (arith, valid.day))) (at_second u c k valid r.second)

pub added : (u : UtcSecond) (h : ℤ) (c : Coded) (k : Control) → IsValid u → unsigned_abs h ≤ 31 → IsCodedOf u h c → k.offset_half_hours ≡ neg_ℤ h → claim_by Add c k ≡ claim_of_second u k
unfolding utc_minute
added u h c k valid small r e =
    let minute : utc_minute Add c k ≡ pos (1440 * u.day + minute_of u) = rw (e, r.time) (omega (arith, signed_arith)) in
    by_minute u h c k (utc_minute Add c k) valid r minute

pub subtracted : (u : UtcSecond) (h : ℤ) (c : Coded) (k : Control) → IsValid u → unsigned_abs h ≤ 31 → IsCodedOf u h c → k.offset_half_hours ≡ h → claim_by Subtract c k ≡ claim_of_second u k
unfolding utc_minute
subtracted u h c k valid small r e =
    let minute : utc_minute Subtract c k ≡ pos (1440 * u.day + minute_of u) = rw (e, r.time) (omega (arith, signed_arith)) in
    by_minute u h c k (utc_minute Subtract c k) valid r minute
