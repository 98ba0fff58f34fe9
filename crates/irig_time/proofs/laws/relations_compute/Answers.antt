use Rattle.std.specs.Prelude.{◌&&◌, ◌||◌, nat_le}
use Rattle.std.proofs.Common.{◌≡◌, ◌==◌, eqb-true, leb-true, ◌≤◌, ℕ, true, ◌⊎◌, inl, inr, sym, subst, List}
use Rattle.std.proofs.lemmas.Bool.{and_parts, and_from, or_cases, or_left, or_right, eq-eqb, le-leb}
use Rattle.irig_frame.specs.declared.coded.Coded.{Coded}
use Rattle.irig_frame.specs.declared.symbol.Symbol.{Symbol}
use Rattle.irig_time.specs.declared.second.UtcSecond.{UtcSecond}
use Rattle.irig_time.specs.CodedTime.{IsCodedOf, time_shown}
use Rattle.irig_time.specs.Days.{IsMonthEnd, is_month_end}
use Rattle.irig_time.specs.Frames.{IsFrameOfSecond, frame_of_second}
use Rattle.irig_time.specs.Seconds.{IsValid, is_valid}
use Rattle.irig_time.proofs.CodedLaws.{one_coded}
use Rattle.irig_time.proofs.FrameLaws.{frame_of_second_is, one_frame_of_second}
use Rattle.irig_time.proofs.MonthEnds.{month_end_from_test, month_end_is_test}
use Rattle.irig_time.proofs.TimeShown.{time_is_shown}
use Rattle.irig_time.proofs.laws.relations_compute.Goals as goal

pub returns-clause-valid : goal.returns-clause-valid
returns-clause-valid _ u = (passes, holds)
  where
    second_passes : ((nat_le u.sod 86399) || ((u.sod == 86400) && is_month_end u.day)) ≡ true → (u.sod ≤ 86399) ⊎ ((u.sod ≡ 86400) × IsMonthEnd u.day)
    second_passes e = elim (or_cases (nat_le u.sod 86399) ((u.sod == 86400) && is_month_end u.day) e) [
      | inl low ↦ inl (leb-true u.sod 86399 low)
      | inr last ↦ let parts = and_parts (u.sod == 86400) (is_month_end u.day) last in inr (eqb-true u.sod 86400 parts.0, month_end_from_test u.day parts.1)
    ]

    passes : is_valid u ≡ true → IsValid u
    passes e =
        let parts = and_parts (nat_le 1 u.day && nat_le u.day 36523) (nat_le u.sod 86399 || ((u.sod == 86400) && is_month_end u.day)) e in
        let days = and_parts (nat_le 1 u.day) (nat_le u.day 36523) parts.0 in
        record { day = (leb-true 1 u.day days.0, leb-true u.day 36523 days.1); sod = second_passes parts.1 }

    second_holds : u.day ≤ 36523 → (u.sod ≤ 86399) ⊎ ((u.sod ≡ 86400) × IsMonthEnd u.day) → ((nat_le u.sod 86399) || ((u.sod == 86400) && is_month_end u.day)) ≡ true
    second_holds low (inl early) = or_left (nat_le u.sod 86399) ((u.sod == 86400) && is_month_end u.day) (le-leb u.sod 86399 early)
    second_holds low (inr last) =
        or_right (nat_le u.sod 86399) ((u.sod == 86400) && is_month_end u.day) (and_from (u.sod == 86400) (is_month_end u.day) (eq-eqb u.sod 86400 last.0) (month_end_is_test u.day low last.1))

    holds : IsValid u → is_valid u ≡ true
    holds v =
        let days = and_from (nat_le 1 u.day) (nat_le u.day 36523) (le-leb 1 u.day v.day.0) (le-leb u.day 36523 v.day.1) in
        and_from (nat_le 1 u.day && nat_le u.day 36523) (nat_le u.sod 86399 || ((u.sod == 86400) && is_month_end u.day)) days (second_holds v.day.1 v.sod)

pub returns-clause-coded : goal.returns-clause-coded
returns-clause-coded _ u h c valid small =
    let is = time_is_shown u h valid small in
    (λ of. one_coded u h c (time_shown u h) of is, λ same. subst (IsCodedOf u h) (sym same) is)

pub returns-clause-frame : goal.returns-clause-frame
returns-clause-frame _ parity u h k s valid small control =
    let is = frame_of_second_is parity u h k valid small control in
    (λ of. one_frame_of_second parity u h k s (frame_of_second parity u h k) of is, λ same. subst (IsFrameOfSecond parity u h k) (sym same) is)
