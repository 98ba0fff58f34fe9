use Rattle.std.proofs.Common.{◌≡◌, ◌↔◌, Bool, true, false, refl, sym, eq-eqb, eqb-true}
use Rattle.std.proofs.lemmas.Bool.{both_ways, false_from_ne_true}
use Rattle.irig_time.specs.Days.{IsMonthEnd}
use Rattle.irig_time.proofs.Dates.{month_end_is}
use Rattle.irig_time.proofs.MonthEnds.{month_end_test}
use Rattle.irig_time.proofs.calendar.month_end.Goals as goal

same_test : (a b : Bool) (P : Type 0) → (a ≡ true → P) → (P → a ≡ true) → (b ≡ true) ↔ P → a ≡ b
same_test true b P there back test = sym (test.1 (there refl))
same_test false b P there back test = sym (false_from_ne_true b (λ on. both_ways false refl (back (test.0 on))))

pub returns-clause-calendar : goal.returns-clause-calendar
returns-clause-calendar c =
    let same = month_end_is c.date_of.result c.args.day c.date_of.ensures in
    (λ t. same.0 (eqb-true _ _ t), λ h. eq-eqb _ _ (same.1 h))

pub returns-clause-test : goal.returns-clause-test
returns-clause-test c low =
    let test = month_end_test c.args.day low c.date_of.result c.date_of.ensures in
    let same = month_end_is c.date_of.result c.args.day c.date_of.ensures in
    same_test _ _ (IsMonthEnd c.args.day) (λ t. same.0 (eqb-true _ _ t)) (λ h. eq-eqb _ _ (same.1 h)) test
