use Rattle.std.specs.Option.{ForSome}
use Rattle.std.proofs.Common.{rules, ◌≡◌, ◌↔◌, ◌≤◌, ◌==◌, ℕ, Bool, true, false, if◌then◌else◌, Some, None, refl, subst}
use Rattle.irig_timekeeper.specs.declared.stamp.Announced.{Announced}
use Rattle.c_lines.proofs.announced.is_small.Goals as goal

-- a second that is there is small exactly if its bound is
small : (b : Bool) (most : ℕ) (x : Announced) → b ≡ false → x.bound_us ≤ most ↔ ForSome (if b then None else Some x) (λ y. y.bound_us ≤ most)
small true most x none = absurd cc
small false most x there = (λ low y is. (let same : x ≡ y = cc in subst (λ (z : Announced). z.bound_us ≤ most) same low), λ h. h x refl)

pub returns-else-announced-eq0 : goal.returns-else-announced-eq0
returns-else-announced-eq0 c =
    let a = c.args.announced.now in
    let there : (a.is_told == 0) ≡ false = search rules in
    let same = small (a.is_told == 0) 492899 (record { second = record { day = a.day; sod = a.sod }; edge_us = a.edge_us; bound_us = a.bound_us }) there in
    (λ low. same.0 (let le : a.bound_us ≤ 492899 = search rules in le), λ h. (let le : a.bound_us ≤ 492899 = same.1 h in search rules))
