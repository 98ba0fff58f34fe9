use Rattle.std.proofs.Common.{◌≡◌, ℕ, ◌≤◌, ◌<◌, suc, false, pos, sym, ap, subst, ◌∙◌, arith}
use Rattle.std.specs.List.Sorted.{IsPartitionPoint}
use Rattle.irig_time.specs.Seconds.{minute_number}
use Rattle.irig_gen.specs.declared.zone.Change.{Change}
use Rattle.irig_gen.proofs.ZoneLaws.{zone_is, zone_after}
use Rattle.irig_gen.proofs.zone.zone_at.Goals as goal

abbrev never : Change
never = record { at = record { day = 0; sod = 0 }; zone = record { half_hours = pos 0; dst = false } }

pub returns-in-Some : goal.returns-in-Some
returns-in-Some c =
    let xs = c.args.changes.now in
    let come = c.count_come.result in
    let point = subst (λ (m : ℕ). IsPartitionPoint (λ x. minute_number x.at ≤ m) (λ x. m < minute_number x.at) xs come) c.minute_at.ensures c.count_come.ensures.point in
    let is = zone_is 0 c.args.first xs c.args.utc.now come never c.requires c.count_come.ensures.within point in
    let some : come ≡ suc c.in-Some.last = omega (arith, c.in-Some.ensures) in
    sym (is ∙ ap (λ (k : ℕ). zone_after c.args.first xs k never) some)

pub returns-in-None : goal.returns-in-None
returns-in-None c =
    let xs = c.args.changes.now in
    let come = c.count_come.result in
    let point = subst (λ (m : ℕ). IsPartitionPoint (λ x. minute_number x.at ≤ m) (λ x. m < minute_number x.at) xs come) c.minute_at.ensures c.count_come.ensures.point in
    let is = zone_is 0 c.args.first xs c.args.utc.now come never c.requires c.count_come.ensures.within point in
    let none : come ≡ 0 = omega (arith, c.in-None.ensures) in
    sym (is ∙ ap (λ (k : ℕ). zone_after c.args.first xs k never) none)
