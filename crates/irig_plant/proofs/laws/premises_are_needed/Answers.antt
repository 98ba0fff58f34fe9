use Rattle.std.proofs.Common.{refl}
use Rattle.irig_plant.proofs.LeapPlant as leap
use Rattle.irig_plant.proofs.LockPlant as lock
use Rattle.irig_plant.proofs.NoonPlants.{at, plant, two_stale, three_stale, three_misled, five_misled}
use Rattle.irig_plant.proofs.laws.premises_are_needed.Goals as goal

pub returns-clause-three : goal.returns-clause-three
returns-clause-three _ = (plant 3, two_stale, 0, at 43201, refl, three_misled)

pub returns-clause-five : goal.returns-clause-five
returns-clause-five _ = (plant 5, three_stale, 0, at 43201, refl, five_misled)

pub returns-clause-table : goal.returns-clause-table
returns-clause-table _ = λ rules in_range long.
    let misled = leap.misled_by_table rules in_range long in
    (leap.plant rules in_range long, misled.0, 0, leap.new_month, refl, misled.1)

pub returns-clause-lock : goal.returns-clause-lock
returns-clause-lock _ = λ rules in_range.
    let misled = lock.locked_misled rules in_range in
    (lock.plant rules in_range, misled.0, 0, lock.new_year, refl, misled.1)
