-- The limits at known values.
use Rattle.std.proofs.Common.{◌≡◌, ◌*◌, Some, None, refl}
use Rattle.record_levels.specs.declared.limits.TimeFault.TheVariants.{Beyond, Back, Gap}
use Rattle.record_levels.specs.Limits.{day_ns, end_ns, time_fault}

-- 1,000 hours, and 24
pub known_limits : (end_ns ≡ 1000 * 3600 * 1000000000) × (day_ns ≡ 24 * 3600 * 1000000000)
known_limits = (refl, refl)

-- the last nanosecond before 1,000 hours, if the last levels are no more than a day old
pub known_ends : (time_fault 0 None 3599999999999999 ≡ None) × (time_fault 0 None 3600000000000000 ≡ Some Beyond)
    × (time_fault 0 (Some 3513599999999999) 3599999999999999 ≡ None) × (time_fault 0 (Some 3513599999999998) 3599999999999999 ≡ Some Gap)
known_ends = (refl, refl, refl, refl)

-- a time may stand still, and not go back; before it, that it lies beyond
pub known_backs : (time_fault 7 (Some 5) 7 ≡ None) × (time_fault 7 (Some 5) 6 ≡ Some Back) × (time_fault 3600000000000001 None 3600000000000000 ≡ Some Beyond)
known_backs = (refl, refl, refl)
