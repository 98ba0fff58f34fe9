-- What a timekeeper has learned of its counter, by numbers.
use Rattle.std.specs.Prelude.{◌≡◌, ◌⊎◌, ◌≤◌, ◌==◌, if◌then◌else◌, Option, Some, None}
use Rattle.irig_lines.specs.declared.pace.Pace.{Pace}
use Rattle.c_keeper.specs.declared.pace.IrigPace.{IrigPace}

-- how long seconds are, if anything was learned
abbrev pub pace_in : IrigPace → Option Pace
pace_in p =
    if p.second_ns == 0 then None
    else Some (record { second_ns = p.second_ns; within_ns = p.within_ns; rest_ns = p.rest_ns })

-- nothing was, or seconds are no shorter and no longer than by any counter
abbrev pub MayCount : IrigPace → Type 0
MayCount p =
    (p.second_ns ≡ 0)
    ⊎ ((999900000 ≤ p.second_ns) × ((p.second_ns ≤ 1000100000) × (p.rest_ns ≤ 999)))
