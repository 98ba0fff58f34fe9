-- How long a second is by a timekeeper's counter, by numbers.
use Rattle.std.specs.Prelude.{ℕ, ◌==◌, if◌then◌else◌, Option, Some, None}
use Rattle.irig_lines.specs.declared.rate.Rate.{Rate}
use Rattle.irig_lines.specs.Rates.{rate_of, serving}
use Rattle.c_keeper.specs.declared.rate.IrigRate.{IrigRate}
use Rattle.c_keeper.specs.declared.timekeeper.IrigTimekeeper.{IrigTimekeeper}
use Rattle.c_keeper.specs.Anchors.{anchors_in}
use Rattle.c_keeper.specs.Timekeepers.{interval_in}

-- what is measured of its counter
abbrev pub rate_in : IrigTimekeeper → Option Rate
rate_in t = rate_of (interval_in t) (serving (anchors_in t.anchors))

-- the rate that a call gives which answers this
abbrev pub rate_told : ℕ → IrigRate → Option Rate
rate_told answer r =
    if answer == 0
    then Some (record { seconds = r.seconds; least_ns = r.least_ns; most_ns = r.most_ns })
    else None
