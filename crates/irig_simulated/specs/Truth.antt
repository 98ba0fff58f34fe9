-- What is promised of a second that a simulated device told.
-- Source: docs/HEADLINE.md; this project's profile.
use Rattle.std.specs.Prelude.{◌≡◌, ℕ, ◌+◌, ◌≤◌, Some}
use Rattle.irig_time.specs.declared.second.UtcSecond.{UtcSecond}
use Rattle.irig_time.specs.Timelines.{TimelineValue, IsSecond}
use Rattle.irig_simulated.specs.declared.told_second.ToldSecond.{ToldSecond}

-- if it is announced it is T of its edge, and begins no further from that than the bound says
abbrev pub IsToldOfItsEdge : TimelineValue → ToldSecond → Type 0
IsToldOfItsEdge t told = (u : UtcSecond) → told.beat.report.announce ≡ Some u
    → IsSecond t told.edge u
    × (told.edge_count ≤ told.told_count + told.beat.bound_us)
    × (told.told_count ≤ told.edge_count + told.beat.bound_us)
