-- A second that was announced, by its numbers.
use Rattle.std.specs.Prelude.{◌≤◌, ◌+◌, ◌==◌, if◌then◌else◌, Option, Some, None, IfSome}
use Rattle.std.specs.Option.{ForSome}
use Rattle.irig_time.specs.Seconds.{IsValid}
use Rattle.irig_lines.specs.Exactness.{most_held_us, most_vote_us}
use Rattle.irig_timekeeper.specs.declared.stamp.Announced.{Announced}
use Rattle.c_lines.specs.declared.announced.IrigAnnounced.{IrigAnnounced}

-- the second that was announced, if there is one
abbrev pub announced_in : IrigAnnounced → Option Announced
announced_in a =
    if a.is_told == 0 then None
    else Some (record {
      second = record { day = a.day; sod = a.sod };
      edge_us = a.edge_us;
      bound_us = a.bound_us;
    })

-- if there is one, it is of UTC
abbrev pub IsAnnounced : IrigAnnounced → Type 0
IsAnnounced a = IfSome (announced_in a) (λ announced. IsValid announced.second)

-- if there is one, its bound is no greater than that of a held one may be
abbrev pub IsSmall : IrigAnnounced → Type 0
IsSmall a = ForSome (announced_in a) (λ announced. announced.bound_us ≤ most_vote_us + most_held_us)
