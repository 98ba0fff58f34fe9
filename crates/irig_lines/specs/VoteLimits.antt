-- Which frames of a timekeeper's lines have a vote.
-- Source: IEEE 1344-1995, annex on IRIG-B, time quality, as IEEE C37.118 takes it over: 6 says that a clock is
-- right within 100 us, 7 within 1 ms, 8 within 10 ms. Which of them have a vote is this project's profile.
use Rattle.std.specs.Prelude.{ℕ}
use Rattle.irig_port.specs.declared.limits.Limits.{Limits}

-- the highest time quality from which on frames may have no vote: those of clocks that say 1 ms have one then
abbrev pub most_poor_from : ℕ
most_poor_from = 8

-- the limits of a timekeeper that is given none: a frame of any day has a vote, and none of a clock that says
-- 1 ms or more
abbrev pub usual_limits : Limits
usual_limits = record { not_before = 0; poor_from = 7 }
