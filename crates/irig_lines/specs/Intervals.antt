-- The interval of a device's counter in which the true edge lies by all votes so far: carried on from
-- second to second by the drift, and cut by each vote.
-- Source: this project's profile.
use Rattle.std.specs.Prelude.{◌≡◌, ℕ, ◌<◌, ◌≤◌, ◌+◌, ◌-◌, ◌*◌, ◌%◌, ◌^◌, min, Bool, true, false, nat_lt, nat_le, if◌then◌else◌, Option, Some, None}
use Rattle.std.specs.Option.{ForSome}
use Rattle.irig_sync.specs.Sync.{clock_gap}
use Rattle.irig_lines.specs.declared.interval.Interval.{Interval}
use Rattle.irig_lines.specs.declared.lines.Vote.{Vote}
use Rattle.irig_lines.specs.Exactness.{most_held_us}

-- in which the edge lies by a vote
abbrev pub by_vote : Vote → Interval
by_vote vote = record {
  begin_us = (vote.edge_us + 2 ^ 32 - vote.bound_us) % 2 ^ 32;
  long_us = 2 * vote.bound_us;
}

-- in which the edge so many seconds later lies, by a counter that runs d us a second wrong; what is too
-- long is forgotten, as the seconds could then be counted wrong
abbrev pub carried : (d seconds : ℕ) → Interval → Option Interval
carried d seconds x =
    if nat_lt (2 * most_held_us) (x.long_us + 2 * (seconds * d)) then None
    else Some (record {
      begin_us = (x.begin_us + (seconds * 1000000 - seconds * d)) % 2 ^ 32;
      long_us = x.long_us + 2 * (seconds * d);
    })

-- it is so short that seconds can be counted by it, if there is one
abbrev pub IsShort : Option Interval → Type 0
IsShort known = ForSome known (λ x. x.long_us ≤ 2 * most_held_us)

-- the same, if there is one
abbrev pub carried_on : (d seconds : ℕ) → Option Interval → Option Interval
carried_on d seconds None = None
carried_on d seconds (Some x) = carried d seconds x

-- what lies in both, if the second one does not begin before the first; then so far behind it
abbrev pub common_from : (gap : ℕ) → Interval → Interval → Option Interval
common_from gap x y =
    if nat_le gap x.long_us
    then Some (record { begin_us = y.begin_us; long_us = min (x.long_us - gap) y.long_us })
    else None

-- what lies in both, if anything does; of two begins that one is the later behind which the other one
-- lies less than half a turn of the clock
abbrev pub common : Interval → Interval → Option Interval
common x y =
    if nat_lt (clock_gap x.begin_us y.begin_us) (2 ^ 31)
    then common_from (clock_gap x.begin_us y.begin_us) x y
    else common_from (clock_gap y.begin_us x.begin_us) y x

-- by what is common to what was known and a vote, or by the vote alone
abbrev pub or_alone : Option Interval → Interval → Interval
or_alone None y = y
or_alone (Some x) y = x

-- in which the edge of a vote lies by it and by what was known
abbrev pub cut : Option Interval → Interval → Interval
cut None y = y
cut (Some x) y = or_alone (common x y) y

-- nothing is common to them
abbrev pub is_nothing : Option Interval → Bool
is_nothing None = true
is_nothing (Some x) = false

-- a vote contradicts what was known
abbrev pub contradicts : Option Interval → Interval → Bool
contradicts None y = false
contradicts (Some x) y = is_nothing (common x y)

-- ---- by a clock that does not wrap

-- the interval lies between these two times
pub record LiesBetween (from to : ℕ) (x : Interval) : Type 0 where
  pub begin : ℕ
  pub clock : x.begin_us ≡ begin % 2 ^ 32
  pub least : from ≤ begin
  pub most : begin + x.long_us ≤ to

-- what lies between these two times and what lies between those begins less than half a turn of the
-- clock apart
pub record AreNear (from to others others_to : ℕ) : Type 0 where
  pub behind : others_to < from + 2 ^ 31
  pub before : to < others + 2 ^ 31
