-- How long the next seconds are by a device's counter, as votes have taught it: the rate of an oscillator
-- that was measured, and by how much it may have changed since.
-- Source: this project's profile.
use Rattle.std.specs.Prelude.{◌≡◌, ℕ, ◌≤◌, ◌+◌, ◌-◌, ◌*◌, ◌/◌, ◌%◌, ◌^◌, ◌==◌, ◌⊎◌, ◌&&◌, ◌||◌, min, nat_lt, nat_le, Bool, if◌then◌else◌, Option, Some, None}
use Rattle.std.specs.Option.{ForSome}
use Rattle.irig_lines.specs.declared.interval.Interval.{Interval}
use Rattle.irig_lines.specs.declared.pace.Pace.{Pace}
use Rattle.irig_lines.specs.declared.rate.Rate.{Rate}
use Rattle.irig_lines.specs.declared.setup.ClockRules.{ClockRules}
use Rattle.irig_lines.specs.Exactness.{most_held_us}
use Rattle.irig_lines.specs.Intervals.{carried}

-- ---- an oscillator

-- `edges n` is the time at which T(n) begins, by a counter whose oscillator has come to `ns n` then, in
-- nanoseconds; of any two seconds that begin no more than `span` seconds apart the one is longer by it
-- than the other by at most `wander` ns
pub record IsOscillator (wander span : ℕ) (edges ns : ℕ → ℕ) : Type 0 where
  pub clock : (n : ℕ) → edges n ≡ ns n / 1000
  pub steady : (i j : ℕ) → i ≤ j + span → j ≤ i + span
      → ns (i + 1) + ns j ≤ ns (j + 1) + ns i + wander

-- what a device may learn of its counter holds on: it learns nothing, or the counter has an oscillator
-- that wanders by no more than the setup says over the holdover and 4,000 s
abbrev pub WandersAsSet : ClockRules → (edges : ℕ → ℕ) → Type 0
WandersAsSet c edges =
    (c.wander_ppb ≡ 0)
    ⊎ ((ns : ℕ → ℕ) × IsOscillator c.wander_ppb (c.reader_rules.holdover + 4000) edges ns)

-- ---- what is learned

-- by a mean of so many nanoseconds: the middle of the least and the most
abbrev pub middle_of : Rate → ℕ
middle_of rate = (rate.least_ns + rate.most_ns) / 2

-- each second may be further off than half of what lies between by the wander, and by 1 ns since the
-- counter shows whole microseconds and 1,000 s or more were measured
abbrev pub spread_of : (wander : ℕ) → Rate → ℕ
spread_of wander rate = (rate.most_ns - rate.least_ns + 1) / 2 + (wander + 1)

-- that is sharper by 1 us a second than what is said of a counter that runs d us a second wrong, and no
-- counter runs more than 100 us a second wrong
abbrev pub is_fit : (d second within : ℕ) → Bool
is_fit d second within =
    nat_le (within + 1000) (1000 * d)
    && (nat_le 999900000 second && nat_le second 1000100000)

-- by the mean of 1,000 s or more, if there is a wander
abbrev pub learned_by : ClockRules → Rate → Option Pace
learned_by c rate =
    if c.wander_ppb == 0 || nat_lt rate.seconds 1000 then None
    else (if is_fit c.drift_us (middle_of rate) (spread_of c.wander_ppb rate)
    then Some (record {
      second_ns = middle_of rate;
      within_ns = spread_of c.wander_ppb rate;
      rest_ns = 0;
    })
    else None)

-- the same, if anything was measured
abbrev pub learned : ClockRules → Option Rate → Option Pace
learned c None = None
learned c (Some rate) = learned_by c rate

-- ---- what comes of it

-- so many seconds behind the last edge that was counted an edge lies so many microseconds
abbrev pub ahead_us : Option Pace → ℕ → ℕ
ahead_us None seconds = seconds * 1000000
ahead_us (Some p) seconds = (p.rest_ns + seconds * p.second_ns) / 1000

-- the edge then, by a clock of 32 bits
abbrev pub edge_on : Option Pace → (edge seconds : ℕ) → ℕ
edge_on pace edge seconds = (edge + ahead_us pace seconds) % 2 ^ 32

-- what remains below its microsecond
abbrev pub rest_on : ℕ → Pace → Pace
rest_on seconds p =
    record p { rest_ns = (p.rest_ns + seconds * p.second_ns) % 1000 }

-- behind such an edge, while the holdover goes on
abbrev pub pace_on : (goes_on : Bool) → ℕ → Option Pace → Option Pace
pace_on goes_on seconds None = None
pace_on goes_on seconds (Some p) = if goes_on then Some (rest_on seconds p) else None

-- so many seconds behind a vote an edge may lie so much further off: by the drift of each of them, or by
-- what was learned, if that is less
abbrev pub grown_us : (d : ℕ) → Option Pace → ℕ → ℕ
grown_us d None seconds = seconds * d
grown_us d (Some p) seconds = min (seconds * d) ((seconds * p.within_ns + 1999) / 1000)

-- a holdover is spent if an edge that is counted so many seconds later, behind so many without a vote,
-- could lie more than 490 ms off
abbrev pub is_spent : (d : ℕ) → Option Pace → (age seconds : ℕ) → Bool
is_spent d pace age seconds = nat_lt most_held_us (grown_us d pace age + seconds * d)

-- at least so many microseconds the next second lasts by it
abbrev pub shortest_us : Pace → ℕ
shortest_us p = (p.second_ns - p.within_ns) / 1000

-- and at most so many
abbrev pub longest_us : Pace → ℕ
longest_us p = (p.second_ns + p.within_ns + 999) / 1000

-- in which the edge one second later lies; what is too long is forgotten
abbrev pub paced : Pace → Interval → Option Interval
paced p x =
    if nat_lt (2 * most_held_us) (x.long_us + (longest_us p - shortest_us p)) then None
    else Some (record {
      begin_us = (x.begin_us + shortest_us p) % 2 ^ 32;
      long_us = x.long_us + (longest_us p - shortest_us p);
    })

-- in which the edge so many seconds later lies: of one second by what was learned, if anything was, and of
-- more by a counter that runs d us a second wrong
abbrev pub carried_by : (d : ℕ) → Option Pace → (seconds : ℕ) → Option Interval → Option Interval
carried_by d pace seconds None = None
carried_by d None seconds (Some x) = carried d seconds x
carried_by d (Some p) seconds (Some x) = if seconds == 1 then paced p x else carried d seconds x

-- a second by it is such that edges can be counted
pub record IsFit (p : Pace) : Type 0 where
  pub least : 999900000 ≤ p.second_ns
  pub most : p.second_ns ≤ 1000100000
  pub rest : p.rest_ns ≤ 999

-- so it is if there is one
abbrev pub IsSound : Option Pace → Type 0
IsSound pace = ForSome pace IsFit
