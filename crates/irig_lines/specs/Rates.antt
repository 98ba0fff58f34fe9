-- How long a second is by a device's counter, by two intervals in which true edges lie: one at a vote,
-- which is kept as an anchor, and the one at the edge that was counted last.
-- Source: this project's profile.
use Rattle.std.specs.Prelude.{ℕ, ◌≤◌, ◌+◌, ◌-◌, ◌*◌, ◌/◌, ◌^◌, ◌==◌, min, Bool, false, nat_lt, if◌then◌else◌, Option, Some, None}
use Rattle.std.specs.Int.{div_ceil}
use Rattle.irig_sync.specs.Sync.{clock_gap}
use Rattle.irig_lines.specs.declared.interval.Interval.{Interval}
use Rattle.irig_lines.specs.declared.rate.Anchor.{Anchor}
use Rattle.irig_lines.specs.declared.rate.Anchors.{Anchors}
use Rattle.irig_lines.specs.declared.rate.Rate.{Rate}

-- nothing to measure from
abbrev pub no_anchors : Anchors
no_anchors = record { old = None; young = None }

-- an anchor so many seconds later; if it is older than 2,000 s it is dropped
abbrev pub aged : ℕ → Option Anchor → Option Anchor
aged seconds None = None
aged seconds (Some a) =
    if nat_lt 2000 (a.seconds + seconds) then None
    else Some (record a { seconds = a.seconds + seconds })

-- both, so many seconds later, by what is then known of the edge: if that is nothing, both are dropped
abbrev pub anchors_on : ℕ → Option Interval → Anchors → Anchors
anchors_on seconds None anchors = no_anchors
anchors_on seconds (Some x) anchors =
    record { old = aged seconds anchors.old; young = aged seconds anchors.young }

-- the anchor at a vote that leaves this interval
abbrev pub anchor_at : Interval → Anchor
anchor_at x = record { begin_us = x.begin_us; long_us = x.long_us; seconds = 0 }

-- there is one, and it is less than 1,000 s old
abbrev pub is_young : Option Anchor → Bool
is_young None = false
is_young (Some a) = nat_lt a.seconds 1000

-- behind a vote that leaves this interval: a young anchor of less than 1,000 s stays; else it becomes the
-- old one, and the interval the young one
abbrev pub anchors_cut : Interval → Anchors → Anchors
anchors_cut x anchors =
    if is_young anchors.young then anchors
    else record { old = anchors.young; young = Some (anchor_at x) }

-- the old one serves, or the young one if there is no old one
abbrev pub serves : (old young : Option Anchor) → Option Anchor
serves None young = young
serves (Some old) young = Some old

-- the one that serves
abbrev pub serving : Anchors → Option Anchor
serving anchors = serves anchors.old anchors.young

-- ---- the mean length of the seconds since

-- from a time in the anchor to one in the interval, less than a turn of the counter later, pass at least
-- so many microseconds: from the anchor's end to the interval's beginning
abbrev pub least_us : Anchor → Interval → ℕ
least_us a x = clock_gap a.begin_us x.begin_us - a.long_us

-- and at most so many: from the anchor's beginning to the interval's end
abbrev pub most_us : Anchor → Interval → ℕ
most_us a x = clock_gap a.begin_us x.begin_us + x.long_us

-- the number, but no more than has place in 32 bits
abbrev pub at_most_u32 : ℕ → ℕ
at_most_u32 number = min number (2 ^ 32 - 1)

-- in nanoseconds of the counter a second, the least rounded down and the most up
abbrev pub mean_since : Anchor → Interval → Rate
mean_since a x = record {
  seconds = a.seconds;
  least_ns = at_most_u32 (1000 * least_us a x / a.seconds);
  most_ns = at_most_u32 (div_ceil (1000 * most_us a x) a.seconds);
}

-- what is measured of a clock that knows its edge so, by the anchor that serves: nothing by one of the
-- same second
abbrev pub rate_of : Option Interval → Option Anchor → Option Rate
rate_of None anchor = None
rate_of (Some x) None = None
rate_of (Some x) (Some a) = if a.seconds == 0 then None else Some (mean_since a x)

-- T(n) begins at `edges n`: the mean length of so many seconds from T(i) on is at least and at most this
pub record IsMeanFrom (edges : ℕ → ℕ) (i : ℕ) (rate : Rate) : Type 0 where
  pub least : rate.least_ns * rate.seconds ≤ 1000 * (edges (i + rate.seconds) - edges i)
  pub most : 1000 * (edges (i + rate.seconds) - edges i) ≤ rate.most_ns * rate.seconds
