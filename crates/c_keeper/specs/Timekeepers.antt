-- What it is for the numbers that C holds to be those of a timekeeper.
use Rattle.std.specs.Prelude.{◌≡◌, ◌⊎◌, ℕ, ℤ, unsigned_abs, ◌<◌, ◌≤◌, ◌*◌, ◌==◌, not, if◌then◌else◌, Bool, false, List, count_by, Option, Some, None}
use Rattle.std.specs.List.{range_with_len}
use Rattle.irig_lines.specs.declared.delay.Delays.{Delays}
use Rattle.irig_sync.specs.Lines.{Pulse}
use Rattle.irig_time.specs.declared.claim.Claim.{Claim}
use Rattle.irig_vote.specs.Vote.{f_of, ports_in}
use Rattle.irig_timekeeper.specs.declared.clock.Beat.{Beat}
use Rattle.irig_lines.specs.declared.limits.VoteLimits.{VoteLimits}
use Rattle.irig_lines.specs.declared.setup.ClockRules.{ClockRules}
use Rattle.irig_timekeeper.specs.declared.clock.ClockState.{ClockState}
use Rattle.irig_lines.specs.declared.interval.Interval.{Interval}
use Rattle.irig_timekeeper.specs.declared.stamp.Stamp.{Stamp}
use Rattle.irig_timekeeper.specs.Clock.{clock_after, clock_answer, clock_vote, clock_wait}
use Rattle.irig_timekeeper.specs.Keeping.{Keeping}
use Rattle.irig_lines.specs.Refusals.{clock_fault, limits_of, within_of}
use Rattle.irig_lines.specs.Exactness.{most_within_us, most_drift_us, most_vote_us, most_held_us}
use Rattle.irig_timekeeper.specs.Stamps.{stamp_of}
use Rattle.irig_lines.specs.Lines.{IfKept, IsInTurnOf}
use Rattle.irig_lines.specs.Steps.{claim_kept, line_at}
use Rattle.c_numbers.specs.declared.setup.IrigSetup.{IrigSetup}
use Rattle.c_numbers.specs.Setups.{rules_in, keeper_limits_in, reader_rules_in, redundancy_in, IsKeeperSetup}
use Rattle.c_numbers.specs.LeapTables.{table_in}
use Rattle.c_numbers.specs.States.{state_in, IsState}
use Rattle.c_keeper.specs.declared.timekeeper.IrigTimekeeper.{IrigTimekeeper}
use Rattle.c_keeper.specs.declared.timekeeper.IrigDelays.{IrigDelays}
use Rattle.c_keeper.specs.declared.timekeeper.IrigWires.{IrigWires}
use Rattle.c_lines.specs.Lines.{lines_in, unread_lines, HaveHeard, KeepNoMore}
use Rattle.c_keeper.specs.Anchors.{anchors_in}
use Rattle.c_keeper.specs.Paces.{pace_in, MayCount}
use Rattle.c_keeper.specs.CheckWord.{IsSealed}
use Rattle.c_lines.specs.Announced.{announced_in, IsAnnounced, IsSmall}

-- how late its lines are
abbrev pub delays_in : IrigDelays → Delays
delays_in x = record { a = x.a; b = x.b; c = x.c; d = x.d; e = x.e }

-- which frames have a vote
abbrev pub vote_limits_in : IrigSetup → VoteLimits
vote_limits_in s = limits_of (keeper_limits_in s)

-- the rules of its clock
abbrev pub clock_in : IrigTimekeeper → ClockRules
clock_in t = record {
  reader_rules = reader_rules_in t.setup;
  redundancy = redundancy_in t.setup;
  within = within_of t.wires.within_us;
  limits = vote_limits_in t.setup;
  drift_us = t.wires.drift_us;
  wander_ppb = t.wires.wander_ppb;
  delays = delays_in t.wires.delays;
  prefers_frames = not (t.wires.prefers_frames == 0);
}

-- its last edge, if there was one
abbrev pub edge_in : IrigTimekeeper → Option ℕ
edge_in t = if t.has_edge == 0 then None else Some t.edge_us

-- in which the true edge lies by all votes, if that is known
abbrev pub interval_in : IrigTimekeeper → Option Interval
interval_in t =
    if t.has_interval == 0 then None
    else Some (record { begin_us = t.begin_us; long_us = t.long_us })

-- where its clock stands
abbrev pub clock_state_in : IrigTimekeeper → ClockState
clock_state_in t = record {
  lines = lines_in (Some (clock_in t).limits.limits) (rules_in t.setup) t.lines;
  reader = state_in t.state;
  edge_us = edge_in t;
  bound_us = t.bound_us;
  interval = interval_in t;
  anchors = anchors_in t.anchors;
  pace = pace_in t.pace;
  strays = t.strays;
  doubt = t.doubt;
  moved = t.moved;
  last = announced_in t.last;
  before = announced_in t.before;
  ended = announced_in t.ended;
  ended_before = announced_in t.ended_before;
}

-- a clock of whose lines only that is read which a vote asks for
abbrev pub unread : ClockState → ClockState
unread s = record s { lines = unread_lines s.lines }

-- a line may be so late
abbrev pub IsDelay : ℤ → Type 0
IsDelay delay = unsigned_abs delay ≤ 4000

-- so may five
abbrev pub AreDelays : IrigDelays → Type 0
AreDelays x = IsDelay x.a × (IsDelay x.b × (IsDelay x.c × (IsDelay x.d × IsDelay x.e)))

-- lines may be so exact and so late, and a counter so wrong, and wander by no more than 100 ppm
abbrev pub AreWires : IrigWires → Type 0
AreWires w =
    (1 ≤ w.within_us)
    × ((w.within_us ≤ most_within_us)
    × ((w.drift_us ≤ most_drift_us) × ((w.wander_ppb ≤ 100000) × AreDelays w.delays)))

-- there is no such interval, or it is so short that seconds can be counted by it
abbrev pub HasShortInterval : IrigTimekeeper → Type 0
HasShortInterval t = (t.has_interval ≡ 0) ⊎ (t.long_us ≤ 2 * most_held_us)

-- setup and wires have a meaning
pub record IsSetUp (t : IrigTimekeeper) : Type 0 where
  pub setup : IsKeeperSetup t.setup
  pub wires : AreWires t.wires
  pub steady : clock_fault (reader_rules_in t.setup) t.wires.drift_us t.wires.wander_ppb ≡ None

-- seconds can be counted by what is known of the edge, and by what is learned
pub record CountsSoundly (t : IrigTimekeeper) : Type 0 where
  pub interval : HasShortInterval t
  pub pace : MayCount t.pace

-- its calls accept the numbers
pub record IsAccepted (t : IrigTimekeeper) : Type 0 where
  pub setup : IsKeeperSetup t.setup
  pub wires : AreWires t.wires
  pub steady : clock_fault (reader_rules_in t.setup) t.wires.drift_us t.wires.wander_ppb ≡ None
  pub bound : t.bound_us ≤ most_vote_us
  pub known : CountsSoundly t
  pub is_state : IsState t.setup.lock_after t.state
  pub last : IsAnnounced t.last
  pub before : IsAnnounced t.before
  pub ended : IsSmall t.ended
  pub ended_before : IsSmall t.ended_before
  pub absent : KeepNoMore (ports_in (redundancy_in t.setup)) t.lines
  pub sealed : IsSealed t

-- ---- what the calls make of numbers that they accept

-- what a tick says
abbrev pub answer_in : IrigTimekeeper → ℕ → Option Beat
answer_in t now = clock_answer (clock_in t) (table_in t.table) (clock_state_in t) now

-- the claim on which the lines then agree, if they do
abbrev pub vote_in : IrigTimekeeper → ℕ → Option Claim
vote_in t now = clock_vote (clock_in t) (clock_state_in t) now

-- where its clock then stands
abbrev pub state_behind : IrigTimekeeper → ℕ → ClockState
state_behind t now = clock_after (clock_in t) (table_in t.table) (clock_state_in t) now

-- how long until a tick has something to do
abbrev pub wait_in : IrigTimekeeper → ℕ → ℕ
wait_in t now = clock_wait (clock_in t) (clock_state_in t) now

-- the stamp of an event
abbrev pub stamp_for : IrigTimekeeper → ℕ → Option Stamp
stamp_for t time = stamp_of (announced_in t.last) (announced_in t.before) time

-- its lines keep frames of these pulses, and all but at most f of them are such true lines
pub record HeardTruly (IsTrue : List Pulse → Type 0) (t : IrigTimekeeper) (now : ℕ)
    (pulses : ℕ → List Pulse) : Type 0 where
  pub untrue : ℕ → Bool
  pub few : count_by untrue (range_with_len 0 (ports_in (redundancy_in t.setup)))
      ≤ f_of (redundancy_in t.setup)
  pub true_lines : (i : ℕ) → i < ports_in (redundancy_in t.setup) → untrue i ≡ false
      → IsTrue (pulses i)
  pub kept : (i : ℕ) → i < ports_in (redundancy_in t.setup)
      → IfKept (IsInTurnOf now) (clock_in t) (rules_in t.setup)
      (claim_kept (clock_in t)
      (line_at (lines_in (Some (clock_in t).limits.limits) (rules_in t.setup) t.lines) i).frame)
      (pulses i)

-- ---- which value they are

-- the numbers are those of a timekeeper that is this value
pub record IsTimekeeperOf (t : IrigTimekeeper) (k : Keeping) : Type 0 where
  pub rules : rules_in t.setup ≡ k.rules
  pub clock : clock_in t ≡ k.clock
  pub table : table_in t.table ≡ k.table
  pub heard : HaveHeard t.lines k.heard
  pub state : clock_state_in t ≡ k.state
  pub accepted : IsAccepted t
