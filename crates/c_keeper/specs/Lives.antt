-- The life of a timekeeper as C knows it: what it was made of, the pulses that it was told, what its
-- ticks answered, and how long it said to wait. Times are local ones, by a clock that does not wrap; C gives them by one of 32
-- bits.
-- Source: this library's own.
use Rattle.std.specs.Prelude.{◌≡◌, ◌≤◌, ◌⊎◌, ◌+◌, ◌*◌, ◌%◌, ◌^◌, ◌==◌, not, if◌then◌else◌, ℕ, List, [], ◌∷◌, ◌++◌, Option, Some, None, ⊤}
use Rattle.irig_sync.specs.Lines.{Pulse}
use Rattle.irig_time.specs.declared.rules.Rules.{Rules}
use Rattle.irig_time.specs.Timelines.{TimelineValue, IsSecond}
use Rattle.irig_port.specs.declared.told.Told.TheVariants.{Silence}
use Rattle.irig_vote.specs.Vote.{f_of}
use Rattle.irig_timekeeper.specs.declared.clock.Beat.{Beat}
use Rattle.irig_lines.specs.declared.lines.Vote.{Vote}
use Rattle.irig_lines.specs.declared.lines.Lines.{Lines}
use Rattle.irig_timekeeper.specs.declared.stamp.Stamp.{Stamp}
use Rattle.irig_timekeeper.specs.Keeping.{Keeping, answer_at, place_told, vote_at, wait_at}
use Rattle.irig_lines.specs.Widths.{vote_us}
use Rattle.irig_timekeeper.specs.Life.{Call, AreInOrder, AreTrueLately, AreTrueOver, after_calls, device_of, life_of}
use Rattle.irig_timekeeper.specs.Life.Call.{Hear, Tick}
use Rattle.irig_timekeeper.specs.Lived.{MadeOf, LivesWell, made_with}
use Rattle.irig_timekeeper.specs.Since.{unless_voted}
use Rattle.irig_lines.specs.Steps.{AreNewLines, agreed, settled}
use Rattle.irig_timekeeper.specs.Truth.{IsDevice, IsEdgeAt}
use Rattle.c_numbers.specs.declared.setup.IrigSetup.{IrigSetup}
use Rattle.c_numbers.specs.declared.table.IrigTable.{IrigTable}
use Rattle.c_numbers.specs.LeapTables.{table_in}
use Rattle.c_numbers.specs.Reports.{report_in}
use Rattle.c_numbers.specs.Setups.{reader_rules_in, redundancy_in, rules_in}
use Rattle.c_keeper.specs.declared.second.IrigSecond.{IrigSecond}
use Rattle.c_keeper.specs.declared.timekeeper.IrigTimekeeper.{IrigTimekeeper}
use Rattle.c_keeper.specs.declared.timekeeper.IrigWires.{IrigWires}
use Rattle.irig_lines.specs.Refusals.{within_of}
use Rattle.c_keeper.specs.Seconds.{IsSecondOf}
use Rattle.c_keeper.specs.Timekeepers.{clock_in, clock_state_in, delays_in, vote_limits_in, IsTimekeeperOf}

-- a pulse on a line: it rose then, is so wide, and was answered this place; a tick, and the second
-- that it gave; or a question how long to wait from then on, and the answer
pub data Moment : Type 0 where
  Pulsed : (line rise width place : ℕ) → Moment
  Ticked : (now : ℕ) → (second : IrigSecond) → Moment
  Waited : (now wait : ℕ) → Moment

-- the calls of a life that change the timekeeper, the newest first
abbrev pub calls_of : List Moment → List Call
calls_of [] = []
calls_of (Pulsed line rise width place ∷ past) = Hear line rise width ∷ calls_of past
calls_of (Ticked now second ∷ past) = Tick now ∷ calls_of past
calls_of (Waited now wait ∷ past) = calls_of past

-- what a timekeeper is made of by such a setup, table and wires
abbrev pub made_in : IrigSetup → IrigTable → IrigWires → MadeOf
made_in setup table wires = record {
  rules = rules_in setup;
  clock = record {
    reader_rules = reader_rules_in setup;
    redundancy = redundancy_in setup;
    within = within_of wires.within_us;
    limits = vote_limits_in setup;
    drift_us = wires.drift_us;
    wander_ppb = wires.wander_ppb;
    delays = delays_in wires.delays;
    prefers_frames = not (wires.prefers_frames == 0);
  };
  table = table_in table;
}

-- what is said of a second, but for what each line told, which is not among its numbers
abbrev pub beat_in : IrigSecond → Beat
beat_in s = record {
  report = report_in s.report;
  told = record { a = Silence; b = Silence; c = Silence; d = Silence; e = Silence };
  edge_us = s.edge_us;
  bound_us = s.bound_us;
  missed = s.missed;
  moved = s.moved;
  against_table = not (s.against_table == 0);
}

-- ---- what nobody has to read: it is given by `irig_c_timekeeper_init`, and handed on by each call

-- a tick of this value gives this second, by a vote if lines agreed
pub record HasTold (k : Keeping) (now : ℕ) (second : IrigSecond) : Type 0 where
  pub is : IsSecondOf second (answer_at k (now % 2 ^ 32))
  pub vote : (second.report.agreed ≡ 0 → ⊥)
      → (vote : Vote) × (vote_at k (now % 2 ^ 32) ≡ Some vote)

-- so did each tick of this past, and each pulse and each question got its answer
abbrev pub HaveTold : Keeping → List Moment → Type 0
HaveTold new [] = ⊤
HaveTold new (Pulsed line rise width place ∷ past) =
    (place ≡ place_told (after_calls new (calls_of past)) line (rise % 2 ^ 32) width)
    × HaveTold new past
HaveTold new (Ticked now second ∷ past) =
    HasTold (after_calls new (calls_of past)) now second × HaveTold new past
HaveTold new (Waited now wait ∷ past) =
    (wait ≡ wait_at (after_calls new (calls_of past)) (now % 2 ^ 32)) × HaveTold new past

-- the timekeeper was made of this, and has this past since it was made or restarted, the newest first
pub record HasLived (timekeeper : IrigTimekeeper) (made : MadeOf) (past : List Moment)
    : Type 0 where
  pub lines : Lines
  pub fresh : AreNewLines lines
  pub is : IsTimekeeperOf timekeeper (life_of (made_with made lines fresh) (calls_of past))
  pub told : HaveTold (device_of (made_with made lines fresh)) past

-- ---- lives in which what is announced is true

-- it learns nothing from votes, and one of its ticks told a second by a vote, as `agreed` says; at it and
-- at each tick since, all but at most f lines were such true lines. What came before may be anything
pub record HasHealed
    (IsTrue : Rules → TimelineValue → (ℕ → ℕ) → ℕ → List Pulse → Type 0) (t : TimelineValue)
    (edges : ℕ → ℕ) (made : MadeOf) (start : ℕ) (past : List Moment)
    : Type 0 where
  pub is : IsDevice t made.clock.drift_us edges made.clock.reader_rules made.table
  pub plain : made.clock.wander_ppb ≡ 0
  pub order : AreInOrder start made.clock.redundancy (calls_of past)
  pub later : List Moment
  pub mend : ℕ
  pub second : IrigSecond
  pub earlier : List Moment
  pub are : past ≡ later ++ (Ticked mend second ∷ earlier)
  pub told : second.is_told ≡ 1
  pub vote : second.report.agreed ≡ 0 → ⊥
  pub truth : AreTrueLately (IsTrue made.rules t edges) (f_of made.clock.redundancy) mend
      (calls_of earlier)
  pub since : AreTrueOver (IsTrue made.rules t edges) (f_of made.clock.redundancy)
      (calls_of later) (Tick mend ∷ calls_of earlier)

-- a device is what its setup says, its calls are in order, and all but at most f lines were such true
-- lines at each tick, or at each since a vote
abbrev pub IsSound : (Rules → TimelineValue → (ℕ → ℕ) → ℕ → List Pulse → Type 0) → TimelineValue
    → (ℕ → ℕ) → MadeOf → ℕ → List Moment → Type 0
IsSound IsTrue t edges made start past =
    LivesWell IsTrue t edges made start (calls_of past) ⊎ HasHealed IsTrue t edges made start past

-- calls go on in order to a tick at this time, and at it and at each tick of these moments, which came
-- behind those, all but at most f lines are such true lines
pub record GoesOnTruly
    (IsTrue : Rules → TimelineValue → (ℕ → ℕ) → ℕ → List Pulse → Type 0) (t : TimelineValue)
    (edges : ℕ → ℕ) (made : MadeOf) (start now : ℕ) (later past : List Moment)
    : Type 0 where
  pub sound : IsSound IsTrue t edges made start past
  pub order : AreInOrder start made.clock.redundancy (Tick now ∷ calls_of (later ++ past))
  pub truth : AreTrueOver (IsTrue made.rules t edges) (f_of made.clock.redundancy)
      (Tick now ∷ calls_of later) (calls_of past)

-- ---- lives in which a stamp is true

-- lines were true since a vote, and an event of this time comes at its edge or later, unless that tick
-- announced nothing
pub record HasHealedBefore
    (IsTrue : Rules → TimelineValue → (ℕ → ℕ) → ℕ → List Pulse → Type 0) (t : TimelineValue)
    (edges : ℕ → ℕ) (made : MadeOf) (start : ℕ) (past : List Moment) (time : ℕ)
    : Type 0 where
  pub healed : HasHealed IsTrue t edges made start past
  pub edge : ℕ
  pub at : IsEdgeAt healed.second.edge_us edge healed.mend
  pub when : (edge ≤ time) ⊎ ((report_in healed.second.report).announce ≡ None)

-- a tick may come now, the event lies at most half an hour back, and lines were true at each tick, or
-- since a vote that serves for its time
pub record StampsTruly
    (IsTrue : Rules → TimelineValue → (ℕ → ℕ) → ℕ → List Pulse → Type 0) (t : TimelineValue)
    (edges : ℕ → ℕ) (made : MadeOf) (start time now : ℕ) (past : List Moment)
    : Type 0 where
  pub sound : LivesWell IsTrue t edges made start (calls_of past)
      ⊎ HasHealedBefore IsTrue t edges made start past time
  pub order : AreInOrder start made.clock.redundancy (Tick now ∷ calls_of past)
  pub behind : time ≤ now
  pub young : now ≤ time + 1800000000

-- second and offset of one stamp and of another name instants that lie so far apart at most
pub record AreTogether (t : TimelineValue) (apart : ℕ) (stamp other : Stamp) : Type 0 where
  pub m : ℕ
  pub n : ℕ
  pub one : IsSecond t m stamp.second
  pub two : IsSecond t n other.second
  pub least : n * 1000000 + other.offset_us ≤ m * 1000000 + stamp.offset_us + apart
  pub most : m * 1000000 + stamp.offset_us ≤ n * 1000000 + other.offset_us + apart

-- ---- the bound of a stamp

-- the seconds that were counted since one was announced by a vote, by what the ticks of a past gave
abbrev pub since_vote : List Moment → ℕ
since_vote [] = 0
since_vote (Pulsed line rise width place ∷ past) = since_vote past
since_vote (Waited now wait ∷ past) = since_vote past
since_vote (Ticked now second ∷ past) =
    if second.is_told == 0 then since_vote past
    else unless_voted (report_in second.report).cause (since_vote past + second.missed + 1)

-- a tick of that past announced the second of the stamp, whose bound is at most a vote's and the drift
-- of each second that had been counted by then since a vote
pub record HasItsBound (made : MadeOf) (past : List Moment) (stamp : Stamp) : Type 0 where
  pub later : List Moment
  pub now : ℕ
  pub second : IrigSecond
  pub earlier : List Moment
  pub are : past ≡ later ++ (Ticked now second ∷ earlier)
  pub says : (report_in second.report).announce ≡ Some stamp.second
  pub bound : stamp.bound_us
      ≤ vote_us made.clock made.clock.drift_us
      + since_vote (Ticked now second ∷ earlier) * made.clock.drift_us

-- ---- how long to wait

-- the edge on which its lines agree at this time, whether it has come or not
abbrev pub agreed_in : IrigTimekeeper → ℕ → Option Vote
agreed_in t now = agreed (clock_in t) (settled now (clock_state_in t).lines)
