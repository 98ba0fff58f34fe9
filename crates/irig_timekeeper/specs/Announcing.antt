-- What has to come for a device to announce: more than f lines send a frame whole, and a tick comes
-- soon behind its end.
-- Source: IRIG Standard 200-16, format B; this project's profile.
use Rattle.std.specs.Prelude.{◌≡◌, ℕ, zero, suc, ◌+◌, ◌*◌, ◌%◌, ◌^◌, ◌<◌, ◌≤◌, ◌⊎◌, Bool, true, List, [], ◌∷◌, ◌++◌, length, drop, count_by, Some, ⊤}
use Rattle.std.specs.List.{range_with_len}
use Rattle.irig_frame.specs.declared.symbol.Symbol.{Symbol}
use Rattle.irig_sync.specs.Sync.{is_marker}
use Rattle.irig_sync.specs.Lines.{Pulse, IsTrueLine, symbols_of_last}
use Rattle.irig_sync.specs.FaultyLines.{ArePulsesBefore}
use Rattle.irig_time.specs.declared.rules.Rules.{Rules}
use Rattle.irig_time.specs.declared.second.UtcSecond.{UtcSecond}
use Rattle.irig_time.specs.declared.claim.Claim.{Claim}
use Rattle.irig_time.specs.Timelines.{TimelineValue, IsTrueClaim}
use Rattle.irig_lines.specs.declared.setup.ClockRules.{ClockRules}
use Rattle.irig_port.specs.Limits.{told_within}
use Rattle.irig_port.specs.declared.told.Told.TheVariants as tells
use Rattle.irig_vote.specs.Vote.{f_of}
use Rattle.irig_reader.specs.Locking.{voted_report}
use Rattle.irig_timekeeper.specs.declared.clock.Beat.{Beat}
use Rattle.irig_timekeeper.specs.Keeping.{Keeping, answer_at}
use Rattle.irig_timekeeper.specs.Life.{Call, after_calls, pulses_on, last_tick, AreTrueOver}
use Rattle.irig_timekeeper.specs.Life.Call.{Tick}
use Rattle.irig_lines.specs.Widths.{vote_us}

-- what came before the frame that begins then does not hide its first pulse: nothing, a marker, or
-- what rose 11 ms and `within` us before it or longer
abbrev pub LeavesTheFirst : (within begin : ℕ) → List Pulse → Type 0
LeavesTheFirst within begin [] = ⊤
LeavesTheFirst within begin (q ∷ qs) =
    (is_marker q.width ≡ true) ⊎ (q.rise + 11000 + within ≤ begin)

-- the newest hundred of these pulses are the whole frame that ends at the m-th edge, each as near its
-- place as lines are exact, and tell the true claim of the second before it, which has a vote
pub record IsWhole (c : ClockRules) (rules : Rules) (t : TimelineValue) (edges : ℕ → ℕ) (m : ℕ)
    (pulses : List Pulse) : Type 0 where
  pub line : ℕ → Symbol
  pub right : IsTrueLine line
  pub f : ℕ
  pub here : m ≡ f + 1
  pub frame : List Pulse
  pub earlier : List Pulse
  pub parts : pulses ≡ frame ++ earlier
  pub hundred : length frame ≡ 100
  pub are : ArePulsesBefore line edges c.within.us (100 * f + 100) frame
  pub first : LeavesTheFirst c.within.us (edges f) earlier
  pub claim : Claim
  pub tells : told_within (Some c.limits.limits) rules (symbols_of_last 100 pulses) ≡ tells.Claim claim
  pub truth : IsTrueClaim t m claim

-- in these calls more than f lines tell the frame whole that ends at the m-th edge; what they tell
-- behind it may be anything
pub record ComesWhole (t : TimelineValue) (edges : ℕ → ℕ) (new : Keeping) (m : ℕ)
    (calls : List Call) : Type 0 where
  pub whole : ℕ → Bool
  pub many : f_of new.clock.redundancy < count_by whole (range_with_len 0 5)
  pub frames : (i : ℕ) → i < 5 → whole i ≡ true
      → (late : ℕ)
      × IsWhole new.clock new.rules t edges m (drop late (pulses_on i calls))

-- the calls of the m-th second, behind others: the last of them is a tick behind the edge, by the
-- bound of a vote at least and 98 ms at most, by which more than f lines have told the frame whole
-- that ends there. Any tick before it
-- comes at most 3 ms behind the edge, when the own counter has not yet counted it. At each tick at
-- most f lines are not such true lines
pub record IsWellHeard (IsTrue : ℕ → List Pulse → Type 0) (t : TimelineValue) (edges : ℕ → ℕ)
    (new : Keeping) (start m : ℕ) (calls before : List Call)
    : Type 0 where
  pub now : ℕ
  pub others : List Call
  pub are : calls ≡ Tick now ∷ others
  pub early : last_tick start (others ++ before) ≤ edges m + 3000
  pub come : edges m + vote_us new.clock new.clock.drift_us ≤ now
  pub soon : now ≤ edges m + 98000
  pub frames : ComesWhole t edges new m (others ++ before)
  pub truth : AreTrueOver IsTrue (f_of new.clock.redundancy) calls before

-- so many seconds in a row, from the m-th on
abbrev pub AreWellHeard : (ℕ → List Pulse → Type 0) → TimelineValue → (ℕ → ℕ) → Keeping → ℕ → ℕ → ℕ
    → List Call → List Call → Type 0
AreWellHeard IsTrue t edges new start m zero calls before = calls ≡ before
AreWellHeard IsTrue t edges new start m (suc n) calls before =
    (last : List Call) × (older : List Call) × (calls ≡ last ++ older)
    × IsWellHeard IsTrue t edges new start (m + n) last older
    × AreWellHeard IsTrue t edges new start m n older before

-- one of these calls is a tick that announces T(m), which is u, by a vote, 98 ms behind its edge at
-- most
pub record Announces (edges : ℕ → ℕ) (new : Keeping) (m : ℕ) (u : UtcSecond) (calls : List Call)
    : Type 0 where
  pub now : ℕ
  pub later : List Call
  pub earlier : List Call
  pub are : calls ≡ later ++ (Tick now ∷ earlier)
  pub soon : now ≤ edges m + 98000
  pub beat : Beat
  pub answer : answer_at (after_calls new earlier) (now % 2 ^ 32) ≡ Some beat
  pub says : beat.report ≡ voted_report u
