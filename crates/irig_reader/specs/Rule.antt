-- The reader's rule: what becomes of a reader by the vote of an edge, and what it says there. It is
-- this project's profile. The steps of the hold are those of irig_hold.
use Rattle.std.specs.Prelude.{ℕ, ◌+◌, ◌==◌, if◌then◌else◌, Option, Some, None, Result, Ok, Err, List, [], ◌∷◌}
use Rattle.irig_time.specs.declared.second.UtcSecond.{UtcSecond}
use Rattle.irig_time.specs.declared.claim.Claim.{Claim}
use Rattle.irig_time.specs.Tables.{TableValue}
use Rattle.irig_hold.specs.declared.hold.Turn.{Turn}
use Rattle.irig_hold.specs.declared.hold.Turn.TheVariants as turn
use Rattle.irig_hold.specs.Steps.{HoldValue, Outcome, hold_start, voted_by, alone_by}
use Rattle.irig_reader.specs.declared.rules.ReaderRules.{ReaderRules}
use Rattle.irig_reader.specs.declared.report.Lock.{Lock}
use Rattle.irig_reader.specs.declared.report.Lock.TheVariants as lock
use Rattle.irig_reader.specs.declared.report.Cause.{Cause}
use Rattle.irig_reader.specs.declared.report.Cause.TheVariants as cause
use Rattle.irig_reader.specs.declared.report.Report.{Report}
use Rattle.irig_reader.specs.declared.rule.State.{State}
use Rattle.irig_reader.specs.declared.rule.State.TheVariants.{Idle, Acquiring, Locked}
use Rattle.irig_reader.specs.declared.rule.Step.{Step}

-- how many votes that follow one another a reader has counted, if it isn't locked
abbrev pub count_of : State → ℕ
count_of Idle = 0
count_of (Acquiring hold count) = count
count_of (Locked hold) = 0

-- a stop: it says nothing, and has nothing to go on
abbrev pub stop_step : Cause → Step
stop_step c =
    record { state = Idle; report = record { announce = None; lock = lock.Unlocked; cause = c } }

-- it announces this second, and is locked
abbrev pub announce_step : HoldValue → UtcSecond → Lock → Cause → Step
announce_step h u l c =
    record { state = Locked h; report = record { announce = Some u; lock = l; cause = c } }

-- the cause that is named like a hold's stop
abbrev pub cause_of : Turn → Cause
cause_of (turn.Now u) = cause.Held
cause_of turn.LeapGuard = cause.LeapGuard
cause_of turn.Expired = cause.Expired
cause_of turn.RangeEnd = cause.RangeEnd
cause_of turn.Jump = cause.Jump

-- so many votes that followed one another, the last of which led to this hold
abbrev pub count_step : ReaderRules → HoldValue → ℕ → Step
count_step reader_rules h count =
    if count == reader_rules.lock_after then announce_step h h.last lock.Locked cause.Voted
    else record {
      state = Acquiring h count;
      report = record { announce = None; lock = lock.Acquiring count; cause = cause.Acquiring };
    }

-- the first vote
abbrev pub first_vote_step : ReaderRules → Result HoldValue Turn → Step
first_vote_step reader_rules (Ok h) = count_step reader_rules h 1
first_vote_step reader_rules (Err stop) = stop_step (cause_of stop)

-- a further vote, by what the hold answers to it; a jump begins anew
abbrev pub later_vote_step_by : ReaderRules → ℕ → Step → Turn → HoldValue → Step
later_vote_step_by reader_rules count anew (turn.Now u) h = count_step reader_rules h (count + 1)
later_vote_step_by reader_rules count anew turn.Jump h = anew
later_vote_step_by reader_rules count anew turn.LeapGuard h = stop_step cause.LeapGuard
later_vote_step_by reader_rules count anew turn.Expired h = stop_step cause.Expired
later_vote_step_by reader_rules count anew turn.RangeEnd h = stop_step cause.RangeEnd

-- a further vote: the hold answers it, or it is the first one again
abbrev pub later_vote_step : ReaderRules → TableValue → HoldValue → ℕ → Claim → Step
later_vote_step reader_rules table h count c =
    later_vote_step_by reader_rules count (first_vote_step reader_rules (hold_start table c))
    (voted_by table h c).answer (voted_by table h c).new

-- locked, by what the hold answers: it announces that second with this lock and cause, or stops
abbrev pub locked_step : Lock → Cause → Turn → HoldValue → Step
locked_step l c (turn.Now u) h = announce_step h u l c
locked_step l c turn.LeapGuard h = stop_step cause.LeapGuard
locked_step l c turn.Expired h = stop_step cause.Expired
locked_step l c turn.RangeEnd h = stop_step cause.RangeEnd
locked_step l c turn.Jump h = stop_step cause.Jump

-- locked, with a vote
abbrev pub locked_vote_step : Outcome → Step
locked_vote_step o = locked_step lock.Locked cause.Voted o.answer o.new

-- locked, without one
abbrev pub holdover_step : Outcome → Step
holdover_step o = locked_step (lock.Holdover o.new.age) cause.Held o.answer o.new

-- one edge: what becomes of the state by the vote, and what is said
unfoldable pub step_of : ReaderRules → TableValue → State → Option Claim → Step
step_of reader_rules table Idle None = stop_step cause.NoVote
step_of reader_rules table Idle (Some c) = first_vote_step reader_rules (hold_start table c)
step_of reader_rules table (Acquiring h count) None = stop_step cause.NoVote
step_of reader_rules table (Acquiring h count) (Some c) =
    later_vote_step reader_rules table h count c
step_of reader_rules table (Locked h) (Some c) = locked_vote_step (voted_by table h c)
step_of reader_rules table (Locked h) None = holdover_step (alone_by table h reader_rules.holdover)

-- the state after some votes, the newest first
abbrev pub state_of : ReaderRules → TableValue → List (Option Claim) → State
state_of reader_rules table [] = Idle
state_of reader_rules table (vote ∷ votes) =
    (step_of reader_rules table (state_of reader_rules table votes) vote).state

-- the report of a vote after some votes, the newest first
abbrev pub report_of : ReaderRules → TableValue → Option Claim → List (Option Claim) → Report
report_of reader_rules table vote votes =
    (step_of reader_rules table (state_of reader_rules table votes) vote).report
