-- What a reader says along short lists of votes, so that a wrong definition does not check.
use Rattle.std.proofs.Common.{◌≡◌, ℕ, ◌+◌, true, List, [], ◌∷◌, map, Option, Some, None, refl, arith}
use Rattle.std.specs.Prelude.{false, ◌==◌, nat_lt, nat_le, replicate}
use Rattle.std.proofs.lemmas.Bool.{eq-eqb}
use Rattle.irig_frame.specs.declared.fault.FrameFault.TheVariants as frame_fault
use Rattle.irig_time.specs.declared.second.UtcSecond.{UtcSecond}
use Rattle.irig_time.specs.declared.mark.Mark.{Mark}
use Rattle.irig_time.specs.declared.mark.Mark.TheVariants.{Unspoken, Insert}
use Rattle.irig_time.specs.declared.claim.Claim.{Claim}
use Rattle.irig_time.specs.declared.leap.Leap.TheVariants as leap
use Rattle.irig_time.specs.Days.{is_month_end}
use Rattle.irig_time.specs.Tables.{TableValue, table}
use Rattle.irig_time.proofs.Dates.{date_of_parts}
use Rattle.irig_time.proofs.MonthEnds.{month_end_test}
use Rattle.irig_time.proofs.NextLaws.{last_day}
use Rattle.irig_time.proofs.StandardFacts.{month_end_6209}
use Rattle.irig_hold.specs.Steps.{HoldValue, hold_value}
use Rattle.irig_port.specs.declared.told.PortFault.TheVariants as fault
use Rattle.irig_port.specs.declared.told.Told.TheVariants as told
use Rattle.irig_port.specs.Told.{told_of}
use Rattle.irig_vote.specs.Vote.{vote_of}
use Rattle.irig_vote.specs.declared.redundancy.Redundancy.TheVariants.{Three}
use Rattle.irig_reader.specs.declared.rules.ReaderRules.{ReaderRules}
use Rattle.irig_reader.specs.declared.report.Lock.{Lock}
use Rattle.irig_reader.specs.declared.report.Lock.TheVariants as lock
use Rattle.irig_reader.specs.declared.report.Cause.{Cause}
use Rattle.irig_reader.specs.declared.report.Cause.TheVariants as cause
use Rattle.irig_reader.specs.declared.report.Report.{Report}
use Rattle.irig_reader.specs.declared.rule.State.TheVariants.{Idle, Acquiring, Locked}
use Rattle.irig_reader.specs.Rules.{IsReaderRules}
use Rattle.irig_reader.specs.Rule.{stop_step, announce_step, count_step, step_of, state_of, report_of}
use Rattle.irig_reader.specs.History.{ReaderHistory, after_pulse, told_at_tick, vote_at_tick, after_tick, after_restart}

-- ---- votes and reports

abbrev at : ℕ → ℕ → UtcSecond
at day sod = record { day = day; sod = sod }

-- a vote for a second of 2099-12-30, which ends no month
abbrev vote : ℕ → Option Claim
vote sod = Some (record { at = at 36523 sod; mark = Unspoken })

-- no vote
abbrev lost : Option Claim
lost = None

-- a vote for a second of 2016-12-31, which ends a month
abbrev late_vote : ℕ → Mark → Option Claim
late_vote sod mark = Some (record { at = at 6209 sod; mark = mark })

december : is_month_end 6209 ≡ true
unfolding date_of_parts
december = let m = month_end_6209 in (month_end_test 6209 (omega arith) (date_of_parts m.0 m.1 1 m.2.0) m.2.1).1 m

abbrev rules : ℕ → ℕ → ReaderRules
rules lock_after holdover = record { lock_after = lock_after; holdover = holdover }

abbrev nothing : TableValue
nothing = table 0 []

-- what is said at each of these votes, the oldest first, after those before, the newest first
abbrev reports_after : ReaderRules → TableValue → List (Option Claim) → List (Option Claim) → List Report
reports_after reader_rules table before [] = []
reports_after reader_rules table before (vote ∷ votes) = report_of reader_rules table vote before ∷ reports_after reader_rules table (vote ∷ before) votes

abbrev reports : ReaderRules → TableValue → List (Option Claim) → List Report
reports reader_rules table votes = reports_after reader_rules table [] votes

abbrev says : Option UtcSecond → Lock → Cause → Report
says announce lock cause = record { announce = announce; lock = lock; cause = cause }

abbrev acquiring : ℕ → Report
acquiring count = says None (lock.Acquiring count) cause.Acquiring

abbrev stops : Cause → Report
stops c = says None lock.Unlocked c

abbrev voted : ℕ → Report
voted sod = says (Some (at 36523 sod)) lock.Locked cause.Voted

abbrev held : ℕ → ℕ → Report
held sod age = says (Some (at 36523 sod)) (lock.Holdover age) cause.Held

-- ---- one step

-- a hold at a second of 2099-12-30
abbrev hold : ℕ → ℕ → HoldValue
hold sod age = hold_value (at 36523 sod) age Unspoken

-- if a second of that day follows
module _ (reader_rules : ReaderRules) (sod : ℕ) (room : nat_lt sod 86399 ≡ true) where
  -- the first vote
  first : step_of reader_rules nothing Idle (vote sod) ≡ count_step reader_rules (hold (sod + 1) 0) 1
  unfolding step_of
  first = rw (last_day, room) refl

  -- one that follows
  further : (age count : ℕ) → step_of reader_rules nothing (Acquiring (hold sod age) count) (vote sod) ≡ count_step reader_rules (hold (sod + 1) 0) (count + 1)
  unfolding step_of
  further age count = rw (eq-eqb sod sod refl, last_day, room) refl

  -- one for another second begins anew
  anew : (from age count : ℕ) → sod == from ≡ false → step_of reader_rules nothing (Acquiring (hold from age) count) (vote sod) ≡ count_step reader_rules (hold (sod + 1) 0) 1
  unfolding step_of
  anew from age count other = rw (other, last_day, room) refl

  -- one that follows, of a locked reader
  next : (age : ℕ) → step_of reader_rules nothing (Locked (hold sod age)) (vote sod) ≡ announce_step (hold (sod + 1) 0) (at 36523 (sod + 1)) lock.Locked cause.Voted
  unfolding step_of
  next age = rw (eq-eqb sod sod refl, last_day, room) refl

  -- none, of a locked reader within its limit
  over : (age : ℕ) → nat_le reader_rules.holdover age ≡ false
      → step_of reader_rules nothing (Locked (hold sod age)) lost ≡ announce_step (hold (sod + 1) (age + 1)) (at 36523 (sod + 1)) (lock.Holdover (age + 1)) cause.Held
  unfolding step_of
  over age low = rw (low, last_day, room) refl

-- whatever follows
module _ (reader_rules : ReaderRules) where
  -- no vote, of a reader that has nothing, and of one that acquires
  idle : step_of reader_rules nothing Idle lost ≡ stop_step cause.NoVote
  unfolding step_of
  idle = refl

  unlocked : (h : HoldValue) (count : ℕ) → step_of reader_rules nothing (Acquiring h count) lost ≡ stop_step cause.NoVote
  unfolding step_of
  unlocked h count = refl

  -- a vote for another second, of a locked reader
  jump : (from sod age : ℕ) → sod == from ≡ false → step_of reader_rules nothing (Locked (hold from age)) (vote sod) ≡ stop_step cause.Jump
  unfolding step_of
  jump from sod age other = rw other refl

  -- none, of a locked reader at its limit
  expired : (h : HoldValue) → nat_le reader_rules.holdover h.age ≡ true → step_of reader_rules nothing (Locked h) lost ≡ stop_step cause.Expired
  unfolding step_of
  expired h late = rw late refl

-- ---- locking

abbrev two : ReaderRules
two = rules 2 9

abbrev three : ReaderRules
three = rules 3 9

-- after two votes a reader locks at the second, and announces the second that follows the one voted
-- for
pub known_lock : reports two nothing (vote 43200 ∷ vote 43201 ∷ vote 43202 ∷ []) ≡ acquiring 1 ∷ voted 43202 ∷ voted 43203 ∷ []
known_lock = rw (first two 43200 refl, further two 43201 refl 0 1, next two 43202 refl 0, report_of, state_of) refl

-- so after three, and after one
pub known_locks : (reports three nothing (vote 43200 ∷ vote 43201 ∷ vote 43202 ∷ []) ≡ acquiring 1 ∷ acquiring 2 ∷ voted 43203 ∷ [])
    × (reports (rules 1 9) nothing (vote 43200 ∷ []) ≡ voted 43201 ∷ [])
known_locks = (rw (first three 43200 refl, further three 43201 refl 0 1, further three 43202 refl 0 2, report_of, state_of) refl, rw (first (rules 1 9) 43200 refl, report_of, state_of) refl)

-- without a vote an unlocked reader says nothing, and a lost vote while it acquires starts anew
pub known_loss : reports two nothing (lost ∷ vote 43200 ∷ lost ∷ vote 43202 ∷ vote 43203 ∷ [])
    ≡ stops cause.NoVote ∷ acquiring 1 ∷ stops cause.NoVote ∷ acquiring 1 ∷ voted 43204 ∷ []
known_loss = rw (idle two, first two 43200 refl, unlocked two (hold 43201 0) 1, first two 43202 refl, further two 43203 refl 0 1, report_of, state_of) refl

-- a jump while it acquires is the first vote of a new count
pub known_jump_acquiring : reports two nothing (vote 43200 ∷ vote 43300 ∷ vote 43301 ∷ []) ≡ acquiring 1 ∷ acquiring 1 ∷ voted 43302 ∷ []
known_jump_acquiring = rw (first two 43200 refl, anew two 43300 refl 43201 0 1 refl, further two 43301 refl 0 1, report_of, state_of) refl

-- a jump while it is locked is a stop, and its vote is not counted
pub known_jump_locked : reports two nothing (vote 43200 ∷ vote 43201 ∷ vote 43300 ∷ vote 43301 ∷ vote 43302 ∷ [])
    ≡ acquiring 1 ∷ voted 43202 ∷ stops cause.Jump ∷ acquiring 1 ∷ voted 43303 ∷ []
known_jump_locked = rw (first two 43200 refl, further two 43201 refl 0 1, jump two 43202 43300 0 refl, first two 43301 refl, further two 43302 refl 0 1, report_of, state_of) refl

-- ---- holding over

abbrev short : ReaderRules
short = rules 1 2

-- locked and without a vote it holds over up to its limit, then expires, and then has nothing
pub known_holdover : reports short nothing (vote 43200 ∷ lost ∷ lost ∷ lost ∷ lost ∷ [])
    ≡ voted 43201 ∷ held 43202 1 ∷ held 43203 2 ∷ stops cause.Expired ∷ stops cause.NoVote ∷ []
known_holdover = rw (first short 43200 refl, over short 43201 refl 0 refl, over short 43202 refl 1 refl, expired short (hold 43203 2) refl, idle short, report_of, state_of) refl

-- a vote ends the holdover, and the next one has all its edges again
pub known_return : reports short nothing (vote 43200 ∷ lost ∷ lost ∷ vote 43203 ∷ lost ∷ [])
    ≡ voted 43201 ∷ held 43202 1 ∷ held 43203 2 ∷ voted 43204 ∷ held 43205 1 ∷ []
known_return = rw (first short 43200 refl, over short 43201 refl 0 refl, over short 43202 refl 1 refl, next short 43203 refl 2, over short 43204 refl 0 refl, report_of, state_of) refl

-- no holdover at all
pub known_no_holdover : reports (rules 1 0) nothing (vote 43200 ∷ lost ∷ []) ≡ voted 43201 ∷ stops cause.Expired ∷ []
known_no_holdover = rw (first (rules 1 0) 43200 refl, expired (rules 1 0) (hold 43201 0) refl, report_of, state_of) refl

-- ---- the ends of months and of the years

-- a hold at a second of the end of 2016
abbrev late_hold : ℕ → ℕ → Mark → HoldValue
late_hold sod age heard = hold_value (at 6209 sod) age heard

-- the guard is a stop, for a locked reader and for one that acquires or begins
pub known_guard : (step_of two nothing (Locked (late_hold 86398 0 Unspoken)) lost ≡ stop_step cause.LeapGuard)
    × (step_of two nothing (Locked (late_hold 86398 0 Unspoken)) (late_vote 86398 Unspoken) ≡ stop_step cause.LeapGuard)
    × (step_of two nothing (Acquiring (late_hold 86398 0 Unspoken) 1) (late_vote 86398 Unspoken) ≡ stop_step cause.LeapGuard)
    × (step_of two nothing Idle (late_vote 86398 Unspoken) ≡ stop_step cause.LeapGuard)
unfolding step_of
known_guard = (rw december refl, rw december refl, rw december refl, rw december refl)

-- if the limit and the guard meet it expires
pub known_limit : step_of (rules 1 4) nothing (Locked (late_hold 86398 4 Unspoken)) lost ≡ stop_step cause.Expired
unfolding step_of
known_limit = refl

-- no guard if the mark was heard, or the table speaks: 23:59:60, and the next day at once
pub known_leaps : (step_of two nothing (Locked (late_hold 86399 6 Insert)) lost ≡ announce_step (late_hold 86400 7 Insert) (at 6209 86400) (lock.Holdover 7) cause.Held)
    × (step_of two (table 6209 ((6209, leap.Delete) ∷ [])) (Locked (late_hold 86398 6 Unspoken)) lost
    ≡ announce_step (hold_value (at 6210 0) 7 Unspoken) (at 6210 0) (lock.Holdover 7) cause.Held)
unfolding step_of
known_leaps = (rw december refl, rw december refl)

-- if the years end
pub known_end : (step_of two nothing (Locked (hold 86399 0)) lost ≡ stop_step cause.RangeEnd)
    × (step_of two nothing (Acquiring (hold 86399 0) 1) (vote 86399) ≡ stop_step cause.RangeEnd)
    × (step_of two nothing Idle (vote 86399) ≡ stop_step cause.RangeEnd)
unfolding step_of
known_end = (rw last_day refl, rw last_day refl, rw last_day refl)

-- ---- what a reader was fed

-- of any reader under three
module _ (history : ReaderHistory) where
  abbrev fresh : ReaderHistory
  fresh = record (after_restart history) { redundancy = Three; limits = None }

  -- a restart forgets the votes and what was fed, and nothing else; a tick what was fed alone
  pub restart : ((after_restart history).votes ≡ []) × (after_restart history ≡ record history { fed = fresh.fed; votes = [] }) × ((after_tick history).fed ≡ fresh.fed)
      × ((after_tick history).votes ≡ vote_at_tick history ∷ history.votes)
  restart = (refl, refl, refl, refl)

  -- so it is as at first
  pub restart_state : (reader_rules : ReaderRules) → state_of reader_rules nothing (after_restart history).votes ≡ Idle
  restart_state reader_rules = refl

  -- what comes to a port is heard in its order, and at no other port
  pub ports : map (λ port. (after_pulse (after_pulse fresh port 5000) port 2000).fed.b) (0 ∷ 1 ∷ 2 ∷ 3 ∷ 4 ∷ []) ≡ [] ∷ (5000 ∷ 2000 ∷ []) ∷ [] ∷ [] ∷ [] ∷ []
  ports = refl

  -- fed nothing, each port tells silence, and there is no vote
  pub silence : (told_at_tick fresh ≡ record { a = told.Silence; b = told.Silence; c = told.Silence; d = told.Silence; e = told.Silence }) × (vote_at_tick fresh ≡ None)
  unfolding told_of vote_of
  silence = (refl, refl)

  -- 60 pulses on each of three ports after a restart are a short frame, whatever came before
  pub sixty : told_at_tick (record fresh { fed = record fresh.fed { a = replicate 60 2000; b = replicate 60 2000; c = replicate 60 2000 } })
      ≡ record { a = told.Fault (fault.Frame (frame_fault.Short 60)); b = told.Fault (fault.Frame (frame_fault.Short 60)); c = told.Fault (fault.Frame (frame_fault.Short 60)); d = told.Silence; e = told.Silence }
  unfolding told_of
  sixty = refl

-- ---- rules

-- 1 to 60 votes, and at most 1,000,000 edges
pub known_rules : IsReaderRules (rules 1 0) × IsReaderRules (rules 60 1000000) × ¬ IsReaderRules (rules 0 0) × ¬ IsReaderRules (rules 61 0) × ¬ IsReaderRules (rules 1 1000001)
known_rules = (
  record { lock_after = (omega arith, omega arith); holdover = omega arith },
  record { lock_after = (omega arith, omega arith); holdover = omega arith },
  λ h. omega (arith, h.lock_after),
  λ h. omega (arith, h.lock_after),
  λ h. omega (arith, h.holdover),
)
