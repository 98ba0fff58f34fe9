-- A device of one line, by a counter that is 100 us a second fast, at the end of 2016. It hears the
-- frame of 23:59:00, which no more speaks of a leap than any before 23:59:01, and then its line is
-- dark. With a true table it tells a leap second that was inserted, as it was that day, and one that
-- might have been deleted; without a table it says nothing from 23:59:59 on.
use Rattle.std.proofs.Common.{◌≡◌, ℕ, zero, suc, ◌+◌, ◌*◌, ◌%◌, ◌^◌, List, [], ◌∷◌, Option, Some, None, refl, subst, arith, inl, false}
use Rattle.irig_frame.specs.declared.symbol.Symbol.{Symbol}
use Rattle.irig_frame.specs.declared.symbol.Symbol.TheVariants.{Zero, One, Marker}
use Rattle.irig_frame.specs.Faults.{values_of, field_at}
use Rattle.irig_control.specs.Parity.{ones}
use Rattle.irig_control.specs.Control.{control_of, offset_in}
use Rattle.irig_sync.specs.Edges.{element_at}
use Rattle.irig_time.specs.declared.second.UtcSecond.{UtcSecond}
use Rattle.irig_time.specs.declared.mark.Mark.TheVariants.{Unspoken}
use Rattle.irig_time.specs.declared.leap.Leap.{Leap}
use Rattle.irig_time.specs.declared.leap.Leap.TheVariants as leap
use Rattle.irig_time.specs.declared.claim.Claim.{Claim}
use Rattle.irig_time.specs.Claims.{utc_minute}
use Rattle.irig_time.specs.Days.{is_month_end, four_years}
use Rattle.irig_time.specs.Timelines.{TimelineValue, times, IsSecond, IsTrueClaim, true_mark}
use Rattle.irig_time.specs.TimelineFaults.{IsTimeline}
use Rattle.irig_time.specs.Tables.{TableValue, table}
use Rattle.irig_port.specs.declared.told.Told.TheVariants as tells
use Rattle.irig_port.specs.Told.{told_of, frame_told, coded_told}
use Rattle.irig_port.proofs.CarriesLaws.{carries_is_told}
use Rattle.irig_vote.specs.declared.redundancy.Redundancy.TheVariants as of
use Rattle.irig_reader.specs.declared.report.Lock.{Lock}
use Rattle.irig_reader.specs.declared.report.Lock.TheVariants as lock
use Rattle.irig_reader.specs.declared.report.Cause.{Cause}
use Rattle.irig_reader.specs.declared.report.Cause.TheVariants as cause
use Rattle.irig_reader.specs.Rule.{step_of}
use Rattle.irig_timekeeper.proofs.LearnLaws.{plain_steps}
use Rattle.irig_timekeeper.specs.declared.clock.Beat.{Beat}
use Rattle.irig_lines.specs.declared.setup.ClockRules.{ClockRules}
use Rattle.irig_lines.specs.Refusals.{within_of}
use Rattle.irig_lines.specs.Edges.{IsQuartz}
use Rattle.irig_lines.specs.Lines.{IsLineOf, IsTrueLately, line_of}
use Rattle.irig_timekeeper.specs.Keeping.{Keeping, new_keeping, answer_at}
use Rattle.irig_timekeeper.specs.Truth.{IsDevice, IsToldInHoldover}
use Rattle.irig_timekeeper.specs.Life.{Call, AreInOrder, AreTrueAtTicks, after_calls}
use Rattle.irig_timekeeper.specs.Life.Call.{Hear, Tick}
use Rattle.irig_lines.proofs.LineLaws.{true_by_any}
use Rattle.irig_timekeeper.proofs.LifeLaws.{device_true}
use Rattle.irig_lives.proofs.SentLines.{sent_is_checked, checked_is_line}
use Rattle.irig_lives.proofs.LifeFacts.{rules, no_delays, new_lines, are_new, silence, width_of, no_table, usual}
use Rattle.irig_lives.specs.Decided.{is_after, have_risen, in_order, is_same, is_pulse_of, last_before, are_lately, are_true_lately, are_true_at_ticks}
use Rattle.irig_lives.proofs.DecidedLaws.{order_is, truly_is}
use Rattle.irig_timekeeper.specs.Rule.{step_checked, goes_against}

-- ---- the world

-- of 2016-12-31, and the first second of 2017
abbrev at : ℕ → UtcSecond
at sod = record { day = 6209; sod = sod }

abbrev new_year : UtcSecond
new_year = record { day = 6210; sod = 0 }

abbrev edges : ℕ → ℕ
edges n = 1000000 + 1000100 * n

steady : IsQuartz 100 edges
steady = record { few = omega arith; steady = record { least = λ n. omega arith; most = λ n. omega arith } }

abbrev clock : ClockRules
clock = record { reader_rules = record { lock_after = 1; holdover = 100 }; redundancy = of.One; within = within_of 450; limits = usual; drift_us = 100; wander_ppb = 0; delays = no_delays; prefers_frames = false }

-- 23:59:60 is inserted, or 23:59:59 deleted
abbrev leaps : Leap → List (ℕ × Leap)
leaps l = (6209, l) ∷ []

abbrev with_leap : Leap → TimelineValue
with_leap l = times (at 86340) (leaps l)

abbrev knows_leap : Leap → TableValue
knows_leap l = table 6209 (leaps l)

sound : (l : Leap) → IsTimeline (with_leap l)
unfolding is_month_end four_years
sound leap.Insert = record { sound = refl }
sound leap.Delete = record { sound = refl }

is_device : (l : Leap) → IsDevice (with_leap l) 100 edges clock.reader_rules (knows_leap l)
is_device l = record { steady = steady; sound = sound l; knows = inl (record { leaps = λ day end from to. refl }) }

-- by the calendar: 23:59:59 is followed by 23:59:60 and the new year, or 23:59:58 by the new year
second_60 : IsSecond (with_leap leap.Insert) 60 (at 86400) × IsSecond (with_leap leap.Insert) 61 new_year
second_60 = (record { from = omega arith; to = omega arith; sod = omega arith; sum = refl }, record { from = omega arith; to = omega arith; sod = omega arith; sum = refl })

second_58 : IsSecond (with_leap leap.Delete) 58 (at 86398) × IsSecond (with_leap leap.Delete) 59 new_year
second_58 = (record { from = omega arith; to = omega arith; sod = omega arith; sum = refl }, record { from = omega arith; to = omega arith; sod = omega arith; sum = refl })

-- ---- the frame of 23:59:00

abbrev frame : List Symbol
frame = Marker ∷ Zero ∷ Zero ∷ Zero ∷ Zero ∷ Zero ∷ Zero ∷ Zero ∷ Zero ∷ Marker ∷ One ∷ Zero ∷ Zero ∷ One ∷ Zero ∷ One ∷ Zero ∷ One ∷ Zero ∷ Marker ∷ One ∷ One ∷ Zero ∷ Zero ∷ Zero ∷ Zero ∷ One ∷ Zero ∷ Zero ∷ Marker ∷ Zero ∷ One ∷ One ∷ Zero ∷ Zero ∷ Zero ∷ One ∷ One ∷ Zero ∷ Marker ∷ One ∷ One ∷ Zero ∷ Zero ∷ Zero ∷ Zero ∷ Zero ∷ Zero ∷ Zero ∷ Marker ∷ Zero ∷ One ∷ One ∷ Zero ∷ Zero ∷ One ∷ Zero ∷ Zero ∷ Zero ∷ Marker ∷ Zero ∷ Zero ∷ Zero ∷ Zero ∷ Zero ∷ Zero ∷ Zero ∷ Zero ∷ Zero ∷ Marker ∷ Zero ∷ Zero ∷ Zero ∷ Zero ∷ Zero ∷ Zero ∷ Zero ∷ Zero ∷ Zero ∷ Marker ∷ Zero ∷ Zero ∷ One ∷ Zero ∷ Zero ∷ Zero ∷ One ∷ Zero ∷ One ∷ Marker ∷ Zero ∷ Zero ∷ Zero ∷ One ∷ Zero ∷ One ∷ Zero ∷ One ∷ Zero ∷ Marker ∷ []

abbrev claim : Claim
claim = record { at = at 86340; mark = Unspoken }

told : told_of rules frame ≡ tells.Claim claim
unfolding told_of frame_told coded_told ones values_of field_at control_of offset_in utc_minute is_month_end four_years
told = refl

unmarked : (l : Leap) → Unspoken ≡ true_mark (leaps l) (at 86340)
unfolding is_month_end four_years
unmarked l = refl

is_true : (l : Leap) → IsTrueClaim (with_leap l) 1 claim
is_true leap.Insert = record { second = (0, refl, record { from = omega arith; to = omega arith; sod = omega arith; sum = refl }); mark = unmarked leap.Insert }
is_true leap.Delete = record { second = (0, refl, record { from = omega arith; to = omega arith; sod = omega arith; sum = refl }); mark = unmarked leap.Delete }

abbrev line : ℕ → Symbol
line = line_of (λ f. frame) 1

is_line : (l : Leap) → IsLineOf rules (with_leap l) line
is_line l =
    checked_is_line rules (with_leap l) line
    (sent_is_checked rules (with_leap l) 1 (λ f. frame) (λ f low. (claim, (let first : 1 ≡ f + 1 = omega (arith, low) in subst (λ (n : ℕ). IsTrueClaim (with_leap l) n claim) first (is_true l)), (carries_is_told rules frame claim).0 told)))

-- ---- the calls: a hundred pulses, a tick 2 ms behind their end, and two a minute later

heard : ℕ → List Call
heard zero = []
heard (suc k) = Hear 0 (element_at edges k) (width_of (line k)) ∷ heard k

unfoldable calls_1 : List Call
calls_1 = heard 100

abbrev now_1 : ℕ
now_1 = 2002000

abbrev calls_2 : List Call
calls_2 = Tick now_1 ∷ calls_1

-- so many seconds behind the edge, which is told 1 us early
abbrev behind : ℕ → ℕ
behind n = 2007000 + 1000000 * n

abbrev calls_3 : ℕ → List Call
calls_3 n = Tick (behind n) ∷ calls_2

order : AreInOrder 900000 of.One (Tick (behind 60) ∷ calls_3 59) × AreInOrder 900000 of.One (Tick (behind 58) ∷ calls_3 57)
unfolding calls_1 heard width_of in_order have_risen is_after
order = (order_is 900000 of.One (Tick (behind 60) ∷ calls_3 59) refl, order_is 900000 of.One (Tick (behind 58) ∷ calls_3 57) refl)

truth : (l : Leap) → AreTrueAtTicks (IsTrueLately 450 rules (with_leap l) edges) 0 (Tick (behind 60) ∷ calls_3 59) × AreTrueAtTicks (IsTrueLately 450 rules (with_leap l) edges) 0 (Tick (behind 58) ∷ calls_3 57)
unfolding calls_1 heard width_of are_true_at_ticks are_true_lately are_lately last_before is_pulse_of is_same
truth l = (
  truly_is 450 rules (with_leap l) edges line (is_line l) 100 0 (Tick (behind 60) ∷ calls_3 59) refl,
  truly_is 450 rules (with_leap l) edges line (is_line l) 100 0 (Tick (behind 58) ∷ calls_3 57) refl,
)

-- ---- what the device says

abbrev device : TableValue → Keeping
device known = new_keeping rules clock known new_lines

abbrev held : Option UtcSecond → Lock → Cause → ℕ → ℕ → ℕ → Beat
held announce l c edge bound missed = record { report = record { announce = announce; lock = l; cause = c }; told = silence; edge_us = edge; bound_us = bound; missed = missed; moved = 0; against_table = false }

abbrev voted : Beat
voted = record {
  report = record { announce = Some (at 86341); lock = lock.Locked; cause = cause.Voted };
  told = record silence { a = tells.Claim claim };
  edge_us = 2000099;
  bound_us = 450;
  missed = 0;
  moved = 0;
  against_table = false;
}

-- 23:59:01 by the vote of its one line, at the end of its frame: the bound is 449 us and the drift of an
-- element
answer_1 : answer_at (after_calls (device (knows_leap leap.Insert)) calls_1) now_1 ≡ Some voted
unfolding calls_1 heard width_of step_checked goes_against step_of told_of frame_told coded_told ones values_of field_at control_of offset_in utc_minute is_month_end four_years
answer_1 = refl

-- 23:59:60 and the new year, with a table that has the leap second: the bound is 100 us more for each
-- second of the holdover
inserted : (answer_at (after_calls (device (knows_leap leap.Insert)) calls_2) (behind 59) ≡ Some (held (Some (at 86400)) (lock.Holdover 59) cause.Held 61000099 6350 58))
    × (answer_at (after_calls (device (knows_leap leap.Insert)) (calls_3 59)) (behind 60) ≡ Some (held (Some new_year) (lock.Holdover 60) cause.Held 62000099 6450 0))
unfolding calls_1 heard width_of step_checked goes_against step_of told_of frame_told coded_told ones values_of field_at control_of offset_in utc_minute is_month_end four_years
inserted = (refl, refl)

-- 23:59:58 and the new year, with one that has a deletion
deleted : (answer_at (after_calls (device (knows_leap leap.Delete)) calls_2) (behind 57) ≡ Some (held (Some (at 86398)) (lock.Holdover 57) cause.Held 59000099 6150 56))
    × (answer_at (after_calls (device (knows_leap leap.Delete)) (calls_3 57)) (behind 58) ≡ Some (held (Some new_year) (lock.Holdover 58) cause.Held 60000099 6250 0))
unfolding calls_1 heard width_of step_checked goes_against step_of told_of frame_told coded_told ones values_of field_at control_of offset_in utc_minute is_month_end four_years
deleted = (refl, refl)

-- 23:59:58 and nothing more, without a table: then no holdover lasts, and the bound is the vote's
unknown : (answer_at (after_calls (device no_table) calls_2) (behind 57) ≡ Some (held (Some (at 86398)) (lock.Holdover 57) cause.Held 59000099 6150 56))
    × (answer_at (after_calls (device no_table) (calls_3 57)) (behind 58) ≡ Some (held None lock.Unlocked cause.LeapGuard 60000099 450 0))
unfolding calls_1 heard width_of step_checked goes_against step_of told_of frame_told coded_told ones values_of field_at control_of offset_in utc_minute is_month_end four_years
unknown = (refl, refl)

-- ---- so the law speaks of it

module _ (l : Leap) (calls : List Call) (now : ℕ) (beat : Beat) (u : UtcSecond) (ordered : AreInOrder 900000 of.One (Tick now ∷ calls)) (are : AreTrueAtTicks (IsTrueLately 450 rules (with_leap l) edges) 0 (Tick now ∷ calls)) where
  by_law : answer_at (after_calls (device (knows_leap l)) calls) (now % 2 ^ 32) ≡ Some beat → beat.report.announce ≡ Some u → IsToldInHoldover (with_leap l) edges 0 0 clock now beat u
  by_law =
      device_true rules clock (knows_leap l) new_lines 900000 are_new (IsTrueLately 450 rules (with_leap l) edges) (with_leap l) edges 0 0 (is_device l) (omega arith)
      (λ time half end pulses c is f soon. true_by_any clock rules (with_leap l) 100 edges half time end pulses c steady is f soon) calls now beat u ordered are (plain_steps edges 0 0 (device (knows_leap l)) 900000 (record { off = refl; none = refl }) (is_device l).steady (Tick now ∷ calls))

told_60 : IsToldInHoldover (with_leap leap.Insert) edges 0 0 clock (behind 59) (held (Some (at 86400)) (lock.Holdover 59) cause.Held 61000099 6350 58) (at 86400)
told_60 = by_law leap.Insert calls_2 (behind 59) _ (at 86400) order.0.3 (truth leap.Insert).0.1 inserted.0 refl

told_new_year : IsToldInHoldover (with_leap leap.Insert) edges 0 0 clock (behind 60) (held (Some new_year) (lock.Holdover 60) cause.Held 62000099 6450 0) new_year
told_new_year = by_law leap.Insert (calls_3 59) (behind 60) _ new_year order.0 (truth leap.Insert).0 inserted.1 refl

told_without_59 : IsToldInHoldover (with_leap leap.Delete) edges 0 0 clock (behind 58) (held (Some new_year) (lock.Holdover 58) cause.Held 60000099 6250 0) new_year
told_without_59 = by_law leap.Delete (calls_3 57) (behind 58) _ new_year order.1 (truth leap.Delete).1 deleted.1 refl
