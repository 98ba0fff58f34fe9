-- Two devices of one line, by a counter that is 100 us a second fast, and by one that is as slow: they
-- stamp one instant, a quarter of a second behind 12:00:02. And one of a line that is less than 10 us
-- off, by the fast counter: each event between two of its seconds has a stamp.
use Rattle.std.proofs.Common.{◌≡◌, ℕ, zero, suc, ◌+◌, ◌*◌, ◌%◌, ◌^◌, ◌<◌, ◌≤◌, List, [], ◌∷◌, ◌++◌, Option, Some, None, refl, arith, false}
use Rattle.irig_frame.specs.declared.symbol.Symbol.{Symbol}
use Rattle.irig_frame.specs.Faults.{values_of, field_at}
use Rattle.irig_control.specs.Parity.{ones}
use Rattle.irig_control.specs.Control.{control_of, offset_in}
use Rattle.irig_sync.specs.Edges.{element_at}
use Rattle.irig_time.specs.declared.claim.Claim.{Claim}
use Rattle.irig_time.specs.Carries.{Carries}
use Rattle.irig_time.specs.Claims.{utc_minute}
use Rattle.irig_time.specs.Days.{is_month_end, four_years}
use Rattle.irig_time.specs.Timelines.{IsTrueClaim}
use Rattle.irig_port.specs.declared.told.Told.TheVariants as tells
use Rattle.irig_port.specs.Told.{told_of, frame_told, coded_told}
use Rattle.irig_port.proofs.CarriesLaws.{carries_is_told}
use Rattle.irig_vote.specs.declared.redundancy.Redundancy.TheVariants as of
use Rattle.irig_reader.specs.declared.report.Lock.TheVariants as lock
use Rattle.irig_reader.specs.declared.report.Cause.TheVariants as cause
use Rattle.irig_reader.specs.Rule.{step_of}
use Rattle.irig_timekeeper.proofs.LearnLaws.{plain_steps}
use Rattle.irig_timekeeper.specs.declared.clock.Beat.{Beat}
use Rattle.irig_lines.specs.declared.setup.ClockRules.{ClockRules}
use Rattle.irig_lines.specs.Refusals.{within_of}
use Rattle.irig_timekeeper.specs.declared.stamp.Stamp.{Stamp}
use Rattle.irig_lines.specs.Edges.{IsQuartz}
use Rattle.irig_lines.specs.Lines.{IsLineOf, IsTrueLately, line_of}
use Rattle.irig_timekeeper.specs.Keeping.{Keeping, new_keeping, answer_at, stamp_at}
use Rattle.irig_timekeeper.specs.Truth.{IsDevice, IsStampedTruly, IsInstant}
use Rattle.irig_timekeeper.specs.Life.{Call, AreInOrder, AreTrueAtTicks, after_calls}
use Rattle.irig_timekeeper.specs.Life.Call.{Hear, Tick}
use Rattle.irig_timekeeper.specs.Rows.{AreToldLast}
use Rattle.irig_lines.proofs.LineLaws.{true_by_any}
use Rattle.irig_timekeeper.proofs.RowLaws.{in_a_row, none_lost}
use Rattle.irig_timekeeper.proofs.StampLaws.{stamped, near_instant}
use Rattle.irig_lives.proofs.SentLines.{sent_is_checked, checked_is_line}
use Rattle.irig_lives.proofs.LifeFacts.{at, noon, no_delays, no_table, is_device, rules, claim_of, new_lines, are_new, silence, frame_0, frame_1, told_0, told_1, true_claim, width_of, usual}
use Rattle.irig_lives.specs.Decided.{is_after, have_risen, in_order, is_same, is_pulse_of, last_before, are_lately, are_true_lately, are_true_at_ticks}
use Rattle.irig_lives.proofs.DecidedLaws.{order_is, truly_is}
use Rattle.irig_timekeeper.specs.Rule.{step_checked, goes_against}

-- ---- the counters

abbrev counts : ℕ → ℕ → ℕ
counts second n = 1000000 + second * n

abbrev fast : ℕ → ℕ
fast = counts 1000100

abbrev slow : ℕ → ℕ
slow = counts 999900

fast_steady : IsQuartz 100 fast
fast_steady = record { few = omega arith; steady = record { least = λ n. omega arith; most = λ n. omega arith } }

slow_steady : IsQuartz 100 slow
slow_steady = record { few = omega arith; steady = record { least = λ n. omega arith; most = λ n. omega arith } }

abbrev clock : ClockRules
clock = record { reader_rules = record { lock_after = 1; holdover = 100 }; redundancy = of.One; within = within_of 450; limits = usual; drift_us = 100; wander_ppb = 0; delays = no_delays; prefers_frames = false }

by_counter : (edges : ℕ → ℕ) → IsQuartz 100 edges → IsDevice noon 100 edges clock.reader_rules no_table
by_counter edges steady = record { steady = steady; sound = is_device.sound; knows = is_device.knows }

-- ---- the line: two frames

frames : ℕ → List Symbol
frames zero = frame_0
frames (suc f) = frame_1

abbrev line : ℕ → Symbol
line = line_of frames 2

is_line : IsLineOf rules noon line
unfolding frames
is_line = checked_is_line rules noon line (sent_is_checked rules noon 2 frames carried)
  where
    carried : (f : ℕ) → f < 2 → (claim : Claim) × IsTrueClaim noon (f + 1) claim × Carries rules (frames f) claim
    carried zero low = (claim_of 43200, true_claim 0 43200 refl (omega arith), (carries_is_told rules frame_0 (claim_of 43200)).0 told_0)
    carried (suc zero) low = (claim_of 43201, true_claim 1 43201 refl (omega arith), (carries_is_told rules frame_1 (claim_of 43201)).0 told_1)
    carried (suc (suc f)) low = absurd (omega (arith, low))

-- ---- the calls: two hundred pulses, each at its time, and a tick 3 ms behind the second edge

heard : (ℕ → ℕ) → ℕ → List Call
heard edges zero = []
heard edges (suc k) = Hear 0 (element_at edges k) (width_of (line k)) ∷ heard edges k

abbrev now : ℕ
now = 3003000

unfoldable by_fast : List Call
by_fast = Tick now ∷ heard fast 200

unfoldable by_slow : List Call
by_slow = Tick now ∷ heard slow 200

-- when the device is asked for a stamp
abbrev asked : ℕ
asked = 3300000

order : AreInOrder 900000 of.One (Tick asked ∷ by_fast) × AreInOrder 900000 of.One (Tick asked ∷ by_slow)
unfolding by_fast by_slow heard width_of frames in_order have_risen is_after
order = (order_is 900000 of.One (Tick asked ∷ by_fast) refl, order_is 900000 of.One (Tick asked ∷ by_slow) refl)

fast_truth : AreTrueAtTicks (IsTrueLately 450 rules noon fast) 0 by_fast
unfolding by_fast heard width_of frames are_true_at_ticks are_true_lately are_lately last_before is_pulse_of is_same
fast_truth = truly_is 450 rules noon fast line is_line 200 0 by_fast refl

slow_truth : AreTrueAtTicks (IsTrueLately 450 rules noon slow) 0 by_slow
unfolding by_slow heard width_of frames are_true_at_ticks are_true_lately are_lately last_before is_pulse_of is_same
slow_truth = truly_is 450 rules noon slow line is_line 200 0 by_slow refl

-- ---- the instant, by each counter

instants : IsInstant 100 fast 2 250000 3250225 × IsInstant 100 slow 2 250000 3249775
instants = (
  record { least = omega arith; most = omega arith; begun = omega arith; before_next = omega arith },
  record { least = omega arith; most = omega arith; begun = omega arith; before_next = omega arith },
)

-- ---- the stamps: 12:00:02 and a quarter of a second, but for what the counters drifted in a second.
-- Of one line the edge is the end of its frame, and the bound that of the frame, 449 us and the drift of
-- an element

abbrev device : Keeping
device = new_keeping rules clock no_table new_lines

abbrev fast_stamp : Stamp
fast_stamp = record { second = at 43202; offset_us = 250026; bound_us = 450 }

abbrev slow_stamp : Stamp
slow_stamp = record { second = at 43202; offset_us = 249974; bound_us = 450 }

stamps : (stamp_at (after_calls device by_fast) 3250225 ≡ Some fast_stamp) × (stamp_at (after_calls device by_slow) 3249775 ≡ Some slow_stamp)
unfolding by_fast by_slow heard width_of frames step_checked goes_against step_of told_of frame_told coded_told ones values_of field_at control_of offset_in utc_minute is_month_end four_years
stamps = (refl, refl)

fast_true : IsStampedTruly noon fast 0 3250225 fast_stamp
fast_true =
    stamped rules clock no_table new_lines 900000 are_new noon fast 0 0 0 (by_counter fast fast_steady) (omega arith) (omega arith) (IsTrueLately 450 rules noon fast) (omega arith)
    (λ time half end pulses c is f soon. true_by_any clock rules noon 100 fast half time end pulses c fast_steady is f soon) by_fast 3250225 asked order.0 fast_truth (plain_steps fast 0 0 (device) 900000 (record { off = refl; none = refl }) (by_counter fast fast_steady).steady (by_fast)) (omega arith) (omega arith) fast_stamp stamps.0

slow_true : IsStampedTruly noon slow 0 3249775 slow_stamp
slow_true =
    stamped rules clock no_table new_lines 900000 are_new noon slow 0 0 0 (by_counter slow slow_steady) (omega arith) (omega arith) (IsTrueLately 450 rules noon slow) (omega arith)
    (λ time half end pulses c is f soon. true_by_any clock rules noon 100 slow half time end pulses c slow_steady is f soon) by_slow 3249775 asked order.1 slow_truth (plain_steps slow 0 0 (device) 900000 (record { off = refl; none = refl }) (by_counter slow slow_steady).steady (by_slow)) (omega arith) (omega arith) slow_stamp stamps.1

-- what the law says of them: they name instants that lie at most 1,300 us apart, by both bounds and
-- the drift of two seconds of each. They lie 52 us apart
together : (fast_true.m * 1000000 + fast_stamp.offset_us ≤ slow_true.m * 1000000 + slow_stamp.offset_us + 1300)
    × (slow_true.m * 1000000 + slow_stamp.offset_us ≤ fast_true.m * 1000000 + fast_stamp.offset_us + 1300)
together =
    let p = near_instant noon 100 fast fast_steady 2 250000 3250225 instants.0 fast_stamp fast_true in
    let q = near_instant noon 100 slow slow_steady 2 250000 3249775 instants.1 slow_stamp slow_true in
    (omega (arith, p.1, q.0), omega (arith, q.1, p.0))

-- ---- seconds in a row. By the fast counter they lie 1,000,100 us apart, which is more than a second and
-- their bound, 10 us: that of a true line's frame, 9 us and 1 us for the drift of an element

abbrev exact : ClockRules
exact = record { reader_rules = record { lock_after = 1; holdover = 100 }; redundancy = of.One; within = within_of 10; limits = usual; drift_us = 100; wander_ppb = 0; delays = no_delays; prefers_frames = false }

abbrev exact_device : Keeping
exact_device = new_keeping rules exact no_table new_lines

-- a tick 3 ms behind each edge
abbrev first_now : ℕ
first_now = 2003100

abbrev then_now : ℕ
then_now = 3003200

pulses_from : ℕ → ℕ → List Call
pulses_from first zero = []
pulses_from first (suc k) = Hear 0 (element_at fast (first + k)) (width_of (line (first + k))) ∷ pulses_from first k

unfoldable first_calls : List Call
first_calls = pulses_from 0 100

unfoldable between : List Call
between = pulses_from 100 100

abbrev calls : List Call
calls = Tick then_now ∷ (between ++ (Tick first_now ∷ first_calls))

calls_in_order : AreInOrder 900000 of.One calls
unfolding first_calls between pulses_from width_of frames in_order have_risen is_after
calls_in_order = order_is 900000 of.One calls refl

calls_truth : AreTrueAtTicks (IsTrueLately 10 rules noon fast) 0 calls
unfolding first_calls between pulses_from width_of frames are_true_at_ticks are_true_lately are_lately last_before is_pulse_of is_same
calls_truth = truly_is 10 rules noon fast line is_line 200 0 calls refl

-- a frame ends 10 ms behind its last pulse, by this counter 1 us before its edge
abbrev first_beat : Beat
first_beat = record {
  report = record { announce = Some (at 43201); lock = lock.Locked; cause = cause.Voted };
  told = record silence { a = tells.Claim (claim_of 43200) };
  edge_us = 2000099;
  bound_us = 10;
  missed = 0;
  moved = 0;
  against_table = false;
}

abbrev then_beat : Beat
then_beat = record {
  report = record { announce = Some (at 43202); lock = lock.Locked; cause = cause.Voted };
  told = record silence { a = tells.Claim (claim_of 43201) };
  edge_us = 3000199;
  bound_us = 10;
  missed = 0;
  moved = 0;
  against_table = false;
}

answers : (answer_at (after_calls exact_device first_calls) (first_now % 2 ^ 32) ≡ Some first_beat) × (answer_at (after_calls exact_device (between ++ (Tick first_now ∷ first_calls))) (then_now % 2 ^ 32) ≡ Some then_beat)
unfolding first_calls between pulses_from width_of frames step_checked goes_against step_of told_of frame_told coded_told ones values_of field_at control_of offset_in utc_minute is_month_end four_years
answers = (refl, refl)

row : AreToldLast exact_device calls first_beat then_beat 2000099 3000199
unfolding between pulses_from
row = record {
  later = [];
  now = then_now;
  between = between;
  before = first_now;
  earlier = first_calls;
  are = refl;
  told = answers.0;
  silent = tt;
  told_then = answers.1;
  silent_since = tt;
  at = record { clock = omega arith; come = omega arith; soon = omega arith };
  at_then = record { clock = omega arith; come = omega arith; soon = omega arith };
}

-- an event more than a second and 10 us behind the first edge, the last one before the next edge, one on
-- it, the last that has a stamp by it, and one behind that
abbrev stamp_of_row : ℕ → Option Stamp
stamp_of_row time = stamp_at (after_calls exact_device calls) time

abbrev named : (sod offset : ℕ) → Option Stamp
named sod offset = Some (record { second = at sod; offset_us = offset; bound_us = 10 })

stamps_of_row : (stamp_of_row 3000149 ≡ named 43201 1000050) × (stamp_of_row 3000198 ≡ named 43201 1000099) × (stamp_of_row 3000199 ≡ named 43202 0) × (stamp_of_row 4000209 ≡ named 43202 1000010) × (stamp_of_row 4000210 ≡ None)
unfolding first_calls between pulses_from width_of frames step_checked goes_against step_of told_of frame_told coded_told ones values_of field_at control_of offset_in utc_minute is_month_end four_years
stamps_of_row = (refl, refl, refl, refl, refl)

-- by the laws each has one from the first edge on to that last time
near : 3000199 < 2000099 + 1500000
near =
    in_a_row rules exact no_table new_lines 900000 are_new (IsTrueLately 10 rules noon fast) noon fast 0 0 (by_counter fast fast_steady) (omega arith)
    (λ time half end pulses c is f soon. true_by_any exact rules noon 100 fast half time end pulses c fast_steady is f soon) calls first_beat then_beat 2000099 3000199 (at 43201) calls_in_order calls_truth (plain_steps fast 0 0 (exact_device) 900000 (record { off = refl; none = refl }) (by_counter fast fast_steady).steady (calls)) row refl refl

each_has_one : (time : ℕ) → 2000099 ≤ time → time ≤ 4000209 → (stamp : Stamp) × (stamp_at (after_calls exact_device calls) (time % 2 ^ 32) ≡ Some stamp)
each_has_one time from upto = none_lost exact_device calls first_beat then_beat 2000099 3000199 (at 43201) (at 43202) row refl refl time near from (omega (arith, upto))
