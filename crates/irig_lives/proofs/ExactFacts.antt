-- Three lines that are less than 10 us off, by a counter that is 1 us a second fast. Of the first second
-- all three tell the truth, and of the next one the line lies that ends between the others.
use Rattle.std.proofs.Common.{◌≡◌, ℕ, zero, suc, ◌+◌, ◌-◌, ◌*◌, ◌/◌, ◌%◌, ◌^◌, ◌<◌, cond, List, [], ◌∷◌, Some, None, refl, arith, inl, inr, false}
use Rattle.std.specs.Prelude.{◌==◌, get_or}
use Rattle.irig_frame.specs.declared.symbol.Symbol.{Symbol}
use Rattle.irig_frame.specs.declared.symbol.Symbol.TheVariants.{Zero}
use Rattle.irig_frame.specs.Faults.{values_of, field_at}
use Rattle.irig_control.specs.Parity.{ones}
use Rattle.irig_control.specs.Control.{control_of, offset_in}
use Rattle.irig_sync.specs.Edges.{element_at}
use Rattle.irig_sync.specs.Lines.{Pulse, pulse_at}
use Rattle.irig_sync.proofs.EdgeLaws.{even_element}
use Rattle.irig_time.specs.declared.claim.Claim.{Claim}
use Rattle.irig_time.specs.Carries.{Carries}
use Rattle.irig_time.specs.Claims.{utc_minute}
use Rattle.irig_time.specs.Days.{is_month_end, four_years}
use Rattle.irig_time.specs.Timelines.{IsTrueClaim}
use Rattle.irig_port.specs.declared.told.Told.TheVariants as tells
use Rattle.irig_port.specs.Told.{told_of, frame_told, coded_told}
use Rattle.irig_port.proofs.CarriesLaws.{carries_is_told}
use Rattle.irig_vote.specs.declared.redundancy.Redundancy.TheVariants as of
use Rattle.irig_reader.specs.declared.report.Lock.TheVariants as lock
use Rattle.irig_reader.specs.declared.report.Cause.TheVariants as cause
use Rattle.irig_reader.specs.Rule.{step_of}
use Rattle.irig_timekeeper.proofs.LearnLaws.{plain_steps}
use Rattle.irig_timekeeper.specs.declared.clock.Beat.{Beat}
use Rattle.irig_lines.specs.declared.setup.ClockRules.{ClockRules}
use Rattle.irig_timekeeper.specs.declared.stamp.Stamp.{Stamp}
use Rattle.irig_lines.specs.Refusals.{within_of}
use Rattle.irig_lines.specs.Clocks.{IsTrueByItsClock}
use Rattle.irig_lines.specs.Edges.{IsQuartz}
use Rattle.irig_lines.specs.Lines.{IsLineOf, IsTrueLately, line_of}
use Rattle.irig_timekeeper.specs.Keeping.{Keeping, new_keeping, vote_at, answer_at, stamp_at}
use Rattle.irig_timekeeper.specs.Truth.{IsDevice, IsToldInHoldover, IsStampedTruly}
use Rattle.irig_timekeeper.specs.Life.{Call, Made, life_of, AreInOrder, AreTrueAtTicks, after_calls}
use Rattle.irig_timekeeper.specs.Life.Call.{Hear, Tick}
use Rattle.irig_lines.proofs.LineLaws.{true_by_any}
use Rattle.irig_timekeeper.proofs.LifeLaws.{TellAlwaysTruly, device_true}
use Rattle.irig_timekeeper.proofs.StampLaws.{stamped}
use Rattle.irig_timekeeper.proofs.StrayLaws.{never_strays}
use Rattle.irig_timekeeper.proofs.ClockLines.{clocks_tell_truly}
use Rattle.irig_lives.proofs.SentLines.{sent_is_checked, checked_is_line}
use Rattle.irig_lives.proofs.LifeFacts.{at, noon, no_delays, no_table, is_device, rules, claim_of, new_lines, are_new, silence, frame_0, frame_1, frame_2, told_0, told_1, true_claim, width_of, usual}
use Rattle.irig_lives.specs.Decided.{is_after, have_risen, in_order, is_same, is_pulse_of, last_before, are_lately, are_true_lately, are_true_at_ticks}
use Rattle.irig_lives.proofs.DecidedLaws.{order_is, still_true, truly_is}
use Rattle.irig_timekeeper.specs.Rule.{step_checked, goes_against}

-- ---- the world

abbrev pub exact_edges : ℕ → ℕ
exact_edges n = 1000000 + 1000001 * n

abbrev edges : ℕ → ℕ
edges = exact_edges

pub exact_steady : IsQuartz 1 exact_edges
exact_steady = record { few = omega arith; steady = record { least = λ n. omega arith; most = λ n. omega arith } }

-- lines that are so exact
abbrev clock_of : ℕ → ClockRules
clock_of within = record { reader_rules = record { lock_after = 1; holdover = 100 }; redundancy = of.Three; within = within_of within; limits = usual; drift_us = 1; wander_ppb = 0; delays = no_delays; prefers_frames = false }

abbrev clock : ClockRules
clock = clock_of 10

by_counter : IsDevice noon 1 edges clock.reader_rules no_table
by_counter = record { steady = exact_steady; sound = is_device.sound; knows = is_device.knows }

-- ---- the line that is true: two frames

frames : ℕ → List Symbol
frames zero = frame_0
frames (suc f) = frame_1

abbrev line : ℕ → Symbol
line = line_of frames 2

is_line : IsLineOf rules noon line
unfolding frames
is_line = checked_is_line rules noon line (sent_is_checked rules noon 2 frames carried)
  where
    carried : (f : ℕ) → f < 2 → (claim : Claim) × IsTrueClaim noon (f + 1) claim × Carries rules (frames f) claim
    carried zero low = (claim_of 43200, true_claim 0 43200 refl (omega arith), (carries_is_told rules frame_0 (claim_of 43200)).0 told_0)
    carried (suc zero) low = (claim_of 43201, true_claim 1 43201 refl (omega arith), (carries_is_told rules frame_1 (claim_of 43201)).0 told_1)
    carried (suc (suc f)) low = absurd (omega (arith, low))

-- ---- the calls: two hundred pulses of each line, and a tick 2 ms behind each edge. The pulses of line 0
-- come 9 us early, those of line 2 9 us late. Line 1 sends another second's frame for the next one

lies : ℕ → List Symbol
lies zero = frame_0
lies (suc f) = frame_2

lie : ℕ → Symbol
lie k = get_or (lies (k / 100)) (k % 100) Zero

with_element : ℕ → List Call → List Call
with_element k calls =
    Hear 2 (element_at edges k + 9) (width_of (line k))
    ∷ (Hear 1 (element_at edges k) (width_of (lie k)) ∷ (Hear 0 (element_at edges k - 9) (width_of (line k)) ∷ calls))

abbrev now_1 : ℕ
now_1 = 2002001

abbrev now_2 : ℕ
now_2 = 3002002

with_tick : ℕ → List Call → List Call
with_tick k calls = cond (k == 100) (Tick now_1 ∷ calls) calls

elements : ℕ → List Call
elements zero = []
elements (suc k) = with_element k (with_tick k (elements k))

unfoldable calls_1 : List Call
calls_1 = elements 100

unfoldable calls_2 : List Call
calls_2 = elements 200

-- when the device is asked for a stamp
abbrev asked : ℕ
asked = 3300000

order : AreInOrder 900000 of.Three (Tick now_1 ∷ calls_1) × AreInOrder 900000 of.Three (Tick asked ∷ (Tick now_2 ∷ calls_2))
unfolding calls_1 calls_2 elements with_element with_tick width_of frames lies lie in_order have_risen is_after
order = (order_is 900000 of.Three (Tick now_1 ∷ calls_1) refl, order_is 900000 of.Three (Tick asked ∷ (Tick now_2 ∷ calls_2)) refl)

truth : AreTrueAtTicks (IsTrueLately 10 rules noon edges) 1 (Tick now_1 ∷ calls_1) × AreTrueAtTicks (IsTrueLately 10 rules noon edges) 1 (Tick now_2 ∷ calls_2)
unfolding calls_1 calls_2 elements with_element with_tick width_of frames lies lie are_true_at_ticks are_true_lately are_lately last_before is_pulse_of is_same
truth = (truly_is 10 rules noon edges line is_line 100 1 (Tick now_1 ∷ calls_1) refl, truly_is 10 rules noon edges line is_line 200 1 (Tick now_2 ∷ calls_2) refl)

-- ---- what the device says

abbrev device : ClockRules → Keeping
device c = new_keeping rules c no_table new_lines

-- a frame ends 10 ms behind its last pulse, which by this counter is 1 us before its edge: the three end
-- 10 us and 1 us before the edge, at 2,000,001, and 8 us behind it. More than one end by the middle one's
-- end, and more than one from it on. So that is the edge on which they agree, and its bound is that of a
-- true line's frame, 9 us with 1 us for the drift of an element
abbrev beat_1 : Beat
beat_1 = record {
  report = record { announce = Some (at 43201); lock = lock.Locked; cause = cause.Voted };
  told = record silence { a = tells.Claim (claim_of 43200); b = tells.Claim (claim_of 43200); c = tells.Claim (claim_of 43200) };
  edge_us = 2000000;
  bound_us = 10;
  missed = 0;
  moved = 0;
  against_table = false;
}

-- without line 1 the frames end 10 us before the edge, at 3,000,002, and 8 us behind it. The lines agree on
-- the middle, and its bound is 10 us and half of what lies between these ends, 18 us
abbrev beat_2 : Beat
beat_2 = record {
  report = record { announce = Some (at 43202); lock = lock.Locked; cause = cause.Voted };
  told = record silence { a = tells.Claim (claim_of 43201); b = tells.Claim (claim_of 43202); c = tells.Claim (claim_of 43201) };
  edge_us = 3000001;
  bound_us = 19;
  missed = 0;
  moved = 0;
  against_table = false;
}

answers : (answer_at (after_calls (device clock) calls_1) (now_1 % 2 ^ 32) ≡ Some beat_1) × (answer_at (after_calls (device clock) calls_2) (now_2 % 2 ^ 32) ≡ Some beat_2)
unfolding calls_1 calls_2 elements with_element with_tick width_of frames lies lie step_checked goes_against step_of told_of frame_told coded_told ones values_of field_at control_of offset_in utc_minute is_month_end four_years
answers = (refl, refl)

-- an event a quarter of a second behind the last edge
abbrev stamp : Stamp
stamp = record { second = at 43202; offset_us = 250000; bound_us = 19 }

stamp_is : stamp_at (after_calls (device clock) (Tick now_2 ∷ calls_2)) 3250001 ≡ Some stamp
unfolding calls_2 elements with_element with_tick width_of frames lies lie step_checked goes_against step_of told_of frame_told coded_told ones values_of field_at control_of offset_in utc_minute is_month_end four_years
stamp_is = refl

-- ---- so the laws speak of it

pub exact_truly : TellAlwaysTruly (IsTrueLately 10 rules noon exact_edges) clock rules noon exact_edges 0 0
exact_truly now half end pulses claim is frame soon = true_by_any clock rules noon 1 exact_edges half now end pulses claim exact_steady is frame soon

first_told : IsToldInHoldover noon edges 0 0 clock now_1 beat_1 (at 43201)
first_told = device_true rules clock no_table new_lines 900000 are_new (IsTrueLately 10 rules noon edges) noon edges 0 0 by_counter (omega arith) exact_truly calls_1 now_1 beat_1 (at 43201) order.0 truth.0 (plain_steps edges 0 0 (device clock) 900000 (record { off = refl; none = refl }) by_counter.steady (Tick now_1 ∷ calls_1)) answers.0 refl

next_told : IsToldInHoldover noon edges 0 0 clock now_2 beat_2 (at 43202)
next_told = device_true rules clock no_table new_lines 900000 are_new (IsTrueLately 10 rules noon edges) noon edges 0 0 by_counter (omega arith) exact_truly calls_2 now_2 beat_2 (at 43202) order.1.3 truth.1 (plain_steps edges 0 0 (device clock) 900000 (record { off = refl; none = refl }) by_counter.steady (Tick now_2 ∷ calls_2)) answers.1 refl

stamp_true : IsStampedTruly noon edges 0 3250001 stamp
stamp_true =
    stamped rules clock no_table new_lines 900000 are_new noon edges 0 0 0 by_counter (omega arith) (omega arith) (IsTrueLately 10 rules noon edges) (omega arith) exact_truly
    (Tick now_2 ∷ calls_2) 3250001 asked order.1 truth.1 (plain_steps edges 0 0 (device clock) 900000 (record { off = refl; none = refl }) by_counter.steady (Tick now_2 ∷ calls_2)) (omega arith) (omega arith) stamp stamp_is

-- the first vote leaves 20 us, from 1,999,990 on; a second later, by a counter that runs 1 us a second
-- wrong, 22 us from 2,999,989 on, of which the second vote, with 38 us from 2,999,982 on, cuts nothing
known : (after_calls (device clock) (Tick now_2 ∷ calls_2)).state.interval ≡ Some (record { begin_us = 2999989; long_us = 22 })
unfolding calls_2 elements with_element with_tick width_of frames lies lie step_checked goes_against step_of told_of frame_told coded_told ones values_of field_at control_of offset_in utc_minute is_month_end four_years
known = refl

made : Made
made = record { rules = rules; clock = clock; table = no_table; lines = new_lines; fresh = are_new }

no_stray : (life_of made (Tick now_2 ∷ calls_2)).state.strays ≡ 0
unfolding made
no_stray = never_strays noon edges made 900000 (Tick now_2 ∷ calls_2) (record { is = by_counter; learns = inl refl; order = order.1.3; truth = truth.1 })

-- ---- what that exactness asks

-- a line that brings a pulse 10 us off is not true
off : ¬ IsTrueLately 10 rules noon edges 1100000 (pulse_at 1000010 8000 ∷ [])
off is = elim is.are [
  | inl old ↦ absurd (omega (arith, old.0))
  | inr new ↦ (let low : new.0 % 100 < 100 = omega arith in let time = even_element 1000001 edges (λ n. omega arith) new.0 in absurd (omega (arith, low, time, new.2.0.0, new.2.0.1)))
]

-- and of lines that are to be less than 9 us off, no two agree that end 18 us apart
apart : vote_at (after_calls (device (clock_of 9)) calls_2) (now_2 % 2 ^ 32) ≡ None
unfolding calls_2 elements with_element with_tick width_of frames lies lie step_checked goes_against step_of told_of frame_told coded_told ones values_of field_at control_of offset_in utc_minute is_month_end four_years
apart = refl

-- ---- clocks that are all 10 us late: the same pulses, by seconds of UTC that begin so much earlier

abbrev utc : ℕ → ℕ
utc n = 999990 + 1000001 * n

by_utc : IsDevice noon 1 utc clock.reader_rules no_table
by_utc = record { steady = record { few = omega arith; steady = record { least = λ n. omega arith; most = λ n. omega arith } }; sound = is_device.sound; knows = is_device.knows }

by_clocks : (now : ℕ) (pulses : List Pulse) → IsTrueLately 10 rules noon edges now pulses → IsTrueByItsClock 10 10 1 rules noon utc now pulses
by_clocks now pulses is = record { own = edges; steady = exact_steady; near = λ n. record { least = omega arith; most = omega arith }; truth = is }

-- the edge that is told lies 9 us behind that of UTC, 2,999,992: no more than its bound, 19 us, and 10 us
told_late : IsToldInHoldover noon utc 10 10 clock now_2 beat_2 (at 43202)
told_late =
    device_true rules clock no_table new_lines 900000 are_new (IsTrueByItsClock 10 10 1 rules noon utc) noon utc 10 10 by_utc (omega arith) (clocks_tell_truly 10 clock rules noon utc) calls_2 now_2 beat_2
    (at 43202) order.1.3 (still_true (IsTrueLately 10 rules noon edges) (IsTrueByItsClock 10 10 1 rules noon utc) by_clocks 1 (Tick now_2 ∷ calls_2) truth.1) (plain_steps utc 10 10 (device clock) 900000 (record { off = refl; none = refl }) by_utc.steady (Tick now_2 ∷ calls_2)) answers.1 refl
