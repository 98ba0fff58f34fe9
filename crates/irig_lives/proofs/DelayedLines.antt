-- A device takes off the delays of its lines: of three lines less than 450 us off, by a counter that is
-- 100 us a second fast and wraps, the pulses of one come 3,000 us late, and those of another one 2,500 us
-- early. Its life is that of the pulses as they rose at their clocks. So is it where lines are less than
-- 10 us off.
use Rattle.irig_lines.proofs.LineLaws.{true_by_any}
use Rattle.std.proofs.Common.{◌≡◌, ◌∙◌, ℕ, zero, suc, ◌+◌, ◌-◌, ◌%◌, ◌^◌, ◌≤◌, List, [], ◌∷◌, map, Some, None, pos, negsuc, refl, sym, ap, arith, false}
use Rattle.irig_frame.specs.Faults.{values_of, field_at}
use Rattle.irig_control.specs.Parity.{ones}
use Rattle.irig_control.specs.Control.{control_of, offset_in}
use Rattle.irig_sync.specs.Edges.{element_at}
use Rattle.irig_time.specs.Claims.{utc_minute}
use Rattle.irig_time.specs.Days.{is_month_end, four_years}
use Rattle.irig_port.specs.declared.told.Told.TheVariants as tells
use Rattle.irig_port.specs.Told.{told_of, frame_told, coded_told}
use Rattle.irig_vote.specs.declared.redundancy.Redundancy.TheVariants as of
use Rattle.irig_reader.specs.declared.report.Lock.TheVariants as lock
use Rattle.irig_reader.specs.declared.report.Cause.TheVariants as cause
use Rattle.irig_reader.specs.Rule.{step_of}
use Rattle.irig_timekeeper.proofs.LearnLaws.{plain_steps}
use Rattle.irig_timekeeper.specs.declared.clock.Beat.{Beat}
use Rattle.irig_lines.specs.declared.delay.Delays.{Delays}
use Rattle.irig_timekeeper.specs.declared.states.LineState.TheVariants as is
use Rattle.irig_lines.specs.Delays.{corrected, delay_at}
use Rattle.irig_lines.specs.Refusals.{within_of}
use Rattle.irig_lines.specs.Lines.{IsTrueLately}
use Rattle.irig_timekeeper.specs.Keeping.{Keeping, after_pulse, after_tick, vote_at, answer_at, new_keeping}
use Rattle.irig_timekeeper.specs.Truth.{IsToldInHoldover}
use Rattle.irig_timekeeper.specs.Life.{Call, Made, device_of, life_of, AreInOrder, AreTrueAtTicks}
use Rattle.irig_timekeeper.specs.Life.Call.{Hear, Tick}
use Rattle.irig_timekeeper.specs.States.{state_of}
use Rattle.irig_timekeeper.proofs.LifeLaws.{device_true}
use Rattle.irig_lives.specs.Decided.{is_after, have_risen, in_order, is_same, is_pulse_of, last_before, are_lately, are_true_lately, are_true_at_ticks}
use Rattle.irig_lives.proofs.DecidedLaws.{order_is, truly_is}
use Rattle.irig_lives.proofs.ExactFacts.{exact_edges, exact_steady}
use Rattle.irig_lives.proofs.LifeFacts.{edges, steady, at, noon, no_delays, no_table, is_device, rules, claim_of, new_lines, are_new, silence, frame, line, is_line, width_of, usual}
use Rattle.irig_timekeeper.specs.Rule.{step_checked, goes_against}

-- ---- each time by a counter of 32 bits, from which a delay is taken

late_is : (rise : ℕ) → corrected ((rise + 3000) % 2 ^ 32) (pos 3000) ≡ rise % 2 ^ 32
late_is rise = omega arith

early_is : (rise : ℕ) → 2500 ≤ rise → corrected ((rise - 2500) % 2 ^ 32) (negsuc 2499) ≡ rise % 2 ^ 32
early_is rise later = omega (arith, later)

-- ---- a device that knows these delays, or none

abbrev delays : Delays
delays = record no_delays { a = pos 3000; b = negsuc 2499 }

abbrev made_with : Delays → Made
made_with late = record {
  rules = rules;
  clock = record { reader_rules = record { lock_after = 1; holdover = 100 }; redundancy = of.Three; within = within_of 450; limits = usual; drift_us = 100; wander_ppb = 0; delays = late; prefers_frames = false };
  table = no_table;
  lines = new_lines;
  fresh = are_new;
}

-- behind the calls that it is told, the newest first: it takes the delay of its line off each rise
told : Keeping → List Call → Keeping
told k [] = k
told k (Hear port rise width ∷ calls) = (let before = told k calls in after_pulse before port (corrected (rise % 2 ^ 32) (delay_at before.clock.delays port)) width)
told k (Tick now ∷ calls) = after_tick (told k calls) (now % 2 ^ 32)

-- ---- the pulses of a second as they rose at their clocks, and as they come

sent : (ℕ → ℕ) → (off : ℕ) → ℕ → List Call
sent seconds off zero = []
sent seconds off (suc k) =
    Hear 2 (element_at seconds (100 + k)) (width_of (line (100 + k)))
    ∷ Hear 1 (element_at seconds (100 + k) - off) (width_of (line (100 + k)))
    ∷ Hear 0 (element_at seconds (100 + k) + off) (width_of (line (100 + k)))
    ∷ sent seconds off k

unfoldable calls : List Call
calls = sent edges 400 100

come : Call → Call
come (Hear zero rise width) = Hear 0 (rise + 3000) width
come (Hear (suc zero) rise width) = Hear 1 (rise - 2500) width
come (Hear (suc (suc port)) rise width) = Hear (suc (suc port)) rise width
come (Tick now) = Tick now

abbrev now : ℕ
now = 4295502200

-- what it is told of them makes the life of those pulses
same_life : told (device_of (made_with delays)) (map come calls) ≡ life_of (made_with delays) calls
unfolding calls sent told come width_of line frame step_checked goes_against step_of told_of frame_told coded_told ones values_of field_at control_of offset_in utc_minute is_month_end four_years
same_life = refl

-- ---- so the laws speak of it: by their clocks the lines are true

order : AreInOrder 4294400000 of.Three (Tick now ∷ calls)
unfolding calls sent width_of line frame in_order have_risen is_after
order = order_is 4294400000 of.Three (Tick now ∷ calls) refl

truth : AreTrueAtTicks (IsTrueLately 450 rules noon edges) 1 (Tick now ∷ calls)
unfolding calls sent width_of line frame are_true_at_ticks are_true_lately are_lately last_before is_pulse_of is_same
truth = truly_is 450 rules noon edges line is_line 200 1 (Tick now ∷ calls) refl

-- the three frames end 399 us behind the edge, 401 us before it and 1 us before it. The lines agree on the
-- last of these ends
abbrev beat : Beat
beat = record {
  report = record { announce = Some (at 43202); lock = lock.Locked; cause = cause.Voted };
  told = record silence { a = tells.Claim (claim_of 43201); b = tells.Claim (claim_of 43201); c = tells.Claim (claim_of 43201) };
  edge_us = 532903;
  bound_us = 450;
  missed = 0;
  moved = 0;
  against_table = false;
}

answer : answer_at (told (device_of (made_with delays)) (map come calls)) (now % 2 ^ 32) ≡ Some beat
unfolding calls sent told come width_of line frame step_checked goes_against step_of told_of frame_told coded_told ones values_of field_at control_of offset_in utc_minute is_month_end four_years
answer = refl

states : (state_of (made_with delays).clock (told (device_of (made_with delays)) (Tick now ∷ map come calls)).state 0 ≡ is.Agreed)
    × (state_of (made_with delays).clock (told (device_of (made_with delays)) (Tick now ∷ map come calls)).state 1 ≡ is.Agreed)
    × (state_of (made_with delays).clock (told (device_of (made_with delays)) (Tick now ∷ map come calls)).state 2 ≡ is.Agreed)
unfolding calls sent told come width_of line frame step_checked goes_against step_of told_of frame_told coded_told ones values_of field_at control_of offset_in utc_minute is_month_end four_years
states = (refl, refl, refl)

by_clocks : answer_at (life_of (made_with delays) calls) (now % 2 ^ 32) ≡ Some beat
by_clocks = ap (λ (k : Keeping). answer_at k (now % 2 ^ 32)) (sym same_life) ∙ answer

told_truly : IsToldInHoldover noon edges 0 0 (made_with delays).clock now beat (at 43202)
told_truly =
    device_true rules (made_with delays).clock no_table new_lines 4294400000 are_new (IsTrueLately 450 rules noon edges) noon edges 0 0 (record { steady = steady; sound = is_device.sound; knows = is_device.knows }) (omega arith)
    (λ now half end pulses claim is frame soon. true_by_any (made_with delays).clock rules noon 100 edges half now end pulses claim steady is frame soon) calls now beat (at 43202) order truth (plain_steps edges 0 0 (new_keeping rules (made_with delays).clock no_table new_lines) 4294400000 (record { off = refl; none = refl }) steady (Tick now ∷ calls)) by_clocks refl

-- ---- a device that does not know the delays has no vote of the same pulses

no_vote : vote_at (told (device_of (made_with no_delays)) (map come calls)) (now % 2 ^ 32) ≡ None
unfolding calls sent told come width_of line frame step_checked goes_against step_of told_of frame_told coded_told ones values_of field_at control_of offset_in utc_minute is_month_end four_years
no_vote = refl

-- ---- the same delays of lines that are less than 10 us off, by a counter that is 1 us a second fast

abbrev exact : Made
exact = record (made_with delays) { clock = record (made_with delays).clock { within = within_of 10; limits = usual; drift_us = 1 } }

unfoldable exact_calls : List Call
exact_calls = sent exact_edges 9 100

abbrev exact_now : ℕ
exact_now = 3002002

same_exactly : told (device_of exact) (map come exact_calls) ≡ life_of exact exact_calls
unfolding exact_calls sent told come width_of line frame step_checked goes_against step_of told_of frame_told coded_told ones values_of field_at control_of offset_in utc_minute is_month_end four_years
same_exactly = refl

exact_order : AreInOrder 1900000 of.Three (Tick exact_now ∷ exact_calls)
unfolding exact_calls sent width_of line frame in_order have_risen is_after
exact_order = order_is 1900000 of.Three (Tick exact_now ∷ exact_calls) refl

exact_truth : AreTrueAtTicks (IsTrueLately 10 rules noon exact_edges) 1 (Tick exact_now ∷ exact_calls)
unfolding exact_calls sent width_of line frame are_true_at_ticks are_true_lately are_lately last_before is_pulse_of is_same
exact_truth = truly_is 10 rules noon exact_edges line is_line 200 1 (Tick exact_now ∷ exact_calls) refl

-- the frames end 8 us behind the edge, at 3,000,002, 10 us before it and 1 us before it
abbrev exact_beat : Beat
exact_beat = record beat { edge_us = 3000001; bound_us = 10 }

exact_answer : answer_at (told (device_of exact) (map come exact_calls)) (exact_now % 2 ^ 32) ≡ Some exact_beat
unfolding exact_calls sent told come width_of line frame step_checked goes_against step_of told_of frame_told coded_told ones values_of field_at control_of offset_in utc_minute is_month_end four_years
exact_answer = refl

told_exactly : IsToldInHoldover noon exact_edges 0 0 exact.clock exact_now exact_beat (at 43202)
told_exactly =
    device_true rules exact.clock no_table new_lines 1900000 are_new (IsTrueLately 10 rules noon exact_edges) noon exact_edges 0 0 (record { steady = exact_steady; sound = is_device.sound; knows = is_device.knows })
    (omega arith) (λ now half end pulses claim is frame soon. true_by_any exact.clock rules noon 1 exact_edges half now end pulses claim exact_steady is frame soon) exact_calls exact_now exact_beat (at 43202) exact_order exact_truth (plain_steps exact_edges 0 0 (new_keeping rules exact.clock no_table new_lines) 1900000 (record { off = refl; none = refl }) exact_steady (Tick exact_now ∷ exact_calls)) (ap (λ (k : Keeping). answer_at k (exact_now % 2 ^ 32)) (sym same_exactly) ∙ exact_answer) refl
