-- Five lines, of which two lie alike: they send the next second's frame. By a counter that is 100 us a
-- second fast a device announces the second that the other three tell.
use Rattle.std.proofs.Common.{◌≡◌, ℕ, zero, suc, ◌+◌, ◌-◌, ◌%◌, ◌^◌, Bool, List, [], ◌∷◌, Some, refl, subst, arith, false}
use Rattle.std.specs.Prelude.{nat_lt, get_or}
use Rattle.irig_frame.specs.declared.symbol.Symbol.{Symbol}
use Rattle.irig_frame.specs.declared.symbol.Symbol.TheVariants.{Bad}
use Rattle.irig_frame.specs.Faults.{values_of, field_at}
use Rattle.irig_control.specs.Parity.{ones}
use Rattle.irig_control.specs.Control.{control_of, offset_in}
use Rattle.irig_sync.specs.Edges.{element_at}
use Rattle.irig_time.specs.Claims.{utc_minute}
use Rattle.irig_time.specs.Days.{is_month_end, four_years}
use Rattle.irig_time.specs.Timelines.{IsTrueClaim}
use Rattle.irig_port.specs.declared.told.Told.TheVariants as tells
use Rattle.irig_port.specs.Told.{told_of, frame_told, coded_told}
use Rattle.irig_port.proofs.CarriesLaws.{carries_is_told}
use Rattle.irig_vote.specs.declared.redundancy.Redundancy.TheVariants as of
use Rattle.irig_reader.specs.declared.report.Lock.TheVariants as lock
use Rattle.irig_reader.specs.declared.report.Cause.TheVariants as cause
use Rattle.irig_reader.specs.Rule.{step_of}
use Rattle.irig_timekeeper.proofs.LearnLaws.{plain_steps}
use Rattle.irig_timekeeper.specs.declared.clock.Beat.{Beat}
use Rattle.irig_lines.specs.declared.setup.ClockRules.{ClockRules}
use Rattle.irig_lines.specs.Refusals.{within_of}
use Rattle.irig_lines.specs.Lines.{IsLineOf, IsTrueLately, line_of}
use Rattle.irig_timekeeper.specs.Keeping.{Keeping, new_keeping, answer_at}
use Rattle.irig_timekeeper.specs.Truth.{IsDevice, IsToldInHoldover}
use Rattle.irig_timekeeper.specs.Life.{Call, AreInOrder, AreTrueAtTicks, after_calls}
use Rattle.irig_timekeeper.specs.Life.Call.{Hear, Tick}
use Rattle.irig_lines.proofs.LineLaws.{true_by_any}
use Rattle.irig_timekeeper.proofs.LifeLaws.{device_true}
use Rattle.irig_lives.proofs.SentLines.{sent_is_checked, checked_is_line}
use Rattle.irig_lives.proofs.LifeFacts.{edges, steady, at, noon, no_delays, no_table, is_device, rules, claim_of, new_lines, are_new, frame_0, frame_1, told_0, true_claim, width_of, usual}
use Rattle.irig_lives.specs.Decided.{is_after, have_risen, in_order, is_same, is_pulse_of, last_before, are_lately, are_true_lately, are_true_at_ticks}
use Rattle.irig_lives.proofs.DecidedLaws.{order_is, truly_is}
use Rattle.irig_timekeeper.specs.Rule.{step_checked, goes_against}

abbrev clock : ClockRules
clock = record { reader_rules = record { lock_after = 1; holdover = 100 }; redundancy = of.Five; within = within_of 450; limits = usual; drift_us = 100; wander_ppb = 0; delays = no_delays; prefers_frames = false }

is_device_of_five : IsDevice noon 100 edges clock.reader_rules no_table
is_device_of_five = record { steady = steady; sound = is_device.sound; knows = is_device.knows }

-- ---- the line that is true

abbrev line : ℕ → Symbol
line = line_of (λ f. frame_0) 1

is_line : IsLineOf rules noon line
is_line =
    checked_is_line rules noon line
    (sent_is_checked rules noon 1 (λ f. frame_0) (λ f low. (claim_of 43200, (let first : 1 ≡ f + 1 = omega (arith, low) in subst (λ (n : ℕ). IsTrueClaim noon n (claim_of 43200)) first (true_claim 0 43200 refl (omega arith))), (carries_is_told rules frame_0 (claim_of 43200)).0 told_0)))

-- ---- the calls: a hundred pulses of each, and a tick 2 ms behind the edge

true_pulse : ℕ → ℕ → ℕ → Call
true_pulse port off k = Hear port (element_at edges k + off - 400) (width_of (line k))

false_pulse : ℕ → ℕ → Call
false_pulse port k = Hear port (element_at edges k) (width_of (get_or frame_1 k Bad))

heard : ℕ → List Call
heard zero = []
heard (suc k) = false_pulse 4 k ∷ false_pulse 3 k ∷ true_pulse 2 400 k ∷ true_pulse 1 0 k ∷ true_pulse 0 800 k ∷ heard k

unfoldable calls : List Call
calls = heard 100

abbrev now : ℕ
now = 4294502100

lies : ℕ → Bool
lies i = nat_lt 2 i

order : AreInOrder 4293400000 of.Five (Tick now ∷ calls)
unfolding calls heard true_pulse false_pulse width_of in_order have_risen is_after
order = order_is 4293400000 of.Five (Tick now ∷ calls) refl

truth : AreTrueAtTicks (IsTrueLately 450 rules noon edges) 2 (Tick now ∷ calls)
unfolding calls heard true_pulse false_pulse width_of lies are_true_at_ticks are_true_lately are_lately last_before is_pulse_of is_same
truth = truly_is 450 rules noon edges line is_line 100 2 (Tick now ∷ calls) refl

-- ---- what it says: 12:00:01. The frames of the true lines end 401 us and 1 us before the edge and 399 us
-- behind it. Only all three are more than two, so the lines agree on the middle of the first and the last
-- end, and its bound is 450 us and half of what lies between these

abbrev device : Keeping
device = new_keeping rules clock no_table new_lines

abbrev beat : Beat
beat = record {
  report = record { announce = Some (at 43201); lock = lock.Locked; cause = cause.Voted };
  told = record { a = tells.Claim (claim_of 43200); b = tells.Claim (claim_of 43200); c = tells.Claim (claim_of 43200); d = tells.Claim (claim_of 43201); e = tells.Claim (claim_of 43201) };
  edge_us = 4294500099;
  bound_us = 850;
  missed = 0;
  moved = 0;
  against_table = false;
}

answer : answer_at (after_calls device calls) (now % 2 ^ 32) ≡ Some beat
unfolding calls heard true_pulse false_pulse width_of step_checked goes_against step_of told_of frame_told coded_told ones values_of field_at control_of offset_in utc_minute is_month_end four_years
answer = refl

told : IsToldInHoldover noon edges 0 0 clock now beat (at 43201)
told =
    device_true rules clock no_table new_lines 4293400000 are_new (IsTrueLately 450 rules noon edges) noon edges 0 0 is_device_of_five (omega arith)
    (λ time half end pulses c is f soon. true_by_any clock rules noon 100 edges half time end pulses c steady is f soon) calls now beat (at 43201) order truth (plain_steps edges 0 0 (device) 4293400000 (record { off = refl; none = refl }) steady (Tick now ∷ calls)) answer refl
