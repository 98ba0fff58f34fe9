-- A device of one line that has a fault: the pulse of its element 98 comes 600 us late. By a counter that
-- is 100 us a second fast it announces 12:00:01, and stamps an event.
use Rattle.std.proofs.Common.{◌≡◌, ℕ, zero, suc, ◌+◌, ◌*◌, ◌%◌, ◌^◌, ◌<◌, false, List, [], ◌∷◌, take, drop, Some, refl, sym, subst, arith, inl, inr}
use Rattle.irig_frame.specs.Symbols.{width_of}
use Rattle.irig_frame.specs.Faults.{values_of, field_at}
use Rattle.irig_control.specs.Parity.{ones}
use Rattle.irig_control.specs.Control.{control_of, offset_in}
use Rattle.irig_sync.specs.Lines.{Pulse, pulse_at}
use Rattle.irig_time.specs.declared.second.UtcSecond.{UtcSecond}
use Rattle.irig_time.specs.Claims.{utc_minute}
use Rattle.irig_time.specs.Days.{is_month_end, four_years}
use Rattle.irig_port.specs.declared.told.Told.TheVariants as tells
use Rattle.irig_port.specs.Told.{told_of, frame_told, coded_told}
use Rattle.irig_vote.specs.declared.redundancy.Redundancy.TheVariants as of
use Rattle.irig_reader.specs.declared.report.Lock.TheVariants as lock
use Rattle.irig_reader.specs.declared.report.Cause.TheVariants as cause
use Rattle.irig_reader.specs.Rule.{step_of}
use Rattle.irig_sync.proofs.EdgeLaws.{even_element}
use Rattle.irig_timekeeper.proofs.LearnLaws.{plain_steps}
use Rattle.irig_timekeeper.specs.declared.clock.Beat.{Beat}
use Rattle.irig_lines.specs.declared.setup.ClockRules.{ClockRules}
use Rattle.irig_lines.specs.Refusals.{within_of}
use Rattle.irig_timekeeper.specs.declared.stamp.Stamp.{Stamp}
use Rattle.irig_lines.specs.Lines.{HasOneFaultInPlace, IsTrueLately, IsTrueButForFaults, IsTrueOrFaulty}
use Rattle.irig_timekeeper.specs.Keeping.{Keeping, new_keeping, answer_at, stamp_at}
use Rattle.irig_timekeeper.specs.Truth.{IsDevice, IsToldInHoldover, IsStampedTruly}
use Rattle.irig_timekeeper.specs.Life.{Call, pulses_on, AreInOrder, AreTrueAtTicks, after_calls}
use Rattle.irig_timekeeper.specs.Life.Call.{Hear, Tick}
use Rattle.irig_timekeeper.proofs.LifeLaws.{device_true}
use Rattle.irig_timekeeper.proofs.StampLaws.{stamped}
use Rattle.irig_timekeeper.proofs.FaultLines.{faultless, faults_tell_truly, either_tells_truly}
use Rattle.irig_lives.proofs.LifeFacts.{noon, rules, no_delays, no_table, is_device, new_lines, are_new, silence, usual}
use Rattle.irig_lives.specs.Decided.{is_after, have_risen, in_order}
use Rattle.irig_lives.proofs.DecidedLaws.{order_is}
use Rattle.irig_lives.proofs.FaultLineFacts.{fast, fast_steady, claim, line, is_checked, pulses, are, is_pulse, rest_is}
use Rattle.irig_timekeeper.specs.Rule.{step_checked, goes_against}

abbrev clock : ClockRules
clock = record { reader_rules = record { lock_after = 1; holdover = 100 }; redundancy = of.One; within = within_of 450; limits = usual; drift_us = 100; wander_ppb = 0; delays = no_delays; prefers_frames = false }

by_counter : IsDevice noon 100 fast clock.reader_rules no_table
by_counter = record { steady = fast_steady; sound = is_device.sound; knows = is_device.knows }

-- ---- the pulses, and the calls: all of them, and a tick 2 ms behind the edge

abbrev p_98 : Pulse
p_98 = pulse_at 1980698 2000

abbrev p_99 : Pulse
p_99 = pulse_at 1990099 8000

abbrev late : List Pulse
late = p_99 ∷ (p_98 ∷ pulses 10001 449 98)

heard : ℕ → List Call
heard zero = []
heard (suc k) = Hear 0 (1000000 + 10001 * k) (width_of (line k)) ∷ heard k

unfoldable calls : List Call
calls = Hear 0 1990099 8000 ∷ Hear 0 1980698 2000 ∷ heard 98

abbrev now : ℕ
now = 2002100

order : AreInOrder 900000 of.One (Tick now ∷ calls)
unfolding calls heard line in_order have_risen is_after
order = order_is 900000 of.One (Tick now ∷ calls) refl

on_line : pulses_on 0 calls ≡ late
unfolding calls heard line
on_line = refl

no_others : (pulses_on 1 calls ≡ []) × (pulses_on 2 calls ≡ []) × (pulses_on 3 calls ≡ []) × (pulses_on 4 calls ≡ [])
unfolding calls heard line
no_others = (refl, refl, refl, refl)

-- ---- the line is true but for that fault

last_is : HasOneFaultInPlace 450 line fast (take 100 (drop 0 late)) × HasOneFaultInPlace 450 line fast (take 100 (drop 1 late))
unfolding line
last_is = (
  record {
    one = record {
      element = 98;
      after = p_99 ∷ [];
      fault = p_98 ∷ [];
      before = pulses 10001 449 98;
      parts = refl;
      few = omega arith;
      later = (is_pulse fast refl 10001 refl 449 (omega arith) 99 (omega arith), tt);
      earlier = are fast refl 10001 refl 449 (omega arith) 98 (omega arith);
    };
    in_place = omega arith;
  },
  record {
    one = record {
      element = 98;
      after = [];
      fault = p_98 ∷ [];
      before = pulses 10001 449 98;
      parts = refl;
      few = omega arith;
      later = tt;
      earlier = are fast refl 10001 refl 449 (omega arith) 98 (omega arith);
    };
    in_place = omega arith;
  },
)

late_line : (time : ℕ) → IsTrueButForFaults 450 rules noon fast time late
late_line time = record { line = line; is_line = is_checked; few = λ n soon. by n }
  where
    by : (n : ℕ) → HasOneFaultInPlace 450 line fast (take 100 (drop n late))
    by zero = last_is.0
    by (suc zero) = last_is.1
    by (suc (suc n)) = rest_is fast refl 10001 refl 449 (omega arith) n 98 (omega arith)

dark : (time : ℕ) → IsTrueButForFaults 450 rules noon fast time []
dark time = record { line = line; is_line = is_checked; few = λ n soon. by n }
  where
    by : (n : ℕ) → HasOneFaultInPlace 450 line fast (take 100 (drop n []))
    by zero = faultless 450 line fast 0 [] tt
    by (suc n) = faultless 450 line fast 0 [] tt

faulty : (i : ℕ) → i < 5 → IsTrueButForFaults 450 rules noon fast now (pulses_on i calls)
faulty zero less = subst (IsTrueButForFaults 450 rules noon fast now) (sym on_line) (late_line now)
faulty (suc zero) less = subst (IsTrueButForFaults 450 rules noon fast now) (sym no_others.0) (dark now)
faulty (suc (suc zero)) less = subst (IsTrueButForFaults 450 rules noon fast now) (sym no_others.1) (dark now)
faulty (suc (suc (suc zero))) less = subst (IsTrueButForFaults 450 rules noon fast now) (sym no_others.2) (dark now)
faulty (suc (suc (suc (suc zero)))) less = subst (IsTrueButForFaults 450 rules noon fast now) (sym no_others.3) (dark now)
faulty (suc (suc (suc (suc (suc i))))) less = absurd (omega (arith, less))

at_tick : (IsTrue : ℕ → List Pulse → Type 0) → ((i : ℕ) → i < 5 → IsTrue now (pulses_on i calls)) → AreTrueAtTicks IsTrue 0 (Tick now ∷ calls)
unfolding calls heard
at_tick IsTrue are = (record { untrue = λ i. false; few = omega arith; true_lines = λ i less right. are i less }, tt)

-- but it is no line that is true, nor true but for lost pulses
untrue : ¬ IsTrueLately 450 rules noon fast now late
untrue is = elim is.are [
  | inl old ↦ absurd (omega (arith, old.0))
  | inr new ↦ elim new.3 [
    | inl old ↦ absurd (omega (arith, old.0))
    | inr late ↦ (let low : late.0 % 100 < 100 = omega arith in let at = even_element 1000100 fast (λ n. omega arith) late.0 in absurd (omega (arith, low, at, late.2.0.0, late.2.0.1)))
  ]
]

-- ---- what the device says: of one line the edge is the end of its frame, and the bound that of a true
-- line's frame, 449 us and the drift of an element

abbrev second : UtcSecond
second = record { day = 6209; sod = 43201 }

abbrev device : Keeping
device = new_keeping rules clock no_table new_lines

abbrev beat : Beat
beat = record {
  report = record { announce = Some second; lock = lock.Locked; cause = cause.Voted };
  told = record silence { a = tells.Claim claim };
  edge_us = 2000099;
  bound_us = 450;
  missed = 0;
  moved = 0;
  against_table = false;
}

answer : answer_at (after_calls device calls) (now % 2 ^ 32) ≡ Some beat
unfolding calls heard line step_checked goes_against step_of told_of frame_told coded_told ones values_of field_at control_of offset_in utc_minute is_month_end four_years
answer = refl

told : IsToldInHoldover noon fast 1097 1000 clock now beat second
told =
    device_true rules clock no_table new_lines 900000 are_new (IsTrueButForFaults 450 rules noon fast) noon fast 1097 1000 by_counter (omega arith) (faults_tell_truly clock rules noon fast fast_steady) calls now beat second order (at_tick (IsTrueButForFaults 450 rules noon fast) faulty) (plain_steps fast 1097 1000 (device) 900000 (record { off = refl; none = refl }) by_counter.steady (Tick now ∷ calls)) answer refl

-- an event a quarter of a second behind the edge
abbrev stamp : Stamp
stamp = record { second = second; offset_us = 250000; bound_us = 450 }

stamp_is : stamp_at (after_calls device (Tick now ∷ calls)) 2250099 ≡ Some stamp
unfolding calls heard line step_checked goes_against step_of told_of frame_told coded_told ones values_of field_at control_of offset_in utc_minute is_month_end four_years
stamp_is = refl

stamp_true : IsStampedTruly noon fast 1097 2250099 stamp
unfolding calls heard line in_order have_risen is_after
stamp_true =
    stamped rules clock no_table new_lines 900000 are_new noon fast 1097 1000 1097 by_counter (omega arith) (omega arith) (IsTrueOrFaulty 450 rules noon fast) (omega arith) (either_tells_truly clock rules noon fast fast_steady) (Tick now ∷ calls) 2250099 2300000
    asked (at_tick (IsTrueOrFaulty 450 rules noon fast) (λ i less. inr (faulty i less))) (plain_steps fast 1097 1000 (device) 900000 (record { off = refl; none = refl }) by_counter.steady (Tick now ∷ calls)) (omega arith) (omega arith) stamp stamp_is
  where
    asked : AreInOrder 900000 of.One (Tick 2300000 ∷ (Tick now ∷ calls))
    asked = order_is 900000 of.One (Tick 2300000 ∷ (Tick now ∷ calls)) refl
