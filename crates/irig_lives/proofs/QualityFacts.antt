-- Clocks that say how far off they are: of three lines one says 10 us, or 100 us, and is so far off, one
-- is right, and one lies.
use Rattle.std.proofs.Common.{◌≡◌, ◌∙◌, ℕ, zero, suc, ◌+◌, ◌-◌, ◌*◌, ◌/◌, ◌%◌, ◌^◌, ◌<◌, ◌≤◌, true, false, List, [], ◌∷◌, length, slice_set, Some, refl, sym, ap, subst, arith}
use Rattle.std.specs.Prelude.{◌==◌, get_or, slice_get}
use Rattle.std.proofs.lemmas.Option.{slice_get-get_or}
use Rattle.irig_frame.specs.declared.symbol.Symbol.{Symbol}
use Rattle.irig_frame.specs.declared.symbol.Symbol.TheVariants.{Zero, One}
use Rattle.irig_frame.specs.Faults.{values_of, field_at}
use Rattle.irig_control.specs.Parity.{ones}
use Rattle.irig_control.specs.Control.{control_of, offset_in}
use Rattle.irig_sync.specs.Edges.{element_at}
use Rattle.irig_frame.specs.Decoder.{IsRight}
use Rattle.irig_sync.specs.Lines.{Pulse, IsTrueLine, StandAt}
use Rattle.irig_time.specs.declared.claim.Claim.{Claim}
use Rattle.irig_time.specs.Claims.{utc_minute}
use Rattle.irig_time.specs.Days.{is_month_end, four_years}
use Rattle.irig_time.specs.Timelines.{IsTrueClaim}
use Rattle.irig_port.specs.declared.told.Told.TheVariants as tells
use Rattle.irig_port.specs.Told.{told_of, frame_told, coded_told}
use Rattle.irig_port.specs.Limits.{quality_in}
use Rattle.irig_port.proofs.CarriesLaws.{carries_is_told}
use Rattle.irig_vote.specs.declared.redundancy.Redundancy.TheVariants as of
use Rattle.irig_reader.specs.declared.report.Lock.TheVariants as lock
use Rattle.irig_reader.specs.declared.report.Cause.TheVariants as cause
use Rattle.irig_reader.specs.Rule.{step_of}
use Rattle.irig_timekeeper.proofs.LearnLaws.{plain_steps}
use Rattle.irig_timekeeper.specs.declared.clock.Beat.{Beat}
use Rattle.irig_lines.specs.declared.setup.ClockRules.{ClockRules}
use Rattle.irig_lines.specs.Refusals.{within_of}
use Rattle.irig_lines.specs.Clocks.{IsTrueByItsQuality}
use Rattle.irig_lines.specs.Widths.{quality_us}
use Rattle.irig_lines.specs.Edges.{IsQuartz, IsNear}
use Rattle.irig_lines.specs.Lines.{ArePulsesLately, IsLineOf, IsTrueLately}
use Rattle.irig_timekeeper.specs.Keeping.{new_keeping, answer_at}
use Rattle.irig_timekeeper.specs.Rule.{step_checked, goes_against}
use Rattle.irig_timekeeper.specs.Truth.{IsDevice, IsToldInHoldover}
use Rattle.irig_timekeeper.specs.Life.{Call, after_calls, pulses_on, AreInOrder, AreTrueAtTicks}
use Rattle.irig_timekeeper.specs.Life.Call.{Hear, Tick}
use Rattle.irig_timekeeper.proofs.LifeLaws.{device_true}
use Rattle.irig_timekeeper.proofs.ClockLines.{qualities_tell_truly, right_quality}
use Rattle.irig_lives.proofs.LifeFacts.{at, noon, no_delays, no_table, is_device, usual, rules, claim_of, new_lines, silence, are_new, frame_0, frame_1, told_0, nothing, right, right_from, right_at, same_list, same_claim, IsNoClaim, told_none, true_claim, width_of}
use Rattle.irig_lives.specs.Decided.{is_after, have_risen, in_order, is_same, is_pulse_of, last_before, are_lately}
use Rattle.irig_lives.proofs.DecidedLaws.{order_is, lately_decided}

-- ---- the frame of noon by a clock that says quality 5, or 6, and by one that says 0; then nothing

saying : (second : ℕ) → List Symbol
saying second = slice_set (slice_set frame_0 second One) 73 One

module _ (sent : List Symbol) (long : length sent ≡ 100) (sound : right_from 0 sent ≡ true) (told : told_of rules sent ≡ tells.Claim (claim_of 43200)) where
  frames : ℕ → List Symbol
  frames zero = sent
  frames (suc f) = nothing

  line : ℕ → Symbol
  line k = get_or (frames (k / 100)) (k % 100) Zero

  frame_is : (f : ℕ) → (length (frames f) ≡ 100) × (right_from 0 (frames f) ≡ true)
  unfolding frames right_from right
  frame_is zero = (long, sound)
  frame_is (suc f) = (refl, refl)

  is_true_line : IsTrueLine line
  unfolding line
  is_true_line k =
      let is = frame_is (k / 100) in
      let none : k % 100 ≡ 0 + k % 100 = omega arith in
      subst (λ (i : ℕ). IsRight i (Some (get_or (frames (k / 100)) (k % 100) Zero))) (sym none) (right_at 0 (k % 100) (frames (k / 100)) is.1 (omega (arith, is.0)))

  stands : (f : ℕ) (s : List Symbol) → StandAt line (100 * f) s → length s ≡ 100 → s ≡ frames f
  unfolding line
  stands f s at many =
      let is = frame_is f in
      same_list s (frames f) (omega (arith, many, is.0)) (λ i less.
      (let low : i < 100 = omega (arith, less, is.0) in
      let div : (100 * f + i) / 100 ≡ f = omega (arith, low) in
      let rest : (100 * f + i) % 100 ≡ i = omega (arith, low) in
      let get : slice_get s i ≡ Some (get_or (frames ((100 * f + i) / 100)) ((100 * f + i) % 100) Zero) = at i low in
      let got : slice_get s i ≡ Some (get_or (frames f) i Zero) = get ∙ rw (div, rest) refl in
      got ∙ sym (slice_get-get_or (frames f) i Zero less)))

  carried : (f : ℕ) (c : Claim) → told_of rules (frames f) ≡ tells.Claim c → IsTrueClaim noon (f + 1) c
  unfolding frames IsNoClaim
  carried zero c e = subst (λ (d : Claim). IsTrueClaim noon 1 d) (same_claim (claim_of 43200) c (sym told ∙ e)) (true_claim 0 43200 refl (omega arith))
  carried (suc f) c e = absurd (subst IsNoClaim e told_none)

  is_line : IsLineOf rules noon line
  is_line = record {
    right = is_true_line;
    truth = λ f s c at carries.
        let same : s ≡ frames f = stands f s at carries.reads.len in
        carried f c (ap (told_of rules) (sym same) ∙ (carries_is_told rules s c).1 carries);
  }

-- ---- three lines by such clocks: the pulses of line 0, whose clock says quality 5 or 6, come so early, those
-- of line 1, whose clock says 0, so late, and line 2 sends another second's frame

module _ (edges : ℕ → ℕ) (early late : ℕ) (says : ℕ → Symbol) where
  plain : ℕ → Symbol
  plain k = get_or frame_0 (k % 100) Zero

  lie : ℕ → Symbol
  lie k = get_or frame_1 (k % 100) Zero

  elements : ℕ → List Call
  elements zero = []
  elements (suc k) =
      Hear 2 (element_at edges k) (width_of (lie k)) ∷ (Hear 1 (element_at edges k + late) (width_of (plain k)) ∷ (Hear 0 (element_at edges k - early) (width_of (says k)) ∷ elements k))

quality_of_nothing : quality_in nothing ≡ 15
unfolding values_of field_at control_of
quality_of_nothing = refl

-- the line of a right clock
right_plain : (length frame_0 ≡ 100) × (right_from 0 frame_0 ≡ true)
unfolding right_from right
right_plain = (refl, refl)

plain_line : ℕ → Symbol
plain_line = line frame_0 right_plain.0 right_plain.1 told_0

plain_is_line : IsLineOf rules noon plain_line
unfolding plain_line
plain_is_line = is_line frame_0 right_plain.0 right_plain.1 told_0

-- ---- at 10 us, by a counter that is 1 us a second fast: line 0 says 10 us, and is so far off

abbrev edges_10 : ℕ → ℕ
edges_10 n = 1000000 + 1000001 * n

-- when seconds begin by the clock of line 0
abbrev own_10 : ℕ → ℕ
own_10 n = 999990 + 1000001 * n

steady_10 : IsQuartz 1 edges_10
steady_10 = record { few = omega arith; steady = record { least = λ n. omega arith; most = λ n. omega arith } }

own_steady_10 : IsQuartz 1 own_10
own_steady_10 = record { few = omega arith; steady = record { least = λ n. omega arith; most = λ n. omega arith } }

abbrev clock_10 : ClockRules
clock_10 = record { reader_rules = record { lock_after = 1; holdover = 100 }; redundancy = of.Three; within = within_of 10; limits = usual; drift_us = 1; wander_ppb = 0; delays = no_delays; prefers_frames = false }

is_device_10 : IsDevice noon 1 edges_10 clock_10.reader_rules no_table
is_device_10 = record { steady = steady_10; sound = is_device.sound; knows = is_device.knows }

abbrev says_10 : List Symbol
says_10 = saying 71

told_10 : told_of rules says_10 ≡ tells.Claim (claim_of 43200)
unfolding saying told_of frame_told coded_told ones values_of field_at control_of offset_in utc_minute is_month_end four_years
told_10 = refl

quality_10 : quality_in says_10 ≡ 5
unfolding saying values_of field_at control_of
quality_10 = refl

right_10 : (length says_10 ≡ 100) × (right_from 0 says_10 ≡ true)
unfolding saying right_from right
right_10 = (refl, refl)

line_10 : ℕ → Symbol
line_10 = line says_10 right_10.0 right_10.1 told_10

unfoldable calls_10 : List Call
calls_10 = elements edges_10 19 9 (λ k. get_or says_10 (k % 100) Zero) 100

abbrev now_10 : ℕ
now_10 = 2002001

order_10 : AreInOrder 900000 of.Three (Tick now_10 ∷ calls_10)
unfolding calls_10 elements plain lie saying width_of in_order have_risen is_after
order_10 = order_is 900000 of.Three (Tick now_10 ∷ calls_10) refl

-- line 0 is true by its own clock, which is no further off than its frame says; what comes behind that frame
-- says 15, and has no vote
by_its_quality_10 : IsTrueByItsQuality clock_10 rules noon edges_10 now_10 (pulses_on 0 calls_10)
unfolding calls_10 elements plain lie saying width_of are_lately last_before is_pulse_of is_same line_10 line frames
by_its_quality_10 = record {
  own = own_10;
  steady = own_steady_10;
  truth = record {
    line = line_10;
    next = 100;
    is_line = is_line says_10 right_10.0 right_10.1 told_10;
    are = (lately_decided 10 line_10 own_10 now_10 100 (pulses_on 0 calls_10)).1 refl;
  };
  near = λ f s long stand votes. near_10 f s (stands says_10 right_10.0 right_10.1 told_10 f s stand long) votes;
}
  where
    near_10 : (f : ℕ) (s : List Symbol) → s ≡ frames says_10 right_10.0 right_10.1 told_10 f → quality_in s ≤ 6 → IsNear edges_10 (quality_us (quality_in s)) (quality_us (quality_in s)) (f + 1) (own_10 (f + 1))
    near_10 zero s is votes =
        let q : quality_in s ≡ 5 = ap quality_in is ∙ quality_10 in
        subst (λ (n : ℕ). IsNear edges_10 (quality_us n) (quality_us n) 1 (own_10 1)) (sym q) (record { least = omega arith; most = omega arith })
    near_10 (suc f) s is votes = (let q : quality_in s ≡ 15 = ap quality_in is ∙ quality_of_nothing in absurd (omega (arith, q, votes)))

right_line_10 : IsTrueLately 10 rules noon edges_10 now_10 (pulses_on 1 calls_10)
unfolding calls_10 elements plain lie saying width_of are_lately last_before is_pulse_of is_same plain_line line frames
right_line_10 = record { line = plain_line; next = 100; is_line = plain_is_line; are = (lately_decided 10 plain_line edges_10 now_10 100 (pulses_on 1 calls_10)).1 refl }

dark_10 : (ps : List Pulse) → ps ≡ [] → IsTrueByItsQuality clock_10 rules noon edges_10 now_10 ps
dark_10 ps none = right_quality clock_10 rules noon edges_10 steady_10 now_10 ps (record { line = plain_line; next = 0; is_line = plain_is_line; are = subst (ArePulsesLately 10 plain_line edges_10 now_10 0) (sym none) tt })

truth_10 : AreTrueAtTicks (IsTrueByItsQuality clock_10 rules noon edges_10) 1 (Tick now_10 ∷ calls_10)
unfolding calls_10 elements
truth_10 = (record { untrue = λ i. i == 2; few = omega arith; true_lines = by }, tt)
  where
    by : (i : ℕ) → i < 5 → (i == 2) ≡ false → IsTrueByItsQuality clock_10 rules noon edges_10 now_10 (pulses_on i calls_10)
    by zero low is = by_its_quality_10
    by (suc zero) low is = right_quality clock_10 rules noon edges_10 steady_10 now_10 (pulses_on 1 calls_10) right_line_10
    by (suc (suc zero)) low is = absurd cc
    by (suc (suc (suc zero))) low is = dark_10 (pulses_on 3 calls_10) refl
    by (suc (suc (suc (suc zero)))) low is = dark_10 (pulses_on 4 calls_10) refl
    by (suc (suc (suc (suc (suc i))))) low is = absurd (omega (arith, low))

-- the frame of line 0 ends at 1,999,981, and its edge lies 9 us and 10 us from there; that of line 1 ends at
-- 2,000,009, and its edge lies 9 us from there. They leave what lies from 1,999,962 to 2,000,018, of which
-- the middle is told, 11 us before the edge. Its bound is 28 us with 1 us for the drift of an element
abbrev beat_10 : Beat
beat_10 = record {
  report = record { announce = Some (at 43201); lock = lock.Locked; cause = cause.Voted };
  told = record silence { a = tells.Claim (claim_of 43200); b = tells.Claim (claim_of 43200); c = tells.Claim (claim_of 43201) };
  edge_us = 1999990;
  bound_us = 29;
  missed = 0;
  moved = 0;
  against_table = false;
}

answer_10 : answer_at (after_calls (new_keeping rules clock_10 no_table new_lines) calls_10) (now_10 % 2 ^ 32) ≡ Some beat_10
unfolding calls_10 elements plain lie saying width_of step_checked goes_against step_of told_of frame_told coded_told ones values_of field_at control_of offset_in utc_minute is_month_end four_years
answer_10 = refl

-- so the law speaks of it
told_by_quality_10 : IsToldInHoldover noon edges_10 0 0 clock_10 now_10 beat_10 (at 43201)
told_by_quality_10 =
    device_true rules clock_10 no_table new_lines 900000 are_new (IsTrueByItsQuality clock_10 rules noon edges_10) noon edges_10 0 0 is_device_10 (omega arith) (qualities_tell_truly clock_10 rules noon edges_10) calls_10
    now_10 beat_10 (at 43201) order_10 truth_10 (plain_steps edges_10 0 0 (new_keeping rules clock_10 no_table new_lines) 900000 (record { off = refl; none = refl }) is_device_10.steady (Tick now_10 ∷ calls_10)) answer_10 refl

-- ---- at 450 us, by a counter that is 100 us a second fast: line 0 says 100 us, and is so far off

abbrev edges_450 : ℕ → ℕ
edges_450 n = 1000000 + 1000100 * n

-- when seconds begin by the clock of line 0
abbrev own_450 : ℕ → ℕ
own_450 n = 999900 + 1000100 * n

steady_450 : IsQuartz 100 edges_450
steady_450 = record { few = omega arith; steady = record { least = λ n. omega arith; most = λ n. omega arith } }

own_steady_450 : IsQuartz 100 own_450
own_steady_450 = record { few = omega arith; steady = record { least = λ n. omega arith; most = λ n. omega arith } }

abbrev clock_450 : ClockRules
clock_450 = record { reader_rules = record { lock_after = 1; holdover = 100 }; redundancy = of.Three; within = within_of 450; limits = usual; drift_us = 100; wander_ppb = 0; delays = no_delays; prefers_frames = false }

is_device_450 : IsDevice noon 100 edges_450 clock_450.reader_rules no_table
is_device_450 = record { steady = steady_450; sound = is_device.sound; knows = is_device.knows }

abbrev says_450 : List Symbol
says_450 = saying 72

told_450 : told_of rules says_450 ≡ tells.Claim (claim_of 43200)
unfolding saying told_of frame_told coded_told ones values_of field_at control_of offset_in utc_minute is_month_end four_years
told_450 = refl

quality_450 : quality_in says_450 ≡ 6
unfolding saying values_of field_at control_of
quality_450 = refl

right_450 : (length says_450 ≡ 100) × (right_from 0 says_450 ≡ true)
unfolding saying right_from right
right_450 = (refl, refl)

line_450 : ℕ → Symbol
line_450 = line says_450 right_450.0 right_450.1 told_450

unfoldable calls_450 : List Call
calls_450 = elements edges_450 549 449 (λ k. get_or says_450 (k % 100) Zero) 100

abbrev now_450 : ℕ
now_450 = 2002100

order_450 : AreInOrder 900000 of.Three (Tick now_450 ∷ calls_450)
unfolding calls_450 elements plain lie saying width_of in_order have_risen is_after
order_450 = order_is 900000 of.Three (Tick now_450 ∷ calls_450) refl

-- line 0 is true by its own clock, which is no further off than its frame says; what comes behind that frame
-- says 15, and has no vote
by_its_quality_450 : IsTrueByItsQuality clock_450 rules noon edges_450 now_450 (pulses_on 0 calls_450)
unfolding calls_450 elements plain lie saying width_of are_lately last_before is_pulse_of is_same line_450 line frames
by_its_quality_450 = record {
  own = own_450;
  steady = own_steady_450;
  truth = record {
    line = line_450;
    next = 100;
    is_line = is_line says_450 right_450.0 right_450.1 told_450;
    are = (lately_decided 450 line_450 own_450 now_450 100 (pulses_on 0 calls_450)).1 refl;
  };
  near = λ f s long stand votes. near_450 f s (stands says_450 right_450.0 right_450.1 told_450 f s stand long) votes;
}
  where
    near_450 : (f : ℕ) (s : List Symbol) → s ≡ frames says_450 right_450.0 right_450.1 told_450 f → quality_in s ≤ 6 → IsNear edges_450 (quality_us (quality_in s)) (quality_us (quality_in s)) (f + 1) (own_450 (f + 1))
    near_450 zero s is votes =
        let q : quality_in s ≡ 6 = ap quality_in is ∙ quality_450 in
        subst (λ (n : ℕ). IsNear edges_450 (quality_us n) (quality_us n) 1 (own_450 1)) (sym q) (record { least = omega arith; most = omega arith })
    near_450 (suc f) s is votes = (let q : quality_in s ≡ 15 = ap quality_in is ∙ quality_of_nothing in absurd (omega (arith, q, votes)))

right_line_450 : IsTrueLately 450 rules noon edges_450 now_450 (pulses_on 1 calls_450)
unfolding calls_450 elements plain lie saying width_of are_lately last_before is_pulse_of is_same plain_line line frames
right_line_450 = record { line = plain_line; next = 100; is_line = plain_is_line; are = (lately_decided 450 plain_line edges_450 now_450 100 (pulses_on 1 calls_450)).1 refl }

dark_450 : (ps : List Pulse) → ps ≡ [] → IsTrueByItsQuality clock_450 rules noon edges_450 now_450 ps
dark_450 ps none = right_quality clock_450 rules noon edges_450 steady_450 now_450 ps (record { line = plain_line; next = 0; is_line = plain_is_line; are = subst (ArePulsesLately 450 plain_line edges_450 now_450 0) (sym none) tt })

truth_450 : AreTrueAtTicks (IsTrueByItsQuality clock_450 rules noon edges_450) 1 (Tick now_450 ∷ calls_450)
unfolding calls_450 elements
truth_450 = (record { untrue = λ i. i == 2; few = omega arith; true_lines = by }, tt)
  where
    by : (i : ℕ) → i < 5 → (i == 2) ≡ false → IsTrueByItsQuality clock_450 rules noon edges_450 now_450 (pulses_on i calls_450)
    by zero low is = by_its_quality_450
    by (suc zero) low is = right_quality clock_450 rules noon edges_450 steady_450 now_450 (pulses_on 1 calls_450) right_line_450
    by (suc (suc zero)) low is = absurd cc
    by (suc (suc (suc zero))) low is = dark_450 (pulses_on 3 calls_450) refl
    by (suc (suc (suc (suc zero)))) low is = dark_450 (pulses_on 4 calls_450) refl
    by (suc (suc (suc (suc (suc i))))) low is = absurd (omega (arith, low))

-- the frame of line 0 ends at 1,999,550, and its edge lies 449 us and 100 us from there; that of line 1 ends at
-- 2,000,548, and its edge lies 449 us from there. They leave what lies from 1,999,001 to 2,000,997, of which
-- the middle is told, 101 us before the edge, with a bound of 998 us and 1 us
abbrev beat_450 : Beat
beat_450 = record {
  report = record { announce = Some (at 43201); lock = lock.Locked; cause = cause.Voted };
  told = record silence { a = tells.Claim (claim_of 43200); b = tells.Claim (claim_of 43200); c = tells.Claim (claim_of 43201) };
  edge_us = 1999999;
  bound_us = 999;
  missed = 0;
  moved = 0;
  against_table = false;
}

answer_450 : answer_at (after_calls (new_keeping rules clock_450 no_table new_lines) calls_450) (now_450 % 2 ^ 32) ≡ Some beat_450
unfolding calls_450 elements plain lie saying width_of step_checked goes_against step_of told_of frame_told coded_told ones values_of field_at control_of offset_in utc_minute is_month_end four_years
answer_450 = refl

-- so the law speaks of it
told_by_quality_450 : IsToldInHoldover noon edges_450 0 0 clock_450 now_450 beat_450 (at 43201)
told_by_quality_450 =
    device_true rules clock_450 no_table new_lines 900000 are_new (IsTrueByItsQuality clock_450 rules noon edges_450) noon edges_450 0 0 is_device_450 (omega arith) (qualities_tell_truly clock_450 rules noon edges_450) calls_450
    now_450 beat_450 (at 43201) order_450 truth_450 (plain_steps edges_450 0 0 (new_keeping rules clock_450 no_table new_lines) 900000 (record { off = refl; none = refl }) is_device_450.steady (Tick now_450 ∷ calls_450)) answer_450 refl
