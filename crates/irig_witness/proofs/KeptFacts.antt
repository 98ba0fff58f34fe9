-- A life whose audit is kept, by what its plant line says: three lines of clocks that send the frames of
-- three seconds. They come 0, 350 and 700 us late, so that the third one is untrue. The counter gains 20 us
-- a second and wraps. The device's setting says that lines are less than 450 us off, and its counter 40 us a
-- second. If a second line comes 600 us late, the audit is broken.
use Rattle.std.proofs.Common.{◌≡◌, ◌∙◌, ℕ, zero, suc, ◌+◌, ◌/◌, ◌%◌, ◌^◌, ◌<◌, true, false, cond, ◌&&◌, List, [], ◌∷◌, Option, Some, None, refl, sym, ap, arith, inl, inr}
use Rattle.std.specs.Prelude.{◌==◌, nat_le, nat_lt}
use Rattle.std.proofs.Math.Path.{fun_ext}
use Rattle.std.proofs.lemmas.Bool.{cases_Bool, lt-ltb}
use Rattle.irig_frame.specs.declared.symbol.Symbol.{Symbol}
use Rattle.irig_frame.specs.declared.symbol.Symbol.TheVariants.{Zero, One, Bad}
use Rattle.irig_sync.specs.Lines.{Pulse, pulse_at}
use Rattle.irig_lines.specs.Lines.{ArePulsesLately}
use Rattle.irig_frame.specs.Faults.{values_of, field_at}
use Rattle.irig_control.specs.Parity.{ones}
use Rattle.irig_control.specs.Control.{control_of, offset_in}
use Rattle.irig_time.specs.declared.claim.Claim.{Claim}
use Rattle.irig_time.specs.Claims.{utc_minute}
use Rattle.irig_time.specs.Days.{is_month_end, four_years}
use Rattle.irig_time.specs.Timelines.{truth_at}
use Rattle.irig_time.proofs.SecondAt.{claim_is}
use Rattle.irig_port.specs.declared.told.Told.TheVariants as tells
use Rattle.irig_port.specs.Told.{told_of, frame_told, coded_told}
use Rattle.irig_reader.specs.declared.report.Lock.TheVariants as lock
use Rattle.irig_reader.specs.declared.report.Cause.TheVariants as cause
use Rattle.irig_reader.specs.Rule.{step_of}
use Rattle.irig_timekeeper.specs.declared.clock.Beat.{Beat}
use Rattle.irig_timekeeper.specs.declared.stamp.Stamp.{Stamp}
use Rattle.irig_timekeeper.specs.Keeping.{answer_at, stamp_at}
use Rattle.irig_timekeeper.specs.Life.{Call, Made, life_of}
use Rattle.irig_timekeeper.specs.Life.Call.{Hear, Tick}
use Rattle.irig_timekeeper.specs.Rule.{step_checked, goes_against}
use Rattle.irig_timekeeper.specs.Truth.{IsToldInHoldover}
use Rattle.irig_lives.specs.Decided.{is_after, have_risen, in_order, is_same, is_pulse_of}
use Rattle.irig_lives.proofs.LifeFacts.{are_new, at, claim_of, clock, frame, line, new_lines, no_table, noon, nothing, rules, silence, told_0, told_1, told_2, true_claim, true_table, width_of}
use Rattle.irig_witness.specs.Elements.{IsLateLine, begins_at}
use Rattle.irig_wires.specs.Oscillator.{counter_at, edges_by}
use Rattle.irig_witness.specs.TrueFrames.{claims_only, is_harmless, true_symbol}
use Rattle.irig_witness.specs.Witness.{AreSameBefore, IsSaidOf, is_kept, lines_by}
use Rattle.irig_witness.specs.Promise.{IsStampedInTime, IsTrueSetup, lines_of}
use Rattle.irig_witness.proofs.BegunLaws.{kept_same}
use Rattle.irig_witness.proofs.LateLaws.{late_true}
use Rattle.irig_witness.proofs.VouchLaws.{device, in_time, stamps, tells}

-- ---- the plant line

abbrev first : ℕ
first = 4293500000

abbrev rate : ℕ
rate = 1000020

abbrev made : Made
made = record { rules = rules; clock = record clock { drift_us = 40 }; table = no_table; lines = new_lines; fresh = are_new }

setup : IsTrueSetup noon rate made.clock no_table
setup = record {
  times = record { sound = refl };
  steady = record { least = omega arith; most = omega arith; few = omega arith };
  knows = inl true_table;
}

-- ---- what generators send does no harm

abbrev sent : ℕ → ℕ → List (List Symbol)
sent line second = frame second ∷ []

truth : (f : ℕ) → f < 3 → truth_at noon f ≡ Some (claim_of (43200 + f))
truth f few = (claim_is noon f (claim_of (43200 + f))).1 (true_claim f (43200 + f) refl (omega (arith, few)))

told_nothing : (truth : Option Claim) → claims_only truth (told_of rules nothing) ≡ true
unfolding told_of frame_told coded_told ones values_of field_at control_of offset_in utc_minute is_month_end four_years
told_nothing None = refl
told_nothing (Some c) = refl

harmless : (f : ℕ) → is_harmless rules noon f (frame f) ≡ true
unfolding frame
harmless zero = let t = truth 0 (omega arith) in rw (told_0, t) refl
harmless (suc zero) = let t = truth 1 (omega arith) in rw (told_1, t) refl
harmless (suc (suc zero)) = let t = truth 2 (omega arith) in rw (told_2, t) refl
harmless (suc (suc (suc n))) = let none = told_nothing (truth_at noon (suc (suc (suc n)))) in rw none refl

symbols : (l k : ℕ) → true_symbol rules noon (sent l) k ≡ line k
unfolding line
symbols l k = let good = harmless (k / 100) in rw good refl

same_lines : lines_of rules noon sent first rate ≡ lines_by (λ l. line) first rate
same_lines = ap (λ (s : ℕ → ℕ → Symbol). lines_by s first rate) (fun_ext (λ l. fun_ext (symbols l)))

-- ---- the calls: 300 elements of three lines, so late, and a tick 2 ms behind each second's begin

unfoldable pulse_of : (line late element : ℕ) → Call
pulse_of l late k = Hear l (counter_at first rate (begins_at k + late)) (width_of (line k))

unfoldable with_tick : ℕ → List Call → List Call
with_tick k calls = cond ((k % 100 == 0) && nat_le 100 k) (Tick (counter_at first rate (begins_at k + 2000)) ∷ calls) calls

unfoldable elements_before : (late : ℕ) → ℕ → List Call
elements_before late zero = []
elements_before late (suc k) = pulse_of 2 700 k ∷ pulse_of 1 late k ∷ pulse_of 0 0 k ∷ with_tick k (elements_before late k)

unfoldable calls : List Call
calls = elements_before 350 300

abbrev now : ℕ
now = 4296502060

abbrev start : ℕ
start = 4293400000

kept : is_kept made.clock (lines_by (λ l. line) first rate) start (Tick now ∷ calls) ≡ true
unfolding calls elements_before pulse_of with_tick width_of line frame in_order have_risen is_after is_pulse_of is_same
kept = refl

kept_by_plant : is_kept made.clock (lines_of rules noon sent first rate) start (Tick now ∷ calls) ≡ true
kept_by_plant = ap (λ x. is_kept made.clock x start (Tick now ∷ calls)) same_lines ∙ kept

-- the second line's frame ends 350 us behind the first one's, 1 us before the second begins. More than one
-- of the three has its edge from 99 us before the first frame's end to 799 us behind it
abbrev beat : Beat
beat = record {
  report = record { announce = Some (at 43203); lock = lock.Locked; cause = cause.Voted };
  told = record silence { a = tells.Claim (claim_of 43202); b = tells.Claim (claim_of 43202); c = tells.Claim (claim_of 43202) };
  edge_us = 1533113;
  bound_us = 450;
  missed = 0;
  moved = 0;
  against_table = false;
}

answer : answer_at (life_of made calls) (now % 2 ^ 32) ≡ Some beat
unfolding calls elements_before pulse_of with_tick width_of line frame step_checked goes_against step_of told_of frame_told coded_told ones values_of field_at control_of offset_in utc_minute is_month_end four_years
answer = refl

-- so what is announced is the true second
told : IsToldInHoldover noon (edges_by first rate) 0 0 made.clock now beat (at 43203)
told = tells noon (lines_of rules noon sent first rate) made start (device noon sent first rate rules made.clock no_table setup) now calls beat (at 43203) kept_by_plant answer refl

-- ---- a stamp, asked for 10 ms later, of the instant 1 ms behind the second's begin

abbrev stamp : Stamp
stamp = record { second = at 43203; offset_us = 651; bound_us = 450 }

in_turn : in_order start made.clock.redundancy (Tick (now + 10000) ∷ (Tick now ∷ calls)) ≡ true
unfolding calls elements_before pulse_of with_tick width_of line frame in_order have_risen is_after
in_turn = refl

said : stamp_at (life_of made (Tick now ∷ calls)) (counter_at first rate 3001000 % 2 ^ 32) ≡ Some stamp
unfolding calls elements_before pulse_of with_tick width_of line frame step_checked goes_against step_of told_of frame_told coded_told ones values_of field_at control_of offset_in utc_minute is_month_end four_years
said = refl

-- it names an instant 349 us before, which is less than its bound
named : IsStampedInTime noon 40 3 1000 stamp
named = in_time noon first rate 3 1000 stamp made.clock no_table setup (omega arith)
    (stamps noon (lines_of rules noon sent first rate) made start (device noon sent first rate rules made.clock no_table setup) (counter_at first rate 3001000) (now + 10000) (Tick now ∷ calls) stamp kept_by_plant in_turn (omega arith) (omega arith) said)

-- ---- two of three lines that are 450 us late or later break it

broken : is_kept made.clock (lines_by (λ l. line) first rate) start (Tick now ∷ elements_before 600 300) ≡ false
unfolding elements_before pulse_of with_tick width_of line frame in_order have_risen is_after is_pulse_of is_same
broken = refl

broken_by_plant : is_kept made.clock (lines_of rules noon sent first rate) start (Tick now ∷ elements_before 600 300) ≡ false
broken_by_plant = ap (λ x. is_kept made.clock x start (Tick now ∷ elements_before 600 300)) same_lines ∙ broken

-- ---- two pulses of a line that comes 350 us late, of which the device takes 300 us off, are those of a true
-- line by a setting of 52 us

abbrev late_pulses : List Pulse
late_pulses = pulse_at 4293510050 2000 ∷ pulse_at 4293500050 8000 ∷ []

late : IsLateLine 52 line first rate late_pulses
unfolding line frame
late = record {
  next = 2;
  least = 350;
  most = 350;
  taken = 300;
  small = omega arith;
  high = omega arith;
  low = omega arith;
  are = (1, omega arith, refl, (350, omega arith, omega arith, refl), (0, omega arith, refl, (350, omega arith, omega arith, refl), tt));
}

late_are_true : (then : ℕ) → ArePulsesLately 52 line (edges_by first rate) then 2 late_pulses
unfolding late
late_are_true then = late_true 40 first rate setup.steady 52 line then late_pulses late

-- ---- an audit at the end of a second, of which lines are known until then: zeros. Of the next second they
-- may have ones. A pulse of 400 us ends with the first second, and is near the first element of the next

abbrev zeros : ℕ → ℕ → Symbol
zeros l k = Zero

abbrev then_ones : ℕ → ℕ → Symbol
then_ones l k = cond (nat_lt k 100) Zero One

abbrev next_edge : ℕ
next_edge = 4294500020

never_bad_then : (l k : ℕ) → ¬ (then_ones l k ≡ Bad)
never_bad_then l k e = elim (cases_Bool (nat_lt k 100)) [
  | inl low ↦ (let wrong : Zero ≡ Bad = (let same : then_ones l k ≡ Zero = rw low refl in sym same ∙ e) in absurd cc)
  | inr high ↦ (let wrong : One ≡ Bad = (let same : then_ones l k ≡ One = rw high refl in sym same ∙ e) in absurd cc)
]

same_first : AreSameBefore (edges_by first rate) next_edge zeros then_ones
same_first = record {
  same = λ l k begun. (let low : nat_lt k 100 ≡ true = lt-ltb k 100 (omega (arith, begun)) in rw low refl);
  good = λ l k e. absurd cc;
  other_good = never_bad_then;
}

narrow_call : Call
narrow_call = Hear 2 4294499620 400

first_calls : List Call
first_calls = Tick 4294502020 ∷ narrow_call ∷ Hear 1 4294490019 2000 ∷ Hear 0 4294490019 2000 ∷ []

asks_of_the_first : is_kept made.clock (lines_by zeros first rate) start first_calls ≡ is_kept made.clock (lines_by then_ones first rate) start first_calls
unfolding first_calls narrow_call
asks_of_the_first = kept_same first rate next_edge zeros then_ones same_first made.clock start first_calls (omega arith, (omega arith, (omega arith, tt)))

kept_of_the_first : (is_kept made.clock (lines_by zeros first rate) start first_calls ≡ true) × (is_kept made.clock (lines_by then_ones first rate) start first_calls ≡ true)
unfolding first_calls narrow_call in_order have_risen is_after is_pulse_of is_same
kept_of_the_first = (refl, refl)

-- of pulses that end behind the second it asks what comes next
later_calls : List Call
later_calls = Tick 4294502020 ∷ Hear 1 4294500020 2000 ∷ Hear 0 4294500020 2000 ∷ []

asks_of_the_next : (is_kept made.clock (lines_by zeros first rate) start later_calls ≡ true) × (is_kept made.clock (lines_by then_ones first rate) start later_calls ≡ false)
unfolding later_calls in_order have_risen is_after is_pulse_of is_same
asks_of_the_next = (refl, refl)

-- of the narrow pulse either may be said
either_is_said : (said : Symbol) → ¬ (said ≡ Bad) → IsSaidOf (zeros 2) 100 400 said
either_is_said said good = inr (refl, good, λ e. absurd cc)
