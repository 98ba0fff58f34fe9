-- What is said of lines, in three lives. In the first two, of lines less than 450 us off by a counter that
-- is 100 us a second fast, and of lines less than 10 us off by one that is 1 us a second fast, one line
-- brings noise for its first 0.3 s, and then tells the truth; another one is late from its second second
-- on. The third life is that of LifeFacts, in which a line lies.
use Rattle.std.specs.Prelude.{◌==◌, ◌&&◌, nat_lt, if◌then◌else◌}
use Rattle.std.proofs.Common.{◌≡◌, ℕ, zero, suc, ◌+◌, ◌-◌, ◌*◌, ◌/◌, ◌%◌, ◌<◌, false, cond, List, [], ◌∷◌, Some, None, refl, ap, arith, inl}
use Rattle.irig_frame.specs.Faults.{values_of, field_at}
use Rattle.irig_control.specs.Parity.{ones}
use Rattle.irig_control.specs.Control.{control_of, offset_in}
use Rattle.irig_sync.specs.Edges.{element_at}
use Rattle.irig_time.specs.Claims.{utc_minute}
use Rattle.irig_time.specs.Days.{is_month_end, four_years}
use Rattle.irig_port.specs.Told.{told_of, frame_told, coded_told}
use Rattle.irig_vote.specs.declared.redundancy.Redundancy.TheVariants as of
use Rattle.irig_reader.specs.Rule.{step_of}
use Rattle.irig_lines.specs.declared.setup.ClockRules.{ClockRules}
use Rattle.irig_timekeeper.proofs.LearnLaws.{steps_truly}
use Rattle.irig_timekeeper.specs.declared.states.LineState.TheVariants as is
use Rattle.irig_lines.specs.Refusals.{within_of}
use Rattle.irig_lines.specs.Edges.{IsQuartz}
use Rattle.irig_lines.specs.Lines.{IsTrueLately}
use Rattle.irig_timekeeper.specs.Truth.{IsDevice}
use Rattle.irig_lines.specs.declared.rate.Rate.{Rate}
use Rattle.irig_timekeeper.specs.Measures.{IsMeasured}
use Rattle.irig_timekeeper.specs.Keeping.{rate_at}
use Rattle.irig_timekeeper.proofs.MeasureLaws.{measures_truly}
use Rattle.irig_timekeeper.specs.Life.{Call, Made, life_of, last_tick, pulses_on, AreInOrder, AreTrueAtTicks, LivesTruly}
use Rattle.irig_timekeeper.specs.Life.Call.{Hear, Tick}
use Rattle.irig_timekeeper.specs.States.{state_of}
use Rattle.irig_timekeeper.specs.LineTruths.{is_untrue, is_false, HasSentFalsely, HasSentTruly}
use Rattle.irig_lines.proofs.LineLaws.{true_by_any}
use Rattle.irig_timekeeper.proofs.LifeLaws.{TellAlwaysTruly}
use Rattle.irig_timekeeper.proofs.StateLaws.{true_line, true_at_tick, said_rightly, again}
use Rattle.irig_lives.specs.Decided.{is_after, have_risen, in_order, is_same, is_pulse_of, last_before, are_lately, are_true_lately, are_true_at_ticks}
use Rattle.irig_lives.proofs.DecidedLaws.{order_is, truly_is, lately_decided}
use Rattle.irig_lives.proofs.LifeFacts.{edges, noon, no_delays, no_table, is_device, rules, new_lines, are_new, made, frame, line, is_line, width_of, lie, pulse_told, with_element, with_tick, elements_before, calls_3, now_3, now_4, life_4, order_4, truth_4, truly_told, usual}
use Rattle.irig_timekeeper.specs.Rule.{step_checked, goes_against}

-- ---- the calls: 300 elements of three lines, and a tick 2 ms behind each edge. The pulses of line 0 come
-- `off` us late. So early come those of line 1, but for its first 30, which come 3 ms late. Those of line 2
-- come on time in its first frame, and `late` us late in the next two

said : (counter : ℕ → ℕ) → (off late : ℕ) → ℕ → ℕ → Call
said counter off late zero k = Hear 0 (element_at counter k + off) (width_of (line k))
said counter off late (suc zero) k = Hear 1 (if nat_lt k 30 then element_at counter k + 3000 else element_at counter k - off) (width_of (line k))
said counter off late (suc (suc i)) k = Hear 2 (if nat_lt k 100 then element_at counter k else element_at counter k + late) (width_of (line k))

behind_edge : (counter : ℕ → ℕ) → ℕ → List Call → List Call
behind_edge counter k calls = cond ((k % 100 == 0) && nat_lt 0 k) (Tick (counter (k / 100) + 2000) ∷ calls) calls

elements : (counter : ℕ → ℕ) → (off late : ℕ) → ℕ → List Call
elements counter off late zero = []
elements counter off late (suc k) =
    let calls = behind_edge counter k (elements counter off late k) in
    said counter off late 2 k ∷ said counter off late 1 k ∷ said counter off late 0 k ∷ calls

-- ---- lines less than 450 us off, by the counter of LifeFacts

abbrev start : ℕ
start = 4293400000

abbrev now : ℕ
now = 4296502300

unfoldable calls : List Call
calls = elements edges 400 3000 300

order : AreInOrder start of.Three (Tick now ∷ calls)
unfolding calls elements said behind_edge width_of line frame in_order have_risen is_after
order = order_is start of.Three (Tick now ∷ calls) refl

truth : AreTrueAtTicks (IsTrueLately 450 rules noon edges) 1 (Tick now ∷ calls)
unfolding calls elements said behind_edge width_of line frame are_true_at_ticks are_true_lately are_lately last_before is_pulse_of is_same
truth = truly_is 450 rules noon edges line is_line 300 1 (Tick now ∷ calls) refl

lives : LivesTruly (IsTrueLately 450) noon edges made start (Tick now ∷ calls)
lives = record { is = is_device; learns = inl refl; order = order; truth = truth }

-- lines 0 and 1 were true since 2.7 s before the last tick, though line 1 was not at the first one
lately : (i : ℕ) → i < 2 → IsTrueLately 450 rules noon edges (now - 1500000) (pulses_on i calls)
unfolding calls elements said behind_edge width_of line frame are_lately last_before is_pulse_of is_same
lately zero low = record { line = line; next = 300; is_line = is_line; are = (lately_decided 450 line edges (now - 1500000) 300 (pulses_on 0 calls)).1 refl }
lately (suc zero) low = record { line = line; next = 300; is_line = is_line; are = (lately_decided 450 line edges (now - 1500000) 300 (pulses_on 1 calls)).1 refl }
lately (suc (suc i)) low = absurd (omega (arith, low))

-- they agree. The frame of line 2 ends 3 ms behind the edge, and so it is apart
states : (state_of made.clock (life_of made (Tick now ∷ calls)).state 0 ≡ is.Agreed)
    × (state_of made.clock (life_of made (Tick now ∷ calls)).state 1 ≡ is.Agreed)
    × (state_of made.clock (life_of made (Tick now ∷ calls)).state 2 ≡ is.Apart)
    × (state_of made.clock (life_of made (Tick now ∷ calls)).state 3 ≡ is.Silent)
unfolding calls elements said behind_edge width_of line frame step_checked goes_against step_of told_of frame_told coded_told ones values_of field_at control_of offset_in utc_minute is_month_end four_years
states = (refl, refl, refl, refl)

-- so says the law
not_untrue : (i : ℕ) → i < 2 → is_untrue (state_of made.clock (life_of made (Tick now ∷ calls)).state i) ≡ false
not_untrue i low = true_at_tick (IsTrueLately 450) noon edges made start now calls lives truly_told (steps_truly noon edges made start (Tick now ∷ calls) lives) i (omega (arith, low)) (lately i low)

late_line : HasSentFalsely made.clock rules noon edges now (pulses_on 2 calls)
late_line =
    (said_rightly (IsTrueLately 450) noon edges made start now (Tick now ∷ calls) lives truly_told (steps_truly noon edges made start (Tick now ∷ calls) lives) (again start of.Three now calls order) 2 (omega arith)).false_one (ap is_false states.2)

agreed_line : HasSentTruly made.clock (life_of made (Tick now ∷ calls)).state rules noon edges now (pulses_on 1 calls)
agreed_line =
    (said_rightly (IsTrueLately 450) noon edges made start now (Tick now ∷ calls) lives truly_told (steps_truly noon edges made start (Tick now ∷ calls) lives) (again start of.Three now calls order) 1 (omega arith)).true_one states.1

-- at the first edge lines 0 and 2 are 400 us apart: the vote lies 199 us behind the edge, and its bound is
-- 650 us. So the anchor lies from 451 us before that edge to 849 us behind it. At the next two edges line 0
-- ends 399 us behind the edge, line 1 before it and line 2 behind it: the vote is where line 0 ends, with a
-- bound of 450 us, and what is known lies from 51 us before the edge to 849 us behind it. By this counter
-- two seconds are 2,000,200 us: they are 849 + 51 less at least, and 849 + 451 more at most
abbrev measured : Rate
measured = record { seconds = 2; least_ns = 999650000; most_ns = 1000750000 }

rate : rate_at (life_of made (Tick now ∷ calls)) ≡ Some measured
unfolding calls elements said behind_edge width_of line frame step_checked goes_against step_of told_of frame_told coded_told ones values_of field_at control_of offset_in utc_minute is_month_end four_years
rate = refl

mean : IsMeasured edges now (life_of made (Tick now ∷ calls)).state.edge_us measured
mean = measures_truly noon edges made start (Tick now ∷ calls) measured lives rate

-- behind the first tick line 1 was said to be broken, and line 2 to agree
unfoldable first : List Call
first = elements edges 400 3000 100

abbrev now_1 : ℕ
now_1 = 4294502100

states_1 : (state_of made.clock (life_of made (Tick now_1 ∷ first)).state 1 ≡ is.Broken)
    × (state_of made.clock (life_of made (Tick now_1 ∷ first)).state 2 ≡ is.Agreed)
unfolding first elements said behind_edge width_of line frame step_checked goes_against step_of told_of frame_told coded_told ones values_of field_at control_of offset_in utc_minute is_month_end four_years
states_1 = (refl, refl)

-- and nothing was measured, of no second
rate_1 : rate_at (life_of made (Tick now_1 ∷ first)) ≡ None
unfolding first elements said behind_edge width_of line frame step_checked goes_against step_of told_of frame_told coded_told ones values_of field_at control_of offset_in utc_minute is_month_end four_years
rate_1 = refl

-- in the middle of the third second line 0 agrees, by the tick before: so the law says behind each pulse
unfoldable half : List Call
half = elements edges 400 3000 250

half_order : AreInOrder start of.Three (Tick 4296002000 ∷ half)
unfolding half elements said behind_edge width_of line frame in_order have_risen is_after
half_order = order_is start of.Three (Tick 4296002000 ∷ half) refl

half_truth : AreTrueAtTicks (IsTrueLately 450 rules noon edges) 1 half
unfolding half elements said behind_edge width_of line frame are_true_at_ticks are_true_lately are_lately last_before is_pulse_of is_same
half_truth = truly_is 450 rules noon edges line is_line 300 1 half refl

half_lately : IsTrueLately 450 rules noon edges (last_tick start half - 1500000) (pulses_on 0 half)
unfolding half elements said behind_edge width_of line frame are_lately last_before is_pulse_of is_same
half_lately = record { line = line; next = 300; is_line = is_line; are = (lately_decided 450 line edges (last_tick start half - 1500000) 300 (pulses_on 0 half)).1 refl }

half_state : state_of made.clock (life_of made half).state 0 ≡ is.Agreed
unfolding half elements said behind_edge width_of line frame step_checked goes_against step_of told_of frame_told coded_told ones values_of field_at control_of offset_in utc_minute is_month_end four_years
half_state = refl

half_not_untrue : is_untrue (state_of made.clock (life_of made half).state 0) ≡ false
half_not_untrue = true_line (IsTrueLately 450) noon edges made start 4296002000 half (record { is = is_device; learns = inl refl; order = half_order.3; truth = half_truth }) truly_told (steps_truly noon edges made start half (record { is = is_device; learns = inl refl; order = half_order.3; truth = half_truth })) half_order 0 (omega arith) half_lately

-- ---- lines less than 10 us off, by a counter that is 1 us a second fast. Here a line is apart that is
-- 60 us late

abbrev exact : ℕ → ℕ
exact n = 1000000 + 1000001 * n

steady : IsQuartz 1 exact
steady = record { few = omega arith; steady = record { least = λ n. omega arith; most = λ n. omega arith } }

abbrev exact_clock : ClockRules
exact_clock = record { reader_rules = record { lock_after = 1; holdover = 100 }; redundancy = of.Three; within = within_of 10; limits = usual; drift_us = 1; wander_ppb = 0; delays = no_delays; prefers_frames = false }

by_counter : IsDevice noon 1 exact exact_clock.reader_rules no_table
by_counter = record { steady = steady; sound = is_device.sound; knows = is_device.knows }

abbrev exact_made : Made
exact_made = record { rules = rules; clock = exact_clock; table = no_table; lines = new_lines; fresh = are_new }

abbrev exact_now : ℕ
exact_now = 4002003

unfoldable exact_calls : List Call
exact_calls = elements exact 9 60 300

exact_order : AreInOrder 900000 of.Three (Tick exact_now ∷ exact_calls)
unfolding exact_calls elements said behind_edge width_of line frame in_order have_risen is_after
exact_order = order_is 900000 of.Three (Tick exact_now ∷ exact_calls) refl

exact_truth : AreTrueAtTicks (IsTrueLately 10 rules noon exact) 1 (Tick exact_now ∷ exact_calls)
unfolding exact_calls elements said behind_edge width_of line frame are_true_at_ticks are_true_lately are_lately last_before is_pulse_of is_same
exact_truth = truly_is 10 rules noon exact line is_line 300 1 (Tick exact_now ∷ exact_calls) refl

exact_lives : LivesTruly (IsTrueLately 10) noon exact exact_made 900000 (Tick exact_now ∷ exact_calls)
exact_lives = record { is = by_counter; learns = inl refl; order = exact_order; truth = exact_truth }

exact_told : TellAlwaysTruly (IsTrueLately 10 rules noon exact) exact_clock rules noon exact 0 0
exact_told now half end pulses claim is frame soon = true_by_any exact_clock rules noon 1 exact half now end pulses claim steady is frame soon

exact_line : IsTrueLately 10 rules noon exact (exact_now - 1500000) (pulses_on 1 exact_calls)
unfolding exact_calls elements said behind_edge width_of line frame are_lately last_before is_pulse_of is_same
exact_line = record { line = line; next = 300; is_line = is_line; are = (lately_decided 10 line exact (exact_now - 1500000) 300 (pulses_on 1 exact_calls)).1 refl }

exact_states : (state_of exact_clock (life_of exact_made (Tick exact_now ∷ exact_calls)).state 1 ≡ is.Agreed)
    × (state_of exact_clock (life_of exact_made (Tick exact_now ∷ exact_calls)).state 2 ≡ is.Apart)
unfolding exact_calls elements said behind_edge width_of line frame step_checked goes_against step_of told_of frame_told coded_told ones values_of field_at control_of offset_in utc_minute is_month_end four_years
exact_states = (refl, refl)

exact_not_untrue : is_untrue (state_of exact_clock (life_of exact_made (Tick exact_now ∷ exact_calls)).state 1) ≡ false
exact_not_untrue = true_at_tick (IsTrueLately 10) noon exact exact_made 900000 exact_now exact_calls exact_lives exact_told (steps_truly noon exact exact_made 900000 (Tick exact_now ∷ exact_calls) exact_lives) 1 (omega arith) exact_line

exact_late_line : HasSentFalsely exact_clock rules noon exact exact_now (pulses_on 2 exact_calls)
exact_late_line =
    (said_rightly (IsTrueLately 10) noon exact exact_made 900000 exact_now (Tick exact_now ∷ exact_calls) exact_lives exact_told (steps_truly noon exact exact_made 900000 (Tick exact_now ∷ exact_calls) exact_lives) (again 900000 of.Three exact_now exact_calls exact_order) 2 (omega arith)).false_one (ap is_false exact_states.1)

-- here the anchor lies from 12 us before the first edge to 18 us behind it, and what is known at last from
-- 2 us before the third one to 18 us behind it. The two seconds are 2,000,002 us
abbrev exact_measured : Rate
exact_measured = record { seconds = 2; least_ns = 999991000; most_ns = 1000016000 }

exact_rate : rate_at (life_of exact_made (Tick exact_now ∷ exact_calls)) ≡ Some exact_measured
unfolding exact_calls elements said behind_edge width_of line frame step_checked goes_against step_of told_of frame_told coded_told ones values_of field_at control_of offset_in utc_minute is_month_end four_years
exact_rate = refl

exact_mean : IsMeasured exact exact_now (life_of exact_made (Tick exact_now ∷ exact_calls)).state.edge_us exact_measured
exact_mean = measures_truly noon exact exact_made 900000 (Tick exact_now ∷ exact_calls) exact_measured exact_lives exact_rate

-- ---- the life of LifeFacts: behind a second that is held, lines 0 and 1 agree by the second that was told
-- before it, and line 2 differs, which sent another second's frame

held_states : (state_of made.clock (life_of made life_4).state 0 ≡ is.Agreed)
    × (state_of made.clock (life_of made life_4).state 1 ≡ is.Agreed)
    × (state_of made.clock (life_of made life_4).state 2 ≡ is.Differed)
unfolding calls_3 elements_before with_element pulse_told with_tick width_of lie line frame step_checked goes_against step_of told_of frame_told coded_told ones values_of field_at control_of offset_in utc_minute is_month_end four_years
held_states = (refl, refl, refl)

held_lives : LivesTruly (IsTrueLately 450) noon edges made 4293400000 life_4
held_lives = record { is = is_device; learns = inl refl; order = order_4; truth = truth_4 }

liar : HasSentFalsely made.clock rules noon edges now_4 (pulses_on 2 calls_3)
liar =
    (said_rightly (IsTrueLately 450) noon edges made 4293400000 now_4 life_4 held_lives truly_told (steps_truly noon edges made 4293400000 life_4 held_lives) (again 4293400000 of.Three now_4 (Tick now_3 ∷ calls_3) order_4) 2 (omega arith)).false_one (ap is_false held_states.2)
