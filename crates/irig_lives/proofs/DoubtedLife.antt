-- What strays is not held: two of three lines step by 3 ms behind their first second, and so does their
-- vote. The lines are less than 450 us off by the setup, which says of the counter that it runs at most
-- 100 us a second wrong.
use Rattle.std.specs.Prelude.{nat_lt, if◌then◌else◌}
use Rattle.std.proofs.Common.{◌≡◌, ◌∙◌, ℕ, zero, suc, ◌+◌, ◌-◌, ◌*◌, ◌%◌, ◌^◌, false, List, [], ◌∷◌, ◌++◌, Some, None, refl, sym, arith, inl}
use Rattle.irig_frame.specs.Faults.{values_of, field_at}
use Rattle.irig_control.specs.Parity.{ones}
use Rattle.irig_control.specs.Control.{control_of, offset_in}
use Rattle.irig_time.specs.declared.second.UtcSecond.{UtcSecond}
use Rattle.irig_time.specs.Claims.{utc_minute}
use Rattle.irig_time.specs.Days.{is_month_end, four_years}
use Rattle.irig_port.specs.declared.told.Told.TheVariants as tells
use Rattle.irig_port.specs.Told.{told_of, frame_told, coded_told}
use Rattle.irig_vote.specs.declared.redundancy.Redundancy.TheVariants as of
use Rattle.irig_reader.specs.declared.report.Report.{Report}
use Rattle.irig_reader.specs.declared.report.Lock.TheVariants as lock
use Rattle.irig_reader.specs.declared.report.Cause.TheVariants as cause
use Rattle.irig_reader.specs.Rule.{step_of}
use Rattle.irig_timekeeper.specs.declared.clock.Beat.{Beat}
use Rattle.irig_lines.specs.declared.lines.Vote.{Vote}
use Rattle.irig_lines.specs.Refusals.{within_of}
use Rattle.irig_timekeeper.specs.Rule.{step_behind, step_checked, goes_against}
use Rattle.irig_timekeeper.specs.Clock.{is_unsteady}
use Rattle.irig_timekeeper.specs.Keeping.{vote_at, answer_at, rate_at}
use Rattle.irig_timekeeper.specs.Carried.{IsCarried}
use Rattle.irig_timekeeper.specs.Life.{Call, Made, device_of, life_of, pulses_on, AreInOrder, LivesTruly}
use Rattle.irig_timekeeper.specs.Life.Call.{Hear, Tick}
use Rattle.irig_timekeeper.specs.Doubts.{voted_since, NoneStrays, SaysTheRule}
use Rattle.irig_timekeeper.proofs.CarriedLaws.{life_carries}
use Rattle.irig_timekeeper.proofs.DoubtLaws.{says_rule, says_voted, not_held, held_again}
use Rattle.irig_timekeeper.proofs.StrayLaws.{never_doubts, never_unsteady}
use Rattle.irig_lives.specs.Decided.{is_after, have_risen, in_order}
use Rattle.irig_lives.proofs.DecidedLaws.{order_is}
use Rattle.irig_lives.proofs.LifeFacts.{edges, at, noon, no_delays, no_table, is_device, rules, claim_of, new_lines, are_new, made, silence, frame, line, width_of, calls_3, now_3, now_4, order_4, truth_4, beat_4, answer_4, usual}

-- ---- a device that holds over for so many seconds

abbrev made_for : ℕ → Made
made_for holdover = record {
  rules = rules;
  clock = record { reader_rules = record { lock_after = 1; holdover = holdover }; redundancy = of.Three; within = within_of 450; limits = usual; drift_us = 100; wander_ppb = 0; delays = no_delays; prefers_frames = false };
  table = no_table;
  lines = new_lines;
  fresh = are_new;
}

-- ---- the calls: of each second a hundred pulses of two lines, 400 us before their places and behind them,
-- and then a tick. From the second second on all come 3 ms later

told : (port off k : ℕ) → Call
told port off k = Hear port ((if nat_lt k 100 then 1000000 else 1003000) + 10000 * k + off - 400) (width_of (line k))

heard : (from n : ℕ) → List Call → List Call
heard from zero calls = calls
heard from (suc n) calls = told 1 800 (from + n) ∷ told 0 0 (from + n) ∷ heard from n calls

abbrev now_of_2 : ℕ
now_of_2 = 3005000

unfoldable earlier : List Call
earlier = heard 100 100 (Tick 2002000 ∷ heard 0 100 [])

-- the second behind these, with its tick
unfoldable third : List Call
third = Tick 4005000 ∷ heard 200 100 []

order : AreInOrder 900000 of.Three (Tick 5010000 ∷ (third ++ (Tick now_of_2 ∷ earlier)))
unfolding third earlier heard told width_of line frame in_order have_risen is_after
order = order_is 900000 of.Three (Tick 5010000 ∷ (third ++ (Tick now_of_2 ∷ earlier))) refl

-- ---- the second vote strays

-- the first one leaves 1,700 us round the edge at 2,000,000, and a second later 1,900 us; the second one
-- has its edge at 3,003,000, and a bound of 850 us too
vote_2 : vote_at (life_of (made_for 57) earlier) (now_of_2 % 2 ^ 32) ≡ Some (record { claim = claim_of 43201; edge_us = 3003000; bound_us = 850 })
unfolding earlier heard told width_of line frame step_checked goes_against step_of told_of frame_told coded_told ones values_of field_at control_of offset_in utc_minute is_month_end four_years
vote_2 = refl

order_2 : AreInOrder 900000 of.Three (Tick now_of_2 ∷ earlier)
unfolding earlier heard told width_of line frame in_order have_risen is_after
order_2 = order_is 900000 of.Three (Tick now_of_2 ∷ earlier) refl

-- though it strays, it is carried by what two lines were told
carried_2 : IsCarried (made_for 57).clock rules (claim_of 43201) now_of_2 (λ port. pulses_on port earlier)
carried_2 = life_carries (made_for 57) 900000 now_of_2 earlier (record { claim = claim_of 43201; edge_us = 3003000; bound_us = 850 }) order_2 vote_2

counted : ((life_of (made_for 57) earlier).state.strays ≡ 0)
    × ((life_of (made_for 57) (Tick now_of_2 ∷ earlier)).state.strays ≡ 1)
    × ((life_of (made_for 57) (Tick now_of_2 ∷ earlier)).state.doubt ≡ 57)
unfolding earlier heard told width_of line frame step_checked goes_against step_of told_of frame_told coded_told ones values_of field_at control_of offset_in utc_minute is_month_end four_years
counted = (refl, refl, refl)

strays : ¬ ((life_of (made_for 57) (Tick now_of_2 ∷ earlier)).state.strays ≡ (life_of (made_for 57) earlier).state.strays)
strays same = let other : 1 ≡ 0 = sym counted.1 ∙ same ∙ counted.0 in absurd (omega (arith, other))

-- ---- a second without a vote follows

-- of such a second a device says that it counts on, but announces nothing
abbrev nothing_at : (edge : ℕ) → Beat
nothing_at edge = record { report = record { announce = None; lock = lock.Holdover 1; cause = cause.Held }; told = silence; edge_us = edge; bound_us = 950; missed = 0; moved = 0; against_table = false }

-- what the reader's rule would hold
abbrev held_by_rule : UtcSecond → Report
held_by_rule u = record { announce = Some u; lock = lock.Holdover 1; cause = cause.Held }

alone : (vote_at (life_of (made_for 57) (Tick now_of_2 ∷ earlier)) (4010000 % 2 ^ 32) ≡ None)
    × (answer_at (life_of (made_for 57) (Tick now_of_2 ∷ earlier)) (4010000 % 2 ^ 32) ≡ Some (nothing_at 4003000))
    × ((step_behind (made_for 57).clock.prefers_frames (made_for 57).clock.reader_rules no_table 0 (life_of (made_for 57) (Tick now_of_2 ∷ earlier)).state.reader None).report ≡ held_by_rule (at 43203))
unfolding earlier heard told width_of line frame step_checked goes_against step_of told_of frame_told coded_told ones values_of field_at control_of offset_in utc_minute is_month_end four_years
alone = (refl, refl, refl)

not_said : (nothing_at 4003000).report.announce ≡ None
not_said = not_held (device_of (made_for 57)) now_of_2 4010000 earlier [] (nothing_at 4003000) strays (omega arith) alone.0 alone.1

-- nor does it behind one more second that is voted, and does not stray
voted_one : voted_since (device_of (made_for 57)) third (Tick now_of_2 ∷ earlier) ≡ 1
unfolding third earlier heard told width_of line frame step_checked goes_against step_of told_of frame_told coded_told ones values_of field_at control_of offset_in utc_minute is_month_end four_years
voted_one = refl

later_alone : (vote_at (life_of (made_for 57) (third ++ (Tick now_of_2 ∷ earlier))) (5010000 % 2 ^ 32) ≡ None)
    × (answer_at (life_of (made_for 57) (third ++ (Tick now_of_2 ∷ earlier))) (5010000 % 2 ^ 32) ≡ Some (nothing_at 5003000))
unfolding third earlier heard told width_of line frame step_checked goes_against step_of told_of frame_told coded_told ones values_of field_at control_of offset_in utc_minute is_month_end four_years
later_alone = (refl, refl)

later_not_said : (nothing_at 5003000).report.announce ≡ None
later_not_said = not_held (device_of (made_for 57)) now_of_2 5010000 earlier third (nothing_at 5003000) strays (omega (arith, voted_one)) later_alone.0 later_alone.1

-- but that second itself it announces, by its vote, as the rule says
abbrev voted_beat : Beat
voted_beat = record {
  report = record { announce = Some (at 43203); lock = lock.Locked; cause = cause.Voted };
  told = record silence { a = tells.Claim (claim_of 43202); b = tells.Claim (claim_of 43202) };
  edge_us = 4003000;
  bound_us = 850;
  missed = 0;
  moved = 0;
  against_table = false;
}

unfoldable third_heard : List Call
third_heard = heard 200 100 (Tick now_of_2 ∷ earlier)

abbrev vote_3 : Vote
vote_3 = record { claim = claim_of 43202; edge_us = 4003000; bound_us = 850 }

voted : (vote_at (life_of (made_for 57) third_heard) (4005000 % 2 ^ 32) ≡ Some vote_3) × (answer_at (life_of (made_for 57) third_heard) (4005000 % 2 ^ 32) ≡ Some voted_beat)
unfolding third_heard earlier heard told width_of line frame step_checked goes_against step_of told_of frame_told coded_told ones values_of field_at control_of offset_in utc_minute is_month_end four_years
voted = (refl, refl)

said_by_vote : SaysTheRule (life_of (made_for 57) third_heard) (4005000 % 2 ^ 32) voted_beat
said_by_vote = says_voted (life_of (made_for 57) third_heard) (4005000 % 2 ^ 32) vote_3 voted_beat voted.0 voted.1

-- ---- what is measured begins anew where the second vote strays: its interval lies from 3,002,150 to
-- 3,003,850, and that at the third one from 4,002,150 to 4,003,850

measured : (rate_at (life_of (made_for 57) (Tick now_of_2 ∷ earlier)) ≡ None)
    × (rate_at (life_of (made_for 57) (third ++ (Tick now_of_2 ∷ earlier))) ≡ Some (record { seconds = 1; least_ns = 998300000; most_ns = 1001700000 }))
unfolding third earlier heard told width_of line frame step_checked goes_against step_of told_of frame_told coded_told ones values_of field_at control_of offset_in utc_minute is_month_end four_years
measured = (refl, refl)

-- ---- frames that tell that the counter is unsteady count as a vote that strays: in the second second it runs
-- 1,200 us wrong, so that the last pulse of each frame rises 991,188 us behind its first one

uneven : ℕ → ℕ → List Call → List Call
uneven from zero calls = calls
uneven from (suc n) calls =
    Hear 1 (1000400 + 10000 * (from + n) + 12 * n) (width_of (line (from + n)))
    ∷ Hear 0 (999600 + 10000 * (from + n) + 12 * n) (width_of (line (from + n))) ∷ uneven from n calls

unfoldable unsteady : List Call
unsteady = uneven 100 100 (Tick 2002000 ∷ heard 0 100 [])

unsteady_strays : ((life_of (made_for 57) unsteady).state.strays ≡ 0) × ((life_of (made_for 57) (Tick 3010000 ∷ unsteady)).state.strays ≡ 1)
unfolding unsteady uneven heard told width_of line frame step_checked goes_against step_of told_of frame_told coded_told ones values_of field_at control_of offset_in utc_minute is_month_end four_years
unsteady_strays = (refl, refl)

abbrev nothing_then : Beat
nothing_then = record { report = record { announce = None; lock = lock.Holdover 2; cause = cause.Held }; told = silence; edge_us = 4000000; bound_us = 1050; missed = 0; moved = 0; against_table = false }

unsteady_alone : (vote_at (life_of (made_for 57) (Tick 3010000 ∷ unsteady)) (4010000 % 2 ^ 32) ≡ None)
    × (answer_at (life_of (made_for 57) (Tick 3010000 ∷ unsteady)) (4010000 % 2 ^ 32) ≡ Some nothing_then)
    × ((step_behind (made_for 57).clock.prefers_frames (made_for 57).clock.reader_rules no_table 0 (life_of (made_for 57) (Tick 3010000 ∷ unsteady)).state.reader None).report.announce ≡ Some (at 43203))
unfolding unsteady uneven heard told width_of line frame step_checked goes_against step_of told_of frame_told coded_told ones values_of field_at control_of offset_in utc_minute is_month_end four_years
unsteady_alone = (refl, refl, refl)

not_said_then : nothing_then.report.announce ≡ None
not_said_then =
    not_held (device_of (made_for 57)) 3010000 4010000 unsteady [] nothing_then
    (λ same. (let other : 1 ≡ 0 = sym unsteady_strays.1 ∙ same ∙ unsteady_strays.0 in absurd (omega (arith, other)))) (omega arith) unsteady_alone.0 unsteady_alone.1

-- ---- of the same calls a device announces that second which holds over for one second alone: so many were
-- voted

abbrev held_beat : Beat
held_beat = record { report = held_by_rule (at 43204); told = silence; edge_us = 5003000; bound_us = 950; missed = 0; moved = 0; against_table = false }

none_strays : NoneStrays (device_of (made_for 1)) third (Tick now_of_2 ∷ earlier)
unfolding third earlier heard told width_of line frame step_checked goes_against step_of told_of frame_told coded_told ones values_of field_at control_of offset_in utc_minute is_month_end four_years
none_strays = (refl, tt)

enough : (voted_since (device_of (made_for 1)) third (Tick now_of_2 ∷ earlier) ≡ 1)
    × ((life_of (made_for 1) (Tick now_of_2 ∷ earlier)).state.strays ≡ 1)
    × (is_unsteady (made_for 1).clock (life_of (made_for 1) (third ++ (Tick now_of_2 ∷ earlier))).state (5010000 % 2 ^ 32) ≡ false)
    × (answer_at (life_of (made_for 1) (third ++ (Tick now_of_2 ∷ earlier))) (5010000 % 2 ^ 32) ≡ Some held_beat)
unfolding third earlier heard told width_of line frame step_checked goes_against step_of told_of frame_told coded_told ones values_of field_at control_of offset_in utc_minute is_month_end four_years
enough = (refl, refl, refl, refl)

said_again : SaysTheRule (life_of (made_for 1) (third ++ (Tick now_of_2 ∷ earlier))) (5010000 % 2 ^ 32) held_beat
said_again = held_again (device_of (made_for 1)) refl 5010000 third (Tick now_of_2 ∷ earlier) held_beat none_strays (omega (arith, enough.0)) enough.2 enough.3

-- ---- at 10 us and 1 us a second two lines, 9 us before their places and behind them, vote with a bound of
-- 19 us. A second later the edge lies 20 us round the next million: a vote 39 us late may be, one 40 us late
-- strays

abbrev exact : Made
exact = record (made_for 57) { clock = record (made_for 57).clock { within = within_of 10; limits = usual; drift_us = 1 } }

exactly : (late from n : ℕ) → List Call → List Call
exactly late from zero calls = calls
exactly late from (suc n) calls =
    Hear 1 (1000009 + late + 10000 * (from + n)) (width_of (line (from + n)))
    ∷ Hear 0 (999991 + late + 10000 * (from + n)) (width_of (line (from + n))) ∷ exactly late from n calls

unfoldable late_by : ℕ → List Call
late_by late = exactly late 100 100 (Tick 2002000 ∷ exactly 0 0 100 [])

exact_strays : ((life_of exact (Tick 3002000 ∷ late_by 39)).state.strays ≡ 0) × ((life_of exact (late_by 40)).state.strays ≡ 0)
    × ((life_of exact (Tick 3002000 ∷ late_by 40)).state.strays ≡ 1)
unfolding late_by exactly width_of line frame step_checked goes_against step_of told_of frame_told coded_told ones values_of field_at control_of offset_in utc_minute is_month_end four_years
exact_strays = (refl, refl, refl)

abbrev nothing_exact : Beat
nothing_exact = record (nothing_at 4000040) { bound_us = 20 }

exact_alone : (vote_at (life_of exact (Tick 3002000 ∷ late_by 40)) (4007000 % 2 ^ 32) ≡ None)
    × (answer_at (life_of exact (Tick 3002000 ∷ late_by 40)) (4007000 % 2 ^ 32) ≡ Some nothing_exact)
    × ((step_behind false exact.clock.reader_rules no_table 0 (life_of exact (Tick 3002000 ∷ late_by 40)).state.reader None).report ≡ held_by_rule (at 43203))
unfolding late_by exactly width_of line frame step_checked goes_against step_of told_of frame_told coded_told ones values_of field_at control_of offset_in utc_minute is_month_end four_years
exact_alone = (refl, refl, refl)

not_said_exactly : nothing_exact.report.announce ≡ None
not_said_exactly =
    not_held (device_of exact) 3002000 4007000 (late_by 40) [] nothing_exact
    (λ same. (let other : 1 ≡ 0 = sym exact_strays.2 ∙ same ∙ exact_strays.1 in absurd (omega (arith, other)))) (omega arith) exact_alone.0 exact_alone.1

-- ---- while lines are true nothing is in doubt: the second that is held in the life of LifeFacts

held_truly : SaysTheRule (life_of made (Tick now_3 ∷ calls_3)) (now_4 % 2 ^ 32) beat_4
held_truly =
    let lives : LivesTruly _ noon edges made 4293400000 (Tick now_4 ∷ (Tick now_3 ∷ calls_3)) = record { is = is_device; learns = inl refl; order = order_4; truth = truth_4 } in
    says_rule (life_of made (Tick now_3 ∷ calls_3)) (now_4 % 2 ^ 32) beat_4 (never_doubts noon edges made 4293400000 (Tick now_3 ∷ calls_3) (record { is = is_device; learns = inl refl; order = order_4.3; truth = truth_4.1 }))
    (never_unsteady noon edges made 4293400000 (Tick now_3 ∷ calls_3) now_4 lives) answer_4
