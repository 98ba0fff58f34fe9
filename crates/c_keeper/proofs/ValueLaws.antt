-- What calls make of the numbers of a timekeeper is what they make of the value that it is.
use Rattle.std.specs.Prelude.{min, IfSome}
use Rattle.std.proofs.Common.{◌≡◌, ◌∙◌, ◌==◌, ◌≤◌, if◌then◌else◌, not, ℕ, Bool, true, false, Option, Some, None, refl, sym, ap, subst, arith}
use Rattle.irig_time.specs.Tables.{TableValue}
use Rattle.irig_timekeeper.specs.declared.clock.Beat.{Beat}
use Rattle.irig_lines.specs.declared.setup.ClockRules.{ClockRules}
use Rattle.irig_timekeeper.specs.declared.clock.ClockState.{ClockState}
use Rattle.irig_time.specs.Seconds.{IsValid}
use Rattle.irig_reader.specs.declared.report.Report.{Report}
use Rattle.irig_timekeeper.specs.Clock.{clock_after, clock_answer, clock_wait, SaysOfUtc}
use Rattle.irig_lines.specs.Refusals.{clock_fault, within_of}
use Rattle.c_numbers.specs.declared.setup.IrigSetup.{IrigSetup}
use Rattle.c_numbers.specs.Reports.{report_in}
use Rattle.c_numbers.specs.Setups.{keeper_limits_in, reader_rules_in, redundancy_in, IsKeeperSetup}
use Rattle.c_lines.specs.declared.announced.IrigAnnounced.{IrigAnnounced}
use Rattle.irig_timekeeper.specs.Keeping.{Keeping, after_tick, answer_at, wait_at}
use Rattle.c_numbers.specs.LeapTables.{table_in}
use Rattle.c_keeper.specs.declared.second.IrigSecond.{IrigSecond}
use Rattle.c_keeper.specs.declared.timekeeper.IrigTimekeeper.{IrigTimekeeper}
use Rattle.c_keeper.specs.declared.timekeeper.IrigWires.{IrigWires}
use Rattle.c_keeper.specs.Seconds.{IsSecondOf, IsToldOf}
use Rattle.c_lines.specs.Announced.{IsAnnounced, IsSmall}
use Rattle.c_keeper.specs.Timekeepers.{answer_in, clock_in, clock_state_in, delays_in, state_behind, vote_limits_in, wait_in, IsTimekeeperOf}

pub answers_as : (t : IrigTimekeeper) (k : Keeping) (now : ℕ) → IsTimekeeperOf t k → answer_in t now ≡ answer_at k now
answers_as t k now h =
    ap (λ (c : ClockRules). clock_answer c (table_in t.table) (clock_state_in t) now) h.clock
    ∙ (ap (λ (table : TableValue). clock_answer k.clock table (clock_state_in t) now) h.table
    ∙ ap (λ (s : ClockState). clock_answer k.clock k.table s now) h.state)

pub stands_as : (t : IrigTimekeeper) (k : Keeping) (now : ℕ) → IsTimekeeperOf t k → state_behind t now ≡ (after_tick k now).state
stands_as t k now h =
    ap (λ (c : ClockRules). clock_after c (table_in t.table) (clock_state_in t) now) h.clock
    ∙ (ap (λ (table : TableValue). clock_after k.clock table (clock_state_in t) now) h.table
    ∙ ap (λ (s : ClockState). clock_after k.clock k.table s now) h.state)

pub waits_value : (t : IrigTimekeeper) (k : Keeping) (now : ℕ) → IsTimekeeperOf t k → wait_in t now ≡ wait_at k now
waits_value t k now h =
    ap (λ (c : ClockRules). clock_wait c (clock_state_in t) now) h.clock ∙ ap (λ (s : ClockState). clock_wait k.clock s now) h.state

-- a second that is told is a beat
pub record IsBeatOf (s : IrigSecond) (answer : Option Beat) (beat : Beat) : Type 0 where
  pub is : answer ≡ Some beat
  pub told : IsToldOf s beat

pub beat_of : (s : IrigSecond) (answer : Option Beat) → IsSecondOf s answer → s.is_told ≡ 1 → (beat : Beat) × IsBeatOf s answer beat
beat_of s None nothing told =
    let none : s.is_told ≡ 0 = ap (λ (x : IrigSecond). x.is_told) nothing in
    absurd (omega (arith, none, told))
beat_of s (Some beat) is told = (beat, record { is = refl; told = is })

-- what is announced is of UTC
pub valid_told : (s : IrigSecond) (answer : Option Beat) → IsSecondOf s answer → SaysOfUtc answer → IfSome (report_in s.report).announce IsValid
valid_told s None nothing says = subst (λ (x : IrigSecond). IfSome (report_in x.report).announce IsValid) (sym nothing) tt
valid_told s (Some beat) told says = subst (λ (r : Report). IfSome r.announce IsValid) (sym told.report) says

-- ---- the same setup and wires

pub clock_as : (t q : IrigTimekeeper) → q.setup ≡ t.setup → q.wires ≡ t.wires → clock_in q ≡ clock_in t
clock_as t q setup wires =
    ap (λ (s : IrigSetup). clock_of s q.wires) setup ∙ ap (λ (w : IrigWires). clock_of t.setup w) wires
  where
    clock_of : IrigSetup → IrigWires → ClockRules
    clock_of s w = record { reader_rules = reader_rules_in s; redundancy = redundancy_in s; within = within_of w.within_us; limits = vote_limits_in s; drift_us = w.drift_us; wander_ppb = w.wander_ppb; delays = delays_in w.delays; prefers_frames = not (w.prefers_frames == 0) }

pub steady_as : (t q : IrigTimekeeper) → q.setup ≡ t.setup → q.wires ≡ t.wires → clock_fault (reader_rules_in t.setup) t.wires.drift_us t.wires.wander_ppb ≡ None
    → clock_fault (reader_rules_in q.setup) q.wires.drift_us q.wires.wander_ppb ≡ None
steady_as t q setup wires steady =
    ap (λ (s : IrigSetup). clock_fault (reader_rules_in s) q.wires.drift_us q.wires.wander_ppb) setup
    ∙ (ap (λ (w : IrigWires). clock_fault (reader_rules_in t.setup) w.drift_us w.wander_ppb) wires ∙ steady)

-- ---- the limits of a setup that a timekeeper may have are as it says

few_limits : (s : IrigSetup) → IsKeeperSetup s → (keeper_limits_in s).poor_from ≤ 8
unfolding keeper_limits_in
few_limits s is = by (s.poor_from == 0) s.poor_from is.poor_from
  where
    by : (none : Bool) (n : ℕ) → n ≤ 8 → (if none then 7 else n) ≤ 8
    by true n few = omega arith
    by false n few = few

pub same_limits : (s : IrigSetup) → IsKeeperSetup s → (vote_limits_in s).limits ≡ keeper_limits_in s
same_limits s is =
    let few = few_limits s is in
    let same : min (keeper_limits_in s).poor_from 8 ≡ (keeper_limits_in s).poor_from = omega (arith, few) in
    λ i. record (keeper_limits_in s) { poor_from = same i }

-- nothing was announced
pub none_announced : (a : IrigAnnounced) → a.is_told ≡ 0 → IsAnnounced a
none_announced a e = rw e tt

pub none_small : (a : IrigAnnounced) → a.is_told ≡ 0 → IsSmall a
none_small a e = rw e (λ announced is. absurd cc)
