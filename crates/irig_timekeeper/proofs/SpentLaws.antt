-- A holdover that is spent ends: nothing is held by which an edge could lie more than 490 ms off.
use Rattle.std.specs.Prelude.{not, ◌&&◌}
use Rattle.std.proofs.Common.{◌≡◌, ℕ, ◌+◌, ◌-◌, ◌*◌, ◌<◌, ◌≤◌, ◌⊎◌, Bool, true, false, cond, Option, Some, None, Result, Ok, Err, refl, ap, arith, inl, inr}
use Rattle.std.proofs.lemmas.Bool.{cases_Bool, ltb-true, ltb-false}
use Rattle.irig_time.specs.declared.claim.Claim.{Claim}
use Rattle.irig_time.specs.Tables.{TableValue}
use Rattle.irig_time.specs.Timelines.{TimelineValue}
use Rattle.irig_hold.specs.declared.hold.Turn.{Turn}
use Rattle.irig_hold.specs.declared.hold.Turn.TheVariants as turn
use Rattle.irig_hold.specs.Steps.{HoldValue, hold_start, voted_by}
use Rattle.irig_reader.specs.declared.rules.ReaderRules.{ReaderRules}
use Rattle.irig_reader.specs.declared.rule.State.{State}
use Rattle.irig_reader.specs.declared.rule.State.TheVariants.{Idle, Acquiring, Locked}
use Rattle.irig_reader.specs.declared.rule.Step.{Step}
use Rattle.irig_reader.specs.Lives.{KnowsMonthEnds}
use Rattle.irig_reader.specs.Rule.{first_vote_step, later_vote_step_by, step_of, stop_step}
use Rattle.irig_reader.specs.declared.report.Cause.TheVariants as cause
use Rattle.irig_lines.specs.declared.pace.Pace.{Pace}
use Rattle.irig_lines.specs.declared.setup.ClockRules.{ClockRules}
use Rattle.irig_lines.specs.Paces.{grown_us, is_spent}
use Rattle.irig_lines.proofs.PaceLaws.{grown_more, grown_most, grown_on, none_grown}
use Rattle.irig_timekeeper.specs.Clock.{age_of, lasted, rules_on, pace_unless}
use Rattle.irig_timekeeper.specs.Rule.{goes_against, missed, step_behind, step_checked}
use Rattle.irig_timekeeper.specs.Truth.{IsDevice}
use Rattle.irig_timekeeper.proofs.AgeLaws.{behind_ages, step_lasts}

module _ (c : ClockRules) (pace : Option Pace) (reader : State) (n : ℕ) where
  abbrev by : ReaderRules
  by = rules_on c pace reader n

  -- the rules are the setup's, or end the holdover
  pub either_rules : ((490000 < grown_us c.drift_us pace (age_of reader) + n * c.drift_us) × (by.holdover ≡ 0)) ⊎ ((grown_us c.drift_us pace (age_of reader) + n * c.drift_us ≤ 490000) × (by ≡ c.reader_rules))
  either_rules = elim (cases_Bool (is_spent c.drift_us pace (age_of reader) n)) [
    | inl spent ↦ inl (ltb-true 490000 (grown_us c.drift_us pace (age_of reader) + n * c.drift_us) spent, rw spent refl)
    | inr goes ↦ inr (ltb-false 490000 (grown_us c.drift_us pace (age_of reader) + n * c.drift_us) goes, rw goes refl)
  ]

  pub same_locks : by.lock_after ≡ c.reader_rules.lock_after
  same_locks = elim (cases_Bool (is_spent c.drift_us pace (age_of reader) n)) [ inl spent ↦ rw spent refl | inr goes ↦ rw goes refl ]

  pub no_longer : by.holdover ≤ c.reader_rules.holdover
  no_longer = elim (cases_Bool (is_spent c.drift_us pace (age_of reader) n)) [ inl spent ↦ rw spent (omega arith) | inr goes ↦ rw goes (omega arith) ]

  -- the setup's without a holdover
  abbrev no_holdover : ReaderRules
  no_holdover = record c.reader_rules { holdover = 0 }

  first : (o : Result HoldValue Turn) → first_vote_step no_holdover o ≡ first_vote_step c.reader_rules o
  first (Ok h) = refl
  first (Err stop) = refl

  later : (count : ℕ) (one other : Step) (answer : Turn) (h : HoldValue) → one ≡ other → later_vote_step_by no_holdover count one answer h ≡ later_vote_step_by c.reader_rules count other answer h
  later count one other (turn.Now u) h same = refl
  later count one other turn.Jump h same = same
  later count one other turn.LeapGuard h same = refl
  later count one other turn.Expired h same = refl
  later count one other turn.RangeEnd h same = refl

  rule : (table : TableValue) (s : State) (v : Claim) → step_of no_holdover table s (Some v) ≡ step_of c.reader_rules table s (Some v)
  unfolding step_of
  rule table Idle v = first (hold_start table v)
  rule table (Acquiring h count) v = later count _ _ (voted_by table h v).answer (voted_by table h v).new (first (hold_start table v))
  rule table (Locked h) v = refl

  ended : (prefers : Bool) (table : TableValue) (s : State) (v : Claim) → step_checked prefers no_holdover table s (Some v) ≡ step_checked prefers c.reader_rules table s (Some v)
  unfolding step_checked
  ended prefers table s v = ap (λ (x : Step). cond (not prefers && goes_against table s (Some v)) (stop_step cause.LeapGuard) x) (rule table s v)

  -- a vote is judged alike by both
  pub same_vote : (prefers : Bool) (table : TableValue) (s : State) (v : Claim) → step_checked prefers by table s (Some v) ≡ step_checked prefers c.reader_rules table s (Some v)
  same_vote prefers table s v = elim (cases_Bool (is_spent c.drift_us pace (age_of reader) n)) [ inl spent ↦ rw spent (ended prefers table s v) | inr goes ↦ rw goes refl ]

  -- a device is one by both
  pub is_by : (t : TimelineValue) (edges : ℕ → ℕ) (table : TableValue) → IsDevice t c.drift_us edges c.reader_rules table → IsDevice t c.drift_us edges by table
  is_by t edges table is = record { steady = is.steady; sound = is.sound; knows = knows is.knows }
    where
      knows : KnowsMonthEnds t c.reader_rules table → KnowsMonthEnds t by table
      knows (inl true_table) = inl true_table
      knows (inr few) = inr (omega (arith, few, no_longer))

  -- what comes of the seconds that a holdover has then lasted
  pub held_small : (prefers : Bool) (table : TableValue) (vote : Option Claim) → 1 ≤ n → grown_us c.drift_us pace (lasted (step_behind prefers by table (n - 1) reader vote).report.lock) ≤ 490000
  held_small prefers table vote some = elim either_rules [
    | inl ended ↦
        let none : lasts ≤ 0 = omega (arith, step_lasts prefers by table (missed prefers by table (n - 1) reader) vote, ended.1) in
        omega (arith, grown_more c.drift_us pace lasts 0 none, none_grown c.drift_us pace)
    | inr goes ↦
        let ages : lasts ≤ age_of reader + n = omega (arith, behind_ages prefers by table (n - 1) reader vote, some) in
        omega (arith, grown_more c.drift_us pace lasts (age_of reader + n) ages, grown_on c.drift_us pace (age_of reader) n, goes.0)
  ]
    where
      lasts : ℕ
      lasts = lasted (step_behind prefers by table (n - 1) reader vote).report.lock

-- by nothing that was learned an edge may lie further off
pub unless_grown : (d : ℕ) (unsteady : Bool) (pace : Option Pace) (k : ℕ) → grown_us d pace k ≤ grown_us d (pace_unless unsteady pace) k
unless_grown d true pace k = grown_most d pace k
unless_grown d false pace k = omega arith
