-- Beats are votes of irig_reader's rule, so that its laws of votes are laws of beats.
use Rattle.std.proofs.Common.{◌≡◌, ◌∙◌, ℕ, zero, suc, ◌+◌, ◌≤◌, ◌-◌, List, [], ◌∷◌, Option, Some, None, ap, arith, Bool, true, refl, subst, sym, inl, inr}
use Rattle.irig_time.specs.declared.second.UtcSecond.{UtcSecond}
use Rattle.irig_time.specs.declared.claim.Claim.{Claim}
use Rattle.irig_time.specs.Tables.{TableValue}
use Rattle.irig_time.specs.Timelines.{TimelineValue, IsSecond, truth_at}
use Rattle.irig_time.specs.TimelineFaults.{IsTimeline}
use Rattle.irig_reader.specs.declared.rules.ReaderRules.{ReaderRules}
use Rattle.irig_reader.specs.declared.report.Report.{Report}
use Rattle.irig_reader.specs.declared.rule.State.{State}
use Rattle.irig_reader.specs.Held.{then_none}
use Rattle.irig_reader.specs.Locking.{IsSilentAfter, then_true, voted_report}
use Rattle.irig_reader.specs.Rule.{step_of, state_of, report_of}
use Rattle.irig_reader.proofs.TrueVotesInARow.{locked_by_true_votes}
use Rattle.irig_lines.specs.declared.lines.Vote.{Vote}
use Rattle.irig_timekeeper.specs.Rule.{missed, step_behind, against_table, step_checked}
use Rattle.irig_lines.specs.Paces.{grown_us}
use Rattle.irig_lines.proofs.PaceLaws.{none_grown}
use Rattle.irig_timekeeper.specs.Clock.{bound_of, answer_to_vote, rules_on}
use Rattle.irig_lines.specs.Steps.{tells_of}
use Rattle.irig_timekeeper.specs.Keeping.{Keeping}
use Rattle.irig_timekeeper.proofs.CheckedSteps.{checked_cases, passes}
use Rattle.irig_timekeeper.proofs.GuardLaws.{passes_truth}
use Rattle.irig_timekeeper.proofs.SpentLaws.{either_rules, same_vote}
use Rattle.irig_timekeeper.proofs.AgeLaws.{alone_step}
use Rattle.irig_lines.specs.declared.pace.Pace.{Pace}
use Rattle.irig_lines.specs.declared.setup.ClockRules.{ClockRules}
use Rattle.irig_timekeeper.specs.Truth.{FollowsTruth}
use Rattle.irig_reader.specs.declared.rule.Step.{Step}

module _ (rules : ReaderRules) (table : TableValue) where
  -- where frames are preferred, missed seconds are votes that are none
  missed_are_none : (n : ℕ) (s : State) (votes : List (Option Claim)) → s ≡ state_of rules table votes → missed true rules table n s ≡ state_of rules table (then_none n votes)
  missed_are_none zero s votes e = e
  missed_are_none (suc n) s votes e =
      ap (λ (x : Step). x.state) (passes true rules table (missed true rules table n s) None (inl refl))
      ∙ ap (λ (x : State). (step_of rules table x None).state) (missed_are_none n s votes e)

  pub beat_is_vote : (n : ℕ) (s : State) (votes : List (Option Claim)) (vote : Option Claim) → s ≡ state_of rules table votes → step_behind true rules table n s vote ≡ step_of rules table (state_of rules table (then_none n votes)) vote
  beat_is_vote n s votes vote e =
      passes true rules table (missed true rules table n s) vote (inl refl)
      ∙ ap (λ (x : State). step_of rules table x vote) (missed_are_none n s votes e)

  -- wherever a reader stands that the table guards, votes would have led it there
  pub record IsLed (s : State) : Type 0 where
    pub votes : List (Option Claim)
    pub reads : s ≡ state_of rules table votes

  pub step_led : (prefers : Bool) (s : State) (vote : Option Claim) → IsLed s → IsLed (step_checked prefers rules table s vote).state
  step_led prefers s vote led =
      checked_cases prefers rules table s vote (λ step. IsLed step.state) (record { votes = vote ∷ led.votes; reads = ap (λ (x : State). (step_of rules table x vote).state) led.reads })
      (record { votes = []; reads = refl })

  pub missed_led : (prefers : Bool) (n : ℕ) (s : State) → IsLed s → IsLed (missed prefers rules table n s)
  missed_led prefers zero s led = led
  missed_led prefers (suc n) s led = step_led prefers (missed prefers rules table n s) None (missed_led prefers n s led)

-- where a holdover that is spent ends there, too
pub led_on : (c : ClockRules) (pace : Option Pace) (reader : State) (n : ℕ) (prefers : Bool) (table : TableValue) (m : ℕ) (s : State) (vote : Option Claim) → IsLed c.reader_rules table s → IsLed c.reader_rules table (step_behind prefers (rules_on c pace reader n) table m s vote).state
led_on c pace reader n prefers table m s vote led = elim (either_rules c pace reader n) [
  | inr goes ↦ subst (λ (r : ReaderRules). IsLed c.reader_rules table (step_behind prefers r table m s vote).state) (sym goes.1) (step_led c.reader_rules table prefers (missed prefers c.reader_rules table m s) vote (missed_led c.reader_rules table prefers m s led))
  | inl ended ↦ of ended.1 vote
]
  where
    -- none is held
    ends : (s : State) → (rules_on c pace reader n).holdover ≡ 0 → IsLed c.reader_rules table (step_checked prefers (rules_on c pace reader n) table s None).state
    ends s none = elim (alone_step prefers (rules_on c pace reader n) table s) [
      | inl stop ↦ record { votes = []; reads = stop.0 }
      | inr older ↦ absurd (omega (arith, older.locked.older, older.locked.young, none))
    ]

    before : (rules_on c pace reader n).holdover ≡ 0 → (m : ℕ) → IsLed c.reader_rules table (missed prefers (rules_on c pace reader n) table m s)
    before none zero = led
    before none (suc m) = ends (missed prefers (rules_on c pace reader n) table m s) none

    of : (rules_on c pace reader n).holdover ≡ 0 → (vote : Option Claim) → IsLed c.reader_rules table (step_checked prefers (rules_on c pace reader n) table (missed prefers (rules_on c pace reader n) table m s) vote).state
    of none None = ends (missed prefers (rules_on c pace reader n) table m s) none
    of none (Some v) =
        subst (λ (x : Step). IsLed c.reader_rules table x.state) (sym (same_vote c pace reader n prefers table (missed prefers (rules_on c pace reader n) table m s) v))
        (step_led c.reader_rules table prefers (missed prefers (rules_on c pace reader n) table m s) (Some v) (before none m))

-- the newest of so many true votes
newest : (t : TimelineValue) (n k : ℕ) → 1 ≤ k → (vote : Option Claim) (before earlier : List (Option Claim)) → vote ∷ before ≡ then_true t n k earlier → vote ≡ truth_at t (n + (k - 1))
newest t n zero some vote before earlier are = absurd (omega (arith, some))
newest t n (suc k) some vote before earlier are =
    let same : k ≡ suc k - 1 = omega arith in
    let head : vote ≡ truth_at t (n + k) = cc in
    head ∙ ap (λ (x : ℕ). truth_at t (n + x)) same

pub beats_lock : (t : TimelineValue) (n : ℕ) (k : Keeping) (vote : Vote) (before earlier : List (Option Claim)) (u : UtcSecond) → IsTimeline t → FollowsTruth t k.clock.prefers_frames k.table → 1 ≤ k.clock.reader_rules.lock_after → IsSilentAfter k.clock.reader_rules k.table earlier
    → IsSecond t (n + k.clock.reader_rules.lock_after) u → k.state.reader ≡ state_of k.clock.reader_rules k.table before → Some vote.claim ∷ before ≡ then_true t n k.clock.reader_rules.lock_after earlier
    → answer_to_vote k.clock k.table k.state vote 1 ≡ Some (record { report = voted_report u; told = tells_of k.state.lines; edge_us = vote.edge_us; bound_us = vote.bound_us; missed = 0; moved = k.state.moved; against_table = against_table k.table (Some vote.claim) })
beats_lock t n k vote before earlier u sound follows some silent there stands are =
    let rules = k.clock.reader_rules in
    let reports : report_of rules k.table (Some vote.claim) before ≡ voted_report u = locked_by_true_votes t rules k.table sound some n (Some vote.claim) earlier before u silent there are in
    let head : Some vote.claim ≡ truth_at t (n + (rules.lock_after - 1)) = newest t n rules.lock_after some (Some vote.claim) before earlier are in
    let passed = same_vote k.clock k.state.pace k.state.reader 1 k.clock.prefers_frames k.table k.state.reader vote.claim ∙ passes_truth t k.clock.prefers_frames rules k.table follows (n + (rules.lock_after - 1)) k.state.reader vote.claim (sym head) in
    let report = ap (λ (x : Step). x.report) passed ∙ ap (λ (s : State). (step_of rules k.table s (Some vote.claim)).report) stands ∙ reports in
    let bound : vote.bound_us + grown_us k.clock.drift_us k.state.pace 0 ≡ vote.bound_us = omega (arith, none_grown k.clock.drift_us k.state.pace) in
    ap (λ (r : Report). Some (record { report = r; told = tells_of k.state.lines; edge_us = vote.edge_us; bound_us = bound_of k.clock.drift_us k.state.pace vote.bound_us r.lock; missed = 0; moved = k.state.moved; against_table = against_table k.table (Some vote.claim) })) report
    ∙ ap (λ (b : ℕ). Some (record { report = voted_report u; told = tells_of k.state.lines; edge_us = vote.edge_us; bound_us = b; missed = 0; moved = k.state.moved; against_table = against_table k.table (Some vote.claim) })) bound
