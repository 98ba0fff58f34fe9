-- The reader's rule keeps to the truth by true votes: with a true table, or with any where it holds
-- over for at most 57 seconds.
use Rattle.std.proofs.Common.{◌≡◌, ◌⊎◌, ◌∙◌, ℕ, zero, suc, ◌+◌, Option, Some, None, Err, refl, sym, subst, arith, inl, inr, Bool}
use Rattle.irig_time.specs.declared.second.UtcSecond.{UtcSecond}
use Rattle.irig_time.specs.declared.claim.Claim.{Claim}
use Rattle.irig_time.specs.Next.{next_of}
use Rattle.irig_time.specs.Timelines.{TimelineValue, IsSecond, IsTrueClaim, truth_at}
use Rattle.irig_time.specs.TimelineFaults.{IsTimeline}
use Rattle.irig_time.specs.Tables.{TableValue, spoken_mark}
use Rattle.irig_time.proofs.SecondAt.{claim_is}
use Rattle.irig_hold.specs.declared.hold.Turn.{Turn}
use Rattle.irig_hold.specs.declared.hold.Turn.TheVariants as turn
use Rattle.irig_hold.specs.Steps.{HoldValue, hold_start, voted_by, alone_by}
use Rattle.irig_hold.specs.Truth.{IsOnTime, HasHeardLate, HasComeTo}
use Rattle.irig_hold.proofs.HoldLaws.{started_true, started_in_time, voted_true, voted_on_time, voted_in_time, voted_no_jump, alone_true, alone_short, alone_in_time}
use Rattle.irig_reader.specs.declared.rules.ReaderRules.{ReaderRules}
use Rattle.irig_reader.specs.declared.report.Lock.TheVariants as lock
use Rattle.irig_reader.specs.declared.report.Cause.TheVariants as cause
use Rattle.irig_reader.specs.declared.rule.State.{State}
use Rattle.irig_reader.specs.declared.rule.State.TheVariants.{Idle, Acquiring, Locked}
use Rattle.irig_reader.specs.declared.rule.Step.{Step}
use Rattle.irig_reader.specs.Lives.{KnowsMonthEnds}
use Rattle.irig_reader.specs.Rule.{stop_step, count_step, cause_of, first_vote_step, step_of}
use Rattle.irig_reader.proofs.StepCases.{locked_cases, count_cases, first_cases, later_cases, none_cases}
use Rattle.irig_reader.proofs.TrueSteps.{start_no_jump, alone_no_jump}
use Rattle.irig_reader.proofs.OneEdge.{voted_says}
use Rattle.irig_reader.proofs.HeldEdges.{IfHold, IfItGoes, voted_has}
use Rattle.irig_timekeeper.specs.Rule.{missed, step_checked}
use Rattle.irig_timekeeper.specs.Truth.{IsSureAt, StandsSurely}
use Rattle.irig_timekeeper.proofs.CheckedSteps.{checked_cases}

-- a step that leads to T(n) or nowhere, announces no other second, and tells no jump
pub record IsSureStep (t : TimelineValue) (table : TableValue) (n : ℕ) (step : Step) : Type 0 where
  pub state : StandsSurely t table n step.state
  pub says : (u : UtcSecond) → step.report.announce ≡ Some u → IsSecond t n u
  pub jump : ¬ (step.report.cause ≡ cause.Jump)

-- ---- no jump

abbrev TellsNoJump : Step → Type 0
TellsNoJump step = ¬ (step.report.cause ≡ cause.Jump)

stops_calmly : (stop : Turn) → ¬ (stop ≡ turn.Jump) → TellsNoJump (stop_step (cause_of stop))
stops_calmly (turn.Now u) calm e = cc
stops_calmly turn.Jump calm e = calm refl
stops_calmly turn.LeapGuard calm e = cc
stops_calmly turn.Expired calm e = cc
stops_calmly turn.RangeEnd calm e = cc

module _ (t : TimelineValue) (rules : ReaderRules) (table : TableValue) where
  counts_calmly : (h : HoldValue) (count : ℕ) → TellsNoJump (count_step rules h count)
  counts_calmly h count = count_cases TellsNoJump rules h count (λ enough e. cc) (λ more e. cc)

  begins_calmly : (c : Claim) → TellsNoJump (first_vote_step rules (hold_start table c))
  begins_calmly c =
      first_cases TellsNoJump rules (hold_start table c) (λ h e. counts_calmly h 1) (λ stop e. stops_calmly stop (λ jump. start_no_jump c.at 0 c.mark (next_of c.at (spoken_mark table c.mark c.at.day)) (let is : hold_start table c ≡ Err turn.Jump = cc in is)))

  goes_calmly : (n : ℕ) (h : HoldValue) (c : Claim) → IsTrueClaim t (n + 1) c → IsSureAt t table n h → (stop : Turn) → (voted_by table h c).answer ≡ stop → TellsNoJump (stop_step (cause_of stop))
  goes_calmly n h c claim sure stop e = stops_calmly stop (λ jump. voted_no_jump t table n h c sure.on_time.last claim (e ∙ jump))

  votes_calmly : (n : ℕ) (state : State) (c : Claim) → IsTrueClaim t (n + 1) c → StandsSurely t table n state → TellsNoJump (step_of rules table state (Some c))
  unfolding step_of
  votes_calmly n Idle c claim at = begins_calmly c
  votes_calmly n (Acquiring h count) c claim at =
      later_cases TellsNoJump rules count _ (voted_by table h c).answer (voted_by table h c).new (begins_calmly c) (λ u e. counts_calmly (voted_by table h c).new (count + 1)) (goes_calmly n h c claim at)
  votes_calmly n (Locked h) c claim at =
      locked_cases TellsNoJump lock.Locked cause.Voted (voted_by table h c).answer (voted_by table h c).new (λ u e jump. cc) (goes_calmly n h c claim at)

  holds_calmly : (state : State) → TellsNoJump (step_of rules table state None)
  unfolding step_of
  holds_calmly Idle e = cc
  holds_calmly (Acquiring h count) e = cc
  holds_calmly (Locked h) e =
      locked_cases TellsNoJump _ cause.Held (alone_by table h rules.holdover).answer (alone_by table h rules.holdover).new (λ u is jump. cc)
      (λ stop is. stops_calmly stop (λ jump. alone_no_jump table h rules.holdover (is ∙ jump))) e

  -- ---- where it stands

  surely : (n : ℕ) (state : State) → IfHold state (IsSureAt t table n) → StandsSurely t table n state
  surely n Idle sure = tt
  surely n (Acquiring h count) sure = sure
  surely n (Locked h) sure = sure

  module _ (sound : IsTimeline t) where
    -- a hold that a true vote makes sure
    abbrev IsMended : ℕ → HoldValue → Type 0
    IsMended n h = HasHeardLate h ⊎ IsOnTime t n h

    goes_by_vote : (n : ℕ) (c : Claim) → IsTrueClaim t (n + 1) c → (h : HoldValue) → IsMended n h → IfItGoes table c (IsSureAt t table (n + 1)) h
    goes_by_vote n c claim h (inl late) u e = record { on_time = voted_on_time t table n h c u sound late claim e; knows = inr (voted_in_time t table n h c u claim e) }
    goes_by_vote n c claim h (inr on_time) u e = record { on_time = (voted_true t table n h c u sound on_time claim e).on_time; knows = inr (voted_in_time t table n h c u claim e) }

    by_vote : (n : ℕ) (state : State) (c : Claim) → IsTrueClaim t (n + 1) c → IfHold state (IfItGoes table c (IsSureAt t table (n + 1))) → StandsSurely t table (n + 1) (step_of rules table state (Some c)).state
    by_vote n state c claim goes =
        surely (n + 1) (step_of rules table state (Some c)).state
        (voted_has (IsSureAt t table (n + 1)) rules table state c (λ h e. record { on_time = started_true t table n c h sound claim e; knows = inr (started_in_time t table n c h claim e) }) goes)

    -- a true vote makes sure whoever heard of a leap where true votes tell of one
    rule_mends : (n : ℕ) (state : State) (c : Claim) → IsTrueClaim t (n + 1) c → IfHold state HasHeardLate → StandsSurely t table (n + 1) (step_of rules table state (Some c)).state
    rule_mends n Idle c claim late = by_vote n Idle c claim tt
    rule_mends n (Acquiring h count) c claim late = by_vote n (Acquiring h count) c claim (goes_by_vote n c claim h (inl late))
    rule_mends n (Locked h) c claim late = by_vote n (Locked h) c claim (goes_by_vote n c claim h (inl late))

    pub mended_by_vote : (prefers : Bool) (n : ℕ) (state : State) (c : Claim) → IsTrueClaim t (n + 1) c → IfHold state HasHeardLate → StandsSurely t table (n + 1) (step_checked prefers rules table state (Some c)).state
    mended_by_vote prefers n state c claim late = checked_cases prefers rules table state (Some c) (λ step. StandsSurely t table (n + 1) step.state) (rule_mends n state c claim late) tt

    sure_by_vote : (n : ℕ) (state : State) (c : Claim) → IsTrueClaim t (n + 1) c → StandsSurely t table n state → StandsSurely t table (n + 1) (step_of rules table state (Some c)).state
    sure_by_vote n Idle c claim at = by_vote n Idle c claim tt
    sure_by_vote n (Acquiring h count) c claim at = by_vote n (Acquiring h count) c claim (goes_by_vote n c claim h (inr at.on_time))
    sure_by_vote n (Locked h) c claim at = by_vote n (Locked h) c claim (goes_by_vote n c claim h (inr at.on_time))

    module _ (knows : KnowsMonthEnds t rules table) where
      comes_alone : (n : ℕ) (h : HoldValue) (u : UtcSecond) → IsSureAt t table n h → (alone_by table h rules.holdover).answer ≡ turn.Now u → HasComeTo t (n + 1) u (alone_by table h rules.holdover).new
      comes_alone n h u sure e = elim knows [
        | inl true_table ↦ alone_true t table n rules.holdover h u sound true_table sure.on_time e
        | inr short ↦ elim sure.knows [
          | inl true_table ↦ alone_true t table n rules.holdover h u sound true_table sure.on_time e
          | inr in_time ↦ alone_short t table n rules.holdover h u sound short sure.on_time in_time e
        ]
      ]

      sure_alone : (n : ℕ) (h : HoldValue) (u : UtcSecond) → IsSureAt t table n h → (alone_by table h rules.holdover).answer ≡ turn.Now u → IsSureAt t table (n + 1) (alone_by table h rules.holdover).new
      sure_alone n h u sure e = record {
        on_time = (comes_alone n h u sure e).on_time;
        knows = elim sure.knows [
          | inl true_table ↦ inl true_table
          | inr in_time ↦ inr (alone_in_time table h rules.holdover u in_time e)
        ];
      }

      locked : (n : ℕ) (state : State) (h : HoldValue) → StandsSurely t table n state → state ≡ Locked h → IsSureAt t table n h
      locked n state h at is = subst (λ (s : State). StandsSurely t table n s) is at

      by_none : (n : ℕ) (state : State) → StandsSurely t table n state → IsSureStep t table (n + 1) (step_of rules table state None)
      by_none n state at = record {
        state = none_cases (λ step. StandsSurely t table (n + 1) step.state) rules table state (λ c. tt) (λ h u is e. sure_alone n h u (locked n state h at is) e);
        says = none_cases (λ step. (u : UtcSecond) → step.report.announce ≡ Some u → IsSecond t (n + 1) u) rules table state (λ c u e. absurd cc)
            (λ h v is e u says. let same : v ≡ u = cc in subst (IsSecond t (n + 1)) same (comes_alone n h v (locked n state h at is) e).second);
        jump = holds_calmly state;
      }

      -- by a vote that is none or the true one
      rule_surely : (n : ℕ) (state : State) (vote : Option Claim) → StandsSurely t table n state → (vote ≡ None) ⊎ (vote ≡ truth_at t n) → IsSureStep t table (n + 1) (step_of rules table state vote)
      rule_surely n state None at voted = by_none n state at
      rule_surely n state (Some c) at (inl none) = absurd cc
      rule_surely n state (Some c) at (inr truth) =
          let claim : IsTrueClaim t (n + 1) c = (claim_is t n c).0 (sym truth) in
          record { state = sure_by_vote n state c claim at; says = voted_says t n rules table state c sound claim; jump = votes_calmly n state c claim at }

      module _ (prefers : Bool) where
        pub sure_step : (n : ℕ) (state : State) (vote : Option Claim) → StandsSurely t table n state → (vote ≡ None) ⊎ (vote ≡ truth_at t n) → IsSureStep t table (n + 1) (step_checked prefers rules table state vote)
        sure_step n state vote at voted = checked_cases prefers rules table state vote (IsSureStep t table (n + 1)) (rule_surely n state vote at voted) (record { state = tt; says = λ u says. absurd cc; jump = λ jump. cc })

        pub missed_surely : (w n : ℕ) (s : State) → StandsSurely t table w s → StandsSurely t table (w + n) (missed prefers rules table n s)
        missed_surely w zero s at = let same : w ≡ w + 0 = omega arith in subst (λ (m : ℕ). StandsSurely t table m s) same at
        missed_surely w (suc n) s at =
            let same : w + n + 1 ≡ w + suc n = omega arith in
            subst (λ (m : ℕ). StandsSurely t table m (missed prefers rules table (suc n) s)) same (sure_step (w + n) (missed prefers rules table n s) None (missed_surely w n s at) (inl refl)).state
