-- The ends of a reader's step: what holds of each of them holds of the step.
use Rattle.std.proofs.Common.{◌≡◌, ◌==◌, ℕ, ◌+◌, Some, None, Result, Ok, Err, refl, inl, inr, eqb-true}
use Rattle.std.proofs.lemmas.Bool.{cases_Bool, eqb-false}
use Rattle.irig_time.specs.declared.second.UtcSecond.{UtcSecond}
use Rattle.irig_time.specs.declared.claim.Claim.{Claim}
use Rattle.irig_time.specs.Tables.{TableValue}
use Rattle.irig_hold.specs.declared.hold.Turn.{Turn}
use Rattle.irig_hold.specs.declared.hold.Turn.TheVariants as turn
use Rattle.irig_hold.specs.Steps.{HoldValue, hold_start, voted_by, alone_by}
use Rattle.irig_reader.specs.declared.rules.ReaderRules.{ReaderRules}
use Rattle.irig_reader.specs.declared.report.Lock.{Lock}
use Rattle.irig_reader.specs.declared.report.Lock.TheVariants as lock
use Rattle.irig_reader.specs.declared.report.Cause.{Cause}
use Rattle.irig_reader.specs.declared.report.Cause.TheVariants as cause
use Rattle.irig_reader.specs.declared.rule.State.{State}
use Rattle.irig_reader.specs.declared.rule.State.TheVariants.{Idle, Acquiring, Locked}
use Rattle.irig_reader.specs.declared.rule.Step.{Step}
use Rattle.irig_reader.specs.Rule.{stop_step, announce_step, count_step, cause_of, first_vote_step, later_vote_step_by, locked_step, step_of}

-- so many votes in a row, which are not yet enough
abbrev pub acquiring_step : HoldValue → ℕ → Step
acquiring_step h count = record { state = Acquiring h count; report = record { announce = None; lock = lock.Acquiring count; cause = cause.Acquiring } }

module _ (P : Step → Type 0) where
  pub locked_cases : (l : Lock) (c : Cause) (answer : Turn) (h : HoldValue) → ((u : UtcSecond) → answer ≡ turn.Now u → P (announce_step h u l c)) → ((stop : Turn) → answer ≡ stop → P (stop_step (cause_of stop))) → P (locked_step l c answer h)
  locked_cases l c (turn.Now u) h goes stops = goes u refl
  locked_cases l c turn.Jump h goes stops = stops turn.Jump refl
  locked_cases l c turn.LeapGuard h goes stops = stops turn.LeapGuard refl
  locked_cases l c turn.Expired h goes stops = stops turn.Expired refl
  locked_cases l c turn.RangeEnd h goes stops = stops turn.RangeEnd refl

  module _ (rules : ReaderRules) where
    pub count_cases : (h : HoldValue) (count : ℕ) → (count ≡ rules.lock_after → P (announce_step h h.last lock.Locked cause.Voted)) → (¬ (count ≡ rules.lock_after) → P (acquiring_step h count)) → P (count_step rules h count)
    count_cases h count enough more =
        elim (cases_Bool (count == rules.lock_after)) [
          | inl e ↦ rw e (enough (eqb-true count rules.lock_after e))
          | inr e ↦ rw e (more (eqb-false count rules.lock_after e))
        ]

    pub first_cases : (first : Result HoldValue Turn) → ((h : HoldValue) → first ≡ Ok h → P (count_step rules h 1)) → ((stop : Turn) → first ≡ Err stop → P (stop_step (cause_of stop))) → P (first_vote_step rules first)
    first_cases (Ok h) begins stops = begins h refl
    first_cases (Err stop) begins stops = stops stop refl

    pub later_cases : (count : ℕ) (anew : Step) (answer : Turn) (h : HoldValue) → P anew → ((u : UtcSecond) → answer ≡ turn.Now u → P (count_step rules h (count + 1))) → ((stop : Turn) → answer ≡ stop → P (stop_step (cause_of stop)))
        → P (later_vote_step_by rules count anew answer h)
    later_cases count anew (turn.Now u) h first goes stops = goes u refl
    later_cases count anew turn.Jump h first goes stops = first
    later_cases count anew turn.LeapGuard h first goes stops = stops turn.LeapGuard refl
    later_cases count anew turn.Expired h first goes stops = stops turn.Expired refl
    later_cases count anew turn.RangeEnd h first goes stops = stops turn.RangeEnd refl

    module _ (table : TableValue) (state : State) where
      pub vote_cases : (c : Claim) → ((h : HoldValue) → hold_start table c ≡ Ok h → P (count_step rules h 1)) → ((stop : Turn) → P (stop_step (cause_of stop)))
          → ((h : HoldValue) (count : ℕ) (u : UtcSecond) → state ≡ Acquiring h count → (voted_by table h c).answer ≡ turn.Now u → P (count_step rules (voted_by table h c).new (count + 1)))
          → ((h : HoldValue) (u : UtcSecond) → state ≡ Locked h → (voted_by table h c).answer ≡ turn.Now u → P (announce_step (voted_by table h c).new u lock.Locked cause.Voted))
          → P (step_of rules table state (Some c))
      unfolding step_of
      vote_cases c begins stops joins goes = of state refl
        where
          first : P (first_vote_step rules (hold_start table c))
          first = first_cases (hold_start table c) begins (λ stop _. stops stop)

          of : (s : State) → state ≡ s → P (step_of rules table s (Some c))
          of Idle is = first
          of (Acquiring h count) is = later_cases count _ (voted_by table h c).answer (voted_by table h c).new first (λ u e. joins h count u is e) (λ stop _. stops stop)
          of (Locked h) is = locked_cases lock.Locked cause.Voted (voted_by table h c).answer (voted_by table h c).new (λ u e. goes h u is e) (λ stop _. stops stop)

      pub none_cases : ((c : Cause) → P (stop_step c))
          → ((h : HoldValue) (u : UtcSecond) → state ≡ Locked h → (alone_by table h rules.holdover).answer ≡ turn.Now u → P (announce_step (alone_by table h rules.holdover).new u (lock.Holdover (alone_by table h rules.holdover).new.age) cause.Held))
          → P (step_of rules table state None)
      unfolding step_of
      none_cases stops goes = of state refl
        where
          of : (s : State) → state ≡ s → P (step_of rules table s None)
          of Idle is = stops cause.NoVote
          of (Acquiring h count) is = stops cause.NoVote
          of (Locked h) is = locked_cases _ cause.Held (alone_by table h rules.holdover).answer (alone_by table h rules.holdover).new (λ u e. goes h u is e) (λ stop _. stops (cause_of stop))
