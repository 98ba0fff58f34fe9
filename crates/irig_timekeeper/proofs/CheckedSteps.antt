-- A step of the reader's rule that the leap table guards is the rule's, or a stop.
use Rattle.std.proofs.Common.{◌≡◌, ◌⊎◌, Bool, not, ◌&&◌, true, false, cond, Option, Some, None, refl, inl, inr}
use Rattle.std.proofs.lemmas.Bool.{cases_Bool}
use Rattle.irig_time.specs.declared.second.UtcSecond.{UtcSecond}
use Rattle.irig_time.specs.declared.claim.Claim.{Claim}
use Rattle.irig_time.specs.Tables.{TableValue}
use Rattle.irig_reader.specs.declared.rules.ReaderRules.{ReaderRules}
use Rattle.irig_reader.specs.declared.report.Cause.TheVariants as cause
use Rattle.irig_reader.specs.declared.rule.State.{State}
use Rattle.irig_reader.specs.declared.rule.Step.{Step}
use Rattle.irig_reader.specs.Rule.{stop_step, step_of}
use Rattle.irig_timekeeper.specs.Rule.{goes_against, step_checked}

module _ (prefers : Bool) (rules : ReaderRules) (table : TableValue) (s : State) (vote : Option Claim) where
  -- what is so of the rule's step and of the stop
  pub checked_cases : (P : Step → Type 0) → P (step_of rules table s vote) → P (stop_step cause.LeapGuard) → P (step_checked prefers rules table s vote)
  unfolding step_checked
  checked_cases P goes stops = by prefers (goes_against table s vote)
    where
      by : (b against : Bool) → P (cond (not b && against) (stop_step cause.LeapGuard) (step_of rules table s vote))
      by true against = goes
      by false true = stops
      by false false = goes

  -- one that announces a second is the rule's
  pub checked_announces : (u : UtcSecond) → (step_checked prefers rules table s vote).report.announce ≡ Some u → step_checked prefers rules table s vote ≡ step_of rules table s vote
  checked_announces u = checked_cases (λ step. step.report.announce ≡ Some u → step ≡ step_of rules table s vote) (λ says. refl) (λ says. absurd cc)

  -- and does not go against the table, unless frames are preferred
  pub checked_passes : (u : UtcSecond) → prefers ≡ false → (step_checked prefers rules table s vote).report.announce ≡ Some u → goes_against table s vote ≡ false
  unfolding step_checked
  checked_passes u is says = elim (cases_Bool (goes_against table s vote)) [
    | inr with ↦ with
    | inl against ↦ let none : None ≡ Some u = rw (is, against) at says in absurd cc
  ]

  -- so is one where frames are preferred, or do not go against the table
  pub passes : (prefers ≡ true) ⊎ (goes_against table s vote ≡ false) → step_checked prefers rules table s vote ≡ step_of rules table s vote
  unfolding step_checked
  passes (inl is) = rw is refl
  passes (inr with) = by prefers with
    where
      by : (b : Bool) → goes_against table s vote ≡ false → cond (not b && goes_against table s vote) (stop_step cause.LeapGuard) (step_of rules table s vote) ≡ step_of rules table s vote
      by true with = refl
      by false with = rw with refl

  -- and else it is the stop
  pub stops : prefers ≡ false → goes_against table s vote ≡ true → step_checked prefers rules table s vote ≡ stop_step cause.LeapGuard
  unfolding step_checked
  stops is against = rw (is, against) refl
