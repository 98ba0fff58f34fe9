use Rattle.std.proofs.Common.{◌≡◌, ◌∙◌, ℕ, ◌%◌, ◌^◌, Option, Some, None, sym, ap, subst, refl}
use Rattle.std.proofs.Math.Logic.{∥∥₁_map}
use Rattle.irig_time.specs.declared.claim.Claim.{Claim}
use Rattle.irig_lines.specs.declared.lines.Vote.{Vote}
use Rattle.irig_lines.specs.declared.setup.ClockRules.{ClockRules}
use Rattle.irig_lines.proofs.ValidLines.{all_valid}
use Rattle.irig_timekeeper.specs.declared.clock.ClockState.{ClockState}
use Rattle.irig_timekeeper.specs.Carried.{IsCarried}
use Rattle.irig_timekeeper.specs.Clock.{claim_voted, clock_vote}
use Rattle.irig_timekeeper.specs.Keeping.{Keeping, vote_at}
use Rattle.irig_timekeeper.specs.Life.{life_of, pulses_on}
use Rattle.irig_timekeeper.specs.Lived.{made_with}
use Rattle.irig_timekeeper.proofs.CarriedLaws.{life_carries}
use Rattle.irig_timekeeper.proofs.keeper.Timekeeper.tick_with_vote.Goals as goal

pub tick-requires-clause-valid : goal.tick-requires-clause-valid
tick-requires-clause-valid g c = all_valid c.args.self.now.state.lines c.args.self.now.valid

-- a claim that was voted is that of a vote
of_vote : (o : Option Vote) (claim : Claim) → claim_voted o ≡ Some claim → (vote : Vote) × (o ≡ Some vote) × (vote.claim ≡ claim)
of_vote None claim voted = absurd cc
of_vote (Some vote) claim voted = (vote, refl, cc)

pub returns-clause-carried : goal.returns-clause-carried
returns-clause-carried g c made start now calls claim h clock order told =
    let self = c.args.self.now in
    let device = made_with made h.lines h.fresh in
    let k : Keeping = life_of device calls in
    let value = c.tick.ensures.vote
    ∙ (ap (λ (rules : ClockRules). clock_vote rules self.state c.args.now_us) h.is.clock
    ∙ (ap (λ (s : ClockState). clock_vote k.clock s c.args.now_us) h.is.state ∙ ap (λ (n : ℕ). claim_voted (vote_at k n)) clock)) in
    let voted = of_vote (vote_at k (now % 2 ^ 32)) claim (sym value ∙ told) in
    subst (λ (x : Claim). IsCarried made.clock made.rules x now (λ line. pulses_on line calls)) voted.2
    (life_carries device start now calls voted.0 order voted.1)

pub invariant_of-self-clause-announced : goal.invariant_of-self-clause-announced
invariant_of-self-clause-announced g c = ∥∥₁_map c.args.self.now.announced c.tick.ensures.announced
