use Rattle.std.proofs.Common.{◌∙◌, sym, ap, subst}
use Rattle.irig_timekeeper.specs.declared.clock.ClockState.{ClockState}
use Rattle.irig_timekeeper.specs.Learning.{IsLearned}
use Rattle.irig_timekeeper.specs.Life.{last_tick}
use Rattle.irig_timekeeper.specs.Lived.{made_with}
use Rattle.irig_timekeeper.proofs.LearnLaws.{learned_is}
use Rattle.irig_timekeeper.proofs.keeper.Timekeeper.pace.Goals as goal

pub returns-clause-truth : goal.returns-clause-truth
returns-clause-truth g c t edges made start calls pace h well is =
    subst (λ (s : ClockState). IsLearned edges (last_tick start calls) s.edge_us pace) (sym h.is.state)
    (learned_is t edges (made_with made h.lines h.fresh) start calls pace (record { is = well.is; learns = well.learns; order = well.order; truth = well.truth })
    (ap (λ (s : ClockState). s.pace) (sym h.is.state) ∙ is))
