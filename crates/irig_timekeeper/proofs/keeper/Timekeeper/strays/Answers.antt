use Rattle.std.proofs.Common.{◌∙◌, ap}
use Rattle.irig_timekeeper.specs.declared.clock.ClockState.{ClockState}
use Rattle.irig_timekeeper.specs.Lived.{made_with}
use Rattle.irig_timekeeper.proofs.StrayLaws.{never_strays}
use Rattle.irig_timekeeper.proofs.keeper.Timekeeper.strays.Goals as goal

pub returns-clause-none : goal.returns-clause-none
returns-clause-none g c t edges made start calls h well =
    ap (λ (s : ClockState). s.strays) h.is.state
    ∙ never_strays t edges (made_with made h.lines h.fresh) start calls (record { is = well.is; learns = well.learns; order = well.order; truth = well.truth })
