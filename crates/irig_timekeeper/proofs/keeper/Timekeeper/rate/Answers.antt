use Rattle.std.proofs.Common.{◌∙◌, sym, ap, subst}
use Rattle.irig_lines.specs.Rates.{rate_of, serving}
use Rattle.irig_timekeeper.specs.declared.clock.ClockState.{ClockState}
use Rattle.irig_timekeeper.specs.Life.{last_tick}
use Rattle.irig_timekeeper.specs.Lived.{made_with}
use Rattle.irig_timekeeper.specs.Measures.{IsMeasured}
use Rattle.irig_timekeeper.proofs.MeasureLaws.{measures_truly}
use Rattle.irig_timekeeper.proofs.keeper.Timekeeper.rate.Goals as goal

pub returns-clause-truth : goal.returns-clause-truth
returns-clause-truth g c t edges made start calls rate h well is =
    subst (λ (s : ClockState). IsMeasured edges (last_tick start calls) s.edge_us rate) (sym h.is.state)
    (measures_truly t edges (made_with made h.lines h.fresh) start calls rate (record { is = well.is; learns = well.learns; order = well.order; truth = well.truth })
    (ap (λ (s : ClockState). rate_of s.interval (serving s.anchors)) (sym h.is.state) ∙ (sym c.rate_of.ensures ∙ is)))
