use Rattle.std.proofs.Common.{◌∙◌, sym, ap, subst}
use Rattle.irig_lines.specs.Rates.{rate_of, serving}
use Rattle.irig_timekeeper.specs.declared.clock.ClockState.{ClockState}
use Rattle.irig_timekeeper.specs.Life.{last_tick}
use Rattle.irig_timekeeper.specs.Lived.{made_with}
use Rattle.irig_timekeeper.specs.Measures.{IsMeasured}
use Rattle.irig_timekeeper.proofs.MeasureLaws.{measures_truly}
use Rattle.c_keeper.specs.Lives.{calls_of}
use Rattle.c_reader.proofs.timekeeper.irig_c_timekeeper_rate.Goals as goal

pub returns-in-Some-clause-truth : goal.returns-in-Some-clause-truth
returns-in-Some-clause-truth c t edges made start past found h well e =
    let measured = sym c.in-Some.ensures ∙ (sym c.rate_for_c.ensures ∙ e) in
    subst (λ (s : ClockState). IsMeasured edges (last_tick start (calls_of past)) s.edge_us found) (sym h.is.state)
    (measures_truly t edges (made_with made h.lines h.fresh) start (calls_of past) found (record { is = well.is; learns = well.learns; order = well.order; truth = well.truth })
    (ap (λ (s : ClockState). rate_of s.interval (serving s.anchors)) (sym h.is.state) ∙ measured))
