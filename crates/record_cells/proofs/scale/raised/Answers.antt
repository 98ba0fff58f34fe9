use Rattle.std.proofs.Common.{◌-◌, ap, sym, ◌∙◌}
use Rattle.record_cells.specs.Scales.{below}
use Rattle.record_cells.proofs.ScaleLaws.{is-beyond, raise-step}
use Rattle.record_cells.proofs.scale.raised.Goals as goal

pub returns-then-number-end-clause-raised : goal.returns-then-number-end-clause-raised
returns-then-number-end-clause-raised c =
    sym (ap (below c.args.end) (sym c.loop-place.invariant) ∙ is-beyond c.args.end c.loop-place.number (c.args.power - c.loop-place._place) c.if-number-end.true)

pub loop-place-preserved : goal.loop-place-preserved
loop-place-preserved c = raise-step c.loop-place.number c.args.power c.loop-place._place c.loop-place-test.true ∙ c.loop-place.invariant
