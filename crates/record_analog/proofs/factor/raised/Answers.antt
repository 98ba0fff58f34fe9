use Rattle.std.proofs.Common.{◌-◌, ap, sym, ◌∙◌}
use Rattle.record_cells.specs.Scales.{below}
use Rattle.record_cells.proofs.ScaleLaws.{is-beyond, raise-step}
use Rattle.record_analog.proofs.factor.raised.Goals as goal

pub returns-then-number-ge-END-clause-raised : goal.returns-then-number-ge-END-clause-raised
returns-then-number-ge-END-clause-raised c =
    sym (ap (below 1000000000000000000000000000) (sym c.loop-place.invariant) ∙ is-beyond 1000000000000000000000000000 c.loop-place.number (c.args.power - c.loop-place._place) c.if-number-ge-END.true)

pub loop-place-preserved : goal.loop-place-preserved
loop-place-preserved c = raise-step c.loop-place.number c.args.power c.loop-place._place c.loop-place-test.true ∙ c.loop-place.invariant
