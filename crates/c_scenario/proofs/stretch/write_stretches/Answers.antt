use Rattle.std.proofs.Common.{◌≡◌, length, min, rules, arith}
use Rattle.c_scenario.specs.Stretches.{stretch_for}
use Rattle.c_scenario.proofs.WrittenLaws.{none_written, one_written, all_written}
use Rattle.c_scenario.proofs.stretch.write_stretches.Goals as goal

pub loop-index-init : goal.loop-index-init
loop-index-init c = none_written stretch_for c.args.findings.now c.args.room.now

pub loop-index-preserved : goal.loop-index-preserved
loop-index-preserved c =
    one_written stretch_for c.args.findings.now c.args.room.now c.loop-index.room c.loop-index.index _ c.stretch_for_c.result c.loop-index.invariant
    (omega (arith, c.loop-index-test.true, c.min-index-end.ensures)) (omega (arith, c.loop-index-test.true, c.min-index-end.ensures)) c.stretch_for_c.ensures

pub returns : goal.returns
returns c =
    let end : c.loop-index.index ≡ min (length c.args.room.now) (length c.args.findings.now) = search rules in
    all_written stretch_for c.args.findings.now c.args.room.now c.loop-index.room c.loop-index.index c.loop-index.invariant end
