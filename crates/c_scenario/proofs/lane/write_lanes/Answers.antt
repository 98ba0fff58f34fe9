use Rattle.std.proofs.Common.{◌≡◌, length, min, rules, arith}
use Rattle.c_scenario.specs.Lanes.{lane_for}
use Rattle.c_scenario.proofs.WrittenLaws.{none_written, one_written, all_written}
use Rattle.c_scenario.proofs.lane.write_lanes.Goals as goal

pub loop-index-init : goal.loop-index-init
loop-index-init c = none_written lane_for c.args.lanes.now c.args.room.now

pub loop-index-preserved : goal.loop-index-preserved
loop-index-preserved c =
    one_written lane_for c.args.lanes.now c.args.room.now c.loop-index.room c.loop-index.index _ c.lane_for_c.result c.loop-index.invariant
    (omega (arith, c.loop-index-test.true, c.min-index-end.ensures)) (omega (arith, c.loop-index-test.true, c.min-index-end.ensures)) c.lane_for_c.ensures

pub returns : goal.returns
returns c =
    let end : c.loop-index.index ≡ min (length c.args.room.now) (length c.args.lanes.now) = search rules in
    all_written lane_for c.args.lanes.now c.args.room.now c.loop-index.room c.loop-index.index c.loop-index.invariant end
