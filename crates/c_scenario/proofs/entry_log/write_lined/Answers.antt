use Rattle.std.proofs.Common.{◌≡◌, ◌≤◌, ◌<◌, ◌∙◌, length, refl, min, rules, arith}
use Rattle.c_scenario.proofs.EntryLaws.{none_written, one_written, all_written}
use Rattle.c_scenario.proofs.entry_log.write_lined.Goals as goal

pub loop-index-init : goal.loop-index-init
loop-index-init c = none_written c.args.starts.now c.args.entries.now c.args.room.now

pub lines_begun-line-requires-clause-some : goal.lines_begun-line-requires-clause-some
lines_begun-line-requires-clause-some c = c.loop-index.invariant.few

pub lines_begun-line-requires-clause-begun : goal.lines_begun-line-requires-clause-begun
lines_begun-line-requires-clause-begun c = c.loop-index.invariant.begun

pub loop-index-preserved : goal.loop-index-preserved
loop-index-preserved c =
    one_written c.args.starts.now c.args.entries.now c.args.room.now c.loop-index.room c.loop-index.index c.loop-index.line c.lines_begun-line.result _ c.loop-index.invariant
    (omega (arith, c.loop-index-test.true, c.min-index-end.ensures)) (omega (arith, c.loop-index-test.true, c.min-index-end.ensures)) c.lines_begun-line.ensures refl

pub returns : goal.returns
returns c =
    let end : c.loop-index.index ≡ min (length c.args.room.now) (length c.args.entries.now) = search rules in
    all_written c.args.starts.now c.args.entries.now c.args.room.now c.loop-index.room c.loop-index.index c.loop-index.line c.loop-index.invariant end
