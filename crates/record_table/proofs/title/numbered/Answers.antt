use Rattle.std.proofs.Common.{◌∙◌}
use Rattle.record_table.proofs.NameLaws.{next-number}
use Rattle.record_table.proofs.title.numbered.Goals as goal

pub loop-at-preserved : goal.loop-at-preserved
loop-at-preserved c =
    next-number c.loop-at.names.items c.add_numbered.new.names.items c.loop-at.at c.args.count c.loop-at-test.true c.in_ok-add_numbered.ensures
    ∙ c.loop-at.invariant
