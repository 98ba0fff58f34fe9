use Rattle.std.proofs.Common.{◌∙◌}
use Rattle.irig_plant.proofs.TableEnds.{agrees_to_its_end}
use Rattle.irig_plant.proofs.audit.agrees_from.Goals as goal

pub returns : goal.returns
returns c =
    rw (c.min.ensures, c.until.ensures) at c.agrees_between.ensures
    ∙ agrees_to_its_end c.args.timeline.now c.args.table.now c.args.first
