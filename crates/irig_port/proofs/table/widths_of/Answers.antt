use Rattle.irig_port.proofs.TableLaws.{right_least, right_count}
use Rattle.irig_port.proofs.table.widths_of.Goals as goal

pub returns-clause-least : goal.returns-clause-least
returns-clause-least c h = right_least c.table_widths.result.now c.args.element h c.table_widths.ensures

pub returns-clause-count : goal.returns-clause-count
returns-clause-count c h = right_count c.table_widths.result.now c.args.element h c.table_widths.ensures
