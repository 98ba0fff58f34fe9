use Rattle.report_flat.proofs.RowLaws.{no_rows}
use Rattle.report_flat.proofs.rows.RowsStationListener.new.Goals as goal

pub returns-clause-quiet : goal.returns-clause-quiet
returns-clause-quiet c = no_rows
