use Rattle.report_flat.proofs.LineLaws.{is_line}
use Rattle.report_flat.proofs.ReadLaws.{event_read}
use Rattle.report_flat.proofs.RangeLaws.{line_in_range}
use Rattle.report_flat.proofs.laws_of_lines.event_lines_are_read_back.Goals as goal

pub returns-clause-read : goal.returns-clause-read
returns-clause-read _ = event_read

pub returns-clause-line : goal.returns-clause-line
returns-clause-line _ = is_line

pub returns-clause-range : goal.returns-clause-range
returns-clause-range _ = line_in_range
