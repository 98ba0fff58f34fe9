use Rattle.report_flat.proofs.RecordingLaws.{same_log, same_audit}
use Rattle.report_flat.proofs.laws.recordings_have_their_log.Goals as goal

pub returns-clause-log : goal.returns-clause-log
returns-clause-log _ = same_log

pub returns-clause-audit : goal.returns-clause-audit
returns-clause-audit _ = same_audit
