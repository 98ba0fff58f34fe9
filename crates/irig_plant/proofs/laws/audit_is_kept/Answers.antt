use Rattle.irig_plant.proofs.AuditLaws.{kept_is}
use Rattle.irig_plant.proofs.laws.audit_is_kept.Goals as goal

pub returns : goal.returns
returns _ = kept_is
