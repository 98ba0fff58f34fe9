use Rattle.irig_witness.proofs.BeforeLaws.{kept_before}
use Rattle.irig_witness.proofs.laws.a_kept_audit_was_kept.Goals as goal

pub returns : goal.returns
returns _ clock x start call calls kept = kept_before clock x start call calls kept
