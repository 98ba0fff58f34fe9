use Rattle.record_lines.proofs.HearLaws.{told_exactly}
use Rattle.record_lines.proofs.laws.what_is_in_order_is_told.Goals as goal

pub returns : goal.returns
returns g c made start line rise width risen calls is =
    told_exactly c.args.receiver.now made start calls is line rise width risen
