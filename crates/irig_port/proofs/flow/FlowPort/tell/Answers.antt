use Rattle.std.proofs.Common.{◌∙◌}
use Rattle.irig_port.proofs.NumberLaws.{tally_tells}
use Rattle.irig_port.proofs.ToldLaws.{still_valid_claim}
use Rattle.irig_port.proofs.flow.FlowPort.tell.Goals as goal

pub returns-in-Some-clause-told : goal.returns-in-Some-clause-told
returns-in-Some-clause-told c rules s h =
    let now = c.args.self.now in
    now.right c.in-Some.told c.in-Some.is ∙ (rw h.ruled (tally_tells rules now.tally s h.numbers))

pub returns-in-Some-clause-valid : goal.returns-in-Some-clause-valid
returns-in-Some-clause-valid c = still_valid_claim c.in-Some.told (c.args.self.now.valid c.in-Some.told c.in-Some.is)
