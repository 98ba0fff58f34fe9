use Rattle.std.proofs.lemmas.Bool.Decides.{same_from_decides}
use Rattle.irig_time.specs.Seconds.{is_valid}
use Rattle.record_short.proofs.second.is_served.Goals as goal

pub returns-clause-value : goal.returns-clause-value
returns-clause-value c = same_from_decides c.valid.result (is_valid c.args.second.now) c.valid.ensures (c.relations_compute.ensures.valid c.args.second.now)
