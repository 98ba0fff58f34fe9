use Rattle.irig_witness.proofs.BegunLaws.{device_same, kept_same}
use Rattle.irig_witness.proofs.laws.an_audit_asks_of_what_has_begun.Goals as goal

pub returns-clause-kept : goal.returns-clause-kept
returns-clause-kept g c first rate time start symbol other clock calls are ended = kept_same first rate time symbol other are clock start calls ended

pub returns-clause-same : goal.returns-clause-same
returns-clause-same g c time start symbol other made calls are ended is = device_same c.args.device.now made symbol other start time calls are ended is
