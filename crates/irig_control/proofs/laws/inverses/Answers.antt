use Rattle.irig_control.proofs.ControlLaws.{unpacked, word_of-below, packed}
use Rattle.irig_control.proofs.laws.inverses.Goals as goal

pub returns-clause-unpacked : goal.returns-clause-unpacked
returns-clause-unpacked c = unpacked

pub returns-clause-below : goal.returns-clause-below
returns-clause-below c = word_of-below

pub returns-clause-packed : goal.returns-clause-packed
returns-clause-packed c = packed
