use Rattle.c_numbers.proofs.CheckLaws.{first_sums}
use Rattle.c_numbers.proofs.sums.Sums.with_first.Goals as goal

pub returns : goal.returns
returns c ns h = first_sums c.args.self c.args.number ns h
