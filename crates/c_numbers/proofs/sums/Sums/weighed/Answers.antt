use Rattle.c_numbers.proofs.CheckLaws.{by_one_product}
use Rattle.c_numbers.proofs.sums.Sums.weighed.Goals as goal

pub returns : goal.returns
returns c ns h = by_one_product c.args.weight c.args.self ns h
