use Rattle.std.proofs.Common.{rules, ◌<◌}
use Rattle.c_numbers.proofs.CheckLaws.{change_is}
use Rattle.c_numbers.proofs.sums.Sums.change.Goals as goal

pub returns : goal.returns
returns c ms ns was is =
    let fits : c.args.self.places < 18446744073709551616 = search rules in
    change_is c.args.weight c.args.self c.args.after ms ns fits was is
