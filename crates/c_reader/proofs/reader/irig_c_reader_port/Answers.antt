use Rattle.std.proofs.Common.{rules, ◌≡◌, ◌<◌, ◌≤◌, arith, ap, ◌∙◌}
use Rattle.irig_vote.specs.declared.redundancy.Redundancy.{Redundancy}
use Rattle.irig_vote.specs.declared.redundancy.Redundancy.TheVariants.{One, Three, Five}
use Rattle.irig_vote.specs.Vote.{ports_in}
use Rattle.c_numbers.specs.Setups.{redundancy_in}
use Rattle.c_numbers.specs.Reports.{told_in}
use Rattle.c_reader.specs.Readers.{told_at}
use Rattle.c_reader.proofs.TellsLaws.{port_tells}
use Rattle.c_reader.proofs.reader.irig_c_reader_port.Goals as goal

at_most_five : (r : Redundancy) → ports_in r ≤ 5
at_most_five One = omega arith
at_most_five Three = omega arith
at_most_five Five = omega arith

pub returns-clause-heard : goal.returns-clause-heard
returns-clause-heard c done h s =
    let r = c.args.reader.now in
    let low : c.args.port < ports_in (redundancy_in r.setup) = search rules in
    let told : c.told_for_c.result ≡ told_in (told_at r c.args.port) = search rules in
    told ∙ ap told_in (port_tells r h c.args.port s (omega (arith, low, at_most_five (redundancy_in r.setup))))
