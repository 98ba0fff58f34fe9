use Rattle.std.proofs.Common.{rules, ◌≡◌, ◌+◌, ◌*◌, ◌%◌, ◌<◌, ℕ, length, slice_set}
use Rattle.c_numbers.specs.declared.reader.IrigReader.{IrigReader}
use Rattle.c_numbers.specs.CheckWord.{check_of, port_numbers, setup_numbers, state_numbers, table_numbers, tally_numbers, weighted}
use Rattle.c_numbers.specs.Tallies.{tally_at}
use Rattle.c_numbers.proofs.CheckLaws.{by_parts}
use Rattle.c_reader.proofs.PortLaws.{heard-as}
use Rattle.c_numbers.proofs.PortSums.{port_set, renewed}
use Rattle.c_reader.proofs.reader.set_port.Goals as goal

pub returns-clause-sealed : goal.returns-clause-sealed
unfolding check_of
returns-clause-sealed c =
    let r = c.args.reader.now in
    let long : length r.table.leaps ≡ 64 = search rules in
    let five : length r.ports ≡ 5 = search rules in
    let fits : r.check < 18446744073709551616 = search rules in
    let place : c.from-place.result ≡ c.args.port = c.from-place.ensures in
    let q : IrigReader = record r { ports = slice_set r.ports c.from-place.result c.args.tally } in
    let rest : ℕ = weighted 3 (setup_numbers r.setup) + weighted 19 (table_numbers r.table) + weighted 279 (state_numbers r.state) in
    let before : ℕ = weighted (291 + 10 * c.args.port) (tally_numbers (tally_at r.ports c.args.port)) in
    let after : ℕ = weighted (291 + 10 * c.args.port) (tally_numbers c.args.tally) in
    let adds : (before + c.tally_change-change.result) % 18446744073709551616 ≡ after % 18446744073709551616 = search rules in
    let set = port_set r.ports c.args.port c.args.tally five c.requires in
    rw (by_parts r long, by_parts q long, place)
    (renewed r.check rest before after (weighted 291 (port_numbers r.ports)) (weighted 291 (port_numbers (slice_set r.ports c.args.port c.args.tally))) c.tally_change-change.result set fits adds)

pub returns-clause-heard : goal.returns-clause-heard
returns-clause-heard c h widths s tally =
    let r = c.args.reader.now in
    let five : length r.ports ≡ 5 = search rules in
    record {
      rules = s.rules;
      limits = s.limits;
      reader_rules = s.reader_rules;
      table = s.table;
      redundancy = s.redundancy;
      heard = heard-as r.ports h.fed c.args.port c.from-place.result widths c.args.tally five c.from-place.ensures c.requires s.heard tally;
      state = s.state;
      setup = s.setup;
      is_state = s.is_state;
      sealed = (returns-clause-sealed c).1 s.sealed;
    }
