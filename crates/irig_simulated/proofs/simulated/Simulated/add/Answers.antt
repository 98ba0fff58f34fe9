use Rattle.std.proofs.Common.{◌≡◌, true, sym, subst}
use Rattle.irig_wires.specs.declared.wires.Wires.{Wires}
use Rattle.irig_vote.specs.Vote.{ports_in}
use Rattle.irig_simulated.specs.Flights.{are_flights}
use Rattle.irig_simulated.proofs.FlightLaws.{flights_added}
use Rattle.irig_simulated.proofs.simulated.Simulated.add.Goals as goal

pub invariant_of-self-clause-flying : goal.invariant_of-self-clause-flying
invariant_of-self-clause-flying g c =
    let self = c.args.self.now in
    subst (λ (w : Wires). are_flights (ports_in self.device.clock.redundancy) w ≡ true) (sym c.add.ensures)
    (flights_added self.device.clock.redundancy self.wires self.flying c.args.line self.now_us c.args.width_us c.requires)
