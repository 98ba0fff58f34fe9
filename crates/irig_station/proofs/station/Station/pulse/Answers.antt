use Rattle.std.proofs.Common.{◌<◌, length, refl, sym, ap, subst, arith}
use Rattle.irig_wires.specs.Wires.{added}
use Rattle.irig_simulated.specs.Courses.{on_line}
use Rattle.irig_simulated.specs.Simulations.{IsSimulationOf}
use Rattle.irig_station.specs.StationSetups.{kind_of_device}
use Rattle.irig_station.specs.StationStandings.{symbols_so_far}
use Rattle.irig_station.proofs.StationLaws.{course_set, line_step}
use Rattle.irig_station.proofs.station.Station.pulse.Goals as goal

pub returns : goal.returns
returns g c s x shown q =
    let self = c.args.self.now in
    let r = c.args.r in
    let there : r < length s.devices = omega (arith, c.in_ok-has_line.ensures.device, q.device_count) in
    let source : c.args.g < length s.generators = omega (arith, c.in_ok-has_line.ensures.generator, self.generators.ok.0, ap length q.generators, q.sources) in
    let d = c.index_mut-device.result.now in
    let k = kind_of_device s r in
    let stood = subst (λ z. IsSimulationOf z k (symbols_so_far s x) (x.courses r)) (sym c.index_mut-device.ensures.value) (q.devices r d there) in
    let devices = course_set s (symbols_so_far s x) x.courses self.devices.items r c.add.new.self (on_line c.args.g (added (x.courses r).now c.args.width_us) (x.courses r)) (omega (arith, c.in_ok-has_line.ensures.device, self.devices.ok.0)) q.devices
    (c.add.ensures.stands k (symbols_so_far s x) (x.courses r) stood) in
    rw (line_step s c.args.g r (added (x.courses r).now c.args.width_us) x there source) (refl, assumption (q, devices))
