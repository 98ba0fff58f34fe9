use Rattle.std.proofs.Common.{◌∙◌, refl, ap, subst, sym, arith}
use Rattle.irig_wires.specs.declared.wires.Coming.{Coming}
use Rattle.irig_wires.specs.declared.wires.Happening.TheVariants.{End, Send, Tick}
use Rattle.irig_simulated.specs.Courses.{Course}
use Rattle.irig_simulated.specs.Simulations.{IsSimulationOf}
use Rattle.irig_simulated.proofs.StandsLaws.{coming_is, ends_next, later, stepped_by}
use Rattle.irig_simulated.proofs.simulated.Simulated.step.Goals as goal

pub hear-requires-clause-line : goal.hear-requires-clause-line
hear-requires-clause-line g c =
    let self = c.args.self.now in
    (ends_next self.device.clock.redundancy self.now_us self.wires self.tick_us self.send_us c.in-End.ending self.flying (ap (λ (y : Coming). y.what) (sym c.requires.coming) ∙ c.in-End.is)).0

pub hear-requires-clause-rise : goal.hear-requires-clause-rise
hear-requires-clause-rise g c =
    let self = c.args.self.now in
    let past = (ends_next self.device.clock.redundancy self.now_us self.wires self.tick_us self.send_us c.in-End.ending self.flying (ap (λ (y : Coming). y.what) (sym c.requires.coming) ∙ c.in-End.is)).1 in
    let time = ap (λ (y : Coming). y.time_us) c.requires.coming in
    omega (arith, past, time)

pub returns-in_ok-hear-in-End-clause-stands : goal.returns-in_ok-hear-in-End-clause-stands
returns-in_ok-hear-in-End-clause-stands g c k signal symbol x of is =
    let self = c.args.self.now in
    let time = ap (λ (y : Coming). y.time_us) c.requires.coming in
    let now = later self _ k symbol x c.args.coming.time_us refl refl refl refl refl refl refl refl (omega (arith, time)) is in
    subst (λ (y : Course). IsSimulationOf c.hear.new.self k symbol y) (stepped_by k signal x c.args.coming (End c.in-End.ending) (c.requires.coming ∙ coming_is self k symbol x is) c.in-End.is)
    (c.in_ok-hear-in-End.ensures.stands k signal symbol (record x { now = c.args.coming.time_us }) of now)

pub returns-in_ok-tick-in-Tick-clause-stands : goal.returns-in_ok-tick-in-Tick-clause-stands
returns-in_ok-tick-in-Tick-clause-stands g c k signal symbol x of is =
    let self = c.args.self.now in
    let time = ap (λ (y : Coming). y.time_us) c.requires.coming in
    let now = later self _ k symbol x c.args.coming.time_us refl refl refl refl refl refl refl refl (omega (arith, time)) is in
    subst (λ (y : Course). IsSimulationOf c.tick.new.self k symbol y) (stepped_by k signal x c.args.coming Tick (c.requires.coming ∙ coming_is self k symbol x is) c.in-Tick.is)
    (c.in_ok-tick-in-Tick.ensures.stands k symbol (record x { now = c.args.coming.time_us }) now)

pub returns-in-Send-clause-stands : goal.returns-in-Send-clause-stands
returns-in-Send-clause-stands g c k signal symbol x of is =
    let self = c.args.self.now in
    let time = ap (λ (y : Coming). y.time_us) c.requires.coming in
    let now = later self _ k symbol x c.args.coming.time_us refl refl refl refl refl refl refl refl (omega (arith, time)) is in
    subst (λ (y : Course). IsSimulationOf c.send.new.self k symbol y) (stepped_by k signal x c.args.coming Send (c.requires.coming ∙ coming_is self k symbol x is) c.in-Send.is)
    (c.send.ensures.stands k signal symbol (record x { now = c.args.coming.time_us }) of now)
