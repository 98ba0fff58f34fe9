use Rattle.std.proofs.Common.{◌<◌, length, sym, ◌∙◌, subst, arith}
use Rattle.irig_port.specs.Heard.{symbols_heard}
use Rattle.irig_plant.specs.Schedule.{pulses_sent}
use Rattle.irig_plant.specs.History.{IsCachedPort}
use Rattle.irig_plant.proofs.NothingLaws.{none_sent}
use Rattle.irig_plant.proofs.plant.Plant.brings_nothing.Goals as goal

pub returns-in-Some : goal.returns-in-Some
returns-in-Some g c = λ empty h p.
    let s = h.setup in
    let ev = h.events in
    let k = c.args.g in
    let sends : k < length s.generators = omega (arith, c.requires, p.generator_count) in
    let stands : g.P.Port.stands_for c.in-Some.cached_port s.rules (symbols_heard (pulses_sent s k ev)) =
    subst (λ w. IsCachedPort g.P.Port s ev k w) (sym c.index.ensures ∙ c.in-Some.is) (p.cached_ports k c.index.result.now sends) in
    none_sent (pulses_sent s k ev) (sym (c.is_empty.ensures s.rules (symbols_heard (pulses_sent s k ev)) stands) ∙ empty)
