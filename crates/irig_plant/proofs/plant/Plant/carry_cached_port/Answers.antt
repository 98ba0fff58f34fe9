use Rattle.std.proofs.Common.{◌<◌, ◌∷◌, length, Some, refl, sym, ◌∙◌, subst, arith}
use Rattle.irig_port.specs.Heard.{symbols_heard}
use Rattle.irig_reader.proofs.FedLaws.{at_most_five}
use Rattle.irig_plant.specs.declared.event.Event.TheVariants.{Carry}
use Rattle.irig_plant.specs.Schedule.{delivery, history_of, pulses_sent}
use Rattle.irig_plant.specs.History.{IsCachedPort}
use Rattle.irig_plant.proofs.StepLaws.{set_reader, set_cached_port, feed_other, feed_here}
use Rattle.irig_plant.proofs.plant.Plant.carry_cached_port.Goals as goal

pub returns-clause-carried : goal.returns-clause-carried
returns-clause-carried g c = λ empty h p.
    let mid = c.cache_port.new.self in
    let q = c.cache_port.ensures.same h p in
    let s = h.setup in
    let ev = h.events in
    let k = c.args.g in
    let r = c.args.r in
    let sends : k < length s.generators = omega (arith, c.requires.generator, p.generator_count) in
    let low : r < length s.readers = omega (arith, c.requires.reader, p.reader_count) in
    let port : k < 5 = omega (arith, c.requires.generator, c.args.self.now.fed, at_most_five c.args.self.now.redundancy) in
    let x = c.index_mut-ticked_reader.result.now in
    let xs = mid.readers in
    let e = Carry k r in
    let stands : g.P.Port.stands_for c.in-Some.cached_port s.rules (symbols_heard (pulses_sent s k ev)) =
    subst (λ w. IsCachedPort g.P.Port s ev k w) (sym c.index_mut.ensures.value ∙ c.in-Some.is) (q.cached_ports k c.index_mut.result.now sends) in
    let cached_ports = set_cached_port g.P.Port s ev (e ∷ ev) mid.cached_ports.items k (Some c.take_over.new.heard)
    (omega (arith, sends, q.generator_count, mid.carried, mid.cached_ports.ok.0))
    q.cached_ports (λ _ _. refl)
    (c.take_over.ensures.kept s.rules (symbols_heard (pulses_sent s k ev)) stands) in
    let readers = set_reader s ev (e ∷ ev) xs.items r x (record x { reader = c.take_over.new.self }) (sym xs.ok.0 ∙ q.reader_count) low q.readers c.index_mut-ticked_reader.ensures.value
    (feed_other s e ev (delivery k r (pulses_sent s k ev)) refl)
    (λ old. feed_here s e ev k r (pulses_sent s k ev) x (record x { reader = c.take_over.new.self }) port refl (c.take_over.ensures.fed empty s.rules (pulses_sent s k ev) stands (history_of s r ev) old.reader) refl old) in
    assumption (q, cached_ports, readers)

pub returns-clause-unchanged : goal.returns-clause-unchanged
returns-clause-unchanged g c = λ full h p.
    let mid = c.cache_port.new.self in
    let q = c.cache_port.ensures.same h p in
    let s = h.setup in
    let ev = h.events in
    let k = c.args.g in
    let r = c.args.r in
    let sends : k < length s.generators = omega (arith, c.requires.generator, p.generator_count) in
    let low : r < length s.readers = omega (arith, c.requires.reader, p.reader_count) in
    let x = c.index_mut-ticked_reader.result.now in
    let xs = mid.readers in
    let stands : g.P.Port.stands_for c.in-Some.cached_port s.rules (symbols_heard (pulses_sent s k ev)) =
    subst (λ w. IsCachedPort g.P.Port s ev k w) (sym c.index_mut.ensures.value ∙ c.in-Some.is) (q.cached_ports k c.index_mut.result.now sends) in
    let cached_ports = set_cached_port g.P.Port s ev ev mid.cached_ports.items k (Some c.take_over.new.heard)
    (omega (arith, sends, q.generator_count, mid.carried, mid.cached_ports.ok.0))
    q.cached_ports (λ _ _. refl)
    (c.take_over.ensures.kept s.rules (symbols_heard (pulses_sent s k ev)) stands) in
    let readers = set_reader s ev ev xs.items r x (record x { reader = c.take_over.new.self }) (sym xs.ok.0 ∙ q.reader_count) low q.readers c.index_mut-ticked_reader.ensures.value
    (λ _ _ _ old. old)
    (λ old. record { reader = c.take_over.ensures.unchanged full (history_of s r ev) old.reader; ticked = old.ticked }) in
    assumption (q, cached_ports, readers)
