use Rattle.std.proofs.Common.{◌≡◌, ◌<◌, [], length, true, Some, sym, ◌∙◌, ap, subst, refl, arith}
use Rattle.irig_port.specs.Heard.{symbols_heard}
use Rattle.irig_gen.specs.Sent.{sent_of}
use Rattle.irig_plant.specs.Schedule.{generator_at, pulses_sent}
use Rattle.irig_plant.specs.Widths.{widths_of}
use Rattle.irig_plant.specs.History.{IsCachedPort}
use Rattle.irig_plant.proofs.StepLaws.{set_cached_port}
use Rattle.irig_plant.proofs.plant.Plant.first_cached_port.Goals as goal

pub returns-clause-same : goal.returns-clause-same
returns-clause-same g c h p =
    let s = h.setup in
    let ev = h.events in
    let some : 0 < length s.generators = omega (arith, c.requires, p.generator_count) in
    let is : c.index_mut.result.now ≡ Some c.in_ok-first.first.now = sym c.in_ok-first.ensures.value in
    let stands : g.P.Port.stands_for c.in_ok-first.first.now s.rules (symbols_heard (pulses_sent s 0 ev)) =
    subst (λ w. IsCachedPort g.P.Port s ev 0 w) (sym c.index_mut.ensures.value ∙ is) (p.cached_ports 0 c.index_mut.result.now some) in
    let cached_ports = set_cached_port g.P.Port s ev ev c.args.self.now.cached_ports.items 0 (Some c.take_over.new.other)
    (omega (arith, some, p.generator_count, c.args.self.now.carried, c.args.self.now.cached_ports.ok.0))
    p.cached_ports (λ _ _. refl)
    (c.take_over.ensures.kept s.rules (symbols_heard (pulses_sent s 0 ev)) stands) in
    assumption (p, cached_ports)

pub returns-clause-cached_port : goal.returns-clause-cached_port
returns-clause-cached_port g c h p =
    let s = h.setup in
    let ev = h.events in
    let k = c.args.g in
    let low : k < length s.generators = omega (arith, c.requires, p.generator_count) in
    let some : 0 < length s.generators = omega arith in
    let is : c.index_mut.result.now ≡ Some c.in_ok-first.first.now = sym c.in_ok-first.ensures.value in
    let stands : g.P.Port.stands_for c.in_ok-first.first.now s.rules (symbols_heard (pulses_sent s 0 ev)) =
    subst (λ w. IsCachedPort g.P.Port s ev 0 w) (sym c.index_mut.ensures.value ∙ is) (p.cached_ports 0 c.index_mut.result.now some) in
    let sends : c.sends_as.result ≡ true = cc in
    let alike = c.sends_as.ensures sends in
    let second = c.index-generator.ensures ∙ p.generators k c.index-generator.result.now low in
    let first = c.index.ensures ∙ p.generators 0 c.index.result.now some in
    let same : sent_of (generator_at s 0 ev) s.times ≡ sent_of (generator_at s k ev) s.times = cc p.timeline in
    rw (sym (ap widths_of same)) (c.take_over.ensures.heard s.rules s.rules [] (symbols_heard (pulses_sent s 0 ev)) (rw (sym p.rules) c.fresh-cached_port.ensures) stands)
