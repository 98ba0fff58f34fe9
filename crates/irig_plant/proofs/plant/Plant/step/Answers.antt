use Rattle.std.proofs.Common.{rules, None, ◌≡◌, ◌+◌, ◌<◌, ◌∷◌, ◌^◌, ◌-◌, ℕ, false, min, is_some, length, sym, ◌∙◌, ap, arith}
use Rattle.irig_gen.specs.Frames.{GeneratorValue}
use Rattle.irig_time.specs.Timelines.{TimelineValue, second_at}
use Rattle.irig_plant.specs.Schedule.{generator_at}
use Rattle.irig_plant.specs.Refusals.{unless_second}
use Rattle.irig_plant.specs.declared.event.Event.TheVariants.{GenEdge}
use Rattle.irig_plant.proofs.StepLaws.{a_generator, no_second, set_generator, set_cached_port, step_other, step_here}
use Rattle.irig_plant.proofs.plant.Plant.step.Goals as goal

pub returns-then-is_none : goal.returns-then-is_none
returns-then-is_none g c = record {
  accepted = search rules;
  stands = search rules;
  refused = λ h p.
      let s = h.setup in
      let ev = h.events in
      let k = c.args.g in
      let low : k < length s.generators = omega (arith, c.in_ok-has_generator.ensures.ok, p.generator_count) in
      let x = c.index.result.now in
      let here : x ≡ generator_at s k ev = c.index.ensures ∙ p.generators k x low in
      let edge : c.edge.result ≡ (generator_at s k ev).edge = c.edge.ensures ∙ ap (λ (y : GeneratorValue). y.edge) here in
      let next : c.saturating_add-next.result ≡ min ((generator_at s k ev).edge + 1) (2 ^ 64 - 1) = c.saturating_add-next.ensures ∙ ap (λ (n : ℕ). min (n + 1) (2 ^ 64 - 1)) edge in
      let none : is_some (second_at s.times (min ((generator_at s k ev).edge + 1) (2 ^ 64 - 1))) ≡ false =
      sym (ap is_some (c.at.ensures.value ∙ ap (λ (t : TimelineValue). second_at t c.saturating_add-next.result) p.timeline ∙ ap (second_at s.times) next)) ∙ c.if-is_none.ensures in
      a_generator s k (unless_second s ((generator_at s k ev).edge + 1)) low ∙ no_second s ((generator_at s k ev).edge + 1) none;
  unchanged = search rules;
}

pub returns : goal.returns
returns g c = record {
  accepted = search rules;
  stands = λ h p.
      let s = h.setup in
      let ev = h.events in
      let k = c.args.g in
      let self = c.args.self.now in
      let low : k < length s.generators = omega (arith, c.in_ok-has_generator.ensures.ok, p.generator_count) in
      let generators = set_generator s ev (GenEdge k ∷ ev) self.generators.items k c.index_mut-generator.result.now c.step.new.self
      (sym self.generators.ok.0 ∙ p.generator_count) low p.generators c.index_mut-generator.ensures.value
      (λ i. step_other s ev k i) (step_here s ev k c.index_mut-generator.result.now c.step.new.self c.step.ensures) in
      let cached_ports = set_cached_port g.P.Port s ev (GenEdge k ∷ ev) self.cached_ports.items k None
      (omega (arith, low, p.generator_count, self.carried, self.cached_ports.ok.0))
      p.cached_ports (λ i. step_other s ev k i) tt in
      assumption (p, generators, cached_ports);
  refused = search rules;
  unchanged = search rules;
}
