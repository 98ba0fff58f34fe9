use Rattle.std.proofs.Common.{rules, None, ◌<◌, ◌∷◌, length, sym, ◌∙◌, arith}
use Rattle.irig_plant.specs.declared.event.Event.TheVariants.{Fault}
use Rattle.irig_plant.proofs.StepLaws.{set_generator, set_cached_port, fault_other, fault_here}
use Rattle.irig_plant.proofs.plant.Plant.fault.Goals as goal

pub returns : goal.returns
returns g c = record {
  accepted = search rules;
  stands = λ h p.
      let s = h.setup in
      let ev = h.events in
      let k = c.args.g in
      let kind = c.args.kind in
      let self = c.args.self.now in
      let low : k < length s.generators = omega (arith, c.in_ok-has_generator.ensures.ok, p.generator_count) in
      let generators = set_generator s ev (Fault k kind ∷ ev) self.generators.items k c.index_mut-generator.result.now c.fault.new.self
      (sym self.generators.ok.0 ∙ p.generator_count) low p.generators c.index_mut-generator.ensures.value
      (λ i. fault_other s ev k i kind) (fault_here s ev k kind c.index_mut-generator.result.now c.fault.new.self c.fault.ensures) in
      let cached_ports = set_cached_port g.P.Port s ev (Fault k kind ∷ ev) self.cached_ports.items k None
      (omega (arith, low, p.generator_count, self.carried, self.cached_ports.ok.0))
      p.cached_ports (λ i. fault_other s ev k i kind) tt in
      assumption (p, generators, cached_ports);
  refused = search rules;
  unchanged = search rules;
}
