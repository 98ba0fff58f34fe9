use Rattle.std.proofs.Common.{rules, None, ◌<◌, ◌∷◌, length, sym, ◌∙◌, arith}
use Rattle.irig_plant.specs.declared.event.Event.TheVariants.{Repair}
use Rattle.irig_plant.proofs.StepLaws.{set_generator, set_cached_port, repair_other, repair_here}
use Rattle.irig_plant.proofs.plant.Plant.repair.Goals as goal

pub returns : goal.returns
returns g c = record {
  accepted = search rules;
  stands = λ h p.
      let s = h.setup in
      let ev = h.events in
      let k = c.args.g in
      let self = c.args.self.now in
      let low : k < length s.generators = omega (arith, c.in_ok-has_generator.ensures.ok, p.generator_count) in
      let generators = set_generator s ev (Repair k ∷ ev) self.generators.items k c.index_mut-generator.result.now c.repair.new.self
      (sym self.generators.ok.0 ∙ p.generator_count) low p.generators c.index_mut-generator.ensures.value
      (λ i. repair_other s ev k i) (repair_here s ev k c.index_mut-generator.result.now c.repair.new.self c.repair.ensures) in
      let cached_ports = set_cached_port g.P.Port s ev (Repair k ∷ ev) self.cached_ports.items k None
      (omega (arith, low, p.generator_count, self.carried, self.cached_ports.ok.0))
      p.cached_ports (λ i. repair_other s ev k i) tt in
      assumption (p, generators, cached_ports);
  refused = search rules;
  unchanged = search rules;
}
