use Rattle.std.proofs.Common.{◌<◌, ◌∷◌, length, drop, refl, sym, ◌∙◌, ap, arith}
use Rattle.irig_reader.proofs.FedLaws.{at_most_five}
use Rattle.irig_plant.specs.Schedule.{delivery, history_of}
use Rattle.irig_plant.specs.Audits.{first_false, verdict}
use Rattle.irig_plant.proofs.StepLaws.{set_reader, cached_port_after, delivers, feed_other, feed_here}
use Rattle.irig_plant.proofs.plant.Plant.deliver.Goals as goal

pub returns : goal.returns
returns g c = λ h e p given.
    let s = h.setup in
    let ev = h.events in
    let k = c.args.g in
    let r = c.args.r in
    let ws = c.args.widths.now in
    let xs = c.args.self.now.readers in
    let plain = delivers s e ev (delivery k r ws) given in
    let low : r < length s.readers = omega (arith, c.requires.reader, p.reader_count) in
    let port : k < 5 = omega (arith, c.requires.generator, c.args.self.now.fed, at_most_five c.args.self.now.redundancy) in
    let x = c.index_mut-ticked_reader.result.now in
    record {
      timeline = p.timeline;
      rules = p.rules;
      redundancy = p.redundancy;
      generator_count = p.generator_count;
      generators = λ i d lt. p.generators i d lt ∙ sym (plain.generators i);
      cached_ports = λ i d lt. cached_port_after g.P.Port s ev (e ∷ ev) i _ (plain.generators i) (p.cached_ports i d lt);
      reader_count = p.reader_count;
      readers = set_reader s ev (e ∷ ev) xs.items r x _ (sym xs.ok.0 ∙ p.reader_count) low p.readers c.index_mut-ticked_reader.ensures.value
          (feed_other s e ev (delivery k r ws) given)
          (λ old. feed_here s e ev k r ws x _ port given (c.pulses.ensures.fed (history_of s r ev) old.reader) refl old);
      log = p.log ∙ sym (ap (drop h.shown) plain.log);
      few = omega (arith, p.few, ap length plain.log);
      audit = p.audit ∙ sym (ap (verdict (first_false s.times 0 s.readers)) plain.broken);
    }
