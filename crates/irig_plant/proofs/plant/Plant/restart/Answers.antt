use Rattle.std.proofs.Common.{rules, ◌<◌, ◌∷◌, length, refl, sym, ◌∙◌, arith}
use Rattle.irig_plant.specs.declared.event.Event.TheVariants.{Restart}
use Rattle.irig_plant.specs.Schedule.{history_of}
use Rattle.irig_plant.proofs.StepLaws.{set_reader, restart_other, restart_here}
use Rattle.irig_plant.proofs.plant.Plant.restart.Goals as goal

pub returns : goal.returns
returns g c = record {
  accepted = search rules;
  stands = λ h p.
      let s = h.setup in
      let ev = h.events in
      let r = c.args.r in
      let xs = c.args.self.now.readers in
      let low : r < length s.readers = omega (arith, c.in_ok-has_reader.ensures.ok, p.reader_count) in
      let x = c.index_mut-ticked_reader.result.now in
      let readers = set_reader s ev (Restart r ∷ ev) xs.items r x (record x { reader = c.restart.new.self }) (sym xs.ok.0 ∙ p.reader_count) low p.readers c.index_mut-ticked_reader.ensures.value
      (restart_other s ev r)
      (λ old. restart_here s ev r x (record x { reader = c.restart.new.self }) (c.restart.ensures.forgotten (history_of s r ev) old.reader) refl old) in
      assumption (p, readers);
  refused = search rules;
  unchanged = search rules;
}
