use Rattle.std.proofs.Common.{rules, Some, sym, ◌∙◌, ap}
use Rattle.irig_plant.specs.declared.event.Event.TheVariants.{Replay}
use Rattle.irig_plant.specs.Schedule.{delivery}
use Rattle.irig_plant.proofs.plant.Plant.replay.Goals as goal

pub returns : goal.returns
returns g c = record {
  accepted = search rules;
  stands = λ h p.
      c.deliver.ensures h (Replay c.args.g c.args.r c.args.edge) p
      (ap (λ ws. Some (delivery c.args.g c.args.r ws)) (sym (c.sent_at-sent.ensures h p) ∙ sym c.pulses.ensures));
  refused = search rules;
  unchanged = search rules;
}
