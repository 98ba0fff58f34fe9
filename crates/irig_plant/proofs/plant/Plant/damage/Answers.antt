use Rattle.std.proofs.Common.{rules, Some, sym, ◌∙◌, ap}
use Rattle.irig_plant.specs.declared.event.Event.TheVariants.{Damage}
use Rattle.irig_plant.specs.Widths.{with_damage}
use Rattle.irig_plant.specs.Schedule.{delivery}
use Rattle.irig_plant.proofs.plant.Plant.damage.Goals as goal

pub returns : goal.returns
returns g c = record {
  accepted = search rules;
  stands = λ h p.
      c.deliver.ensures h (Damage c.args.g c.args.r c.args.at c.args.width) p
      (ap (λ ws. Some (delivery c.args.g c.args.r ws)) (ap (with_damage c.args.at c.args.width) (sym (c.sent.ensures h p)) ∙ sym c.with_damage-sent.ensures ∙ sym c.pulses.ensures));
  refused = search rules;
  unchanged = search rules;
}
