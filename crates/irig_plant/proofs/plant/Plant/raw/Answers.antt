use Rattle.std.proofs.Common.{rules, Some, sym, ap}
use Rattle.irig_plant.specs.declared.event.Event.TheVariants.{Raw}
use Rattle.irig_plant.specs.Schedule.{delivery}
use Rattle.irig_plant.proofs.plant.Plant.raw.Goals as goal

pub returns : goal.returns
returns g c = record {
  accepted = search rules;
  stands = λ h p.
      c.deliver.ensures h (Raw c.args.g c.args.r c.args.widths.now) p
      (ap (λ ws. Some (delivery c.args.g c.args.r ws)) (sym c.as_slice.ensures));
  refused = search rules;
  unchanged = search rules;
}
