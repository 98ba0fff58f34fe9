use Rattle.std.proofs.Common.{Some, sym, ◌∙◌, ap}
use Rattle.irig_plant.specs.declared.event.Event.TheVariants.{Carry}
use Rattle.irig_plant.specs.Schedule.{delivery}
use Rattle.irig_plant.proofs.plant.Plant.carry_pulses.Goals as goal

pub returns : goal.returns
returns g c h p =
    c.deliver.ensures h (Carry c.args.g c.args.r) p
    (ap (λ ws. Some (delivery c.args.g c.args.r ws)) (sym (c.sent-sent.ensures h p) ∙ sym c.pulses.ensures))
