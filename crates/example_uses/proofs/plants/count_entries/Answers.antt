use Rattle.irig_plant.specs.History.{with_events}
use Rattle.example_uses.proofs.plants.count_entries.Goals as goal

pub returns : goal.returns
returns g c h stands = c.clear_log.ensures (with_events c.args.events.now h) (c.in_ok-run.ensures.stands h stands)
