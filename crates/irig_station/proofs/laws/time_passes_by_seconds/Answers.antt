use Rattle.irig_station.proofs.PartLaws.{passes_in_turn}
use Rattle.irig_station.proofs.laws.time_passes_by_seconds.Goals as goal

pub returns : goal.returns
returns _ s ev us = passes_in_turn s ev us
