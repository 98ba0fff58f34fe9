use Rattle.std.proofs.Common.{arith}
use Rattle.irig_plant.specs.Schedule.{ticks_of}
use Rattle.irig_plant.proofs.Headline.{stands_at_truth}
use Rattle.irig_plant.proofs.laws.readers_keep_to_the_truth.Goals as goal

pub returns : goal.returns
returns _ s r ev sound true_table kept =
    stands_at_truth s r (ticks_of r ev) ev (record { sound = sound; true_table = true_table }) kept (omega arith)
