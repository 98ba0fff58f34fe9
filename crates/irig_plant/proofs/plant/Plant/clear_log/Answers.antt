use Rattle.std.proofs.Common.{◌≡◌, ◌≤◌, length, drop, sym, ◌∙◌, arith}
use Rattle.std.proofs.Math.ListN.{drop_of_length-le}
use Rattle.irig_plant.specs.Schedule.{log_of}
use Rattle.irig_plant.proofs.plant.Plant.clear_log.Goals as goal

pub returns : goal.returns
returns g c = λ h p.
    let log : c.clear.new.self.items ≡ drop (length (log_of h.setup h.events)) (log_of h.setup h.events) = c.clear.ensures.items ∙ sym (drop_of_length-le (log_of h.setup h.events) (omega arith)) in
    let few : length (log_of h.setup h.events) ≤ length (log_of h.setup h.events) = omega arith in
    assumption (p, log, few)
