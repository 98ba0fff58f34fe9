-- Ports that heard what a generator without fault sends.
-- Source: docs/SCENARIOS.md.
use Rattle.std.specs.Prelude.{◌≡◌, ℕ, ◌<◌, List, [], length, All}
use Rattle.irig_gen.specs.Refusals.{IsGenerator}
use Rattle.irig_vote.specs.Vote.{ports_in, redundancy_of}
use Rattle.irig_plant.specs.declared.event.Event.{Event}
use Rattle.irig_plant.specs.Schedule.{Setup, heard_at, pulses_sent_at, ticks_of}
use Rattle.irig_plant.specs.History.{AreGenerators}

-- generators as a plant is made of them: three or five, new, by its rules, with zones in range
pub record HasGenerators (s : Setup) : Type 0 where
  pub new : AreGenerators s.rules s.generators
  pub zones : All IsGenerator s.generators

-- since the last tick or restart of reader r its port p heard one frame and nothing else: the one
-- that its generator, as it was made, sends of the edge of r's last tick
pub record IsHealthyPort (s : Setup) (r : ℕ) (ev : List Event) (p : ℕ) : Type 0 where
  pub port : p < ports_in (redundancy_of (length s.generators))
  pub heard : heard_at s r p ev ≡ pulses_sent_at s p (ticks_of r ev) []
