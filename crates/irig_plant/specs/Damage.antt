-- Ports that heard what a generator without fault sends, with one pulse damaged.
-- Source: docs/SCENARIOS.md.
use Rattle.std.specs.Prelude.{◌≡◌, ℕ, ◌<◌, List, [], length}
use Rattle.irig_vote.specs.Vote.{ports_in, redundancy_of}
use Rattle.irig_plant.specs.declared.event.Event.{Event}
use Rattle.irig_plant.specs.Widths.{with_damage}
use Rattle.irig_plant.specs.Schedule.{Setup, heard_at, pulses_sent_at, ticks_of}

-- since the last tick or restart of reader r its port p heard one frame and nothing else: the one
-- that its generator, as it was made, sends of the edge of r's last tick, but with this width at
-- this element
pub record IsDamagedPort (s : Setup) (r : ℕ) (ev : List Event) (p : ℕ) : Type 0 where
  pub element : ℕ
  pub width : ℕ
  pub port : p < ports_in (redundancy_of (length s.generators))
  pub heard : heard_at s r p ev
      ≡ with_damage element width (pulses_sent_at s p (ticks_of r ev) [])
