-- What stands of a station between two events, whatever its history.
-- Source: this project's profile.
use Rattle.std.specs.Prelude.{◌≡◌, ℕ, ◌-◌, ◌*◌, ◌^◌, ◌≤◌, All, List, length}
use Rattle.irig_gen.specs.Frames.{GeneratorValue}
use Rattle.irig_port.specs.declared.port.Port.{Ghosts}
use Rattle.irig_vote.specs.Vote.{ports_in}
use Rattle.irig_simulated.specs.declared.second.Second.{Second}
use Rattle.irig_simulated.specs.declared.simulated.Simulated.{Simulated}

-- a device has a line from each generator, and stands at this time
pub record IsDeviceAt {P : Type 0} {g : Ghosts P} (generators now : ℕ) (d : Simulated P g)
    : Type 0 where
  pub ports : ports_in d.device.clock.redundancy ≡ generators
  pub stands : d.now_us ≡ now

-- all stand at one time; so many seconds have begun, the last of which is this one and lasts until
-- then at least, and each generator goes on with the next
pub record StandTogether {P : Type 0} {g : Ghosts P} (generators : List GeneratorValue)
    (second : Second) (begun now : ℕ) (devices : List (Simulated P g))
    : Type 0 where
  pub lines : length second.lines.items ≡ length generators
  pub number : second.number ≡ begun - 1
  pub edges : All (λ x. x.edge ≡ begun) generators
  pub least : second.number * 1000000 ≤ now
  pub most : now ≤ begun * 1000000
  pub early : begun ≤ 2 ^ 32
  pub few : length devices ≤ 16
  pub each : All (IsDeviceAt (length generators) now) devices
