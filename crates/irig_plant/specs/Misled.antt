-- Where one premise does not hold, and a false second is announced.
-- Source: docs/HEADLINE.md, the premises.
use Rattle.std.specs.Prelude.{◌≡◌, ℕ, ◌+◌, List, [], ◌∷◌, Some}
use Rattle.irig_time.specs.declared.second.UtcSecond.{UtcSecond}
use Rattle.irig_time.specs.Timelines.{second_at}
use Rattle.irig_time.specs.TimelineFaults.{IsTimeline}
use Rattle.irig_plant.specs.declared.event.Event.{Event}
use Rattle.irig_plant.specs.declared.event.Event.TheVariants.{Tick}
use Rattle.irig_plant.specs.Schedule.{Setup, ticks_of, entry_of}
use Rattle.irig_plant.specs.Runs.{events_after, AreAccepted}
use Rattle.irig_vote.specs.Counts.{AtMost}
use Rattle.irig_plant.specs.Ports.{f_in, IsUntruePort}
use Rattle.irig_plant.specs.Premises.{IsKeptUpTo, IsKept}
use Rattle.irig_plant.specs.History.{AreReaders}
use Rattle.irig_plant.specs.Health.{HasGenerators}

-- the plant is one that can be made, and takes these events in this order
pub record Takes (s : Setup) (events : List Event) : Type 0 where
  pub timeline : IsTimeline s.times
  pub generators : HasGenerators s
  pub readers : AreReaders s.readers
  pub accepted : AreAccepted s events []

-- it takes the events ev and then a tick of r; all premises were kept until then, at that tick
-- f + 1 ports are untrue and no more, and it announces u, which is not T of its edge
pub record IsMisled (s : Setup) (ev : List Event) (r : ℕ) (u : UtcSecond) : Type 0 where
  pub events : List Event
  pub in_order : events_after events [] ≡ Tick r ∷ ev
  pub takes : Takes s events
  pub kept : IsKept s ev
  pub few : AtMost (f_in s + 1) (IsUntruePort s r ev)
  pub says : (entry_of s r ev).report.announce ≡ Some u
  pub untrue : ¬ (second_at s.times (ticks_of r ev + 1) ≡ Some u)

-- the same by a false table: the ports of all readers were kept at every tick, that one too
pub record IsMisledByTable (s : Setup) (ev : List Event) (r : ℕ) (u : UtcSecond) : Type 0 where
  pub events : List Event
  pub in_order : events_after events [] ≡ Tick r ∷ ev
  pub takes : Takes s events
  pub kept : (q n : ℕ) → IsKeptUpTo s q n (Tick r ∷ ev)
  pub says : (entry_of s r ev).report.announce ≡ Some u
  pub untrue : ¬ (second_at s.times (ticks_of r ev + 1) ≡ Some u)
