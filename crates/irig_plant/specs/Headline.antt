-- The headline, of one entry of a plant's log: it announces the truth or nothing, gives no false
-- alarm, announces exactly when its edge is held, and tells the lock and the cause that the events
-- give. Each holds under the entry's premises.
-- Source: docs/HEADLINE.md and docs/EXACTLY_WHEN.md.
use Rattle.std.specs.Prelude.{List}
use Rattle.irig_plant.specs.declared.event.Event.{Event}
use Rattle.irig_plant.specs.declared.entry.Entry.{Entry}
use Rattle.irig_plant.specs.Schedule.{Setup}
use Rattle.irig_plant.specs.Truth.{AnnouncesTruth, GivesNoFalseAlarm}
use Rattle.irig_plant.specs.Exactly.{AnnouncesWhenHeld, HasItsLock, HasItsCause}

-- the whole of it, for an entry of the log of these events
pub record KeepsHeadline (s : Setup) (ev : List Event) (e : Entry) : Type 0 where
  pub truth : AnnouncesTruth s ev e
  pub calm : GivesNoFalseAlarm s ev e
  pub exactly : AnnouncesWhenHeld s ev e
  pub lock : HasItsLock s ev e
  pub cause : HasItsCause s ev e
