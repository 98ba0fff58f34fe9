use Rattle.std.proofs.Common.{List, All, subst}
use Rattle.std.proofs.lemmas.List.Elements.{All-drop}
use Rattle.irig_time.specs.Timelines.{TimelineValue}
use Rattle.irig_time.specs.TimelineFaults.{IsTimeline}
use Rattle.irig_plant.specs.declared.entry.Entry.{Entry}
use Rattle.irig_plant.specs.declared.event.Event.{Event}
use Rattle.irig_plant.specs.History.{PlantHistory, HasPlantHistory}
use Rattle.irig_plant.specs.Schedule.{Setup, log_of}
use Rattle.irig_plant.specs.Truth.{AnnouncesTruth, GivesNoFalseAlarm}
use Rattle.irig_plant.specs.Exactly.{AnnouncesWhenHeld, HasItsLock, HasItsCause}
use Rattle.irig_plant.proofs.Headline.{log_is_true}
use Rattle.irig_plant.proofs.ExactLaws.{log_is_calm, log_when_held, log_tells_lock, log_tells_cause}
use Rattle.irig_plant.proofs.RangeLaws.{all_can_lock}
use Rattle.irig_plant.proofs.SoundLaws.{all_sound, all_told_soundly}
use Rattle.irig_plant.proofs.plant.Plant.log.Given.{Over}
use Rattle.irig_plant.proofs.plant.Plant.log.Goals.{After-as_slice}
use Rattle.irig_plant.proofs.plant.Plant.log.Goals as goal

pub returns-clause-valid : goal.returns-clause-valid
returns-clause-valid g c = rw c.as_slice.ensures.value (all_sound _ c.args.self.now.sound)

pub returns-clause-claims : goal.returns-clause-claims
returns-clause-claims g c = rw c.as_slice.ensures.value (all_told_soundly _ c.args.self.now.claimed)

-- what all entries of the history's log have, those that are shown have
shown_have : (g : Over) (c : After-as_slice g) (fact : Setup → List Event → Entry → Type 0) (h : PlantHistory) → HasPlantHistory c.args.self.now h
    → (IsTimeline h.setup.times → All (fact h.setup h.events) (log_of h.setup h.events)) → All (fact h.setup h.events) c.as_slice.result.now
shown_have g c fact h p all =
    let now : IsTimeline c.args.self.now.timeline = record { sound = c.args.self.now.timed } in
    let sound : IsTimeline h.setup.times = subst (λ (t : TimelineValue). IsTimeline t) p.timeline now in
    rw (c.as_slice.ensures.value, p.log) (All-drop (fact h.setup h.events) h.shown (log_of h.setup h.events) (all sound))

pub returns-clause-truth : goal.returns-clause-truth
returns-clause-truth g c = λ h p. shown_have g c AnnouncesTruth h p (log_is_true h.setup h.events)

pub returns-clause-calm : goal.returns-clause-calm
returns-clause-calm g c = λ h p. shown_have g c GivesNoFalseAlarm h p (λ sound. log_is_calm h.setup h.events sound (all_can_lock c.args.self.now h p))

pub returns-clause-exactly : goal.returns-clause-exactly
returns-clause-exactly g c = λ h p. shown_have g c AnnouncesWhenHeld h p (λ sound. log_when_held h.setup h.events sound (all_can_lock c.args.self.now h p))

pub returns-clause-lock : goal.returns-clause-lock
returns-clause-lock g c = λ h p. shown_have g c HasItsLock h p (λ sound. log_tells_lock h.setup h.events sound (all_can_lock c.args.self.now h p))

pub returns-clause-cause : goal.returns-clause-cause
returns-clause-cause g c = λ h p. shown_have g c HasItsCause h p (λ sound. log_tells_cause h.setup h.events sound (all_can_lock c.args.self.now h p))
