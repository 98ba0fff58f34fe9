use Rattle.std.proofs.Common.{◌≡◌, ℕ, ◌<◌, drop, List}
use Rattle.irig_time.specs.Timelines.{TimelineValue}
use Rattle.irig_time.specs.TimelineFaults.{IsTimeline}
use Rattle.irig_plant.specs.declared.setup.ReaderSetup.{ReaderSetup}
use Rattle.irig_plant.specs.Audits.{first_false}
use Rattle.irig_plant.proofs.audit.first_audit.Given as goal

-- what is left decides, and the first table asked the timeline
pub record IsAsked (t : TimelineValue) (reader : ℕ) (readers : List ReaderSetup) : Type 0 where
  pub value : first_false t reader (drop reader readers) ≡ first_false t 0 readers
  pub sound : 0 < reader → IsTimeline t

abbrev pub invariant-loop-reader : goal.invariant-loop-reader
invariant-loop-reader l = IsAsked l.timeline l.reader l.readers
