-- A book of readers' ticks: what stands after an event, and what a run finds.
use Rattle.std.specs.Prelude.{◌≡◌, ℕ, false, List, [], length, Option, Some, None, Result, Ok, Err}
use Rattle.report_run.specs.declared.fault.SceneFault.{SceneFault}
use Rattle.report_run.specs.declared.fault.SceneFault.TheVariants as fault
use Rattle.report_run.specs.Lines.{lines}
use Rattle.report_run.specs.Runs.{IsDone, IsRefused}
use Rattle.irig_scene.specs.Scene.{Scene}
use Rattle.irig_scene.specs.Texts.{no_texts}
use Rattle.irig_station_scene.specs.StationTexts.{quiet_texts}
use Rattle.irig_scenario.specs.declared.listen.ScenarioRun.{ScenarioRun}
use Rattle.irig_scenario.specs.AnyScenario.{AnyEnds, HasHeard, any_meaning, any_texts}
use Rattle.irig_scenario.specs.Scenarios.{ScenarioEnd}
use Rattle.report_found.specs.declared.book.Book.{Book}
use Rattle.report_found.specs.declared.finder.Finder.{Finder}
use Rattle.report_found.specs.declared.finding.Finding.{Finding}
use Rattle.report_found.specs.Books.{IsBookOf}
use Rattle.report_found.specs.DeviceRuns.{IsFinderAtStation}
use Rattle.report_found.specs.Scenes.{all_ended, found_of}

-- ---- what stands after an event

-- a book has the ticks of a scene's readers
pub record IsBookAt (b : Book) (x : Scene) : Type 0 where
  pub book : IsBookOf b x.plan.setup x.events
  pub ports : b.ports ≡ length x.plan.setup.generators

-- and all that ended is kept
pub record IsFinderAt (f : Finder) (x : Scene) : Type 0 where
  pub book : IsBookAt f.book x
  pub found : f.findings.items ≡ all_ended x.plan.setup x.events

-- ---- what a run finds

-- a run of the text that keeps all that ended
pub record HasFound (text : List ℕ) (run : ScenarioRun Finder Finder) : Type 0 where
  pub left : Option (List ℕ)
  pub wrote : List ℕ
  pub heard : HasHeard IsFinderAt IsFinderAtStation false (any_texts no_texts quiet_texts) run.answer
      run.listener (Some text) left (Some []) (Some wrote)

-- the answer and all that is found in the bytes x; nothing if the run failed
abbrev pub FoundIn : Result ScenarioEnd SceneFault → List Finding → List ℕ → Type 0
FoundIn (Ok o) found x =
    IsDone AnyEnds (any_meaning x) (length (lines x)) o × (found ≡ found_of x)
FoundIn (Err (fault.Refused line refusal)) found x =
    IsRefused (any_meaning x) line refusal × (found ≡ found_of x)
FoundIn (Err fault.Read) found x = found ≡ []
FoundIn (Err fault.Write) found x = found ≡ []
FoundIn (Err fault.Memory) found x = found ≡ []
