-- Bytes of a plant line and whole seconds, and what their log shows.
-- Source: docs/SCENARIOS.md, whole seconds; docs/OUTPUT.md.
use Rattle.std.specs.Prelude.{◌≡◌, ℕ, ◌+◌, ◌≤◌, ◌⊎◌, true, is_some, List, [], ◌∷◌, length, All, Ok}
use Rattle.std.specs.List.{Contains}
use Rattle.irig_time.specs.Timelines.{second_at}
use Rattle.irig_plant.specs.Premises.{HasTrueTable}
use Rattle.scenario_line.specs.declared.event_line.Command.TheVariants.{Seconds}
use Rattle.scenario_line.specs.EventLine.{command_in_line}
use Rattle.scenario_line.specs.PlantLine.{Plan, plan_in_line}
use Rattle.report_run.specs.Lines.{lines, is_blank, max_line, max_lines}
use Rattle.report_log.specs.LogLines.{Shows}
use Rattle.irig_scene.specs.LogLines.{IsTimeOf}

-- the lines ask for n whole seconds in all, and for nothing else: each is blank, and skipped, or
-- asks for k of them, and the rest for m
abbrev pub AskSeconds : List (List ℕ) → List (List ℕ) → ℕ → Type 0
AskSeconds names [] n = n ≡ 0
AskSeconds names (l ∷ ls) n =
    ((is_blank l ≡ true) × AskSeconds names ls n)
    ⊎ ((k m : ℕ) × (command_in_line names l ≡ Ok (Seconds k)) × AskSeconds names ls m
    × (n ≡ k + m))

-- a plant line, and then lines of n whole seconds in all, within the limits of lines
pub record IsOfSeconds (x : List ℕ) (plan : Plan) (n : ℕ) : Type 0 where
  pub line : List ℕ
  pub more : List (List ℕ)
  pub are : lines x ≡ line ∷ more
  pub few : length (line ∷ more) ≤ max_lines
  pub short : All (λ l. length l ≤ max_line) (line ∷ more)
  pub plant : plan_in_line line ≡ Ok plan
  pub seconds : AskSeconds plan.names more n

-- n seconds that the timeline has, of readers whose tables are true
pub record IsHealthyRun (x : List ℕ) (plan : Plan) (n : ℕ) : Type 0 where
  pub bytes : IsOfSeconds x plan n
  pub second : is_some (second_at plan.setup.times n) ≡ true
  pub tables : All (HasTrueTable plan.setup.times) plan.setup.readers

-- one of the lines shows T of this edge for this reader
pub record HasTimeLine (plan : Plan) (ls : List (List ℕ)) (reader edge : ℕ) : Type 0 where
  pub line : List ℕ
  pub stands : Contains ls line
  pub time : List ℕ
  pub shows : Shows plan.names line reader edge time
  pub is_true : IsTimeOf plan.setup.times edge time
