-- What a log vouches for, by its plant line alone.
-- Source: docs/OUTPUT.md, docs/HEADLINE.md.
use Rattle.std.specs.Prelude.{◌≡◌, ◌≢◌, ℕ, List, [], ◌∷◌, ◌++◌, codes, not, All, Option, Some}
use Rattle.std.specs.List.{find}
use Rattle.irig_time.specs.Timelines.{TimelineValue}
use Rattle.scenario_line.specs.NamesAndTimes.{HasNamesAndTimes}
use Rattle.report_log.specs.LogLines.{whole_lines, Shows}
use Rattle.report_run.specs.Lines.{lines, is_blank}
use Rattle.irig_scene.specs.LogLines.{IsTimeOf}

-- ---- the plant line

-- the first line that is not blank
abbrev pub plant_line_of : List ℕ → Option (List ℕ)
plant_line_of x = find (λ line. not (is_blank line)) (lines x)

-- what the plant line of some bytes says of their readers' names and of their timeline
pub record IsPlantLineOf (x : List ℕ) (names : List (List ℕ)) (times : TimelineValue) : Type 0 where
  pub line : List ℕ
  pub first : plant_line_of x ≡ Some line
  pub says : HasNamesAndTimes line names times

-- ---- true lines

-- if the line shows a time, it is that of T of its edge
abbrev pub ShowsTruth : List (List ℕ) → TimelineValue → List ℕ → Type 0
ShowsTruth names times line =
    (r n : ℕ) (time : List ℕ) → Shows names line r n time → time ≢ codes "-"
    → IsTimeOf times n time

-- the lines are true, by the plant line of the bytes
pub record AreTrueOf (x : List ℕ) (above : List (List ℕ)) : Type 0 where
  pub names : List (List ℕ)
  pub times : TimelineValue
  pub plant : IsPlantLineOf x names times
  pub lines : All (ShowsTruth names times) above

-- a log vouches for itself: if its last whole line is `premises kept`, the lines above are true
abbrev pub VouchesByPlantLine : List ℕ → List ℕ → Type 0
VouchesByPlantLine x written =
    (above : List (List ℕ)) → whole_lines written ≡ above ++ codes "premises kept" ∷ []
    → AreTrueOf x above
