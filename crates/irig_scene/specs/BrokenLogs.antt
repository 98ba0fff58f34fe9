-- What a log vouches for whose premises broke: up to the edge that its last line names.
-- Source: docs/OUTPUT.md, docs/HEADLINE.md.
use Rattle.std.specs.Prelude.{◌≡◌, ◌≢◌, ℕ, ◌^◌, ◌<◌, List, [], ◌∷◌, ◌++◌, length, codes, All}
use Rattle.irig_time.specs.Timelines.{TimelineValue}
use Rattle.report_log.specs.Text.{name_at}
use Rattle.report_log.specs.LogLines.{whole_lines, Shows, broken_line}
use Rattle.irig_scene.specs.LogLines.{IsTimeOf}
use Rattle.irig_scene.specs.VouchedLines.{IsPlantLineOf, ShowsTruth}

-- if the line shows a time for an edge of this reader before this one, it is that of T of its edge
abbrev pub ShowsTruthBefore : List (List ℕ) → TimelineValue → ℕ → ℕ → List ℕ → Type 0
ShowsTruthBefore names times reader edge line =
    (n : ℕ) (time : List ℕ) → n < edge → Shows names line reader n time → time ≢ codes "-"
    → IsTimeOf times n time

-- the reader of this name is the one whose edge broke the premises, by the plant line of the bytes
pub record AreTrueUntil (x : List ℕ) (edge : ℕ) (name : List ℕ) (above : List (List ℕ))
    : Type 0 where
  pub names : List (List ℕ)
  pub times : TimelineValue
  pub plant : IsPlantLineOf x names times
  pub reader : ℕ
  pub known : reader < length names
  pub named : name ≡ name_at names reader
  -- each line of that reader is true that shows an edge before this one
  pub own : All (ShowsTruthBefore names times reader edge) above
  -- each line of any reader is true that stands before the one of this edge
  pub before : (earlier later : List (List ℕ)) (line time : List ℕ)
      → above ≡ earlier ++ line ∷ later → Shows names line reader edge time
      → All (ShowsTruth names times) earlier

-- a broken log vouches too: if its last whole line names an edge and a reader, the lines above are
-- true until then
abbrev pub VouchesUntilBroken : List ℕ → List ℕ → Type 0
VouchesUntilBroken x written =
    (edge : ℕ) (name : List ℕ) (above : List (List ℕ)) → edge < 2 ^ 64
    → whole_lines written ≡ above ++ broken_line edge name ∷ [] → AreTrueUntil x edge name above
