-- What a log with port lines vouches for line by line, whatever its last line says.
-- Source: docs/OUTPUT.md, what each port told.
use Rattle.std.specs.Prelude.{◌≡◌, ℕ, false, List, ◌∷◌, ◌++◌}
use Rattle.irig_time.specs.Timelines.{TimelineValue}
use Rattle.report_log.specs.LogLines.{whole_lines}
use Rattle.report_log.specs.PortWords.{ShowsVoted, ShowsWords, has_false_majority}
use Rattle.irig_scene.specs.LogLines.{IsTimeOf}
use Rattle.irig_scene.specs.VouchedLines.{IsPlantLineOf}

-- if a line shows a time by a vote, and the next one what the ports of this reader told at this
-- edge, it is that of T of this edge, unless more than half of them told one and the same untrue
-- claim
abbrev pub ShowsTruthByPorts : List (List ℕ) → TimelineValue → List ℕ → List ℕ → Type 0
ShowsTruthByPorts names times line next =
    (r n : ℕ) (time : List ℕ) (words : List (List ℕ)) → ShowsVoted names line r n time
    → ShowsWords names next r n words → has_false_majority words ≡ false → IsTimeOf times n time

-- so of these two lines, by the plant line of the bytes
pub record IsTrueByPorts (x : List ℕ) (line next : List ℕ) : Type 0 where
  pub names : List (List ℕ)
  pub times : TimelineValue
  pub plant : IsPlantLineOf x names times
  pub shown : ShowsTruthByPorts names times line next

-- each whole line behind which one stands that begins with a blank (32) is true by that one,
-- whatever the last line says, and whether there is one
abbrev pub VouchesByPorts : List ℕ → List ℕ → Type 0
VouchesByPorts x written =
    (above later : List (List ℕ)) (line words : List ℕ)
    → whole_lines written ≡ above ++ line ∷ (32 ∷ words) ∷ later
    → IsTrueByPorts x line (32 ∷ words)
