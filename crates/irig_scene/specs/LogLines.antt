-- What makes the lines of a log true.
-- Source: docs/OUTPUT.md, docs/HEADLINE.md.
use Rattle.std.specs.Prelude.{◌≡◌, ◌≢◌, ℕ, List, [], ◌∷◌, ◌++◌, codes, All, Some, None, ⊤}
use Rattle.irig_time.specs.declared.second.UtcSecond.{UtcSecond}
use Rattle.irig_time.specs.Timelines.{TimelineValue, second_at}
use Rattle.irig_time.specs.TextValues.{second_text}
use Rattle.irig_hold.specs.Truth.{IsTrueTable}
use Rattle.irig_device.specs.Lines.{Bytes}
use Rattle.irig_plant.specs.Schedule.{setup_at}
use Rattle.irig_plant.specs.Premises.{IsKeptUpTo}
use Rattle.report_log.specs.LogLines.{whole_lines, Shows}
use Rattle.irig_scene.specs.Scene.{Scene, meaning_of}

-- ---- true lines

-- the text is that of T(n)
pub record IsTimeOf (times : TimelineValue) (n : ℕ) (text : List ℕ) : Type 0 where
  pub second : UtcSecond
  pub is_true : second_at times n ≡ Some second
  pub written : text ≡ second_text second

-- if the line shows a time, it is that of T of its edge
abbrev pub IsTrueLine : Scene → List ℕ → Type 0
IsTrueLine x line =
    (r n : ℕ) (time : List ℕ) → Shows x.plan.names line r n time → time ≢ codes "-"
    → IsTimeOf x.plan.setup.times n time

-- the same under the premises of its reader up to its edge
abbrev pub IsTrueLineIfKept : Scene → List ℕ → Type 0
IsTrueLineIfKept x line =
    (r n : ℕ) (time : List ℕ) → Shows x.plan.names line r n time → time ≢ codes "-"
    → IsTrueTable x.plan.setup.times (setup_at x.plan.setup.readers r).table
    → IsKeptUpTo x.plan.setup r n x.events
    → IsTimeOf x.plan.setup.times n time

-- ---- what was written for some bytes

-- the headline: each whole line shows T of its edge, or none, if its reader's table is true and
-- its ports were kept up to that edge
abbrev pub TellsTruth : List ℕ → List ℕ → Type 0
TellsTruth x written =
    (scene : Scene) → (meaning_of x).scene ≡ Some scene
    → All (IsTrueLineIfKept scene) (whole_lines written)

-- the lines above the last are true, of the scene that the bytes mean
pub record IsTrueLog (x : List ℕ) (above : List (List ℕ)) : Type 0 where
  pub scene : Scene
  pub means : (meaning_of x).scene ≡ Some scene
  pub lines : All (IsTrueLine scene) above

-- a log vouches for itself: if its last whole line is `premises kept`, the lines above are true
abbrev pub VouchesForItself : List ℕ → List ℕ → Type 0
VouchesForItself x written =
    (above : List (List ℕ)) → whole_lines written ≡ above ++ codes "premises kept" ∷ []
    → IsTrueLog x above

-- a fact of what was written, if the writer tells its bytes
abbrev pub OfWritten : Bytes → Bytes → (List ℕ → Type 0) → Type 0
OfWritten (Some old) (Some new) fact = (written : List ℕ) → new ≡ old ++ written → fact written
OfWritten (Some old) None fact = ⊤
OfWritten None new fact = ⊤
