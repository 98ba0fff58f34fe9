-- A run that writes the log: its answer, how much of the input was read, and by how much the output
-- grew.
-- Source: docs/OUTPUT.md; this project's profile.
use Rattle.std.specs.Prelude.{◌≡◌, ℕ, Bool, List, ◌++◌, length, None, Result, Ok, Err, All}
use Rattle.std.specs.Io.KnownBytes.{Appends, Consumes}
use Rattle.irig_device.specs.Watched.{AppendsPart}
use Rattle.irig_device.specs.Lines.{Bytes, HasNoNewline}
use Rattle.report_log.specs.declared.shown.Shown.{Shown}
use Rattle.report_log.specs.Text.{entries_alone}
use Rattle.report_run.specs.declared.fault.SceneFault.{SceneFault}
use Rattle.report_run.specs.declared.fault.SceneFault.TheVariants.{Refused, Read, Write, Memory}
use Rattle.report_run.specs.Lines.{lines, unlines}
use Rattle.report_run.specs.Meanings.{Meaning, AreTaken}
use Rattle.report_run.specs.Runs.{IsDone as IsDoneBy, IsRefused, IsOfOneLine, AreBytesOf, read_of}
use Rattle.irig_scene.specs.declared.outcome.Outcome.{Outcome}
use Rattle.irig_scene.specs.Scene.{Scene, scenario, meaning_of, log_text, output_shown, audit_in}

-- ---- the whole run

-- by so many lines, and with the audit of this scene's events
pub record Ends (x : Scene) (count : ℕ) (o : Outcome) : Type 0 where
  pub lines : o.lines ≡ count
  pub audit : o.audit ≡ audit_in x

-- without a refusal, so
abbrev pub IsDone : Meaning Scene → ℕ → Outcome → Type 0
IsDone m count o = IsDoneBy Ends m count o

-- after a failed read: the whole lines of x before the failure, none of which is refused, and the
-- log of what they mean
pub record StoppedReading (x : List ℕ) (shown : Shown) (was left old new : Bytes) : Type 0 where
  pub whole : List (List ℕ)
  pub part : List ℕ
  pub rest : List ℕ
  pub lined : All HasNoNewline whole
  pub taken : AreTaken scenario whole 1 None
  pub unlined : HasNoNewline part
  pub of_bytes : x ≡ (unlines whole ++ part) ++ rest
  pub read : Consumes was left (unlines whole ++ part)
  pub wrote : Appends old new (log_text shown (meaning_of (unlines whole)).scene)

-- stopped in a line of x that is in hand: none before it is refused, nothing after it was read, and
-- the log of what the lines before it mean was written whole
pub record StoppedInLine (x : List ℕ) (shown : Shown) (was left old new : Bytes) : Type 0 where
  pub whole : List (List ℕ)
  pub part : List ℕ
  pub rest : List ℕ
  pub lined : All HasNoNewline whole
  pub taken : AreTaken scenario whole 1 None
  pub in_hand : IsOfOneLine part
  pub of_bytes : x ≡ (unlines whole ++ part) ++ rest
  pub read : Consumes was left (unlines whole ++ part)
  pub more : List ℕ
  pub wrote : Appends old new (log_text shown (meaning_of (unlines whole)).scene ++ more)

-- the answer for the input x: what it says, what was read, and what was written
abbrev pub RanOn : Result Outcome SceneFault → List ℕ → Shown → Bytes → Bytes → Bytes → Bytes
    → Type 0
RanOn (Ok o) x shown was left old new =
    Appends old new (output_shown x shown) × IsDone (meaning_of x) (length (lines x)) o
    × Consumes was left (read_of (meaning_of x).refused x)
RanOn (Err (Refused line refusal)) x shown was left old new =
    Appends old new (output_shown x shown) × IsRefused (meaning_of x) line refusal
    × Consumes was left (read_of (meaning_of x).refused x)
RanOn (Err Read) x shown was left old new =
    AppendsPart old new (output_shown x shown) × StoppedReading x shown was left old new
RanOn (Err Write) x shown was left old new =
    AppendsPart old new (output_shown x shown) × StoppedInLine x shown was left old new
RanOn (Err Memory) x shown was left old new =
    AppendsPart old new (output_shown x shown) × StoppedInLine x shown was left old new

-- a run of some bytes: those of the input, and if it does not tell them, some for which this is
-- the answer
pub record RanShown (r : Result Outcome SceneFault) (shown : Shown) (was left old new : Bytes)
    : Type 0 where
  pub bytes : List ℕ
  pub of_input : AreBytesOf was bytes
  pub ran : RanOn r bytes shown was left old new

-- so of entries alone, the silent ones too if `all`
abbrev pub Ran : Result Outcome SceneFault → Bool → Bytes → Bytes → Bytes → Bytes → Type 0
Ran r all was left old new = RanShown r (entries_alone all) was left old new
