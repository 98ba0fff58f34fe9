-- A run of lines: its answer, how much of the input was read, by how much the output grew, and what
-- stands after it. `ends` says how a run of so many lines may end that leaves a scene, and `entries`
-- how many entries the log of a scene has.
-- Source: docs/OUTPUT.md; this project's profile.
use Rattle.std.specs.Prelude.{◌≡◌, ◌⊎◌, ℕ, Bool, false, List, [], ◌∷◌, ◌++◌, All, length, Option, Some, None, Result, Ok, Err, ⊤}
use Rattle.std.specs.Io.KnownBytes.{Appends, Consumes}
use Rattle.irig_device.specs.Lines.{Bytes, HasNoNewline}
use Rattle.irig_device.specs.Watched.{AppendsPart}
use Rattle.text_faults.specs.declared.refusal.Refusal.{Refusal}
use Rattle.report_log.specs.Text.{refusal_text}
use Rattle.report_run.specs.declared.fault.SceneFault.{SceneFault}
use Rattle.report_run.specs.declared.fault.SceneFault.TheVariants as fault
use Rattle.report_run.specs.declared.stop.Stop.{Stop}
use Rattle.report_run.specs.declared.stop.Stop.TheVariants.{Refused, Failed}
use Rattle.report_run.specs.Lines.{lines, unlines, is_blank, shown_by}
use Rattle.report_run.specs.Faults.{IsOfLine}
use Rattle.report_run.specs.Meanings.{Language, Step, step_of_next, step, Meaning, Refused as RefusedLine, refusal_at, meaning_from, meaning_of, AreTaken}
use Rattle.report_run.specs.Starts.{noted_at, starts_from}
use Rattle.report_run.specs.Texts.{Texts, first_of, text_of, meaning_text, whole_text}

-- ---- what stands

-- what plays, or nothing before the first line, stands as a scene leaves it
abbrev pub IsAt : {A S : Type 0} → (A → S → Type 0) → Option A → Option S → Type 0
IsAt stands_for None None = ⊤
IsAt stands_for None (Some x) = ⊥
IsAt stands_for (Some r) None = ⊥
IsAt stands_for (Some r) (Some x) = stands_for r x

-- ---- one line

-- the output grew by what the text of one scene has more than that of another, if the first line is
-- `first`
pub record TextMore {S : Type 0} (t : Texts S) (first : List ℕ) (from to : Option S)
    (old new : Bytes) : Type 0 where
  pub text : List ℕ
  pub more : text_of t first to ≡ text_of t first from ++ text
  pub wrote : Appends old new text

-- it grew by a prefix of that
pub record TextPart {S : Type 0} (t : Texts S) (first : List ℕ) (from to : Option S)
    (old new : Bytes) : Type 0 where
  pub text : List ℕ
  pub more : text_of t first to ≡ text_of t first from ++ text
  pub wrote : AppendsPart old new text

-- a line was taken that does this: its refusal, what stands after it, and what was written
pub record TookTo {A S : Type 0} (stands_for : A → S → Type 0) (t : Texts S) (step : Step S)
    (first : List ℕ) (from : Option S) (r : Option A) (refusal : Option Refusal)
    (old new : Bytes) : Type 0 where
  pub refused : step.refusal ≡ refusal
  pub stands : IsAt stands_for r step.scene
  pub grew : TextMore t first from step.scene old new

-- it was taken, or refused, or something failed in the midst of it
abbrev pub Took : {A S : Type 0} → (A → S → Type 0) → Texts S → Result (Unit {0}) Stop → Step S
    → List ℕ → Option S → Option A → Bytes → Bytes → Type 0
Took stands_for t (Ok done) step first from r old new =
    TookTo stands_for t step first from r None old new
Took stands_for t (Err (Refused k)) step first from r old new =
    TookTo stands_for t step first from r (Some k) old new
Took stands_for t (Err (Failed failure)) step first from r old new =
    TextPart t first from step.scene old new

-- before anything has begun, a line that is not blank is the first
abbrev pub IsFirst : {S : Type 0} → Option S → List ℕ → List ℕ → Type 0
IsFirst (Some x) line first = ⊤
IsFirst None line first = is_blank line ≡ false → first ≡ line

-- line n, whatever scene it comes after
abbrev pub TakesLine : {A S : Type 0} → Language S → (A → S → Type 0) → Texts S → Option A → ℕ
    → List ℕ → Result (Unit {0}) Stop → Option A → Bytes → Bytes → Type 0
TakesLine {A} {S} lang stands_for t was n line result is old new =
    (at : Option S) (first : List ℕ) → IsAt stands_for was at → IsFirst at line first
    → Took stands_for t result (step lang n at line) first at is old new

-- a line that isn't skipped, once something has begun
abbrev pub TakesNext : {A S : Type 0} → Language S → (A → S → Type 0) → Texts S → A → List ℕ
    → Result (Unit {0}) Stop → A → Bytes → Bytes → Type 0
TakesNext {A} {S} lang stands_for t was line result is old new =
    (x : S) (first : List ℕ) → stands_for was x
    → Took stands_for t result (step_of_next (lang.next x line)) first (Some x) (Some is) old new

-- the first line gives what plays, and what is said of the line is written, if there is memory and
-- the output takes it
abbrev pub Begins : {A S : Type 0} → Language S → (A → S → Type 0) → Texts S → List ℕ
    → Result A Stop → Bytes → Bytes → Type 0
Begins {A} {S} lang stands_for t line (Ok r) old new =
    (x : S) × (lang.begin line ≡ Ok x) × (t.said x ≡ []) × stands_for r x
    × Appends old new (t.first line)
Begins lang stands_for t line (Err (Refused k)) old new =
    (lang.begin line ≡ Err k) × Appends old new []
Begins {A} {S} lang stands_for t line (Err (Failed f)) old new =
    ((x : S) × (lang.begin line ≡ Ok x) × (t.said x ≡ []) × AppendsPart old new (t.first line))
    ⊎ Appends old new []

-- ---- the rest of a run

-- without a refusal, by so many lines
pub record IsDone {S O : Type 0} (ends : S → ℕ → O → Type 0) (m : Meaning S) (count : ℕ) (o : O)
    : Type 0 where
  pub accepted : m.refused ≡ None
  pub scene : S
  pub left : m.scene ≡ Some scene
  pub ended : ends scene count o

-- with this refusal of this line
abbrev pub IsRefused : {S : Type 0} → Meaning S → ℕ → Refusal → Type 0
IsRefused m line refusal = m.refused ≡ Some (refusal_at line refusal)

-- a line was refused, and what is open was written and that, or a prefix of it
abbrev pub WroteStop : SceneFault → ℕ → Refusal → List ℕ → Bytes → Bytes → Type 0
WroteStop (fault.Refused line refusal) n k closing old new =
    (line ≡ n) × (refusal ≡ k) × Appends old new (closing ++ refusal_text n k)
WroteStop fault.Read n k closing old new = ⊥
WroteStop fault.Write n k closing old new = AppendsPart old new (closing ++ refusal_text n k)
WroteStop fault.Memory n k closing old new = AppendsPart old new (closing ++ refusal_text n k)

-- what was still to be written, if the text of a scene stands already
pub record WroteRest {S : Type 0} (t : Texts S) (first : List ℕ) (from : Option S) (m : Meaning S)
    (old new : Bytes) : Type 0 where
  pub rest : List ℕ
  pub is : meaning_text t first m ≡ text_of t first from ++ rest
  pub wrote : Appends old new rest

-- of what was still to be written a prefix
pub record WrotePart {S : Type 0} (t : Texts S) (first : List ℕ) (from : Option S) (m : Meaning S)
    (old new : Bytes) : Type 0 where
  pub rest : List ℕ
  pub is : meaning_text t first m ≡ text_of t first from ++ rest
  pub wrote : AppendsPart old new rest

-- an answer for lines that mean this, so many with those before
abbrev pub RestFor : {S O : Type 0} → (S → ℕ → O → Type 0) → Texts S → Result O SceneFault
    → Meaning S → ℕ → List ℕ → Option S → Bytes → Bytes → Type 0
RestFor ends t (Ok o) m count first from old new =
    IsDone ends m count o × WroteRest t first from m old new
RestFor ends t (Err (fault.Refused line refusal)) m count first from old new =
    IsRefused m line refusal × WroteRest t first from m old new
RestFor ends t (Err fault.Read) m count first from old new = ⊥
RestFor ends t (Err fault.Write) m count first from old new = WrotePart t first from m old new
RestFor ends t (Err fault.Memory) m count first from old new = WrotePart t first from m old new

-- line n ended the run so, whatever comes after it
pub record EndsFor {S O : Type 0} (lang : Language S) (ends : S → ℕ → O → Type 0) (t : Texts S)
    (e : SceneFault) (n : ℕ) (line first : List ℕ) (at : Option S) (old new : Bytes)
    : Type 0 where
  pub numbered : IsOfLine n e
  pub ran : (ls : List (List ℕ)) (count : ℕ)
      → RestFor ends t (Err e) (meaning_from lang (line ∷ ls) n at) count first at old new

-- a run of lines from number n on, after some scene, came to its end: what stands then, and what was
-- noted of them, and at most once more behind them
pub record HasHeard {A S : Type 0} (lang : Language S) (entries : S → ℕ) (stands_for : A → S → Type 0)
    (counts : Bool) (r : Option A) (notes : List ℕ) (ls : List (List ℕ)) (n : ℕ) (at : Option S)
    : Type 0 where
  pub stands : IsAt stands_for r (meaning_from lang ls n at).scene
  pub more : List ℕ
  pub noted : notes ≡ starts_from lang entries counts ls n at ++ more
  pub last : (more ≡ []) ⊎ (more ≡ noted_at entries counts (meaning_from lang ls n at).scene)

-- so unless something failed
abbrev pub HeardFor : {A S O : Type 0} → Language S → (S → ℕ) → (A → S → Type 0) → Bool
    → Result O SceneFault → Option A → List ℕ → List (List ℕ) → ℕ → Option S → Type 0
HeardFor lang entries stands_for counts (Ok o) r notes ls n at =
    HasHeard lang entries stands_for counts r notes ls n at
HeardFor lang entries stands_for counts (Err (fault.Refused line refusal)) r notes ls n at =
    HasHeard lang entries stands_for counts r notes ls n at
HeardFor lang entries stands_for counts (Err fault.Read) r notes ls n at = ⊤
HeardFor lang entries stands_for counts (Err fault.Write) r notes ls n at = ⊤
HeardFor lang entries stands_for counts (Err fault.Memory) r notes ls n at = ⊤

-- what stands after a line that was refused
pub record LeftBy {A S : Type 0} (stands_for : A → S → Type 0) (r : Option A) (step : Step S)
    : Type 0 where
  pub refusal : Refusal
  pub refused : step.refusal ≡ Some refusal
  pub stands : IsAt stands_for r step.scene

-- so if a refusal ended the run
abbrev pub LeavesFor : {A S : Type 0} → (A → S → Type 0) → SceneFault → Option A → Step S → Type 0
LeavesFor stands_for (fault.Refused line refusal) r step = LeftBy stands_for r step
LeavesFor stands_for fault.Read r step = ⊤
LeavesFor stands_for fault.Write r step = ⊤
LeavesFor stands_for fault.Memory r step = ⊤

-- a line was taken, or it ended the run
abbrev pub RunsLine : {A S O : Type 0} → Language S → (S → ℕ → O → Type 0) → (A → S → Type 0)
    → Texts S → Option A → ℕ → List ℕ → Result (Unit {0}) SceneFault → Option A → Bytes → Bytes
    → Type 0
RunsLine {A} {S} lang ends stands_for t was n line (Ok done) is old new =
    (at : Option S) (first : List ℕ) → IsAt stands_for was at → IsFirst at line first
    → TookTo stands_for t (step lang n at line) first at is None old new
RunsLine {A} {S} lang ends stands_for t was n line (Err e) is old new =
    (at : Option S) (first : List ℕ) → IsAt stands_for was at → IsFirst at line first
    → EndsFor lang ends t e n line first at old new

-- ---- all lines

-- what is said of some lines and all that they mean, with the first among them
abbrev pub text_so_far : {S : Type 0} → Language S → Texts S → List (List ℕ) → List ℕ
text_so_far lang t ls = text_of t (first_of ls) (meaning_of lang (unlines ls)).scene

-- bytes of one line, with its newline or without
pub record IsOfOneLine (part : List ℕ) : Type 0 where
  pub line : List ℕ
  pub unlined : HasNoNewline line
  pub is : (part ≡ line) ⊎ (part ≡ line ++ 10 ∷ [])

-- after a failed read: the whole lines of x before the failure, none of which is refused, and what
-- is said of what they mean
pub record StoppedReading {S : Type 0} (lang : Language S) (t : Texts S) (x : List ℕ)
    (was left old new : Bytes) : Type 0 where
  pub whole : List (List ℕ)
  pub part : List ℕ
  pub rest : List ℕ
  pub lined : All HasNoNewline whole
  pub taken : AreTaken lang whole 1 None
  pub unlined : HasNoNewline part
  pub of_bytes : x ≡ (unlines whole ++ part) ++ rest
  pub read : Consumes was left (unlines whole ++ part)
  pub wrote : Appends old new (text_so_far lang t whole)

-- stopped in a line of x that is in hand: none before it is refused, nothing after it was read, and
-- what is said of what the lines before it mean was written whole
pub record StoppedInLine {S : Type 0} (lang : Language S) (t : Texts S) (x : List ℕ)
    (was left old new : Bytes) : Type 0 where
  pub whole : List (List ℕ)
  pub part : List ℕ
  pub rest : List ℕ
  pub lined : All HasNoNewline whole
  pub taken : AreTaken lang whole 1 None
  pub in_hand : IsOfOneLine part
  pub of_bytes : x ≡ (unlines whole ++ part) ++ rest
  pub read : Consumes was left (unlines whole ++ part)
  pub more : List ℕ
  pub wrote : Appends old new (text_so_far lang t whole ++ more)

-- what is read of the bytes x: all of them, or, if a line is refused, what shows that
abbrev pub read_of : Option RefusedLine → List ℕ → List ℕ
read_of None x = x
read_of (Some k) x = shown_by k.line x

-- the bytes are those that the input had left, if it tells them
abbrev pub AreBytesOf : Bytes → List ℕ → Type 0
AreBytesOf None x = ⊤
AreBytesOf (Some known) x = x ≡ known

-- the answer for the input x: what it says, what was read, and what was written
abbrev pub RunFor : {S O : Type 0} → Language S → (S → ℕ → O → Type 0) → Texts S
    → Result O SceneFault → List ℕ → Bytes → Bytes → Bytes → Bytes → Type 0
RunFor lang ends t (Ok o) x was left old new =
    Appends old new (whole_text lang t x)
    × IsDone ends (meaning_of lang x) (length (lines x)) o
    × Consumes was left (read_of (meaning_of lang x).refused x)
RunFor lang ends t (Err (fault.Refused line refusal)) x was left old new =
    Appends old new (whole_text lang t x) × IsRefused (meaning_of lang x) line refusal
    × Consumes was left (read_of (meaning_of lang x).refused x)
RunFor lang ends t (Err fault.Read) x was left old new =
    AppendsPart old new (whole_text lang t x) × StoppedReading lang t x was left old new
RunFor lang ends t (Err fault.Write) x was left old new =
    AppendsPart old new (whole_text lang t x) × StoppedInLine lang t x was left old new
RunFor lang ends t (Err fault.Memory) x was left old new =
    AppendsPart old new (whole_text lang t x) × StoppedInLine lang t x was left old new

-- for the bytes of the input, and if it does not tell them, for some; and what stands after them
pub record RanTo {A S O : Type 0} (lang : Language S) (ends : S → ℕ → O → Type 0)
    (entries : S → ℕ) (stands_for : A → S → Type 0) (counts : Bool) (t : Texts S) (r : Result O SceneFault)
    (player : Option A) (notes : List ℕ) (was left old new : Bytes) : Type 0 where
  pub bytes : List ℕ
  pub of_input : AreBytesOf was bytes
  pub ran : RunFor lang ends t r bytes was left old new
  pub heard : HeardFor lang entries stands_for counts r player notes (lines bytes) 1 None
