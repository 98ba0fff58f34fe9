-- What is done for a request.
-- Source: docs/irig.1, the commands; the exit statuses are those of Status.antt.
use Rattle.std.specs.Prelude.{◌≡◌, ◌≢◌, ℕ, ◌≤◌, ◌↔◌, ◌⊎◌, Bool, false, true, IsTrue, IsFalse, ⊤, List, Option, IfSome, Result, Ok, Err, string_bytes}
use Rattle.std.specs.Io.KnownBytes.{Appends, IsAtEnd, Keeps}
use Rattle.std.specs.declared.io.Error.{Error}
use Rattle.irig_device.specs.Lines.{Bytes}
use Rattle.irig_device.specs.Watched.{AppendsPart}
use Rattle.irig_time.specs.declared.rules.Rules.{Rules}
use Rattle.text_frame.specs.declared.frame.FrameOptions.{FrameOptions}
use Rattle.text_frame.specs.Frame.{NamesNoSecond, ShowsFrameOf}
use Rattle.text_frame.specs.Letters.{ShowsNoSymbols}
use Rattle.text_frame.specs.Reading.{IsReadingOf}
use Rattle.report_run.specs.declared.fault.SceneFault.{SceneFault}
use Rattle.report_log.specs.declared.shown.Shown.{Shown}
use Rattle.irig_scenario.specs.Scenarios.{RanScenario}
use Rattle.report_flat.specs.Flattening.{RanEither, WroteTheLog}
use Rattle.report_blame.specs.Blaming.{RanBlame}
use Rattle.report_judge.specs.declared.fault.JudgeFault.{JudgeFault}
use Rattle.report_judge.specs.declared.fault.JudgeFault.TheVariants as judging
use Rattle.report_judge.specs.declared.hearing.Judged.{Judged}
use Rattle.report_judge.specs.declared.asked.Asked.{Asked}
use Rattle.report_judge.specs.Channels.{channel_bytes}
use Rattle.report_judge.specs.Readings.{JudgedWhole, RefusedBy}
use Rattle.report_judge.specs.Records.{JudgedRecord, RecordRefused}
use Rattle.report_judge.specs.Singles.{JudgedSingle, SingleRefused}
use Rattle.cli_words.specs.declared.request.Judging.{Judging}
use Rattle.cli_words.specs.declared.request.Request.{Request}
use Rattle.cli_words.specs.declared.request.Request.TheVariants.{Plain, Play, Judge, Frame, Read, Explain}
use Rattle.cli_words.specs.declared.request.Source.{Source}
use Rattle.cli_words.specs.declared.request.Source.TheVariants.{Input, File}
use Rattle.cli_words.specs.declared.request.Wanted.{Wanted}
use Rattle.cli_words.specs.declared.request.Wanted.TheVariants.{Log, Flat, Blame}
use Rattle.cli_words.specs.declared.request.NoRequest.{NoRequest}
use Rattle.cli_words.specs.declared.request.NoRequest.TheVariants as none
use Rattle.irig_main.specs.declared.fault.Fault.{Fault}
use Rattle.irig_main.specs.declared.fault.Fault.TheVariants as fault
use Rattle.irig_main.specs.declared.path.Ending.{Ending}
use Rattle.irig_main.specs.declared.path.Ending.TheVariants.{Configuration, Samples, Single, Other}
use Rattle.irig_main.specs.Paths.{ending_of}
use Rattle.irig_main.specs.Status.{ended, fault_of_judging, result_of, status_of_answer}

-- what the program answers
abbrev pub Answer : Type 0
Answer = Result (Unit {0}) Fault

-- this fault, before anything was written
abbrev pub Refuses : Fault → Answer → Bytes → Bytes → Type 0
Refuses f answer old new = (answer ≡ Err f) × Keeps old new

-- the whole text was written, or a prefix of it before the output failed
abbrev pub Wrote : List ℕ → Answer → Bytes → Bytes → Type 0
Wrote text (Ok done) old new = Appends old new text
Wrote text (Err f) old new = (f ≡ fault.Write) × AppendsPart old new text

-- ---- each request

-- what is shown in a log
abbrev pub shown : Bool → Bool → Shown
shown all ports = record { all = all; ports = ports }

-- without options a log shows announcements alone
abbrev pub plain_log : Wanted
plain_log = Log false false

-- a run ended so, and of its answer this holds
abbrev pub EndedWith : {O : Type 0} → Result (Unit {0}) SceneFault
    → (Result O SceneFault → Type 0) → Type 0
EndedWith {O} run Holds = (answer : Result O SceneFault) × (run ≡ ended answer) × Holds answer

-- what is wanted of a scenario was written: its log; what its readers hear, as a scenario that has
-- the same log, or what its devices hear; or who lied in it
abbrev pub Writes : Wanted → Result (Unit {0}) SceneFault → Bytes → Bytes → Bytes → Bytes → Type 0
Writes (Log all ports) run input left old new =
    EndedWith run (λ answer. RanScenario (shown all ports) answer input left old new)
Writes Flat run input left old new =
    EndedWith run (λ answer. WroteTheLog answer input old new × RanEither answer input left old new)
Writes (Blame lines) run input left old new =
    EndedWith run (λ answer. RanBlame lines.now answer input left old new)

-- the scenario on an input was played, of which `left` is left
pub record PlaysScene (wanted : Wanted) (answer : Answer) (input left old new : Bytes)
    : Type 0 where
  pub run : Result (Unit {0}) SceneFault
  pub answered : answer ≡ result_of run
  pub wrote : Writes wanted run input left old new

-- the bytes are those that some file has to give
abbrev pub AreOfFile : {F : Type 0} → (F → Bytes) → Bytes → Type 0
AreOfFile {F} remaining bytes = (file : F) × (bytes ≡ remaining file)

-- so of what a file gives; or it can't be opened, or there is no memory for it
abbrev pub PlaysFile : {F : Type 0} → (F → Bytes) → Wanted → Answer → Bytes → Bytes → Type 0
PlaysFile remaining wanted answer old new =
    ((input left : Bytes) × AreOfFile remaining input
    × PlaysScene wanted answer input left old new)
    ⊎ (((error : Error) × Refuses (fault.Open error) answer old new)
    ⊎ Refuses fault.Memory answer old new)

-- so of the scenario on the input or in a file
abbrev pub Plays : {F : Type 0} → (F → Bytes) → Wanted → Source → Answer → Bytes → Bytes → Bytes
    → Bytes → Type 0
Plays remaining wanted Input answer input left old new =
    PlaysScene wanted answer input left old new
Plays remaining wanted (File path) answer input left old new =
    PlaysFile remaining wanted answer old new

-- the verdict on a recording was written, and is the answer if it decides nothing; or a prefix of it
-- before the output failed
abbrev pub ShowsJudged : Judged → Answer → Bytes → Bytes → Type 0
ShowsJudged judged (Ok done) old new = IsTrue judged.is_decided × Appends old new (string_bytes judged.text)
ShowsJudged judged (Err f) old new =
    ((f ≡ fault.Undecided) × IsFalse judged.is_decided × Appends old new (string_bytes judged.text))
    ⊎ ((f ≡ fault.Write) × AppendsPart old new (string_bytes judged.text))

-- how a recording is judged that is asked for so
abbrev pub asked_of : Judging → Asked
asked_of asked = record {
  channels = asked.channels;
  glitch_us = asked.glitch_us;
  rules = asked.rules;
  zone = asked.zone;
  threshold = asked.threshold;
  as_json = asked.as_json;
}

-- the recording on an input was judged to its end, or refused for what it says
abbrev pub JudgedRecording : Asked → Result Judged JudgeFault → Bytes → Bytes → Type 0
JudgedRecording asked (Ok judged) input left =
    IfSome input (λ text. JudgedWhole asked text judged) × IfSome input (λ text. IsAtEnd left)
JudgedRecording asked (Err f) input left =
    f ≢ judging.Read → IfSome input (λ text. RefusedBy asked text f)

-- a recording was judged, or why it was not is the answer, and then nothing is written
abbrev pub ShowsJudging : Result Judged JudgeFault → Answer → Bytes → Bytes → Type 0
ShowsJudging (Ok judged) answer old new = ShowsJudged judged answer old new
ShowsJudging (Err f) answer old new = Refuses (fault_of_judging f) answer old new

-- the recording on an input was judged so, of which `left` is left
pub record JudgesRecording (asked : Judging) (answer : Answer) (input left old new : Bytes) : Type 0 where
  pub result : Result Judged JudgeFault
  pub judged : JudgedRecording (asked_of asked) result input left
  pub shown : ShowsJudging result answer old new

-- so of what a file gives; or it can't be opened, or there is no memory for it
abbrev pub JudgesFile : {F : Type 0} → (F → Bytes) → Judging → Answer → Bytes → Bytes → Type 0
JudgesFile remaining asked answer old new =
    ((input left : Bytes) × AreOfFile remaining input
    × JudgesRecording asked answer input left old new)
    ⊎ (((error : Error) × Refuses (fault.Open error) answer old new)
    ⊎ Refuses fault.Memory answer old new)

-- the record of this configuration and these samples was judged to the end of both, or refused for
-- what it says
abbrev pub JudgedPair : Asked → Result Judged JudgeFault → (text left samples rest : Bytes) → Type 0
JudgedPair asked (Ok judged) text left samples rest =
    IfSome text (λ t. IfSome samples (λ s. JudgedRecord asked t s judged)) × IfSome text (λ t. IsAtEnd left)
    × IfSome samples (λ s. IsAtEnd rest)
JudgedPair asked (Err f) text left samples rest =
    f ≢ judging.Read → f ≢ judging.ReadSamples
    → RecordRefused asked text samples f

-- a record was judged so
pub record JudgesPair (asked : Judging) (answer : Answer) (text samples old new : Bytes) : Type 0 where
  pub left : Bytes
  pub rest : Bytes
  pub result : Result Judged JudgeFault
  pub judged : JudgedPair (asked_of asked) result text left samples rest
  pub shown : ShowsJudging result answer old new

-- so of the samples that a file gives; or it can't be opened, or there is no memory for it
abbrev pub JudgesBeside : {F : Type 0} → (F → Bytes) → Judging → Answer → (text : Bytes) → Bytes → Bytes → Type 0
JudgesBeside remaining asked answer text old new =
    ((samples : Bytes) × AreOfFile remaining samples × JudgesPair asked answer text samples old new)
    ⊎ (((error : Error) × Refuses (fault.OpenSamples error) answer old new)
    ⊎ Refuses fault.Memory answer old new)

-- so of the configuration that a file gives, too
abbrev pub JudgesFiles : {F : Type 0} → (F → Bytes) → Judging → Answer → Bytes → Bytes → Type 0
JudgesFiles remaining asked answer old new =
    ((text : Bytes) × AreOfFile remaining text × JudgesBeside remaining asked answer text old new)
    ⊎ (((error : Error) × Refuses (fault.Open error) answer old new)
    ⊎ Refuses fault.Memory answer old new)

-- a single file was judged to the end of its samples, or refused for what it says
abbrev pub JudgedFile : Asked → Result Judged JudgeFault → Bytes → Type 0
JudgedFile asked (Ok judged) input = IfSome input (λ file. JudgedSingle asked file judged)
JudgedFile asked (Err f) input = f ≢ judging.Read → IfSome input (λ file. SingleRefused asked file f)

-- a single file was judged so
pub record JudgesSingle (asked : Judging) (answer : Answer) (input old new : Bytes) : Type 0 where
  pub result : Result Judged JudgeFault
  pub judged : JudgedFile (asked_of asked) result input
  pub shown : ShowsJudging result answer old new

-- so of what a file gives; or it can't be opened, or there is no memory for it
abbrev pub JudgesSingleFile : {F : Type 0} → (F → Bytes) → Judging → Answer → Bytes → Bytes → Type 0
JudgesSingleFile remaining asked answer old new =
    ((input : Bytes) × AreOfFile remaining input × JudgesSingle asked answer input old new)
    ⊎ (((error : Error) × Refuses (fault.Open error) answer old new)
    ⊎ Refuses fault.Memory answer old new)

-- a configuration is judged with the samples beside it, samples are not without it, a single file has
-- both, and all else is a recording
abbrev pub JudgesPath : {F : Type 0} → (F → Bytes) → Ending → Judging → Answer → Bytes → Bytes → Type 0
JudgesPath remaining Configuration asked answer old new = JudgesFiles remaining asked answer old new
JudgesPath remaining Samples asked answer old new = Refuses fault.Samples answer old new
JudgesPath remaining Single asked answer old new = JudgesSingleFile remaining asked answer old new
JudgesPath remaining Other asked answer old new = JudgesFile remaining asked answer old new

-- so of the recording on the input or in a file
abbrev pub Judges : {F : Type 0} → (F → Bytes) → Judging → Source → Answer → Bytes → Bytes → Bytes
    → Bytes → Type 0
Judges remaining asked Input answer input left old new =
    JudgesRecording asked answer input left old new
Judges remaining asked (File path) answer input left old new =
    JudgesPath remaining (ending_of path.now) asked answer old new

-- the frame of the second that the time names, with the options, if it names one
abbrev pub ShowsFrame : List ℕ → FrameOptions → Answer → Bytes → Bytes → Type 0
ShowsFrame time options answer old new =
    ((text : List ℕ) × ShowsFrameOf time options text × Wrote text answer old new)
    ⊎ (NamesNoSecond time × Refuses fault.BadTime answer old new)

-- what is said, by these rules, of the symbols that the text shows, if it shows some and there is
-- memory
abbrev pub ShowsReading : Rules → List ℕ → Answer → Bytes → Bytes → Type 0
ShowsReading rules text answer old new =
    ((lines : List ℕ) × IsReadingOf rules text lines × Wrote lines answer old new)
    ⊎ ((ShowsNoSymbols text × Refuses fault.BadFrameText answer old new)
    ⊎ Refuses fault.Memory answer old new)

-- what is answered of a word that is none of those that are explained
abbrev pub IsUnknownWord : Fault → Type 0
IsUnknownWord (fault.CommandLine text) = ⊤
IsUnknownWord fault.Memory = ⊤
IsUnknownWord _ = ⊥

-- a text, if the word is one that is explained and there is memory; which text is not said
abbrev pub ShowsMeaning : Answer → Bytes → Bytes → Type 0
ShowsMeaning answer old new =
    ((text : List ℕ) × Wrote text answer old new)
    ⊎ ((f : Fault) × IsUnknownWord f × Refuses f answer old new)

-- ---- all requests

-- it is the input that is read
abbrev pub is_input : Source → Bool
is_input Input = true
is_input (File path) = false

-- so is it for a request
abbrev pub reads_input : Request → Bool
reads_input Plain = true
reads_input (Play wanted source) = is_input source
reads_input (Judge asked source) = is_input source
reads_input (Frame time options) = false
reads_input (Read frame rules) = false
reads_input (Explain word) = false

-- the request was served
abbrev pub Serves : {F : Type 0} → (F → Bytes) → Request → Answer → Bytes → Bytes → Bytes → Bytes
    → Type 0
Serves remaining Plain answer input left old new =
    PlaysScene plain_log answer input left old new
Serves remaining (Play wanted source) answer input left old new =
    Plays remaining wanted source answer input left old new
Serves remaining (Judge asked source) answer input left old new =
    Judges remaining asked source answer input left old new
Serves remaining (Frame time options) answer input left old new =
    ShowsFrame time.now options answer old new
Serves remaining (Read frame rules) answer input left old new =
    ShowsReading rules frame.now answer old new
Serves remaining (Explain word) answer input left old new = ShowsMeaning answer old new

-- the words ask for this, or for help, or for nothing that there is
abbrev pub Answers : {F : Type 0} → (F → Bytes) → Result Request NoRequest → Answer → Bytes
    → Bytes → Bytes → Bytes → Type 0
Answers remaining (Ok request) answer input left old new =
    Serves remaining request answer input left old new
Answers remaining (Err (none.Help text)) answer input left old new =
    Wrote (string_bytes text) answer old new
Answers remaining (Err (none.Fault text)) answer input left old new =
    Refuses (fault.CommandLine text) answer old new
Answers remaining (Err none.Memory) answer input left old new =
    Refuses fault.Memory answer old new

-- what so many words ask for was answered with this exit status: a plain run if there is none
-- after the program's name
pub record Drove {F : Type 0} (remaining : F → Bytes) (words status : ℕ)
    (input left old new : Bytes) : Type 0 where
  pub asked : Result Request NoRequest
  pub plain : (asked ≡ Ok Plain) ↔ (words ≤ 1)
  pub answer : Answer
  pub answered : Answers remaining asked answer input left old new
  pub ends : status ≡ status_of_answer answer
