-- A run of a scenario is one of the play that its first line chooses, and tells the truth.
use Rattle.std.proofs.Common.{◌≡◌, ◌↔◌, ℕ, Bool, true, false, List, [], ◌++◌, Option, Some, None, Result, Ok, Err, refl, ap, sym, subst, ◌∙◌, append-nil}
use Rattle.std.specs.Prelude.{IfSome}
use Rattle.std.specs.Io.KnownBytes.{Appends}
use Rattle.std.proofs.lemmas.List.{append_cancel_left}
use Rattle.irig_device.specs.declared.watched.Watched.{Watched}
use Rattle.irig_device.specs.Watched.{AppendsPart, has_failed}
use Rattle.scenario_devices.specs.StationLine.{is_station_line}
use Rattle.report_log.specs.declared.shown.Shown.{Shown}
use Rattle.report_run.specs.declared.fault.SceneFault.{SceneFault}
use Rattle.report_run.specs.declared.fault.SceneFault.TheVariants.{Refused, Read, Write, Memory}
use Rattle.report_run.specs.Runs.{AreBytesOf, RunFor}
use Rattle.report_run.specs.Texts.{whole_text}
use Rattle.report_run.specs.Alone.{AnswersAs, RanAlone}
use Rattle.report_run.specs.Sides.{given_as}
use Rattle.report_run.specs.declared.either.EitherOutcome.TheVariants.{First}
use Rattle.irig_scene.specs.LogLines.{OfWritten}
use Rattle.irig_scene.specs.LogTexts.{log_texts}
use Rattle.irig_scene.specs.Run.{Ends, RanOn, RanShown}
use Rattle.irig_scene.specs.Scene.{scenario}
use Rattle.irig_scene.specs.Texts.{of_scenes}
use Rattle.irig_scene.specs.WholeRun.{RunsTruly, left, written}
use Rattle.irig_scene.proofs.LogLaws.{log_ran_on}
use Rattle.irig_scene.proofs.WrittenLaws.{runs_truly}
use Rattle.irig_station_scene.specs.declared.outcome.StationOutcome.{StationOutcome}
use Rattle.irig_station_scene.specs.StationRuns.{StationEnds}
use Rattle.irig_station_scene.specs.StationScenes.{station_scenario}
use Rattle.irig_station_scene.specs.StationTexts.{station_texts}
use Rattle.irig_scenario.specs.DeviceLogs.{VouchesForDevices}
use Rattle.irig_scenario.specs.Scenarios.{RanScenario, RunsScenarioTruly, ScenarioEnd, has_devices}
use Rattle.irig_scenario.proofs.DeviceLogLaws.{vouches_for_devices}

-- ---- an answer that is given as another

given_fault : {O P : Type 0} (f : O → P) (a : Result O SceneFault) (e : SceneFault) → (given_as f a ≡ Err e) ↔ (a ≡ Err e)
given_fault f (Ok o) e = (λ h. absurd cc, λ h. absurd cc)
given_fault f (Err k) e = (λ h. (let same : k ≡ e = cc in ap Err same), λ h. (let same : k ≡ e = cc in ap Err same))

still_fault : {O P : Type 0} (f : O → P) (a : Result O SceneFault) (r : Result P SceneFault) (e : SceneFault) (Fact : Type 0) → r ≡ given_as f a → (r ≡ Err e) ↔ Fact → (a ≡ Err e) ↔ Fact
still_fault f a r e Fact is h =
    let g = given_fault f a e in
    (λ same. h.0 (is ∙ g.1 same), λ fact. g.0 (sym is ∙ h.1 fact))

-- ---- the bytes of an input

are_bytes : (x : List ℕ) (was : Option (List ℕ)) → was ≡ Some x → AreBytesOf was x
are_bytes x None is = absurd cc
are_bytes x (Some known) is = (let same : known ≡ x = cc in sym same)

bytes_are : (bytes x : List ℕ) (was : Option (List ℕ)) → was ≡ Some x → AreBytesOf was bytes → bytes ≡ x
bytes_are bytes x None is of = absurd cc
bytes_are bytes x (Some known) is of = (let same : known ≡ x = cc in of ∙ same)

-- ---- the run of a scenario

module _ (shown : Shown) (r : Result ScenarioEnd SceneFault) (was left old new : Option (List ℕ)) where
  of_readers : (bytes : List ℕ) → AnswersAs First r (λ answer. RunFor scenario Ends (of_scenes (log_texts shown)) answer bytes was left old new)
      → AnswersAs First r (λ answer. RanOn answer bytes shown was left old new)
  of_readers bytes h = record {
    answer = h.answer;
    is = h.is;
    holds = log_ran_on shown h.answer bytes was left old new h.holds;
  }

  pub ran_scenario : RanAlone is_station_line scenario station_scenario Ends StationEnds (of_scenes (log_texts shown)) (station_texts shown.all) r was left old new
      → RanScenario shown r was left old new
  ran_scenario h = record {
    bytes = h.bytes;
    of_input = h.of_input;
    readers = λ is. of_readers h.bytes (h.first is);
    devices = h.second;
  }

-- ---- it tells the truth

whole_part : (old new : Option (List ℕ)) (text : List ℕ) → Appends old new text → AppendsPart old new text
whole_part old new text wrote = record { front = text; rest = []; whole = sym (append-nil text); wrote = wrote }

front_written : (all : Bool) (a : Result StationOutcome SceneFault) (x : List ℕ) (was left old new : Option (List ℕ)) → RunFor station_scenario StationEnds (station_texts all) a x was left old new
    → AppendsPart old new (whole_text station_scenario (station_texts all) x)
front_written all (Ok o) x was left old new ran = whole_part old new (whole_text station_scenario (station_texts all) x) ran.0
front_written all (Err (Refused line refusal)) x was left old new ran = whole_part old new (whole_text station_scenario (station_texts all) x) ran.0
front_written all (Err Read) x was left old new ran = ran.0
front_written all (Err Write) x was left old new ran = ran.0
front_written all (Err Memory) x was left old new ran = ran.0

of_front : (Fact : List ℕ → Type 0) (text : List ℕ) → ((w rest : List ℕ) → text ≡ w ++ rest → Fact w) → (old new : Option (List ℕ)) → AppendsPart old new text → OfWritten old new Fact
of_front Fact text fact None new part = tt
of_front Fact text fact (Some old) None part = tt
of_front Fact text fact (Some old) (Some new) part = λ written is.
    let same : part.front ≡ written = append_cancel_left old part.front written (sym part.wrote ∙ is) in
    fact written part.rest (part.whole ∙ ap (λ w. w ++ part.rest) same)

devices_vouch : (shown : Shown) (r : Result ScenarioEnd SceneFault) (was left old new : Option (List ℕ)) → RanScenario shown r was left old new
    → IfSome was (λ x. has_devices x ≡ true → OfWritten old new (VouchesForDevices x))
devices_vouch shown r None left old new ran = tt
devices_vouch shown r (Some known) left old new ran =
    subst (λ x. has_devices x ≡ true → OfWritten old new (VouchesForDevices x)) ran.of_input
    (λ is. (let h = ran.devices is in of_front (VouchesForDevices ran.bytes) (whole_text station_scenario (station_texts shown.all) ran.bytes) (vouches_for_devices shown.all ran.bytes) old new
    (front_written shown.all h.answer ran.bytes (Some known) left old new h.holds)))

module _ {R W : Type 0} (remaining : R → Option (List ℕ)) (contents : W → Option (List ℕ)) (shown : Shown) (r : Result ScenarioEnd SceneFault) (before after : Watched R) (old new : Watched W)
    (read : (r ≡ Err Read) ↔ (has_failed after ≡ true)) (write : (r ≡ Err Write) ↔ (has_failed new ≡ true)) where
  readers_true : (x : List ℕ) → left remaining before ≡ Some x → AnswersAs First r (λ answer. RanOn answer x shown (left remaining before) (left remaining after) (written contents old) (written contents new))
      → AnswersAs First r (λ answer. RunsTruly remaining contents shown answer before after old new)
  readers_true x is h =
      let ran : RanShown h.answer shown (left remaining before) (left remaining after) (written contents old) (written contents new) = record {
        bytes = x;
        of_input = are_bytes x (left remaining before) is;
        ran = h.holds;
      } in
      record {
        answer = h.answer;
        is = h.is;
        holds = runs_truly remaining contents shown h.answer before after old new ran
            (still_fault First h.answer r Read (has_failed after ≡ true) h.is read)
            (still_fault First h.answer r Write (has_failed new ≡ true) h.is write);
      }

  if_readers : (was : Option (List ℕ)) → left remaining before ≡ was → RanScenario shown r (left remaining before) (left remaining after) (written contents old) (written contents new)
      → IfSome was (λ x. has_devices x ≡ false → AnswersAs First r (λ answer. RunsTruly remaining contents shown answer before after old new))
  if_readers None is ran = tt
  if_readers (Some x) is ran =
      let same : ran.bytes ≡ x = bytes_are ran.bytes x (left remaining before) is ran.of_input in
      λ none. readers_true x is (subst (λ x. AnswersAs First r (λ answer. RanOn answer x shown (left remaining before) (left remaining after) (written contents old) (written contents new))) same
      (ran.readers (ap has_devices same ∙ none)))

  pub runs_scenario_truly : RanScenario shown r (left remaining before) (left remaining after) (written contents old) (written contents new)
      → RunsScenarioTruly remaining contents shown r before after old new
  runs_scenario_truly ran = record {
    readers = if_readers (left remaining before) refl ran;
    devices = devices_vouch shown r (left remaining before) (left remaining after) (written contents old) (written contents new) ran;
    ran = ran;
    read = read;
    write = write;
  }
