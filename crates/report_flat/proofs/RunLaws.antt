-- What is written is what readers hear, and has the log of the scenario.
use Rattle.std.proofs.Common.{◌≡◌, ℕ, ◌≤◌, List, [], ◌∷◌, ◌++◌, length, Option, Some, None, Result, Ok, Err, refl, ap, sym, subst, ◌∙◌, append-nil}
use Rattle.std.specs.Prelude.{IfSome, option_map, option_to_list}
use Rattle.std.specs.Io.KnownBytes.{Appends}
use Rattle.std.proofs.lemmas.Grind.{flat_map-append}
use Rattle.std.proofs.lemmas.List.{append_cancel_left}
use Rattle.irig_device.specs.Watched.{AppendsPart}
use Rattle.report_log.specs.Text.{refusal_text}
use Rattle.irig_plant.specs.declared.event.Event.{Event}
use Rattle.scenario_line.specs.PlantLine.{Plan}
use Rattle.report_run.specs.declared.fault.SceneFault.{SceneFault}
use Rattle.report_run.specs.declared.fault.SceneFault.TheVariants.{Refused, Read, Write, Memory}
use Rattle.irig_scene.specs.declared.outcome.Outcome.{Outcome}
use Rattle.report_run.specs.Lines.{lines, unlines, max_lines}
use Rattle.irig_scene.specs.LogLines.{OfWritten}
use Rattle.irig_scene.specs.Scene.{scenario, Scene, meaning_of, output_shown}
use Rattle.report_run.specs.Meanings.{Refused as RefusedLine, meaning}
use Rattle.report_flat.specs.EventText.{event_line}
use Rattle.report_run.specs.Texts.{first_of, meaning_text}
use Rattle.irig_scene.specs.Texts.{of_scenes, said, whole_text}
use Rattle.irig_scene.specs.ListenerRuns.{RunFor, RanFor}
use Rattle.irig_scene.specs.Run.{Ends}
use Rattle.report_run.specs.Alone.{RanAlone}
use Rattle.scenario_devices.specs.StationLine.{is_station_line}
use Rattle.irig_station_scene.specs.StationRuns.{StationEnds}
use Rattle.irig_station_scene.specs.StationScenes.{station_scenario}
use Rattle.irig_scenario.specs.Scenarios.{ScenarioEnd, has_devices}
use Rattle.report_flat.specs.Recording.{heard_of}
use Rattle.report_flat.specs.FlatText.{heard_line, heard_lines, line_text, heard_text, flat_texts, flat_meaning, flat_text}
use Rattle.report_flat.specs.RowText.{row_texts}
use Rattle.report_flat.specs.Flattening.{FlatRun, RanFlat, RanEither, HasTheLog, WroteTheLog}
use Rattle.report_flat.proofs.TextLaws.{same_output}

-- ---- its text

text_of_line : (names : List (List ℕ)) (o : Option Event) → unlines (option_to_list (option_map (event_line names) o)) ≡ line_text names o
text_of_line names None = refl
text_of_line names (Some e) = append-nil (event_line names e ++ 10 ∷ [])

all_said : (plan : Plan) (ev : List Event) → said flat_texts plan ev ≡ unlines (heard_lines plan.names plan.setup ev)
all_said plan [] = refl
all_said plan (e ∷ ev) =
    let names = plan.names in
    let s = plan.setup in
    ap (λ t. t ++ heard_text names s e ev) (all_said plan ev) ∙ ap (λ t. unlines (heard_lines names s ev) ++ t) (sym (text_of_line names (heard_of s e ev)))
    ∙ sym (flat_map-append (λ l. l ++ 10 ∷ []) (heard_lines names s ev) (option_to_list (heard_line names s e ev)))

same_meaning : (first : List ℕ) (at : Option Scene) (k : Option RefusedLine) → meaning_text (of_scenes flat_texts) first (meaning at k) ≡ flat_meaning first (meaning at k)
same_meaning first None None = refl
same_meaning first None (Some k) = refl
same_meaning first (Some x) None = ap (λ t. ((first ++ 10 ∷ []) ++ t) ++ []) (all_said x.plan x.events)
same_meaning first (Some x) (Some k) = ap (λ t. ((first ++ 10 ∷ []) ++ t) ++ refusal_text k.line k.refusal) (all_said x.plan x.events)

same_text : (x : List ℕ) → whole_text flat_texts x ≡ flat_text x
same_text x = let m = meaning_of x in same_meaning (first_of (lines x)) m.scene m.refused

-- what a listener is promised is that
pub ran_flat : (r : Result Outcome SceneFault) (was left old new : Option (List ℕ)) → RanFor flat_texts r was left old new → RanFlat r was left old new
ran_flat r was left old new ran = record { bytes = ran.bytes; of_input = ran.of_input; ran = of_run r ran.ran; read = ran.ran }
  where
    of_run : (r : Result Outcome SceneFault) → RunFor flat_texts r ran.bytes was left old new → FlatRun r ran.bytes old new
    of_run (Ok o) h = (h.1.accepted, subst (Appends old new) (same_text ran.bytes) h.0)
    of_run (Err (Refused line refusal)) h = (h.1, subst (Appends old new) (same_text ran.bytes) h.0)
    of_run (Err Read) h = subst (AppendsPart old new) (same_text ran.bytes) h.0
    of_run (Err Write) h = subst (AppendsPart old new) (same_text ran.bytes) h.0
    of_run (Err Memory) h = subst (AppendsPart old new) (same_text ran.bytes) h.0

-- ---- what was written has the log

pub has_the_log : (r : Result Outcome SceneFault) (was left old new : Option (List ℕ)) → RanFlat r was left old new → IfSome was (λ x. OfWritten old new (HasTheLog r x))
has_the_log r None left old new ran = tt
has_the_log r (Some x) left None new ran = tt
has_the_log r (Some x) left (Some a) None ran = tt
has_the_log r (Some x) left (Some a) (Some b) ran = λ w is o done few shown.
    let whole : FlatRun (Ok o) x (Some a) (Some b) = subst (λ r. FlatRun r x (Some a) (Some b)) done (subst (λ x. FlatRun r x (Some a) (Some b)) ran.of_input ran.ran) in
    let same : w ≡ flat_text x = append_cancel_left a w (flat_text x) (sym is ∙ whole.1) in
    ap (λ t. output_shown t shown) same ∙ same_output x shown whole.0 (subst (λ t. length (lines t) ≤ max_lines) same few)

-- ---- a run of either

-- alone each does that
pub ran_either : (r : Result ScenarioEnd SceneFault) (was left old new : Option (List ℕ)) → RanAlone is_station_line scenario station_scenario Ends StationEnds (of_scenes flat_texts) row_texts r was left old new → RanEither r was left old new
unfolding ran_flat
ran_either r was left old new h = record {
  bytes = h.bytes;
  of_input = h.of_input;
  readers = λ is.
      (let first = h.first is in
      record { answer = first.answer; is = first.is; holds = ((ran_flat first.answer was left old new (record { bytes = h.bytes; of_input = h.of_input; ran = first.holds })).ran, first.holds) });
  devices = h.second;
}

pub wrote_the_log : (r : Result ScenarioEnd SceneFault) (was left old new : Option (List ℕ)) → RanEither r was left old new → WroteTheLog r was old new
wrote_the_log r None left old new ran = tt
wrote_the_log r (Some x) left old new ran = λ is.
    let h = ran.readers (ap has_devices ran.of_input ∙ is) in
    record {
      answer = h.answer;
      is = h.is;
      holds = has_the_log h.answer (Some x) left old new (record { bytes = ran.bytes; of_input = ran.of_input; ran = h.holds.0; read = h.holds.1 });
    }
