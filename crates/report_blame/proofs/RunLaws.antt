-- What is written is what is said of who lied.
use Rattle.std.proofs.Common.{◌≡◌, ℕ, Bool, true, false, cond, List, [], ◌∷◌, ◌++◌, Option, Some, None, Result, Ok, Err, refl, ap, sym, subst, inl, inr, ◌∙◌, append_assoc}
use Rattle.std.proofs.lemmas.Grind.{flat_map-append}
use Rattle.std.specs.Io.KnownBytes.{Appends}
use Rattle.irig_device.specs.Watched.{AppendsPart}
use Rattle.report_log.specs.Text.{refusal_text}
use Rattle.irig_plant.specs.declared.event.Event.{Event}
use Rattle.scenario_devices.specs.StationLine.{is_station_line}
use Rattle.scenario_line.specs.PlantLine.{Plan}
use Rattle.report_run.specs.declared.fault.SceneFault.{SceneFault}
use Rattle.report_run.specs.declared.fault.SceneFault.TheVariants.{Refused, Read, Write, Memory}
use Rattle.report_run.specs.Lines.{lines}
use Rattle.report_run.specs.Meanings.{Refused as RefusedLine, meaning}
use Rattle.report_run.specs.Runs.{AreBytesOf, RunFor}
use Rattle.report_run.specs.Texts.{meaning_text, first_of, whole_text}
use Rattle.irig_scene.specs.Scene.{Scene, verdict_text}
use Rattle.irig_scene.specs.Texts.{said}
use Rattle.irig_station_scene.specs.StationScenes.{StationScene, newest_first}
use Rattle.irig_station_scene.specs.StationTexts.{verdict_in_scene}
use Rattle.irig_scenario.specs.AnyScenario.{AnyEnds, AnyScene, any_meaning, any_scenario}
use Rattle.irig_scenario.specs.Scenarios.{ScenarioEnd}
use Rattle.report_found.specs.declared.finding.Finding.{Finding}
use Rattle.report_found.specs.DeviceScenes.{ended_by_entries, open_of_devices}
use Rattle.report_found.specs.Scenes.{ended_by_event, all_ended, all_open}
use Rattle.report_blame.specs.BlameText.{any_blame_texts, blame_at, blame_meaning, blame_text, blame_texts, closing_in, closing_in_station, totals_in, totals_in_station}
use Rattle.report_blame.specs.Blaming.{BlameRun, RanBlame}
use Rattle.report_blame.specs.Text.{finding_text, findings_text}

-- lines of findings are those of some, and then those of others
text_join : (lines : List ℕ) (names : List (List ℕ)) (a b : List Finding) → findings_text lines names (a ++ b) ≡ findings_text lines names a ++ findings_text lines names b
text_join lines names a b = flat_map-append (finding_text lines names) a b

all_said : (lines : List ℕ) (plan : Plan) (ev : List Event) → said (blame_texts lines) plan ev ≡ findings_text lines plan.names (all_ended plan.setup ev)
all_said lines plan [] = refl
all_said lines plan (e ∷ ev) =
    ap (λ t. t ++ findings_text lines plan.names (ended_by_event plan.setup e ev)) (all_said lines plan ev) ∙ sym (text_join lines plan.names (all_ended plan.setup ev) (ended_by_event plan.setup e ev))

-- what is said of what ended, and then of what is open, with totals and a last line
then_open : (lines : List ℕ) (names : List (List ℕ)) (ended left : List Finding) (totals last : List ℕ)
    → findings_text lines names ended ++ ((findings_text lines names left ++ totals) ++ last) ≡ (findings_text lines names (ended ++ left) ++ totals) ++ last
then_open lines names ended left totals last =
    let e = findings_text lines names ended in
    let l = findings_text lines names left in
    sym (append_assoc e (l ++ totals) last) ∙ ap (λ t. t ++ last) (sym (append_assoc e l totals) ∙ ap (λ t. t ++ totals) (sym (text_join lines names ended left)))

-- of a scene
of_readers : (lines last : List ℕ) (x : Scene) → said (blame_texts lines) x.plan x.events ++ (closing_in lines x ++ last) ≡ blame_at lines (Some (inl x)) ++ last
of_readers lines last x =
    ap (λ t. t ++ (closing_in lines x ++ last)) (all_said lines x.plan x.events)
    ∙ then_open lines x.plan.names (all_ended x.plan.setup x.events) (all_open x.plan.setup x.events) (totals_in lines x) last

of_devices : (lines last : List ℕ) (x : StationScene)
    → findings_text lines x.plan.names (ended_by_entries x.plan.setup (newest_first x)) ++ (closing_in_station lines x ++ last) ≡ blame_at lines (Some (inr x)) ++ last
of_devices lines last x =
    then_open lines x.plan.names (ended_by_entries x.plan.setup (newest_first x)) (open_of_devices x.plan.setup (newest_first x)) (totals_in_station lines x) last

-- of the first line nothing is said
nothing_first : (b : Bool) (rest : List ℕ) → cond b [] [] ++ rest ≡ rest
nothing_first true rest = refl
nothing_first false rest = refl

after_first : (names first a b whole : List ℕ) → a ++ b ≡ whole → ((any_blame_texts names).first first ++ a) ++ b ≡ whole
after_first names first a b whole is = ap (λ t. t ++ b) (nothing_first (is_station_line first) a) ∙ is

same_meaning : (names first : List ℕ) (at : Option AnyScene) (k : Option RefusedLine) → meaning_text (any_blame_texts names) first (meaning at k) ≡ blame_meaning names (meaning at k)
same_meaning names first None None = refl
same_meaning names first None (Some k) = refl
same_meaning names first (Some (inl x)) None = after_first names first _ _ _ (of_readers names (verdict_text (Some x)) x)
same_meaning names first (Some (inl x)) (Some k) = after_first names first _ _ _ (of_readers names (refusal_text k.line k.refusal) x)
same_meaning names first (Some (inr x)) None = after_first names first _ _ _ (of_devices names (verdict_in_scene x) x)
same_meaning names first (Some (inr x)) (Some k) = after_first names first _ _ _ (of_devices names (refusal_text k.line k.refusal) x)

same_text : (names x : List ℕ) → whole_text any_scenario (any_blame_texts names) x ≡ blame_text names x
same_text names x = let m = any_meaning x in same_meaning names (first_of (lines x)) m.scene m.refused

-- what a listener is promised is that
pub ran_blame : (names bytes : List ℕ) (r : Result ScenarioEnd SceneFault) (was left old new : Option (List ℕ)) → AreBytesOf was bytes
    → RunFor any_scenario AnyEnds (any_blame_texts names) r bytes was left old new → RanBlame names r was left old new
ran_blame names bytes r was left old new of_input ran = record { bytes = bytes; of_input = of_input; ran = of_run r ran; read = ran }
  where
    of_run : (r : Result ScenarioEnd SceneFault) → RunFor any_scenario AnyEnds (any_blame_texts names) r bytes was left old new → BlameRun names r bytes old new
    of_run (Ok o) h = (h.1.accepted, subst (Appends old new) (same_text names bytes) h.0)
    of_run (Err (Refused line refusal)) h = (h.1, subst (Appends old new) (same_text names bytes) h.0)
    of_run (Err Read) h = subst (AppendsPart old new) (same_text names bytes) h.0
    of_run (Err Write) h = subst (AppendsPart old new) (same_text names bytes) h.0
    of_run (Err Memory) h = subst (AppendsPart old new) (same_text names bytes) h.0
