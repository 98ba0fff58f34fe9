-- What is said of what devices hear.
use Rattle.std.proofs.Common.{◌≡◌, ◌∙◌, ℕ, List, [], ◌++◌, length, refl, ap, sym}
use Rattle.std.specs.Prelude.{drop}
use Rattle.std.proofs.Math.Seq.{drop-append_seam}
use Rattle.std.proofs.lemmas.Grind.{flat_map-append}
use Rattle.irig_simulated.specs.declared.heard.HeardPulse.{HeardPulse}
use Rattle.irig_station.specs.declared.event.Event.{Event}
use Rattle.irig_station.proofs.GrowthLaws.{grows}
use Rattle.scenario_devices.specs.StationLine.{StationPlan}
use Rattle.irig_station_scene.specs.StationListening.{SaysMore, pulses_by}
use Rattle.irig_station_scene.specs.StationScenes.{StationScene, event_in_scene, standing_in, station_heard, station_scene}
use Rattle.report_flat.specs.RowText.{row_of, row_texts, rows_text}

-- before the first event there are no rows
pub no_rows : (plan : StationPlan) → row_texts.said (station_scene plan []) ≡ []
unfolding rows_text
no_rows plan = refl

-- the pulses of an event come behind those before it
pulses_join : (x : StationScene) (e : Event) → station_heard (event_in_scene x e).scene ≡ station_heard x ++ pulses_by x e
pulses_join x e =
    let grown = grows x.plan.setup (standing_in x) e in
    let behind : pulses_by x e ≡ grown.pulses = ap (drop (length (station_heard x))) grown.heard ∙ drop-append_seam (station_heard x) grown.pulses in
    grown.heard ∙ ap (λ (l : List HeardPulse). station_heard x ++ l) (sym behind)

rows_join : (names : List (List ℕ)) (one two : List HeardPulse) → rows_text names (one ++ two) ≡ rows_text names one ++ rows_text names two
unfolding rows_text
rows_join names one two = flat_map-append (row_of names) one two

-- what was added to a text is what was heard more
pub rows_say : (x : StationScene) (e : Event) (names : List (List ℕ)) (pulses : List HeardPulse) (old new : List ℕ) → names ≡ x.plan.names → pulses ≡ pulses_by x e → new ≡ old ++ rows_text names pulses
    → SaysMore row_texts x (event_in_scene x e).scene old new
rows_say x e names pulses old new named heard added = record {
  more = rows_text x.plan.names (pulses_by x e);
  said = ap (rows_text x.plan.names) (pulses_join x e) ∙ rows_join x.plan.names (station_heard x) (pulses_by x e);
  added = added ∙ ap (λ (names : List (List ℕ)). old ++ rows_text names pulses) named ∙ ap (λ (pulses : List HeardPulse). old ++ rows_text x.plan.names pulses) heard;
}
