-- What is said of a scene stays, whatever comes, and of the scene no more is read than its plan and
-- where its station stands. These are proofs, no definitions: those of a trait's laws have to stand
-- here.
use Rattle.std.proofs.Common.{◌≡◌, ℕ, Bool, List, [], ◌++◌, Result, Ok, Err, refl, sym, ap, subst, ◌∙◌, append-nil}
use Rattle.std.proofs.lemmas.Grind.{flat_map-append}
use Rattle.text_faults.specs.declared.refusal.Refusal.{Refusal}
use Rattle.irig_station.specs.declared.entry.Entry.{Entry}
use Rattle.irig_station.specs.declared.event.Event.{Event}
use Rattle.irig_station.proofs.GrowthLaws.{grows}
use Rattle.scenario_devices.specs.StationEvents.{event_in_station_line}
use Rattle.scenario_devices.specs.StationLine.{StationPlan}
use Rattle.irig_station_scene.specs.StationText.{station_entry_text, station_text}
use Rattle.report_run.specs.Texts.{Stays, Texts}
use Rattle.irig_station_scene.specs.StationListening.{ReadsView, StationView, StaysBehind}
use Rattle.irig_station_scene.specs.StationScenes.{StationScene, next_in_scene, standing_in, station_log, station_scenario}
use Rattle.irig_station_scene.specs.StationTexts.{log_in_scene, quiet_texts}

-- ---- what is said stays

-- so it is whatever a line says, if it is so whatever event comes
module _ (t : Texts StationScene) (stays : StaysBehind t.said) where
  stays_behind_next : (x : StationScene) (e : Result Event Refusal)
      → (more : List ℕ) × (t.said (next_in_scene x e).scene ≡ t.said x ++ more)
  stays_behind_next x (Ok e) = stays x e
  stays_behind_next x (Err k) = ([], sym (append-nil (t.said x)))

  -- as a run of lines takes it
  pub stays_in_lines : Stays station_scenario t
  stays_in_lines x line = stays_behind_next x (event_in_station_line x.plan.names line)

-- the log
pub log_stays : (all : Bool) → StaysBehind (log_in_scene all)
unfolding station_text
log_stays all x e =
    let names = x.plan.names in
    let grown = grows x.plan.setup (standing_in x) e in (
      station_text names all grown.more,
      ap (station_text names all) grown.log
          ∙ flat_map-append (station_entry_text names all) (station_log x) grown.more,
    )

-- nothing said stays
pub quiet_stays : StaysBehind quiet_texts.said
quiet_stays x e = ([], refl)

-- ---- what is read

-- a listener that stands by the plan and the log, and says what these say
pub reads_log : {L : Type 0} (stands : L → StationPlan → List Entry → Type 0)
    (said : StationPlan → List Entry → List ℕ)
    → ReadsView (λ (l : L) x. stands l x.plan (station_log x))
    (λ (x : StationScene). said x.plan (station_log x))
reads_log stands said = record {
  stands = λ l x y same. subst (λ (v : StationView). stands l v.plan v.standing.log) same;
  says = λ x y same. ap (λ (v : StationView). said v.plan v.standing.log) same;
}

-- and one that says nothing
pub quiet_reads : {L : Type 0} (stands : L → StationPlan → List Entry → Type 0)
    → ReadsView (λ (l : L) x. stands l x.plan (station_log x)) quiet_texts.said
quiet_reads stands = reads_log stands (λ plan entries. [])
