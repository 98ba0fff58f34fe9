-- What is said of a scene of devices stays, whatever event comes, and of the scene no more is read than
-- its plan and where its station stands. These are proofs, no definitions: those of a trait's laws have
-- to stand here.
use Rattle.std.proofs.Common.{◌≡◌, ◌++◌, ap, ◌∙◌}
use Rattle.std.specs.Prelude.{⊤}
use Rattle.std.proofs.lemmas.Grind.{flat_map-append}
use Rattle.irig_station.proofs.GrowthLaws.{grows}
use Rattle.irig_station_scene.specs.StationListening.{ReadsView, StationView, StaysBehind}
use Rattle.irig_station_scene.specs.StationScenes.{StationScene, standing_in, station_heard}
use Rattle.report_flat.specs.RowText.{row_of, row_texts, rows_text}

-- what devices heard stays
pub rows_stay : StaysBehind row_texts.said
unfolding rows_text
rows_stay x e =
    let names = x.plan.names in
    let grown = grows x.plan.setup (standing_in x) e in (
      rows_text names grown.pulses,
      ap (rows_text names) grown.heard
          ∙ flat_map-append (row_of names) (station_heard x) grown.pulses,
    )

-- and is read of the plan and of where the station stands
pub rows_read : {L : Type 0} → ReadsView (λ (l : L) (x : StationScene). ⊤) row_texts.said
rows_read = record {
  stands = λ l x y same stands. stands;
  says = λ x y same. ap (λ (v : StationView). rows_text v.plan.names v.standing.heard) same;
}
