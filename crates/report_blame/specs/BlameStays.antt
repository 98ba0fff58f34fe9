-- What is said of a scene of devices stays, whatever event comes. It is a proof, not a definition:
-- that of a trait's law has to stand here.
use Rattle.std.proofs.Common.{◌≡◌, ℕ, List, [], ◌∷◌, ◌++◌, sym, ap, ◌∙◌, append-nil, append_assoc}
use Rattle.std.specs.Prelude.{reverse}
use Rattle.std.proofs.lemmas.Grind.{flat_map-append}
use Rattle.std.proofs.lemmas.List.{reverse-append}
use Rattle.irig_station.specs.declared.entry.Entry.{Entry}
use Rattle.irig_station.specs.StationSetups.{StationSetup}
use Rattle.irig_station.proofs.GrowthLaws.{grows}
use Rattle.irig_station_scene.specs.StationListening.{StaysBehind}
use Rattle.irig_station_scene.specs.StationScenes.{newest_first, standing_in, station_log}
use Rattle.report_found.specs.DeviceScenes.{ended_by_entries, ended_by_tick}
use Rattle.report_found.specs.DeviceTicks.{tick_of_told}
use Rattle.report_blame.specs.BlameText.{station_blame_texts}
use Rattle.report_blame.specs.DeviceRuns.{ended_since}
use Rattle.report_blame.specs.Text.{finding_text, findings_text}

-- what entries end is what those before ended, and then what the others end
pub ended_joins : (s : StationSetup) (before more : List Entry)
    → ended_by_entries s (more ++ before) ≡ ended_by_entries s before ++ ended_since s before more
ended_joins s before [] = sym (append-nil (ended_by_entries s before))
ended_joins s before (e ∷ more) =
    ap (λ l. l ++ ended_by_tick s (more ++ before) (tick_of_told s e)) (ended_joins s before more)
    ∙ append_assoc (ended_by_entries s before) (ended_since s before more)
    (ended_by_tick s (more ++ before) (tick_of_told s e))

-- and so are their lines
pub text_joins : (lines : List ℕ) (names : List (List ℕ)) (s : StationSetup)
    (before more : List Entry)
    → findings_text lines names (ended_by_entries s (more ++ before))
    ≡ findings_text lines names (ended_by_entries s before)
    ++ findings_text lines names (ended_since s before more)
text_joins lines names s before more =
    ap (findings_text lines names) (ended_joins s before more)
    ∙ flat_map-append (finding_text lines names) (ended_by_entries s before)
    (ended_since s before more)

-- so what is said of a scene stays
pub blame_stays : (lines : List ℕ) → StaysBehind (station_blame_texts lines).said
blame_stays lines x e =
    let names = x.plan.names in
    let s = x.plan.setup in
    let grown = grows s (standing_in x) e in
    let joined = ap reverse grown.log ∙ reverse-append (station_log x) grown.more in (
      findings_text lines names (ended_since s (newest_first x) (reverse grown.more)),
      ap (λ es. findings_text lines names (ended_by_entries s es)) joined
          ∙ text_joins lines names s (newest_first x) (reverse grown.more),
    )
