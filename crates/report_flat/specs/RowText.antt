-- The pulses that devices hear, as rows with commas.
-- Source: docs/SCENARIOS.md, a scenario as what its readers or devices hear.
use Rattle.std.specs.Prelude.{ℕ, ◌-◌, List, [], ◌++◌, codes}
use Rattle.std.specs.List.{flat_map}
use Rattle.std.specs.Fmt.{decimal}
use Rattle.report_log.specs.Text.{name_at}
use Rattle.report_run.specs.Texts.{Texts}
use Rattle.irig_simulated.specs.declared.heard.HeardPulse.{HeardPulse}
use Rattle.irig_station_scene.specs.StationScenes.{StationScene, station_heard}

-- the first row: what each column has
abbrev pub columns_text : List ℕ
columns_text = codes "device,port,rise_us,width_us\n"

-- a number behind a comma
abbrev pub field_text : ℕ → List ℕ
field_text n = codes "," ++ decimal n

-- the row of a pulse: the name of its device, the number of the generator whose line it came by, when
-- it rose there, and how long it lasted
unfoldable pub row_text : (name : List ℕ) → HeardPulse → List ℕ
row_text name p =
    name ++ (field_text p.line
    ++ (field_text p.rise_us ++ (field_text (p.end_us - p.rise_us) ++ codes "\n")))

-- of a pulse of one of the devices with these names
abbrev pub row_of : List (List ℕ) → HeardPulse → List ℕ
row_of names p = row_text (name_at names p.device) p

-- rows
unfoldable pub rows_text : List (List ℕ) → List HeardPulse → List ℕ
rows_text names pulses = flat_map (row_of names) pulses

-- the first row, a row of each pulse, and nothing at the end
abbrev pub row_texts : Texts StationScene
row_texts = record {
  first = λ line. columns_text;
  said = λ x. rows_text x.plan.names (station_heard x);
  closing = λ x. [];
  end = λ x. [];
}
