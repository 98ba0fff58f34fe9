use Rattle.std.proofs.Common.{◌≡◌, ◌++◌, map, take, string_bytes}
use Rattle.irig_station_scene.specs.StationText.{station_text}
use Rattle.irig_station_scene.proofs.text.push_station_entries.Given as goal

abbrev pub invariant-loop-entry : goal.invariant-loop-entry
invariant-loop-entry l = string_bytes l.text ≡ string_bytes l.fn.text ++ station_text (map string_bytes l.names.keys) l.all (take l.entry-index l.entries)
