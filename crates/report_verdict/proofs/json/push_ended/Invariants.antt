use Rattle.std.proofs.Common.{◌≡◌, ◌++◌, string_bytes, take}
use Rattle.std.specs.List.{flat_map}
use Rattle.report_verdict.specs.JsonText.{behind_comma, json_stretch}
use Rattle.report_verdict.proofs.json.push_ended.Given as goal

abbrev pub invariant-loop-stretch : goal.invariant-loop-stretch
invariant-loop-stretch l = string_bytes l.text ≡ string_bytes l.initial.text ++ flat_map (behind_comma json_stretch) (take l.stretch-index l.rest)
