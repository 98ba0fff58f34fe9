use Rattle.std.proofs.Common.{◌≡◌, ◌++◌, string_bytes, take}
use Rattle.std.specs.List.{flat_map}
use Rattle.report_verdict.specs.JsonText.{behind_comma, json_line}
use Rattle.report_verdict.proofs.json.push_seen.Given as goal

abbrev pub invariant-loop-line : goal.invariant-loop-line
invariant-loop-line l = string_bytes l.text ≡ string_bytes l.initial.text ++ flat_map (behind_comma json_line) (take l.line-index l.rest)
