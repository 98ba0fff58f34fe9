use Rattle.std.proofs.Common.{◌≡◌, ◌++◌, string_bytes, take}
use Rattle.report_verdict.specs.JsonText.{json_name}
use Rattle.report_verdict.proofs.json.push_json_part.Given as goal

abbrev pub invariant-loop-byte : goal.invariant-loop-byte
invariant-loop-byte l = string_bytes l.text ≡ string_bytes l.initial.text ++ json_name (take l.byte-index l.part)
