use Rattle.std.proofs.Common.{◌≡◌, ◌++◌, string_bytes, take}
use Rattle.report_log.specs.Text.{texts_of}
use Rattle.report_blame.specs.Text.{findings_text}
use Rattle.report_blame.proofs.text.push_findings.Given as goal

abbrev pub invariant-loop-finding : goal.invariant-loop-finding
invariant-loop-finding l =
    string_bytes l.text ≡ string_bytes l.initial.text ++ findings_text l.lines (texts_of l.names.keys) (take l.finding-index l.findings)
