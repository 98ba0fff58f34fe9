use Rattle.std.proofs.Common.{◌≡◌, ◌++◌, string_bytes}
use Rattle.report_found.specs.Findings.{lists_below}
use Rattle.report_blame.specs.Text.{none_below, carrier_text}
use Rattle.report_blame.proofs.untrue_text.push_carriers.Given as goal

abbrev pub invariant-loop-port : goal.invariant-loop-port
invariant-loop-port l =
    (l.is_first ≡ none_below l.basis l.port) × (string_bytes l.text ≡ string_bytes l.initial.text ++ lists_below (carrier_text l.lines l.basis) l.port)
