use Rattle.std.proofs.Common.{◌≡◌, ◌++◌, take, string_bytes}
use Rattle.report_flat.specs.EventText.{after_commas}
use Rattle.report_flat.proofs.line_text.push_others.Given as goal

abbrev pub invariant-loop-number : goal.invariant-loop-number
invariant-loop-number l = string_bytes l.text ≡ string_bytes l.fn.text ++ after_commas (take l.number-index l.numbers)
