use Rattle.std.proofs.Common.{◌≡◌, ◌++◌, take, string_bytes}
use Rattle.report_log.specs.Text.{texts_of}
use Rattle.report_flat.specs.RowText.{rows_text}
use Rattle.report_flat.proofs.rows.push_rows.Given as goal

abbrev pub invariant-loop-pulse : goal.invariant-loop-pulse
invariant-loop-pulse l = string_bytes l.text ≡ string_bytes l.fn.text ++ rows_text (texts_of l.names.keys) (take l.pulse-index l.pulses)
