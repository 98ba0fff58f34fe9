use Rattle.std.proofs.Common.{◌≡◌, ◌++◌, take, string_bytes}
use Rattle.report_log.specs.Text.{words_text}
use Rattle.report_log.proofs.port_text.push_words.Given as goal

abbrev pub invariant-loop-told : goal.invariant-loop-told
invariant-loop-told l = string_bytes l.text ≡ string_bytes l.fn.text ++ words_text l.truth (take l.told-index l.ports)
