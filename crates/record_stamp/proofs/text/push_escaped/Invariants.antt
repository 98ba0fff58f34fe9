use Rattle.std.proofs.Common.{◌≡◌, ◌++◌, drop, string_bytes}
use Rattle.record_stamp.specs.WordText.{escaped}
use Rattle.record_stamp.proofs.text.push_escaped.Given as goal

-- with what is left it is all
abbrev pub invariant-loop-byte : goal.invariant-loop-byte
invariant-loop-byte l = string_bytes l.text ++ escaped (drop l.byte-index l.bytes) ≡ string_bytes l.fn.text ++ escaped l.bytes
