use Rattle.std.proofs.Common.{◌≡◌, ◌++◌, drop, length}
use Rattle.record_vcd.specs.Sections.{wires_of}
use Rattle.report_judge.specs.Channels.{names_of, texts_of}
use Rattle.report_judge.proofs.names.wire_names.Given as goal

-- those so far, and those that are left
abbrev pub invariant-loop-wire : goal.invariant-loop-wire
invariant-loop-wire l =
    (texts_of l.names.items ++ names_of (wires_of (drop l.wire-index l.wires)) ≡ names_of (wires_of l.wires)) × (length l.names.items ≡ l.wire-index)
