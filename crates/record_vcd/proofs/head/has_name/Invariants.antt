use Rattle.std.proofs.Common.{◌≡◌, drop}
use Rattle.record_vcd.specs.Sections.{has_name, wires_of}
use Rattle.record_vcd.proofs.head.has_name.Given as goal

-- what is left decides
abbrev pub invariant-loop-wire : goal.invariant-loop-wire
invariant-loop-wire l = has_name (wires_of (drop l.wire-index l.wires)) l.name ≡ has_name (wires_of l.wires) l.name
