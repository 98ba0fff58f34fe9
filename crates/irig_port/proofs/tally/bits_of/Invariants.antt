use Rattle.std.proofs.Common.{◌≡◌, ◌≤◌, ◌-◌}
use Rattle.irig_port.specs.Heard.{symbols_of}
use Rattle.irig_port.specs.Bits.{bits_from}
use Rattle.irig_port.proofs.tally.bits_of.Given as goal

abbrev pub invariant-loop-element : goal.invariant-loop-element
invariant-loop-element l = record {
  above : l.first ≤ l.element;
  known : l.bits ≡ bits_from l.element (l.end - l.element) (symbols_of l.widths_us);
}
