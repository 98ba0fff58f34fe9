use Rattle.std.proofs.Common.{◌≡◌, ◌≤◌, ℕ, List, ◌++◌, length, take}
use Rattle.irig_time.specs.declared.rules.Rules.{Rules}
use Rattle.irig_port.specs.Heard.{symbols_heard}
use Rattle.irig_port.proofs.whole.WholePortPort.pulses.Given as goal

abbrev pub invariant-loop-width_us : goal.invariant-loop-width_us
invariant-loop-width_us l =
    (rules : Rules) (w : List ℕ)
    → (l.initial.self.rules ≡ rules) × (l.initial.self.symbols.items ≡ symbols_heard w) × (length (symbols_heard w) ≤ 101)
    → (l.self.rules ≡ rules) × (l.self.symbols.items ≡ symbols_heard (w ++ take l.width_us-index l.widths_us)) × (length (symbols_heard (w ++ take l.width_us-index l.widths_us)) ≤ 101)
