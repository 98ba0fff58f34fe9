use Rattle.std.proofs.Common.{◌≡◌, ℕ, ◌<◌, length, get_or}
use Rattle.irig_frame.specs.declared.symbol.Symbol.TheVariants.{Zero}
use Rattle.irig_frame.specs.Symbols.{width_of}
use Rattle.irig_plant.proofs.pulses.widths_of.Given as goal

abbrev pub invariant-loop-element : goal.invariant-loop-element
invariant-loop-element l =
    (length l.widths ≡ 100) × ((k : ℕ) → k < l.element → get_or l.widths k 0 ≡ width_of (get_or l.frame k Zero))
