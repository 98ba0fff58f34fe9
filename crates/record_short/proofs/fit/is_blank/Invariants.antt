use Rattle.std.proofs.Common.{◌≡◌, drop}
use Rattle.record_short.specs.Fits.{is_blank}
use Rattle.record_short.proofs.fit.is_blank.Given as goal

-- what is left decides
abbrev pub invariant-loop-symbol : goal.invariant-loop-symbol
invariant-loop-symbol l = is_blank (drop l.symbol-index l.shown) ≡ is_blank l.shown
