use Rattle.std.proofs.Common.{◌≡◌, drop}
use Rattle.record_short.specs.Fits.{row_fits}
use Rattle.record_short.proofs.fit.row_fits.Given as goal

-- what is left decides
abbrev pub invariant-loop-place : goal.invariant-loop-place
invariant-loop-place l = row_fits l.sbs l.place (drop l.place l.shown) (drop l.place l.frame) ≡ row_fits l.sbs 0 l.shown l.frame
