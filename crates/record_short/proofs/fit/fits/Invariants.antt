use Rattle.std.proofs.Common.{◌≡◌, ◌-◌}
use Rattle.record_short.specs.Fits.{fits, fits_from}
use Rattle.record_short.proofs.fit.fits.Given as goal

-- the zones that are left decide
abbrev pub invariant-loop-number : goal.invariant-loop-number
invariant-loop-number l = fits_from l.rules l.shown l.five l.number (53 - l.number) ≡ fits l.rules l.shown l.five
