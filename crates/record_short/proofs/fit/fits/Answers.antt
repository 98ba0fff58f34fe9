use Rattle.std.proofs.Common.{◌∙◌, refl, sym, arith}
use Rattle.record_short.specs.Fits.{fits}
use Rattle.record_short.proofs.FitLaws.{no_zone_left, zone_fails, zone_fits}
use Rattle.record_short.proofs.fit.fits.Goals as goal

pub loop-number-init : goal.loop-number-init
unfolding fits
loop-number-init c = refl

pub returns-then-fits_in : goal.returns-then-fits_in
returns-then-fits_in c =
    sym (zone_fits c.args.rules c.args.shown.now c.args.five.now c.loop-number.number (omega arith) (sym c.fits_in.ensures ∙ c.if-fits_in.true)) ∙ c.loop-number.invariant

pub loop-number-preserved : goal.loop-number-preserved
loop-number-preserved c =
    sym (zone_fails c.args.rules c.args.shown.now c.args.five.now c.loop-number.number (omega arith) (sym c.fits_in.ensures ∙ c.if-fits_in.false)) ∙ c.loop-number.invariant

pub returns : goal.returns
returns c =
    sym (no_zone_left c.args.rules c.args.shown.now c.args.five.now c.loop-number.number (omega arith)) ∙ c.loop-number.invariant
