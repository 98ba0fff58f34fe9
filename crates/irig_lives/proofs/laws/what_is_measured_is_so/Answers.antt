use Rattle.std.specs.Prelude.{◌==◌}
use Rattle.std.proofs.Common.{◌≡◌, ◌+◌, ◌*◌, ◌/◌, ◌≤◌, Bool, true, false, cond, Some, None, refl, subst, arith}
use Rattle.std.proofs.lemmas.Bool.{eqb-false}
use Rattle.irig_lines.specs.declared.rate.Rate.{Rate}
use Rattle.irig_lines.specs.Rates.{mean_since}
use Rattle.irig_lines.proofs.RateLaws.{mean_is_sharp}
use Rattle.irig_timekeeper.proofs.MeasureLaws.{begins_anew, measures_truly}
use Rattle.irig_lives.proofs.laws.what_is_measured_is_so.Goals as goal

pub returns-clause-mean : goal.returns-clause-mean
returns-clause-mean _ t edges made start calls rate lives is = measures_truly t edges made start calls rate lives is

pub returns-clause-sharp : goal.returns-clause-sharp
returns-clause-sharp _ x a rate is = of (a.seconds == 0) refl is
  where
    of : (none : Bool) → (a.seconds == 0) ≡ none → cond none None (Some (mean_since a x)) ≡ Some rate → rate.most_ns ≤ rate.least_ns + 1000 * (a.long_us + x.long_us) / rate.seconds + 2
    of true zero is = absurd cc
    of false some is =
        let same : mean_since a x ≡ rate = cc in
        subst (λ (r : Rate). r.most_ns ≤ r.least_ns + 1000 * (a.long_us + x.long_us) / r.seconds + 2) same (mean_is_sharp a x (omega (arith, eqb-false a.seconds 0 some)))

pub returns-clause-anew : goal.returns-clause-anew
returns-clause-anew _ k now other = begins_anew k now other
