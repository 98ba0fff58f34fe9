use Rattle.std.specs.Prelude.{◌==◌, min}
use Rattle.std.proofs.Common.{◌≡◌, ◌∙◌, ℕ, ◌+◌, ◌-◌, ◌*◌, ◌/◌, ◌≤◌, Option, Some, None, refl, sym, ap, subst, arith, inl, inr, false}
use Rattle.std.proofs.lemmas.Bool.{cases_Bool, cases_lt}
use Rattle.irig_lines.specs.declared.lines.Vote.{Vote}
use Rattle.irig_lines.specs.Counting.{edges_own}
use Rattle.irig_lines.specs.Paces.{learned}
use Rattle.irig_lines.specs.Rates.{rate_of, serving}
use Rattle.irig_lines.proofs.PaceLaws.{grown_most}
use Rattle.irig_timekeeper.specs.declared.clock.Beat.{Beat}
use Rattle.irig_timekeeper.specs.declared.clock.ClockState.{ClockState}
use Rattle.irig_timekeeper.specs.Clock.{answer_alone, answer_by, beat_by, bound_of, clock_by, own_edge, settled_at, step_to}
use Rattle.irig_timekeeper.specs.Life.{device_of}
use Rattle.irig_timekeeper.proofs.LearnLaws.{learned_is, stays_plain}
use Rattle.irig_lives.proofs.laws.what_is_learned_is_so.Goals as goal

pub returns-clause-seconds : goal.returns-clause-seconds
returns-clause-seconds _ = learned_is

pub returns-clause-learned : goal.returns-clause-learned
returns-clause-learned _ k now vote voted =
    let s : ClockState = settled_at k.clock k.state now in
    subst (λ (o : Option Vote). (clock_by k.clock k.table s now o).pace ≡ learned k.clock (rate_of (clock_by k.clock k.table s now o).interval (serving (clock_by k.clock k.table s now o).anchors))) (sym voted) refl

pub returns-clause-bound : goal.returns-clause-bound
returns-clause-bound _ k now beat alone answer =
    let s : ClockState = settled_at k.clock k.state now in
    let n : ℕ = edges_own s.pace s.edge_us now in
    let own : answer_alone k.clock k.table s n ≡ Some beat = subst (λ (o : Option Vote). answer_by k.clock k.table s now o ≡ Some beat) alone answer in
    elim (cases_Bool (n == 0)) [
      | inl none ↦ let both : None ≡ Some beat = rw none at own in absurd cc
      | inr some ↦
          let told : Some (beat_by k.clock s false (step_to k.clock k.table s n None) (n - 1) (own_edge s.pace s.edge_us n) s.bound_us) ≡ Some beat = rw some at own in
          let same : beat_by k.clock s false (step_to k.clock k.table s n None) (n - 1) (own_edge s.pace s.edge_us n) s.bound_us ≡ beat = cc in
          ap (λ (b : Beat). b.bound_us) (sym same) ∙ ap (λ (b : Beat). bound_of k.clock.drift_us s.pace s.bound_us b.report.lock) same
    ]

pub returns-clause-sharp : goal.returns-clause-sharp
returns-clause-sharp _ d seconds pace = (grown_most d (Some pace) seconds, least (seconds * d) ((seconds * pace.within_ns + 1999) / 1000))
  where
    least : (x y : ℕ) → min x y ≤ y
    least x y = elim (cases_lt x y) [ inl low ↦ let is : min x y ≡ x = grind (arith, low) in omega (arith, is, low) | inr high ↦ let is : min x y ≡ y = grind (arith, high) in omega (arith, is) ]

pub returns-clause-off : goal.returns-clause-off
returns-clause-off _ made calls off = (stays_plain (device_of made) (record { off = off; none = refl }) calls).none
