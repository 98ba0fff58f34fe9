-- A setup without a fault counts well enough, and no bound is half a second.
use Rattle.std.specs.Prelude.{◌==◌, nat_lt}
use Rattle.std.proofs.Common.{◌≡◌, ℕ, ◌+◌, ◌*◌, ◌%◌, ◌^◌, ◌≤◌, true, List, Some, None, arith, inl, inr}
use Rattle.std.proofs.lemmas.Bool.{cases_Bool, eq-eqb, ltb-false}
use Rattle.irig_reader.specs.declared.rules.ReaderRules.{ReaderRules}
use Rattle.irig_lines.specs.declared.setup.ClockFault.TheVariants.{Drift, Holdover}
use Rattle.irig_lines.specs.Refusals.{clock_fault}
use Rattle.irig_lines.proofs.WidthLaws.{reach_few}
use Rattle.irig_timekeeper.specs.declared.clock.Beat.{Beat}
use Rattle.irig_timekeeper.specs.Keeping.{answer_at}
use Rattle.irig_timekeeper.specs.Life.{Call, Made, device_of, life_of}
use Rattle.irig_timekeeper.proofs.BoundLaws.{answer_bound}

-- whatever lines carry, a bound is no greater
pub bound_small : (made : Made) (now : ℕ) (calls : List Call) (beat : Beat) → made.clock.drift_us ≤ 100 → answer_at (life_of made calls) (now % 2 ^ 32) ≡ Some beat → beat.bound_us ≤ 492899
bound_small made now calls beat few answer =
    let has = answer_bound (device_of made) (omega arith) calls (now % 2 ^ 32) in
    omega (arith, has.small beat answer, few, reach_few made.clock)

pub setup_is : (rules : ReaderRules) (d wander : ℕ) → clock_fault rules d wander ≡ None → (d ≤ 100) × (wander ≡ 0 → (rules.holdover + 2) * d ≤ 490000)
setup_is rules d wander e = elim (cases_Bool (nat_lt 100 d)) [
  | inl fast ↦ let both : Some Drift ≡ None = rw fast at e in absurd cc
  | inr steady ↦ elim (cases_Bool (nat_lt 490000 ((rules.holdover + 2) * d))) [
    | inl long ↦ (ltb-false 100 d steady, λ none. (let off : (wander == 0) ≡ true = eq-eqb wander 0 none in let both : Some Holdover ≡ None = rw (steady, long, off) at e in absurd cc))
    | inr short ↦ (ltb-false 100 d steady, λ none. ltb-false 490000 ((rules.holdover + 2) * d) short)
  ]
]
