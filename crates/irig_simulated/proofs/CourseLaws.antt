-- What a device told in its course, if its audit is kept.
use Rattle.std.proofs.Common.{◌≡◌, ◌∙◌, ℕ, zero, suc, ◌+◌, ◌-◌, ◌*◌, ◌%◌, ◌^◌, ◌<◌, ◌≤◌, Bool, true, List, [], ◌∷◌, ◌++◌, Option, Some, None, refl, sym, ap, arith, inl, inr}
use Rattle.std.specs.Prelude.{nat_lt, All}
use Rattle.std.proofs.lemmas.Bool.{cases_Bool}
use Rattle.std.proofs.lemmas.List.Elements.{All-append, All-cons, All-nil}
use Rattle.irig_frame.specs.declared.symbol.Symbol.{Symbol}
use Rattle.irig_time.specs.declared.second.UtcSecond.{UtcSecond}
use Rattle.irig_time.specs.Timelines.{TimelineValue}
use Rattle.irig_lines.specs.Steps.{AreNewLines, no_lines}
use Rattle.irig_timekeeper.specs.declared.clock.Beat.{Beat}
use Rattle.irig_timekeeper.specs.Keeping.{answer_at}
use Rattle.irig_timekeeper.specs.Life.{Made}
use Rattle.irig_timekeeper.specs.Life.Call.{Hear, Tick}
use Rattle.irig_timekeeper.specs.Lived.{keeping_after, made_with}
use Rattle.irig_wires.specs.declared.wires.Ending.{Ending}
use Rattle.irig_wires.specs.declared.wires.Happening.{Happening}
use Rattle.irig_wires.specs.declared.wires.Happening.TheVariants as happens
use Rattle.irig_wires.specs.Oscillator.{counter_at}
use Rattle.irig_witness.specs.TrueFrames.{true_symbol}
use Rattle.irig_witness.specs.Witness.{lines_by}
use Rattle.irig_witness.specs.Promise.{IsTrueSetup, lines_of}
use Rattle.irig_witness.proofs.BeforeLaws.{kept_before}
use Rattle.irig_witness.proofs.VouchLaws.{device, tells}
use Rattle.irig_simulated.specs.declared.told_second.ToldSecond.{ToldSecond}
use Rattle.irig_simulated.specs.Kinds.{Kind, count}
use Rattle.irig_simulated.specs.Courses.{Course, coming, happened, has_sent, heard, hearing, keeps_so_far, most_in, passed, played, stepped, ticked, told_if}
use Rattle.irig_simulated.specs.Truth.{IsToldOfItsEdge}
use Rattle.irig_simulated.proofs.NearLaws.{told_of_edge}

-- lines on which nothing came
pub are_new : AreNewLines no_lines
are_new = record {
  a = record { sync = record { place = refl; last = refl }; frame = refl; seen = refl; heard = refl };
  b = record { sync = record { place = refl; last = refl }; frame = refl; seen = refl; heard = refl };
  c = record { sync = record { place = refl; last = refl }; frame = refl; seen = refl; heard = refl };
  d = record { sync = record { place = refl; last = refl }; frame = refl; seen = refl; heard = refl };
  e = record { sync = record { place = refl; last = refl }; frame = refl; seen = refl; heard = refl };
}

module _ (t : TimelineValue) (sent : (line second : ℕ) → List (List Symbol)) (k : Kind) (is : IsTrueSetup t k.rate k.made.clock k.made.table) where
  abbrev symbol : ℕ → ℕ → Symbol
  symbol line = true_symbol k.made.rules t (sent line)

  abbrev Kept : Course → Type 0
  Kept x = keeps_so_far k symbol x ≡ true

  abbrev AllTold : Course → Type 0
  AllTold x = All (IsToldOfItsEdge t) x.told

  -- what a tick tells that leaves the audit kept
  told_now : (x : Course) (now : ℕ) (told : Option Beat) → keeps_so_far k symbol (record x { calls = Tick now ∷ x.calls }) ≡ true → answer_at (keeping_after k.made x.calls) (now % 2 ^ 32) ≡ told
      → All (IsToldOfItsEdge t) (told_if k now told)
  told_now x now None kept e = All-nil (IsToldOfItsEdge t)
  told_now x now (Some beat) kept e =
      All-cons (IsToldOfItsEdge t) _ [] (told_of_edge t k.first k.rate now k.made.clock beat (omega (arith, is.steady.least, is.steady.few))
      (λ u says. tells t (lines_of k.made.rules t sent k.first k.rate) (made_with k.made no_lines are_new) x.start (device t sent k.first k.rate k.made.rules k.made.clock k.made.table is) now x.calls beat u kept e says)) (All-nil (IsToldOfItsEdge t))

  -- an audit that is kept behind was kept before, and what was told in between is true
  abbrev Goes : (x y : Course) → Type 0
  Goes x y = Kept y → (Kept x × (AllTold x → AllTold y))

  stays : (x : Course) → Goes x x
  stays x kept = (kept, λ all. all)

  then_goes : (x y z : Course) → Goes x y → Goes y z → Goes x z
  then_goes x y z first next kept =
      let later = next kept in
      let now = first later.0 in
      (now.0, λ all. later.1 (now.1 all))

  pub goes_heard : (x : Course) (e : Ending) → Goes x (heard k x e)
  goes_heard x e kept = (kept_before k.made.clock (lines_by symbol k.first k.rate) x.start (hearing k x.now e) x.calls kept, λ all. all)

  pub goes_ticked : (x : Course) → Goes x (ticked k x)
  goes_ticked x kept = (
    kept_before k.made.clock (lines_by symbol k.first k.rate) x.start (Tick (count k x.now)) x.calls kept,
    λ all. All-append (IsToldOfItsEdge t) x.told _ all (told_now x (count k x.now) (answer_at (keeping_after k.made x.calls) (count k x.now % 2 ^ 32)) kept refl),
  )

  module _ (signal : (line element : ℕ) → Option Symbol) where
    goes_happened : (what : Happening) (x : Course) → Goes x (happened k signal what x)
    goes_happened (happens.End e) x = goes_heard x e
    goes_happened happens.Tick x = goes_ticked x
    goes_happened happens.Send x = λ kept. (kept, λ all. all)

    goes_stepped : (x : Course) → Goes x (stepped k signal x)
    goes_stepped x kept = goes_happened (coming x).what (record x { now = (coming x).time_us }) kept

    goes_played : (stop most : ℕ) (x : Course) → Goes x (played k signal stop most x)
    goes_played stop zero x = stays x
    goes_played stop (suc most) x = elim (cases_Bool (nat_lt (coming x).time_us stop)) [
      | inl less ↦ rw less (then_goes x (stepped k signal x) (played k signal stop most (stepped k signal x)) (goes_stepped x) (goes_played stop most (stepped k signal x)))
      | inr done ↦ rw done (stays x)
    ]

    pub goes_passed : (stop : ℕ) (x : Course) → Goes x (passed k signal stop x)
    goes_passed stop x kept = goes_played stop (most_in (stop - x.now)) x kept
