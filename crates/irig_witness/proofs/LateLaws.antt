-- A late line is true, if what its device takes off fits how late it is.
use Rattle.std.specs.Prelude.{◌==◌, ◌&&◌, count_by}
use Rattle.std.specs.List.{range_with_len}
use Rattle.std.proofs.lemmas.Bool.{cases_Bool}
use Rattle.std.proofs.Common.{◌≡◌, ◌∙◌, ℕ, Bool, true, false, inl, ◌+◌, ◌*◌, ◌/◌, ◌%◌, ◌<◌, ◌≤◌, List, [], ◌∷◌, refl, sym, ap, arith, inr}
use Rattle.std.proofs.Math.Nat.{mul-le-mul_left, mul-le-mul_right}
use Rattle.irig_frame.specs.declared.symbol.Symbol.{Symbol}
use Rattle.irig_sync.specs.Lines.{Pulse, pulse_at, IsTimeOf}
use Rattle.irig_vote.specs.Vote.{f_of}
use Rattle.irig_lines.specs.declared.setup.ClockRules.{ClockRules}
use Rattle.irig_lines.specs.Steps.{is_pulse}
use Rattle.irig_timekeeper.specs.Life.{Call, pulses_on, AreInOrder}
use Rattle.irig_timekeeper.specs.Life.Call.{Hear, Tick}
use Rattle.irig_lines.specs.Lines.{ArePulsesLately}
use Rattle.irig_witness.specs.Elements.{begins_at, KeepsRate, AreLatePulses, IsLateLine}
use Rattle.irig_wires.specs.Oscillator.{edges_by, counter_at}
use Rattle.irig_witness.specs.Witness.{WereTrueBeside, is_kept, lines_by}
use Rattle.irig_witness.proofs.ExactLaws.{exact}
use Rattle.irig_witness.proofs.OscillatorLaws.{element_is}

-- of these numbers: a place is so many hundredths of a second by the counter, and what is late so many
-- millionths
near_place : (late slow part place : ℕ) → 1000000 * late ≤ slow + 999900 → slow ≤ 1000000 * late + 999900 → place ≡ part / 100
    → (place + late ≤ (10000 * part + slow) / 1000000 + 1) × ((10000 * part + slow) / 1000000 ≤ place + late + 1)
near_place late slow part place least most is = (omega (arith, least, is), omega (arith, most, is))

module _ (d first rate : ℕ) (keeps : KeepsRate d rate) where
  -- less than 10 ms behind its begin the counter has counted as many microseconds, but for one
  pub late_by : (j late : ℕ) → late < 10000
      → (edges_by first rate (j / 100) + rate * (j % 100) / 100 + late ≤ counter_at first rate (begins_at j + late) + 1)
      × (counter_at first rate (begins_at j + late) ≤ edges_by first rate (j / 100) + rate * (j % 100) / 100 + late + 1)
  late_by j late few =
      let f = j / 100 in
      let i = j % 100 in
      let element : 100 * f + i ≡ j = omega arith in
      let slow : late * 1000000 ≤ late * (rate + d) = mul-le-mul_left late keeps.least in
      let fast : late * rate ≤ late * (1000000 + d) = mul-le-mul_left late keeps.most in
      let some : late * d ≤ 9999 * d = mul-le-mul_right d (let h : late ≤ 9999 = omega (arith, few) in h) in
      let slow' : late * (rate + d) ≡ late * rate + late * d = grind arith in
      let fast' : late * (1000000 + d) ≡ late * 1000000 + late * d = grind arith in
      let least : 1000000 * late ≤ late * rate + 999900 = omega (arith, slow, slow', some, keeps.few) in
      let most : late * rate ≤ 1000000 * late + 999900 = omega (arith, fast, fast', some, keeps.few) in
      let whole : (begins_at (100 * f + i) + late) * rate ≡ 1000000 * (f * rate) + (10000 * (rate * i) + late * rate) = grind arith in
      let split : (1000000 * (f * rate) + (10000 * (rate * i) + late * rate)) / 1000000 ≡ f * rate + (10000 * (rate * i) + late * rate) / 1000000 = omega arith in
      let at : (begins_at j + late) * rate / 1000000 ≡ f * rate + (10000 * (rate * i) + late * rate) / 1000000 =
      ap (λ (n : ℕ). (begins_at n + late) * rate / 1000000) (sym element) ∙ ap (λ (n : ℕ). n / 1000000) whole ∙ split in
      let near = near_place late (late * rate) (rate * i) (rate * i / 100) least most refl in
      (omega (arith, at, near.0), omega (arith, at, near.1))

  time_true : (within least most taken j late rise : ℕ) → most < 10000 → most + 1 < within + taken → taken + 1 < within + least → least ≤ late → late ≤ most → rise + taken ≡ counter_at first rate (begins_at j + late) → IsTimeOf (edges_by first rate) within j rise
  time_true within least most taken j late rise small high low from to is =
      let near = late_by j late (omega (arith, to, small)) in
      let at = element_is first rate j in
      (omega (arith, near.0, at, is, from, low), omega (arith, near.1, at, is, to, high))

  pub late_true : (within : ℕ) (line : ℕ → Symbol) (now : ℕ) (pulses : List Pulse) (late : IsLateLine within line first rate pulses) → ArePulsesLately within line (edges_by first rate) now late.next pulses
  late_true within line now pulses late = by late.next pulses late.are
    where
      by : (k : ℕ) (ps : List Pulse) → AreLatePulses line first rate late.least late.most late.taken k ps → ArePulsesLately within line (edges_by first rate) now k ps
      by k [] h = tt
      by k (p ∷ ps) h = inr (h.0, h.1, (time_true within late.least late.most late.taken h.0 h.3.0 p.rise late.small late.high late.low h.3.1 h.3.2 h.3.3, h.2), by h.0 ps h.4)

-- without its newest pulse a line is as late
behind : (within : ℕ) (line : ℕ → Symbol) (first rate : ℕ) (p : Pulse) (ps : List Pulse) → IsLateLine within line first rate (p ∷ ps) → IsLateLine within line first rate ps
behind within line first rate p ps late = record {
  next = late.are.0;
  least = late.least;
  most = late.most;
  taken = late.taken;
  small = late.small;
  high = late.high;
  low = late.low;
  are = late.are.4;
}

before_call : (within : ℕ) (line : ℕ → Symbol) (first rate q port rise width : ℕ) (calls : List Call) → IsLateLine within line first rate (pulses_on q (Hear port rise width ∷ calls)) → IsLateLine within line first rate (pulses_on q calls)
before_call within line first rate q port rise width calls late = elim (cases_Bool (q == port && is_pulse width)) [
  | inl here ↦ behind within line first rate (pulse_at rise width) (pulses_on q calls) (rw here at late)
  | inr other ↦ rw other at late
]

module _ (d first rate : ℕ) (keeps : KeepsRate d rate) (start : ℕ) (symbol : ℕ → ℕ → Symbol) (c : ClockRules) (untrue : ℕ → Bool) (few : count_by untrue (range_with_len 0 5) ≤ f_of c.redundancy) where
  late_beside : (calls : List Call) → ((line : ℕ) → line < 5 → untrue line ≡ false → IsLateLine c.within.us (symbol line) first rate (pulses_on line calls)) → WereTrueBeside c.within.us (f_of c.redundancy) (lines_by symbol first rate) calls
  late_beside [] late = tt
  late_beside (Hear port rise width ∷ calls) late = late_beside calls (λ line less right. before_call c.within.us (symbol line) first rate line port rise width calls (late line less right))
  late_beside (Tick now ∷ calls) late = (
    record {
      untrue = untrue;
      few = few;
      true_lines = λ line less right. ((late line less right).next, late_true d first rate keeps c.within.us (symbol line) now (pulses_on line calls) (late line less right));
    },
    late_beside calls late,
  )

  pub late_kept : (calls : List Call) → AreInOrder start c.redundancy calls → ((line : ℕ) → line < 5 → untrue line ≡ false → IsLateLine c.within.us (symbol line) first rate (pulses_on line calls)) → is_kept c (lines_by symbol first rate) start calls ≡ true
  late_kept calls order late = (exact d first rate keeps symbol c start calls).0 (record { order = order; truth = late_beside calls late })
