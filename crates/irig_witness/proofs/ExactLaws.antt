-- An audit doubts no true line: what it knows of a line is no more than what is so.
use Rattle.std.specs.Prelude.{◌==◌, ◌&&◌, nat_lt, nat_le, max, cond, count_by}
use Rattle.std.specs.List.{range_with_len}
use Rattle.std.proofs.Common.{◌≡◌, ◌↔◌, Bool, ◌∙◌, ℕ, ◌+◌, ◌-◌, ◌*◌, ◌/◌, ◌%◌, ◌<◌, ◌≤◌, ◌⊎◌, true, false, List, [], ◌∷◌, refl, sym, ap, subst, arith, inl, inr}
use Rattle.std.proofs.lemmas.Bool.{cases_Bool, eqb-true, and_from, le-leb}
use Rattle.std.proofs.lemmas.Nat.{div-mul-add}
use Rattle.irig_frame.specs.declared.symbol.Symbol.{Symbol}
use Rattle.irig_sync.specs.Edges.{IsClock}
use Rattle.irig_sync.specs.Lines.{Pulse, pulse_at, IsTimeOf, IsAfter}
use Rattle.irig_sync.specs.FaultyLines.{IsPulseOf}
use Rattle.irig_sync.proofs.EdgeLaws.{is_later}
use Rattle.irig_vote.specs.declared.redundancy.Redundancy.{Redundancy}
use Rattle.irig_vote.specs.Vote.{f_of}
use Rattle.irig_lines.specs.declared.setup.ClockRules.{ClockRules}
use Rattle.irig_lines.specs.Exactness.{most_within_us}
use Rattle.irig_lines.specs.Lines.{ArePulsesLately}
use Rattle.irig_lines.specs.Steps.{is_pulse}
use Rattle.irig_timekeeper.specs.Life.{Call, pulses_on, AreInOrder}
use Rattle.irig_timekeeper.specs.Life.Call.{Hear, Tick}
use Rattle.irig_lives.specs.Decided.{in_order, is_pulse_of}
use Rattle.irig_lives.proofs.DecidedLaws.{both, five_more, no_more, order_decided, order_is, pulse_is, pulse_from}
use Rattle.irig_witness.specs.Elements.{element_near, KeepsRate}
use Rattle.irig_wires.specs.Oscillator.{edges_by}
use Rattle.irig_witness.specs.declared.line.LineWitness.{LineWitness}
use Rattle.irig_witness.specs.Witness.{KeepsPremises, TrueLines, WereTrueBeside, new_witness, forgets, after_false, after_true, after_rise, is_doubted, is_kept, line_witness, lines_by, were_true}
use Rattle.irig_witness.proofs.CallLaws.{true_beside}
use Rattle.irig_witness.proofs.OscillatorLaws.{element_is, quartz}

not_le : (a b : ℕ) → nat_le a b ≡ false → b < a
not_le a b e = grind (arith, e)

max_most : (a b n : ℕ) → a ≤ n → b ≤ n → max a b ≤ n
max_most a b n h k = omega (arith, h, k)

abbrev pub last_rise : List Pulse → ℕ
last_rise [] = 0
last_rise (p ∷ ps) = p.rise

after_last : (ps : List Pulse) (rise : ℕ) → IsAfter ps rise → last_rise ps ≤ rise
after_last [] rise h = omega arith
after_last (p ∷ ps) rise h = h

module _ (within d : ℕ) (line : ℕ → Symbol) (edges near : ℕ → ℕ) (clock : IsClock d within edges) (finds : (j rise : ℕ) → IsTimeOf edges within j rise → near rise ≡ j) where
  pub record IsExact (a : LineWitness) (ps : List Pulse) (last : ℕ) : Type 0 where
    pub late : a.again ≤ last + 1200001
    pub was : (a.before ≡ 0) ⊎ ((q : ℕ) × IsTimeOf edges within a.before q × (q ≤ last))
    pub only : (now k : ℕ) → ArePulsesLately within line edges now k ps → (a.clear ≤ now) × ((a.next ≤ k) ⊎ (a.again ≤ now))

  nothing_exact : IsExact new_witness [] 0
  nothing_exact = record { late = omega arith; was = inl refl; only = λ now k h. (omega arith, inl (omega arith)) }

  fits : (j rise width : ℕ) → IsPulseOf line edges within j (pulse_at rise width) → is_pulse_of within line edges (near rise) (pulse_at rise width) ≡ true
  fits j rise width is =
      let at : near rise ≡ j = finds j rise is.0 in
      rw at (pulse_from within line edges j (pulse_at rise width) is)

  module _ (a : LineWitness) (ps : List Pulse) (last rise width : ℕ) (x : IsExact a ps last) (order : last ≤ rise) where
    -- it was one of the element, the next one
    next_exact : (j : ℕ) → near rise ≡ j → IsTimeOf edges within j rise → IsExact (record { next = j + 1; before = j; clear = a.clear; again = forgets rise; rise = rise }) (pulse_at rise width ∷ ps) rise
    next_exact j at time = record { late = omega arith; was = inr (rise, time, omega arith); only = only }
      where
        only : (now k : ℕ) → ArePulsesLately within line edges now k (pulse_at rise width ∷ ps) → (a.clear ≤ now) × ((j + 1 ≤ k) ⊎ (forgets rise ≤ now))
        only now k (inl old) = ((x.only now k old.1).0, inr (omega (arith, old.0)))
        only now k (inr is) = ((x.only now is.0 is.3).0, inl (let same : is.0 ≡ j = sym (finds is.0 rise is.2.0) ∙ at in omega (arith, is.1, same)))

    -- a second one of the last one's element
    second_exact : (j : ℕ) → near rise ≡ j → IsTimeOf edges within j rise → j < a.next → IsExact (record { next = j + 1; before = j; clear = max a.clear a.again; again = forgets rise; rise = rise }) (pulse_at rise width ∷ ps) rise
    second_exact j at time less = record { late = omega arith; was = inr (rise, time, omega arith); only = only }
      where
        forgot : (now k : ℕ) → k ≡ j → (a.next ≤ k) ⊎ (a.again ≤ now) → a.again ≤ now
        forgot now k same (inl most) = absurd (omega (arith, less, same, most))
        forgot now k same (inr h) = h

        only : (now k : ℕ) → ArePulsesLately within line edges now k (pulse_at rise width ∷ ps) → (max a.clear a.again ≤ now) × ((j + 1 ≤ k) ⊎ (forgets rise ≤ now))
        only now k (inl old) = (max_most _ _ _ (x.only now k old.1).0 (omega (arith, x.late, order, old.0)), inr (omega (arith, old.0)))
        only now k (inr is) =
            let same : is.0 ≡ j = sym (finds is.0 rise is.2.0) ∙ at in
            let h = x.only now is.0 is.3 in
            (max_most _ _ _ h.0 (forgot now is.0 same h.1), inl (omega (arith, is.1, same)))

    -- it was none
    false_exact : ((k : ℕ) → IsPulseOf line edges within k (pulse_at rise width) → ⊥) → IsExact (after_false a rise) (pulse_at rise width ∷ ps) rise
    false_exact none = record { late = omega (arith, x.late, order); was = still x.was; only = only }
      where
        still : (a.before ≡ 0) ⊎ ((q : ℕ) × IsTimeOf edges within a.before q × (q ≤ last)) → (a.before ≡ 0) ⊎ ((q : ℕ) × IsTimeOf edges within a.before q × (q ≤ rise))
        still (inl e) = inl e
        still (inr h) = inr (h.0, h.1, omega (arith, h.2, order))

        only : (now k : ℕ) → ArePulsesLately within line edges now k (pulse_at rise width ∷ ps) → (max a.clear (forgets rise) ≤ now) × ((a.next ≤ k) ⊎ (a.again ≤ now))
        only now k (inl old) = (max_most _ _ _ (x.only now k old.1).0 (omega (arith, old.0)), inr (omega (arith, x.late, order, old.0)))
        only now k (inr is) = absurd (none is.0 is.2)

    not_earlier : (j : ℕ) → IsTimeOf edges within j rise → j < a.before → ⊥
    not_earlier j time less = by x.was
      where
        by : (a.before ≡ 0) ⊎ ((q : ℕ) × IsTimeOf edges within a.before q × (q ≤ last)) → ⊥
        by (inl e) = absurd (omega (arith, e, less))
        by (inr h) = absurd (let apart = is_later d within edges clock j a.before rise h.0 time h.1 less in omega (arith, apart, h.2, order))

    true_exact : (j : ℕ) → near rise ≡ j → IsTimeOf edges within j rise → IsExact (after_true a j rise) (pulse_at rise width ∷ ps) rise
    true_exact j at time =
        elim (cases_Bool (nat_le a.next j)) [
          | inl low ↦ rw low (next_exact j at time)
          | inr high ↦ rw high (elim (cases_Bool (nat_le a.before j)) [
            | inl second ↦ rw second (second_exact j at time (not_le _ _ high))
            | inr earlier ↦ absurd (not_earlier j time (not_le _ _ earlier))
          ])
        ]

    pub rise_exact : IsExact (after_rise within line edges a (near rise) rise width) (pulse_at rise width ∷ ps) rise
    rise_exact =
        elim (cases_Bool (is_pulse_of within line edges (near rise) (pulse_at rise width))) [
          | inl good ↦ rw good (true_exact (near rise) refl (pulse_is within line edges (near rise) (pulse_at rise width) good).0)
          | inr bad ↦ rw bad (false_exact (λ k is. absurd (let wrong : true ≡ false = sym (fits k rise width is) ∙ bad in cc)))
        ]

-- ---- a device's calls

module _ (within d : ℕ) (x : TrueLines) (clock : IsClock d within x.edges) (finds : (j rise : ℕ) → IsTimeOf x.edges within j rise → x.near rise ≡ j) (start : ℕ) (redundancy : Redundancy) (line : ℕ) where
  line_exact : (calls : List Call) → AreInOrder start redundancy calls → IsExact within d (x.symbol line) x.edges x.near clock finds (line_witness within x line calls) (pulses_on line calls) (last_rise (pulses_on line calls))
  line_exact [] order = nothing_exact within d (x.symbol line) x.edges x.near clock finds
  line_exact (Hear port rise width ∷ calls) order =
      elim (cases_Bool (line == port && is_pulse width)) [
        | inl here ↦ rw here (rise_exact within d (x.symbol line) x.edges x.near clock finds (line_witness within x line calls) (pulses_on line calls) (last_rise (pulses_on line calls)) rise width (line_exact calls order.2)
            (after_last (pulses_on line calls) rise (in_turn here)))
        | inr other ↦ rw other (line_exact calls order.2)
      ]
    where
      in_turn : (line == port && is_pulse width) ≡ true → IsAfter (pulses_on line calls) rise
      in_turn here =
          let h = both (line == port) (is_pulse width) here in
          let same : line ≡ port = eqb-true line port h.0 in
          subst (λ (n : ℕ). IsAfter (pulses_on n calls) rise) (sym same) (order.1 h.1).0
  line_exact (Tick now ∷ calls) order = line_exact calls order.3

  -- a line that is true beside it is not doubted
  pub not_doubted : (now k : ℕ) (calls : List Call) → AreInOrder start redundancy calls → ArePulsesLately within (x.symbol line) x.edges now k (pulses_on line calls)
      → nat_lt now (line_witness within x line calls).clear ≡ false
  not_doubted now k calls order are = not_less _ _ ((line_exact calls order).only now k are).0
    where
      not_less : (now clear : ℕ) → clear ≤ now → nat_lt now clear ≡ false
      not_less now clear h = grind (arith, h)

-- the element is found to whose time a rise lies near
module _ (d first rate within : ℕ) (keeps : KeepsRate d rate) (small : within ≤ most_within_us) where
  pub near_clock : IsClock d within (edges_by first rate)
  near_clock = record { steady = (quartz d first rate keeps).steady; near = omega (arith, keeps.few, small) }

  pub finds_element : (j rise : ℕ) → IsTimeOf (edges_by first rate) within j rise → element_near first rate rise ≡ j
  finds_element j rise is =
      let at = element_is first rate j in
      let x = rise + 450 - first in
      let f = j / 100 in
      let i = j % 100 in
      let element : 100 * f + i ≡ j = omega arith in
      let low : first + f * rate + rate * i / 100 < rise + within = omega (arith, at, is.0) in
      let high : rise < first + f * rate + rate * i / 100 + within = omega (arith, at, is.1) in
      let split : j * rate ≡ 100 * (f * rate) + rate * i = ap (λ (n : ℕ). n * rate) (sym element) ∙ grind arith in
      let least : j * rate ≤ 100 * x = omega (arith, low, split, small) in
      let most : 100 * x < j * rate + rate = omega (arith, low, high, split, small, keeps.least, keeps.few) in
      let rest : 100 * x ≡ j * rate + (100 * x - j * rate) = omega (arith, least) in
      ap (λ (n : ℕ). n / rate) rest ∙ div-mul-add j rate (100 * x - j * rate) (omega (arith, most, least))

-- ---- the whole audit

-- of five lines at most as many are doubted as are untrue, if no other one is doubted
fewer : (p q : ℕ → Bool) (f : ℕ) → ((line : ℕ) → line < 5 → q line ≡ false → p line ≡ false) → count_by q (range_with_len 0 5) ≤ f → count_by p (range_with_len 0 5) ≤ f
fewer p q f only few = five_more f _ _ _ _ _ _ _ _ _ _ (on 0 (omega arith)) (on 1 (omega arith)) (on 2 (omega arith)) (on 3 (omega arith)) (on 4 (omega arith)) few
  where
    on : (line : ℕ) → line < 5 → cond (p line) 1 0 ≤ cond (q line) 1 0
    on line less = no_more (p line) (q line) (only line less)

module _ (d first rate : ℕ) (keeps : KeepsRate d rate) (symbol : ℕ → ℕ → Symbol) (c : ClockRules) (start : ℕ) where
  beside_true : (calls : List Call) → AreInOrder start c.redundancy calls → WereTrueBeside c.within.us (f_of c.redundancy) (lines_by symbol first rate) calls → were_true c.within.us (f_of c.redundancy) (lines_by symbol first rate) calls ≡ true
  beside_true [] order truth = refl
  beside_true (Hear port rise width ∷ calls) order truth = beside_true calls order.2 truth
  beside_true (Tick now ∷ calls) order truth = and_from _ _ (le-leb _ _ (fewer _ truth.0.untrue (f_of c.redundancy) clear truth.0.few)) (beside_true calls order.3 truth.1)
    where
      clear : (line : ℕ) → line < 5 → truth.0.untrue line ≡ false → is_doubted c.within.us (lines_by symbol first rate) calls now line ≡ false
      clear line less right =
          let are = truth.0.true_lines line less right in
          not_doubted c.within.us d (lines_by symbol first rate) (near_clock d first rate c.within.us keeps c.within.few) (finds_element d first rate c.within.us keeps c.within.few) start c.redundancy line now are.0 calls order.3 are.1

  pub exact : (calls : List Call) → KeepsPremises c (lines_by symbol first rate) start calls ↔ (is_kept c (lines_by symbol first rate) start calls ≡ true)
  exact calls = (
    λ keeps_so. and_from _ _ ((order_decided start c.redundancy calls).0 keeps_so.order) (beside_true calls keeps_so.order keeps_so.truth),
    λ kept. (let e = both (in_order start c.redundancy calls) _ kept in record {
      order = order_is start c.redundancy calls e.0;
      truth = true_beside c.within.us (lines_by symbol first rate) (f_of c.redundancy) calls e.1;
    }),
  )
