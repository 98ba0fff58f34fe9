-- The pulses of a true frame, sent in time on a line that is not late: what a device hears of them by its counter.
use Rattle.std.proofs.Common.{◌≡◌, ◌∙◌, ℕ, suc, ◌+◌, ◌-◌, ◌*◌, ◌/◌, ◌%◌, ◌<◌, ◌≤◌, true, false, refl, sym, ap, arith}
use Rattle.std.specs.Prelude.{nat_lt}
use Rattle.std.proofs.lemmas.Bool.{and_from, le-ltb, lt-ltb}
use Rattle.std.proofs.lemmas.Nat.{div-mul-add}
use Rattle.std.proofs.Math.Nat.{mul-le-mul_left}
use Rattle.irig_frame.specs.declared.symbol.Symbol.{Symbol}
use Rattle.irig_frame.specs.declared.symbol.Symbol.TheVariants.{Bad, Marker, One, Zero}
use Rattle.irig_frame.specs.Symbols.{symbol_of, width_of}
use Rattle.irig_sync.specs.Edges.{element_at}
use Rattle.irig_sync.specs.Lines.{pulse_at}
use Rattle.irig_sync.specs.Sync.{is_marker_symbol}
use Rattle.irig_lines.specs.Steps.{is_pulse}
use Rattle.irig_lives.specs.Decided.{is_pulse_of, is_same}
use Rattle.irig_timekeeper.specs.Unfinished.{AreOfAFrame, most}
use Rattle.irig_wires.specs.Oscillator.{counter_at, edges_by}
use Rattle.irig_wires.proofs.OscillatorLaws.{over_a_time}
use Rattle.irig_witness.specs.Elements.{KeepsRate, begins_at, element_near}
use Rattle.irig_witness.proofs.LateLaws.{late_by}
use Rattle.irig_witness.proofs.OscillatorLaws.{element_is}
use Rattle.irig_simulated.specs.Kinds.{Kind}
use Rattle.irig_simulated.specs.Courses.{width_by}
use Rattle.irig_simulated.specs.Quiet.{risen_by, sent_at, wide_by}
use Rattle.irig_simulated.specs.QuietLines.{IsAboutRight, latest_us}

keeps_rate : (rate : ℕ) → IsAboutRight rate → KeepsRate 100 rate
keeps_rate rate is = record { least = omega (arith, is.least); most = omega (arith, is.most); few = omega arith }

-- ---- widths by the counter

zero_of : (width : ℕ) → 500 ≤ width → width < 3500 → symbol_of width ≡ Zero
zero_of width least less =
    let a : nat_lt width 500 ≡ false = le-ltb width 500 least in
    let b : nat_lt width 3500 ≡ true = lt-ltb width 3500 less in
    rw (a, b) refl

one_of : (width : ℕ) → 3500 ≤ width → width < 6500 → symbol_of width ≡ One
one_of width least less =
    let a : nat_lt width 500 ≡ false = le-ltb width 500 (omega (arith, least)) in
    let b : nat_lt width 3500 ≡ false = le-ltb width 3500 least in
    let d : nat_lt width 6500 ≡ true = lt-ltb width 6500 less in
    rw (a, b, d) refl

marker_of : (width : ℕ) → 6500 ≤ width → width < 9500 → symbol_of width ≡ Marker
marker_of width least less =
    let a : nat_lt width 500 ≡ false = le-ltb width 500 (omega (arith, least)) in
    let b : nat_lt width 3500 ≡ false = le-ltb width 3500 (omega (arith, least)) in
    let d : nat_lt width 6500 ≡ false = le-ltb width 6500 least in
    let e : nat_lt width 9500 ≡ true = lt-ltb width 9500 less in
    rw (a, b, d, e) refl

module _ (k : Kind) (is : IsAboutRight k.rate) where
  wide_near : (rise wide : ℕ) → wide ≤ 10000 → (wide ≤ width_by k rise (rise + wide) + 1) × (width_by k rise (rise + wide) ≤ wide + 2)
  wide_near rise wide few =
      let over = over_a_time k.first k.rate rise wide in
      let slow : wide * 999900 ≤ wide * k.rate = mul-le-mul_left wide is.least in
      let fast : wide * k.rate ≤ wide * 1000100 = mul-le-mul_left wide is.most in
      let least : wide ≤ wide * k.rate / 1000000 + 1 = omega (arith, slow, few) in
      let upto : wide * k.rate / 1000000 ≤ wide + 1 = omega (arith, fast, few) in
      (omega (arith, over.0, least, over.1, upto, few), omega (arith, over.0, over.1, upto))

  pub symbol_wide : (rise : ℕ) (symbol : Symbol) → ¬ (symbol ≡ Bad) → symbol_of (width_by k rise (rise + width_of symbol)) ≡ symbol
  symbol_wide rise Zero good = (let near = wide_near rise 2000 (omega arith) in zero_of (width_by k rise (rise + 2000)) (omega (arith, near.0)) (omega (arith, near.1)))
  symbol_wide rise One good = (let near = wide_near rise 5000 (omega arith) in one_of (width_by k rise (rise + 5000)) (omega (arith, near.0)) (omega (arith, near.1)))
  symbol_wide rise Marker good = (let near = wide_near rise 8000 (omega arith) in marker_of (width_by k rise (rise + 8000)) (omega (arith, near.0)) (omega (arith, near.1)))
  symbol_wide rise Bad good = absurd (good refl)

  wide_few : (symbol : Symbol) → width_of symbol ≤ 8000
  wide_few Zero = omega arith
  wide_few One = omega arith
  wide_few Marker = omega arith
  wide_few Bad = omega arith

  pulse_wide : (rise : ℕ) (symbol : Symbol) → is_pulse (width_by k rise (rise + width_of symbol)) ≡ true
  pulse_wide rise symbol =
      let near = wide_near rise (width_of symbol) (omega (arith, wide_few symbol)) in
      lt-ltb (width_by k rise (rise + width_of symbol)) 500000 (omega (arith, near.1, wide_few symbol))

  -- ---- rises by the counter

  module _ (n late : ℕ) (few : late ≤ latest_us) where
    abbrev begins : ℕ → ℕ
    begins j = edges_by k.first k.rate n + k.rate * j / 100

    number_of : (j : ℕ) → j < 100 → ((100 * n + j) / 100 ≡ n) × ((100 * n + j) % 100 ≡ j)
    number_of j less = (omega (arith, less), omega (arith, less))

    begins_is : (j : ℕ) → j < 100 → element_at (edges_by k.first k.rate) (100 * n + j) ≡ begins j
    begins_is j less =
        element_is k.first k.rate (100 * n + j)
        ∙ ap (λ (q : ℕ). edges_by k.first k.rate q + k.rate * ((100 * n + j) % 100) / 100) (number_of j less).0
        ∙ ap (λ (q : ℕ). edges_by k.first k.rate n + k.rate * q / 100) (number_of j less).1

    rise_near : (j : ℕ) → j < 100 → (begins j + late ≤ risen_by k n late j + 1) × (risen_by k n late j ≤ begins j + late + 1)
    rise_near j less =
        let by = late_by 100 k.first k.rate (keeps_rate k.rate is) (100 * n + j) late (omega (arith, few)) in
        let at : risen_by k n late j ≡ counter_at k.first k.rate (begins_at (100 * n + j) + late) = ap (counter_at k.first k.rate) (let e : sent_at n j + late ≡ begins_at (100 * n + j) + late = omega arith in e) in
        let there : edges_by k.first k.rate ((100 * n + j) / 100) + k.rate * ((100 * n + j) % 100) / 100 ≡ begins j = sym (element_is k.first k.rate (100 * n + j)) ∙ begins_is j less in
        (omega (arith, by.0, at, there), omega (arith, by.1, at, there))

    pub near_is : (j : ℕ) → j < 100 → element_near k.first k.rate (risen_by k n late j) ≡ 100 * n + j
    near_is j less =
        let near = rise_near j less in
        let rest = 100 * (risen_by k n late j + 450 - k.first) - (100 * n + j) * k.rate in
        let whole : (100 * n + j) * k.rate ≡ 100 * (n * k.rate) + k.rate * j = grind arith in
        let split : 100 * (risen_by k n late j + 450 - k.first) ≡ (100 * n + j) * k.rate + rest = omega (arith, near.0, near.1, whole) in
        let low : rest < k.rate = omega (arith, near.0, near.1, whole, few, is.least) in
        ap (λ (x : ℕ). x / k.rate) split ∙ div-mul-add (100 * n + j) k.rate rest low

    -- so it is a pulse of its element, if it has the symbol
    pub true_pulse : (line : ℕ → Symbol) (j : ℕ) (width : ℕ) → j < 100 → is_same (symbol_of width) (line (100 * n + j)) ≡ true → is_pulse_of 450 line (edges_by k.first k.rate) (100 * n + j) (pulse_at (risen_by k n late j) width) ≡ true
    unfolding is_pulse_of
    true_pulse line j width less same =
        let near = rise_near j less in
        let at = begins_is j less in
        and_from _ _ (lt-ltb (element_at (edges_by k.first k.rate) (100 * n + j)) (risen_by k n late j + 450) (omega (arith, near.0, at)))
        (and_from _ _ (lt-ltb (risen_by k n late j) (element_at (edges_by k.first k.rate) (100 * n + j) + 450) (omega (arith, near.1, at, few))) same)

    pub on_time : (j : ℕ) → (risen_by k n late j + 9000 ≤ risen_by k n late (suc j)) × (risen_by k n late (suc j) < risen_by k n late j + 11000)
    on_time j =
        let over = over_a_time k.first k.rate (sent_at n j + late) 10000 in
        let at : risen_by k n late (suc j) ≡ counter_at k.first k.rate (sent_at n j + late + 10000) = ap (counter_at k.first k.rate) (let e : sent_at n (suc j) + late ≡ sent_at n j + late + 10000 = omega arith in e) in
        (omega (arith, over.0, at, is.least), omega (arith, over.1, at, is.most))

pub same_symbol : (symbol : Symbol) → is_same symbol symbol ≡ true
unfolding is_same
same_symbol Zero = refl
same_symbol One = refl
same_symbol Marker = refl
same_symbol Bad = refl

-- the pulses of a true frame but its last are such
pub are_of_a_frame : (k : Kind) (n late : ℕ) (symbols : ℕ → Symbol) → IsAboutRight k.rate → late ≤ latest_us → ((j : ℕ) → j < 100 → ¬ (symbols j ≡ Bad)) → is_marker_symbol (symbols 0) ≡ true
    → ((j : ℕ) → suc j < most → is_marker_symbol (symbols j) ≡ true → is_marker_symbol (symbols (suc j)) ≡ false) → is_marker_symbol (symbols 98) ≡ false
    → AreOfAFrame (risen_by k n late) (wide_by k n late symbols)
are_of_a_frame k n late symbols is few good first apart last = record {
  pulses = λ j less. pulse_wide k is (sent_at n j + late) (symbols j);
  on_time = λ j less. on_time k is n late few j;
  first = ap is_marker_symbol (shows 0 (omega arith)) ∙ first;
  apart = λ j less marked. ap is_marker_symbol (shows (suc j) (omega (arith, less))) ∙ apart j less (sym (ap is_marker_symbol (shows j (omega (arith, less)))) ∙ marked);
  last = ap is_marker_symbol (shows 98 (omega arith)) ∙ last;
}
  where
    shows : (j : ℕ) → j < 100 → symbol_of (wide_by k n late symbols j) ≡ symbols j
    shows j less = symbol_wide k is (sent_at n j + late) (symbols j) (good j less)
