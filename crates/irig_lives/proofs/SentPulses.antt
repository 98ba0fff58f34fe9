-- The calls of a device on whose first lines all elements of one line come at their times, by a
-- counter that is right; it ticks 1 ms before each.
use Rattle.std.proofs.Common.{◌≡◌, ◌∙◌, ℕ, zero, suc, ◌+◌, ◌-◌, ◌*◌, ◌%◌, ◌<◌, ◌≤◌, true, false, List, [], ◌∷◌, ◌++◌, drop, length, Some, refl, sym, ap, subst, arith, inl, inr, append-nil}
use Rattle.std.specs.Prelude.{◌==◌}
use Rattle.std.proofs.lemmas.Bool.{cases_lt, eq-eqb}
use Rattle.irig_frame.specs.declared.symbol.Symbol.{Symbol}
use Rattle.irig_frame.specs.declared.symbol.Symbol.TheVariants.{Zero, One, Marker, Bad}
use Rattle.irig_frame.specs.Symbols.{symbol_of, width_of}
use Rattle.irig_frame.specs.Decoder.{IsRight}
use Rattle.irig_sync.specs.Edges.{element_at}
use Rattle.irig_sync.specs.Sync.{is_marker}
use Rattle.irig_sync.specs.Lines.{Pulse, pulse_at, IsAfter, IsTrueLine, symbols_of_last}
use Rattle.irig_sync.specs.FaultyLines.{IsPulseOf, ArePulsesBefore}
use Rattle.irig_sync.proofs.FaultLaws.{row, of_row}
use Rattle.irig_vote.specs.declared.redundancy.Redundancy.{Redundancy}
use Rattle.irig_vote.specs.Vote.{ports_in}
use Rattle.irig_sync.proofs.EdgeLaws.{even_element}
use Rattle.irig_lines.specs.Edges.{IsQuartz}
use Rattle.irig_lines.specs.Lines.{ArePulsesLately}
use Rattle.irig_lines.specs.Steps.{is_pulse}
use Rattle.irig_timekeeper.specs.Announcing.{LeavesTheFirst}
use Rattle.irig_timekeeper.specs.Life.{Call, pulses_on, last_tick, HaveRisen, AreInOrder, AreTrueLately, AreTrueAtTicks}
use Rattle.irig_timekeeper.specs.Life.Call.{Hear, Tick}
use Rattle.irig_timekeeper.specs.Loops.{TicksEach, AreToldInTime}

-- ---- the counter

abbrev pub edges : ℕ → ℕ
edges n = 10000000 + 1000000 * n

pub steady : (d : ℕ) → d ≤ 100 → IsQuartz d edges
steady d few = record { few = few; steady = record { least = λ n. omega arith; most = λ n. omega arith } }

-- when the k-th element rises, and the tick before it
abbrev pub rise : ℕ → ℕ
rise k = 10000000 + 10000 * k

abbrev pub tick : ℕ → ℕ
tick k = 9999000 + 10000 * k

at_element : (k : ℕ) → element_at edges k ≡ rise k
at_element k = let at = even_element 1000000 edges (λ n. omega arith) k in omega (arith, at)

-- ---- widths

width_is : (i : ℕ) (x : Symbol) → IsRight i (Some x) → symbol_of (width_of x) ≡ x
width_is i Zero right = refl
width_is i One right = refl
width_is i Marker right = refl
width_is i Bad right = absurd right

narrow : (x : Symbol) → is_pulse (width_of x) ≡ true
narrow Zero = refl
narrow One = refl
narrow Marker = refl
narrow Bad = refl

last_is_marker : (x : Symbol) → IsRight 99 (Some x) → is_marker (width_of x) ≡ true
last_is_marker Zero right = absurd cc
last_is_marker One right = absurd cc
last_is_marker Marker right = refl
last_is_marker Bad right = absurd right

module _ (line : ℕ → Symbol) (right : IsTrueLine line) where
  -- ---- the pulses of one line

  pulse : ℕ → Pulse
  pulse k = pulse_at (rise k) (width_of (line k))

  pub sent : ℕ → List Pulse
  sent zero = []
  sent (suc k) = pulse k ∷ sent k

  is_pulse_of : (within : ℕ) → 1 ≤ within → (k : ℕ) → IsPulseOf line edges within k (pulse k)
  unfolding pulse
  is_pulse_of within some k = let at = at_element k in ((omega (arith, at, some), omega (arith, at, some)), width_is (k % 100) (line k) (right k))

  are_sent : (k : ℕ) → ArePulsesBefore line edges 1 k (sent k)
  unfolding sent
  are_sent zero = tt
  are_sent (suc k) = (is_pulse_of 1 (omega arith) k, are_sent k)

  pub lately : (within : ℕ) → 1 ≤ within → (now k : ℕ) → ArePulsesLately within line edges now k (sent k)
  unfolding sent
  lately within some now zero = tt
  lately within some now (suc k) = inr (k, omega arith, is_pulse_of within some k, lately within some now k)

  so_many : (k : ℕ) → length (sent k) ≡ k
  unfolding sent
  so_many zero = refl
  so_many (suc k) = let rest = so_many k in omega (arith, rest)

  pub drop_sent : (n k : ℕ) → drop n (sent (k + n)) ≡ sent k
  unfolding sent
  drop_sent zero k = let none : k + 0 ≡ k = omega arith in ap sent none
  drop_sent (suc n) k = let next : k + suc n ≡ suc (k + n) = omega arith in ap (λ (j : ℕ). drop (suc n) (sent j)) next ∙ drop_sent n k

  -- those of the last n elements before the (k + n)-th
  module _ (k : ℕ) where
    pub recent : ℕ → List Pulse
    recent zero = []
    recent (suc n) = pulse (k + n) ∷ recent n

    pub split : (n : ℕ) → sent (k + n) ≡ recent n ++ sent k
    unfolding sent recent
    split zero = let none : k + 0 ≡ k = omega arith in ap sent none
    split (suc n) = let next : k + suc n ≡ suc (k + n) = omega arith in ap sent next ∙ ap (λ (ps : List Pulse). pulse (k + n) ∷ ps) (split n)

    pub are_recent : (within : ℕ) → 1 ≤ within → (n : ℕ) → ArePulsesBefore line edges within (k + n) (recent n)
    unfolding recent
    are_recent within some zero = tt
    are_recent within some (suc n) = let next : suc (k + n) ≡ k + suc n = omega arith in subst (λ (j : ℕ). ArePulsesBefore line edges within j (pulse (k + n) ∷ recent n)) next (is_pulse_of within some (k + n), are_recent within some n)

    pub so_recent : (n : ℕ) → length (recent n) ≡ n
    unfolding recent
    so_recent zero = refl
    so_recent (suc n) = let rest = so_recent n in omega (arith, rest)

  pub heard : (f : ℕ) → symbols_of_last 100 (sent (100 * f + 100)) ≡ row line (100 * f) 100
  heard f =
      let k = 100 * f + 100 in
      let long = so_many k in
      let from : k - 100 ≡ 100 * f = omega arith in
      (of_row line edges 1 k 100 (sent k) (are_sent k) (omega (arith, long))).1 ∙ ap (λ (b : ℕ). row line b 100) from

  pub leaves : (within f : ℕ) → LeavesTheFirst within (edges f) (sent (100 * f))
  unfolding sent pulse
  leaves within zero = tt
  leaves within (suc f) =
      let last : 100 * suc f ≡ suc (100 * f + 99) = omega arith in
      let place : (100 * f + 99) % 100 ≡ 99 = omega arith in
      let marker = last_is_marker (line (100 * f + 99)) (subst (λ (i : ℕ). IsRight i (Some (line (100 * f + 99)))) place (right (100 * f + 99))) in
      subst (λ (k : ℕ). LeavesTheFirst within (edges (suc f)) (sent k)) (sym last) (inl marker)

  pub after : (k time : ℕ) → tick k ≤ time → IsAfter (sent k) time
  unfolding sent pulse
  after zero time late = tt
  after (suc k) time late = omega (arith, late)

  -- ---- on the first n lines

  hears : ℕ → ℕ → List Call → List Call
  hears zero k calls = calls
  hears (suc n) k calls = Hear n (rise k) (width_of (line k)) ∷ hears n k calls

  others_on : (n i k : ℕ) (calls : List Call) → n ≤ i → pulses_on i (hears n k calls) ≡ pulses_on i calls
  unfolding hears
  others_on zero i k calls far = refl
  others_on (suc n) i k calls far =
      let other : (i == n) ≡ false = grind (arith, far) in
      rw other (others_on n i k calls (omega (arith, far)))

  own_on : (n i k : ℕ) (calls : List Call) → i < n → pulses_on i (hears n k calls) ≡ pulse k ∷ pulses_on i calls
  unfolding hears pulse
  own_on zero i k calls low = absurd (omega (arith, low))
  own_on (suc n) i k calls low = elim (cases_lt i n) [
    | inl less ↦
        let other : (i == n) ≡ false = grind (arith, less) in
        rw other (own_on n i k calls less)
    | inr more ↦
        let same : i ≡ n = omega (arith, low, more) in
        rw (eq-eqb i n same, narrow (line k)) (ap (λ (ps : List Pulse). pulse_at (rise k) (width_of (line k)) ∷ ps) (others_on n i k calls (omega (arith, same))))
  ]

  last_heard : (n k start : ℕ) (calls : List Call) → last_tick start (hears n k calls) ≡ last_tick start calls
  unfolding hears
  last_heard zero k start calls = refl
  last_heard (suc n) k start calls = last_heard n k start calls

  module _ (n : ℕ) where
    pub elements : ℕ → List Call
    elements zero = []
    elements (suc k) = hears n k (Tick (tick k) ∷ elements k)

    pub sent_on : (i k : ℕ) → i < n → pulses_on i (elements k) ≡ sent k
    unfolding elements sent
    sent_on i zero low = refl
    sent_on i (suc k) low = own_on n i k (Tick (tick k) ∷ elements k) low ∙ ap (λ (ps : List Pulse). pulse k ∷ ps) (sent_on i k low)

    pub none_on : (i k : ℕ) → n ≤ i → pulses_on i (elements k) ≡ []
    unfolding elements
    none_on i zero far = refl
    none_on i (suc k) far = others_on n i k (Tick (tick k) ∷ elements k) far ∙ none_on i k far

    pub last_of : (k : ℕ) → last_tick 9999000 (elements k) ≡ tick (k - 1)
    unfolding elements
    last_of zero = refl
    last_of (suc k) = let same : suc k - 1 ≡ k = omega arith in last_heard n k 9999000 (Tick (tick k) ∷ elements k) ∙ ap tick (sym same)

    pub risen : (k time : ℕ) → tick k ≤ time → HaveRisen time (elements k)
    risen k time late i = elim (cases_lt i n) [
      | inl low ↦ subst (λ (ps : List Pulse). IsAfter ps time) (sym (sent_on i k low)) (after k time late)
      | inr far ↦ subst (λ (ps : List Pulse). IsAfter ps time) (sym (none_on i k far)) tt
    ]

    module _ (r : Redundancy) (most : n ≤ ports_in r) where
      heard_in_order : (j k : ℕ) → j ≤ n → AreInOrder 9999000 r (Tick (tick k) ∷ elements k) → AreInOrder 9999000 r (hears j k (Tick (tick k) ∷ elements k))
      unfolding hears
      heard_in_order zero k low order = order
      heard_in_order (suc j) k low order =
          let rest : List Call = Tick (tick k) ∷ elements k in
          let on : pulses_on j (hears j k rest) ≡ sent k = others_on j j k rest (omega arith) ∙ sent_on j k (omega (arith, low)) in
          let last = last_heard j k 9999000 rest in (
            omega (arith, low, most),
            (λ is. (subst (λ (ps : List Pulse). IsAfter ps (rise k)) (sym on) (after k (rise k) (omega arith)), omega (arith, last))),
            heard_in_order j k (omega (arith, low)) order,
          )

      tick_in_order : (k : ℕ) → AreInOrder 9999000 r (elements k) → AreInOrder 9999000 r (Tick (tick k) ∷ elements k)
      tick_in_order k order = let last = last_of k in (omega (arith, last), omega (arith, last), risen k (tick k + 4000) (omega arith), order)

      pub in_order : (k : ℕ) → AreInOrder 9999000 r (elements k)
      unfolding elements
      in_order zero = tt
      in_order (suc k) = heard_in_order n k (omega arith) (tick_in_order k (in_order k))

    -- ---- what holds at each tick

    module _ (IsTrue : ℕ → List Pulse → Type 0) (f : ℕ) (truly : (k : ℕ) → AreTrueLately IsTrue f (tick k) (elements k)) where
      heard_truly : (j k : ℕ) (calls : List Call) → AreTrueAtTicks IsTrue f calls → AreTrueAtTicks IsTrue f (hears j k calls)
      unfolding hears
      heard_truly zero k calls truth = truth
      heard_truly (suc j) k calls truth = heard_truly j k calls truth

      pub at_ticks : (k : ℕ) → AreTrueAtTicks IsTrue f (elements k)
      unfolding elements
      at_ticks zero = tt
      at_ticks (suc k) = heard_truly n k (Tick (tick k) ∷ elements k) (truly k, at_ticks k)

    heard_each : (j k : ℕ) (calls : List Call) → TicksEach 10000 9999000 calls [] → TicksEach 10000 9999000 (hears j k calls) []
    unfolding hears
    heard_each zero k calls each = each
    heard_each (suc j) k calls each = heard_each j k calls each

    pub ticks_each : (k : ℕ) → TicksEach 10000 9999000 (elements k) []
    unfolding elements
    ticks_each zero = tt
    ticks_each (suc k) =
        let last = ap (last_tick 9999000) (append-nil (elements k)) ∙ last_of k in
        heard_each n k (Tick (tick k) ∷ elements k) (omega (arith, last), ticks_each k)

    told_soon : (j k : ℕ) → AreToldInTime 9999000 (elements k) [] → AreToldInTime 9999000 (hears j k (Tick (tick k) ∷ elements k)) []
    unfolding hears
    told_soon zero k told = told
    told_soon (suc j) k told =
        let last = ap (last_tick 9999000) (append-nil (hears j k (Tick (tick k) ∷ elements k))) ∙ last_heard j k 9999000 (Tick (tick k) ∷ elements k) in
        (omega (arith, last), told_soon j k told)

    pub told_in_time : (k : ℕ) → AreToldInTime 9999000 (elements k) []
    unfolding elements
    told_in_time zero = tt
    told_in_time (suc k) = told_soon n k (told_in_time k)
