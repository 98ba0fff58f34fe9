-- A fault of a line costs the places of its own frame alone.
use Rattle.std.proofs.Common.{◌≡◌, ℕ, zero, suc, ◌+◌, ◌-◌, ◌*◌, ◌/◌, ◌%◌, ◌<◌, ◌≤◌, ◌⊎◌, Bool, true, false, List, [], ◌∷◌, ◌++◌, length, refl, sym, subst, ap, ◌∙◌, arith, inl, inr}
use Rattle.std.proofs.lemmas.Bool.{cases_Bool, cases_eq}
use Rattle.std.proofs.lemmas.List.{append-nil}
use Rattle.irig_frame.specs.declared.symbol.Symbol.{Symbol}
use Rattle.irig_frame.specs.FieldTable.{is_marker_place}
use Rattle.irig_sync.specs.Edges.{IsClock}
use Rattle.irig_sync.specs.Sync.{is_marker_symbol, is_marker, is_on_time, place_at}
use Rattle.irig_sync.specs.Lines.{Pulse, place_after, IsTrueLine, IsTimeOf}
use Rattle.irig_sync.specs.FaultyLines.{IsPulseOf, ArePulsesBefore, HasOneFault, LeavesTheNext}
use Rattle.irig_sync.proofs.LineLaws.{marks, step_at, on_time_is}
use Rattle.irig_sync.proofs.EdgeLaws.{element_most, small, next_apart, far_apart}
use Rattle.irig_sync.proofs.FaultLaws.{of_row}

on_time_if : (g : ℕ) → 9000 ≤ g → g < 11000 → is_on_time g ≡ true
on_time_if g low high = (on_time_is g).1 (low, high)

late_if : (g : ℕ) → g < 9000 ⊎ 11000 ≤ g → is_on_time g ≡ false
late_if g far = elim (cases_Bool (is_on_time g)) [
  | inl on ↦ let it = (on_time_is g).0 on in absurd (elim far [ inl less ↦ omega (arith, it.0, less) | inr more ↦ omega (arith, it.1, more) ])
  | inr off ↦ off
]

-- the first of a frame is counted so, if it comes behind a marker, or not on time, or behind place 100
first_place : (on was : Bool) (place : ℕ) → (was ≡ true) ⊎ ((on ≡ false) ⊎ (place ≡ 100)) → place_at on true was place ≡ 1
first_place on was place (inl e) = rw e refl
first_place on true place (inr (inl e)) = refl
first_place on false place (inr (inl e)) = rw e refl
first_place on true place (inr (inr e)) = refl
first_place true false place (inr (inr e)) = rw e refl
first_place false false place (inr (inr e)) = refl

begins : (p q : Pulse) (ps : List Pulse) → is_marker p.width ≡ true → (is_marker q.width ≡ true) ⊎ ((is_on_time (p.rise - q.rise) ≡ false) ⊎ (place_after (q ∷ ps) ≡ 100)) → place_after (p ∷ (q ∷ ps)) ≡ 1
begins p q ps marker c = rw marker (first_place (is_on_time (p.rise - q.rise)) (is_marker q.width) (place_after (q ∷ ps)) c)

module _ (line : ℕ → Symbol) (edges : ℕ → ℕ) (off d : ℕ) (clock : IsClock d off edges) (true_line : IsTrueLine line) where
  marks_of : (k : ℕ) (p : Pulse) → IsPulseOf line edges off k p → is_marker p.width ≡ is_marker_place (k % 100)
  marks_of k p h = ap is_marker_symbol (h.1) ∙ marks line true_line k

  -- of neighbours the later one is on time
  on_time_behind : (k time before : ℕ) → IsTimeOf edges off (suc k) time → IsTimeOf edges off k before → is_on_time (time - before) ≡ true
  on_time_behind k time before h g =
      let gap = next_apart d off edges clock k before time g h in
      on_time_if (time - before) (omega (arith, gap.0)) (omega (arith, gap.0, gap.1))

  neighbours : (k : ℕ) (p q : Pulse) → IsPulseOf line edges off (suc k) p → IsPulseOf line edges off k q → is_on_time (p.rise - q.rise) ≡ true
  neighbours k p q h g = on_time_behind k p.rise q.rise h.0 g.0

  next_place : (k : ℕ) (p q : Pulse) (ps : List Pulse) → IsPulseOf line edges off (suc k) p → IsPulseOf line edges off k q
      → place_after (p ∷ (q ∷ ps)) ≡ place_at true (is_marker_place (suc k % 100)) (is_marker_place (k % 100)) (place_after (q ∷ ps))
  next_place k p q ps h g = rw (neighbours k p q h g, marks_of (suc k) p h, marks_of k q g) refl

  -- from the first of a frame on, whose last neighbour came or which is counted as it is, all are
  from_first : (first oldest : ℕ) (rest : List Pulse) → first % 100 ≡ 0 → oldest ≤ first → (oldest ≡ first → (p : Pulse) → IsPulseOf line edges off first p → place_after (p ∷ rest) ≡ 1)
      → (a : List Pulse) (p : Pulse) → ArePulsesBefore line edges off (suc (length a + oldest)) (p ∷ a) → first ≤ length a + oldest → place_after (p ∷ (a ++ rest)) ≡ (length a + oldest) % 100 + 1
  from_first first oldest rest whole low base [] p h past =
      let same : oldest ≡ first = omega (arith, low, past) in
      let here : 0 + oldest ≡ first = omega (arith, same) in
      base same p (subst (λ (i : ℕ). IsPulseOf line edges off i p) here (h.0)) ∙ (let one : 1 ≡ (0 + oldest) % 100 + 1 = omega (arith, whole, same) in one)
  from_first first oldest rest whole low base (q ∷ a) p h past =
      let k : ℕ = length a + oldest in
      let one : length (q ∷ a) + oldest ≡ suc k = omega arith in
      let at : ArePulsesBefore line edges off (suc (suc k)) (p ∷ (q ∷ a)) = subst (λ (i : ℕ). ArePulsesBefore line edges off (suc i) (p ∷ (q ∷ a))) one h in
      let step = next_place k p q (a ++ rest) (at.0) ((at.1).0) in
      step ∙ elim (cases_eq (suc k % 100) 0) [
        | inl e ↦ (let last : k % 100 ≡ 99 = omega (arith, e) in rw (e, last) (let same : 1 ≡ (length (q ∷ a) + oldest) % 100 + 1 = omega (arith, e, one) in same))
        | inr n ↦
            let before = from_first first oldest rest whole low base a q (at.1) (omega (arith, past, one, n, whole)) in
            let there : suc k % 100 ≡ (k % 100 + 1) % 100 = omega arith in
            let end : suc k % 100 + 1 ≡ (length (q ∷ a) + oldest) % 100 + 1 = omega (arith, one) in
            ap (place_at true (is_marker_place (suc k % 100)) (is_marker_place (k % 100))) before
            ∙ ap (λ (i : ℕ). place_at true (is_marker_place i) (is_marker_place (k % 100)) (k % 100 + 1)) there
            ∙ step_at (k % 100) (omega arith) ∙ ap (λ (i : ℕ). i + 1) (sym there) ∙ end
      ]

  pub in_step : (k : ℕ) (p : Pulse) (ps : List Pulse) → ArePulsesBefore line edges off (suc k) (p ∷ ps) → 100 ≤ length ps → place_after (p ∷ ps) ≡ k % 100 + 1
  in_step k p ps h many =
      let low : length ps ≤ k = (of_row line edges off k (length ps) ps (h.1) (omega arith)).0 in
      let same : k ≡ length ps + (k - length ps) = omega (arith, low) in
      let first : ℕ = k - k % 100 in
      let it = from_first first (k - length ps) [] (omega arith) (omega (arith, low, many)) (λ e. absurd (omega (arith, e, low, many))) ps p
      (subst (λ (i : ℕ). ArePulsesBefore line edges off (suc i) (p ∷ ps)) same h) (omega (arith, low)) in
      ap (λ (l : List Pulse). place_after (p ∷ l)) (sym (append-nil ps)) ∙ it ∙ ap (λ (i : ℕ). i % 100 + 1) (sym same)

  -- the first of the next frame, behind a fault at the last of one
  next_first : (k : ℕ) (fault before : List Pulse) → ArePulsesBefore line edges off k before → length fault ≤ 2 → k % 100 ≡ 99 → LeavesTheNext edges off d k fault before
      → (p : Pulse) → IsPulseOf line edges off (suc k) p → place_after (p ∷ (fault ++ before)) ≡ 1
  next_first k fault before earlier few last leaves p h = of k fault before earlier few last leaves h
    where
      here : (k : ℕ) → k % 100 ≡ 99 → IsPulseOf line edges off (suc k) p → is_marker p.width ≡ true
      here k last h = marks_of (suc k) p h ∙ ap is_marker_place (let first : suc k % 100 ≡ 0 = omega (arith, last) in first)

      -- a pulse at the time of the k-th element, in step
      counted : (k : ℕ) (x : Pulse) (before : List Pulse) → ArePulsesBefore line edges off k before → IsTimeOf edges off k x.rise → place_after before ≡ 99 → is_marker x.width ≡ false → place_after (x ∷ before) ≡ 100
      counted k x [] earlier time step bit = absurd (omega (arith, step))
      counted zero x (q ∷ qs) earlier time step bit = absurd earlier
      counted (suc k) x (q ∷ qs) earlier time step bit =
          let on : is_on_time (x.rise - q.rise) ≡ true = on_time_behind k x.rise q.rise time (earlier.0).0 in
          rw (on, bit, step) refl

      of : (k : ℕ) (fault before : List Pulse) → ArePulsesBefore line edges off k before → length fault ≤ 2 → k % 100 ≡ 99 → LeavesTheNext edges off d k fault before → IsPulseOf line edges off (suc k) p → place_after (p ∷ (fault ++ before)) ≡ 1
      of k [] [] earlier few last leaves h = rw (here k last h) refl
      of zero [] (q ∷ qs) earlier few last leaves h = absurd earlier
      of (suc k) [] (q ∷ qs) earlier few last leaves h =
          let far = far_apart d off edges clock k (suc (suc k)) q.rise p.rise (earlier.0).0 h.0 (omega arith) in
          let late : is_on_time (p.rise - q.rise) ≡ false = late_if (p.rise - q.rise) (inr (omega (arith, far))) in
          begins p q qs (here (suc k) last h) (inr (inl late))
      of k (x ∷ []) before earlier few last (inl marker) h = begins p x before (here k last h) (inl marker)
      of k (x ∷ []) before earlier few last (inr plain) h = elim (cases_Bool (is_marker x.width)) [
        | inl marker ↦ begins p x before (here k last h) (inl marker)
        | inr bit ↦ begins p x before (here k last h) (inr (inr (counted k x before earlier (plain.0) (plain.1) bit)))
      ]
      of k (y ∷ (x ∷ [])) before earlier few last (inl marker) h = begins p y (x ∷ before) (here k last h) (inl marker)
      of k (y ∷ (x ∷ [])) before earlier few last (inr late) h =
          let next = element_most d edges clock.steady (small d off edges clock) k in
          let early : is_on_time (p.rise - y.rise) ≡ false = late_if (p.rise - y.rise) (inl (omega (arith, h.0.1, next, late))) in
          begins p y (x ∷ before) (here k last h) (inr (inl early))
      of k (y ∷ (x ∷ (w ∷ more))) before earlier few last leaves h = absurd (omega (arith, few))

  pub own_frame : (pulses : List Pulse) (h : HasOneFault line edges off pulses) → (h.element % 100 < 99) ⊎ LeavesTheNext edges off d h.element h.fault h.before → 100 * (h.element / 100 + 1) ≤ h.element + length h.after
      → place_after pulses ≡ (h.element + length h.after) % 100 + 1
  own_frame pulses h mild past = ap place_after (h.parts) ∙ of (h.after) (h.later) past
    where
      k : ℕ
      k = h.element

      first : ℕ
      first = 100 * (h.element / 100 + 1)

      base : suc h.element ≡ 100 * (h.element / 100 + 1) → (p : Pulse) → IsPulseOf line edges off (100 * (h.element / 100 + 1)) p → place_after (p ∷ (h.fault ++ h.before)) ≡ 1
      base e p is = elim mild [
        | inl less ↦ absurd (omega (arith, less, e))
        | inr leaves ↦ next_first (h.element) (h.fault) (h.before) (h.earlier) (h.few) (omega (arith, e)) leaves p (subst (λ (i : ℕ). IsPulseOf line edges off i p) (sym e) is)
      ]

      of : (after : List Pulse) → ArePulsesBefore line edges off (length after + suc h.element) after → 100 * (h.element / 100 + 1) ≤ h.element + length after → place_after (after ++ (h.fault ++ h.before)) ≡ (h.element + length after) % 100 + 1
      of [] later past = absurd (omega (arith, past))
      of (p ∷ a) later past =
          let one : length (p ∷ a) + suc h.element ≡ suc (length a + suc h.element) = omega arith in
          let same : length a + suc h.element ≡ h.element + length (p ∷ a) = omega arith in
          from_first (100 * (h.element / 100 + 1)) (suc h.element) (h.fault ++ h.before) (omega arith) (omega arith) base a p
          (subst (λ (i : ℕ). ArePulsesBefore line edges off i (p ∷ a)) one later) (omega (arith, past, same))
          ∙ ap (λ (i : ℕ). i % 100 + 1) same
