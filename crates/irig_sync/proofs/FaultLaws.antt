-- A hundred pulses on time, of a line of which one is at fault, are those of elements in a row, but
-- for one or two.
use Rattle.std.proofs.Common.{◌≡◌, ℕ, zero, suc, ◌+◌, ◌-◌, ◌<◌, ◌≤◌, ◌⊎◌, List, [], ◌∷◌, ◌++◌, length, length-append, map, drop, take, slice_get, slice_set, Some, refl, sym, subst, ap, ◌∙◌, arith, inl, inr}
use Rattle.std.specs.List.{range_with_len}
use Rattle.std.proofs.lemmas.Bool.{cases_eq, cases_lt}
use Rattle.std.proofs.lemmas.List.{append_assoc, append-nil, set-append_right}
use Rattle.std.proofs.lemmas.List.FromFn.{get_or-map-range_with_len, length-map-range_with_len, map-range_with_len_more}
use Rattle.std.proofs.lemmas.Option.{slice_get-get_or}
use Rattle.irig_frame.specs.declared.symbol.Symbol.{Symbol}
use Rattle.irig_frame.specs.declared.symbol.Symbol.TheVariants.{Bad}
use Rattle.irig_frame.specs.Symbols.{symbol_of}
use Rattle.irig_sync.specs.Edges.{IsClock}
use Rattle.irig_sync.specs.Lines.{Pulse, AreOnTime, symbols_of_last}
use Rattle.irig_sync.specs.FaultyLines.{IsPulseOf, ArePulsesBefore, ArePulsesLeft, HasOneFault}
use Rattle.irig_sync.proofs.LineLaws.{on_time_is}
use Rattle.irig_sync.proofs.EdgeLaws.{far_apart, two_apart, is_next}

-- ---- elements in a row

-- so many elements of the line from one on
abbrev pub row : (ℕ → Symbol) → ℕ → ℕ → List Symbol
row line b n = map line (range_with_len b n)

row-split : (line : ℕ → Symbol) (b n m : ℕ) → row line b (n + m) ≡ row line b n ++ row line (b + n) m
row-split line b zero m = let e : 0 + m ≡ m = omega arith in let f : b ≡ b + 0 = omega arith in ap (row line b) e ∙ ap (λ (k : ℕ). row line k m) f
row-split line b (suc n) m =
    let e : suc n + m ≡ suc (n + m) = omega arith in
    let f : b + 1 + n ≡ b + suc n = omega arith in
    ap (row line b) e ∙ ap (λ (s : List Symbol). line b ∷ s) (row-split line (b + 1) n m ∙ ap (λ (k : ℕ). row line (b + 1) n ++ row line k m) f)

pub row-get : (line : ℕ → Symbol) (b n i : ℕ) → i < n → slice_get (row line b n) i ≡ Some (line (b + i))
row-get line b n i h =
    let long : length (row line b n) ≡ n = length-map-range_with_len line b n in
    slice_get-get_or (row line b n) i Bad (omega (arith, long, h)) ∙ ap Some (get_or-map-range_with_len line b n i (b + i) Bad h refl)

-- with another symbol in the middle
pub put_one : (line : ℕ → Symbol) (b r l : ℕ) (x : Symbol) → row line b r ++ (x ∷ row line (b + r + 1) l) ≡ slice_set (row line b (r + suc l)) r x
put_one line b r l x =
    let long : length (row line b r) ≡ r = length-map-range_with_len line b r in
    let none : r - r ≡ 0 = omega arith in
    sym (ap (λ (s : List Symbol). slice_set s r x) (row-split line b r (suc l))
    ∙ set-append_right (row line b r) (line (b + r) ∷ row line (b + r + 1) l) r r x long (omega arith)
    ∙ ap (λ (k : ℕ). row line b r ++ slice_set (line (b + r) ∷ row line (b + r + 1) l) k x) none)

-- ---- symbols of pulses

last-append : (a rest : List Pulse) (r : ℕ) → symbols_of_last (length a + r) (a ++ rest) ≡ symbols_of_last r rest ++ symbols_of_last (length a) a
last-append [] rest r = let e : 0 + r ≡ r = omega arith in ap (λ (n : ℕ). symbols_of_last n rest) e ∙ sym (append-nil (symbols_of_last r rest))
last-append (p ∷ a) rest r =
    let e : suc (length a) + r ≡ suc (length a + r) = omega arith in
    ap (λ (n : ℕ). symbols_of_last n (p ∷ (a ++ rest))) e ∙ ap (λ (s : List Symbol). s ++ symbol_of p.width ∷ []) (last-append a rest r)
    ∙ append_assoc (symbols_of_last r rest) (symbols_of_last (length a) a) (symbol_of p.width ∷ [])

pub last-first : (n : ℕ) (a rest : List Pulse) → n ≤ length a → symbols_of_last n (a ++ rest) ≡ symbols_of_last n a
last-first zero a rest h = refl
last-first (suc n) [] rest h = absurd (omega arith)
last-first (suc n) (p ∷ a) rest h = ap (λ (s : List Symbol). s ++ symbol_of p.width ∷ []) (last-first n a rest (omega arith))

last-few : (n : ℕ) (ps : List Pulse) → length (symbols_of_last n ps) ≤ length ps
last-few zero ps = omega arith
last-few (suc n) [] = omega arith
last-few (suc n) (p ∷ ps) = let more = length-append (symbols_of_last n ps) (symbol_of p.width ∷ []) in omega (arith, more, last-few n ps)

-- the pulses before do not matter
pub last-take : (n : ℕ) (ps : List Pulse) → symbols_of_last n (take n ps) ≡ symbols_of_last n ps
last-take zero ps = refl
last-take (suc n) [] = refl
last-take (suc n) (p ∷ ps) = ap (λ (s : List Symbol). s ++ symbol_of p.width ∷ []) (last-take n ps)

pub on-take : (n : ℕ) (ps : List Pulse) → AreOnTime n ps → AreOnTime n (take n ps)
on-take zero ps h = tt
on-take (suc zero) ps h = tt
on-take (suc (suc n)) [] h = absurd h
on-take (suc (suc n)) (p ∷ []) h = absurd h
on-take (suc (suc n)) (p ∷ (q ∷ ps)) h = (h.0, on-take (suc n) (q ∷ ps) (h.1))

module _ (line : ℕ → Symbol) (edges : ℕ → ℕ) (off : ℕ) where
  pub of_row : (k n : ℕ) (ps : List Pulse) → ArePulsesBefore line edges off k ps → n ≤ length ps → (n ≤ k) × (symbols_of_last n ps ≡ row line (k - n) n)
  of_row k zero ps h few = (omega arith, refl)
  of_row k (suc n) [] h few = absurd (omega arith)
  of_row zero (suc n) (p ∷ ps) h few = absurd h
  of_row (suc k) (suc n) (p ∷ ps) h few =
      let before = of_row k n ps (h.1) (omega arith) in
      let low : n ≤ k = before.0 in
      let one : n + 1 ≡ suc n = omega arith in
      let same : k - n ≡ suc k - suc n = omega arith in (
        omega (arith, low),
        ap (λ (s : List Symbol). s ++ symbol_of p.width ∷ []) (before.1)
            ∙ ap (λ (x : Symbol). row line (k - n) n ++ x ∷ []) ((h.0).1)
            ∙ sym (map-range_with_len_more line (k - n) n k (omega (arith, low)))
            ∙ ap (row line (k - n)) one ∙ ap (λ (b : ℕ). row line b (suc n)) same,
      )

  -- the oldest of some pulses
  oldest : (j k : ℕ) (p : Pulse) (a : List Pulse) → k ≡ length a + j → ArePulsesBefore line edges off (suc k) (p ∷ a)
      → (b : List Pulse) × (q : Pulse) × (p ∷ a ≡ b ++ q ∷ []) × IsPulseOf line edges off j q
  oldest j k p [] e h = ([], p, refl, subst (λ (i : ℕ). IsPulseOf line edges off i p) (let same : k ≡ j = omega (arith, e) in same) (h.0))
  oldest j k p (q ∷ a) e h =
      let same : k ≡ suc (length a + j) = omega (arith, e) in
      let rest = oldest j (length a + j) q a refl (subst (λ (i : ℕ). ArePulsesBefore line edges off i (q ∷ a)) same (h.1)) in
      (p ∷ rest.0, rest.1, ap (λ (l : List Pulse). p ∷ l) (rest.2), rest.3)

  -- one pulse less
  pub one_less : (ps : List Pulse) → HasOneFault line edges off ps → (n : ℕ) → HasOneFault line edges off (drop n ps)
  one_less ps h zero = h
  one_less [] h (suc n) = h
  one_less (p ∷ ps) h (suc n) = one_less ps (of (h.element) (h.after) (h.fault) (h.before) (h.parts) (h.few) (h.later) (h.earlier)) n
    where
      tail_of : (p q : Pulse) (ps qs : List Pulse) → p ∷ ps ≡ q ∷ qs → ps ≡ qs
      tail_of p q ps qs e = ap (drop 1) e

      of : (k : ℕ) (after fault before : List Pulse) → p ∷ ps ≡ after ++ (fault ++ before) → length fault ≤ 2 → ArePulsesBefore line edges off (length after + suc k) after → ArePulsesBefore line edges off k before → HasOneFault line edges off ps
      of k (a ∷ after) fault before e few later earlier =
          let one : length (a ∷ after) + suc k ≡ suc (length after + suc k) = omega arith in
          record {
            element = k;
            after = after;
            fault = fault;
            before = before;
            parts = tail_of p a ps (after ++ (fault ++ before)) e;
            few = few;
            later = (subst (λ (i : ℕ). ArePulsesBefore line edges off i (a ∷ after)) one later).1;
            earlier = earlier;
          }
      of k [] (f ∷ fault) before e few later earlier =
          record { element = k; after = []; fault = fault; before = before; parts = tail_of p f ps (fault ++ before) e; few = omega arith; later = tt; earlier = earlier }
      of (suc k) [] [] (b ∷ before) e few later earlier =
          record { element = k; after = []; fault = []; before = before; parts = tail_of p b ps before e; few = omega arith; later = tt; earlier = earlier.1 }
      of zero [] [] (b ∷ before) e few later earlier = absurd earlier
      of k [] [] [] e few later earlier = absurd (let long = ap (length {A = Pulse}) e in omega (arith, long))

  pub left_less : (k : ℕ) (ps : List Pulse) → ArePulsesLeft line edges off k ps → (n : ℕ) → (j : ℕ) × ArePulsesLeft line edges off j (drop n ps)
  left_less k ps h zero = (k, h)
  left_less k [] h (suc n) = (k, h)
  left_less k (p ∷ ps) h (suc n) = left_less (h.0) ps (h.3) n

-- ---- on time

on_tail : (n : ℕ) (p : Pulse) (ps : List Pulse) → AreOnTime (suc n) (p ∷ ps) → AreOnTime n ps
on_tail zero p ps h = tt
on_tail (suc n) p [] h = absurd h
on_tail (suc n) p (q ∷ ps) h = h.1

on_rest : (a rest : List Pulse) (r : ℕ) → AreOnTime (length a + r) (a ++ rest) → AreOnTime r rest
on_rest [] rest r h = subst (λ (n : ℕ). AreOnTime n rest) (let e : 0 + r ≡ r = omega arith in e) h
on_rest (p ∷ a) rest r h =
    let e : suc (length a) + r ≡ suc (length a + r) = omega arith in
    on_rest a rest r (on_tail (length a + r) p (a ++ rest) (subst (λ (n : ℕ). AreOnTime n (p ∷ (a ++ rest))) e h))

apart : (p q : Pulse) (ps : List Pulse) (n : ℕ) → AreOnTime (suc (suc n)) (p ∷ (q ∷ ps)) → (q.rise + 9000 ≤ p.rise) × (p.rise < q.rise + 11000)
apart p q ps n h = let it = (on_time_is (p.rise - q.rise)).0 (h.0) in let low = it.0 in let high = it.1 in (omega (arith, low), omega (arith, low, high))

-- ---- what the port holds

-- a hundred elements in a row, with at most one other symbol
abbrev pub Near : (ℕ → Symbol) → List Symbol → Type 0
Near line heard = (b : ℕ) × (i : ℕ) × (x : Symbol) × (heard ≡ slice_set (row line b 100) i x)

-- two symbols, and elements in a row behind them, or before them
abbrev pub Begins : (ℕ → Symbol) → List Symbol → Type 0
Begins line heard = (k : ℕ) × (x : Symbol) × (y : Symbol) × (heard ≡ x ∷ (y ∷ row line (k + 1) 98))

abbrev pub Ends : (ℕ → Symbol) → List Symbol → Type 0
Ends line heard = (b : ℕ) × (x : Symbol) × (y : Symbol) × (heard ≡ row line b 98 ++ (x ∷ (y ∷ [])))

abbrev pub Holds : (ℕ → Symbol) → List Symbol → Type 0
Holds line heard = Near line heard ⊎ (Begins line heard ⊎ Ends line heard)

module _ (line : ℕ → Symbol) (edges : ℕ → ℕ) (off d : ℕ) (clock : IsClock d off edges) where
  -- the oldest pulse behind the fault, on time behind the one before it
  joint : (k : ℕ) (p : Pulse) (a : List Pulse) (q : Pulse) (qs : List Pulse) → length (p ∷ a) < 100 → ArePulsesBefore line edges off (length (p ∷ a) + suc k) (p ∷ a) → AreOnTime 100 ((p ∷ a) ++ (q ∷ qs))
      → (z : Pulse) × IsPulseOf line edges off (suc k) z × (q.rise + 9000 ≤ z.rise) × (z.rise < q.rise + 11000)
  joint k p a q qs few later on =
      let one : length (p ∷ a) + suc k ≡ suc (length a + suc k) = omega arith in
      let old = oldest line edges off (suc k) (length a + suc k) p a refl (subst (λ (i : ℕ). ArePulsesBefore line edges off i (p ∷ a)) one later) in
      let long : length (p ∷ a) ≡ length (old.0) + 1 = ap (length {A = Pulse}) {y = old.0 ++ (old.1 ∷ [])} (old.2) ∙ length-append (old.0) (old.1 ∷ []) in
      let hundred : 100 ≡ length (old.0) + suc (suc (98 - length (old.0))) = omega (arith, long, few) in
      let same : (p ∷ a) ++ (q ∷ qs) ≡ old.0 ++ (old.1 ∷ (q ∷ qs)) = ap (λ (l : List Pulse). l ++ (q ∷ qs)) {y = old.0 ++ (old.1 ∷ [])} (old.2) ∙ append_assoc (old.0) (old.1 ∷ []) (q ∷ qs) in
      let behind = on_rest (old.0) (old.1 ∷ (q ∷ qs)) (suc (suc (98 - length (old.0)))) (subst (λ (n : ℕ). AreOnTime n (old.0 ++ (old.1 ∷ (q ∷ qs)))) hundred (subst (AreOnTime 100) same on)) in
      let times = apart (old.1) q qs (98 - length (old.0)) behind in
      (old.1, old.3, times.0, times.1)

  module _ (k : ℕ) (before : List Pulse) (heard : List Symbol) (earlier : ArePulsesBefore line edges off k before) (all : length heard ≡ 100) where
    -- the symbols behind the fault, and the rest
    behind : (after : List Pulse) → ArePulsesBefore line edges off (length after + suc k) after → (rest : List Pulse) (r : ℕ) → 100 ≡ length after + r → heard ≡ symbols_of_last 100 (after ++ rest)
        → heard ≡ symbols_of_last r rest ++ row line (k + 1) (length after)
    behind after later rest r e is =
        let it = of_row line edges off (length after + suc k) (length after) after later (omega arith) in
        let from : length after + suc k - length after ≡ k + 1 = omega arith in
        is ∙ ap (λ (n : ℕ). symbols_of_last n (after ++ rest)) e ∙ last-append after rest r
        ∙ ap (λ (s : List Symbol). symbols_of_last r rest ++ s) (it.1 ∙ ap (λ (b : ℕ). row line b (length after)) from)

    enough : (ps : List Pulse) → heard ≡ symbols_of_last 100 ps → 100 ≤ length ps
    enough ps is = let few = last-few 100 ps in let long : length heard ≡ length (symbols_of_last 100 ps) = ap length is in omega (arith, few, long, all)

    in_row : (ps : List Pulse) (n : ℕ) → ArePulsesBefore line edges off n ps → heard ≡ symbols_of_last 100 ps → Near line heard
    in_row ps n h is = let it = of_row line edges off n 100 ps h (enough ps is) in (n - 100, 0, line (n - 100), is ∙ it.1)

    lost : (after : List Pulse) → ArePulsesBefore line edges off (length after + suc k) after → length after < 100 → heard ≡ symbols_of_last 100 (after ++ before) → AreOnTime 100 (after ++ before) → Holds line heard
    lost [] later few is on = inl (in_row before k earlier is)
    lost (p ∷ a) later few is on = of k before earlier later is on
      where
        of : (k : ℕ) (before : List Pulse) → ArePulsesBefore line edges off k before → ArePulsesBefore line edges off (length (p ∷ a) + suc k) (p ∷ a) → heard ≡ symbols_of_last 100 ((p ∷ a) ++ before) → AreOnTime 100 ((p ∷ a) ++ before) → Holds line heard
        of k [] earlier later is on = absurd (let long = enough ((p ∷ a) ++ []) is in let same = length-append {A = Pulse} (p ∷ a) [] in omega (arith, long, same, few))
        of zero (q ∷ qs) earlier later is on = absurd earlier
        of (suc k) (q ∷ qs) earlier later is on =
            let z = joint (suc k) p a q qs few later on in
            let far = far_apart d off edges clock k (suc (suc k)) q.rise (z.0).rise (earlier.0).0 (z.1).0 (omega arith) in
            absurd (omega (arith, far, z.3))

    changed : (after : List Pulse) (x : Pulse) → ArePulsesBefore line edges off (length after + suc k) after → length after < 100 → heard ≡ symbols_of_last 100 (after ++ (x ∷ before)) → Holds line heard
    changed after x later few is =
        let r : ℕ = 99 - length after in
        let hundred : 100 ≡ length after + suc r = omega (arith, few) in
        let long = enough (after ++ (x ∷ before)) is in
        let parts = length-append after (x ∷ before) in
        let it = of_row line edges off k r before earlier (omega (arith, long, parts)) in
        let low : r ≤ k = it.0 in
        let from : k + 1 ≡ k - r + r + 1 = omega (arith, low) in
        let same : r + suc (length after) ≡ 100 = omega (arith, few) in
        inl (
          k - r,
          r,
          symbol_of x.width,
          behind after later (x ∷ before) (suc r) hundred is
              ∙ append_assoc (symbols_of_last r before) (symbol_of x.width ∷ []) (row line (k + 1) (length after))
              ∙ ap (λ (s : List Symbol). s ++ (symbol_of x.width ∷ row line (k + 1) (length after))) (it.1)
              ∙ ap (λ (b : ℕ). row line (k - r) r ++ (symbol_of x.width ∷ row line b (length after))) from
              ∙ put_one line (k - r) r (length after) (symbol_of x.width)
              ∙ ap (λ (n : ℕ). slice_set (row line (k - r) n) r (symbol_of x.width)) same,
        )

    -- two pulses, the newer one first: the port holds the newer one alone, or both at its end
    newer : (after : List Pulse) (y x : Pulse) → ArePulsesBefore line edges off (length after + suc k) after → length after ≡ 99 → heard ≡ symbols_of_last 100 (after ++ (y ∷ (x ∷ before))) → Holds line heard
    newer after y x later e is =
        let hundred : 100 ≡ length after + 1 = omega (arith, e) in
        let from : k + 1 ≡ k + 0 + 1 = omega arith in
        inl (
          k,
          0,
          symbol_of y.width,
          behind after later (y ∷ (x ∷ before)) 1 hundred is
              ∙ ap (λ (n : ℕ). symbol_of y.width ∷ row line (k + 1) n) e
              ∙ ap (λ (b : ℕ). symbol_of y.width ∷ row line b 99) from
              ∙ put_one line k 0 99 (symbol_of y.width),
        )

    at_end : (y x : Pulse) → heard ≡ symbols_of_last 100 (y ∷ (x ∷ before)) → Holds line heard
    at_end y x is =
        let long = enough (y ∷ (x ∷ before)) is in
        let it = of_row line edges off k 98 before earlier (omega (arith, long)) in
        inr (inr (
          k - 98,
          symbol_of x.width,
          symbol_of y.width,
          is ∙ append_assoc (symbols_of_last 98 before) (symbol_of x.width ∷ []) (symbol_of y.width ∷ [])
              ∙ ap (λ (s : List Symbol). s ++ (symbol_of x.width ∷ (symbol_of y.width ∷ []))) (it.1),
        ))

    at_begin : (after : List Pulse) (y x : Pulse) → ArePulsesBefore line edges off (length after + suc k) after → length after ≡ 98 → heard ≡ symbols_of_last 100 (after ++ (y ∷ (x ∷ before))) → Holds line heard
    at_begin after y x later e is =
        let hundred : 100 ≡ length after + 2 = omega (arith, e) in
        inr (inl (
          k,
          symbol_of x.width,
          symbol_of y.width,
          behind after later (y ∷ (x ∷ before)) 2 hundred is ∙ ap (λ (n : ℕ). symbol_of x.width ∷ (symbol_of y.width ∷ row line (k + 1) n)) e,
        ))

    -- both cannot stand between their neighbours, each on time
    both : (p : Pulse) (a : List Pulse) (y x : Pulse) → ArePulsesBefore line edges off (length (p ∷ a) + suc k) (p ∷ a) → length (p ∷ a) < 98 → heard ≡ symbols_of_last 100 ((p ∷ a) ++ (y ∷ (x ∷ before)))
        → AreOnTime 100 ((p ∷ a) ++ (y ∷ (x ∷ before))) → ⊥
    both p a y x later few is on = of k before earlier later is on
      where
        of : (k : ℕ) (before : List Pulse) → ArePulsesBefore line edges off k before → ArePulsesBefore line edges off (length (p ∷ a) + suc k) (p ∷ a) → heard ≡ symbols_of_last 100 ((p ∷ a) ++ (y ∷ (x ∷ before)))
            → AreOnTime 100 ((p ∷ a) ++ (y ∷ (x ∷ before))) → ⊥
        of k [] earlier later is on = let long = enough ((p ∷ a) ++ (y ∷ (x ∷ []))) is in let same = length-append (p ∷ a) (y ∷ (x ∷ [])) in absurd (omega (arith, long, same, few))
        of zero (q ∷ qs) earlier later is on = earlier
        of (suc k) (q ∷ qs) earlier later is on =
            let z = joint (suc k) p a y (x ∷ (q ∷ qs)) (omega (arith, few)) later on in
            let r : ℕ = 97 - length (p ∷ a) in
            let hundred : 100 ≡ length (p ∷ a) + suc (suc (suc r)) = omega (arith, few) in
            let rest : AreOnTime (suc (suc (suc r))) (y ∷ (x ∷ (q ∷ qs))) = on_rest (p ∷ a) (y ∷ (x ∷ (q ∷ qs))) (suc (suc (suc r))) (subst (λ (n : ℕ). AreOnTime n ((p ∷ a) ++ (y ∷ (x ∷ (q ∷ qs))))) hundred on) in
            let first = apart y x (q ∷ qs) (suc r) rest in
            let second = apart x q qs r (rest.1) in
            let near = two_apart d off edges clock k q.rise (z.0).rise (earlier.0).0 (z.1).0 in
            absurd (omega (arith, near, z.2, first.0, second.0))

    two : (after : List Pulse) (y x : Pulse) → ArePulsesBefore line edges off (length after + suc k) after → length after < 100 → heard ≡ symbols_of_last 100 (after ++ (y ∷ (x ∷ before)))
        → AreOnTime 100 (after ++ (y ∷ (x ∷ before))) → Holds line heard
    two [] y x later few is on = at_end y x is
    two (p ∷ a) y x later few is on = elim (cases_eq (length (p ∷ a)) 99) [
      | inl e ↦ newer (p ∷ a) y x later e is
      | inr n ↦ elim (cases_eq (length (p ∷ a)) 98) [
        | inl e ↦ at_begin (p ∷ a) y x later e is
        | inr m ↦ absurd (both p a y x later (omega (arith, few, n, m)) is on)
      ]
    ]

    any : (after fault : List Pulse) → length fault ≤ 2 → ArePulsesBefore line edges off (length after + suc k) after → length after < 100 → heard ≡ symbols_of_last 100 (after ++ (fault ++ before))
        → AreOnTime 100 (after ++ (fault ++ before)) → Holds line heard
    any after [] most later few is on = lost after later few is on
    any after (x ∷ []) most later few is on = changed after x later few is
    any after (y ∷ (x ∷ [])) most later few is on = two after y x later few is on
    any after (y ∷ (x ∷ (w ∷ more))) most later few is on = absurd (omega (arith, most))

  pub holds : (ps : List Pulse) (heard : List Symbol) → HasOneFault line edges off ps → length heard ≡ 100 → heard ≡ symbols_of_last 100 ps → AreOnTime 100 ps → Holds line heard
  holds ps heard h all is on =
      let same : heard ≡ symbols_of_last 100 (h.after ++ (h.fault ++ h.before)) = is ∙ ap (symbols_of_last 100) (h.parts) in
      elim (cases_lt (length (h.after)) 100) [
        | inl few ↦ any (h.element) (h.before) heard (h.earlier) all (h.after) (h.fault) (h.few) (h.later) few same (subst (AreOnTime 100) (h.parts) on)
        | inr many ↦ inl (in_row (h.element) (h.before) heard (h.earlier) all (h.after) (length (h.after) + suc (h.element)) (h.later) (same ∙ last-first 100 (h.after) (h.fault ++ h.before) many))
      ]

  -- ---- lost pulses

  -- so many on time are those of elements in a row
  pub left_in_row : (n k : ℕ) (p : Pulse) (ps : List Pulse) → (h : ArePulsesLeft line edges off k (p ∷ ps)) → AreOnTime (suc n) (p ∷ ps)
      → (b : ℕ) × (h.0 ≡ b + n) × (symbols_of_last (suc n) (p ∷ ps) ≡ row line b (suc n))
  left_in_row zero k p ps h on =
      (h.0, (let same : h.0 ≡ h.0 + 0 = omega arith in same), ap (λ (x : Symbol). x ∷ []) ((h.2).1))
  left_in_row (suc n) k p [] h on = absurd on
  left_in_row (suc n) k p (q ∷ ps) h on =
      let before = left_in_row n (h.0) q ps (h.3) (on.1) in
      let next : h.0 ≡ suc ((h.3).0) = is_next d off edges clock ((h.3).0) (h.0) q.rise p.rise ((h.3).2).0 (h.2).0 ((h.3).1) (on.0) in
      let last : (h.3).0 ≡ before.0 + n = before.1 in
      let here : h.0 ≡ before.0 + suc n = omega (arith, next, last) in
      let one : suc n + 1 ≡ suc (suc n) = omega arith in (
        before.0,
        here,
        ap (λ (s : List Symbol). s ++ symbol_of p.width ∷ []) (before.2) ∙ ap (λ (x : Symbol). row line (before.0) (suc n) ++ x ∷ []) ((h.2).1)
            ∙ sym (map-range_with_len_more line (before.0) (suc n) (h.0) (sym here)) ∙ ap (row line (before.0)) one,
      )
