-- Lines of which one pulse is at fault, worked by hand, so that a wrong definition does not check.
use Rattle.irig_sync.proofs.EdgeLaws.{even_element}
use Rattle.std.proofs.Common.{◌≡◌, ℕ, zero, suc, ◌+◌, ◌*◌, ◌%◌, ◌≤◌, List, [], ◌∷◌, ◌++◌, length, drop, take, ◌-◌, get_or, Some, refl, sym, ap, subst, ◌∙◌, arith, inl, inr}
use Rattle.std.proofs.lemmas.List.{take_all, length-drop}
use Rattle.irig_frame.specs.declared.symbol.Symbol.{Symbol}
use Rattle.irig_frame.specs.declared.symbol.Symbol.TheVariants.{Zero, One, Marker, Bad}
use Rattle.irig_frame.specs.Symbols.{symbol_of, width_of}
use Rattle.irig_frame.specs.Decoder.{IsRight}
use Rattle.irig_sync.specs.Edges.{element_at}
use Rattle.irig_sync.specs.Lines.{Pulse, pulse_at, place_after}
use Rattle.irig_sync.specs.FaultyLines.{IsPulseOf, ArePulsesBefore, ArePulsesLeft, HasOneFault, HasOneFaultInAHundred, LeavesTheNext}
use Rattle.irig_sync.proofs.FaultLaws.{one_less}
use Rattle.irig_sync.proofs.StandardFacts.{fast, line, known_line}

-- when frames begin by a counter that does not drift
abbrev even : ℕ → ℕ
even n = 1000000 * n

at : (k : ℕ) → element_at even k ≡ 10000 * k
at k = let time = even_element 1000000 even (λ n. omega arith) k in omega (arith, time)

-- n pulses of the line from its j-th on, of nominal times and widths, the newest first
abbrev pulses : ℕ → ℕ → List Pulse
pulses j zero = []
pulses j (suc n) = pulse_at (10000 * (j + n)) (width_of (line (j + n))) ∷ pulses j n

same_symbol : (x : Symbol) → symbol_of (width_of x) ≡ x
same_symbol Zero = refl
same_symbol One = refl
same_symbol Marker = refl
same_symbol Bad = refl

in_time : (j n k : ℕ) → k ≡ j + n → ArePulsesBefore line even 500 k (pulses j n)
in_time j zero k e = tt
in_time j (suc n) k e =
    let same : suc (j + n) ≡ k = omega (arith, e) in
    subst (λ (i : ℕ). ArePulsesBefore line even 500 i (pulses j (suc n))) same (((omega (arith, at (j + n)), omega (arith, at (j + n))), same_symbol (line (j + n))), in_time j n (j + n) refl)

-- they are those of elements in a row. So is one 0.4 ms late and 7 ms wide; not one 0.5 ms late, or
-- 5 ms wide, or of the element before
pub known_pulses : ArePulsesBefore line even 500 103 (pulses 100 3) × ArePulsesBefore line even 500 1 (pulse_at 400 7000 ∷ []) × ¬ ArePulsesBefore line even 500 1 (pulse_at 500 8000 ∷ [])
    × ¬ ArePulsesBefore line even 500 1 (pulse_at 0 5000 ∷ []) × ¬ ArePulsesBefore line even 500 2 (pulses 0 1)
known_pulses = (in_time 100 3 103 refl, (((omega arith, omega arith), refl), tt), λ h. absurd (omega (arith, ((h.0).0).1)), λ h. absurd (let it : ◌≡◌ {A = Symbol} One Marker = (h.0).1 in cc), λ h. absurd (omega (arith, ((h.0).0).0)))

-- of five elements the second and the fourth are lost; so they are in order, and each has its width
pub known_left : ArePulsesLeft line even 500 5 (pulses 4 1 ++ pulses 2 1 ++ pulses 0 1) × ¬ ArePulsesLeft line even 500 5 (pulses 0 1 ++ pulses 2 1) × ¬ ArePulsesLeft line even 500 5 (pulse_at 0 2000 ∷ [])
known_left = (
  (4, omega arith, ((omega arith, omega arith), refl), (2, omega arith, ((omega arith, omega arith), refl), (0, omega arith, ((omega arith, omega arith), refl), tt))),
  λ h. absurd (let t = (h.2).0 in let u = ((h.3).2).0 in let less = (h.3).1 in omega (arith, t.0, u.1, less, at h.0, at (h.3).0)),
  λ h. absurd (let t = (h.2).0 in let first : h.0 ≡ 0 = omega (arith, t.0, at h.0) in let it : Zero ≡ Marker = (h.2).1 ∙ ap line first in cc),
)

-- of two frames element 50 is lost, or late by 3 ms, or cut in two, or there is a glitch behind it
pub known_faults : HasOneFault line even 500 (pulses 51 149 ++ pulses 0 50) × HasOneFault line even 500 (pulses 51 149 ++ (pulse_at 503000 2000 ∷ pulses 0 50))
    × HasOneFault line even 500 (pulses 51 149 ++ (pulse_at 501000 1000 ∷ (pulse_at 500000 500 ∷ pulses 0 50))) × HasOneFault line even 500 (pulses 51 149 ++ (pulse_at 505000 20 ∷ pulses 0 51))
known_faults = (
  record { element = 50; after = pulses 51 149; fault = []; before = pulses 0 50; parts = refl; few = omega arith; later = in_time 51 149 200 refl; earlier = in_time 0 50 50 refl },
  record { element = 50; after = pulses 51 149; fault = pulse_at 503000 2000 ∷ []; before = pulses 0 50; parts = refl; few = omega arith; later = in_time 51 149 200 refl; earlier = in_time 0 50 50 refl },
  record { element = 50; after = pulses 51 149; fault = pulse_at 501000 1000 ∷ (pulse_at 500000 500 ∷ []); before = pulses 0 50; parts = refl; few = omega arith; later = in_time 51 149 200 refl; earlier = in_time 0 50 50 refl },
  record { element = 50; after = pulses 51 149; fault = pulse_at 505000 20 ∷ (pulse_at 500000 (width_of (line 50)) ∷ []); before = pulses 0 50; parts = refl; few = omega arith; later = in_time 51 149 200 refl; earlier = in_time 0 50 50 refl },
)

-- three glitches are no single fault
abbrev glitch : Pulse
glitch = pulse_at 0 20

not_of_line : (k : ℕ) (p : Pulse) → p ≡ glitch → symbol_of p.width ≡ line k → ⊥
not_of_line k p e h =
    let bad : Bad ≡ line k = ap (λ (q : Pulse). symbol_of q.width) (sym e) ∙ h in
    subst (λ (x : Symbol). IsRight (k % 100) (Some x)) (sym bad) (known_line.0 k)

pub known_refused : ¬ HasOneFault line even 500 (glitch ∷ (glitch ∷ (glitch ∷ [])))
known_refused h = of (h.after) (h.fault) (h.before) (h.parts) (h.few) (length (h.after) + suc h.element) h.element (h.later) (h.earlier)
  where
    head_at : (n : ℕ) (ps qs : List Pulse) → ps ≡ qs → get_or (drop n qs) 0 glitch ≡ get_or (drop n ps) 0 glitch
    head_at n ps qs e = ap (λ (l : List Pulse). get_or (drop n l) 0 glitch) (sym e)

    first_bad : (k : ℕ) (p : Pulse) (ps : List Pulse) → p ≡ glitch → ArePulsesBefore line even 500 k (p ∷ ps) → ⊥
    first_bad zero p ps e later = later
    first_bad (suc k) p ps e later = not_of_line k p e ((later.0).1)

    of : (after fault before : List Pulse) → glitch ∷ (glitch ∷ (glitch ∷ [])) ≡ after ++ (fault ++ before) → length fault ≤ 2 → (k j : ℕ) → ArePulsesBefore line even 500 k after → ArePulsesBefore line even 500 j before → ⊥
    of (p ∷ after) fault before e few k j later earlier = first_bad k p after (head_at 0 _ (p ∷ (after ++ (fault ++ before))) e) later
    of [] [] [] e few k j later earlier = absurd (let long = ap (length {A = Pulse}) e in omega (arith, long))
    of [] [] (p ∷ before) e few k j later earlier = first_bad j p before (head_at 0 _ (p ∷ before) e) earlier
    of [] (x ∷ []) [] e few k j later earlier = absurd (let long = ap (length {A = Pulse}) e in omega (arith, long))
    of [] (x ∷ []) (p ∷ before) e few k j later earlier = first_bad j p before (head_at 1 _ (x ∷ (p ∷ before)) e) earlier
    of [] (x ∷ (y ∷ [])) [] e few k j later earlier = absurd (let long = ap (length {A = Pulse}) e in omega (arith, long))
    of [] (x ∷ (y ∷ [])) (p ∷ before) e few k j later earlier = first_bad j p before (head_at 2 _ (x ∷ (y ∷ (p ∷ before))) e) earlier
    of [] (x ∷ (y ∷ (z ∷ more))) before e few k j later earlier = absurd (omega (arith, few))

-- nor are they one fault in a hundred; of less than a hundred pulses one fault is one
abbrev some_lost : List Pulse
some_lost = pulses 51 9 ++ pulses 0 50

pub known_seldom : HasOneFaultInAHundred line even 500 some_lost × ¬ HasOneFaultInAHundred line even 500 (glitch ∷ (glitch ∷ (glitch ∷ [])))
known_seldom = (seldom, λ h. known_refused (h 0))
  where
    lost : HasOneFault line even 500 some_lost
    lost = record { element = 50; after = pulses 51 9; fault = []; before = pulses 0 50; parts = refl; few = omega arith; later = in_time 51 9 60 refl; earlier = in_time 0 50 50 refl }

    seldom : (n : ℕ) → HasOneFault line even 500 (take 100 (drop n some_lost))
    seldom n =
        let long : length (drop n some_lost) ≡ 59 - n = length-drop n some_lost in
        subst (HasOneFault line even 500) (sym (take_all 100 (drop n some_lost) (omega (arith, long)))) (one_less line even 500 some_lost lost n)

-- ---- what a fault costs

-- with element 50 lost the frame's last pulse has no place, and all of the next frame have
pub known_costs : (place_after (pulses 0 100) ≡ 100) × (place_after (pulses 51 49 ++ pulses 0 50) ≡ 0) × (place_after (pulses 51 50 ++ pulses 0 50) ≡ 1) × (place_after (pulses 51 149 ++ pulses 0 50) ≡ 100)
known_costs = (refl, refl, refl, refl)

-- a frame's last pulse that is lost, or a bit, or late, leaves the next frame its first
pub known_leaves : LeavesTheNext even 500 0 99 [] (pulses 0 99) × LeavesTheNext even 500 0 99 (pulse_at 990000 5000 ∷ []) (pulses 0 99) × LeavesTheNext even 500 0 99 (pulse_at 993000 8000 ∷ []) (pulses 0 99)
    × (place_after (pulse_at 1000000 8000 ∷ pulses 0 99) ≡ 1) × (place_after (pulse_at 1000000 8000 ∷ (pulse_at 990000 5000 ∷ pulses 0 99)) ≡ 1) × (place_after (pulse_at 1000000 8000 ∷ (pulse_at 993000 8000 ∷ pulses 0 99)) ≡ 1)
known_leaves = (tt, inr ((omega arith, omega arith), refl), inl refl, refl, refl, refl)

-- one that is cut in its first millisecond, so that a bit is left of it, does not: the next frame's
-- first pulse has no place. Cut 1.5 ms behind its leading edge it does
pub known_cut : ¬ LeavesTheNext even 500 0 99 (pulse_at 990900 5900 ∷ (pulse_at 990000 500 ∷ [])) (pulses 0 99) × (place_after (pulse_at 1000000 8000 ∷ (pulse_at 990900 5900 ∷ (pulse_at 990000 500 ∷ pulses 0 99))) ≡ 0)
    × LeavesTheNext even 500 0 99 (pulse_at 991500 5300 ∷ (pulse_at 990000 500 ∷ [])) (pulses 0 99) × (place_after (pulse_at 1000000 8000 ∷ (pulse_at 991500 5300 ∷ (pulse_at 990000 500 ∷ pulses 0 99))) ≡ 1)
known_cut =
    (λ h. elim h [ inl marker ↦ absurd cc | inr late ↦ absurd (omega (arith, late)) ], refl, inr (omega arith), refl)

-- by a counter that drifts 1 us more is needed: here an element is 1 us long, and the next frame's
-- first pulse rises 9 ms behind one that is out of step. 1 us later it does not
abbrev cut_at : ℕ → List Pulse
cut_at late = pulse_at (991099 + late) 5000 ∷ (pulse_at 992448 500 ∷ [])

pub known_drift : ¬ LeavesTheNext fast 450 100 99 (cut_at 1450) [] × IsPulseOf line fast 450 100 (pulse_at 1001549 8000) × (place_after (pulse_at 1001549 8000 ∷ cut_at 1450) ≡ 0)
    × LeavesTheNext fast 450 100 99 (cut_at 1451) [] × (place_after (pulse_at 1001549 8000 ∷ cut_at 1451) ≡ 1)
known_drift = (λ h. elim h [ inl marker ↦ absurd cc | inr late ↦ absurd (omega (arith, late)) ], ((omega arith, omega arith), refl), refl, inr (omega arith), refl)
