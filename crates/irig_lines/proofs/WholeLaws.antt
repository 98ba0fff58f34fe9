-- A line's whole frames: where the last one ended, and that they lie a frame apart.
use Rattle.std.specs.Prelude.{◌==◌, nat_le}
use Rattle.std.proofs.Common.{◌≡◌, ℕ, zero, suc, ◌+◌, ◌-◌, ◌*◌, ◌%◌, ◌^◌, ◌≤◌, Bool, true, false, cond, List, [], ◌∷◌, refl, ap, ◌∙◌, arith, inl, inr}
use Rattle.std.proofs.lemmas.Bool.{cases_Bool, eqb-true, eqb-false, ne_eqb, leb-true}
use Rattle.irig_sync.specs.Sync.{is_marker, is_on_time, clock_gap, flag}
use Rattle.irig_sync.specs.Lines.{Pulse, place_after, IsAfter}
use Rattle.irig_sync.proofs.LineLaws.{on_time_is}
use Rattle.irig_port.proofs.RunLaws.{Places, places}
use Rattle.irig_lines.specs.declared.setup.ClockRules.{ClockRules}
use Rattle.irig_lines.specs.Exactness.{uneven_us}
use Rattle.irig_lines.specs.Lines.{rise_before, KnowsBegin, AreEven}
use Rattle.irig_lines.specs.Steps.{is_even, begin_behind}
use Rattle.irig_lines.proofs.PartLaws.{split}

-- the end of the last whole frame of these pulses, 0 if there was none
pub whole_of : List Pulse → ℕ
whole_of [] = 0
whole_of (p ∷ ps) = cond (place_after (p ∷ ps) == 100) (p.rise + 10000) (whole_of ps)

-- the pulses rise one after another
abbrev pub AreSorted : List Pulse → Type 0
AreSorted [] = Unit {0}
AreSorted (p ∷ ps) = IsAfter ps p.rise × AreSorted ps

pub nothing_whole : whole_of [] ≡ 0
unfolding whole_of
nothing_whole = refl

pub whole_here : (p : Pulse) (ps : List Pulse) → place_after (p ∷ ps) ≡ 100 → whole_of (p ∷ ps) ≡ p.rise + 10000
unfolding whole_of
whole_here p ps at = rw at refl

pub not_whole : (p : Pulse) (ps : List Pulse) → ¬ (place_after (p ∷ ps) ≡ 100) → whole_of (p ∷ ps) ≡ whole_of ps
unfolding whole_of
not_whole p ps other = rw (ne_eqb (place_after (p ∷ ps)) 100 other) refl

-- it ended an element behind the last pulse at most
before_low : (p : Pulse) (ps : List Pulse) → AreSorted (p ∷ ps) → whole_of ps ≤ p.rise + 10000
unfolding whole_of
before_low p [] sorted = omega arith
before_low p (q ∷ qs) sorted = omega (arith, sorted.0, by (place_after (q ∷ qs) == 100) (before_low q qs sorted.1))
  where
    by : (b : Bool) → whole_of qs ≤ q.rise + 10000 → cond b (q.rise + 10000) (whole_of qs) ≤ q.rise + 10000
    by true low = omega arith
    by false low = low

-- so by a time before which none rose it lies an element ahead at most
pub whole_by : (pulses : List Pulse) (now : ℕ) → AreSorted pulses → IsAfter pulses now → whole_of pulses ≤ now + 10000
unfolding whole_of
whole_by [] now sorted after = omega arith
whole_by (p ∷ ps) now sorted after = by (place_after (p ∷ ps) == 100) (before_low p ps sorted)
  where
    by : (b : Bool) → whole_of ps ≤ p.rise + 10000 → cond b (p.rise + 10000) (whole_of ps) ≤ now + 10000
    by true low = omega (arith, after)
    by false low = omega (arith, after, low)

at_most_one : (b : Bool) → flag b ≤ 1
at_most_one true = omega arith
at_most_one false = omega arith

-- in a frame a pulse lies as many elements behind its end as the place says
pub far_behind : (p : Pulse) (ps : List Pulse) → AreSorted (p ∷ ps) → 1 ≤ place_after (p ∷ ps) → whole_of ps + 9000 * (place_after (p ∷ ps) - 1) ≤ p.rise + 10000
far_behind p [] sorted some = omega (arith, before_low p [] sorted, at_most_one (is_marker p.width))
far_behind p (q ∷ qs) sorted some = of (places (is_on_time (p.rise - q.rise)) (is_marker p.width) (is_marker q.width) (place_after (q ∷ qs))) (λ some. far_behind q qs sorted.1 some)
  where
    of : Places (is_on_time (p.rise - q.rise)) (place_after (q ∷ qs)) (place_after (p ∷ (q ∷ qs))) → (1 ≤ place_after (q ∷ qs) → whole_of qs + 9000 * (place_after (q ∷ qs) - 1) ≤ q.rise + 10000)
        → whole_of (q ∷ qs) + 9000 * (place_after (p ∷ (q ∷ qs)) - 1) ≤ p.rise + 10000
    of (inl none) far = absurd (omega (arith, none, some))
    of (inr (inl first)) far = omega (arith, first, before_low p (q ∷ qs) sorted)
    of (inr (inr next)) far =
        let gap = (on_time_is (p.rise - q.rise)).0 next.0 in
        let before = far next.2 in
        let inside : ¬ (place_after (q ∷ qs) ≡ 100) = λ at. omega (arith, at, next.3) in
        let same = not_whole q qs inside in
        omega (arith, gap.0, before, same, next.1, next.2)

-- so two whole frames lie 0.891 s apart at least
pub whole_apart : (p : Pulse) (ps : List Pulse) → AreSorted (p ∷ ps) → place_after (p ∷ ps) ≡ 100 → whole_of ps + 891000 ≤ p.rise + 10000
whole_apart p ps sorted at = omega (arith, far_behind p ps sorted (omega (arith, at)), at)

-- and a pulse more ends none before the last
pub whole_grows : (p : Pulse) (ps : List Pulse) → AreSorted (p ∷ ps) → whole_of ps ≤ whole_of (p ∷ ps)
whole_grows p ps sorted = elim (cases_Bool (place_after (p ∷ ps) == 100)) [
  | inl at ↦ (let here = whole_here p ps (eqb-true (place_after (p ∷ ps)) 100 at) in omega (arith, here, before_low p ps sorted))
  | inr other ↦ (let same = not_whole p ps (eqb-false (place_after (p ∷ ps)) 100 other) in omega (arith, same))
]

-- ---- when a frame began

-- in a frame a pulse has the place behind that of the one before, on time
pub next_in_frame : (p q : Pulse) (ps : List Pulse) (n : ℕ) → place_after (p ∷ (q ∷ ps)) ≡ suc (suc n) → (is_on_time (p.rise - q.rise) ≡ true) × (place_after (q ∷ ps) ≡ suc n)
next_in_frame p q ps n at = of (places (is_on_time (p.rise - q.rise)) (is_marker p.width) (is_marker q.width) (place_after (q ∷ ps)))
  where
    of : Places (is_on_time (p.rise - q.rise)) (place_after (q ∷ ps)) (place_after (p ∷ (q ∷ ps))) → (is_on_time (p.rise - q.rise) ≡ true) × (place_after (q ∷ ps) ≡ suc n)
    of (inl none) = absurd (omega (arith, none, at))
    of (inr (inl first)) = absurd (omega (arith, first, at))
    of (inr (inr next)) = (next.0, omega (arith, next.1, at))

pub alone_first : (p : Pulse) (n : ℕ) → ¬ (place_after (p ∷ []) ≡ suc (suc n))
alone_first p n at = omega (arith, at, at_most_one (is_marker p.width))

pub begin_more : (begin place : ℕ) (p : Pulse) (pulses : List Pulse) → KnowsBegin begin pulses → place ≡ place_after (p ∷ pulses) → KnowsBegin (begin_behind place (p.rise % 2 ^ 32) begin) (p ∷ pulses)
begin_more begin place p pulses before is zero at = (let first : place ≡ 1 = omega (arith, is, at) in rw first refl)
begin_more begin place p [] before is (suc n) at = absurd (alone_first p n at)
begin_more begin place p (q ∷ ps) before is (suc n) at =
    let inside : ¬ (place ≡ 1) = λ e. omega (arith, e, is, at) in
    rw (ne_eqb place 1 inside) (before n (next_in_frame p q ps n at).1)

-- so at the next pulse, if that begins none
pub begin_here : (begin n : ℕ) (p : Pulse) (pulses : List Pulse) → KnowsBegin begin pulses → place_after (p ∷ pulses) ≡ suc (suc n) → begin ≡ rise_before (suc n) (p ∷ pulses) % 2 ^ 32
begin_here begin n p [] before at = absurd (alone_first p n at)
begin_here begin n p (q ∷ ps) before at = before n (next_in_frame p q ps n at).1

-- it rose so many elements before
pub in_frame : (n : ℕ) (p : Pulse) (ps : List Pulse) → place_after (p ∷ ps) ≡ suc n → (rise_before n (p ∷ ps) ≤ p.rise) × (p.rise ≤ rise_before n (p ∷ ps) + 11000 * n)
in_frame zero p ps at = (omega arith, omega arith)
in_frame (suc n) p [] at = absurd (alone_first p n at)
in_frame (suc n) p (q ∷ ps) at =
    let next = next_in_frame p q ps n at in
    let gap = (on_time_is (p.rise - q.rise)).0 next.0 in
    let before = in_frame n q ps next.1 in
    (omega (arith, gap.0, before.0), omega (arith, gap.0, gap.1, before.1))

-- so a line whose frame is even by its clock has an even one
pub even_here : (c : ClockRules) (begin : ℕ) (p : Pulse) (pulses : List Pulse) → KnowsBegin begin pulses → place_after (p ∷ pulses) ≡ 100 → is_even c begin (p.rise % 2 ^ 32) ≡ true → AreEven c.within.us c.drift_us (p ∷ pulses)
even_here c begin p pulses before at even =
    let first : ℕ = rise_before 99 (p ∷ pulses) in
    let frame = in_frame 99 p pulses at in
    let begins : begin ≡ first % 2 ^ 32 = begin_here begin 98 p pulses before at in
    let gap : clock_gap begin (p.rise % 2 ^ 32) ≡ p.rise - first = ap (λ (b : ℕ). clock_gap b (p.rise % 2 ^ 32)) begins ∙ (let there : clock_gap (first % 2 ^ 32) (p.rise % 2 ^ 32) ≡ p.rise - first = omega (arith, frame.0, frame.1) in there) in
    let off : ℕ = uneven_us c.within.us c.drift_us in
    let parts = split (nat_le 990000 (clock_gap begin (p.rise % 2 ^ 32) + off)) (nat_le (clock_gap begin (p.rise % 2 ^ 32)) (990000 + off)) even in
    let least = leb-true 990000 (clock_gap begin (p.rise % 2 ^ 32) + off) parts.0 in
    let most = leb-true (clock_gap begin (p.rise % 2 ^ 32)) (990000 + off) parts.1 in
    (omega (arith, gap, frame.0, least), omega (arith, gap, frame.0, most))
