-- What is counted came on time, and no rotation of true frames reads as one.
use Rattle.std.proofs.Common.{◌↔◌, ◌^◌, rules, ◌≡◌, ℕ, zero, suc, ◌+◌, ◌-◌, ◌%◌, ◌<◌, ◌≤◌, Bool, true, false, cond, eqb, nat_lt, not, List, [], ◌∷◌, Option, Some, refl, sym, subst, ap, ◌∙◌, arith, inl, inr}
use Rattle.std.proofs.lemmas.Bool.{cases_Bool, cases_lt, agree_below_at, eqb-true}
use Rattle.irig_frame.specs.declared.symbol.Symbol.{Symbol}
use Rattle.irig_frame.specs.declared.symbol.Symbol.TheVariants.{Zero, One, Marker, Bad}
use Rattle.irig_frame.specs.declared.coded.Coded.{Coded}
use Rattle.irig_frame.specs.FieldTable.{is_marker_place}
use Rattle.irig_frame.specs.Decoder.{IsRight, Reads}
use Rattle.irig_sync.specs.declared.sync.Sync.{Sync}
use Rattle.irig_sync.specs.Sync.{is_marker_symbol, is_marker, is_on_time, clock_gap, place_at, place_behind, place_of, pulse_of, is_idle, idle_of, flag}
use Rattle.irig_sync.specs.Lines.{Pulse, pulse_at, IsSyncOf, IsInTurn, place_after, AreOnTime, ArePlacesFrom, IsTrueLine, StandAt, IsAfter, IsLive, IsIdle, IsOut, IsSyncAt, IsSoon}

-- ---- no rotation

-- at a marker element of a right line stands no marker but at a marker element, and the other way
marker_here : (i j : ℕ) (x : Symbol) → is_marker_place i ≡ true → IsRight i (Some x) → IsRight j (Some x) → is_marker_place j ≡ true
marker_here i j Marker m a b = b
marker_here i j Zero m a b = absurd cc
marker_here i j One m a b = absurd cc
marker_here i j Bad m a b = absurd a

-- of two elements in a row the last of a frame and the first are the only two markers
pair_at : (r : ℕ) → r < 100 → is_marker_place r ≡ true → is_marker_place ((r + 99) % 100) ≡ true → r ≡ 0
pair_at r h a b =
    let test : cond (is_marker_place r) (cond (is_marker_place ((r + 99) % 100)) (eqb r 0) true) true ≡ true =
    agree_below_at (λ k. cond (is_marker_place k) (cond (is_marker_place ((k + 99) % 100)) (eqb k 0) true) true) (λ _. true) 100 r refl h in
    eqb-true r 0 (subst (λ (t : Bool). cond t (eqb r 0) true ≡ true) b (subst (λ (t : Bool). cond t (cond (is_marker_place ((r + 99) % 100)) (eqb r 0) true) true ≡ true) a test))

pub only_whole : (line : ℕ → Symbol) (k : ℕ) (s : List Symbol) (c : Coded) → IsTrueLine line → StandAt line k s → Reads s c → k % 100 ≡ 0
only_whole line k s c right stands reads =
    let here : k + 0 ≡ k = omega arith in
    let same : (k + 99) % 100 ≡ (k % 100 + 99) % 100 = omega arith in
    let first : IsRight 0 (Some (line (k + 0))) = subst (λ (x : Option Symbol). IsRight 0 x) (stands 0 (omega arith)) (reads.elements 0 (omega arith)) in
    let last : IsRight 99 (Some (line (k + 99))) = subst (λ (x : Option Symbol). IsRight 99 x) (stands 99 (omega arith)) (reads.elements 99 (omega arith)) in
    let at_first : is_marker_place (k % 100) ≡ true = marker_here 0 (k % 100) (line (k + 0)) refl first (subst (λ (j : ℕ). IsRight (j % 100) (Some (line (k + 0)))) here (right (k + 0))) in
    let at_last : is_marker_place ((k % 100 + 99) % 100) ≡ true = subst (λ (j : ℕ). is_marker_place j ≡ true) same (marker_here 99 ((k + 99) % 100) (line (k + 99)) refl last (right (k + 99))) in
    pair_at (k % 100) (omega arith) at_first at_last

-- ---- a line is found

pub marks : (line : ℕ → Symbol) → IsTrueLine line → (k : ℕ) → is_marker_symbol (line k) ≡ is_marker_place (k % 100)
marks line right k = of (line k) (right k)
  where
    of : (x : Symbol) → IsRight (k % 100) (Some x) → is_marker_symbol x ≡ is_marker_place (k % 100)
    of Marker h = sym h
    of Zero h = sym h
    of One h = sym h
    of Bad h = absurd h

pub step_at : (n : ℕ) → n < 100 → place_at true (is_marker_place ((n + 1) % 100)) (is_marker_place n) (n + 1) ≡ (n + 1) % 100 + 1
step_at n h =
    eqb-true _ _ (agree_below_at (λ k. eqb (place_at true (is_marker_place ((k + 1) % 100)) (is_marker_place k) (k + 1)) ((k + 1) % 100 + 1)) (λ _. true) 100 n refl h)

next : (line : ℕ → Symbol) (places : ℕ → ℕ) (a k r : ℕ) → IsTrueLine line → ArePlacesFrom line a places → a ≤ k → k % 100 ≡ r → places (suc k) ≡ place_at true (is_marker_place ((r + 1) % 100)) (is_marker_place r) (places k)
next line places a k r right run h e =
    let there : suc k % 100 ≡ (r + 1) % 100 = omega (arith, e) in
    let now : is_marker_symbol (line (suc k)) ≡ is_marker_place ((r + 1) % 100) = marks line right (suc k) ∙ ap is_marker_place there in
    let before : is_marker_symbol (line k) ≡ is_marker_place r = marks line right k ∙ ap is_marker_place e in
    subst (λ (b : Bool). places (suc k) ≡ place_at true (is_marker_place ((r + 1) % 100)) b (places k)) before
    (subst (λ (b : Bool). places (suc k) ≡ place_at true b (is_marker_symbol (line k)) (places k)) now (run k h))

walk : (line : ℕ → Symbol) (places : ℕ → ℕ) (a m : ℕ) → IsTrueLine line → ArePlacesFrom line a places → a ≤ m → m % 100 ≡ 99 → (n : ℕ) → n < 100 → places (suc m + n) ≡ n + 1
walk line places a m right run h e zero lt =
    let here : suc m + 0 ≡ suc m = omega arith in
    subst (λ (j : ℕ). places j ≡ 1) (sym here) (next line places a m 99 right run h e)
walk line places a m right run h e (suc n) lt =
    let here : suc m + suc n ≡ suc (suc m + n) = omega arith in
    let at : (suc m + n) % 100 ≡ n = omega (arith, e) in
    let so : places (suc m + n) ≡ n + 1 = walk line places a m right run h e n (omega arith) in
    let then : places (suc (suc m + n)) ≡ place_at true (is_marker_place ((n + 1) % 100)) (is_marker_place n) (places (suc m + n)) = next line places a (suc m + n) n right run (omega arith) at in
    let that : places (suc (suc m + n)) ≡ (n + 1) % 100 + 1 = subst (λ (p : ℕ). places (suc (suc m + n)) ≡ place_at true (is_marker_place ((n + 1) % 100)) (is_marker_place n) p) so then ∙ step_at n (omega arith) in
    subst (λ (j : ℕ). places j ≡ suc n + 1) (sym here) (that ∙ (let last : (n + 1) % 100 + 1 ≡ suc n + 1 = omega arith in last))

pub found : (line : ℕ → Symbol) (a : ℕ) (places : ℕ → ℕ) → IsTrueLine line → ArePlacesFrom line a places → (k : ℕ) → a + 100 ≤ k → places k ≡ k % 100 + 1
found line a places right run k h =
    let m : ℕ = k - k % 100 - 1 in
    let whole : suc m + k % 100 ≡ k = omega arith in
    let end : m % 100 ≡ 99 = omega arith in
    subst (λ (j : ℕ). places j ≡ k % 100 + 1) whole (walk line places a m right run (omega arith) end (k % 100) (omega arith))

-- ---- what is counted

some : (n : ℕ) → nat_lt (suc n) 1 ≡ false
some n = search rules

within : (n : ℕ) → nat_lt (suc n) 100 ≡ true → place_behind (suc n) ≡ suc (suc n)
within n less = rw (some n, less) (omega arith)

beyond : (n : ℕ) → nat_lt (suc n) 100 ≡ false → nat_lt 100 (suc n) ≡ true → place_behind (suc n) ≡ 0
beyond n not far = rw (some n, not, far) refl

at_end : (n : ℕ) → nat_lt (suc n) 100 ≡ false → nat_lt 100 (suc n) ≡ false → place_behind (suc n) ≡ 1
at_end n not near = rw (some n, not, near) refl

further : (place : ℕ) (p q : Pulse) (ps : List Pulse) → is_on_time (p.rise - q.rise) ≡ true → AreOnTime place (q ∷ ps) → AreOnTime (place_behind place) (p ∷ (q ∷ ps))
further zero p q ps on h = tt
further (suc n) p q ps on h =
    elim (cases_Bool (nat_lt (suc n) 100)) [
      | inl less ↦ subst (λ (j : ℕ). AreOnTime j (p ∷ (q ∷ ps))) (sym (within n less)) (on, h)
      | inr not ↦ elim (cases_Bool (nat_lt 100 (suc n))) [
        | inl far ↦ subst (λ (j : ℕ). AreOnTime j (p ∷ (q ∷ ps))) (sym (beyond n not far)) tt
        | inr near ↦ subst (λ (j : ℕ). AreOnTime j (p ∷ (q ∷ ps))) (sym (at_end n not near)) tt
      ]
    ]

pub counted : (pulses : List Pulse) → AreOnTime (place_after pulses) pulses
counted [] = tt
counted (p ∷ []) = alone (is_marker p.width)
  where
    alone : (marker : Bool) → AreOnTime (flag marker) (p ∷ [])
    alone true = tt
    alone false = tt
counted (p ∷ (q ∷ ps)) = step (counted (q ∷ ps)) (is_on_time (p.rise - q.rise)) (is_marker p.width) (is_marker q.width) refl
  where
    step : AreOnTime (place_after (q ∷ ps)) (q ∷ ps) → (on marker was : Bool) → is_on_time (p.rise - q.rise) ≡ on → AreOnTime (place_at on marker was (place_after (q ∷ ps))) (p ∷ (q ∷ ps))
    step h true true true e = tt
    step h false true true e = tt
    step h false true false e = tt
    step h false false was e = tt
    step h true true false e = further (place_after (q ∷ ps)) p q ps e h
    step h true false was e = further (place_after (q ∷ ps)) p q ps e h

-- ---- a pulse more

pub gap_is : (u v : ℕ) → u ≤ v → v < u + 2 ^ 32 → clock_gap (u % 2 ^ 32) (v % 2 ^ 32) ≡ v - u
gap_is u v h k = omega arith

-- a byte that says it is read so
read_flag : (b : Bool) → not (eqb (flag b) 0) ≡ b
read_flag true = refl
read_flag false = refl

-- out of step, behind a marker, a pulse has place 1 if it is a marker and else 0, whether it is on
-- time or not
fresh_place : (on marker : Bool) → place_at on marker true 0 ≡ flag marker
fresh_place true true = refl
fresh_place true false = refl
fresh_place false true = refl
fresh_place false false = refl

late_place : (marker was : Bool) (place : ℕ) → place_at false marker was place ≡ flag marker
late_place true true place = refl
late_place true false place = refl
late_place false true place = refl
late_place false false place = refl

pub next_place : (s : Sync) (pulses : List Pulse) (time width : ℕ) → IsSyncOf s pulses → IsInTurn pulses time → place_of s (time % 2 ^ 32) width ≡ place_after (pulse_at time width ∷ pulses)
next_place s [] time width h near =
    let a = h.place in let b = h.last in rw (a, b) (fresh_place _ _)
next_place s (q ∷ ps) time width h near =
    let a = h.place in let b = h.last.0 in let c = h.last.1 in
    rw (a, b, c, gap_is q.rise time near.0 near.1, read_flag (is_marker q.width)) refl

pub one_more : (s : Sync) (pulses : List Pulse) (time width : ℕ) → IsSyncOf s pulses → IsInTurn pulses time
    → IsSyncOf (pulse_of s (time % 2 ^ 32) width) (pulse_at time width ∷ pulses)
one_more s pulses time width h near = record { place = next_place s pulses time width h near; last = (refl, refl) }

pub on_time_is : (g : ℕ) → (is_on_time g ≡ true) ↔ ((9000 ≤ g) × (g < 11000))
on_time_is g = search rules

-- ---- an idle line

far_gap : (g : ℕ) → 11000 ≤ g → is_on_time g ≡ false
far_gap g h = grind (arith, h)

out_place : (s : Sync) (rise width : ℕ) → IsOut s → place_of s rise width ≡ flag (is_marker width)
out_place s rise width h = let a = h.0 in let b = h.1 in rw (a, b) (fresh_place _ _)

idle_place : (pulses : List Pulse) (now time width : ℕ) → IsIdle pulses now → IsSoon now time → flag (is_marker width) ≡ place_after (pulse_at time width ∷ pulses)
idle_place [] now time width idle soon = refl
idle_place (q ∷ ps) now time width idle soon =
    rw (far_gap (time - q.rise) (omega (arith, idle, soon.0))) (sym (late_place (is_marker width) (is_marker q.width) (place_after (q ∷ ps))))

pub live_turn : (pulses : List Pulse) (now time : ℕ) → IsLive pulses now → IsAfter pulses time → IsSoon now time → IsInTurn pulses time
live_turn [] now time live after soon = absurd live
live_turn (q ∷ ps) now time live after soon = (after, omega (arith, live.1, soon.1))

pub place_at_time : (s : Sync) (pulses : List Pulse) (now time width : ℕ) → IsSyncAt s pulses now → IsAfter pulses time → IsSoon now time
    → place_of s (time % 2 ^ 32) width ≡ place_after (pulse_at time width ∷ pulses)
place_at_time s pulses now time width h after soon = elim h [
  | inl live ↦ next_place s pulses time width live.0 (live_turn pulses now time live.1 after soon)
  | inr out ↦ out_place s (time % 2 ^ 32) width out.0 ∙ idle_place pulses now time width out.1 soon
]

pub pulse_at_time : (s : Sync) (pulses : List Pulse) (now time width : ℕ) → IsSyncAt s pulses now → IsAfter pulses time → IsSoon now time
    → IsSyncAt (pulse_of s (time % 2 ^ 32) width) (pulse_at time width ∷ pulses) time
pulse_at_time s pulses now time width h after soon =
    inl (record { place = place_at_time s pulses now time width h after soon; last = (refl, refl) }, (omega arith, omega arith))

pub first_at_time : (s : Sync) (now : ℕ) → IsSyncOf s [] → IsSyncAt s [] now
first_at_time s now h = inr ((h.place, h.last), tt)

not_idle : (g : ℕ) → g < 1000000 → is_idle g ≡ false
not_idle g h = grind (arith, h)

so_idle : (g : ℕ) → 1000000 ≤ g → g < 2 ^ 31 → is_idle g ≡ true
so_idle g h k = grind (arith, h, k)

longer_idle : (pulses : List Pulse) (now time : ℕ) → now ≤ time → IsIdle pulses now → IsIdle pulses time
longer_idle [] now time on idle = tt
longer_idle (p ∷ ps) now time on idle = omega (arith, idle, on)

stays_out : (s : Sync) (b : Bool) → IsOut s → IsOut (cond b (record s { place = 0; was_marker = 1 }) s)
stays_out s true out = (refl, refl)
stays_out s false out = out

pub idle_at_time : (s : Sync) (pulses : List Pulse) (now time : ℕ) → IsSyncAt s pulses now → now ≤ time → IsSoon now time → IsSyncAt (idle_of s (time % 2 ^ 32)) pulses time
idle_at_time s [] now time (inl live) on soon = absurd live.1
idle_at_time s (p ∷ ps) now time (inl live) on soon =
    let gap : clock_gap s.rise_us (time % 2 ^ 32) ≡ time - p.rise =
    ap (λ (x : ℕ). clock_gap x (time % 2 ^ 32)) (live.0).last.0 ∙ gap_is p.rise time (omega (arith, live.1.0, on)) (omega (arith, live.1.1, soon.1)) in
    elim (cases_lt (time - p.rise) 1000000) [
      | inl less ↦
          let stays : is_idle (clock_gap s.rise_us (time % 2 ^ 32)) ≡ false = ap is_idle gap ∙ not_idle (time - p.rise) less in
          rw stays (inl (live.0, (omega (arith, live.1.0, on), omega (arith, less))))
      | inr long ↦
          let goes : is_idle (clock_gap s.rise_us (time % 2 ^ 32)) ≡ true = ap is_idle gap ∙ so_idle (time - p.rise) long (omega (arith, live.1.1, soon.1)) in
          rw goes (inr ((refl, refl), omega (arith, long)))
    ]
idle_at_time s pulses now time (inr out) on soon =
    inr (stays_out s (is_idle (clock_gap s.rise_us (time % 2 ^ 32))) out.0, longer_idle pulses now time on out.1)
