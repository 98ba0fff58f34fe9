-- A change more of a line by both polarities.
use Rattle.std.proofs.Common.{◌≡◌, ◌∙◌, ℕ, ◌≤◌, Bool, true, false, List, [], ◌∷◌, Option, Some, None, refl, sym, ap, arith, inl, inr}
use Rattle.std.specs.Prelude.{⊤}
use Rattle.std.proofs.lemmas.Bool.{cases_Bool}
use Rattle.record_pulses.specs.declared.edge.Edge.{Edge}
use Rattle.record_pulses.specs.declared.edge.Pulse.{Pulse}
use Rattle.record_pulses.specs.declared.looks.Heard.{Heard}
use Rattle.record_pulses.specs.declared.looks.Looks.{Looks}
use Rattle.record_pulses.specs.Glitches.{same_level}
use Rattle.record_pulses.specs.Pulses.{AreInTurn, nearest_us, pulse_between, pulse_ended, pulses_of}
use Rattle.record_pulses.specs.Views.{IsAfter, IsViewOf, place_now}
use Rattle.record_pulses.specs.Looks.{IsLooksOf, first_of, heard_if, heard_of, is_looked_at, is_shown_high, polarity_by, polarity_of, shown_by, told_by}

-- ---- pulses rise in order

-- the newest pulse rose by that time
abbrev RoseBy : ℕ → List Pulse → Type 0
RoseBy time [] = ⊤
RoseBy time (p ∷ before) = p.rise_us ≤ nearest_us time

nearest_order : (s t : ℕ) → s ≤ t → nearest_us s ≤ nearest_us t
nearest_order s t order = omega (arith, order)

rose_later : (s t : ℕ) (pulses : List Pulse) → s ≤ t → RoseBy s pulses → RoseBy t pulses
rose_later s t [] order h = tt
rose_later s t (p ∷ before) order h = let far = nearest_order s t order in omega (arith, far, h)

rose_by : (polarity : Bool) (d : Edge) (before : List Edge) → AreInTurn (d ∷ before) → RoseBy d.time_ns (pulses_of polarity (d ∷ before))
rose_by polarity d [] turn = tt
rose_by polarity d (c ∷ []) turn = tt
rose_by polarity d (c ∷ (b ∷ rest)) turn =
    let was = rose_later c.time_ns d.time_ns (pulses_of polarity (c ∷ (b ∷ rest))) turn.0 (rose_by polarity c (b ∷ rest) turn.1) in
    elim (cases_Bool (same_level c.is_high polarity)) [
      | inr low ↦ rw low was
      | inl up ↦ elim (cases_Bool (same_level d.is_high polarity)) [ inl stays ↦ rw (up, stays) was | inr down ↦ rw (up, down) (nearest_order c.time_ns d.time_ns turn.0) ]
    ]

is_after : (p : Pulse) (time : ℕ) (pulses : List Pulse) → p.rise_us ≡ nearest_us time → RoseBy time pulses → IsAfter p pulses
is_after p time [] e h = tt
is_after p time (q ∷ before) e h = omega (arith, e, h)

pub comes_after : (polarity : Bool) (d : Edge) (before : List Edge) (p : Pulse) → AreInTurn (d ∷ before) → pulse_ended polarity d before ≡ Some p → IsAfter p (pulses_of polarity before)
comes_after polarity d [] p turn e = tt
comes_after polarity d (c ∷ []) p turn e = tt
comes_after polarity d (c ∷ (b ∷ rest)) p turn e = elim (cases_Bool (same_level c.is_high polarity)) [
  | inr low ↦ absurd (let it = rw low at e in cc)
  | inl up ↦ elim (cases_Bool (same_level d.is_high polarity)) [
    | inl stays ↦ absurd (let it = rw (up, stays) at e in cc)
    | inr down ↦
        let it : ◌≡◌ {A = Option Pulse} (Some (pulse_between c.time_ns d.time_ns)) (Some p) = rw (up, down) at e in
        let is : pulse_between c.time_ns d.time_ns ≡ p = cc in
        is_after p c.time_ns (pulses_of polarity (c ∷ (b ∷ rest))) (sym (ap (λ (x : Pulse). x.rise_us) is)) (rose_by polarity c (b ∷ rest) turn.1)
  ]
]

-- ---- by one polarity

pub ended_is : (polarity high : Bool) (d : Edge) (before : List Edge) (p : Pulse) (result : Option Pulse) → high ≡ polarity → result ≡ pulse_ended high d before → result ≡ Some p → pulse_ended polarity d before ≡ Some p
ended_is polarity high d before p result same is some = rw same at (sym is ∙ some)

pub heard_is : (polarity : Bool) (d : Edge) (before : List Edge) (p : Pulse) (place : ℕ) → pulse_ended polarity d before ≡ Some p → place ≡ place_now (p ∷ pulses_of polarity before)
    → ◌≡◌ {A = Option Heard} (Some (record { pulse = p; place = place })) (heard_of polarity d before)
heard_is polarity d before p place e at = rw (e, at) refl

-- ---- by both

nothing_else : (h : Option Heard) → first_of h None ≡ h
nothing_else None = refl
nothing_else (Some h) = refl

pub told_is : (known : Option Bool) (d : Edge) (before : List Edge) → first_of (heard_if (is_looked_at known true) true d before) (heard_if (is_looked_at known false) false d before) ≡ told_by known d before
told_is None d before = refl
told_is (Some true) d before = nothing_else (heard_of true d before)
told_is (Some false) d before = refl

pub polarity_is : (known : Option Bool) (d : Edge) (before : List Edge)
    → polarity_by known (heard_if (is_looked_at known true) true d before) (heard_if (is_looked_at known false) false d before) ≡ polarity_by known (heard_of true d before) (heard_of false d before)
polarity_is None d before = refl
polarity_is (Some known) d before = refl

pub still : (known : Option Bool) (upright inverted : Option Heard) (polarity : Bool) → is_looked_at (polarity_by known upright inverted) polarity ≡ true → is_looked_at known polarity ≡ true
still None upright inverted polarity h = refl
still (Some known) upright inverted polarity h = h

alike : (p : Bool) → same_level p p ≡ true
alike true = refl
alike false = refl

looked : (known : Option Bool) (edges : List Edge) (polarity : Bool) → shown_by known edges ≡ polarity → is_looked_at known polarity ≡ true
looked None edges polarity e = refl
looked (Some known) edges polarity e = rw e (alike polarity)

-- the view that is shown is of the pulses by its polarity
pub shown_upright : (looks : Looks) (given : Option Bool) (edges : List Edge) → IsLooksOf looks given edges → is_shown_high given edges ≡ true → IsViewOf looks.upright.view (pulses_of (is_shown_high given edges) edges)
shown_upright looks given edges h e = rw e ((h.upright (rw (h.polarity) (looked (polarity_of given edges) edges true e))).view)

pub shown_inverted : (looks : Looks) (given : Option Bool) (edges : List Edge) → IsLooksOf looks given edges → is_shown_high given edges ≡ false → IsViewOf looks.inverted.view (pulses_of (is_shown_high given edges) edges)
shown_inverted looks given edges h e = rw e ((h.inverted (rw (h.polarity) (looked (polarity_of given edges) edges false e))).view)
