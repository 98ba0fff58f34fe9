-- Lines without glitches.
use Rattle.std.proofs.Common.{rules, ◌≡◌, ◌∙◌, ℕ, ◌+◌, ◌-◌, ◌≤◌, Bool, true, false, not, List, [], ◌∷◌, ◌++◌, reverse, Option, Some, None, refl, subst, ap, arith, inl, inr}
use Rattle.std.specs.Prelude.{if◌then◌else◌, ⊤}
use mathlib.Core.List.{reverse_aux}
use Rattle.std.proofs.lemmas.Bool.{cases_Bool}
use Rattle.record_pulses.specs.declared.edge.Edge.{Edge}
use Rattle.record_pulses.specs.Pulses.{AreInTurn}
use Rattle.record_pulses.specs.declared.steady.Steady.{Steady}
use Rattle.record_pulses.specs.Glitches.{AreFrom, AreInOrder, IsRipe, IsSteady, changes_from, has_level, lasting, lasts, ripe_by, same_level, to_come, without_glitches}

other : (a b : Bool) → same_level a b ≡ false → b ≡ not a
other true true e = absurd cc
other true false e = refl
other false true e = refl
other false false e = absurd cc

twice : (a : Bool) → not (not a) ≡ a
twice true = refl
twice false = refl

so_long : (shortest from to : ℕ) → lasts shortest from to ≡ true → from ≤ to → from + shortest ≤ to
so_long shortest from to e order = let h : shortest ≤ to - from = search rules in omega (arith, h, order)

long_at : (shortest from now to : ℕ) → lasts shortest from now ≡ true → now ≤ to → lasts shortest from to ≡ true
long_at shortest from now to e order =
    let h : shortest ≤ now - from = search rules in
    let k : shortest ≤ to - from = omega (arith, h, order) in search rules

-- ---- what has lasted long enough comes out

from_changes : (now : ℕ) (level : Option Bool) (edges : List Edge) → AreFrom now edges → AreFrom now (changes_from level edges)
from_changes now level [] h = tt
from_changes now level (c ∷ rest) h =
    elim (has_level level c.is_high) as (λ v. AreFrom now (if v then changes_from level rest else c ∷ changes_from (Some c.is_high) rest)) [
      | true ↦ from_changes now level rest h.1
      | false ↦ (h.0, from_changes now (Some c.is_high) rest h.1)
    ]

first_out : (shortest now : ℕ) (begun : Bool) (c : Edge) (later : List Edge) → lasts shortest c.time_ns now ≡ true → AreFrom now later
    → c ∷ lasting shortest true later ≡ lasting shortest begun (c ∷ later)
first_out shortest now begun c [] ripe from = refl
first_out shortest now begun c (d ∷ later) ripe from = rw (long_at shortest c.time_ns now d.time_ns ripe from.0) refl

pub lets_out : (shortest now : ℕ) (begun : Bool) (level : Option Bool) (c : Edge) (rest : List Edge) → lasts shortest c.time_ns now ≡ true → AreFrom now rest
    → c ∷ lasting shortest true (changes_from level rest) ≡ lasting shortest begun (c ∷ changes_from level rest)
lets_out shortest now begun level c rest ripe from =
    first_out shortest now begun c (changes_from level rest) ripe (from_changes now level rest from)

-- ---- what comes out has no glitches

-- changes to the other level, in order, from a level and a time on
abbrev Alternate : Bool → ℕ → List Edge → Type 0
Alternate level time [] = ⊤
Alternate level time (c ∷ rest) = (c.is_high ≡ not level) × (time ≤ c.time_ns) × Alternate c.is_high c.time_ns rest

earlier : (level : Bool) (s t : ℕ) (edges : List Edge) → s ≤ t → Alternate level t edges → Alternate level s edges
earlier level s t [] before h = tt
earlier level s t (c ∷ rest) before h = (h.0, omega (arith, before, h.1), h.2)

alternate : (level : Bool) (time : ℕ) (edges : List Edge) → AreFrom time edges → AreInOrder edges → Alternate level time (changes_from (Some level) edges)
alternate level time [] from order = tt
alternate level time (c ∷ rest) from order = elim (cases_Bool (same_level level c.is_high)) [
  | inl same ↦ rw same (alternate level time rest from.1 order.1)
  | inr not ↦ rw not (other level c.is_high not, from.0, alternate c.is_high c.time_ns rest order.0 order.1)
]

-- two changes of a glitch leave the level as it was
level_back : (level : Bool) (t : ℕ) (d e : Edge) (rest : List Edge) → Alternate level t (d ∷ (e ∷ rest)) → Alternate level t rest
level_back level t d e rest h =
    let back : e.is_high ≡ level = h.2.0 ∙ ap not h.0 ∙ twice level in
    subst (λ (l : Bool). Alternate l t rest) back (earlier e.is_high t e.time_ns rest (omega (arith, h.1, h.2.1)) h.2.2)

steady_after : (shortest from : ℕ) (c : Edge) (changes : List Edge) → c.time_ns + shortest ≤ from → Alternate c.is_high from changes → IsSteady shortest (c ∷ lasting shortest true changes)
steady_after shortest from c [] long h = tt
steady_after shortest from c (d ∷ []) long h = (omega (arith, long, h.1), h.0, tt)
steady_after shortest from c (d ∷ (e ∷ rest)) long h = elim (cases_Bool (lasts shortest d.time_ns e.time_ns)) [
  | inl long_enough ↦
      let after : d.time_ns + shortest ≤ e.time_ns = so_long shortest d.time_ns e.time_ns long_enough h.2.1 in
      rw long_enough (omega (arith, long, h.1), h.0, steady_after shortest e.time_ns d (e ∷ rest) after (h.2.0, omega arith, h.2.2))
  | inr is_short ↦ rw is_short (steady_after shortest from c rest long (level_back c.is_high from d e rest h))
]

steady_first : (shortest : ℕ) (c : Edge) (changes : List Edge) → Alternate c.is_high c.time_ns changes → IsSteady shortest (lasting shortest false (c ∷ changes))
steady_first shortest c [] h = tt
steady_first shortest c (d ∷ rest) h = elim (cases_Bool (lasts shortest c.time_ns d.time_ns)) [
  | inl long_enough ↦ rw long_enough (steady_after shortest d.time_ns c (d ∷ rest) (so_long shortest c.time_ns d.time_ns long_enough h.1) (h.0, omega arith, h.2))
  | inr is_short ↦ rw is_short (steady_first shortest d rest h.2)
]

pub steady : (shortest : ℕ) (edges : List Edge) → AreInOrder edges → IsSteady shortest (without_glitches shortest edges)
steady shortest [] order = tt
steady shortest (c ∷ rest) order = steady_first shortest c (changes_from (Some c.is_high) rest) (alternate c.is_high c.time_ns rest order.0 order.1)

-- ---- and is in turn, the newest first

-- the newest comes before that change, or at its time
abbrev IsBefore : List Edge → Edge → Type 0
IsBefore [] c = ⊤
IsBefore (d ∷ rest) c = d.time_ns ≤ c.time_ns

in_front : (c : Edge) (edges : List Edge) → AreInTurn edges → IsBefore edges c → AreInTurn (c ∷ edges)
in_front c [] turn before = tt
in_front c (d ∷ rest) turn before = (before, turn)

turned : (shortest : ℕ) (c : Edge) (first rest newest : List Edge) → AreInTurn newest → IsBefore newest c → IsSteady shortest (c ∷ (first ++ rest)) → AreInTurn (reverse_aux first (c ∷ newest))
turned shortest c [] rest newest turn before steady = in_front c newest turn before
turned shortest c (d ∷ first) rest newest turn before steady =
    let order = steady.0 in
    turned shortest d first rest (c ∷ newest) (in_front c newest turn before) (omega (arith, order)) steady.2

pub in_turn : (shortest : ℕ) (first rest : List Edge) → IsSteady shortest (first ++ rest) → AreInTurn (reverse first)
in_turn shortest [] rest steady = tt
in_turn shortest (c ∷ first) rest steady = turned shortest c first rest [] tt tt steady

-- ---- what is to come after a change

pub comes_out : (s : Steady) (c d : Edge) (rest : List Edge) → has_level s.level d.is_high ≡ false → s.waiting ≡ Some c → lasts s.shortest_ns c.time_ns d.time_ns ≡ true
    → c ∷ lasting s.shortest_ns true (d ∷ changes_from (Some d.is_high) rest) ≡ to_come s (d ∷ rest)
comes_out s c d rest new waits long = rw (waits, new, long) refl

pub is_left_out : (s : Steady) (c d : Edge) (rest : List Edge) → has_level s.level d.is_high ≡ false → s.waiting ≡ Some c → lasts s.shortest_ns c.time_ns d.time_ns ≡ false
    → s.has_begun ≡ true → to_come (record s { level = Some d.is_high; waiting = None }) rest ≡ to_come s (d ∷ rest)
is_left_out s c d rest new waits short begun = rw (waits, new, short, begun) refl

pub begins_anew : (s : Steady) (c d : Edge) (rest : List Edge) → has_level s.level d.is_high ≡ false → s.waiting ≡ Some c → lasts s.shortest_ns c.time_ns d.time_ns ≡ false
    → s.has_begun ≡ false → to_come (record s { level = Some d.is_high; waiting = Some d }) rest ≡ to_come s (d ∷ rest)
begins_anew s c d rest new waits short begun = rw (waits, new, short, begun) refl

pub ripe_comes : (s : Steady) (c : Edge) (now : ℕ) (rest : List Edge) → s.waiting ≡ Some c → IsRipe now s → AreFrom now rest
    → c ∷ lasting s.shortest_ns true (changes_from s.level rest) ≡ to_come s rest
ripe_comes s c now rest waits ripe from = rw waits (lets_out s.shortest_ns now s.has_begun s.level c rest (so_ripe s.shortest_ns now c (rw waits at ripe)) from)
  where
    so_ripe : (shortest now : ℕ) (c : Edge) → ripe_by shortest now (Some c) ≡ Some c → lasts shortest c.time_ns now ≡ true
    so_ripe shortest now c e = elim (cases_Bool (lasts shortest c.time_ns now)) [ inl long ↦ long | inr short ↦ absurd (let it = rw short at e in cc) ]
