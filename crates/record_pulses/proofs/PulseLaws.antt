-- Pulses on their line.
use Rattle.std.proofs.Common.{rules, ◌≡◌, ◌∙◌, ℕ, ◌+◌, ◌-◌, ◌*◌, ◌<◌, ◌≤◌, ◌⊎◌, Bool, true, false, not, nat_le, min, List, [], ◌∷◌, ◌++◌, Some, refl, subst, ap, arith, inl, inr}
use Rattle.std.proofs.lemmas.Bool.{cases_Bool}
use Rattle.record_pulses.specs.declared.edge.Edge.{Edge}
use Rattle.record_pulses.specs.declared.edge.Pulse.{Pulse}
use Rattle.record_pulses.specs.Glitches.{same_level}
use Rattle.record_pulses.specs.Pulses.{AreInTurn, IsNearest, IsOnLine, IsOneOf, level_at, nearest_us, pulse_between, pulses_of, widest_us}

same : (a b : Bool) → same_level a b ≡ true → a ≡ b
same true true e = refl
same true false e = absurd cc
same false true e = absurd cc
same false false e = refl

other : (a b : Bool) → same_level a b ≡ false → a ≡ not b
other true true e = absurd cc
other true false e = refl
other false true e = refl
other false false e = absurd cc

nearest : (ns : ℕ) → IsNearest (nearest_us ns) ns
nearest ns = record { least = omega arith; most = omega arith }

narrow : (ns : ℕ) → min (nearest_us ns) widest_us < widest_us → IsNearest (min (nearest_us ns) widest_us) ns
narrow ns less =
    let it : min (nearest_us ns) widest_us ≡ nearest_us ns = omega (arith, less) in rw it (nearest ns)

wide : (ns : ℕ) → min (nearest_us ns) widest_us ≡ widest_us → widest_us * 1000 ≤ ns + 500
wide ns e = omega (arith, e)

-- before a change the line has the level that it had
earlier : (time : ℕ) (d : Edge) (rest : List Edge) → time < d.time_ns → level_at time (d ∷ rest) ≡ level_at time rest
earlier time d rest less = let it : nat_le d.time_ns time ≡ false = search rules in rw it refl

from_then : (time : ℕ) (c : Edge) (rest : List Edge) → c.time_ns ≤ time → level_at time (c ∷ rest) ≡ Some c.is_high
from_then time c rest le = let it : nat_le c.time_ns time ≡ true = search rules in rw it refl

newest : (polarity : Bool) (d c : Edge) (before : List Edge) → c.is_high ≡ polarity → d.is_high ≡ not polarity → IsOnLine polarity (d ∷ (c ∷ before)) (pulse_between c.time_ns d.time_ns)
newest polarity d c before up down = record {
  after = [];
  end = d;
  rise = c;
  before = before;
  in_a_row = refl;
  up = up;
  down = down;
  stays = λ time from until. earlier time d (c ∷ before) until ∙ from_then time c before from ∙ ap Some up;
  rises = nearest c.time_ns;
  wide = (narrow (d.time_ns - c.time_ns), wide (d.time_ns - c.time_ns));
}

in_turn : (d end : Edge) (after rest : List Edge) → AreInTurn (d ∷ (after ++ end ∷ rest)) → end.time_ns ≤ d.time_ns
in_turn d end [] rest h = h.0
in_turn d end (e ∷ after) rest h = let it = in_turn e end after rest h.1 in let this = h.0 in omega (arith, it, this)

later : (polarity : Bool) (d : Edge) (edges : List Edge) (pulse : Pulse) → AreInTurn (d ∷ edges) → IsOnLine polarity edges pulse → IsOnLine polarity (d ∷ edges) pulse
later polarity d edges pulse turn on =
    let order : on.end.time_ns ≤ d.time_ns =
    in_turn d on.end on.after (on.rise ∷ on.before) (subst (λ (l : List Edge). AreInTurn (d ∷ l)) on.in_a_row turn) in
    record {
      after = d ∷ on.after;
      end = on.end;
      rise = on.rise;
      before = on.before;
      in_a_row = ap (λ (l : List Edge). d ∷ l) on.in_a_row;
      up = on.up;
      down = on.down;
      stays = λ time from until. earlier time d edges (omega (arith, order, until)) ∙ on.stays time from until;
      rises = on.rises;
      wide = on.wide;
    }

tail_turn : (d : Edge) (edges : List Edge) → AreInTurn (d ∷ edges) → AreInTurn edges
tail_turn d [] h = tt
tail_turn d (c ∷ rest) h = h.1

pub on_the_line : (polarity : Bool) (edges : List Edge) (pulse : Pulse) → AreInTurn edges → IsOneOf pulse (pulses_of polarity edges) → IsOnLine polarity edges pulse
on_the_line polarity [] pulse turn one = absurd one
on_the_line polarity (d ∷ []) pulse turn one = absurd one
on_the_line polarity (d ∷ (c ∷ [])) pulse turn one = absurd one
on_the_line polarity (d ∷ (c ∷ (b ∷ rest))) pulse turn one =
    elim (cases_Bool (same_level c.is_high polarity)) [
      | inr low ↦ later polarity d (c ∷ (b ∷ rest)) pulse turn (on_the_line polarity (c ∷ (b ∷ rest)) pulse turn.1 (rw low at one))
      | inl up ↦ elim (cases_Bool (same_level d.is_high polarity)) [
        | inl stays ↦ later polarity d (c ∷ (b ∷ rest)) pulse turn (on_the_line polarity (c ∷ (b ∷ rest)) pulse turn.1 (rw (up, stays) at one))
        | inr down ↦
            let this : (pulse ≡ pulse_between c.time_ns d.time_ns) ⊎ IsOneOf pulse (pulses_of polarity (c ∷ (b ∷ rest))) = rw (up, down) at one in
            elim this [
              | inl is ↦ rw is (newest polarity d c (b ∷ rest) (same c.is_high polarity up) (other d.is_high polarity down))
              | inr was ↦ later polarity d (c ∷ (b ∷ rest)) pulse turn (on_the_line polarity (c ∷ (b ∷ rest)) pulse turn.1 was)
            ]
      ]
    ]
