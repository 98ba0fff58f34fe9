-- Intervals by a clock of 32 bits, in which an edge lies: what two of them have in common, and that those
-- of times too far apart have nothing in common.
use Rattle.std.specs.Prelude.{nat_le, nat_lt, min}
use Rattle.std.proofs.Common.{◌≡◌, ◌∙◌, ◌⊎◌, ℕ, ◌+◌, ◌-◌, ◌*◌, ◌%◌, ◌^◌, ◌<◌, ◌≤◌, Bool, true, false, cond, Option, Some, None, refl, arith, inl, inr}
use Rattle.std.proofs.Math.Nat.{mul-le-mul_left}
use Rattle.std.proofs.lemmas.Bool.{cases_lt, leb-true}
use Rattle.irig_sync.specs.Sync.{clock_gap}
use Rattle.irig_lines.specs.declared.interval.Interval.{Interval}
use Rattle.irig_lines.specs.declared.lines.Vote.{Vote}
use Rattle.irig_lines.specs.Intervals.{LiesBetween, AreNear, by_vote, carried, common_from, common, cut, is_nothing, contradicts}
use Rattle.irig_timekeeper.proofs.LifeLaws.{begins}
use Rattle.irig_lines.proofs.CountingLaws.{apart}

pub low_is : (g w : ℕ) → g ≤ w → nat_le g w ≡ true
low_is g w h = grind (arith, h)

pub less_is : (g w : ℕ) → g < w → nat_lt g w ≡ true
less_is g w h = grind (arith, h)

pub not_less : (g w : ℕ) → w ≤ g → nat_lt g w ≡ false
not_less g w h = grind (arith, h)

-- ---- an interval, by a clock that does not wrap

-- it begins at this time, and the time of an edge lies in it
pub record IsAround (x : Interval) (begin edge : ℕ) : Type 0 where
  pub clock : x.begin_us ≡ begin % 2 ^ 32
  pub least : begin ≤ edge
  pub most : edge ≤ begin + x.long_us

-- what is common to two of them lies round the edge, too, and in the second one
pub record IsCommon (x y : Interval) (bx by edge : ℕ) (both : Interval) : Type 0 where
  pub begin : ℕ
  pub around : IsAround both begin edge
  pub behind : by ≤ begin
  pub before : begin + both.long_us ≤ by + y.long_us
  pub short : both.long_us ≤ x.long_us

least_low : (p q : ℕ) → (min p q ≤ p) × (min p q ≤ q)
least_low p q = elim (cases_lt p q) [
  | inl less ↦ let is : min p q ≡ p = grind (arith, less) in (omega (arith, is), omega (arith, is, less))
  | inr more ↦ let is : min p q ≡ q = grind (arith, more) in (omega (arith, is, more), omega (arith, is))
]

least_high : (p q k : ℕ) → k ≤ p → k ≤ q → k ≤ min p q
least_high p q k one other = elim (cases_lt p q) [
  | inl less ↦ let is : min p q ≡ p = grind (arith, less) in omega (arith, is, one)
  | inr more ↦ let is : min p q ≡ q = grind (arith, more) in omega (arith, is, other)
]

module _ (x y : Interval) (bx by edge : ℕ) (px : IsAround x bx edge) (py : IsAround y by edge) (short : x.long_us ≤ 980000) (few : y.long_us ≤ 980000) where
  gap_behind : bx ≤ by → clock_gap x.begin_us y.begin_us ≡ by - bx
  gap_behind order = of x.begin_us y.begin_us px.clock py.clock (omega (arith, px.most, py.least, short))
    where
      of : (e f : ℕ) → e ≡ bx % 2 ^ 32 → f ≡ by % 2 ^ 32 → by ≤ bx + 980000 → clock_gap e f ≡ by - bx
      of e f p q near = omega (arith, p, q, near, order)

  gap_before : by < bx → (2 ^ 31 ≤ clock_gap x.begin_us y.begin_us) × (clock_gap y.begin_us x.begin_us ≡ bx - by)
  gap_before order = of x.begin_us y.begin_us px.clock py.clock (omega (arith, py.most, px.least, few))
    where
      of : (e f : ℕ) → e ≡ bx % 2 ^ 32 → f ≡ by % 2 ^ 32 → bx ≤ by + 980000 → (2 ^ 31 ≤ clock_gap e f) × (clock_gap f e ≡ bx - by)
      of e f p q near = (omega (arith, p, q, near, order), omega (arith, p, q, near, order))

  pub meets : (both : Interval) × (common x y ≡ Some both) × IsCommon x y bx by edge both
  meets = elim (cases_lt by bx) [
    | inr behind ↦
        let gap = gap_behind behind in
        let low : nat_lt (by - bx) (2 ^ 31) ≡ true = less_is (by - bx) (2 ^ 31) (omega (arith, px.most, py.least, short)) in
        let inside : nat_le (by - bx) x.long_us ≡ true = low_is (by - bx) x.long_us (omega (arith, px.most, py.least)) in
        let both : Interval = record { begin_us = y.begin_us; long_us = min (x.long_us - (by - bx)) y.long_us } in
        let least = least_low (x.long_us - (by - bx)) y.long_us in
        let high = least_high (x.long_us - (by - bx)) y.long_us (edge - by) (omega (arith, px.most, behind)) (omega (arith, py.most)) in (
          both,
          rw (gap, low, inside) refl,
          record {
            begin = by;
            around = record { clock = py.clock; least = py.least; most = omega (arith, high, py.least) };
            behind = omega arith;
            before = omega (arith, least.1);
            short = omega (arith, least.0);
          },
        )
    | inl before ↦
        let gap = gap_before before in
        let high : nat_lt (clock_gap x.begin_us y.begin_us) (2 ^ 31) ≡ false = not_less (clock_gap x.begin_us y.begin_us) (2 ^ 31) gap.0 in
        let inside : nat_le (bx - by) y.long_us ≡ true = low_is (bx - by) y.long_us (omega (arith, py.most, px.least)) in
        let both : Interval = record { begin_us = x.begin_us; long_us = min (y.long_us - (bx - by)) x.long_us } in
        let least = least_low (y.long_us - (bx - by)) x.long_us in
        let most = least_high (y.long_us - (bx - by)) x.long_us (edge - bx) (omega (arith, py.most, before)) (omega (arith, px.most)) in (
          both,
          rw (high, gap.1, inside) refl,
          record {
            begin = bx;
            around = record { clock = px.clock; least = px.least; most = omega (arith, most, px.least) };
            behind = omega (arith, before);
            before = omega (arith, least.0, py.most, px.least);
            short = omega (arith, least.1);
          },
        )
  ]

pub wraps : (e begin more : ℕ) → e ≡ begin % 2 ^ 32 → (e + more) % 2 ^ 32 ≡ (begin + more) % 2 ^ 32
wraps e begin more is = omega (arith, is)

-- ---- what lies apart contradicts, and what is cut lies in both

module _ (x y : Interval) (b e b' e' : ℕ) (px : LiesBetween b e x) (py : LiesBetween b' e' y) (near : AreNear b e b' e') where
  behind_is : px.begin ≤ py.begin → clock_gap x.begin_us y.begin_us ≡ py.begin - px.begin
  behind_is order = of x.begin_us y.begin_us px.clock py.clock (omega (arith, py.most, px.least, near.behind))
    where
      of : (u v : ℕ) → u ≡ px.begin % 2 ^ 32 → v ≡ py.begin % 2 ^ 32 → py.begin < px.begin + 2 ^ 31 → clock_gap u v ≡ py.begin - px.begin
      of u v p q close = omega (arith, p, q, close, order)

  before_is : py.begin < px.begin → (2 ^ 31 ≤ clock_gap x.begin_us y.begin_us) × (clock_gap y.begin_us x.begin_us ≡ px.begin - py.begin)
  before_is order = of x.begin_us y.begin_us px.clock py.clock (omega (arith, px.most, py.least, near.before))
    where
      of : (u v : ℕ) → u ≡ px.begin % 2 ^ 32 → v ≡ py.begin % 2 ^ 32 → px.begin < py.begin + 2 ^ 31 → (2 ^ 31 ≤ clock_gap u v) × (clock_gap v u ≡ px.begin - py.begin)
      of u v p q close = (omega (arith, p, q, close, order), omega (arith, p, q, close, order))

  small_gap : px.begin ≤ py.begin → py.begin - px.begin < 2 ^ 31
  small_gap order = omega (arith, py.most, px.least, near.behind)

  -- what both have in common
  by_gap : (gap : ℕ) (first second : Interval) (z : Interval) → common_from gap first second ≡ Some z → (gap ≤ first.long_us) × (z.begin_us ≡ second.begin_us) × (z.long_us + gap ≤ first.long_us) × (z.long_us ≤ second.long_us)
  by_gap gap first second z is = of (nat_le gap first.long_us) refl is
    where
      of : (test : Bool) → nat_le gap first.long_us ≡ test → cond test (Some (record { begin_us = second.begin_us; long_us = min (first.long_us - gap) second.long_us })) None ≡ Some z
          → (gap ≤ first.long_us) × (z.begin_us ≡ second.begin_us) × (z.long_us + gap ≤ first.long_us) × (z.long_us ≤ second.long_us)
      of false t is = absurd cc
      of true t is =
          let low = leb-true gap first.long_us t in
          let begin : z.begin_us ≡ second.begin_us = cc in
          let long : z.long_us ≡ min (first.long_us - gap) second.long_us = cc in
          let least = least_low (first.long_us - gap) second.long_us in
          (low, begin, omega (arith, long, least.0, low), omega (arith, long, least.1))

  pub lies_in_both : (z : Interval) → common x y ≡ Some z → LiesBetween b e z × LiesBetween b' e' z
  lies_in_both z is = elim (cases_lt py.begin px.begin) [
    | inr behind ↦
        let gap = behind_is behind in
        let low : nat_lt (py.begin - px.begin) (2 ^ 31) ≡ true = less_is (py.begin - px.begin) (2 ^ 31) (small_gap behind) in
        let from : common_from (py.begin - px.begin) x y ≡ Some z = rw (gap, low) at is in
        let parts = by_gap (py.begin - px.begin) x y z from in (
          record { begin = py.begin; clock = parts.1 ∙ py.clock; least = omega (arith, px.least, behind); most = omega (arith, parts.2, px.most, behind) },
          record { begin = py.begin; clock = parts.1 ∙ py.clock; least = py.least; most = omega (arith, parts.3, py.most) },
        )
    | inl before ↦
        let gap = before_is before in
        let high : nat_lt (clock_gap x.begin_us y.begin_us) (2 ^ 31) ≡ false = not_less (clock_gap x.begin_us y.begin_us) (2 ^ 31) gap.0 in
        let from : common_from (px.begin - py.begin) y x ≡ Some z = rw (high, gap.1) at is in
        let parts = by_gap (px.begin - py.begin) y x z from in (
          record { begin = px.begin; clock = parts.1 ∙ px.clock; least = px.least; most = omega (arith, parts.3, px.most) },
          record { begin = px.begin; clock = parts.1 ∙ px.clock; least = omega (arith, py.least, before); most = omega (arith, parts.2, py.most, before) },
        )
  ]

  pub apart_contradicts : (e < b') ⊎ (e' < b) → contradicts (Some x) y ≡ true
  apart_contradicts far = of (common x y) refl
    where
      of : (o : Option Interval) → common x y ≡ o → is_nothing o ≡ true
      of None is = refl
      of (Some z) is =
          let both = lies_in_both z is in
          let one = both.0 in
          let other = both.1 in
          let same = near_begin z one other in
          elim far [
            | inl behind ↦ absurd (omega (arith, behind, one.most, other.least, same))
            | inr before ↦ absurd (omega (arith, before, other.most, one.least, same))
          ]
        where
          by : (u p q : ℕ) → u ≡ p % 2 ^ 32 → u ≡ q % 2 ^ 32 → p < q + 2 ^ 31 → q < p + 2 ^ 31 → p ≡ q
          by u p q is is' close close' = omega (arith, is, is', close, close')

          near_begin : (z : Interval) (one : LiesBetween b e z) (other : LiesBetween b' e' z) → one.begin ≡ other.begin
          near_begin z one other = by z.begin_us one.begin other.begin one.clock other.clock (omega (arith, one.most, other.least, near.before)) (omega (arith, other.most, one.least, near.behind))

pub vote_lies : (v : Vote) (edge : ℕ) → v.edge_us ≡ edge % 2 ^ 32 → v.bound_us ≤ edge → v.bound_us ≤ 2899 → LiesBetween (edge - v.bound_us) (edge + v.bound_us) (by_vote v)
vote_lies v edge clock late small = record { begin = edge - v.bound_us; clock = of v.edge_us edge v.bound_us clock late small; least = omega arith; most = omega (arith, late) }
  where
    of : (e edge bound : ℕ) → e ≡ edge % 2 ^ 32 → bound ≤ edge → bound ≤ 2899 → (e + 2 ^ 32 - bound) % 2 ^ 32 ≡ (edge - bound) % 2 ^ 32
    of e edge bound is low few = omega (arith, is, low, few)

pub carried_lies : (d n from to : ℕ) (x y : Interval) → d ≤ 100 → LiesBetween from to x → carried d n x ≡ Some y → LiesBetween (from + (n * 1000000 - n * d)) (to + n * 1000000 + n * d) y
carried_lies d n from to x y few h is = of (nat_lt (2 * 490000) (x.long_us + 2 * (n * d))) is
  where
    of : (test : Bool) → cond test None (Some (record { begin_us = (x.begin_us + (n * 1000000 - n * d)) % 2 ^ 32; long_us = x.long_us + 2 * (n * d) })) ≡ Some y → LiesBetween (from + (n * 1000000 - n * d)) (to + n * 1000000 + n * d) y
    of true is = absurd cc
    of false is =
        let begin : y.begin_us ≡ (x.begin_us + (n * 1000000 - n * d)) % 2 ^ 32 = cc in
        let long : y.long_us ≡ x.long_us + 2 * (n * d) = cc in
        let slow = mul-le-mul_left n few in
        record {
          begin = h.begin + (n * 1000000 - n * d);
          clock = begin ∙ wraps x.begin_us h.begin (n * 1000000 - n * d) h.clock;
          least = omega (arith, h.least);
          most = omega (arith, h.most, long, slow);
        }
