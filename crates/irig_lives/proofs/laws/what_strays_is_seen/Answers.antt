use Rattle.std.specs.Prelude.{nat_lt}
use Rattle.std.proofs.Common.{◌≡◌, ◌∙◌, ℕ, ◌+◌, ◌-◌, ◌*◌, ◌%◌, ◌^◌, Bool, true, false, cond, Option, Some, None, refl, arith}
use Rattle.irig_lines.specs.Paces.{longest_us, shortest_us}
use Rattle.irig_lines.specs.declared.interval.Interval.{Interval}
use Rattle.irig_lines.specs.Intervals.{LiesBetween, common, is_nothing, or_alone}
use Rattle.irig_timekeeper.proofs.IntervalLaws.{apart_contradicts, carried_lies, lies_in_both, vote_lies}
use Rattle.irig_lives.proofs.laws.what_strays_is_seen.Goals as goal

pub returns-clause-vote : goal.returns-clause-vote
returns-clause-vote _ vote edge clock late small = vote_lies vote edge clock late small

pub returns-clause-carried : goal.returns-clause-carried
returns-clause-carried _ d seconds from to x y few lies is = carried_lies d seconds from to x y few lies is

pub returns-clause-cut : goal.returns-clause-cut
returns-clause-cut _ x y from to others others_to px py near agrees = of (common x y) refl agrees
  where
    of : (o : Option Interval) → common x y ≡ o → is_nothing o ≡ false → LiesBetween from to (or_alone o y) × LiesBetween others others_to (or_alone o y)
    of None is agrees = absurd cc
    of (Some z) is agrees = lies_in_both x y from to others others_to px py near z is

pub returns-clause-apart : goal.returns-clause-apart
returns-clause-apart _ x y from to others others_to px py near far = apart_contradicts x y from to others others_to px py near far

pub returns-clause-learned : goal.returns-clause-learned
returns-clause-learned _ pace from to x y h is = of (nat_lt (2 * 490000) (x.long_us + (longest_us pace - shortest_us pace))) is
  where
    wraps : (e begin more : ℕ) → e ≡ begin % 2 ^ 32 → (e + more) % 2 ^ 32 ≡ (begin + more) % 2 ^ 32
    wraps e begin more is = omega (arith, is)

    of : (test : Bool) → cond test None (Some (record { begin_us = (x.begin_us + shortest_us pace) % 2 ^ 32; long_us = x.long_us + (longest_us pace - shortest_us pace) })) ≡ Some y → LiesBetween (from + shortest_us pace) (to + longest_us pace) y
    of true is = absurd cc
    of false is =
        let begin : y.begin_us ≡ (x.begin_us + shortest_us pace) % 2 ^ 32 = cc in
        let long : y.long_us ≡ x.long_us + (longest_us pace - shortest_us pace) = cc in
        record {
          begin = h.begin + shortest_us pace;
          clock = begin ∙ wraps x.begin_us h.begin (shortest_us pace) h.clock;
          least = omega (arith, h.least);
          most = omega (arith, h.most, long);
        }
