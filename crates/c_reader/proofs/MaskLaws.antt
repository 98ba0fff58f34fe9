-- A line that is not said to be untrue is in no mask of those that are apart or differ.
use Rattle.std.specs.Prelude.{if◌then◌else◌, nat_lt, ◌==◌}
use Rattle.std.proofs.Common.{◌≡◌, ℕ, zero, suc, ◌+◌, ◌*◌, ◌<◌, ◌≤◌, Bool, true, false, cond, Option, Some, None, refl, ap, ◌∙◌, arith}
use Rattle.irig_vote.specs.Vote.{ports_in}
use Rattle.irig_timekeeper.specs.declared.clock.Beat.{Beat}
use Rattle.irig_lines.specs.declared.setup.ClockRules.{ClockRules}
use Rattle.irig_timekeeper.specs.declared.clock.ClockState.{ClockState}
use Rattle.irig_timekeeper.specs.declared.states.LineState.{LineState}
use Rattle.irig_timekeeper.specs.declared.states.LineState.TheVariants as is
use Rattle.irig_timekeeper.specs.LineTruths.{is_untrue}
use Rattle.irig_timekeeper.specs.States.{state_of}
use Rattle.c_keeper.specs.declared.second.IrigSecond.{IrigSecond}
use Rattle.c_lines.specs.declared.masks.IrigMasks.{IrigMasks}
use Rattle.c_keeper.specs.Seconds.{IsSecondOf}
use Rattle.c_lines.specs.States.{bit_at, bit_of, mask_of, number_of}
use Rattle.c_keeper.specs.States.{masks_of, state_if, states_of}

-- ---- a mask of five bits

bit_0 : (a b c d e : ℕ) → a ≡ 0 → bit_at (a + 2 * b + 4 * c + 8 * d + 16 * e) 0 ≡ 0
bit_0 a b c d e none = omega (arith, none)

bit_1 : (a b c d e : ℕ) → a ≤ 1 → b ≡ 0 → bit_at (a + 2 * b + 4 * c + 8 * d + 16 * e) 1 ≡ 0
bit_1 a b c d e la none = omega (arith, la, none)

bit_2 : (a b c d e : ℕ) → a ≤ 1 → b ≤ 1 → c ≡ 0 → bit_at (a + 2 * b + 4 * c + 8 * d + 16 * e) 2 ≡ 0
bit_2 a b c d e la lb none = omega (arith, la, lb, none)

bit_3 : (a b c d e : ℕ) → a ≤ 1 → b ≤ 1 → c ≤ 1 → d ≡ 0 → bit_at (a + 2 * b + 4 * c + 8 * d + 16 * e) 3 ≡ 0
bit_3 a b c d e la lb lc none = omega (arith, la, lb, lc, none)

bit_4 : (a b c d e : ℕ) → a ≤ 1 → b ≤ 1 → c ≤ 1 → d ≤ 1 → e ≡ 0 → bit_at (a + 2 * b + 4 * c + 8 * d + 16 * e) 4 ≡ 0
bit_4 a b c d e la lb lc ld none = omega (arith, la, lb, lc, ld, none)

one_or_none : (b : Bool) → cond b 1 0 ≤ 1
one_or_none true = omega arith
one_or_none false = omega arith

few : (state : LineState) (other : Option LineState) → bit_of state other ≤ 1
few state None = omega arith
few state (Some other) = one_or_none (number_of state == number_of other)

not_in : (state : LineState) (c : ClockRules) (s : ClockState) (line : ℕ) → line < 5 → bit_of state (state_if c s line) ≡ 0 → bit_at (mask_of state (states_of c s)) line ≡ 0
not_in state c s zero low none = bit_0 _ _ _ _ _ none
not_in state c s (suc zero) low none = bit_1 _ _ _ _ _ (few state (state_if c s 0)) none
not_in state c s (suc (suc zero)) low none = bit_2 _ _ _ _ _ (few state (state_if c s 0)) (few state (state_if c s 1)) none
not_in state c s (suc (suc (suc zero))) low none = bit_3 _ _ _ _ _ (few state (state_if c s 0)) (few state (state_if c s 1)) (few state (state_if c s 2)) none
not_in state c s (suc (suc (suc (suc zero)))) low none = bit_4 _ _ _ _ _ (few state (state_if c s 0)) (few state (state_if c s 1)) (few state (state_if c s 2)) (few state (state_if c s 3)) none
not_in state c s (suc (suc (suc (suc (suc n))))) low none = absurd (omega (arith, low))

-- ---- a line that is not untrue

other_state : (state : LineState) → is_untrue state ≡ false → (bit_of is.Apart (Some state) ≡ 0) × (bit_of is.Differed (Some state) ≡ 0)
other_state is.Silent e = (refl, refl)
other_state is.Broken e = (refl, refl)
other_state is.Faulty e = (refl, refl)
other_state is.Uneven e = (refl, refl)
other_state is.Poor e = (refl, refl)
other_state is.Unjudged e = (refl, refl)
other_state is.Agreed e = (refl, refl)
other_state is.Apart e = absurd cc
other_state is.Differed e = absurd cc

other_bits : (c : ClockRules) (s : ClockState) (line : ℕ) → is_untrue (state_of c s line) ≡ false → (bit_of is.Apart (state_if c s line) ≡ 0) × (bit_of is.Differed (state_if c s line) ≡ 0)
other_bits c s line right = of (nat_lt line (ports_in c.redundancy))
  where
    of : (b : Bool) → (bit_of is.Apart (if b then Some (state_of c s line) else None) ≡ 0) × (bit_of is.Differed (if b then Some (state_of c s line) else None) ≡ 0)
    of true = other_state (state_of c s line) right
    of false = (refl, refl)

no_bit : (line : ℕ) → line < 5 → bit_at 0 line ≡ 0
no_bit zero low = refl
no_bit (suc zero) low = refl
no_bit (suc (suc zero)) low = refl
no_bit (suc (suc (suc zero))) low = refl
no_bit (suc (suc (suc (suc zero)))) low = refl
no_bit (suc (suc (suc (suc (suc n))))) low = absurd (omega (arith, low))

pub in_no_mask : (s : IrigSecond) (answer : Option Beat) (c : ClockRules) (state : ClockState) (line : ℕ) → line < 5 → IsSecondOf s answer → ((beat : Beat) → answer ≡ Some beat → s.lines ≡ masks_of c state) → is_untrue (state_of c state line) ≡ false
    → (bit_at s.lines.apart line ≡ 0) × (bit_at s.lines.differed line ≡ 0)
in_no_mask s None c state line low nothing are right = (
  ap (λ (x : IrigSecond). bit_at x.lines.apart line) nothing ∙ no_bit line low,
  ap (λ (x : IrigSecond). bit_at x.lines.differed line) nothing ∙ no_bit line low,
)
in_no_mask s (Some beat) c state line low told are right =
    let none = other_bits c state line right in (
      ap (λ (m : IrigMasks). bit_at m.apart line) (are beat refl) ∙ not_in is.Apart c state line low none.0,
      ap (λ (m : IrigMasks). bit_at m.differed line) (are beat refl) ∙ not_in is.Differed c state line low none.1,
    )
