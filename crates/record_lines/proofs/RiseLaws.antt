-- When the last pulse rose on each line.
use Rattle.std.specs.Prelude.{◌==◌}
use Rattle.std.proofs.Common.{◌≡◌, ℕ, zero, suc, ◌<◌, ◌≤◌, cond, List, [], ◌∷◌, refl, arith}
use Rattle.irig_sync.specs.Lines.{Pulse, IsAfter}
use Rattle.record_lines.specs.declared.rises.Rises.{Rises}
use Rattle.record_lines.specs.Rises.{last_rise, no_rises, rise_at, with_rise}

-- ---- five lines

pub at_with : (r : Rises) (x p q : ℕ) → p < 5 → q < 5 → rise_at (with_rise r p x) q ≡ cond (q == p) x (rise_at r q)
at_with r x zero zero h k = refl
at_with r x zero (suc zero) h k = refl
at_with r x zero (suc (suc zero)) h k = refl
at_with r x zero (suc (suc (suc zero))) h k = refl
at_with r x zero (suc (suc (suc (suc zero)))) h k = refl
at_with r x zero (suc (suc (suc (suc (suc q))))) h k = absurd (omega (arith, k))
at_with r x (suc zero) zero h k = refl
at_with r x (suc zero) (suc zero) h k = refl
at_with r x (suc zero) (suc (suc zero)) h k = refl
at_with r x (suc zero) (suc (suc (suc zero))) h k = refl
at_with r x (suc zero) (suc (suc (suc (suc zero)))) h k = refl
at_with r x (suc zero) (suc (suc (suc (suc (suc q))))) h k = absurd (omega (arith, k))
at_with r x (suc (suc zero)) zero h k = refl
at_with r x (suc (suc zero)) (suc zero) h k = refl
at_with r x (suc (suc zero)) (suc (suc zero)) h k = refl
at_with r x (suc (suc zero)) (suc (suc (suc zero))) h k = refl
at_with r x (suc (suc zero)) (suc (suc (suc (suc zero)))) h k = refl
at_with r x (suc (suc zero)) (suc (suc (suc (suc (suc q))))) h k = absurd (omega (arith, k))
at_with r x (suc (suc (suc zero))) zero h k = refl
at_with r x (suc (suc (suc zero))) (suc zero) h k = refl
at_with r x (suc (suc (suc zero))) (suc (suc zero)) h k = refl
at_with r x (suc (suc (suc zero))) (suc (suc (suc zero))) h k = refl
at_with r x (suc (suc (suc zero))) (suc (suc (suc (suc zero)))) h k = refl
at_with r x (suc (suc (suc zero))) (suc (suc (suc (suc (suc q))))) h k = absurd (omega (arith, k))
at_with r x (suc (suc (suc (suc zero)))) zero h k = refl
at_with r x (suc (suc (suc (suc zero)))) (suc zero) h k = refl
at_with r x (suc (suc (suc (suc zero)))) (suc (suc zero)) h k = refl
at_with r x (suc (suc (suc (suc zero)))) (suc (suc (suc zero))) h k = refl
at_with r x (suc (suc (suc (suc zero)))) (suc (suc (suc (suc zero)))) h k = refl
at_with r x (suc (suc (suc (suc zero)))) (suc (suc (suc (suc (suc q))))) h k = absurd (omega (arith, k))
at_with r x (suc (suc (suc (suc (suc p))))) q h k = absurd (omega (arith, h))

pub none_at : (line : ℕ) → line < 5 → rise_at no_rises line ≡ 0
none_at zero small = refl
none_at (suc zero) small = refl
none_at (suc (suc zero)) small = refl
none_at (suc (suc (suc zero))) small = refl
none_at (suc (suc (suc (suc zero)))) small = refl
none_at (suc (suc (suc (suc (suc line))))) small = absurd (omega (arith, small))

-- ---- pulses in order

pub later_after : (pulses : List Pulse) (time later : ℕ) → time ≤ later → IsAfter pulses time → IsAfter pulses later
later_after [] time later on after = tt
later_after (p ∷ pulses) time later on after = omega (arith, on, after)

pub after_last : (pulses : List Pulse) (time : ℕ) → last_rise pulses ≤ time → IsAfter pulses time
after_last [] time h = tt
after_last (p ∷ pulses) time h = h

pub last_after : (pulses : List Pulse) (time : ℕ) → IsAfter pulses time → last_rise pulses ≤ time
last_after [] time h = omega arith
last_after (p ∷ pulses) time h = h
