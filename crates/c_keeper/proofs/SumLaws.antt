-- What the numbers of a timekeeper add up to, by 64 bits.
use Rattle.std.proofs.Common.{◌≡◌, ◌↔◌, ◌<◌, ℕ, ◌+◌, ◌%◌, ◌-◌, ◌++◌, refl, ap, ◌∙◌, arith}
use Rattle.c_numbers.specs.CheckWord.{setup_numbers, state_numbers, table_numbers, weighted}
use Rattle.c_numbers.proofs.CheckLaws.{append_at}
use Rattle.c_keeper.specs.declared.timekeeper.IrigTimekeeper.{IrigTimekeeper}
use Rattle.c_lines.specs.CheckWord.{lines_numbers}
use Rattle.c_keeper.specs.CheckWord.{changing_numbers, check_of, clock_numbers, fixed_numbers, IsSealed}

-- ---- parts

-- what the numbers that calls change add up to is what their parts do
pub by_parts : (t : IrigTimekeeper)
    → weighted 279 (changing_numbers t) ≡ weighted 279 (state_numbers t.state) + (weighted 291 (clock_numbers t) + weighted 389 (lines_numbers t.lines))
by_parts t =
    append_at 279 291 (state_numbers t.state) (clock_numbers t ++ lines_numbers t.lines) refl
    ∙ ap (λ (n : ℕ). weighted 279 (state_numbers t.state) + n) (append_at 291 389 (clock_numbers t) (lines_numbers t.lines) refl)

pub fixed_parts : (t : IrigTimekeeper) → weighted 3 (fixed_numbers t) ≡ weighted 3 (setup_numbers t.setup) + weighted 19 (table_numbers t.table)
fixed_parts t = append_at 3 19 (setup_numbers t.setup) (table_numbers t.table) refl

-- the check word is no part of what it adds up
without_check : (t : IrigTimekeeper) (n : ℕ) → check_of (record t { check = n }) ≡ check_of t
unfolding check_of
without_check t n = refl

-- a check word that loses all that changes, and gets what it then is, is right exactly if it was
pub resealed : (t q : IrigTimekeeper) (fixed before after : ℕ) → t.check < 18446744073709551616 → before < 18446744073709551616
    → check_of t ≡ (fixed + before) % 18446744073709551616 → check_of q ≡ (fixed + after) % 18446744073709551616 → q.check ≡ t.check
    → IsSealed (record q { check = ((q.check + (18446744073709551616 - before)) % 18446744073709551616 + after) % 18446744073709551616 }) ↔ IsSealed t
resealed t q fixed before after fits small was is kept =
    rw (without_check q (((q.check + (18446744073709551616 - before)) % 18446744073709551616 + after) % 18446744073709551616), was, is, kept)
    (by_numbers t.check fits)
  where
    by_numbers : (check : ℕ) → check < 18446744073709551616
        → (((check + (18446744073709551616 - before)) % 18446744073709551616 + after) % 18446744073709551616 ≡ (fixed + after) % 18446744073709551616)
        ↔ (check ≡ (fixed + before) % 18446744073709551616)
    by_numbers check low = (λ h. omega (arith, low, small, h), λ h. omega (arith, low, small, h))
