-- What five lines add up to, if one of them is set.
use Rattle.std.proofs.Common.{◌≡◌, ◌↔◌, ℕ, ◌+◌, ◌*◌, ◌%◌, ◌<◌, ◌++◌, refl, ap, ◌∙◌, arith, inl, inr}
use Rattle.std.proofs.lemmas.Bool.{cases_eq}
use Rattle.c_numbers.specs.CheckWord.{state_numbers, weighted}
use Rattle.c_numbers.proofs.CheckLaws.{append_at}
use Rattle.c_numbers.proofs.PortSums.{renewed}
use Rattle.c_keeper.proofs.SumLaws.{by_parts}
use Rattle.c_keeper.specs.declared.timekeeper.IrigTimekeeper.{IrigTimekeeper}
use Rattle.c_lines.specs.declared.line.IrigLine.{IrigLine}
use Rattle.c_lines.specs.declared.line.IrigLines.{IrigLines}
use Rattle.c_lines.specs.CheckWord.{line_numbers, lines_numbers}
use Rattle.c_keeper.specs.CheckWord.{changing_numbers, check_of, clock_numbers, fixed_numbers, IsSealed}
use Rattle.c_lines.specs.Lines.{numbers_at, with_numbers}

-- what a line adds
abbrev part : ℕ → IrigLine → ℕ
part w l = weighted w (line_numbers l)

pub all_parts : (ls : IrigLines) → weighted 389 (lines_numbers ls) ≡ part 389 ls.a + (part 421 ls.b + (part 453 ls.c + (part 485 ls.d + part 517 ls.e)))
all_parts ls =
    append_at 389 421 (line_numbers ls.a) (line_numbers ls.b ++ (line_numbers ls.c ++ (line_numbers ls.d ++ line_numbers ls.e))) refl
    ∙ ap (λ (n : ℕ). part 389 ls.a + n)
    (append_at 421 453 (line_numbers ls.b) (line_numbers ls.c ++ (line_numbers ls.d ++ line_numbers ls.e)) refl
    ∙ ap (λ (n : ℕ). part 421 ls.b + n)
    (append_at 453 485 (line_numbers ls.c) (line_numbers ls.d ++ line_numbers ls.e) refl
    ∙ ap (λ (n : ℕ). part 453 ls.c + n) (append_at 485 517 (line_numbers ls.d) (line_numbers ls.e) refl)))

abbrev IsSet : IrigLines → IrigLine → ℕ → Type 0
IsSet ls l port =
    weighted 389 (lines_numbers (with_numbers ls port l)) + weighted (389 + 32 * port) (line_numbers (numbers_at ls port))
    ≡ weighted 389 (lines_numbers ls) + weighted (389 + 32 * port) (line_numbers l)

-- one of five parts becomes another one
first : (a b c d e n old new : ℕ) → old ≡ a + (b + (c + (d + e))) → new ≡ n + (b + (c + (d + e))) → new + a ≡ old + n
first a b c d e n old new was is = omega (arith, was, is)

second : (a b c d e n old new : ℕ) → old ≡ a + (b + (c + (d + e))) → new ≡ a + (n + (c + (d + e))) → new + b ≡ old + n
second a b c d e n old new was is = omega (arith, was, is)

third : (a b c d e n old new : ℕ) → old ≡ a + (b + (c + (d + e))) → new ≡ a + (b + (n + (d + e))) → new + c ≡ old + n
third a b c d e n old new was is = omega (arith, was, is)

fourth : (a b c d e n old new : ℕ) → old ≡ a + (b + (c + (d + e))) → new ≡ a + (b + (c + (n + e))) → new + d ≡ old + n
fourth a b c d e n old new was is = omega (arith, was, is)

fifth : (a b c d e n old new : ℕ) → old ≡ a + (b + (c + (d + e))) → new ≡ a + (b + (c + (d + n))) → new + e ≡ old + n
fifth a b c d e n old new was is = omega (arith, was, is)

-- a line is set: the sum changes by what its part does
pub line_set : (ls : IrigLines) (port : ℕ) (l : IrigLine) → port < 5 → IsSet ls l port
line_set ls port l here =
    let a = part 389 ls.a in
    let b = part 421 ls.b in
    let c = part 453 ls.c in
    let d = part 485 ls.d in
    let e = part 517 ls.e in
    elim (cases_eq port 0) [
      | inl is ↦ rw is (first a b c d e (part 389 l) _ _ (all_parts ls) (all_parts (with_numbers ls 0 l)))
      | inr not_0 ↦ elim (cases_eq port 1) [
        | inl is ↦ rw is (second a b c d e (part 421 l) _ _ (all_parts ls) (all_parts (with_numbers ls 1 l)))
        | inr not_1 ↦ elim (cases_eq port 2) [
          | inl is ↦ rw is (third a b c d e (part 453 l) _ _ (all_parts ls) (all_parts (with_numbers ls 2 l)))
          | inr not_2 ↦ elim (cases_eq port 3) [
            | inl is ↦ rw is (fourth a b c d e (part 485 l) _ _ (all_parts ls) (all_parts (with_numbers ls 3 l)))
            | inr not_3 ↦
                let is : port ≡ 4 = omega (arith, not_0, not_1, not_2, not_3, here) in
                rw is (fifth a b c d e (part 517 l) _ _ (all_parts ls) (all_parts (with_numbers ls 4 l)))
          ]
        ]
      ]
    ]

-- a check word that is renewed by the difference of a line is right exactly if it was
pub renewed_line : (t : IrigTimekeeper) (port : ℕ) (l : IrigLine) (change : ℕ) → port < 5 → t.check < 18446744073709551616
    → (weighted (389 + 32 * port) (line_numbers (numbers_at t.lines port)) + change) % 18446744073709551616
    ≡ weighted (389 + 32 * port) (line_numbers l) % 18446744073709551616
    → IsSealed (record t { lines = with_numbers t.lines port l; check = (t.check + change) % 18446744073709551616 }) ↔ IsSealed t
unfolding check_of
renewed_line t port l change here fits adds =
    let q : IrigTimekeeper = record t { lines = with_numbers t.lines port l; check = (t.check + change) % 18446744073709551616 } in
    let rest : ℕ = weighted 3 (fixed_numbers t) + (weighted 279 (state_numbers t.state) + weighted 291 (clock_numbers t)) in
    rw (whole t, whole q)
    (renewed t.check rest (weighted (389 + 32 * port) (line_numbers (numbers_at t.lines port))) (weighted (389 + 32 * port) (line_numbers l))
    (weighted 389 (lines_numbers t.lines)) (weighted 389 (lines_numbers (with_numbers t.lines port l))) change (line_set t.lines port l here) fits adds)
  where
    three : (f s c l : ℕ) → f + (s + (c + l)) ≡ f + (s + c) + l
    three f s c l = omega arith

    whole : (t : IrigTimekeeper) → weighted 3 (fixed_numbers t) + weighted 279 (changing_numbers t)
        ≡ weighted 3 (fixed_numbers t) + (weighted 279 (state_numbers t.state) + weighted 291 (clock_numbers t)) + weighted 389 (lines_numbers t.lines)
    whole t = ap (λ (n : ℕ). weighted 3 (fixed_numbers t) + n) (by_parts t)
        ∙ three (weighted 3 (fixed_numbers t)) (weighted 279 (state_numbers t.state)) (weighted 291 (clock_numbers t)) (weighted 389 (lines_numbers t.lines))
