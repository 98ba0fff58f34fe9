-- What is read of bytes up to a line.
use Rattle.std.proofs.Common.{◌≡◌, ◌≢◌, ℕ, zero, suc, ◌+◌, ◌-◌, ◌≤◌, List, [], ◌∷◌, ◌++◌, length, All, Option, Some, None, refl, ap, sym, ◌∙◌, append_assoc, append-nil, length-append, arith, inl, inr}
use Rattle.std.specs.Prelude.{take}
use Rattle.std.specs.List.{AllByRecursion}
use Rattle.std.proofs.lemmas.Bool.{cases_lt}
use Rattle.std.proofs.lemmas.List.Elements.{recursion_from_All}
use Rattle.std.proofs.Math.Seq.{take-append_seam}
use Rattle.text_faults.specs.declared.refusal.Refusal.{Refusal}
use Rattle.irig_device.specs.Lines.{HasNoNewline}
use Rattle.report_run.specs.Lines.{unlines, first_lines, after_lines, limit_of, shown_by}
use Rattle.report_run.specs.Meanings.{Language, step, Meaning, Refused, refusal_at, unless_stopped, meaning_at_end, meaning_from}
use Rattle.report_log.proofs.LogLaws.{not_newline}

abbrev NoNewline : List ℕ → Type 0
NoNewline l = AllByRecursion (λ b. b ≢ 10) l

-- ---- one line

-- bytes without a newline are in the first line
first_along : (m : ℕ) (l rest : List ℕ) → NoNewline l → first_lines (suc m) (l ++ rest) ≡ l ++ first_lines (suc m) rest
unfolding first_lines
first_along m [] rest h = refl
first_along m (b ∷ bs) rest h = rw (not_newline b h.0, first_along m bs rest h.1) refl

after_along : (m : ℕ) (l rest : List ℕ) → NoNewline l → after_lines (suc m) (l ++ rest) ≡ after_lines (suc m) rest
unfolding after_lines
after_along m [] rest h = refl
after_along m (b ∷ bs) rest h = rw (not_newline b h.0, after_along m bs rest h.1) refl

first_of_none : (m : ℕ) → first_lines m [] ≡ []
unfolding first_lines
first_of_none zero = refl
first_of_none (suc m) = refl

after_none : (m : ℕ) → after_lines m [] ≡ []
unfolding after_lines
after_none zero = refl
after_none (suc m) = refl

first_zero : (y : List ℕ) → first_lines zero y ≡ []
unfolding first_lines
first_zero y = refl

after_zero : (y : List ℕ) → after_lines zero y ≡ y
unfolding after_lines
after_zero y = refl

first_newline : (m : ℕ) (rest : List ℕ) → first_lines (suc m) (10 ∷ rest) ≡ 10 ∷ first_lines m rest
unfolding first_lines
first_newline m rest = refl

after_newline : (m : ℕ) (rest : List ℕ) → after_lines (suc m) (10 ∷ rest) ≡ after_lines m rest
unfolding after_lines
after_newline m rest = refl

-- ---- whole lines

regrouped : (l : List ℕ) (ls : List (List ℕ)) (y : List ℕ) → unlines (l ∷ ls) ++ y ≡ l ++ (10 ∷ (unlines ls ++ y))
regrouped l ls y = simp append_assoc

first_of : (ls : List (List ℕ)) (m : ℕ) (y : List ℕ) → AllByRecursion HasNoNewline ls → first_lines (length ls + m) (unlines ls ++ y) ≡ unlines ls ++ first_lines m y
first_of [] m y h = let same : 0 + m ≡ m = omega arith in ap (λ k. first_lines k y) same
first_of (l ∷ ls) m y h =
    let next : length (l ∷ ls) + m ≡ suc (length ls + m) = omega arith in
    ap (λ k. first_lines k (unlines (l ∷ ls) ++ y)) next
    ∙ ap (first_lines (suc (length ls + m))) (regrouped l ls y)
    ∙ first_along (length ls + m) l (10 ∷ (unlines ls ++ y)) (recursion_from_All _ l h.0)
    ∙ ap (λ t. l ++ t) (first_newline (length ls + m) (unlines ls ++ y))
    ∙ ap (λ t. l ++ (10 ∷ t)) (first_of ls m y h.1)
    ∙ sym (regrouped l ls (first_lines m y))

after_of : (ls : List (List ℕ)) (m : ℕ) (y : List ℕ) → AllByRecursion HasNoNewline ls → after_lines (length ls + m) (unlines ls ++ y) ≡ after_lines m y
after_of [] m y h = let same : 0 + m ≡ m = omega arith in ap (λ k. after_lines k y) same
after_of (l ∷ ls) m y h =
    let next : length (l ∷ ls) + m ≡ suc (length ls + m) = omega arith in
    ap (λ k. after_lines k (unlines (l ∷ ls) ++ y)) next
    ∙ ap (after_lines (suc (length ls + m))) (regrouped l ls y)
    ∙ after_along (length ls + m) l (10 ∷ (unlines ls ++ y)) (recursion_from_All _ l h.0)
    ∙ after_newline (length ls + m) (unlines ls ++ y)
    ∙ after_of ls m y h.1

-- ---- what shows a refusal

take_all : (n : ℕ) (xs : List ℕ) → length xs ≤ n → take n xs ≡ xs
take_all zero [] h = refl
take_all zero (x ∷ xs) h = absurd (omega (arith, h))
take_all (suc n) [] h = refl
take_all (suc n) (x ∷ xs) h = ap (λ t. x ∷ t) (take_all n xs (omega (arith, h)))

-- line n comes after these lines
module _ (past : List (List ℕ)) (n : ℕ) where
  shown_next : (y : List ℕ) → All HasNoNewline past → n ≡ length past + 1 → shown_by n (unlines past ++ y) ≡ unlines past ++ take (limit_of n + 1) (first_lines 1 y)
  shown_next y whole count =
      let h = recursion_from_All HasNoNewline past whole in
      let before : n - 1 ≡ length past + 0 = omega (arith, count) in
      let front : first_lines (n - 1) (unlines past ++ y) ≡ unlines past =
      ap (λ k. first_lines k (unlines past ++ y)) before ∙ first_of past 0 y h ∙ ap (λ t. unlines past ++ t) (first_zero y) ∙ append-nil (unlines past) in
      let after : after_lines (n - 1) (unlines past ++ y) ≡ y = ap (λ k. after_lines k (unlines past ++ y)) before ∙ after_of past 0 y h ∙ after_zero y in
      ap (λ t. t ++ take (limit_of n + 1) (first_lines 1 (after_lines (n - 1) (unlines past ++ y)))) front
      ∙ ap (λ t. unlines past ++ take (limit_of n + 1) (first_lines 1 t)) after

  pub shown_with_newline : (l rest : List ℕ) → All HasNoNewline past → n ≡ length past + 1 → HasNoNewline l → length l ≤ limit_of n → shown_by n (unlines past ++ ((l ++ 10 ∷ []) ++ rest)) ≡ unlines past ++ (l ++ 10 ∷ [])
  shown_with_newline l rest whole count h short =
      let line : first_lines 1 ((l ++ 10 ∷ []) ++ rest) ≡ l ++ 10 ∷ [] =
      ap (first_lines 1) (append_assoc l (10 ∷ []) rest) ∙ first_along 0 l (10 ∷ rest) (recursion_from_All _ l h)
      ∙ ap (λ t. l ++ t) (first_newline 0 rest ∙ ap (λ t. 10 ∷ t) (first_zero rest)) in
      shown_next ((l ++ 10 ∷ []) ++ rest) whole count
      ∙ ap (λ t. unlines past ++ t) (ap (take (limit_of n + 1)) line ∙ take_all (limit_of n + 1) (l ++ 10 ∷ []) (omega (arith, short, length-append l (10 ∷ []))))

  pub shown_too_long : (line more : List ℕ) → All HasNoNewline past → n ≡ length past + 1 → HasNoNewline line → length line ≡ limit_of n + 1 → shown_by n (unlines past ++ (line ++ more)) ≡ unlines past ++ line
  shown_too_long line more whole count h size =
      shown_next (line ++ more) whole count
      ∙ ap (λ t. unlines past ++ t)
      (ap (take (limit_of n + 1)) (first_along 0 line more (recursion_from_All _ line h)) ∙ ap (λ k. take k (line ++ first_lines 1 more)) (sym size) ∙ take-append_seam line (first_lines 1 more))

  -- at the end of the input a line from n on is shown to be refused by all there is
  pub shown_at_end : (l : List ℕ) (m : ℕ) → All HasNoNewline past → n ≡ length past + 1 → HasNoNewline l → length l ≤ limit_of n → n ≤ m → shown_by m (unlines past ++ l) ≡ unlines past ++ l
  shown_at_end l m whole count h short later = elim (cases_lt n m) [
    | inr here ↦
        let same : m ≡ n = omega (arith, here, later) in
        ap (λ k. shown_by k (unlines past ++ l)) same ∙ shown_next l whole count
        ∙ ap (λ t. unlines past ++ t) (ap (take (limit_of n + 1)) (line_of 0) ∙ take_all (limit_of n + 1) l (omega (arith, short)))
    | inl beyond ↦
        let d : ℕ = m - n - 1 in
        let before : m - 1 ≡ length past + suc d = omega (arith, beyond, count) in
        let all = recursion_from_All HasNoNewline past whole in
        let front : first_lines (m - 1) (unlines past ++ l) ≡ unlines past ++ l = ap (λ k. first_lines k (unlines past ++ l)) before ∙ first_of past (suc d) l all ∙ ap (λ t. unlines past ++ t) (line_of d) in
        let none : after_lines (m - 1) (unlines past ++ l) ≡ [] = ap (λ k. after_lines k (unlines past ++ l)) before ∙ after_of past (suc d) l all ∙ after_line d in
        ap (λ t. t ++ take (limit_of m + 1) (first_lines 1 (after_lines (m - 1) (unlines past ++ l)))) front
        ∙ ap (λ t. (unlines past ++ l) ++ take (limit_of m + 1) (first_lines 1 t)) none
        ∙ ap (λ t. (unlines past ++ l) ++ t) (ap (take (limit_of m + 1)) (first_of_none 1) ∙ take_all (limit_of m + 1) [] (omega arith)) ∙ append-nil (unlines past ++ l)
  ]
    where
      line_of : (d : ℕ) → first_lines (suc d) l ≡ l
      line_of d = ap (first_lines (suc d)) (sym (append-nil l)) ∙ first_along d l [] (recursion_from_All _ l h) ∙ ap (λ t. l ++ t) (first_of_none (suc d)) ∙ append-nil l

      after_line : (d : ℕ) → after_lines (suc d) l ≡ []
      after_line d = ap (after_lines (suc d)) (sym (append-nil l)) ∙ after_along d l [] (recursion_from_All _ l h) ∙ after_none (suc d)

-- ---- a refusal is of a line that was left

abbrev line_in : Option Refused → ℕ
line_in None = 0
line_in (Some k) = k.line

module _ {S : Type 0} (lang : Language S) where
  later_unless : (n m : ℕ) (at : Option S) (k : Option Refusal) (rest : Meaning S) (number : ℕ) (refusal : Refusal) → n ≤ m → ((number : ℕ) (refusal : Refusal) → rest.refused ≡ Some (refusal_at number refusal) → m ≤ number)
      → (unless_stopped n at k rest).refused ≡ Some (refusal_at number refusal) → n ≤ number
  later_unless n m at None rest number refusal le h is = omega (arith, le, h number refusal is)
  later_unless n m at (Some k) rest number refusal le h is = let same : n ≡ number = ap line_in is in omega (arith, same)

  later_at_end : (n : ℕ) (at : Option S) (number : ℕ) (refusal : Refusal) → (meaning_at_end n at).refused ≡ Some (refusal_at number refusal) → n ≤ number
  later_at_end n None number refusal is = let same : n ≡ number = ap line_in is in omega (arith, same)
  later_at_end n (Some x) number refusal is = absurd cc

  pub refused_later : (ls : List (List ℕ)) (n : ℕ) (at : Option S) (number : ℕ) (refusal : Refusal) → (meaning_from lang ls n at).refused ≡ Some (refusal_at number refusal) → n ≤ number
  unfolding meaning_from
  refused_later [] n at number refusal is = later_at_end n at number refusal is
  refused_later (l ∷ ls) n at number refusal is =
      later_unless n (n + 1) (step lang n at l).scene (step lang n at l).refusal (meaning_from lang ls (n + 1) (step lang n at l).scene) number refusal (omega arith)
      (λ number refusal is. refused_later ls (n + 1) (step lang n at l).scene number refusal is) is
