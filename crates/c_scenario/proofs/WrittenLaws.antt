-- Records are written as numbers, one after another, as far as there is room.
use Rattle.std.proofs.Common.{◌≡◌, ℕ, ◌+◌, ◌<◌, ◌≤◌, List, [], ◌∷◌, ◌++◌, map, length, take, drop, get_or, length-append, inl, inr, refl, ap, sym, ◌∙◌, append_assoc, append-nil, arith, slice_set, min}
use Rattle.std.proofs.lemmas.Bool.{cases_lt}
use Rattle.std.proofs.Math.Seq.{set-append_seam, take-append_seam}
use Rattle.std.proofs.Math.ListN.{drop_of_length-le}
use Rattle.std.proofs.lemmas.List.{take_all, length-map}
use Rattle.c_scenario.specs.Runs.{written_over}
use Rattle.c_scenario.proofs.EntryLaws.{drop_at}

module _ {A B : Type 0} (for_c : A → B) where
  -- ---- one more is written

  -- so many were written, and behind them stands what stood there
  pub record HasWritten (fs : List A) (old room : List B) (i : ℕ) : Type 0 where
    pub front : List B
    pub count : length front ≡ i
    pub all : map for_c fs ≡ front ++ map for_c (drop i fs)
    pub over : room ≡ front ++ drop i old

  pub none_written : (fs : List A) (old : List B) → HasWritten fs old old 0
  none_written fs old = record { front = []; count = refl; all = refl; over = refl }

  pub one_written : (fs : List A) (old room : List B) (i : ℕ) (d : A) (s : B) → HasWritten fs old room i → i < length fs → i < length old
      → s ≡ for_c (get_or fs i d) → HasWritten fs old (slice_set room i s) (i + 1)
  one_written fs old room i d s h there fits made =
      let split : drop i fs ≡ get_or fs i d ∷ drop (i + 1) fs = drop_at fs i d there in
      let gone : drop i old ≡ get_or old i s ∷ drop (i + 1) old = drop_at old i s fits in
      record {
        front = h.front ++ s ∷ [];
        count = length-append h.front (s ∷ []) ∙ ap (λ n. n + 1) h.count;
        all = h.all ∙ ap (λ l. h.front ++ map for_c l) split ∙ ap (λ x. h.front ++ x ∷ map for_c (drop (i + 1) fs)) (sym made) ∙ sym (append_assoc h.front (s ∷ []) (map for_c (drop (i + 1) fs)));
        over = ap (λ l. slice_set l i s) (h.over ∙ ap (λ l. h.front ++ l) gone) ∙ ap (λ n. slice_set (h.front ++ get_or old i s ∷ drop (i + 1) old) n s) (sym h.count)
            ∙ set-append_seam h.front (get_or old i s) (drop (i + 1) old) s ∙ sym (append_assoc h.front (s ∷ []) (drop (i + 1) old));
      }

  -- all of them stand there, or as many as there is room for
  pub all_written : (fs : List A) (old room : List B) (i : ℕ) → HasWritten fs old room i → i ≡ min (length old) (length fs) → room ≡ written_over old (map for_c fs)
  all_written fs old room i h end = elim (cases_lt (length old) (length fs)) [
    | inl less ↦
        let last : i ≡ length old = end ∙ omega (arith, less) in
        let full : length old ≡ length h.front = sym last ∙ sym h.count in
        let none : drop i old ≡ [] = drop_of_length-le old (omega (arith, last)) in
        let past : drop (length (map for_c fs)) old ≡ [] = drop_of_length-le old (omega (arith, less, length-map fs for_c)) in
        let front : take (length old) (map for_c fs) ≡ h.front = ap (λ n. take n (map for_c fs)) full ∙ ap (take (length h.front)) h.all ∙ take-append_seam h.front (map for_c (drop i fs)) in
        h.over ∙ ap (λ l. h.front ++ l) none ∙ ap (λ l. l ++ []) (sym front) ∙ ap (λ l. take (length old) (map for_c fs) ++ l) (sym past)
    | inr fits ↦
        let last : i ≡ length fs = end ∙ omega (arith, fits) in
        let none : drop i fs ≡ [] = drop_of_length-le fs (omega (arith, last)) in
        let whole : map for_c fs ≡ h.front = h.all ∙ ap (λ l. h.front ++ map for_c l) none ∙ append-nil h.front in
        let long : length (map for_c fs) ≡ i = length-map fs for_c ∙ sym last in
        h.over ∙ ap (λ l. l ++ drop i old) (sym whole ∙ sym (take_all (length old) (map for_c fs) (omega (arith, fits, length-map fs for_c)))) ∙ ap (λ n. take (length old) (map for_c fs) ++ drop n old) (sym long)
  ]

-- nothing is written of none
pub nothing_over : {B : Type 0} (room : List B) → written_over room [] ≡ room
nothing_over [] = refl
nothing_over (e ∷ es) = refl
