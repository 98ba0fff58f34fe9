-- Lines of a text in pieces.
use Rattle.std.proofs.Common.{◌≡◌, ℕ, suc, ◌+◌, ◌<◌, if◌then◌else◌, Bool, true, false, List, [], ◌∷◌, ◌++◌, length, take, slice_index_or, nat_eq, refl, append_assoc, ap, sym, ◌∙◌, arith}
use Rattle.std.specs.Prelude.{◌||◌, ◌&&◌}
use Rattle.std.proofs.lemmas.List.{append-nil}
use Rattle.record_text.specs.Lines.{is_cr, is_rest, next_number}
use Rattle.record_samples.specs.Rows.{begins_rest, end_in, ends_row, rows_by, rows_from}

-- a byte that ends no line is no LF, and no CR
within_tests : (lf cr end : Bool) → ((lf || cr) || end) ≡ false → (lf ≡ false) × (cr ≡ false)
within_tests true cr end e = absurd (let p : true ≡ false = e in cc)
within_tests false true end e = absurd (let p : true ≡ false = e in cc)
within_tests false false end e = (refl, refl)

within : (b : ℕ) → ends_row b ≡ false → (nat_eq b 10 ≡ false) × (is_cr b ≡ false)
within b e = within_tests (nat_eq b 10) (nat_eq b 13) (nat_eq b 26) e

-- it is one more of the line
one_more : (after_cr : Bool) (number : ℕ) (text : List ℕ) (b : ℕ) (bytes : List ℕ) → ends_row b ≡ false
    → rows_from after_cr number text (b ∷ bytes) ≡ rows_from false number (text ++ b ∷ []) bytes
one_more after_cr number text b bytes e =
    let w = within b e in
    ap (λ v. rows_by (v && after_cr) (ends_row b) number text b (λ n t. rows_from (is_cr b) n t bytes)) w.0
    ∙ ap (λ v. rows_by false v number text b (λ n t. rows_from (is_cr b) n t bytes)) e
    ∙ ap (λ v. rows_from v number (text ++ b ∷ []) bytes) w.1

-- the first of bytes that end no line, and the others
first_opens : (b : ℕ) (bs : List ℕ) → end_in (b ∷ bs) ≡ suc (length bs) → (ends_row b ≡ false) × (end_in bs ≡ length bs)
first_opens b bs e =
    (elim (ends_row b) as (λ v. (if v then 0 else end_in bs + 1) ≡ suc (length bs) → (v ≡ false) × (end_in bs ≡ length bs)) [
      | true ↦ λ e. absurd (omega (arith, e))
      | false ↦ λ e. (refl, omega (arith, e))
    ]) e

opens_more : (number : ℕ) (text bytes more : List ℕ) → end_in bytes ≡ length bytes
    → rows_from false number text (bytes ++ more) ≡ rows_from false number (text ++ bytes) more
opens_more number text [] more e = ap (λ t. rows_from false number t more) (sym (append-nil text))
opens_more number text (b ∷ bs) more e =
    let f = first_opens b bs e in
    one_more false number text b (bs ++ more) f.0
    ∙ opens_more number (text ++ b ∷ []) bs more f.1
    ∙ ap (λ t. rows_from false number t more) (append_assoc text (b ∷ []) bs)

-- bytes within a line
pub opens : (after_cr : Bool) (number : ℕ) (text bytes more : List ℕ) → end_in bytes ≡ length bytes → 0 < length bytes
    → rows_from after_cr number text (bytes ++ more) ≡ rows_from false number (text ++ bytes) more
opens after_cr number text [] more e h = absurd (omega (arith, h))
opens after_cr number text (b ∷ bs) more e h =
    let f = first_opens b bs e in
    one_more after_cr number text b (bs ++ more) f.0
    ∙ opens_more number (text ++ b ∷ []) bs more f.1
    ∙ ap (λ t. rows_from false number t more) (append_assoc text (b ∷ []) bs)

closing : (after_cr : Bool) (number : ℕ) (text : List ℕ) (b : ℕ) (more : List ℕ) → ends_row b ≡ true → is_rest after_cr b ≡ false
    → rows_from after_cr number text (b ∷ more) ≡ record { text = text; number = number } ∷ rows_from (is_cr b) (next_number number) [] more
closing after_cr number text b more e n =
    ap (λ v. rows_by v (ends_row b) number text b (λ n t. rows_from (is_cr b) n t more)) n
    ∙ ap (λ v. rows_by false v number text b (λ n t. rows_from (is_cr b) n t more)) e

-- a byte that is no LF is no rest of a CR LF
no_rest : (b : ℕ) → is_rest false b ≡ false
no_rest b = elim (nat_eq b 10) as (λ v. (v && false) ≡ false) [
  | true ↦ refl
  | false ↦ refl
]

no_begin : (bytes : List ℕ) → begins_rest false bytes ≡ false
no_begin [] = refl
no_begin (b ∷ bs) = no_rest b

-- the last bytes of a line, and the one that ends it
pub closes : (after_cr : Bool) (number : ℕ) (text bytes more : List ℕ) → end_in bytes < length bytes → begins_rest after_cr bytes ≡ false
    → rows_from after_cr number text (take (end_in bytes + 1) bytes ++ more)
    ≡ record { text = text ++ take (end_in bytes) bytes; number = number }
    ∷ rows_from (is_cr (slice_index_or bytes (end_in bytes) 0)) (next_number number) [] more
closes after_cr number text [] more h n = absurd (omega (arith, h))
closes after_cr number text (b ∷ bs) more h n =
    (elim (ends_row b) as (λ v. v ≡ ends_row b → (if v then 0 else end_in bs + 1) < suc (length bs)
    → rows_from after_cr number text (take ((if v then 0 else end_in bs + 1) + 1) (b ∷ bs) ++ more)
    ≡ record { text = text ++ take (if v then 0 else end_in bs + 1) (b ∷ bs); number = number }
    ∷ rows_from (is_cr (slice_index_or (b ∷ bs) (if v then 0 else end_in bs + 1) 0)) (next_number number) [] more) [
      | true ↦ λ e h. closing after_cr number text b more (sym e) n
          ∙ ap (λ t. record { text = t; number = number } ∷ rows_from (is_cr b) (next_number number) [] more) (sym (append-nil text))
      | false ↦ λ e h.
          let p : (end_in bs + 1) + 1 ≡ suc (end_in bs + 1) = omega arith in
          let q : end_in bs + 1 ≡ suc (end_in bs) = omega arith in
          ap (λ k. rows_from after_cr number text (take k (b ∷ bs) ++ more)) p
          ∙ one_more after_cr number text b (take (end_in bs + 1) bs ++ more) (sym e)
          ∙ closes false number (text ++ b ∷ []) bs more (omega (arith, h)) (no_begin bs)
          ∙ ap (λ t. record { text = t; number = number } ∷ rows_from (is_cr (slice_index_or bs (end_in bs) 0)) (next_number number) [] more) (append_assoc text (b ∷ []) (take (end_in bs) bs))
          ∙ ap (λ k. record { text = text ++ take k (b ∷ bs); number = number } ∷ rows_from (is_cr (slice_index_or (b ∷ bs) k 0)) (next_number number) [] more) (sym q)
    ]) refl h
