use Rattle.std.proofs.Common.{◌≡◌, ℕ, ◌+◌, ◌≤◌, List, [], ◌∷◌, ◌++◌, length, take, drop, slice_index_or, arith, refl, sym, subst, ap, ◌∙◌, take-append-drop}
use Rattle.std.proofs.lemmas.Bool.{eqb-false, eqb-true}
use Rattle.std.proofs.lemmas.List.{drop_more, take_more}
use Rattle.text_frame.specs.Letters.{Shows}
use Rattle.text_frame.proofs.ReadLetters.{HasRead, read-symbol, take-room, take-full, strange-letter}
use Rattle.text_frame.proofs.reading.symbols_of.Goals.{then-not-is_full, else-not-is_full}
use Rattle.text_frame.proofs.reading.symbols_of.Goals as goal

pub returns-in_default-clause-err : goal.returns-in_default-clause-err
returns-in_default-clause-err c symbols shown =
    let text = c.args.text.now in
    let i = c.loop-letter.letter-index in
    let letter = slice_index_or text i 0 in
    let whole : text ≡ take i text ++ letter ∷ drop (i + 1) text =
    sym (take-append-drop i text) ∙ ap (λ (rest : List ℕ). take i text ++ rest) (drop_more text i 0 c.loop-letter-test.true) in
    strange-letter (take i text) (drop (i + 1) text) letter symbols c.if-letter-eq32.false (λ symbol is. c.in_default.not-Some symbol ((c.from_letter.ensures symbol).1 is))
    (subst (λ (t : List ℕ). Shows t symbols) whole shown)

pub loop-letter-preserved : goal.loop-letter-preserved
loop-letter-preserved c =
    let text = c.args.text.now in
    let i = c.loop-letter.letter-index in
    let read = c.loop-letter.invariant in
    let taken : c.if-not-is_full.symbols.items ≡ take 101 (read.past ++ c.in-Some.symbol ∷ []) = elim c.if-not-is_full.branch [
      | then-not-is_full w ↦
          let apart : length c.loop-letter.symbols.items ≡ 101 → ⊥ = eqb-false _ _ (sym w.if-not-is_full.ensures.value) in
          let fits : length c.loop-letter.symbols.items ≤ 101 = c.is_full.ensures.fits in
          ap (λ symbols. symbols.items) w.symbols-is ∙ w.push.ensures.items ∙ take-room read.past _ c.in-Some.symbol read.taken (omega (arith, apart, fits))
      | else-not-is_full w ↦
          let full : length c.loop-letter.symbols.items ≡ 101 = eqb-true _ _ (sym w.if-not-is_full.ensures.value) in
          ap (λ symbols. symbols.items) w.symbols-is ∙ take-full read.past _ c.in-Some.symbol read.taken (omega (arith, full))
    ] in
    subst (λ (front : List ℕ). HasRead front c.if-not-is_full.symbols.items) (sym (take_more text i 0 c.loop-letter-test.true))
    (read-symbol (take i text) c.loop-letter.symbols.items c.if-not-is_full.symbols.items (slice_index_or text i 0) c.in-Some.symbol read ((c.in-Some.ensures c.in-Some.symbol).0 refl) taken)
