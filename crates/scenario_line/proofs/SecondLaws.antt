-- One generator or reader more.
use Rattle.std.proofs.Common.{◌≡◌, ℕ, zero, suc, ◌+◌, [], ◌∷◌, ◌++◌, refl, ap, ◌∙◌, append-nil, arith}
use Rattle.std.specs.List.{flat_map, range_with_len}
use Rattle.std.proofs.lemmas.Grind.{flat_map-append}
use Rattle.std.proofs.lemmas.List.FromFn.{map-range_with_len_more}
use Rattle.irig_plant.specs.declared.event.Event.TheVariants.{GenEdge, Tick, Carry}
use Rattle.irig_plant.specs.WholeSecond.{carries_to, carries, ticks, steps}

pub one_carry_more : (r n : ℕ) → carries_to (n + 1) r ≡ carries_to n r ++ Carry n r ∷ []
one_carry_more r n = map-range_with_len_more (λ g. Carry g r) 0 n n (omega arith)

pub one_tick_more : (n : ℕ) → ticks (n + 1) ≡ ticks n ++ Tick n ∷ []
one_tick_more n = map-range_with_len_more (λ r. Tick r) 0 n n (omega arith)

pub one_step_more : (n : ℕ) → steps (n + 1) ≡ steps n ++ GenEdge n ∷ []
one_step_more n = map-range_with_len_more (λ g. GenEdge g) 0 n n (omega arith)

range_more : (a n j : ℕ) → a + n ≡ j → range_with_len a (suc n) ≡ range_with_len a n ++ j ∷ []
range_more a zero j e = let same : a ≡ j = omega (arith, e) in rw same refl
range_more a (suc n) j e = ap (λ rest. a ∷ rest) (range_more (a + 1) n j (omega (arith, e)))

pub one_reader_more : (generators n : ℕ) → carries generators (n + 1) ≡ carries generators n ++ carries_to generators n
one_reader_more generators n =
    let next : n + 1 ≡ suc n = omega arith in
    ap (λ k. carries generators k) next ∙ ap (flat_map (λ r. carries_to generators r)) (range_more 0 n n (omega arith)) ∙ flat_map-append (λ r. carries_to generators r) (range_with_len 0 n) (n ∷ [])
    ∙ ap (λ more. carries generators n ++ more) (append-nil (carries_to generators n))
