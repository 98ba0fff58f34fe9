use Rattle.std.proofs.Common.{arith, ◌≡◌, ◌∙◌, sym, ap, ℕ, List, length, map, get_or}
use Rattle.std.proofs.lemmas.List.{same_lists, get_or-map, length-map}
use Rattle.c_numbers.specs.Numbers.{symbol_in}
use Rattle.c_numbers.proofs.symbols.symbols_of.Goals as goal

pub returns : goal.returns
returns c =
    let items = c.map.ensures.items in
    let from : List ℕ = c.array_of.result in
    let len : length from ≡ 100 = ap (λ (s : List ℕ). length s) c.array_of.ensures ∙ c.requires in
    let long = length-map from symbol_in in
    same_lists c.map.result (map symbol_in from) (items.long ∙ sym (long ∙ len))
    (λ k d lt. let called = items.at k 0 d (omega arith) in
    let here : get_or c.map.result k d ≡ symbol_in (get_or from k 0) = called.2.met in
    here ∙ sym (get_or-map symbol_in from k 0 d (omega arith)))
    ∙ ap (λ (s : List ℕ). map symbol_in s) c.array_of.ensures
