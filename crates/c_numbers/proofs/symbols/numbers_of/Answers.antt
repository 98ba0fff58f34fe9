use Rattle.std.proofs.Common.{arith, ◌≡◌, ◌∙◌, sym, ap, ℕ, List, map, get_or}
use Rattle.std.proofs.lemmas.List.{same_lists, get_or-map, length-map}
use Rattle.irig_frame.specs.declared.symbol.Symbol.TheVariants.{Zero}
use Rattle.c_numbers.specs.Numbers.{symbol_in, number_of_symbol}
use Rattle.c_numbers.proofs.SymbolsBack.{symbols_back}
use Rattle.c_numbers.proofs.symbols.numbers_of.Goals as goal

pub returns : goal.returns
returns c =
    let items = c.map.ensures.items in
    let from = c.args.symbols.now in
    let long = length-map from number_of_symbol in
    ap (λ (s : List ℕ). map symbol_in s)
    (same_lists c.map.result (map number_of_symbol from) (items.long ∙ sym (long ∙ c.told-symbols))
    (λ k d lt. let called = items.at k Zero d (omega arith) in
    let here : get_or c.map.result k d ≡ number_of_symbol (get_or from k Zero) = called.2.met in
    here ∙ sym (get_or-map number_of_symbol from k Zero d (omega arith))))
    ∙ symbols_back from
