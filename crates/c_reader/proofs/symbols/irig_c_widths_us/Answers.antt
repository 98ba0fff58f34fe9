use Rattle.std.proofs.Common.{arith, ◌≡◌, ◌∙◌, sym, ℕ, map, get_or}
use Rattle.std.proofs.lemmas.List.{same_lists, get_or-map, length-map}
use Rattle.irig_frame.specs.Symbols.{width_of}
use Rattle.c_numbers.specs.Numbers.{symbol_in}
use Rattle.c_reader.proofs.symbols.irig_c_widths_us.Goals as goal

abbrev width_in : ℕ → ℕ
width_in number = width_of (symbol_in number)

pub returns : goal.returns
returns c =
    let items = c.map.ensures.items in
    let from = c.args.symbols.now in
    let long = length-map from width_in in
    same_lists c.map.result (map width_in from) (items.long ∙ sym (long ∙ c.told-symbols))
    (λ k d lt. let called = items.at k 0 d (omega arith) in
    let here : get_or c.map.result k d ≡ width_in (get_or from k 0) = called.2.met in
    here ∙ sym (get_or-map width_in from k 0 d (omega arith)))
