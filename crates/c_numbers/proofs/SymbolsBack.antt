-- The numbers of symbols are those symbols' numbers.
use Rattle.std.proofs.Common.{◌≡◌, ◌∙◌, ℕ, ◌<◌, refl, sym, ap, List, [], ◌∷◌, map, length, slice_set, slice_index_or, arith}
use Rattle.std.proofs.lemmas.List.{map-set, get_or-set_same, length-set}
use Rattle.irig_frame.specs.declared.symbol.Symbol.{Symbol}
use Rattle.irig_frame.specs.declared.symbol.Symbol.TheVariants.{Zero, One, Marker, Bad}
use Rattle.c_numbers.specs.Numbers.{symbol_in, number_of_symbol}

pub back : (x : Symbol) → symbol_in (number_of_symbol x) ≡ x
back Zero = refl
back One = refl
back Marker = refl
back Bad = refl

pub symbols_back : (xs : List Symbol) → map symbol_in (map number_of_symbol xs) ≡ xs
symbols_back [] = refl
symbols_back (x ∷ xs) = λ i. back x i ∷ symbols_back xs i

-- if one symbol of a frame was set, the number of that symbol alone gives the frame
pub set_back : (ns : List ℕ) (frame : List Symbol) (x d : Symbol) (n i : ℕ) → i < length frame → frame ≡ slice_set (map symbol_in ns) i x → n ≡ number_of_symbol (slice_index_or frame i d)
    → map symbol_in (slice_set ns i n) ≡ frame
set_back ns frame x d n i inside is numbered =
    let there : slice_index_or frame i d ≡ x = rw is (get_or-set_same (map symbol_in ns) i x d (omega (arith, inside, ap length is, length-set (map symbol_in ns) i x))) in
    let number : symbol_in n ≡ x = ap symbol_in numbered ∙ (back (slice_index_or frame i d) ∙ there) in
    map-set symbol_in ns i n ∙ (ap (λ (y : Symbol). slice_set (map symbol_in ns) i y) number ∙ sym is)
