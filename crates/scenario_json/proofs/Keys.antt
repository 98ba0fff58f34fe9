-- The place of a text among names.
use Rattle.std.proofs.Common.{◌≡◌, ℕ, List, [], ◌∷◌, String, string_bytes, refl, ap, map, sym, ◌∙◌, cond, Some, ◌+◌}
use Rattle.std.specs.List.{position, position_from}
use Rattle.std.specs.Str.{bytes_eq}
use Rattle.std.proofs.lemmas.Iterator.Adapters.{position_from-zero}
use Rattle.std.specs.declared.alloc.Global.{Global}

position_of_text_from : (r : List ℕ) (i : ℕ) (names : List (String Global)) → position_from (λ n. bytes_eq r (string_bytes n)) i names ≡ position_from (λ n. bytes_eq r n) i (map string_bytes names)
position_of_text_from r i [] = refl
position_of_text_from r i (n ∷ ns) = ap (cond (bytes_eq r (string_bytes n)) (Some i)) (position_of_text_from r (i + 1) ns)

-- the place of a text among names
pub position_of_text : (r : List ℕ) (names : List (String Global)) → position (λ n. bytes_eq r (string_bytes n)) names ≡ position (λ n. bytes_eq r n) (map string_bytes names)
position_of_text r names =
    position_from-zero (λ n. bytes_eq r (string_bytes n)) names
    ∙ position_of_text_from r 0 names
    ∙ sym (position_from-zero (bytes_eq r) (map string_bytes names))
