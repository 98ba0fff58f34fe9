-- Known names of readers, so that a wrong definition does not check.
use Rattle.std.proofs.Common.{◌≡◌, true, false, [], ◌∷◌, map, refl}
use Rattle.std.specs.Prelude.{codes}
use Rattle.scenario_values.specs.Names.{is_name, are_names}

-- 1 to 16 of the bytes a to z, 0 to 9, _ and -
pub known_names : map is_name (codes "r1" ∷ codes "west-2_b" ∷ codes "abcdefghijklmnop" ∷ codes "abcdefghijklmnopq" ∷ [] ∷ codes "West" ∷ codes "a b" ∷ codes "a.b" ∷ [])
    ≡ true ∷ true ∷ true ∷ false ∷ false ∷ false ∷ false ∷ false ∷ []
unfolding is_name
known_names = refl

-- one reader at least, and no name twice
pub known_readers : map are_names ((codes "r1" ∷ codes "r2" ∷ []) ∷ [] ∷ (codes "r1" ∷ codes "r2" ∷ codes "r1" ∷ []) ∷ (codes "r1" ∷ codes "West" ∷ []) ∷ [])
    ≡ true ∷ false ∷ false ∷ false ∷ []
unfolding are_names is_name
known_readers = refl
