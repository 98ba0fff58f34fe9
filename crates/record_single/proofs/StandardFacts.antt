-- Single files, at known values.
use Rattle.std.proofs.Common.{◌≡◌, ℕ, true, false, List, [], ◌∷◌, ◌++◌, Some, None, refl}
use Rattle.std.specs.Prelude.{codes}
use Rattle.record_single.specs.declared.section.Section.TheVariants.{Config, Samples, Other}
use Rattle.record_single.specs.Sections.{section_of}
use Rattle.record_single.specs.Singles.{parts_of}
use Rattle.record_single.specs.Singles.Parts.{Whole, NoSamples}

-- the lines of the standard, and some that are none
pub known_sections : (section_of (codes "--- file type: CFG ---") ≡ Some Config) × (section_of (codes "---file type:inf---") ≡ Some Other)
    × (section_of (codes "--- file type: HDR ---") ≡ Some Other) × (section_of (codes "--- file type: DAT ASCII ---") ≡ Some (Samples None))
    × (section_of (codes "--- File Type: dat BINARY: 172 ---") ≡ Some (Samples (Some 172)))
    × (section_of (codes "--- file type: DATA ---") ≡ Some Other) × (section_of (codes "--- file type: DAT BINARY: many ---") ≡ None)
    × (section_of (codes " --- file type: CFG ---") ≡ None) × (section_of (codes "--- file type: CFG") ≡ None) × (section_of [] ≡ None)
known_sections = (refl, refl, refl, refl, refl, refl, refl, refl, refl, refl)

abbrev line : (text : List ℕ) → List ℕ
line text = text ++ 13 ∷ 10 ∷ []

-- what stands in another section is passed over; a file without samples; and one that ends within their line
pub known_parts : (parts_of (line (codes "--- file type: CFG ---") ++ line (codes "a,b") ++ line (codes "--- file type: INF ---") ++ line (codes "[x]")
    ++ line (codes "--- file type: DAT BINARY: 2 ---") ++ 1 ∷ 10 ∷ 3 ∷ []) ≡ Whole (line (codes "a,b")) (Some 2) (1 ∷ 10 ∷ 3 ∷ []))
    × (parts_of (line (codes "--- file type: CFG ---") ++ codes "a,b") ≡ NoSamples)
    × (parts_of (codes "--- file type: DAT ASCII ---") ≡ NoSamples)
known_parts = (refl, refl, refl)
