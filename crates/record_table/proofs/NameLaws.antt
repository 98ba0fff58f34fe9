-- Names, one after another.
use Rattle.std.proofs.Common.{◌≡◌, ℕ, suc, ◌+◌, ◌-◌, ◌<◌, List, [], ◌∷◌, ◌++◌, ap, sym, ◌∙◌, append_assoc, arith}
use Rattle.record_text.specs.Fields.{field}
use Rattle.record_table.specs.declared.name.Name.{Name}
use Rattle.record_cells.specs.Cells.{unquoted}
use Rattle.record_table.specs.Titles.{bytes_of, names_from, numbered, numbered_from}

-- a name more is the next one
pub next-name : (names new : List Name) (first at count : ℕ) (line : List ℕ) → at < count
    → bytes_of new ≡ bytes_of names ++ unquoted (field (first + at) line) ∷ []
    → bytes_of new ++ names_from (first + (at + 1)) (count - (at + 1)) line
    ≡ bytes_of names ++ names_from (first + at) (count - at) line
next-name names new first at count line h is =
    let left : count - at ≡ suc (count - (at + 1)) = omega (arith, h) in
    let place : first + (at + 1) ≡ first + at + 1 = omega arith in
    let name = unquoted (field (first + at) line) in
    ap (λ n. n ++ names_from (first + (at + 1)) (count - (at + 1)) line) is
    ∙ append_assoc (bytes_of names) (name ∷ []) (names_from (first + (at + 1)) (count - (at + 1)) line)
    ∙ ap (λ p. bytes_of names ++ name ∷ names_from p (count - (at + 1)) line) place
    ∙ ap (λ n. bytes_of names ++ names_from (first + at) n line) (sym left)

-- a numbered name more is the next one
pub next-number : (names new : List Name) (at count : ℕ) → at < count → bytes_of new ≡ bytes_of names ++ numbered at ∷ []
    → bytes_of new ++ numbered_from (at + 1) (count - (at + 1)) ≡ bytes_of names ++ numbered_from at (count - at)
next-number names new at count h is =
    let left : count - at ≡ suc (count - (at + 1)) = omega (arith, h) in
    ap (λ n. n ++ numbered_from (at + 1) (count - (at + 1))) is
    ∙ append_assoc (bytes_of names) (numbered at ∷ []) (numbered_from (at + 1) (count - (at + 1)))
    ∙ ap (λ n. bytes_of names ++ numbered_from at n) (sym left)
