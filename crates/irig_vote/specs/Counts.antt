-- How many numbers are such, as a relation.
-- Source: docs/READER.md, of how many ports something is said.
use Rattle.std.specs.Prelude.{ℕ, ◌+◌, ◌≤◌, List, [], ◌∷◌, length, All, ⊤}

-- numbers in rising order, from this one on
abbrev pub AreRising : ℕ → List ℕ → Type 0
AreRising from [] = ⊤
AreRising from (n ∷ ns) = (from ≤ n) × AreRising (n + 1) ns

-- at least so many are such: there is a list of them, each once
pub record AtLeast (count : ℕ) (IsSuch : ℕ → Type 0) : Type 0 where
  pub numbers : List ℕ
  pub rising : AreRising 0 numbers
  pub such : All IsSuch numbers
  pub many : count ≤ length numbers

-- at most so many are such: no list of them, each once, is longer
abbrev pub AtMost : ℕ → (ℕ → Type 0) → Type 0
AtMost count IsSuch =
    (numbers : List ℕ) → AreRising 0 numbers → All IsSuch numbers → length numbers ≤ count
