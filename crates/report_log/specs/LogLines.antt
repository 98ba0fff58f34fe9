-- What the lines of a log show.
-- Source: docs/OUTPUT.md.
use Rattle.std.specs.Prelude.{◌≡◌, ◌≢◌, ℕ, ◌^◌, ◌<◌, ◌==◌, List, [], ◌∷◌, ◌++◌, length, codes, if◌then◌else◌, All}
use Rattle.std.specs.Fmt.{decimal}
use Rattle.report_log.specs.Text.{name_at}

-- a byte before the first line, if there is a line
abbrev pub before_first : ℕ → List (List ℕ) → List (List ℕ)
before_first b [] = []
before_first b (l ∷ ls) = (b ∷ l) ∷ ls

-- the whole lines of a text: those that end with their newline, 10, without it
unfoldable pub whole_lines : List ℕ → List (List ℕ)
whole_lines [] = []
whole_lines (b ∷ bs) = if b == 10 then [] ∷ whole_lines bs else before_first b (whole_lines bs)

-- an entry line, EDGE NAME TIME and more, with a blank (32) between: it shows this time for this
-- edge of this reader
pub record Shows (names : List (List ℕ)) (line : List ℕ) (reader edge : ℕ) (time : List ℕ)
    : Type 0 where
  pub number : edge < 2 ^ 64
  pub named : reader < length names
  pub word : All (λ b. b ≢ 32) time
  pub more : List ℕ
  pub is : line ≡ decimal edge ++ (32 ∷ (name_at names reader ++ (32 ∷ (time ++ (32 ∷ more)))))

-- the line is no entry line
abbrev pub ShowsNothing : List (List ℕ) → List ℕ → Type 0
ShowsNothing names line = (r n : ℕ) (time : List ℕ) → ¬ Shows names line r n time

-- the last line of a log whose premises first broke at this edge of the reader with this name
abbrev pub broken_line : ℕ → List ℕ → List ℕ
broken_line edge name =
    codes "premises broken: edge " ++ (decimal edge ++ (codes " reader " ++ name))
