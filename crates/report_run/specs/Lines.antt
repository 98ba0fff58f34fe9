-- The lines of some bytes, and their limits.
-- Source: docs/SCENARIOS.md.
use Rattle.std.specs.Prelude.{ℕ, zero, suc, ◌+◌, ◌-◌, ◌==◌, ◌||◌, Bool, List, [], ◌∷◌, ◌++◌, if◌then◌else◌, nat_lt, take}
use Rattle.std.specs.List.{flat_map, list_all}
use Rattle.text_faults.specs.declared.refusal.Refusal.{Refusal}
use Rattle.text_faults.specs.declared.refusal.Refusal.TheVariants.{TooManyLines, TooLong}

-- a byte before the first line
abbrev pub onto_first : ℕ → List (List ℕ) → List (List ℕ)
onto_first b [] = (b ∷ []) ∷ []
onto_first b (l ∷ ls) = (b ∷ l) ∷ ls

-- each line without its newline, 10, which the last may lack
unfoldable pub lines : List ℕ → List (List ℕ)
lines [] = []
lines (b ∷ bs) = if b == 10 then [] ∷ lines bs else onto_first b (lines bs)

-- lines with their newlines
abbrev pub unlines : List (List ℕ) → List ℕ
unlines ls = flat_map (λ l. l ++ 10 ∷ []) ls

-- the last line that is run
abbrev pub max_lines : ℕ
max_lines = 1000000

-- the longest line that is run, in bytes without its newline
abbrev pub max_line : ℕ
max_line = 65536

-- how many bytes of a line are read at most before it is known to be refused
abbrev pub limit_of : ℕ → ℕ
limit_of number = if nat_lt max_lines number then 0 else max_line

-- the refusal of line n if it is too long
abbrev pub too_long : ℕ → Refusal
too_long n = if nat_lt max_lines n then TooManyLines else TooLong

-- blanks, tabs and carriage returns alone: such a line is skipped
abbrev pub is_blank : List ℕ → Bool
is_blank line = list_all (λ b. b == 32 || b == 9 || b == 13) line

-- ---- how far lines are read

-- the first lines, with their newlines, which the last may lack
unfoldable pub first_lines : ℕ → List ℕ → List ℕ
first_lines zero bs = []
first_lines (suc n) [] = []
first_lines (suc n) (b ∷ bs) =
    b ∷ (if b == 10 then first_lines n bs else first_lines (suc n) bs)

-- what comes after them
unfoldable pub after_lines : ℕ → List ℕ → List ℕ
after_lines zero bs = bs
after_lines (suc n) [] = []
after_lines (suc n) (b ∷ bs) = if b == 10 then after_lines n bs else after_lines (suc n) bs

-- what shows that line n is refused: the lines before it, and it as far as it may be read, which is
-- one byte more than its limit
abbrev pub shown_by : ℕ → List ℕ → List ℕ
shown_by n bs =
    first_lines (n - 1) bs ++ take (limit_of n + 1) (first_lines 1 (after_lines (n - 1) bs))
