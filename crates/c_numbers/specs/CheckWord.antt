-- The check word of a reader: what its numbers add up to, each times an odd weight of its own.
-- Source: this library's own.
use Rattle.std.specs.Prelude.{ℕ, ◌≡◌, ◌+◌, ◌*◌, ◌%◌, ◌^◌, ◌<◌, ◌⊎◌, List, [], ◌∷◌, ◌++◌}
use Rattle.irig_port.specs.declared.tally.Tally.{Tally}
use Rattle.c_numbers.specs.declared.reader.IrigReader.{IrigReader}
use Rattle.c_numbers.specs.declared.setup.IrigSetup.{IrigSetup}
use Rattle.c_numbers.specs.declared.state.IrigState.{IrigState}
use Rattle.c_numbers.specs.declared.sums.Sums.{Sums}
use Rattle.c_numbers.specs.declared.table.IrigLeap.{IrigLeap}
use Rattle.c_numbers.specs.declared.table.IrigTable.{IrigTable}
use Rattle.c_numbers.specs.Tallies.{tally_at}

-- the numbers of a setup
abbrev pub setup_numbers : IrigSetup → List ℕ
setup_numbers s =
    s.parity ∷ s.sense ∷ s.sbs ∷ s.redundancy ∷ s.lock_after ∷ s.holdover ∷ s.not_before
    ∷ s.poor_from ∷ []

-- the numbers of leaps
abbrev pub leap_numbers : List IrigLeap → List ℕ
leap_numbers [] = []
leap_numbers (l ∷ ls) = l.day ∷ l.kind ∷ leap_numbers ls

-- the numbers of a table, also of the leaps that do not count
abbrev pub table_numbers : IrigTable → List ℕ
table_numbers t = t.until ∷ t.len ∷ leap_numbers t.leaps

-- the numbers of a state
abbrev pub state_numbers : IrigState → List ℕ
state_numbers s = s.kind ∷ s.count ∷ s.heard ∷ s.day ∷ s.sod ∷ s.age ∷ []

-- the numbers of what a port heard
abbrev pub tally_numbers : Tally → List ℕ
tally_numbers t = t.count ∷ t.wrong.kind ∷ t.wrong.element ∷ t.time ∷ t.control ∷ []

-- the numbers of five ports
abbrev pub port_numbers : List Tally → List ℕ
port_numbers ports =
    tally_numbers (tally_at ports 0) ++ tally_numbers (tally_at ports 1)
    ++ tally_numbers (tally_at ports 2) ++ tally_numbers (tally_at ports 3)
    ++ tally_numbers (tally_at ports 4)

-- all numbers of a reader but the check word
abbrev pub numbers_of : IrigReader → List ℕ
numbers_of r =
    setup_numbers r.setup ++ table_numbers r.table ++ state_numbers r.state ++ port_numbers r.ports

-- what numbers add up to, the first one times this weight, each other times two more
abbrev pub weighted : ℕ → List ℕ → ℕ
weighted weight [] = 0
weighted weight (n ∷ ns) = weight * n + weighted (weight + 2) ns

-- what numbers add up to
abbrev pub total : List ℕ → ℕ
total [] = 0
total (n ∷ ns) = n + total ns

-- two sums of numbers, by 64 bits: as they are, and each times its place, the first one times 0
pub record AreSumsOf (s : Sums) (ns : List ℕ) : Type 0 where
  pub sum : s.sum ≡ total ns % 2 ^ 64
  pub places : (s.places * 2) % 2 ^ 64 ≡ weighted 0 ns % 2 ^ 64

-- the check word that belongs to these numbers
unfoldable pub check_of : IrigReader → ℕ
check_of r = weighted 3 (numbers_of r) % 2 ^ 64

-- the reader has it
abbrev pub IsSealed : IrigReader → Type 0
IsSealed r = r.check ≡ check_of r

-- the first of two lists of numbers of 64 bits are different, and nothing else is
pub record DifferFirst (m n : ℕ) (ms ns : List ℕ) : Type 0 where
  pub one : m < 2 ^ 64
  pub other : n < 2 ^ 64
  pub differ : m ≡ n → ⊥
  pub rest : ms ≡ ns

-- two lists of numbers are alike but for one number
abbrev pub AreOneApart : List ℕ → List ℕ → Type 0
AreOneApart (m ∷ ms) (n ∷ ns) = DifferFirst m n ms ns ⊎ ((m ≡ n) × AreOneApart ms ns)
AreOneApart _ _ = ⊥

-- one number of a reader is another one in the other reader
abbrev pub IsOneNumberApart : IrigReader → IrigReader → Type 0
IsOneNumberApart r q = AreOneApart (r.check ∷ numbers_of r) (q.check ∷ numbers_of q)
