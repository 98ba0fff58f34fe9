-- The vote: of 2f + 1 ports, the claim that at least f + 1 tell.
-- Source: docs/READER.md; this project's profile: two of three ports, three of five, the only one.
use Rattle.std.specs.Prelude.{ℕ, Bool, false, ◌==◌, not, nat_lt, if◌then◌else◌, List, [], ◌∷◌, count_by, Option, Some, None}
use Rattle.irig_time.specs.declared.claim.Claim.{Claim}
use Rattle.irig_time.specs.Claims.{same_claim}
use Rattle.irig_time.specs.Seconds.{IsValid}
use Rattle.irig_port.specs.declared.told.Told.{Told}
use Rattle.irig_port.specs.declared.told.Told.TheVariants as tells
use Rattle.irig_port.specs.Told.{IfClaim}
use Rattle.irig_vote.specs.declared.redundancy.Redundancy.{Redundancy}
use Rattle.irig_vote.specs.declared.redundancy.Redundancy.TheVariants.{One, Three, Five}
use Rattle.irig_vote.specs.declared.votes.Tells.{Tells}

-- how many ports may be untrue
abbrev pub f_of : Redundancy → ℕ
f_of One = 0
f_of Three = 1
f_of Five = 2

-- how many ports there are
abbrev pub ports_in : Redundancy → ℕ
ports_in One = 1
ports_in Three = 3
ports_in Five = 5

-- of a plant with three generators or five
abbrev pub redundancy_of : ℕ → Redundancy
redundancy_of ports = if ports == 3 then Three else Five

-- what they tell
abbrev pub ports_of : Tells → Redundancy → List Told
ports_of t One = t.a ∷ []
ports_of t Three = t.a ∷ t.b ∷ t.c ∷ []
ports_of t Five = t.a ∷ t.b ∷ t.c ∷ t.d ∷ t.e ∷ []

-- a claim, if the port tells one, is of a second of UTC
abbrev pub IsOfUtc : Told → Type 0
IsOfUtc told = IfClaim told (λ claim. IsValid claim.at)

-- so of each port
pub record AreOfUtc (t : Tells) : Type 0 where
  pub a : IsOfUtc t.a
  pub b : IsOfUtc t.b
  pub c : IsOfUtc t.c
  pub d : IsOfUtc t.d
  pub e : IsOfUtc t.e

-- whether a port tells this claim
abbrev pub is_told : Claim → Told → Bool
is_told c (tells.Claim d) = same_claim c d
is_told c _ = false

-- how many of the ports tell this claim
abbrev pub carriers : Claim → List Told → ℕ
carriers c ports = count_by (is_told c) ports

-- whether a port tells another claim
abbrev pub is_other : Claim → Told → Bool
is_other c (tells.Claim d) = not (same_claim c d)
is_other c _ = false

-- how many of the ports tell another claim
abbrev pub others : Claim → List Told → ℕ
others c ports = count_by (is_other c) ports

-- the first of these claims that more than f of all ports tell
abbrev pub first_told : ℕ → List Told → List Told → Option Claim
first_told f ports [] = None
first_told f ports (tells.Claim c ∷ ts) =
    if nat_lt f (carriers c ports) then Some c else first_told f ports ts
first_told f ports (_ ∷ ts) = first_told f ports ts

-- the vote: the claim that at least f + 1 ports tell, if there is one
unfoldable pub vote_of : Tells → Redundancy → Option Claim
vote_of t redundancy = first_told (f_of redundancy) (ports_of t redundancy) (ports_of t redundancy)
