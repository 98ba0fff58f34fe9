-- What a line carries if it is true: the frames that its generator sends, but for those that claim
-- what is not so.
-- Source: docs/WIRES.md, what a timekeeper asks; docs/SCENARIOS.md.
use Rattle.std.specs.Prelude.{ℕ, ◌/◌, ◌%◌, ◌==◌, Bool, true, false, ◌&&◌, if◌then◌else◌, List, [], ◌∷◌, length, map, get_or, Option, Some, None, is_none}
use Rattle.std.specs.List.{range_with_len}
use Rattle.irig_frame.specs.declared.symbol.Symbol.{Symbol}
use Rattle.irig_frame.specs.declared.symbol.Symbol.TheVariants.{Zero, Marker}
use Rattle.irig_frame.specs.Faults.{first_wrong}
use Rattle.irig_frame.specs.FieldTable.{is_marker_place}
use Rattle.irig_time.specs.declared.rules.Rules.{Rules}
use Rattle.irig_time.specs.declared.claim.Claim.{Claim}
use Rattle.irig_time.specs.Claims.{same_claim}
use Rattle.irig_time.specs.Timelines.{TimelineValue, truth_at}
use Rattle.irig_port.specs.declared.told.Told.{Told}
use Rattle.irig_port.specs.declared.told.Told.TheVariants as tells
use Rattle.irig_port.specs.Told.{told_of}

-- what is told claims nothing but this, or nothing at all. It is `is_untrue` of irig_plant, on which
-- nothing here stands, the other way round
abbrev pub claims_only : Option Claim → Told → Bool
claims_only (Some truth) (tells.Claim c) = same_claim c truth
claims_only None (tells.Claim c) = false
claims_only truth _ = true

-- these symbols are a frame of the f-th second that does no harm: each may stand at its element,
-- and together they claim nothing but the truth
abbrev pub is_harmless : Rules → TimelineValue → ℕ → List Symbol → Bool
is_harmless rules t f s =
    (length s == 100) && is_none (first_wrong 0 s)
    && claims_only (truth_at t f) (told_of rules s)

-- a frame that claims nothing has zeros between its markers: no day has the number 0
abbrev pub blank_at : ℕ → Symbol
blank_at k = if is_marker_place k then Marker else Zero

-- all of it
unfoldable pub blank : List Symbol
blank = map blank_at (range_with_len 0 100)

-- of the frames that a line might carry in the f-th second the first that does no harm
abbrev pub first_harmless : Rules → TimelineValue → ℕ → List (List Symbol) → List Symbol
first_harmless rules t f [] = blank
first_harmless rules t f (s ∷ ss) =
    if is_harmless rules t f s then s else first_harmless rules t f ss

-- the k-th symbol of a line that carries such a frame in each second: `sent f` has what a generator
-- sends in the f-th, and what it sends without a fault
abbrev pub true_symbol : Rules → TimelineValue → (sent : ℕ → List (List Symbol)) → ℕ → Symbol
true_symbol rules t sent k =
    get_or (first_harmless rules t (k / 100) (sent (k / 100))) (k % 100) Zero
