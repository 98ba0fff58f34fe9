-- Known votes, so that a wrong definition does not check.
use Rattle.std.proofs.Common.{◌≡◌, List, [], ◌∷◌, map, Option, Some, None, refl}
use Rattle.irig_time.specs.declared.mark.Mark.{Mark}
use Rattle.irig_time.specs.declared.mark.Mark.TheVariants.{Unspoken, NoLeap, Insert, Delete}
use Rattle.irig_time.specs.declared.claim.Claim.{Claim}
use Rattle.irig_time.specs.declared.claim.TimeFault.TheVariants as time_fault
use Rattle.irig_port.specs.declared.told.Told.{Told}
use Rattle.irig_port.specs.declared.told.Told.TheVariants as tells
use Rattle.irig_port.specs.declared.told.PortFault.TheVariants as fault
use Rattle.irig_vote.specs.declared.redundancy.Redundancy.TheVariants.{One, Three, Five}
use Rattle.irig_vote.specs.Vote.{f_of, ports_in, vote_of}

-- of one port none may be untrue, of three one, of five two
pub known_numbers : (map f_of (One ∷ Three ∷ Five ∷ []) ≡ 0 ∷ 1 ∷ 2 ∷ []) × (map ports_in (One ∷ Three ∷ Five ∷ []) ≡ 1 ∷ 3 ∷ 5 ∷ [])
known_numbers = (refl, refl)

-- ---- what ports tell

-- 2016-12-31T23:59:59Z with an insertion
abbrev true_claim : Claim
true_claim = record { at = record { day = 6209; sod = 86399 }; mark = Insert }

-- the same second with other marks
abbrev marked : Mark → Claim
marked mark = record true_claim { mark = mark }

-- a second earlier, and the same second of the day before
abbrev earlier : Claim
earlier = record true_claim { at = record { day = 6209; sod = 86398 } }

abbrev day_before : Claim
day_before = record true_claim { at = record { day = 6208; sod = 86399 } }

abbrev tell : Claim → Told
tell c = tells.Claim c

-- of one port
abbrev one : Told → Option Claim
one a = vote_of (record { a = a; b = tells.Silence; c = tells.Silence; d = tells.Silence; e = tells.Silence }) One

-- of three ports
abbrev three : Told → Told → Told → Option Claim
three a b c = vote_of (record { a = a; b = b; c = c; d = tells.Silence; e = tells.Silence }) Three

-- of five
abbrev five : Told → Told → Told → Told → Told → Option Claim
five a b c d e = vote_of (record { a = a; b = b; c = c; d = d; e = e }) Five

-- no claim, or another one
abbrev untrue : List Told
untrue = tells.Silence ∷ tells.Poor 12 ∷ tells.Fault fault.Parity ∷ tells.Fault fault.Sbs ∷ tells.Fault (fault.Time time_fault.NoSuchDay) ∷ tell earlier ∷ []

-- ---- one port

-- its claim is the vote, and nothing else is one; no other port is asked
pub known_alone : (map one untrue ≡ None ∷ None ∷ None ∷ None ∷ None ∷ Some earlier ∷ [])
    × (one (tell true_claim) ≡ Some true_claim)
    × (vote_of (record { a = tell true_claim; b = tell earlier; c = tell earlier; d = tell earlier; e = tell earlier }) One ≡ Some true_claim)
    × (vote_of (record { a = tells.Silence; b = tell true_claim; c = tell true_claim; d = tell true_claim; e = tell true_claim }) One ≡ None)
unfolding vote_of
known_alone = (refl, refl, refl, refl)

-- ---- three ports

-- two that tell one claim are a vote, at whichever place the third stands and whatever it tells
pub known_pairs : (map (λ told. three told (tell true_claim) (tell true_claim)) untrue ≡ map (λ _. Some true_claim) untrue)
    × (map (λ told. three (tell true_claim) told (tell true_claim)) untrue ≡ map (λ _. Some true_claim) untrue)
    × (map (λ told. three (tell true_claim) (tell true_claim) told) untrue ≡ map (λ _. Some true_claim) untrue)
    × (three (tell true_claim) (tell true_claim) (tell true_claim) ≡ Some true_claim)
unfolding vote_of
known_pairs = (refl, refl, refl, refl)

-- one voice is none, and three that differ are none
pub known_single : (map (λ told. three told (tell true_claim) told) (tells.Silence ∷ tells.Poor 12 ∷ tells.Fault fault.Parity ∷ []) ≡ None ∷ None ∷ None ∷ [])
    × (three tells.Silence tells.Silence tells.Silence ≡ None)
    × (three (tell true_claim) (tell earlier) (tell day_before) ≡ None)
unfolding vote_of
known_single = (refl, refl, refl)

-- the same second with another mark is another claim; so are the same second of the day on another
-- day, and another second
pub known_differences : (map (λ mark. three (tell true_claim) (tell (marked mark)) tells.Silence) (Unspoken ∷ NoLeap ∷ Insert ∷ Delete ∷ []) ≡ None ∷ None ∷ Some true_claim ∷ None ∷ [])
    × (three (tell true_claim) (tell day_before) tells.Silence ≡ None)
    × (three (tell true_claim) (tell earlier) tells.Silence ≡ None)
unfolding vote_of
known_differences = (refl, refl, refl)

-- two untrue ports that tell one claim are followed; of three ports the last two are not asked
pub known_followed : (three (tell true_claim) (tell earlier) (tell earlier) ≡ Some earlier)
    × (vote_of (record { a = tell true_claim; b = tells.Silence; c = tells.Silence; d = tell true_claim; e = tell true_claim }) Three ≡ None)
unfolding vote_of
known_followed = (refl, refl)

-- ---- five ports

-- two voices are none, also if another two say another thing
pub known_pairs_of_five : (five (tell true_claim) (tell true_claim) tells.Silence (tells.Poor 12) (tells.Fault fault.Parity) ≡ None)
    × (five (tell true_claim) (tell earlier) tells.Silence (tell true_claim) (tell earlier) ≡ None)
    × (five (tell true_claim) (tell true_claim) (tell (marked NoLeap)) tells.Silence tells.Silence ≡ None)
unfolding vote_of
known_pairs_of_five = (refl, refl, refl)

-- three are a vote against any two, wherever they stand
pub known_threes_of_five : (map (λ told. five told (tell true_claim) told (tell true_claim) (tell true_claim)) untrue ≡ map (λ _. Some true_claim) untrue)
    × (map (λ told. five (tell true_claim) (tell true_claim) (tell true_claim) told told) untrue ≡ map (λ _. Some true_claim) untrue)
    × (five (tell earlier) (tell true_claim) (tell (marked NoLeap)) (tell true_claim) (tell true_claim) ≡ Some true_claim)
unfolding vote_of
known_threes_of_five = (refl, refl, refl)
