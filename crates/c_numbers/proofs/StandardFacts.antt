-- Known values of this library's own definitions, so that a wrong one does not check.
use Rattle.std.proofs.Common.{◌≡◌, ℕ, List, [], ◌∷◌, ◌++◌, map, replicate, Option, Some, None, true, false, refl, pos, negsuc}
use Rattle.irig_control.specs.declared.control.Control.{Control}
use Rattle.irig_time.specs.declared.mark.Mark.TheVariants.{Insert}
use Rattle.irig_time.specs.declared.rules.Sense.TheVariants.{Add, Subtract}
use Rattle.irig_port.specs.declared.told.Told.{Told}
use Rattle.irig_port.specs.declared.told.Told.TheVariants as tells
use Rattle.irig_port.specs.declared.told.PortFault.TheVariants as fault
use Rattle.irig_vote.specs.declared.redundancy.Redundancy.TheVariants.{One, Three, Five}
use Rattle.irig_vote.specs.declared.votes.Tells.{Tells}
use Rattle.irig_vote.specs.Vote.{vote_of}
use Rattle.c_numbers.specs.declared.standing.Standing.{Standing}
use Rattle.c_numbers.specs.declared.standing.Standing.TheVariants.{Agreed, Differed, Faulty, Poor}
use Rattle.c_numbers.specs.declared.standing.Standings.{Standings}
use Rattle.c_numbers.specs.declared.zone.Sent.{Sent}
use Rattle.c_numbers.specs.declared.table.IrigLeap.{IrigLeap}
use Rattle.c_numbers.specs.Standings.{first_zone, mask_of, standings_of, worst_of, zone_of}
use Rattle.c_numbers.specs.Voices.{quality_of}
use Rattle.c_numbers.specs.CheckWord.{port_numbers, setup_numbers, state_numbers, table_numbers, weighted}
use Rattle.c_numbers.specs.Tallies.{no_tally}
use Rattle.c_numbers.specs.declared.setup.IrigSetup.{IrigSetup}
use Rattle.c_numbers.specs.Setups.{limits_in, keeper_limits_in}

-- 23:59:59 of 2016-12-31 with an insertion, and the second before
abbrev now : Told
now = tells.Claim (record { at = record { day = 6209; sod = 86399 }; mark = Insert })

abbrev before : Told
before = tells.Claim (record { at = record { day = 6209; sod = 86398 }; mark = Insert })

-- what five ports tell
abbrev five : Told → Told → Told → Told → Told → Tells
five a b c d e = record { a = a; b = b; c = c; d = d; e = e }

-- the masks of the ports that agreed, told another claim, told a fault, and told a poor quality
abbrev masks : Standings → List ℕ
masks x = map (λ (s : Standing). mask_of s x) (Agreed ∷ Differed ∷ Faulty ∷ Poor ∷ [])

-- a liar at port 1, beside two that agree; a fault there; ports 3 and 4 are not asked
pub known_masks : (masks (standings_of (five now before now now before) Three) ≡ 5 ∷ 2 ∷ 0 ∷ 0 ∷ [])
    × (masks (standings_of (five now (tells.Fault fault.Parity) now tells.Silence tells.Silence) Three) ≡ 5 ∷ 0 ∷ 2 ∷ 0 ∷ [])
    × (masks (standings_of (five now before (tells.Poor 12) tells.Silence tells.Silence) Three) ≡ 0 ∷ 3 ∷ 0 ∷ 4 ∷ [])
    × (masks (standings_of (five before now now (tells.Fault fault.Sbs) now) Five) ≡ 22 ∷ 1 ∷ 8 ∷ 0 ∷ [])
    × (masks (standings_of (five now before before before before) One) ≡ 1 ∷ 0 ∷ 0 ∷ 0 ∷ [])
unfolding vote_of
known_masks = (refl, refl, refl, refl, refl)

-- of a clock in India, 5 hours and a half ahead of UTC
abbrev india : Control
india = record { leap_pending = false; leap_delete = false; dst_pending = false; dst = true; offset_half_hours = negsuc 10; quality = 3 }

pub known_zones : (zone_of Add india ≡ record { local_half_hours = pos 11; dst = true })
    × (zone_of Subtract (record india { offset_half_hours = pos 11 }) ≡ record { local_half_hours = pos 11; dst = true })
known_zones = (refl, refl)

-- a frame of so many half hours and this quality
abbrev sent : ℕ → ℕ → Option Sent
sent half_hours quality = Some (record { zone = record { local_half_hours = pos half_hours; dst = false }; quality = quality })

-- two of three are of one zone; three are of three; the worst quality counts
pub known_voices : (first_zone 1 (sent 11 0 ∷ sent 2 4 ∷ sent 2 1 ∷ []) (sent 11 0 ∷ sent 2 4 ∷ sent 2 1 ∷ []) ≡ Some (record { local_half_hours = pos 2; dst = false }))
    × (first_zone 1 (sent 11 0 ∷ sent 2 4 ∷ sent 3 1 ∷ []) (sent 11 0 ∷ sent 2 4 ∷ sent 3 1 ∷ []) ≡ None)
    × (first_zone 0 (None ∷ sent 2 4 ∷ []) (None ∷ sent 2 4 ∷ []) ≡ Some (record { local_half_hours = pos 2; dst = false }))
    × (worst_of (sent 11 0 ∷ None ∷ sent 2 4 ∷ sent 2 1 ∷ []) ≡ 4)
    × (quality_of None [] ≡ 15)
known_voices = (refl, refl, refl, refl, refl)

-- a setup with these limits
abbrev limiting : ℕ → ℕ → IrigSetup
limiting not_before poor_from = record { parity = 0; sense = 0; sbs = 0; redundancy = 0; lock_after = 1; holdover = 0; not_before = not_before; poor_from = poor_from }

-- 0 is 7 of a timekeeper, which always has limits; of a reader it is 10, and a setup that names none has none
pub known_limits : (keeper_limits_in (limiting 0 0) ≡ record { not_before = 0; poor_from = 7 })
    × (keeper_limits_in (limiting 6209 8) ≡ record { not_before = 6209; poor_from = 8 })
    × (limits_in (limiting 6209 0) ≡ Some (record { not_before = 6209; poor_from = 10 }))
    × (limits_in (limiting 0 0) ≡ None)
unfolding keeper_limits_in
known_limits = (refl, refl, refl, refl)

-- the weights of the first and the last number of each part
abbrev none : IrigLeap
none = record { day = 0; kind = 0 }

pub known_weights : (weighted 3 (setup_numbers (record { parity = 1; sense = 0; sbs = 0; redundancy = 0; lock_after = 0; holdover = 0; not_before = 0; poor_from = 100 })) ≡ 1703)
    × (weighted 19 (table_numbers (record { until = 1; len = 0; leaps = replicate 63 none ++ record { day = 0; kind = 100 } ∷ [] })) ≡ 27719)
    × (weighted 279 (state_numbers (record { kind = 1; count = 0; heard = 0; day = 0; sod = 0; age = 1000 })) ≡ 289279)
    × (weighted 291 (port_numbers (record no_tally { count = 1 } ∷ no_tally ∷ no_tally ∷ no_tally ∷ record no_tally { control = 1000 } ∷ [])) ≡ 339291)
known_weights = (refl, refl, refl, refl)
