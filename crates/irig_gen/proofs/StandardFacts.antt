-- Known values of zones, control bits, faults and frames, so that a wrong definition does not
-- check.
use Rattle.std.proofs.Common.{◌≡◌, ℕ, ◌+◌, true, false, Bool, List, [], ◌∷◌, map, Option, Some, None, ℤ, pos, negsuc, refl}
use Rattle.std.specs.Prelude.{codes}
use Rattle.irig_frame.proofs.StandardFacts.{symbols}
use Rattle.irig_frame.specs.declared.symbol.Symbol.{Symbol}
use Rattle.irig_frame.specs.Encoder.{frame_of_coded}
use Rattle.irig_control.specs.declared.control.Control.{Control}
use Rattle.irig_control.specs.declared.parity.Parity.TheVariants.{Even, Odd}
use Rattle.irig_control.specs.Control.{word_of}
use Rattle.irig_control.specs.Parity.{ones}
use Rattle.irig_time.specs.declared.second.UtcSecond.{UtcSecond}
use Rattle.irig_time.specs.declared.leap.Leap.{Leap}
use Rattle.irig_time.specs.declared.leap.Leap.TheVariants.{Insert, Delete}
use Rattle.irig_time.specs.declared.rules.Sense.TheVariants.{Add, Subtract}
use Rattle.irig_time.specs.declared.rules.SbsUse.TheVariants.{Check}
use Rattle.irig_time.specs.CodedTime.{time_shown}
use Rattle.irig_time.specs.Timelines.{TimelineValue, times, second_at}
use Rattle.irig_gen.specs.declared.zone.Zone.{Zone}
use Rattle.irig_gen.specs.declared.zone.Change.{Change}
use Rattle.irig_gen.specs.declared.fault.GenFault.{GenFault}
use Rattle.irig_gen.specs.declared.fault.GenFault.TheVariants.{Silent, Stuck, Skew, NoPending, FalsePending, Quality, WrongOffset}
use Rattle.irig_gen.specs.declared.generator.GenRefusal.{GenRefusal}
use Rattle.irig_gen.specs.declared.generator.GenRefusal.TheVariants.{Offset, Changes}
use Rattle.irig_gen.specs.Zones.{zone_at}
use Rattle.irig_gen.specs.ControlBits.{offset_sent, true_control}
use Rattle.irig_gen.specs.Faults.{control_with_fault, sent_edge}
use Rattle.irig_gen.specs.Frames.{GeneratorValue, gen}
use Rattle.irig_gen.specs.Refusals.{gen_refusal}
use Rattle.irig_time.specs.Frames.{frame_of_second}
use Rattle.irig_gen.specs.Sent.{frame_of, sent_of}

abbrev at : ℕ → ℕ → UtcSecond
at day sod = record { day = day; sod = sod }

abbrev zone : ℤ → Bool → Zone
zone half_hours dst = record { half_hours = half_hours; dst = dst }

abbrev change : UtcSecond → Zone → Change
change at zone = record { at = at; zone = zone }

abbrev utc : Zone
utc = zone (pos 0) false

-- ---- faults: the edge

abbrev some_faults : List (Option GenFault)
some_faults = Some NoPending ∷ Some (FalsePending Insert) ∷ Some (Quality 9) ∷ Some (WrongOffset (pos 2)) ∷ None ∷ []

-- at edge 5: six edges earlier there is none, five earlier is edge 0, one later edge 6
pub known_skews : map (λ by. sent_edge (Some (Skew by)) 5 5) (negsuc 5 ∷ negsuc 4 ∷ negsuc 0 ∷ pos 0 ∷ pos 1 ∷ [])
    ≡ None ∷ Some 0 ∷ Some 4 ∷ Some 5 ∷ Some 6 ∷ []
known_skews = refl

-- a stuck generator keeps the edge at which it was set, a silent one has none, and all others their
-- own
pub known_edges : (sent_edge (Some Stuck) 6 5 ≡ Some 5) × (sent_edge (Some Silent) 6 5 ≡ None)
    × (map (λ fault. sent_edge fault 6 5) some_faults ≡ Some 6 ∷ Some 6 ∷ Some 6 ∷ Some 6 ∷ Some 6 ∷ [])
known_edges = (refl, refl, refl)

-- ---- faults: the control bits

-- eleven half hours ahead of UTC if the offset is added, with a deletion pending
abbrev true_bits : Control
true_bits = record { leap_pending = true; leap_delete = true; dst_pending = true; dst = true; offset_half_hours = negsuc 10; quality = 0 }

-- quality 200 is sent as 15, which is a clock failure
pub known_qualities : map (λ q. control_with_fault (Some (Quality q)) true_bits) (0 ∷ 9 ∷ 15 ∷ 16 ∷ 200 ∷ [])
    ≡ true_bits ∷ record true_bits { quality = 9 } ∷ record true_bits { quality = 15 } ∷ record true_bits { quality = 15 } ∷ record true_bits { quality = 15 } ∷ []
known_qualities = refl

-- -11 and so many more, limited to -31 to 31
pub known_offsets : map (λ by. (control_with_fault (Some (WrongOffset by)) true_bits).offset_half_hours) (pos 2 ∷ pos 42 ∷ pos 43 ∷ pos 62 ∷ negsuc 19 ∷ negsuc 20 ∷ negsuc 61 ∷ [])
    ≡ negsuc 8 ∷ pos 31 ∷ pos 31 ∷ pos 31 ∷ negsuc 30 ∷ negsuc 30 ∷ negsuc 30 ∷ []
known_offsets = refl

-- the leap bits alone
pub known_pending : (control_with_fault (Some NoPending) true_bits ≡ record true_bits { leap_pending = false; leap_delete = false })
    × (control_with_fault (Some (FalsePending Insert)) true_bits ≡ record true_bits { leap_delete = false })
    × (control_with_fault (Some (FalsePending Delete)) (record true_bits { leap_pending = false; leap_delete = false }) ≡ true_bits)
known_pending = (refl, refl, refl)

-- no other fault changes them
pub known_unchanged : map (λ fault. control_with_fault fault true_bits) (None ∷ Some Silent ∷ Some Stuck ∷ Some (Skew (pos 1)) ∷ []) ≡ true_bits ∷ true_bits ∷ true_bits ∷ true_bits ∷ []
known_unchanged = refl

-- ---- zones and control bits

-- at 2016-06-15T12:01:00Z from ten half hours behind UTC to eight, with daylight saving
abbrev winter : Zone
winter = zone (negsuc 9) false

abbrev summer : Zone
summer = zone (negsuc 7) true

abbrev to_summer : List Change
to_summer = change (at 6010 43260) summer ∷ []

-- from the second of the change on, on the days after it too; of two changes the last that has come
pub known_zones : (map (zone_at winter to_summer) (at 6009 86399 ∷ at 6010 43259 ∷ at 6010 43260 ∷ at 6010 43261 ∷ at 6011 0 ∷ []) ≡ winter ∷ winter ∷ summer ∷ summer ∷ summer ∷ [])
    × (map (zone_at utc (change (at 6010 43260) summer ∷ change (at 6011 60) winter ∷ [])) (at 6010 43259 ∷ at 6011 59 ∷ at 6011 60 ∷ []) ≡ utc ∷ summer ∷ winter ∷ [])
known_zones = (refl, refl)

-- what is added to the local time is minus its distance from UTC
pub known_senses : (map (offset_sent Add) (negsuc 9 ∷ pos 0 ∷ pos 11 ∷ []) ≡ pos 10 ∷ pos 0 ∷ negsuc 10 ∷ [])
    × (map (offset_sent Subtract) (negsuc 9 ∷ pos 0 ∷ pos 11 ∷ []) ≡ negsuc 9 ∷ pos 0 ∷ pos 11 ∷ [])
known_senses = (refl, refl)

-- no leap, quality 0
abbrev plain : ℤ → Control
plain offset = record { leap_pending = false; leap_delete = false; dst_pending = false; dst = false; offset_half_hours = offset; quality = 0 }

-- daylight saving is pending in all the minute that ends at the change and not before it, and in
-- force from then on
pub known_daylight : map (true_control Add winter to_summer None) (at 6010 43199 ∷ at 6010 43200 ∷ at 6010 43259 ∷ at 6010 43260 ∷ [])
    ≡ plain (pos 10) ∷ record (plain (pos 10)) { dst_pending = true } ∷ record (plain (pos 10)) { dst_pending = true } ∷ record (plain (pos 8)) { dst = true } ∷ []
known_daylight = refl

-- so before a change at midnight, also in an inserted second
pub known_midnight : map (λ sod. (true_control Add winter (change (at 6210 0) summer ∷ []) (Some Insert) (at 6209 sod)).dst_pending) (86339 ∷ 86340 ∷ 86399 ∷ 86400 ∷ [])
    ≡ false ∷ true ∷ true ∷ true ∷ []
known_midnight = refl

-- a leap is pending in the minute 23:59 of its day, 23:59:60 included, and not at 23:58:59; on a
-- day without one it never is
abbrev leap_bits : Option Leap → ℕ → Bool × Bool
leap_bits leap sod = let k = true_control Add utc [] leap (at 6209 sod) in (k.leap_pending, k.leap_delete)

pub known_leaps : (map (leap_bits (Some Insert)) (86339 ∷ 86340 ∷ 86399 ∷ 86400 ∷ []) ≡ (false, false) ∷ (true, false) ∷ (true, false) ∷ (true, false) ∷ [])
    × (map (leap_bits (Some Delete)) (86339 ∷ 86340 ∷ 86398 ∷ []) ≡ (false, false) ∷ (true, true) ∷ (true, true) ∷ [])
    × (map (leap_bits None) (86339 ∷ 86340 ∷ 86399 ∷ []) ≡ (false, false) ∷ (false, false) ∷ (false, false) ∷ [])
known_leaps = (refl, refl, refl)

-- ---- frames

-- 2016-12-31T23:59:59Z with an insertion pending, at UTC and eleven half hours ahead of it
abbrev last_second : ℤ → Control
last_second offset = record (plain offset) { leap_pending = true }

pub known_frames : (frame_of_second Even (at 6209 86399) (pos 0) (last_second (pos 0)) ≡ symbols (codes "P10010101P100101010P110000100P011000110P110000000P011001000P100000000P000001000P111111101P000101010P"))
    × (frame_of_second Even (at 6209 86399) (pos 11) (last_second (negsuc 10)) ≡ symbols (codes "P10010101P100100100P101000000P100000000P000000000P111001000P100011010P100001000P111010101P011001000P"))
unfolding frame_of_second frame_of_coded time_shown word_of ones
known_frames = (refl, refl)

-- under odd parity element 75 is 0; the frame of 2000-01-03T00:00:00Z has an even number of ones
-- without it
pub known_parities : (frame_of_second Odd (at 6209 86399) (pos 0) (last_second (pos 0)) ≡ symbols (codes "P10010101P100101010P110000100P011000110P110000000P011001000P100000000P000000000P111111101P000101010P"))
    × (frame_of_second Even (at 2 0) (pos 0) (plain (pos 0)) ≡ symbols (codes "P00000000P000000000P000000000P110000000P000000000P000000000P000000000P000000000P000000000P000000000P"))
unfolding frame_of_second frame_of_coded time_shown word_of ones
known_parities = (refl, refl)

-- ---- what a generator sends

-- the plain plant, from 2016-06-15T12:00:00Z
abbrev noon : TimelineValue
noon = times (at 6010 43200) []

-- a generator at UTC with this fault
abbrev faulty : Option GenFault → ℕ → ℕ → GeneratorValue
faulty fault edge since = gen utc [] (record { parity = Even; sense = Add; sbs = Check }) edge fault since

-- the frame of so many seconds past noon
abbrev past_noon : ℕ → Option (List Symbol)
past_noon seconds = Some (frame_of_second Even (at 6010 (seconds + 43200)) (pos 0) (plain (pos 0)))

-- at edge 5 without fault, skewed back by six and on by one, and silent; stuck at edge 5, at edge 6
pub known_sent : (sent_of (faulty None 5 0) noon ≡ past_noon 5)
    × (sent_of (faulty (Some (Skew (negsuc 5))) 5 5) noon ≡ None)
    × (sent_of (faulty (Some (Skew (pos 1))) 5 5) noon ≡ past_noon 6)
    × (sent_of (faulty (Some Silent) 5 5) noon ≡ None)
    × (sent_of (faulty (Some Stuck) 6 5) noon ≡ past_noon 5)
unfolding sent_of frame_of second_at
known_sent = (refl, refl, refl, refl, refl)

-- another offset is sent with the same coded time
pub known_false_offset : sent_of (faulty (Some (WrongOffset (pos 1))) 5 5) noon ≡ Some (frame_of_second Even (at 6010 43205) (pos 0) (plain (pos 1)))
unfolding sent_of frame_of second_at
known_false_offset = refl

-- no frame follows that of the last second of 2099-12-30
pub known_end : map (frame_of None (faulty None 0 0) (times (at 36523 86399) [])) (0 ∷ 1 ∷ [])
    ≡ Some (frame_of_second Even (at 36523 86399) (pos 0) (plain (pos 0))) ∷ None ∷ []
unfolding frame_of second_at
known_end = refl

-- the change to daylight saving, by the local clock: 07:00:59 and then 08:01:00
pub known_clock : (time_shown (at 6010 43259) (zone_at winter to_summer (at 6010 43259)).half_hours
    ≡ record { second = 59; minute = 0; hour = 7; day = 167; year = 16; control = 0; sbs = 25259 })
    × (time_shown (at 6010 43260) (zone_at winter to_summer (at 6010 43260)).half_hours
    ≡ record { second = 0; minute = 1; hour = 8; day = 167; year = 16; control = 0; sbs = 28860 })
unfolding time_shown
known_clock = (refl, refl)

-- ---- refusals

-- 31 half hours from UTC are the most, in a change too, and that goes before the order of the
-- changes
pub known_ranges : (map (λ h. gen_refusal (zone h false) []) (pos 31 ∷ pos 32 ∷ negsuc 30 ∷ negsuc 31 ∷ []) ≡ None ∷ Some Offset ∷ None ∷ Some Offset ∷ [])
    × (gen_refusal utc (change (at 6010 43261) utc ∷ change (at 6010 43320) (zone (negsuc 31) false) ∷ []) ≡ Some Offset)
known_ranges = (refl, refl)

abbrev one_change : ℕ → ℕ → Option GenRefusal
one_change day sod = gen_refusal utc (change (at day sod) winter ∷ [])

abbrev two_changes : ℕ → ℕ → Option GenRefusal
two_changes first second = gen_refusal utc (change (at 6010 first) winter ∷ change (at 6010 second) summer ∷ [])

-- a change is at the first second of a minute, never at an inserted second, on day 1 to 36523
pub known_places : (map (one_change 6209) (0 ∷ 60 ∷ 61 ∷ 86340 ∷ 86399 ∷ 86400 ∷ []) ≡ None ∷ None ∷ Some Changes ∷ None ∷ Some Changes ∷ Some Changes ∷ [])
    × (map (λ day. one_change day 0) (0 ∷ 1 ∷ 36523 ∷ 36524 ∷ []) ≡ Some Changes ∷ None ∷ None ∷ Some Changes ∷ [])
known_places = (refl, refl)

-- and later than the one before
pub known_order : (two_changes 43260 43320 ≡ None) × (two_changes 43260 43260 ≡ Some Changes) × (two_changes 43320 43260 ≡ Some Changes)
known_order = (refl, refl, refl)
