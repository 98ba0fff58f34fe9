-- Known values of what a port tells, so that a wrong definition does not check.
use Rattle.std.proofs.Common.{◌≡◌, ℕ, true, false, List, [], ◌∷◌, ◌++◌, map, length, take, slice_set, Some, Ok, Err, refl, inl, inr, ap, arith}
use Rattle.std.specs.Prelude.{codes, replicate}
use Rattle.std.proofs.lemmas.Bool.{cases_Bool}
use Rattle.irig_frame.proofs.StandardFacts.{symbols}
use Rattle.irig_frame.specs.declared.symbol.Symbol.{Symbol}
use Rattle.irig_frame.specs.declared.symbol.Symbol.TheVariants.{Zero, One, Marker, Bad}
use Rattle.irig_frame.specs.declared.layout.Field.TheVariants.{Second}
use Rattle.irig_frame.specs.declared.coded.Coded.{Coded}
use Rattle.irig_frame.specs.declared.fault.FrameFault.TheVariants as frame_fault
use Rattle.irig_frame.specs.Faults.{values_of, field_at}
use Rattle.irig_control.specs.declared.parity.Parity.TheVariants.{Even}
use Rattle.irig_control.specs.Control.{control_of, offset_in}
use Rattle.irig_control.specs.Parity.{ones}
use Rattle.irig_time.specs.declared.rules.Rules.{Rules}
use Rattle.irig_time.specs.declared.rules.Sense.TheVariants.{Add}
use Rattle.irig_time.specs.declared.rules.SbsUse.TheVariants.{Check, Ignore}
use Rattle.irig_time.specs.declared.mark.Mark.TheVariants.{Unspoken, Insert}
use Rattle.irig_time.specs.declared.claim.Claim.{Claim}
use Rattle.irig_time.specs.Claims.{utc_minute}
use Rattle.irig_time.specs.Days.{is_month_end}
use Rattle.irig_time.specs.declared.claim.TimeFault.TheVariants as time_fault
use Rattle.irig_port.specs.declared.told.PortFault.TheVariants as fault
use Rattle.irig_port.specs.declared.told.Told.TheVariants as tells
use Rattle.irig_port.specs.Heard.{symbols_heard}
use Rattle.irig_port.specs.Told.{is_sbs_wrong, claim_told, coded_told, frame_told, told_of}
use Rattle.irig_port.specs.Damage.{IsFaultOr, IsOtherBit, compares_seconds, unread_places}

-- 2000-01-03T00:00:00Z
abbrev pub plain : List Symbol
plain = symbols (codes "P00000000P000000000P000000000P110000000P000000000P000000000P000000000P000000000P000000000P000000000P")

abbrev pub rules : Rules
rules = record { parity = Even; sense = Add; sbs = Check }

-- a wrong length
pub known_lengths : map (told_of rules) ([] ∷ take 1 plain ∷ take 99 plain ∷ (plain ++ Zero ∷ []) ∷ [])
    ≡ tells.Silence ∷ tells.Fault (fault.Frame (frame_fault.Short 1)) ∷ tells.Fault (fault.Frame (frame_fault.Short 99)) ∷ tells.Fault (fault.Frame frame_fault.Long) ∷ []
unfolding told_of
known_lengths = refl

-- the lowest wrong element; elements go before the parity, the parity before the fields, the fields
-- before the binary seconds
pub known_order : map (told_of rules)
    (slice_set (slice_set plain 12 Bad) 20 Bad ∷ slice_set (slice_set plain 9 Zero) 12 Bad ∷ slice_set (slice_set plain 12 Bad) 42 One
    ∷ slice_set (slice_set (slice_set plain 2 One) 4 One) 42 One ∷ slice_set (slice_set (slice_set plain 2 One) 4 One) 80 One ∷ slice_set plain 80 One ∷ [])
    ≡ tells.Fault (fault.Frame (frame_fault.Pulse 12)) ∷ tells.Fault (fault.Frame (frame_fault.Marker 9)) ∷ tells.Fault (fault.Frame (frame_fault.Pulse 12))
    ∷ tells.Fault fault.Parity ∷ tells.Fault (fault.Frame (frame_fault.Digit Second)) ∷ tells.Fault fault.Sbs ∷ []
unfolding told_of frame_told coded_told ones values_of field_at
known_order = refl

-- the straight binary seconds are compared below second 60, and if the rules say so
abbrev at_second : ℕ → Coded
at_second second = record { second = second; minute = 59; hour = 23; day = 366; year = 16; control = 0; sbs = 86398 }

pub known_seconds : (map (λ second. is_sbs_wrong Check (at_second second)) (58 ∷ 59 ∷ 60 ∷ []) ≡ false ∷ true ∷ false ∷ [])
    × (is_sbs_wrong Ignore (at_second 59) ≡ false)
known_seconds = (refl, refl)

-- the time goes before the quality, and quality 10 is the first without a vote
abbrev claim : Claim
claim = record { at = record { day = 6209; sod = 86399 }; mark = Insert }

pub known_qualities : (map (claim_told (Ok claim)) (0 ∷ 9 ∷ 10 ∷ 15 ∷ []) ≡ tells.Claim claim ∷ tells.Claim claim ∷ tells.Poor 10 ∷ tells.Poor 15 ∷ [])
    × (claim_told (Err time_fault.NoSuchDay) 12 ≡ tells.Fault (fault.Time time_fault.NoSuchDay))
known_qualities = (refl, refl)

-- the values of a true frame are told, also of one with a one where no field lies and the parity
-- set
abbrev values : ℕ → Coded
values control = record { second = 0; minute = 0; hour = 0; day = 3; year = 0; control = control; sbs = 0 }

pub known_values : (told_of rules plain ≡ coded_told rules (values 0))
    × (told_of rules (slice_set (slice_set plain 42 One) 75 One) ≡ coded_told rules (values 16384))
unfolding told_of frame_told ones values_of field_at
known_values = (refl, refl)

-- 101 symbols are kept
pub known_limit : map (λ n. length (symbols_heard (replicate n 2000))) (0 ∷ 100 ∷ 101 ∷ 102 ∷ 200 ∷ []) ≡ 0 ∷ 100 ∷ 101 ∷ 101 ∷ 101 ∷ []
known_limit = refl

-- ---- one damaged pulse

-- 2000-01-03, so many seconds after midnight
abbrev pub on_day_2 : ℕ → Claim
on_day_2 sod = record { at = record { day = 2; sod = sod }; mark = Unspoken }

-- the plain frame tells a claim
pub known_claim : told_of rules plain ≡ tells.Claim (on_day_2 0)
unfolding told_of frame_told coded_told ones values_of field_at control_of offset_in utc_minute
known_claim = elim (cases_Bool (is_month_end 2)) [ inl e ↦ rw e refl | inr e ↦ rw e refl ]

-- a bad pulse, no marker at a marker place, and one elsewhere; another bit in a field, where no
-- field is, and of the parity; and two of the binary seconds
pub known_damage : map (λ (p : ℕ × Symbol). told_of rules (slice_set plain p.0 p.1))
    ((0, Bad) ∷ (19, One) ∷ (98, Marker) ∷ (1, One) ∷ (42, One) ∷ (75, One) ∷ (80, One) ∷ (97, One) ∷ [])
    ≡ tells.Fault (fault.Frame (frame_fault.Pulse 0)) ∷ tells.Fault (fault.Frame (frame_fault.Marker 19)) ∷ tells.Fault (fault.Frame (frame_fault.Marker 98))
    ∷ tells.Fault fault.Parity ∷ tells.Fault fault.Parity ∷ tells.Fault fault.Parity ∷ tells.Fault fault.Sbs ∷ tells.Fault fault.Sbs ∷ []
unfolding told_of frame_told coded_told ones values_of field_at
known_damage = refl

-- the four that are not read
pub known_unread : map (λ i. told_of rules (slice_set plain i One)) unread_places ≡ replicate 4 (tells.Claim (on_day_2 0))
unfolding told_of frame_told coded_told ones values_of field_at control_of offset_in utc_minute
known_unread = elim (cases_Bool (is_month_end 2)) [ inl e ↦ rw e refl | inr e ↦ rw e refl ]

-- if the binary seconds are not compared another bit there changes nothing
abbrev lenient : Rules
lenient = record rules { sbs = Ignore }

pub known_ignored : told_of lenient (slice_set plain 80 One) ≡ tells.Claim (on_day_2 0)
unfolding told_of frame_told coded_told ones values_of field_at control_of offset_in utc_minute
known_ignored = elim (cases_Bool (is_month_end 2)) [ inl e ↦ rw e refl | inr e ↦ rw e refl ]

pub known_compared : (map (λ sod. compares_seconds Check (on_day_2 sod)) (0 ∷ 86399 ∷ 86400 ∷ []) ≡ true ∷ true ∷ false ∷ [])
    × (compares_seconds Ignore (on_day_2 0) ≡ false)
known_compared = (refl, refl)

-- two damaged pulses can be untrue: with another second, and another parity bit, the frame claims a
-- second later
pub known_untrue : told_of lenient (slice_set (slice_set plain 1 One) 75 One) ≡ tells.Claim (on_day_2 1)
unfolding told_of frame_told coded_told ones values_of field_at control_of offset_in utc_minute
known_untrue = elim (cases_Bool (is_month_end 2)) [ inl e ↦ rw e refl | inr e ↦ rw e refl ]

-- another claim is no fault, and neither are silence and a poor frame
pub known_refused : ¬ IsFaultOr (on_day_2 0) (tells.Claim (on_day_2 1)) × ¬ IsFaultOr (on_day_2 0) tells.Silence × ¬ IsFaultOr (on_day_2 0) (tells.Poor 10)
known_refused = (λ same. absurd (omega (arith, ap (λ (c : Claim). c.at.sod) same)), λ never. never, λ never. never)

pub known_taken : IsFaultOr (on_day_2 0) (tells.Claim (on_day_2 0)) × IsFaultOr (on_day_2 0) (tells.Fault fault.Sbs)
known_taken = (refl, tt)

-- the other bit is no marker, no bad pulse and not the bit that stands there, and stands for no
-- marker
pub known_bits : IsOtherBit (Some Zero) One × IsOtherBit (Some One) Zero × ¬ IsOtherBit (Some Zero) Zero × ¬ IsOtherBit (Some Zero) Marker
    × ¬ IsOtherBit (Some One) Bad × ¬ IsOtherBit (Some Marker) One
known_bits = (tt, tt, λ never. never, λ never. never, λ never. never, λ never. never)
