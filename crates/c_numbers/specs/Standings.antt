-- How ports stand to a vote, and what the frames of those that agree say beside the time.
-- Source: this library's own; docs/FRAME.md for the control bits.
use Rattle.std.specs.Prelude.{ℕ, ◌+◌, ◌*◌, ◌&&◌, Bool, true, false, not, nat_lt, if◌then◌else◌, max, List, [], ◌∷◌, count_by, Option, Some, None, Result, Ok, Err, neg_ℤ}
use Rattle.std.specs.Ordering.{int_eq}
use Rattle.irig_frame.specs.declared.coded.Coded.{Coded}
use Rattle.irig_frame.specs.declared.fault.FrameFault.{FrameFault}
use Rattle.irig_frame.specs.Faults.{decode_result}
use Rattle.irig_control.specs.declared.control.Control.{Control}
use Rattle.irig_control.specs.Control.{control_of}
use Rattle.irig_time.specs.declared.claim.Claim.{Claim}
use Rattle.irig_time.specs.declared.rules.Sense.{Sense}
use Rattle.irig_time.specs.declared.rules.Sense.TheVariants.{Add, Subtract}
use Rattle.irig_time.specs.Claims.{same_claim}
use Rattle.irig_port.specs.declared.told.Told.{Told}
use Rattle.irig_port.specs.declared.told.Told.TheVariants as tells
use Rattle.irig_port.specs.declared.tally.Tally.{Tally}
use Rattle.irig_port.specs.Heard.{symbols_of}
use Rattle.irig_port.specs.Tallies.{control_word_in}
use Rattle.irig_vote.specs.declared.redundancy.Redundancy.{Redundancy}
use Rattle.irig_vote.specs.declared.votes.Tells.{Tells}
use Rattle.irig_vote.specs.Vote.{ports_in, vote_of}
use Rattle.irig_reader.specs.History.{Fed}
use Rattle.c_numbers.specs.declared.standing.Standing.{Standing}
use Rattle.c_numbers.specs.declared.standing.Standing.TheVariants.{Silent, Agreed, Differed, Faulty, Poor}
use Rattle.c_numbers.specs.declared.standing.Standings.{Standings}
use Rattle.c_numbers.specs.declared.zone.Zone.{Zone}
use Rattle.c_numbers.specs.declared.zone.Sent.{Sent}
use Rattle.c_numbers.specs.Tallies.{tally_at}

-- whether a claim was voted
abbrev pub is_voted : Option Claim → Claim → Bool
is_voted None c = false
is_voted (Some voted) c = same_claim voted c

-- how what a port tells stands to the vote
abbrev pub standing_of : Option Claim → Told → Standing
standing_of vote tells.Silence = Silent
standing_of vote (tells.Fault f) = Faulty
standing_of vote (tells.Poor q) = Poor
standing_of vote (tells.Claim c) = if is_voted vote c then Agreed else Differed

-- of a port, if it is there; else it is silent
abbrev pub standing_if : Bool → Option Claim → Told → Standing
standing_if is_there vote told = if is_there then standing_of vote told else Silent

-- how five ports stand to a vote
abbrev pub standings_to : Option Claim → Tells → Redundancy → Standings
standings_to vote t r = record {
  a = standing_if (nat_lt 0 (ports_in r)) vote t.a;
  b = standing_if (nat_lt 1 (ports_in r)) vote t.b;
  c = standing_if (nat_lt 2 (ports_in r)) vote t.c;
  d = standing_if (nat_lt 3 (ports_in r)) vote t.d;
  e = standing_if (nat_lt 4 (ports_in r)) vote t.e;
}

-- to the vote of all that are there
abbrev pub standings_of : Tells → Redundancy → Standings
standings_of t r = standings_to (vote_of t r) t r

-- whether they are the same
abbrev pub same_standing : Standing → Standing → Bool
same_standing Silent Silent = true
same_standing Agreed Agreed = true
same_standing Differed Differed = true
same_standing Faulty Faulty = true
same_standing Poor Poor = true
same_standing _ _ = false

-- 1 if they are the same
abbrev pub bit_of : Standing → Standing → ℕ
bit_of s x = if same_standing s x then 1 else 0

-- the number whose bit p says whether port p stands so
abbrev pub mask_of : Standing → Standings → ℕ
mask_of s x =
    bit_of s x.a + 2 * bit_of s x.b + 4 * bit_of s x.c + 8 * bit_of s x.d + 16 * bit_of s x.e

-- local time minus UTC in half hours, and daylight saving, as control bits say it
abbrev pub zone_of : Sense → Control → Zone
zone_of Add k = record { local_half_hours = neg_ℤ k.offset_half_hours; dst = k.dst }
zone_of Subtract k = record { local_half_hours = k.offset_half_hours; dst = k.dst }

-- what control bits say of a frame beside its time
abbrev pub sent_of : Sense → Control → Sent
sent_of sense k = record { zone = zone_of sense k; quality = k.quality }

-- what the frame of a port says so, if the port agreed with the vote
abbrev pub sent_if : Standing → Sense → Tally → Option Sent
sent_if Agreed sense t = Some (sent_of sense (control_of (control_word_in t)))
sent_if _ sense t = None

-- so of five ports
abbrev pub sent_by : Standings → Sense → List Tally → List (Option Sent)
sent_by x sense ports =
    sent_if x.a sense (tally_at ports 0) ∷ sent_if x.b sense (tally_at ports 1)
    ∷ sent_if x.c sense (tally_at ports 2) ∷ sent_if x.d sense (tally_at ports 3)
    ∷ sent_if x.e sense (tally_at ports 4) ∷ []

-- the same by the pulses of a port
abbrev pub sent_of_frame : Sense → Result Coded FrameFault → Option Sent
sent_of_frame sense (Ok coded) = Some (sent_of sense (control_of coded.control))
sent_of_frame sense (Err fault) = None

-- what a port sent by its pulses, if it agreed
abbrev pub sent_if_heard : Standing → Sense → List ℕ → Option Sent
sent_if_heard Agreed sense widths = sent_of_frame sense (decode_result (symbols_of widths))
sent_if_heard _ sense widths = None

-- so of five ports
abbrev pub sent_by_heard : Standings → Sense → Fed → List (Option Sent)
sent_by_heard x sense fed =
    sent_if_heard x.a sense fed.a ∷ sent_if_heard x.b sense fed.b
    ∷ sent_if_heard x.c sense fed.c ∷ sent_if_heard x.d sense fed.d
    ∷ sent_if_heard x.e sense fed.e ∷ []

-- whether two zones are the same
abbrev pub same_zone : Zone → Zone → Bool
same_zone a b =
    int_eq a.local_half_hours b.local_half_hours && (if a.dst then b.dst else not b.dst)

-- whether a frame is of this zone
abbrev pub is_of_zone : Zone → Option Sent → Bool
is_of_zone z None = false
is_of_zone z (Some sent) = same_zone z sent.zone

-- the first of these zones that more than f of all frames are of
abbrev pub first_zone : ℕ → List (Option Sent) → List (Option Sent) → Option Zone
first_zone f all [] = None
first_zone f all (None ∷ rest) = first_zone f all rest
first_zone f all (Some sent ∷ rest) =
    if nat_lt f (count_by (is_of_zone sent.zone) all) then Some sent.zone else first_zone f all rest

-- the worst quality of these frames, 0 if there is none
abbrev pub worst_of : List (Option Sent) → ℕ
worst_of [] = 0
worst_of (None ∷ rest) = worst_of rest
worst_of (Some sent ∷ rest) = max sent.quality (worst_of rest)
