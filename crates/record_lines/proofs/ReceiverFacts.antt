-- A receiver of three lines, whose counter turns over 32 bits as a frame ends: two of the lines carry the
-- second 12:00:01, 0.8 ms apart, and the third one 12:00:00. They agree on the first, which is carried.
use Rattle.std.specs.Prelude.{pos, get_or}
use Rattle.std.proofs.Common.{◌≡◌, ℕ, zero, suc, ◌+◌, ◌*◌, ◌%◌, ◌^◌, false, List, [], ◌∷◌, Some, refl, arith}
use Rattle.irig_frame.specs.declared.symbol.Symbol.{Symbol}
use Rattle.irig_frame.specs.declared.symbol.Symbol.TheVariants.{Zero, One, Marker, Bad}
use Rattle.irig_frame.specs.Faults.{values_of, field_at}
use Rattle.irig_control.specs.declared.parity.Parity.TheVariants as parity
use Rattle.irig_control.specs.Control.{control_of, offset_in}
use Rattle.irig_control.specs.Parity.{ones}
use Rattle.irig_time.specs.declared.mark.Mark.TheVariants.{Unspoken}
use Rattle.irig_time.specs.declared.rules.Rules.{Rules}
use Rattle.irig_time.specs.declared.rules.SbsUse.TheVariants as sbs
use Rattle.irig_time.specs.declared.rules.Sense.TheVariants as sense
use Rattle.irig_time.specs.Claims.{utc_minute}
use Rattle.irig_time.specs.Days.{is_month_end, four_years}
use Rattle.irig_time.specs.Tables.{table}
use Rattle.irig_port.specs.declared.port.Port.{Ghosts}
use Rattle.irig_port.specs.Told.{told_of, frame_told, coded_told}
use Rattle.irig_vote.specs.declared.redundancy.Redundancy.TheVariants as of
use Rattle.irig_lines.specs.declared.lines.Vote.{Vote}
use Rattle.irig_lines.specs.declared.setup.ClockRules.{ClockRules}
use Rattle.irig_lines.specs.Refusals.{within_of}
use Rattle.irig_lines.specs.VoteLimits.{usual_limits}
use Rattle.irig_timekeeper.specs.Carried.{IsCarried}
use Rattle.irig_timekeeper.specs.Keeping.{vote_at}
use Rattle.irig_timekeeper.specs.Life.{Call, pulses_on}
use Rattle.irig_timekeeper.specs.Life.Call.{Hear, Tick}
use Rattle.irig_timekeeper.specs.Lived.{MadeOf, keeping_after}
use Rattle.record_lines.specs.declared.receiver.Receiver.{Receiver}
use Rattle.record_lines.specs.Receivers.{IsReceiverOf}
use Rattle.record_lines.proofs.CarriedLaws.{receiver_carries}

abbrev clock : ClockRules
clock = record {
  reader_rules = record { lock_after = 2; holdover = 100 };
  redundancy = of.Three;
  within = within_of 450;
  limits = record { limits = usual_limits; few = omega arith };
  drift_us = 100;
  wander_ppb = 0;
  delays = record { a = pos 0; b = pos 0; c = pos 0; d = pos 0; e = pos 0 };
  prefers_frames = false;
}

abbrev rules : Rules
rules = record { parity = parity.Even; sense = sense.Add; sbs = sbs.Check }

abbrev made : MadeOf
made = record { rules = rules; clock = clock; table = table 0 [] }

-- 12:00:00 and 12:00:01 of the last day of 2016
abbrev lie : List Symbol
lie = Marker ∷ Zero ∷ Zero ∷ Zero ∷ Zero ∷ Zero ∷ Zero ∷ Zero ∷ Zero ∷ Marker ∷ Zero ∷ Zero ∷ Zero ∷ Zero ∷ Zero ∷ Zero ∷ Zero ∷ Zero ∷ Zero ∷ Marker ∷ Zero ∷ One ∷ Zero ∷ Zero ∷ Zero ∷ One ∷ Zero ∷ Zero ∷ Zero ∷ Marker ∷ Zero ∷ One ∷ One ∷ Zero ∷ Zero ∷ Zero ∷ One ∷ One ∷ Zero ∷ Marker ∷ One ∷ One ∷ Zero ∷ Zero ∷ Zero ∷ Zero ∷ Zero ∷ Zero ∷ Zero ∷ Marker ∷ Zero ∷ One ∷ One ∷ Zero ∷ Zero ∷ One ∷ Zero ∷ Zero ∷ Zero ∷ Marker ∷ Zero ∷ Zero ∷ Zero ∷ Zero ∷ Zero ∷ Zero ∷ Zero ∷ Zero ∷ Zero ∷ Marker ∷ Zero ∷ Zero ∷ Zero ∷ Zero ∷ Zero ∷ One ∷ Zero ∷ Zero ∷ Zero ∷ Marker ∷ Zero ∷ Zero ∷ Zero ∷ Zero ∷ Zero ∷ Zero ∷ One ∷ One ∷ Zero ∷ Marker ∷ Zero ∷ Zero ∷ One ∷ Zero ∷ One ∷ Zero ∷ One ∷ Zero ∷ Zero ∷ Marker ∷ []

abbrev truth : List Symbol
truth = Marker ∷ One ∷ Zero ∷ Zero ∷ Zero ∷ Zero ∷ Zero ∷ Zero ∷ Zero ∷ Marker ∷ Zero ∷ Zero ∷ Zero ∷ Zero ∷ Zero ∷ Zero ∷ Zero ∷ Zero ∷ Zero ∷ Marker ∷ Zero ∷ One ∷ Zero ∷ Zero ∷ Zero ∷ One ∷ Zero ∷ Zero ∷ Zero ∷ Marker ∷ Zero ∷ One ∷ One ∷ Zero ∷ Zero ∷ Zero ∷ One ∷ One ∷ Zero ∷ Marker ∷ One ∷ One ∷ Zero ∷ Zero ∷ Zero ∷ Zero ∷ Zero ∷ Zero ∷ Zero ∷ Marker ∷ Zero ∷ One ∷ One ∷ Zero ∷ Zero ∷ One ∷ Zero ∷ Zero ∷ Zero ∷ Marker ∷ Zero ∷ Zero ∷ Zero ∷ Zero ∷ Zero ∷ Zero ∷ Zero ∷ Zero ∷ Zero ∷ Marker ∷ Zero ∷ Zero ∷ Zero ∷ Zero ∷ Zero ∷ Zero ∷ Zero ∷ Zero ∷ Zero ∷ Marker ∷ One ∷ Zero ∷ Zero ∷ Zero ∷ Zero ∷ Zero ∷ One ∷ One ∷ Zero ∷ Marker ∷ Zero ∷ Zero ∷ One ∷ Zero ∷ One ∷ Zero ∷ One ∷ Zero ∷ Zero ∷ Marker ∷ []

unfoldable width_of : Symbol → ℕ
width_of Zero = 2000
width_of One = 5000
width_of Marker = 8000
width_of Bad = 0

-- so many elements of each line, the newest first
unfoldable elements : ℕ → List Call
elements zero = []
elements (suc k) =
    Hear 2 (4294000000 + 10000 * k) (width_of (get_or lie k Zero))
    ∷ Hear 1 (4293999600 + 10000 * k) (width_of (get_or truth k Zero))
    ∷ Hear 0 (4294000400 + 10000 * k) (width_of (get_or truth k Zero))
    ∷ elements k

unfoldable calls : List Call
calls = elements 100

abbrev now : ℕ
now = 4295002000

-- the middle of both frames' ends
abbrev vote : Vote
vote = record {
  claim = record { at = record { day = 6209; sod = 43201 }; mark = Unspoken };
  edge_us = 32704;
  bound_us = 850;
}

voted : vote_at (keeping_after made calls) (now % 2 ^ 32) ≡ Some vote
unfolding calls elements width_of told_of frame_told coded_told ones values_of field_at control_of offset_in utc_minute is_month_end four_years
voted = refl

carried : {P : Type 0} {g : Ghosts P} (receiver : Receiver P g) (start : ℕ) → IsReceiverOf receiver made start (Tick now ∷ calls)
    → IsCarried clock rules vote.claim now (λ line. pulses_on line calls)
carried receiver start is = receiver_carries receiver made start now calls vote is voted
