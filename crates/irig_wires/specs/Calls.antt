-- The calls of a line, and what it brings by them. Lists have the newest first.
-- Source: this project's profile.
use Rattle.std.specs.Prelude.{◌≡◌, ℕ, ◌+◌, ◌<◌, ◌≤◌, ◌==◌, if◌then◌else◌, List, [], ◌∷◌, map, Option, Some, None, ⊤}
use Rattle.irig_wires.specs.declared.wire.Flight.{Flight}
use Rattle.irig_wires.specs.declared.wire.Wire.{Wire}
use Rattle.irig_wires.specs.declared.wires.Wires.{Wires}
use Rattle.irig_wires.specs.Wires.{added, ended, flight_of, made_late, plugged, pulled, sent, taken, wire_at, wire_of, wires_of, with_wire}

-- what may be done with a line
pub data Call : Type 0 where
  Pull : Call
  Plug : Call
  BeLate : (late : ℕ) → Call
  Send : (now width : ℕ) → Call
  Add : (now width : ℕ) → Call
  Take : (now : ℕ) → Call

-- the line behind a call
abbrev pub called : Call → Wire → Wire
called Pull wire = pulled wire
called Plug wire = plugged wire
called (BeLate late) wire = made_late late wire
called (Send now width) wire = sent now width wire
called (Add now width) wire = added now width wire
called (Take now) wire = taken now wire

-- a line that was so late at first, behind these calls
abbrev pub wire_after : (late : ℕ) → List Call → Wire
wire_after late [] = wire_of late
wire_after late (call ∷ calls) = called call (wire_after late calls)

-- a pulse, if there is one, and those before it
abbrev pub with_flight : Option Flight → List Flight → List Flight
with_flight None flights = flights
with_flight (Some flight) flights = flight ∷ flights

-- what was taken by a call
abbrev pub taken_by : Call → Wire → Option Flight
taken_by (Take now) wire = ended now wire.flight
taken_by call wire = None

-- the pulses that were taken
abbrev pub brought : (late : ℕ) → List Call → List Flight
brought late [] = []
brought late (call ∷ calls) =
    with_flight (taken_by call (wire_after late calls)) (brought late calls)

-- those, and the one that is on its way
abbrev pub carried : (late : ℕ) → List Call → List Flight
carried late calls = with_flight (wire_after late calls).flight (brought late calls)

-- ---- in order of time

-- a call is made by that time, and those before it by the time of the call
abbrev pub AreBy : (time : ℕ) → List Call → Type 0
AreBy time [] = ⊤
AreBy time (Pull ∷ calls) = AreBy time calls
AreBy time (Plug ∷ calls) = AreBy time calls
AreBy time (BeLate late ∷ calls) = AreBy time calls
AreBy time (Send now width ∷ calls) = (now ≤ time) × AreBy now calls
AreBy time (Add now width ∷ calls) = (now ≤ time) × AreBy now calls
AreBy time (Take now ∷ calls) = (now ≤ time) × AreBy now calls

-- a call is made at that time or later, if it has a time
abbrev pub IsNotBack : (time : ℕ) → Call → Type 0
IsNotBack time (Send now width) = time ≤ now
IsNotBack time (Add now width) = time ≤ now
IsNotBack time (Take now) = time ≤ now
IsNotBack time call = ⊤

-- pulses one after another: the newest has ended by that time, and each other one when the next rises
abbrev pub AreApart : (time : ℕ) → List Flight → Type 0
AreApart time [] = ⊤
AreApart time (flight ∷ flights) = (flight.end_us ≤ time) × AreApart flight.rise_us flights

-- ---- a line that is left alone

-- a pulse as it was sent
pub record Sending : Type 0 where
  pub time : ℕ
  pub width : ℕ

-- what was sent
abbrev pub sendings : List Call → List Sending
sendings [] = []
sendings (Send now width ∷ calls) = record { time = now; width = width } ∷ sendings calls
sendings (call ∷ calls) = sendings calls

-- pulses are sent and taken, and nothing else is done; what has ended when one is sent was taken
abbrev pub IsLeftAlone : (late : ℕ) → List Call → Type 0
IsLeftAlone late [] = ⊤
IsLeftAlone late (Send now width ∷ calls) =
    (ended now (wire_after late calls).flight ≡ None) × IsLeftAlone late calls
IsLeftAlone late (Take now ∷ calls) = IsLeftAlone late calls
IsLeftAlone late (call ∷ calls) = ⊥

-- a pulse is sent 10 ms or more behind the one before it
abbrev pub IsWellBehind : Sending → List Sending → Type 0
IsWellBehind sending [] = ⊤
IsWellBehind sending (before ∷ sendings) = before.time + 10000 ≤ sending.time

-- pulses of 8 ms at most are sent each 10 ms, or less often: as an IRIG-B time code is
abbrev pub AreElements : List Sending → Type 0
AreElements [] = ⊤
AreElements (sending ∷ sendings) =
    (sending.width ≤ 8000) × IsWellBehind sending sendings × AreElements sendings

-- each of them as a line brings it that is so late
abbrev pub as_sent : (late : ℕ) → List Sending → List Flight
as_sent late sendings = map (λ s. flight_of (s.time + late) s.width) sendings

-- ---- the lines of a device

-- a call of the line of a number
pub record LineCall : Type 0 where
  pub line : ℕ
  pub call : Call

-- the lines behind it
abbrev pub called_on : LineCall → Wires → Wires
called_on on wires = with_wire wires on.line (called on.call (wire_at wires on.line))

-- the lines that were so late each at first, behind these calls
abbrev pub wires_after : (late : List ℕ) → List LineCall → Wires
wires_after late [] = wires_of late
wires_after late (on ∷ calls) = called_on on (wires_after late calls)

-- those of one line
abbrev pub calls_on : (line : ℕ) → List LineCall → List Call
calls_on line [] = []
calls_on line (on ∷ calls) =
    if line == on.line then on.call ∷ calls_on line calls else calls_on line calls

-- each is of a line that there is
abbrev pub AreOnLines : List LineCall → Type 0
AreOnLines [] = ⊤
AreOnLines (on ∷ calls) = (on.line < 5) × AreOnLines calls
