-- In which order things happen to a device: what comes first of all that is to come, said as a relation.
-- Source: this project's profile.
use Rattle.std.specs.Prelude.{◌≡◌, ℕ, ◌<◌, ◌≤◌, Option, Some, None, ⊤}
use Rattle.irig_wires.specs.declared.wire.Flight.{Flight}
use Rattle.irig_wires.specs.declared.wires.Wires.{Wires}
use Rattle.irig_wires.specs.declared.wires.Ending.{Ending}
use Rattle.irig_wires.specs.declared.wires.Coming.{Coming}
use Rattle.irig_wires.specs.declared.wires.Happening.TheVariants.{End, Tick, Send}
use Rattle.irig_wires.specs.Wires.{taken, wire_at, with_wire}

-- this pulse is on its way on that line
abbrev pub IsOnItsWay : Wires → (line : ℕ) → Flight → Type 0
IsOnItsWay wires line flight = (line < 5) × ((wire_at wires line).flight ≡ Some flight)

-- each pulse that is on its way ends behind that time
abbrev pub AllEndBehind : Wires → (time : ℕ) → Type 0
AllEndBehind wires time = (line : ℕ) (flight : Flight) → IsOnItsWay wires line flight
    → time < flight.end_us

-- none has ended before it
abbrev pub NoneEndsBefore : Wires → (time : ℕ) → Type 0
NoneEndsBefore wires time = (line : ℕ) (flight : Flight) → IsOnItsWay wires line flight
    → time ≤ flight.end_us

-- the tick, if there is to be one, does not come before that time
abbrev pub IsNotBefore : (tick : Option ℕ) → (time : ℕ) → Type 0
IsNotBefore None time = ⊤
IsNotBefore (Some tick) time = time ≤ tick

-- it comes behind it
abbrev pub IsBehind : (tick : Option ℕ) → (time : ℕ) → Type 0
IsBehind None time = ⊤
IsBehind (Some tick) time = time < tick

-- of what is on its way this ends first; of equal ends it is that of the lowest line
pub record EndsFirst (wires : Wires) (ending : Ending) : Type 0 where
  pub own : IsOnItsWay wires ending.line ending.flight
  pub first : NoneEndsBefore wires ending.flight.end_us
  pub lowest : (line : ℕ) (flight : Flight) → IsOnItsWay wires line flight → line < ending.line
      → ending.flight.end_us < flight.end_us

-- this comes first of all that is to come. At one time pulses that end come first, by the number of
-- their line, then the tick, then what generators send
pub record ComesFirst (wires : Wires) (tick : Option ℕ) (send : ℕ) (coming : Coming)
    : Type 0 where
  pub ends : NoneEndsBefore wires coming.time_us
  pub ticks : IsNotBefore tick coming.time_us
  pub sends : coming.time_us ≤ send
  pub is_end : (ending : Ending) → coming.what ≡ End ending
      → EndsFirst wires ending × (coming.time_us ≡ ending.flight.end_us)
  pub is_tick : coming.what ≡ Tick
      → (tick ≡ Some coming.time_us) × AllEndBehind wires coming.time_us
  pub is_send : coming.what ≡ Send → (coming.time_us ≡ send)
      × AllEndBehind wires coming.time_us × IsBehind tick coming.time_us

-- the lines when the end of a pulse has come, and it is taken
abbrev pub behind_end : Wires → Ending → Wires
behind_end wires ending =
    with_wire wires ending.line (taken ending.flight.end_us (wire_at wires ending.line))
