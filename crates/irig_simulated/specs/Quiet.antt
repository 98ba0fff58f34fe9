-- A second of a device in which nothing happens but that its lines bring what generators send.
-- Source: docs/SCENARIOS.md; this project's profile.
use Rattle.std.specs.Prelude.{◌≡◌, ℕ, suc, ◌+◌, ◌*◌, ◌%◌, ◌^◌, ◌<◌, ◌≤◌, ◌⊎◌, Bool, true, false, if◌then◌else◌, List, [], ◌++◌, Option, Some, None}
use Rattle.irig_frame.specs.declared.symbol.Symbol.{Symbol}
use Rattle.irig_frame.specs.Symbols.{width_of}
use Rattle.irig_timekeeper.specs.Keeping.{place_told}
use Rattle.irig_timekeeper.specs.Life.{Call, pulses_on}
use Rattle.irig_timekeeper.specs.Lived.{keeping_after}
use Rattle.irig_timekeeper.specs.Unfinished.{AreHears, most, pulses_by}
use Rattle.irig_wires.specs.declared.wire.Wire.{Wire}
use Rattle.irig_wires.specs.declared.wires.Wires.{Wires}
use Rattle.irig_wires.specs.Order.{IsNotBefore, NoneEndsBefore}
use Rattle.irig_wires.specs.Wires.{flight_of, most_late_us, wire_at}
use Rattle.irig_simulated.specs.Kinds.{Kind, count}
use Rattle.irig_simulated.specs.Courses.{Course, passed, width_by}

-- when generators send an element of a second
abbrev pub sent_at : (second element : ℕ) → ℕ
sent_at n j = n * 1000000 + 10000 * j

-- when it rises by the counter, on a line that is so late
abbrev pub risen_by : Kind → (second late element : ℕ) → ℕ
risen_by k n late j = count k (sent_at n j + late)

-- how wide it then is
abbrev pub wide_by : Kind → (second late : ℕ) → (symbols : ℕ → Symbol) → (element : ℕ) → ℕ
wide_by k n late symbols j =
    width_by k (sent_at n j + late) (sent_at n j + late + width_of (symbols j))

-- a cable with an element of a second on its way
abbrev pub with_element : (second : ℕ) → (symbols : ℕ → Symbol) → (element : ℕ) → Wire → Wire
with_element n symbols j wire =
    record wire { flight = Some (flight_of (sent_at n j + wire.late_us) (width_of (symbols j))) }

-- a cable brings what its generator sends in a second: these symbols, of which the first is on its way,
-- and the last has a width
pub record BringsAll (n : ℕ) (signal : (element : ℕ) → Option Symbol) (symbols : ℕ → Symbol)
    (wire : Wire) : Type 0 where
  pub plugged : wire.is_plugged ≡ true
  pub late : wire.late_us ≤ most_late_us
  pub first : wire ≡ with_element n symbols 0 wire
  pub sends : (j : ℕ) → j < 100 → signal (100 * n + j) ≡ Some (symbols j)
  pub last : 0 < width_of (symbols most)

-- it brings nothing: it is out, or nothing is sent
pub record BringsNone (n : ℕ) (signal : (element : ℕ) → Option Symbol) (wire : Wire) : Type 0 where
  pub none : wire.flight ≡ None
  pub silent : (wire.is_plugged ≡ false) ⊎ ((j : ℕ) → j < 100 → signal (100 * n + j) ≡ None)

-- the course of a device stands behind the first element of a second, which lines that are `on` bring,
-- and others bring nothing; the device is not ticked before the last element is sent; and no line that
-- is on ends a frame before that
pub record IsQuiet (k : Kind) (signal : (line element : ℕ) → Option Symbol) (x : Course) (ports n : ℕ)
    (on : ℕ → Bool) (symbols : (line element : ℕ) → Symbol) : Type 0 where
  pub slow : k.rate ≤ 1001000
  pub send : x.send ≡ sent_at n 1
  pub now : NoneEndsBefore x.wires x.now
  pub early : x.now ≤ sent_at n 1
  pub tick : IsNotBefore x.tick (suc (sent_at n most))
  pub few : ports ≤ 5
  pub within : (line : ℕ) → on line ≡ true → line < ports
  pub brings : (line : ℕ) → line < 5 → on line ≡ true
      → BringsAll n (signal line) (symbols line) (wire_at x.wires line)
  pub silent : (line : ℕ) → line < 5 → on line ≡ false
      → BringsNone n (signal line) (wire_at x.wires line)
  pub goes_on : (calls : List Call) (line j : ℕ) → AreHears ports calls → line < 5 → on line ≡ true
      → j < most
      → pulses_on line calls ≡ pulses_by (risen_by k n (wire_at x.wires line).late_us)
      (wide_by k n (wire_at x.wires line).late_us (symbols line)) j
      → place_told (keeping_after k.made (calls ++ x.calls)) line
      (risen_by k n (wire_at x.wires line).late_us j % 2 ^ 32)
      (wide_by k n (wire_at x.wires line).late_us (symbols line) j) < 100

-- the lines then: what is on has its last element on its way
abbrev pub wire_then : (second : ℕ) → (on : Bool) → (symbols : ℕ → Symbol) → Wire → Wire
wire_then n on symbols wire = if on then with_element n symbols most wire else wire

-- so are all five
abbrev pub wires_then : (second : ℕ) → (on : ℕ → Bool) → (symbols : (line element : ℕ) → Symbol)
    → Wires → Wires
wires_then n on symbols w = record {
  a = wire_then n (on 0) (symbols 0) w.a;
  b = wire_then n (on 1) (symbols 1) w.b;
  c = wire_then n (on 2) (symbols 2) w.c;
  d = wire_then n (on 3) (symbols 3) w.d;
  e = wire_then n (on 4) (symbols 4) w.e;
}

-- what became of the course when the last element has been sent: all pulses before were told, those of
-- each line in order
pub record Passes (k : Kind) (signal : (line element : ℕ) → Option Symbol) (x : Course) (ports n : ℕ)
    (on : ℕ → Bool) (symbols : (line element : ℕ) → Symbol) : Type 0 where
  pub calls : List Call
  pub hears : AreHears ports calls
  pub told : (line : ℕ) → line < 5 → pulses_on line calls
      ≡ (if on line then pulses_by (risen_by k n (wire_at x.wires line).late_us)
      (wide_by k n (wire_at x.wires line).late_us (symbols line)) most else [])
  pub is : passed k signal (suc (sent_at n most)) x ≡ record x {
    now = suc (sent_at n most);
    calls = calls ++ x.calls;
    wires = wires_then n on symbols x.wires;
    send = sent_at n 100;
  }
