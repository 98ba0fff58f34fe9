-- A device that is audited as it goes, and what it then promises.
-- Source: docs/WIRES.md; this project's profile.
use Rattle.std.specs.Prelude.{◌≡◌, ℕ, ◌+◌, ◌-◌, ◌*◌, ◌%◌, ◌^◌, ◌≤◌, ◌<◌, min, true, List, ◌∷◌, Option, Some, if◌then◌else◌, ℤ, pos, int_lt, unsigned_abs}
use Rattle.irig_frame.specs.declared.symbol.Symbol.{Symbol}
use Rattle.irig_time.specs.declared.second.UtcSecond.{UtcSecond}
use Rattle.irig_time.specs.Timelines.{TimelineValue}
use Rattle.irig_port.specs.declared.port.Port.{Ghosts}
use Rattle.irig_lines.specs.Delays.{delay_at}
use Rattle.irig_timekeeper.specs.declared.clock.Beat.{Beat}
use Rattle.irig_timekeeper.specs.declared.stamp.Stamp.{Stamp}
use Rattle.irig_timekeeper.specs.Keeping.{wait_at}
use Rattle.irig_timekeeper.specs.Life.{Call, last_tick}
use Rattle.irig_timekeeper.specs.Life.Call.{Hear, Tick}
use Rattle.irig_timekeeper.specs.Lived.{MadeOf, HasLived, keeping_after}
use Rattle.irig_timekeeper.specs.Truth.{IsToldInHoldover}
use Rattle.irig_witness.specs.declared.device.Device.{Device}
use Rattle.irig_witness.specs.Elements.{element_near}
use Rattle.irig_wires.specs.Oscillator.{rate_of, counter_at, edges_by}
use Rattle.irig_witness.specs.TrueFrames.{true_symbol}
use Rattle.irig_witness.specs.Witness.{IsSaidOf, TrueLines, lines_by}
use Rattle.irig_witness.specs.Watches.{IsWatchOf, may_tick}
use Rattle.irig_witness.specs.Promise.{IsStampedInTime, IsTrueSetup}

-- when a pulse rose at its clock, by a counter that does not wrap, if its line is so late
abbrev pub risen_at : (rise : ℕ) → (delay : ℤ) → ℕ
risen_at rise delay =
    if int_lt delay (pos 0) then rise + unsigned_abs delay else rise - unsigned_abs delay

-- the same, on a line of a device
abbrev pub risen_on : {P : Type 0} {g : Ghosts P} → Device P g → (line rise : ℕ) → ℕ
risen_on device line rise = risen_at rise (delay_at device.clock.delays line)

-- of which element of its line alone that pulse may be
abbrev pub element_on : {P : Type 0} {g : Ghosts P} → Device P g → (line rise : ℕ) → ℕ
element_on device line rise =
    element_near device.oscillator.first (rate_of device.oscillator.gain_us) (risen_on device line rise)

-- when seconds begin by its counter
abbrev pub edges_of : {P : Type 0} {g : Ghosts P} → Device P g → ℕ → ℕ
edges_of device = edges_by device.oscillator.first (rate_of device.oscillator.gain_us)

-- lines of these symbols, by that counter
abbrev pub lines_on : {P : Type 0} {g : Ghosts P} → Device P g
    → (symbol : (line element : ℕ) → Symbol) → TrueLines
lines_on device symbol = lines_by symbol device.oscillator.first (rate_of device.oscillator.gain_us)

-- how long until it is ticked as it asks: until it has something to do, if no call comes before that, and
-- 2 s behind its last tick at the latest
abbrev pub wait_until_asked : MadeOf → (start : ℕ) → List Call → (now : ℕ) → ℕ
wait_until_asked made start calls now =
    min (wait_at (keeping_after made calls) (now % 2 ^ 32)) (last_tick start calls + 2000000 - now)

-- it was made of this, its life began at a time, and these calls came since, the newest first; its
-- audit is of them, beside lines of these symbols
pub record IsDeviceOf {P : Type 0} {g : Ghosts P} (device : Device P g) (made : MadeOf)
    (symbol : (line element : ℕ) → Symbol) (start : ℕ) (calls : List Call)
    : Type 0 where
  pub lived : HasLived device.keeper made calls
  pub watch : IsWatchOf device.watch made.clock (lines_on device symbol) start calls
  pub clock : device.clock ≡ made.clock

-- the setting and the oscillator are the same
pub record IsSetAs {P : Type 0} {g : Ghosts P} (new old : Device P g) : Type 0 where
  pub clock : new.clock ≡ old.clock
  pub oscillator : new.oscillator ≡ old.oscillator

-- one pulse more, if what is said of it is what a true line has there, or does not matter
abbrev pub HearsOn : {P : Type 0} {g : Ghosts P} → (old new : Device P g) → (line rise width : ℕ)
    → Symbol → Type 0
HearsOn old new line rise width said =
    (made : MadeOf) (symbol : (line element : ℕ) → Symbol) (start : ℕ) (calls : List Call)
    → IsDeviceOf old made symbol start calls
    → IsSaidOf (symbol line) (element_on old line rise) width said
    → IsDeviceOf new made symbol start (Hear line (risen_on old line rise) width ∷ calls)

-- one tick more
abbrev pub TicksOn : {P : Type 0} {g : Ghosts P} → (old new : Device P g) → (now : ℕ) → Type 0
TicksOn old new now =
    (made : MadeOf) (symbol : (line element : ℕ) → Symbol) (start : ℕ) (calls : List Call)
    → IsDeviceOf old made symbol start calls
    → IsDeviceOf new made symbol start (Tick now ∷ calls)

-- if the audit is kept behind a tick, beside what generators sent, the second that the tick
-- announces is the true one, and its told edge lies near it
abbrev pub TellsTruly : {P : Type 0} {g : Ghosts P} → (old new : Device P g) → (now : ℕ)
    → Option Beat → Type 0
TellsTruly old new now told =
    (t : TimelineValue) (sent : (line second : ℕ) → List (List Symbol)) (made : MadeOf) (start : ℕ)
    (calls : List Call) (beat : Beat) (u : UtcSecond)
    → IsDeviceOf old made (λ line. true_symbol made.rules t (sent line)) start calls
    → IsTrueSetup t (rate_of old.oscillator.gain_us) made.clock made.table → new.watch.is_kept ≡ true
    → told ≡ Some beat → beat.report.announce ≡ Some u
    → IsToldInHoldover t (edges_of old) 0 0 made.clock now beat u

-- if the audit is kept so far, a stamp names its instant by true time: of an event of the half hour
-- before a time at which a tick could come
abbrev pub StampsTruly : {P : Type 0} {g : Ghosts P} → Device P g → (time : ℕ) → Option Stamp
    → Type 0
StampsTruly device time said =
    (t : TimelineValue) (sent : (line second : ℕ) → List (List Symbol)) (made : MadeOf)
    (start now n tau : ℕ) (calls : List Call) (stamp : Stamp)
    → IsDeviceOf device made (λ line. true_symbol made.rules t (sent line)) start calls
    → IsTrueSetup t (rate_of device.oscillator.gain_us) made.clock made.table → device.watch.is_kept ≡ true
    → may_tick device.watch now ≡ true → time ≤ now → now ≤ time + 1800000000
    → tau < 1000000
    → time ≡ counter_at device.oscillator.first (rate_of device.oscillator.gain_us) (n * 1000000 + tau)
    → said ≡ Some stamp → IsStampedInTime t made.clock.drift_us n tau stamp
