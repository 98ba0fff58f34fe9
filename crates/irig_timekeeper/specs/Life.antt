-- The life of a device since it was made or restarted, by its calls. Times are local ones, by a
-- clock that does not wrap; the device is given them by one of 32 bits.
-- Source: this project's profile.
use Rattle.std.specs.Prelude.{◌≡◌, ℕ, ◌+◌, ◌%◌, ◌^◌, ◌<◌, ◌≤◌, ◌==◌, Bool, true, false, ◌&&◌, if◌then◌else◌, List, [], ◌∷◌, ◌++◌, count_by, ⊤}
use Rattle.std.specs.List.{range_with_len}
use Rattle.irig_sync.specs.Lines.{Pulse, pulse_at, IsAfter}
use Rattle.irig_time.specs.declared.rules.Rules.{Rules}
use Rattle.irig_time.specs.Tables.{TableValue}
use Rattle.irig_time.specs.Timelines.{TimelineValue}
use Rattle.irig_vote.specs.declared.redundancy.Redundancy.{Redundancy}
use Rattle.irig_vote.specs.Vote.{ports_in, f_of}
use Rattle.irig_lines.specs.Paces.{WandersAsSet}
use Rattle.irig_lines.specs.declared.setup.ClockRules.{ClockRules}
use Rattle.irig_lines.specs.declared.lines.Lines.{Lines}
use Rattle.irig_lines.specs.Steps.{is_pulse, AreNewLines}
use Rattle.irig_timekeeper.specs.Keeping.{Keeping, new_keeping, after_pulse, after_tick}
use Rattle.irig_timekeeper.specs.Truth.{IsDevice}

-- a pulse on the line of a port: it rose then, and is so wide; or a tick
pub data Call : Type 0 where
  Hear : (port rise width : ℕ) → Call
  Tick : (now : ℕ) → Call

-- behind a call
abbrev pub after_call : Keeping → Call → Keeping
after_call k (Hear port rise width) = after_pulse k port (rise % 2 ^ 32) width
after_call k (Tick now) = after_tick k (now % 2 ^ 32)

-- after these calls, the newest first
abbrev pub after_calls : Keeping → List Call → Keeping
after_calls k [] = k
after_calls k (call ∷ calls) = after_call (after_calls k calls) call

-- what a device was made of, and its lines, on which nothing came
pub record Made : Type 0 where
  pub rules : Rules
  pub clock : ClockRules
  pub table : TableValue
  pub lines : Lines
  pub fresh : AreNewLines lines

-- that device, and what it is after these calls, the newest first
abbrev pub device_of : Made → Keeping
device_of made = new_keeping made.rules made.clock made.table made.lines

-- what a device is that was made of this, after these calls, the newest first
abbrev pub life_of : Made → List Call → Keeping
life_of made calls = after_calls (device_of made) calls

-- the pulses on the line of a port, the newest first
abbrev pub pulses_on : ℕ → List Call → List Pulse
pulses_on line [] = []
pulses_on line (Hear port rise width ∷ calls) =
    if line == port && is_pulse width then pulse_at rise width ∷ pulses_on line calls
    else pulses_on line calls
pulses_on line (Tick now ∷ calls) = pulses_on line calls

-- the time of the last tick, of a life that began at a time
abbrev pub last_tick : ℕ → List Call → ℕ
last_tick start [] = start
last_tick start (Hear port rise width ∷ calls) = last_tick start calls
last_tick start (Tick now ∷ calls) = now

-- the pulse of each line that was told last rose by then
abbrev pub HaveRisen : ℕ → List Call → Type 0
HaveRisen time calls = (line : ℕ) → IsAfter (pulses_on line calls) time

-- each line's pulses are told in order, the lines in any, and each pulse before a tick more than
-- half a second behind its rise; what is too wide is no pulse. Ticks come in the order of their
-- times, one at least in half an hour, and none more than 4 ms before the rise of a pulse that was told
abbrev pub AreInOrder : ℕ → Redundancy → List Call → Type 0
AreInOrder start redundancy [] = ⊤
AreInOrder start redundancy (Hear port rise width ∷ calls) =
    (port < ports_in redundancy)
    × (is_pulse width ≡ true
    → IsAfter (pulses_on port calls) rise × (last_tick start calls ≤ rise + 500000))
    × AreInOrder start redundancy calls
AreInOrder start redundancy (Tick now ∷ calls) =
    (last_tick start calls ≤ now) × (now + 504000 < last_tick start calls + 1800000000)
    × HaveRisen (now + 4000) calls × AreInOrder start redundancy calls

-- all but at most f of the five lines are such true lines at this time; a line that is not there
-- brought no pulse
pub record AreTrueLately (IsTrue : ℕ → List Pulse → Type 0) (f now : ℕ) (calls : List Call)
    : Type 0 where
  pub untrue : ℕ → Bool
  pub few : count_by untrue (range_with_len 0 5) ≤ f
  pub true_lines : (line : ℕ) → line < 5 → untrue line ≡ false
      → IsTrue now (pulses_on line calls)

-- so at each tick
abbrev pub AreTrueAtTicks : (ℕ → List Pulse → Type 0) → ℕ → List Call → Type 0
AreTrueAtTicks IsTrue f [] = ⊤
AreTrueAtTicks IsTrue f (Hear port rise width ∷ calls) = AreTrueAtTicks IsTrue f calls
AreTrueAtTicks IsTrue f (Tick now ∷ calls) =
    AreTrueLately IsTrue f now calls × AreTrueAtTicks IsTrue f calls

-- so at each tick of these calls, which came behind those
abbrev pub AreTrueOver : (ℕ → List Pulse → Type 0) → ℕ → List Call → List Call → Type 0
AreTrueOver IsTrue f [] before = ⊤
AreTrueOver IsTrue f (Hear port rise width ∷ calls) before = AreTrueOver IsTrue f calls before
AreTrueOver IsTrue f (Tick now ∷ calls) before =
    AreTrueLately IsTrue f now (calls ++ before) × AreTrueOver IsTrue f calls before

-- a device is what its setup says, its counter wanders no more than that if it is to learn from votes,
-- its calls are in order, and at each tick all but at most f lines are such true lines
pub record LivesTruly
    (IsTrue : Rules → TimelineValue → (ℕ → ℕ) → ℕ → List Pulse → Type 0) (t : TimelineValue)
    (edges : ℕ → ℕ) (made : Made) (start : ℕ) (calls : List Call)
    : Type 0 where
  pub is : IsDevice t made.clock.drift_us edges made.clock.reader_rules made.table
  pub order : AreInOrder start made.clock.redundancy calls
  pub learns : WandersAsSet made.clock edges
  pub truth : AreTrueAtTicks (IsTrue made.rules t edges) (f_of made.clock.redundancy) calls
