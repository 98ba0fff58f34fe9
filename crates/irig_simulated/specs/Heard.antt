-- The pulses that a simulated device hears while true time passes.
-- Source: docs/SCENARIOS.md, what a device hears; this project's profile.
use Rattle.std.specs.Prelude.{◌≡◌, ℕ, zero, suc, ◌-◌, nat_lt, if◌then◌else◌, true, List, [], ◌∷◌, ◌++◌, Option}
use Rattle.irig_frame.specs.declared.symbol.Symbol.{Symbol}
use Rattle.irig_timekeeper.specs.Life.{Call}
use Rattle.irig_timekeeper.specs.Life.Call.{Hear, Tick}
use Rattle.irig_wires.specs.declared.wires.Ending.{Ending}
use Rattle.irig_wires.specs.declared.wires.Happening.{Happening}
use Rattle.irig_wires.specs.declared.wires.Happening.TheVariants as happens
use Rattle.irig_simulated.specs.declared.heard.HeardPulse.{HeardPulse}
use Rattle.irig_simulated.specs.declared.heard.HeardPulses.{HeardPulses}
use Rattle.irig_simulated.specs.Kinds.{Kind, count}
use Rattle.irig_simulated.specs.Courses.{Course, coming, most_in, stepped, width_by}

-- a pulse that has ended now, of the device with this number
abbrev pub ended_pulse : (r now : ℕ) → Ending → HeardPulse
ended_pulse r now e =
    record { device = r; line = e.line; rise_us = e.flight.rise_us; end_us = now }

-- the pulse that a device hears by what happens now, if it hears one
abbrev pub heard_by : (r now : ℕ) → Happening → List HeardPulse
heard_by r now (happens.End e) = ended_pulse r now e ∷ []
heard_by r now happens.Tick = []
heard_by r now happens.Send = []

-- the pulses that device r hears before a time, of so many things that happen at most; the oldest
-- first
abbrev pub heard_of_most : Kind → (r : ℕ) → (signal : (line element : ℕ) → Option Symbol)
    → (stop most : ℕ) → Course → List HeardPulse
heard_of_most k r signal stop zero x = []
heard_of_most k r signal stop (suc most) x =
    if nat_lt (coming x).time_us stop
    then heard_by r (coming x).time_us (coming x).what
    ++ heard_of_most k r signal stop most (stepped k signal x)
    else []

-- those that it hears while time passes up to another
abbrev pub heard_until : Kind → (r : ℕ) → (signal : (line element : ℕ) → Option Symbol)
    → (stop : ℕ) → Course → List HeardPulse
heard_until k r signal stop x = heard_of_most k r signal stop (most_in (stop - x.now)) x

-- ---- pulses that are kept

-- there are these more of them, if they are kept
pub record HaveMore (old new : HeardPulses) (more : List HeardPulse) : Type 0 where
  pub keeps : new.keeps ≡ old.keeps
  pub pulses : old.keeps ≡ true → new.pulses.items ≡ old.pulses.items ++ more

-- ---- the calls of a device

-- the call by which a device of this kind was told a pulse
abbrev pub call_of : Kind → HeardPulse → Call
call_of k p = Hear p.line (count k p.rise_us) (width_by k p.rise_us p.end_us)

-- of calls those that tell a pulse
abbrev pub pulses_told : List Call → List Call
pulses_told [] = []
pulses_told (Hear line rise width ∷ calls) = Hear line rise width ∷ pulses_told calls
pulses_told (Tick now ∷ calls) = pulses_told calls
