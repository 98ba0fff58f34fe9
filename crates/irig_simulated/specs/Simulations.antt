-- What a simulated device stands for: its course.
-- Source: this project's profile.
use Rattle.std.specs.Prelude.{◌≡◌, ℕ, List, Option}
use Rattle.irig_frame.specs.declared.symbol.Symbol.{Symbol}
use Rattle.irig_port.specs.declared.port.Port.{Ghosts}
use Rattle.irig_wires.specs.Oscillator.{rate_of}
use Rattle.irig_witness.specs.Witness.{HaveEnded}
use Rattle.irig_witness.specs.Devices.{IsDeviceOf}
use Rattle.irig_simulated.specs.declared.second.Second.{Second}
use Rattle.irig_simulated.specs.declared.heard.HeardPulse.{HeardPulse}
use Rattle.irig_simulated.specs.declared.heard.HeardPulses.{HeardPulses}
use Rattle.irig_simulated.specs.declared.simulated.Simulated.{Simulated}
use Rattle.irig_simulated.specs.Kinds.{Kind, count}
use Rattle.irig_simulated.specs.Courses.{Course}
use Rattle.irig_simulated.specs.Heard.{HaveMore}
use Rattle.irig_simulated.specs.Seconds.{IsSecondOf}

-- it is a device of this kind, whose audit is beside lines of these symbols, and stands there in
-- its course; the pulses that it heard have ended
pub record IsSimulationOf {P : Type 0} {g : Ghosts P} (s : Simulated P g) (k : Kind)
    (symbol : (line element : ℕ) → Symbol) (x : Course)
    : Type 0 where
  pub device : IsDeviceOf s.device k.made symbol x.start x.calls
  pub ended : HaveEnded (count k x.now) x.calls
  pub first : s.oscillator.first ≡ k.first
  pub rate : rate_of s.oscillator.gain_us ≡ k.rate
  pub ticking : s.ticking ≡ k.ticking
  pub now : s.now_us ≡ x.now
  pub wires : s.wires ≡ x.wires
  pub tick : s.tick_us ≡ x.tick
  pub send : s.send_us ≡ x.send
  pub told : s.told.items ≡ x.told

-- a fact of a device: whatever it is, and wherever it stands in its course
abbrev pub ForSimulation : {P : Type 0} {g : Ghosts P} → Simulated P g
    → (Kind → (symbol : (line element : ℕ) → Symbol) → Course → Type 0) → Type 0
ForSimulation s fact =
    (k : Kind) (symbol : (line element : ℕ) → Symbol) (x : Course)
    → IsSimulationOf s k symbol x → fact k symbol x

-- it has gone on in its course to here
abbrev pub GoesOn : {P : Type 0} {g : Ghosts P} → (old new : Simulated P g)
    → (Kind → Course → Course) → Type 0
GoesOn old new course =
    ForSimulation old (λ k symbol x. IsSimulationOf new k symbol (course k x))

-- so in a second, by what generators send in it
abbrev pub GoesOnIn : {P : Type 0} {g : Ghosts P} → Second → (old new : Simulated P g)
    → (Kind → (signal : (line element : ℕ) → Option Symbol) → Course → Course) → Type 0
GoesOnIn second old new course =
    (k : Kind) (signal : (line element : ℕ) → Option Symbol)
    (symbol : (line element : ℕ) → Symbol) (x : Course) → IsSecondOf second signal symbol
    → IsSimulationOf old k symbol x → IsSimulationOf new k symbol (course k signal x)

-- the pulses that a device hears in a second, by what generators send in it, are kept behind those
-- before, if they are to be kept
abbrev pub HearsIn : {P : Type 0} {g : Ghosts P} → Second → (device : Simulated P g)
    → (old new : HeardPulses)
    → (Kind → (signal : (line element : ℕ) → Option Symbol) → Course → List HeardPulse) → Type 0
HearsIn second device old new more =
    (k : Kind) (signal : (line element : ℕ) → Option Symbol)
    (symbol : (line element : ℕ) → Symbol) (x : Course) → IsSecondOf second signal symbol
    → IsSimulationOf device k symbol x → HaveMore old new (more k signal x)
