-- The frames of a generator.
-- Source: docs/SCENARIOS.md, by IRIG Standard 200-16 and IEEE 1344-1995.
use Rattle.std.specs.Prelude.{◌≡◌, ℕ, List, Option, Some, None, MatchOption}
use Rattle.irig_frame.specs.declared.symbol.Symbol.{Symbol}
use Rattle.irig_control.specs.declared.control.Control.{Control}
use Rattle.irig_time.specs.declared.second.UtcSecond.{UtcSecond}
use Rattle.irig_time.specs.declared.rules.Rules.{Rules}
use Rattle.irig_time.specs.Frames.{IsFrameOfSecond}
use Rattle.irig_time.specs.Timelines.{TimelineValue, IsSecond, leap_of}
use Rattle.irig_gen.specs.declared.zone.Zone.{Zone}
use Rattle.irig_gen.specs.declared.zone.Change.{Change}
use Rattle.irig_gen.specs.declared.fault.GenFault.{GenFault}
use Rattle.irig_gen.specs.Zones.{zone_at}
use Rattle.irig_gen.specs.ControlBits.{true_control}
use Rattle.irig_gen.specs.Faults.{control_with_fault, sent_edge}

-- the zones and rules of a generator, how far it has come, and its fault with the edge at which it
-- was set
pub record GeneratorValue : Type 0 where
  pub zone : Zone
  pub changes : List Change
  pub rules : Rules
  pub edge : ℕ
  pub fault : Option GenFault
  pub since : ℕ

-- the generator with these zones, rules, edge and fault
abbrev pub gen : Zone → List Change → Rules → ℕ → Option GenFault → ℕ → GeneratorValue
gen zone changes rules edge fault since =
    record {
      zone = zone;
      changes = changes;
      rules = rules;
      edge = edge;
      fault = fault;
      since = since;
    }

-- what its control bits truly say at a second
abbrev pub control_at : GeneratorValue → TimelineValue → UtcSecond → Control
control_at g t u = true_control g.rules.sense g.zone g.changes (leap_of t.leaps u.day) u

-- the frame of an edge, with the control bits that a fault makes of the true ones
pub record IsFrameWithFault (fault : Option GenFault) (g : GeneratorValue) (t : TimelineValue)
    (edge : ℕ)
    (s : List Symbol) : Type 0 where
  pub second : UtcSecond
  pub is : IsSecond t edge second
  pub frame : IsFrameOfSecond g.rules.parity second (zone_at g.zone g.changes second).half_hours
      (control_with_fault fault (control_at g t second)) s

-- the frame of an edge without fault
abbrev pub IsTrueFrame : GeneratorValue → TimelineValue → ℕ → List Symbol → Type 0
IsTrueFrame = IsFrameWithFault None

-- the frame of an edge, or none if the edge has no second
abbrev pub IsFrameOrNone : Option GenFault → GeneratorValue → TimelineValue → ℕ
    → Option (List Symbol) → Type 0
IsFrameOrNone fault g t edge o =
    MatchOption o ((u : UtcSecond) → ¬ IsSecond t edge u) (IsFrameWithFault fault g t edge)

-- what is sent, if it is the frame of this edge
abbrev pub IsSentFrom : Option ℕ → GeneratorValue → TimelineValue → Option (List Symbol) → Type 0
IsSentFrom None g t o = o ≡ None
IsSentFrom (Some edge) g t o = IsFrameOrNone g.fault g t edge o

-- what a generator now sends
abbrev pub IsSent : GeneratorValue → TimelineValue → Option (List Symbol) → Type 0
IsSent g t o = IsSentFrom (sent_edge g.fault g.edge g.since) g t o
