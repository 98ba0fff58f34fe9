-- The frames of a generator as functions: the one list of symbols that IsFrameOrNone and IsSent of
-- specs/Frames.antt name.
-- Source: docs/SCENARIOS.md, by the definitions of Frames.antt.
use Rattle.std.specs.Prelude.{◌≡◌, ℕ, ◌-◌, ◌^◌, ◌<◌, min, List, Option, Some, None}
use Rattle.std.specs.Option.{option_map}
use Rattle.std.specs.List.{list_any}
use Rattle.irig_frame.specs.declared.symbol.Symbol.{Symbol}
use Rattle.irig_frame.specs.declared.coded.Coded.{Coded}
use Rattle.irig_frame.specs.Decoder.{IsCoded}
use Rattle.irig_frame.specs.Encoder.{frame_of_coded}
use Rattle.irig_control.specs.Parity.{with_parity}
use Rattle.irig_time.specs.declared.second.UtcSecond.{UtcSecond}
use Rattle.irig_time.specs.Frames.{frame_of_second}
use Rattle.irig_time.specs.Timelines.{TimelineValue, second_at}
use Rattle.irig_gen.specs.declared.fault.GenFault.{GenFault}
use Rattle.irig_gen.specs.Zones.{zone_at}
use Rattle.irig_gen.specs.ControlBits.{ends_minute}
use Rattle.irig_gen.specs.Faults.{control_with_fault, sent_edge}
use Rattle.irig_gen.specs.Frames.{GeneratorValue, control_at}

-- the frame of a second, with the control bits that a fault makes of the true ones
abbrev pub frame_with : Option GenFault → GeneratorValue → TimelineValue → Option UtcSecond
    → Option (List Symbol)
frame_with fault g t None = None
frame_with fault g t (Some u) =
    Some (frame_of_second g.rules.parity u (zone_at g.zone g.changes u).half_hours
    (control_with_fault fault (control_at g t u)))

-- the frame of an edge, if it has a second
unfoldable pub frame_of : Option GenFault → GeneratorValue → TimelineValue → ℕ
    → Option (List Symbol)
frame_of fault g t edge = frame_with fault g t (second_at t edge)

-- what is sent, if it is the frame of this edge
abbrev pub sent_from : Option ℕ → GeneratorValue → TimelineValue → Option (List Symbol)
sent_from None g t = None
sent_from (Some edge) g t = frame_of g.fault g t edge

-- what a generator now sends
unfoldable pub sent_of : GeneratorValue → TimelineValue → Option (List Symbol)
sent_of g t = sent_from (sent_edge g.fault g.edge g.since) g t

-- the frame of a value whose parity bit is 0, as the generator sends it
abbrev pub frame_of_value : GeneratorValue → Coded → List Symbol
frame_of_value g c = with_parity g.rules.parity (frame_of_coded c)

-- a value in range, with 0 for the parity and for the last three control bits
abbrev pub IsValueSent : Coded → Type 0
IsValueSent c = IsCoded c × (c.control < 2 ^ 14)

-- the edge whose frame is sent, as far as a word of 64 bits counts
abbrev pub last_sent : GeneratorValue → Option ℕ
last_sent g = option_map (λ e. min e (2 ^ 64 - 1)) (sent_edge g.fault g.edge g.since)

-- two clocks show the same of a second: one zone, and both or neither a change that comes with the
-- next minute
pub record ShowSame (g h : GeneratorValue) (u : UtcSecond) : Type 0 where
  pub zone : zone_at g.zone g.changes u ≡ zone_at h.zone h.changes u
  pub pending : list_any (λ x. ends_minute u x.at) g.changes
      ≡ list_any (λ x. ends_minute u x.at) h.changes
