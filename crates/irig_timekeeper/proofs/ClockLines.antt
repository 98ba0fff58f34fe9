-- Lines of clocks that are not right themselves tell the truth, so much further off.
use Rattle.std.proofs.Common.{◌≡◌, ◌∙◌, ℕ, ◌+◌, ◌-◌, ◌≤◌, List, drop, arith}
use Rattle.irig_frame.specs.declared.symbol.Symbol.{Symbol}
use Rattle.irig_sync.specs.Edges.{element_drift}
use Rattle.irig_sync.specs.Lines.{Pulse, symbols_of_last}
use Rattle.irig_time.specs.declared.rules.Rules.{Rules}
use Rattle.irig_time.specs.declared.claim.Claim.{Claim}
use Rattle.irig_time.specs.Timelines.{TimelineValue}
use Rattle.irig_port.specs.Limits.{quality_in}
use Rattle.irig_lines.specs.declared.setup.ClockRules.{ClockRules}
use Rattle.irig_lines.specs.Clocks.{IsTrueByItsClock, IsTrueByItsQuality}
use Rattle.irig_lines.specs.Widths.{quality_us}
use Rattle.irig_lines.specs.Edges.{IsQuartz, IsNear, IsTrueNear}
use Rattle.irig_lines.specs.Exactness.{end_off_us}
use Rattle.irig_lines.specs.Lines.{IsFrameOf, IsTrueLately}
use Rattle.irig_lines.proofs.LineLaws.{frame_is_even, frame_is_framed, frame_is_true, true_by_any}
use Rattle.irig_lines.proofs.WidthLaws.{half_is}
use Rattle.irig_timekeeper.proofs.LifeLaws.{TellAlwaysTruly}
use Rattle.irig_timekeeper.proofs.EvenLaws.{AreEvenAlways}

-- a time near a second of the clock is near that of UTC
near_utc : (t : TimelineValue) (edges own : ℕ → ℕ) (off far end : ℕ) (claim : Claim) → (is : IsTrueNear t own (0 + far) (0 + far) end claim) → IsNear edges off off (is.second + 1) (own (is.second + 1)) → IsTrueNear t edges (off + far) (off + far) end claim
near_utc t edges own off far end claim is near = record {
  second = is.second;
  near = record { least = omega (arith, near.least, is.near.least); most = omega (arith, near.most, is.near.most) };
  truth = is.truth;
}

module _ (off : ℕ) (c : ClockRules) (rules : Rules) (t : TimelineValue) (edges : ℕ → ℕ) where
  pub clocks_are_true : (half now end : ℕ) (pulses : List Pulse) (claim : Claim) → IsTrueByItsClock off c.within.us c.drift_us rules t edges now pulses → IsFrameOf c rules claim half end pulses → now ≤ end + 100000
      → IsTrueNear t edges (off + end_off_us c.within.us c.drift_us) (off + end_off_us c.within.us c.drift_us) end claim
  clocks_are_true half now end pulses claim is frame soon =
      let own = frame_is_true c.within rules t c.drift_us is.own is.steady c half now end pulses claim is.truth frame soon in
      near_utc t edges is.own off (end_off_us c.within.us c.drift_us) end claim (record { second = own.second; near = record { least = omega (arith, own.near.least); most = omega (arith, own.near.most) }; truth = own.truth }) (is.near (own.second + 1))

  pub clocks_tell_truly : TellAlwaysTruly (IsTrueByItsClock off c.within.us c.drift_us rules t edges) c rules t edges off off
  clocks_tell_truly now half end pulses claim is frame soon =
      let far : ℕ = half + element_drift c.drift_us in
      let own = true_by_any c rules t c.drift_us is.own half now end pulses claim is.steady is.truth frame soon in
      near_utc t edges is.own off far end claim own (is.near (own.second + 1))

-- a line that is true by the seconds of UTC is one whose clock is right
pub right_clock : (off within d : ℕ) (rules : Rules) (t : TimelineValue) (edges : ℕ → ℕ) → IsQuartz d edges → (now : ℕ) (pulses : List Pulse) → IsTrueLately within rules t edges now pulses → IsTrueByItsClock off within d rules t edges now pulses
right_clock off within d rules t edges steady now pulses is = record { own = edges; steady = steady; near = λ n. record { least = omega arith; most = omega arith }; truth = is }

-- ---- clocks that are no further off than they say

module _ (c : ClockRules) (rules : Rules) (t : TimelineValue) (edges : ℕ → ℕ) where
  pub qualities_tell_truly : TellAlwaysTruly (IsTrueByItsQuality c rules t edges) c rules t edges 0 0
  qualities_tell_truly now half end pulses claim is frame soon =
      let s : List Symbol = symbols_of_last 100 (drop frame.late pulses) in
      let framed = frame_is_framed c.within rules t c.drift_us is.own is.steady now end pulses claim is.truth frame.late frame.on_time frame.last frame.carries soon in
      let near = near_utc t edges is.own (quality_us (quality_in s)) (end_off_us c.within.us c.drift_us) end claim (record { second = framed.near.second; near = record { least = omega (arith, framed.near.near.least); most = omega (arith, framed.near.near.most) }; truth = framed.near.truth }) (is.near framed.near.second s frame.carries.reads.len framed.stand frame.votes) in
      let wide : half ≡ c.within.us - 1 + quality_us (quality_in s) = frame.says ∙ half_is c (quality_in s) frame.votes in
      record {
        second = near.second;
        near = record { least = omega (arith, near.near.least, wide); most = omega (arith, near.near.most, wide) };
        truth = near.truth;
      }

-- their frames are even
pub qualities_are_even : (c : ClockRules) (rules : Rules) (t : TimelineValue) (edges : ℕ → ℕ) → AreEvenAlways (IsTrueByItsQuality c rules t edges) c.within.us c.drift_us
qualities_are_even c rules t edges now end pulses is late on last soon = frame_is_even c.within rules t c.drift_us is.own is.steady now end pulses is.truth late on last soon

-- a clock that is right is no further off than it says, whatever it says
pub right_quality : (c : ClockRules) (rules : Rules) (t : TimelineValue) (edges : ℕ → ℕ) → IsQuartz c.drift_us edges → (now : ℕ) (pulses : List Pulse) → IsTrueLately c.within.us rules t edges now pulses → IsTrueByItsQuality c rules t edges now pulses
right_quality c rules t edges steady now pulses is = record { own = edges; steady = steady; truth = is; near = λ f s long stand votes. record { least = omega arith; most = omega arith } }
