-- What is true of the seconds that ended at the edges that a device told, and of what it says of its
-- lines by them.
-- Source: this project's profile.
use Rattle.std.specs.Prelude.{◌≡◌, ℕ, ◌+◌, ◌*◌, ◌%◌, ◌^◌, ◌≤◌, ◌⊎◌, Bool, true, false, List, Some, drop}
use Rattle.irig_sync.specs.Lines.{Pulse, AreOnTime, IsIdle, symbols_of_last}
use Rattle.irig_time.specs.declared.rules.Rules.{Rules}
use Rattle.irig_time.specs.declared.claim.Claim.{Claim}
use Rattle.irig_time.specs.Carries.{Carries}
use Rattle.irig_time.specs.Timelines.{TimelineValue, IsSecond}
use Rattle.irig_timekeeper.specs.declared.stamp.Announced.{Announced}
use Rattle.irig_lines.specs.declared.setup.ClockRules.{ClockRules}
use Rattle.irig_timekeeper.specs.declared.clock.ClockState.{ClockState}
use Rattle.irig_timekeeper.specs.declared.states.LineState.{LineState}
use Rattle.irig_timekeeper.specs.declared.states.LineState.TheVariants as is
use Rattle.irig_lines.specs.Edges.{IsNear}
use Rattle.irig_lines.specs.Exactness.{most_vote_us, most_held_us}
use Rattle.irig_lines.specs.Widths.{half_us}
use Rattle.irig_sync.specs.Edges.{element_drift}
use Rattle.irig_port.specs.Limits.{quality_in}
use Rattle.irig_lines.specs.Lines.{AreEven, IsLastBefore}

-- the second that ended at a told edge is T(n), and that edge lies no further from the one of T(n + 1)
-- than its bound
pub record IsEndedTruly (t : TimelineValue) (edges : ℕ → ℕ) (a : Announced) (n edge : ℕ) : Type 0 where
  pub truth : IsSecond t n a.second
  pub clock : a.edge_us ≡ edge % 2 ^ 32
  pub near : IsNear edges a.bound_us a.bound_us (n + 1) edge
  pub small : a.bound_us ≤ most_vote_us + most_held_us

-- a hundred pulses in a row, each but the first on time behind the one before, carry the claim, and say
-- such a quality; the last of them rose an element before that time, and so many pulses came behind it.
-- The time lies at most 1.5 s before a tick
pub record IsSentFrame (rules : Rules) (tick : ℕ) (claim : Claim) (quality end late : ℕ)
    (pulses : List Pulse) : Type 0 where
  pub on_time : AreOnTime 100 (drop late pulses)
  pub carries : Carries rules (symbols_of_last 100 (drop late pulses)) claim
  pub says : quality_in (symbols_of_last 100 (drop late pulses)) ≡ quality
  pub last : IsLastBefore end (drop late pulses)
  pub soon : tick ≤ end + 1500000

-- ---- what states say

-- by such a state a line's last frame is said to be false
abbrev pub is_false : LineState → Bool
is_false is.Silent = false
is_false is.Broken = false
is_false is.Faulty = false
is_false is.Uneven = false
is_false is.Poor = false
is_false is.Unjudged = false
is_false is.Agreed = false
is_false is.Apart = true
is_false is.Differed = true

-- the same, or to be uneven
abbrev pub is_untrue : LineState → Bool
is_untrue is.Uneven = true
is_untrue is.Silent = false
is_untrue is.Broken = false
is_untrue is.Faulty = false
is_untrue is.Poor = false
is_untrue is.Unjudged = false
is_untrue is.Agreed = false
is_untrue is.Apart = true
is_untrue is.Differed = true

-- a line sent a false frame: the second that it claims ends nowhere near the frame's end, so that a
-- true line's frame could have ended there
pub record HasSentFalsely (c : ClockRules) (rules : Rules) (t : TimelineValue) (edges : ℕ → ℕ)
    (tick : ℕ) (pulses : List Pulse) : Type 0 where
  pub claim : Claim
  pub quality : ℕ
  pub end : ℕ
  pub late : ℕ
  pub sent : IsSentFrame rules tick claim quality end late pulses
  pub never : (n : ℕ)
      → IsNear edges (half_us c quality + element_drift c.drift_us)
      (half_us c quality + element_drift c.drift_us) (n + 1) end
      → ¬ IsSecond t n claim.at

-- it sent one whose last pulse does not rise 990 ms behind its first one
pub record HasSentUnevenly (c : ClockRules) (rules : Rules) (tick : ℕ) (pulses : List Pulse)
    : Type 0 where
  pub claim : Claim
  pub quality : ℕ
  pub end : ℕ
  pub late : ℕ
  pub sent : IsSentFrame rules tick claim quality end late pulses
  pub uneven : ¬ AreEven c.within.us c.drift_us (drop late pulses)

-- it sent a frame of T(n), which ended at one of two told edges; the frame ends as near the edge of
-- T(n + 1) as a true line's may, but for twice the bound of the told edge
pub record HasSentTruly (c : ClockRules) (s : ClockState) (rules : Rules) (t : TimelineValue)
    (edges : ℕ → ℕ) (tick : ℕ) (pulses : List Pulse) : Type 0 where
  pub told : Announced
  pub is_told : (s.ended ≡ Some told) ⊎ (s.ended_before ≡ Some told)
  pub claim : Claim
  pub quality : ℕ
  pub end : ℕ
  pub late : ℕ
  pub sent : IsSentFrame rules tick claim quality end late pulses
  pub n : ℕ
  pub second : IsSecond t n claim.at
  pub near : IsNear edges (half_us c quality + element_drift c.drift_us + 2 * told.bound_us)
      (half_us c quality + element_drift c.drift_us + 2 * told.bound_us) (n + 1) end

-- what is said of a line is so: if its last frame is said to be false, or uneven, it is; if the line is
-- said to agree, that frame claims a true second and ends near its edge; and of a silent one no pulse
-- rose within a second before the tick
pub record IsSaidRightly (c : ClockRules) (s : ClockState) (rules : Rules) (t : TimelineValue)
    (edges : ℕ → ℕ) (tick : ℕ) (pulses : List Pulse) (state : LineState) : Type 0 where
  pub false_one : is_false state ≡ true → HasSentFalsely c rules t edges tick pulses
  pub uneven_one : state ≡ is.Uneven → HasSentUnevenly c rules tick pulses
  pub true_one : state ≡ is.Agreed → HasSentTruly c s rules t edges tick pulses
  pub silent_one : state ≡ is.Silent → IsIdle pulses tick
