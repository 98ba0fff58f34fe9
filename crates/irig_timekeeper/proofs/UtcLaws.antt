-- The seconds that a timekeeper announced last are of UTC.
use Rattle.std.proofs.Common.{◌≡◌, subst, Option, Some, None}
use Rattle.std.specs.Prelude.{IfSome}
use Rattle.std.proofs.Math.Logic.{∥∥₁_map}
use Rattle.irig_time.proofs.ValidLaws.{still_valid}
use Rattle.irig_time.specs.Seconds.{IsValid}
use Rattle.irig_vote.specs.Vote.{AreOfUtc, IsOfUtc}
use Rattle.irig_lines.specs.declared.lines.KeptFrame.{KeptFrame}
use Rattle.irig_lines.specs.declared.lines.Lines.{Lines}
use Rattle.irig_lines.specs.Steps.{AreKeptOfUtc, IsKeptOfUtc, frame_tells, tells_of}
use Rattle.irig_timekeeper.specs.Clock.{AnnouncedOfUtc}
use Rattle.irig_timekeeper.specs.declared.clock.ClockState.{ClockState}
use Rattle.irig_timekeeper.specs.declared.stamp.Announced.{Announced}

one_valid : (a : Option Announced) → ∥ IfSome a (λ a. IsValid a.second) ∥₁
    → IfSome a (λ a. IsValid a.second)
one_valid None k = tt
one_valid (Some a) k = still_valid a.second k

pub announced_valid : (s : ClockState) → ∥ AnnouncedOfUtc s ∥₁ → AnnouncedOfUtc s
announced_valid s k = record {
  last = one_valid s.last (∥∥₁_map k (λ v. v.last));
  before = one_valid s.before (∥∥₁_map k (λ v. v.before));
}

-- of another state that announced the same
pub same_announced : (s q : ClockState) → s.last ≡ q.last → s.before ≡ q.before → AnnouncedOfUtc s
    → AnnouncedOfUtc q
same_announced s q last before k = record {
  last = subst (λ (a : Option Announced). IfSome a (λ a. IsValid a.second)) last k.last;
  before = subst (λ (a : Option Announced). IfSome a (λ a. IsValid a.second)) before k.before;
}

-- so is what lines tell that keep such frames
frame_told : (frame : Option KeptFrame) → IsKeptOfUtc frame → IsOfUtc (frame_tells frame)
frame_told None v = tt
frame_told (Some x) v = v

pub told_of_utc : (lines : Lines) → AreKeptOfUtc lines → AreOfUtc (tells_of lines)
told_of_utc lines v = record {
  a = frame_told lines.a.frame v.a;
  b = frame_told lines.b.frame v.b;
  c = frame_told lines.c.frame v.c;
  d = frame_told lines.d.frame v.d;
  e = frame_told lines.e.frame v.e;
}
