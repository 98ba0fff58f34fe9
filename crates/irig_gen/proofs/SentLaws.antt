-- The frames of a generator as functions are the ones that the relations name.
use Rattle.std.proofs.Common.{◌≡◌, ℕ, List, Option, Some, None, refl, sym, ap, ◌∙◌}
use Rattle.std.specs.Option.{option_map}
use Rattle.irig_frame.specs.declared.symbol.Symbol.{Symbol}
use Rattle.irig_time.specs.declared.second.UtcSecond.{UtcSecond}
use Rattle.irig_time.specs.Timelines.{TimelineValue, leap_of, second_at}
use Rattle.irig_time.specs.TimelineFaults.{IsTimeline}
use Rattle.irig_time.proofs.NextLaws.{valid_second}
use Rattle.irig_time.proofs.SecondAt.{second_is}
use Rattle.irig_time.proofs.FrameLaws.{frame_of_second_is}
use Rattle.irig_gen.specs.declared.fault.GenFault.{GenFault}
use Rattle.irig_gen.specs.Faults.{control_with_fault, sent_edge}
use Rattle.irig_gen.specs.Frames.{GeneratorValue, control_at, IsFrameOrNone, IsSentFrom, IsSent}
use Rattle.irig_gen.specs.Refusals.{IsGenerator}
use Rattle.irig_gen.specs.Sent.{frame_with, frame_of, sent_from, sent_of}
use Rattle.irig_gen.specs.Zones.{zone_at}
use Rattle.irig_gen.proofs.GenLaws.{gen_zone_fits, control_fits, faulted_fits, one_frame_by, last_edge}

pub frame_of_is : (fault : Option GenFault) (g : GeneratorValue) (t : TimelineValue) (edge : ℕ) → IsGenerator g → IsTimeline t → IsFrameOrNone fault g t edge (frame_of fault g t edge)
unfolding frame_of
frame_of_is fault g t edge sound line = by_second (second_at t edge) refl
  where
    by_second : (o : Option UtcSecond) → second_at t edge ≡ o → IsFrameOrNone fault g t edge (frame_with fault g t o)
    by_second None e = λ u is. let some = (second_is t edge u).1 is in cc
    by_second (Some u) e =
        let is = (second_is t edge u).0 e in
        let small = gen_zone_fits g u sound in
        let control = control_fits g.rules.sense (zone_at g.zone g.changes u) g.changes (leap_of t.leaps u.day) u small in
        record {
          second = u;
          is = is;
          frame = frame_of_second_is g.rules.parity u (zone_at g.zone g.changes u).half_hours (control_with_fault fault (control_at g t u)) (valid_second t edge u line is) small (faulted_fits fault (control_at g t u) control);
        }

pub sent_of_is : (g : GeneratorValue) (t : TimelineValue) → IsGenerator g → IsTimeline t → IsSent g t (sent_of g t)
unfolding sent_of
sent_of_is g t sound line = by_edge (sent_edge g.fault g.edge g.since)
  where
    by_edge : (e : Option ℕ) → IsSentFrom e g t (sent_from e g t)
    by_edge None = refl
    by_edge (Some edge) = frame_of_is g.fault g t edge sound line

-- ---- one of each

pub one_frame_if : (fault : Option GenFault) (g : GeneratorValue) (t : TimelineValue) (edge : ℕ) (o p : Option (List Symbol)) → IsFrameOrNone fault g t edge o → IsFrameOrNone fault g t edge p → o ≡ p
one_frame_if fault g t edge None None a b = refl
one_frame_if fault g t edge None (Some s) a b = absurd (a b.second b.is)
one_frame_if fault g t edge (Some s) None a b = absurd (b a.second a.is)
one_frame_if fault g t edge (Some s) (Some r) a b = ap (λ (x : List Symbol). let o : Option (List Symbol) = Some x in o) (one_frame_by fault g t edge s r a b)

one_sent_from : (e : Option ℕ) (g : GeneratorValue) (t : TimelineValue) (o p : Option (List Symbol)) → IsSentFrom e g t o → IsSentFrom e g t p → o ≡ p
one_sent_from None g t o p a b = a ∙ sym b
one_sent_from (Some edge) g t o p a b = one_frame_if g.fault g t edge o p a b

pub one_sent : (g : GeneratorValue) (t : TimelineValue) (o p : Option (List Symbol)) → IsSent g t o → IsSent g t p → o ≡ p
one_sent g t o p = one_sent_from (sent_edge g.fault g.edge g.since) g t o p

-- what is the frame of an edge is what the function says
pub frame_of_by : (fault : Option GenFault) (g : GeneratorValue) (t : TimelineValue) (edge : ℕ) (o : Option (List Symbol)) → IsGenerator g → IsTimeline t → IsFrameOrNone fault g t edge o → o ≡ frame_of fault g t edge
frame_of_by fault g t edge o sound line h = one_frame_if fault g t edge o (frame_of fault g t edge) h (frame_of_is fault g t edge sound line)

pub sent_of_by : (g : GeneratorValue) (t : TimelineValue) (o : Option (List Symbol)) → IsGenerator g → IsTimeline t → IsSent g t o → o ≡ sent_of g t
sent_of_by g t o sound line h = one_sent g t o (sent_of g t) h (sent_of_is g t sound line)

-- ---- where there is none

pub no_frame : (fault : Option GenFault) (g : GeneratorValue) (t : TimelineValue) (edge : ℕ) → second_at t edge ≡ None → frame_of fault g t edge ≡ None
unfolding frame_of
no_frame fault g t edge none = ap (frame_with fault g t) none

pub nothing_sent : (g : GeneratorValue) (t : TimelineValue) → option_map last_edge (sent_edge g.fault g.edge g.since) ≡ None → sent_of g t ≡ None
unfolding sent_of
nothing_sent g t none = by_edge (sent_edge g.fault g.edge g.since) none
  where
    by_edge : (e : Option ℕ) → option_map last_edge e ≡ None → sent_from e g t ≡ None
    by_edge None none = refl
    by_edge (Some edge) none = absurd cc
