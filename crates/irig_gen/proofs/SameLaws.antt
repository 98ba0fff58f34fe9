-- Two generators in one state whose clocks show the same of the second send the same.
use Rattle.std.proofs.Common.{◌≡◌, ℕ, ◌^◌, ◌-◌, ◌≤◌, min, Bool, List, Option, Some, None, is_some, ◌&&◌, eqb, refl, sym, ap, ◌∙◌, arith, inl, inr}
use Rattle.std.specs.List.{list_any}
use Rattle.std.specs.Option.{option_map}
use Rattle.std.proofs.lemmas.Bool.{cases_lt}
use Rattle.irig_frame.specs.declared.symbol.Symbol.{Symbol}
use Rattle.irig_time.specs.declared.leap.Leap.{Leap}
use Rattle.irig_time.specs.declared.rules.Rules.{Rules}
use Rattle.irig_time.specs.declared.second.UtcSecond.{UtcSecond}
use Rattle.irig_time.specs.Frames.{frame_of_second}
use Rattle.irig_time.specs.Seconds.{minute_of}
use Rattle.irig_time.specs.Timelines.{TimelineValue, is_deletion, leap_of, second_at}
use Rattle.irig_time.proofs.SecondAt.{second_is}
use Rattle.irig_time.proofs.TimeLaws.{few}
use Rattle.irig_gen.specs.declared.fault.GenFault.{GenFault}
use Rattle.irig_gen.specs.declared.zone.Zone.{Zone}
use Rattle.irig_gen.specs.ControlBits.{ends_minute, offset_sent}
use Rattle.irig_gen.specs.Faults.{control_with_fault, sent_edge}
use Rattle.irig_gen.specs.Frames.{GeneratorValue}
use Rattle.irig_gen.specs.Sent.{ShowSame, frame_with, frame_of, last_sent, sent_from, sent_of}
use Rattle.irig_gen.specs.Zones.{zone_at}
use Rattle.irig_gen.proofs.GenLaws.{last_edge}

-- past 2^64 there is no second
no_second : (t : TimelineValue) (edge : ℕ) → 2 ^ 64 - 1 ≤ edge → second_at t edge ≡ None
no_second t edge far = by_second (second_at t edge) refl
  where
    by_second : (o : Option UtcSecond) → second_at t edge ≡ o → o ≡ None
    by_second None e = refl
    by_second (Some u) e = absurd (omega (arith, few t edge u ((second_is t edge u).0 e), far))

pub second_at_last : (t : TimelineValue) (edge : ℕ) → second_at t (last_edge edge) ≡ second_at t edge
second_at_last t edge =
    elim (cases_lt edge (2 ^ 64)) [
      | inl lt ↦ let same : min edge (2 ^ 64 - 1) ≡ edge = omega arith in ap (second_at t) same
      | inr ge ↦ no_second t (last_edge edge) (omega arith) ∙ sym (no_second t edge (omega arith))
    ]

-- what a frame of a second is made of
abbrev made : Rules → Option GenFault → Zone → Bool → Option Leap → UtcSecond → Option (List Symbol)
made rules fault zone pending leap u =
    Some (frame_of_second rules.parity u zone.half_hours (control_with_fault fault (record {
      leap_pending = is_some leap && eqb (minute_of u) 1439;
      leap_delete = is_deletion leap && eqb (minute_of u) 1439;
      dst_pending = pending;
      dst = zone.dst;
      offset_half_hours = offset_sent rules.sense zone.half_hours;
      quality = 0;
    })))

frame_same : (g h : GeneratorValue) (t : TimelineValue) (u : UtcSecond) → g.fault ≡ h.fault → g.rules ≡ h.rules → ShowSame g h u → frame_with g.fault g t (Some u) ≡ frame_with h.fault h t (Some u)
frame_same g h t u fault rules shows =
    let leap = leap_of t.leaps u.day in
    let pending = list_any (λ x. ends_minute u x.at) g.changes in
    ap (λ (r : Rules). made r g.fault (zone_at g.zone g.changes u) pending leap u) rules
    ∙ ap (λ (f : Option GenFault). made h.rules f (zone_at g.zone g.changes u) pending leap u) fault
    ∙ ap (λ (z : Zone). made h.rules h.fault z pending leap u) shows.zone
    ∙ ap (λ (b : Bool). made h.rules h.fault (zone_at h.zone h.changes u) b leap u) shows.pending

pub sent_same : (g h : GeneratorValue) (t : TimelineValue) → last_sent g ≡ last_sent h → g.fault ≡ h.fault → g.rules ≡ h.rules
    → ((edge : ℕ) (u : UtcSecond) → sent_edge g.fault g.edge g.since ≡ Some edge → second_at t edge ≡ Some u → ShowSame g h u) → sent_of g t ≡ sent_of h t
unfolding sent_of frame_of
sent_same g h t edge fault rules shows =
    by_edges (sent_edge g.fault g.edge g.since) (sent_edge h.fault h.edge h.since) refl edge
  where
    by_second : (k : ℕ) → sent_edge g.fault g.edge g.since ≡ Some k → (o : Option UtcSecond) → second_at t k ≡ o → frame_with g.fault g t o ≡ frame_with h.fault h t o
    by_second k e None none = refl
    by_second k e (Some u) some = frame_same g h t u fault rules (shows k u e some)

    by_edges : (o p : Option ℕ) → sent_edge g.fault g.edge g.since ≡ o → option_map last_edge o ≡ option_map last_edge p → sent_from o g t ≡ sent_from p h t
    by_edges None None e same = refl
    by_edges None (Some b) e same = absurd cc
    by_edges (Some a) None e same = absurd cc
    by_edges (Some a) (Some b) e same =
        let last : last_edge a ≡ last_edge b = cc in
        let here : second_at t a ≡ second_at t b = sym (second_at_last t a) ∙ ap (second_at t) last ∙ second_at_last t b in
        by_second a e (second_at t a) refl ∙ ap (frame_with h.fault h t) here

-- the second of the edge that the code counts
pub at_sent : (t : TimelineValue) (o : Option ℕ) (edge e : ℕ) → o ≡ Some edge → option_map last_edge o ≡ Some e → second_at t e ≡ second_at t edge
at_sent t None edge e sent mapped = absurd cc
at_sent t (Some k) edge e sent mapped =
    let far : last_edge k ≡ e = cc in
    let here : k ≡ edge = cc in
    ap (second_at t) (sym far) ∙ second_at_last t k ∙ ap (second_at t) here
