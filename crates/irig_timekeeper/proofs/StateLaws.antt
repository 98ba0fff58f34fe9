-- A true line is not said to send what is not true.
use Rattle.std.specs.Prelude.{◌==◌, ◌&&◌, not, nat_lt, nat_le}
use Rattle.std.proofs.Common.{◌≡◌, ◌∙◌, ◌⊎◌, ℕ, ◌+◌, ◌-◌, ◌*◌, ◌%◌, ◌^◌, ◌<◌, ◌≤◌, Bool, true, false, cond, List, ◌∷◌, Option, Some, None, refl, sym, ap, subst, arith, inl, inr}
use Rattle.std.proofs.lemmas.Bool.{cases_Bool, cases_order, eqb-true, eq-eqb, leb-true}
use Rattle.irig_sync.specs.Sync.{clock_gap}
use Rattle.irig_sync.specs.Lines.{Pulse, IsIdle}
use Rattle.irig_time.specs.declared.rules.Rules.{Rules}
use Rattle.irig_time.specs.declared.second.UtcSecond.{UtcSecond}
use Rattle.irig_time.specs.declared.claim.Claim.{Claim}
use Rattle.irig_time.specs.Seconds.{same_second}
use Rattle.irig_time.specs.Timelines.{TimelineValue, IsSecond}
use Rattle.irig_time.proofs.TimeLaws.{one_second, same_second as same_by_parts}
use Rattle.irig_port.specs.declared.told.Told.{Told}
use Rattle.irig_port.specs.declared.told.Told.TheVariants as tells
use Rattle.irig_vote.specs.declared.redundancy.Redundancy.{Redundancy}
use Rattle.irig_lines.specs.declared.lines.KeptFrame.{KeptFrame}
use Rattle.irig_timekeeper.specs.declared.stamp.Announced.{Announced}
use Rattle.irig_timekeeper.specs.declared.states.LineState.{LineState}
use Rattle.irig_timekeeper.specs.declared.states.LineState.TheVariants as is
use Rattle.irig_lines.specs.declared.setup.ClockRules.{ClockRules}
use Rattle.irig_timekeeper.specs.declared.clock.ClockState.{ClockState}
use Rattle.irig_lines.specs.Edges.{IsQuartz, IsNear, IsTrueNear}
use Rattle.irig_lines.specs.Exactness.{end_off_us}
use Rattle.irig_lines.specs.Widths.{half_us}
use Rattle.irig_sync.specs.Edges.{element_drift}
use Rattle.irig_lines.proofs.WidthLaws.{half_most, widest_few}
use Rattle.irig_lines.specs.Lines.{IsTrueLately}
use Rattle.irig_lines.specs.Steps.{line_at}
use Rattle.irig_timekeeper.specs.States.{is_near, state_near, is_later, state_before, state_claiming, state_telling, state_seen, state_of}
use Rattle.irig_timekeeper.specs.LineTruths.{IsEndedTruly, IsSentFrame, is_false, is_untrue, HasSentFalsely, HasSentTruly, IsSaidRightly}
use Rattle.irig_timekeeper.specs.Life.{Call, Made, pulses_on, last_tick, life_of, device_of, AreInOrder, LivesTruly}
use Rattle.irig_timekeeper.specs.Life.Call.{Tick}
use Rattle.irig_lines.proofs.PartLaws.{split}
use Rattle.irig_lines.proofs.LineLaws.{frame_is_framed, frame_is_even}
use Rattle.irig_timekeeper.proofs.LifeLaws.{StepsIn, TellAlwaysTruly, begins, each_new}
use Rattle.irig_timekeeper.proofs.EndedLaws.{IfBefore, IfEndedAt, EndedBy, up_one, up_two, second_one, ends_truly}
use Rattle.irig_timekeeper.proofs.SeenLaws.{IsSeenOf, IfSeen, seen_in}
use Rattle.irig_timekeeper.proofs.HeardLaws.{heard_in}

-- ---- by the clock of 32 bits

low_is : (g w : ℕ) → g ≤ w → nat_le g w ≡ true
low_is g w h = grind (arith, h)

-- an end near an edge is so by the clock, too
pub near_is : (off edge end e f : ℕ) → e ≡ edge % 2 ^ 32 → f ≡ end % 2 ^ 32 → off ≤ 1000000 → end ≤ edge + off → edge ≤ end + off → is_near off e f ≡ true
near_is off edge end e f p q small least most = low_is (clock_gap f ((e + off) % 2 ^ 32)) (2 * off) (gap off edge end e f p q small least most)
  where
    gap : (off edge end e f : ℕ) → e ≡ edge % 2 ^ 32 → f ≡ end % 2 ^ 32 → off ≤ 1000000 → end ≤ edge + off → edge ≤ end + off → clock_gap f ((e + off) % 2 ^ 32) ≤ 2 * off
    gap off edge end e f p q small least most = omega (arith, p, q, small, least, most)

pub near_of : (off edge end e f : ℕ) → e ≡ edge % 2 ^ 32 → f ≡ end % 2 ^ 32 → off ≤ 1000000 → end ≤ edge + 2000000000 → edge ≤ end + 2000000000 → is_near off e f ≡ true → (end ≤ edge + off) × (edge ≤ end + off)
near_of off edge end e f p q small least most near = gap off edge end e f p q small least most (leb-true (clock_gap f ((e + off) % 2 ^ 32)) (2 * off) near)
  where
    gap : (off edge end e f : ℕ) → e ≡ edge % 2 ^ 32 → f ≡ end % 2 ^ 32 → off ≤ 1000000 → end ≤ edge + 2000000000 → edge ≤ end + 2000000000 → clock_gap f ((e + off) % 2 ^ 32) ≤ 2 * off → (end ≤ edge + off) × (edge ≤ end + off)
    gap off edge end e f p q small least most low = (omega (arith, p, q, small, least, most, low), omega (arith, p, q, small, least, most, low))

-- a time half a second behind another is later
pub later_is : (time later e f : ℕ) → e ≡ time % 2 ^ 32 → f ≡ later % 2 ^ 32 → time + 500000 ≤ later → later < time + 2 ^ 31 → is_later e f ≡ true
later_is time later e f p q least most = by (clock_gap e f) (gap time later e f p q least most)
  where
    gap : (time later e f : ℕ) → e ≡ time % 2 ^ 32 → f ≡ later % 2 ^ 32 → time + 500000 ≤ later → later < time + 2 ^ 31 → (500000 ≤ clock_gap e f) × (clock_gap e f < 2 ^ 31)
    gap time later e f p q least most = (omega (arith, p, q, least, most), omega (arith, p, q, least, most))

    by : (g : ℕ) → (500000 ≤ g) × (g < 2 ^ 31) → (not (nat_lt g 500000) && nat_lt g (2 ^ 31)) ≡ true
    by g h = let more = h.0 in let less = h.1 in grind (arith, more, less)

-- ---- what a true frame is said to be

same_is : (u v : UtcSecond) → u ≡ v → same_second u v ≡ true
same_is u v same =
    let day : (u.day == v.day) ≡ true = eq-eqb u.day v.day (ap (λ (x : UtcSecond). x.day) same) in
    let sod : (u.sod == v.sod) ≡ true = eq-eqb u.sod v.sod (ap (λ (x : UtcSecond). x.sod) same) in
    rw (day, sod) refl

same_of : (u v : UtcSecond) → same_second u v ≡ true → u ≡ v
same_of u v same =
    let parts = split (u.day == v.day) (u.sod == v.sod) same in
    same_by_parts u v (eqb-true u.day v.day parts.0) (eqb-true u.sod v.sod parts.1)

module _ (t : TimelineValue) (edges : ℕ → ℕ) (c : ClockRules) (quartz : IsQuartz c.drift_us edges) where
  abbrev off : ℕ → ℕ
  off q = half_us c q + element_drift c.drift_us

  off_few : (q : ℕ) → off q ≤ 1450
  off_few q = (let most = half_most c q in let few = widest_few c in omega (arith, most, few, quartz.few))

  module _ (q : ℕ) where
    -- it agrees with its own edge
    agrees : (a : Announced) (n told f end : ℕ) → IsEndedTruly t edges a n told → f ≡ end % 2 ^ 32 → IsNear edges (off q) (off q) (n + 1) end → state_near c q f a ≡ is.Agreed
    agrees a n told f end ended at near =
        let small = ended.small in
        let close = near_is ((off q) + a.bound_us) told end a.edge_us f ended.clock at (omega (arith, (off_few q), small)) (omega (arith, near.most, ended.near.least)) (omega (arith, near.least, ended.near.most)) in
        rw close refl

    -- the claim of a second that ends near its edge, at most 1.5 s before the clock's last edge and not half an
    -- hour behind it
    module _ (claim : Claim) (f end : ℕ) (at : f ≡ end % 2 ^ 32) (second : ℕ) (close : IsNear edges (off q) (off q) (second + 1) end) (claims : IsSecond t second claim.at) (edge : ℕ) (soon : edge ≤ end + 1500000) (ahead : end ≤ edge + 1810000000) where
      -- of the second before the one that ended
      before_true : (a : Announced) (n told : ℕ) → IsEndedTruly t edges a n told → n ≡ second + 1 → (before : Option Announced) → IfBefore t edges n before → is_untrue (state_before c claim q f a.edge_us before) ≡ false
      before_true a n told ended one None known =
          let rise = up_one c.drift_us edges quartz (second + 1) (n + 1) (omega (arith, one)) in
          let small = ended.small in
          let next : edges (n + 1) ≡ edges (second + 1 + 1) = ap (λ (i : ℕ). edges (i + 1)) one in
          let behind = later_is end told f a.edge_us at ended.clock (omega (arith, rise, close.most, ended.near.least, (off_few q), small)) (omega (arith, next, quartz.steady.most (second + 1), quartz.few, close.least, ended.near.most, (off_few q), small)) in
          rw behind refl
      before_true a n told ended one (Some b) known =
          let same : second ≡ known.0 = omega (arith, one, known.2) in
          let is_same : claim.at ≡ b.second = one_second t known.0 claim.at b.second (subst (λ (i : ℕ). IsSecond t i claim.at) same claims) known.3.truth in
          let own = subst (λ (i : ℕ). IsNear edges (off q) (off q) (i + 1) end) same close in
          rw (same_is claim.at b.second is_same) (ap is_untrue (agrees b known.0 known.1 f end known.3 at own))

      claiming_true : (ended before : Option Announced) → IfEndedAt t edges edge ended before → is_untrue (state_claiming c claim q f ended before) ≡ false
      claiming_true None before h = refl
      claiming_true (Some a) before h = elim (cases_Bool (is_later a.edge_us f)) [
        | inl later ↦ rw later refl
        | inr here ↦ rw here (elim (cases_order second h.n) [
          | inl same ↦
              let is_same : claim.at ≡ a.second = one_second t h.n claim.at a.second (subst (λ (i : ℕ). IsSecond t i claim.at) same claims) h.is.truth in
              rw (same_is claim.at a.second is_same) (ap is_untrue (agrees a h.n h.told f end h.is at (subst (λ (i : ℕ). IsNear edges (off q) (off q) (i + 1) end) same close)))
          | inr (inr more) ↦
              let rise = up_one c.drift_us edges quartz (h.n + 1) (second + 1) (omega (arith, more)) in
              let small = h.is.small in
              let late = later_is h.told end a.edge_us f h.is.clock at (omega (arith, rise, close.least, h.is.near.most, (off_few q), small)) (omega (arith, ahead, h.here.least, h.here.most, h.is.near.least, h.is.near.most, small)) in
              absurd (let both : true ≡ false = sym late ∙ here in cc)
          | inr (inl less) ↦ elim (cases_Bool (same_second claim.at a.second)) [
            | inl same ↦
                let is_same : claim.at ≡ a.second = same_of claim.at a.second same in
                let one = second_one t second h.n a.second (subst (IsSecond t second) is_same claims) h.is.truth in
                absurd (omega (arith, one, less))
            | inr other ↦ rw other (elim (cases_order h.n (second + 1)) [
              | inl one ↦ before_true a h.n h.told h.is one before h.before
              | inr (inl below) ↦ absurd (omega (arith, less, below))
              | inr (inr beyond) ↦
                  let rise = up_two c.drift_us edges quartz (second + 1) (h.n + 1) (omega (arith, beyond)) in
                  absurd (omega (arith, rise, close.most, (off_few q), h.here.least, soon))
            ])
          ]
        ])
      ]

  -- a frame of a right clock ends no further off than it may by its quality
  wider : (q end : ℕ) (claim : Claim) → IsTrueNear t edges (end_off_us c.within.us c.drift_us) (end_off_us c.within.us c.drift_us) end claim → IsTrueNear t edges (off q) (off q) end claim
  wider q end claim near = record { second = near.second; near = record { least = omega (arith, near.near.least); most = omega (arith, near.near.most) }; truth = near.truth }

  -- so a true line's frame
  seen_true : (rules : Rules) (pulses : List Pulse) (tick now : ℕ) → now + 504000 < tick + 1800000000 → IsTrueLately c.within.us rules t edges (tick - 1500000) pulses
      → (o : Option ℕ) (ended before : Option Announced) → EndedBy t edges tick o ended before → (heard : Bool) (seen : Option KeptFrame) → IfSeen c rules tick now pulses seen → is_untrue (state_seen c heard seen ended before) ≡ false
  seen_true rules pulses tick now half line o ended before ends heard None h = by heard
    where
      by : (b : Bool) → is_untrue (cond b is.Broken is.Silent) ≡ false
      by true = refl
      by false = refl
  seen_true rules pulses tick now half line o ended before ends heard (Some f) h = tells_so f.told refl
    where
      claimed : (claim : Claim) → f.told ≡ tells.Claim claim → is_untrue (cond f.is_even (state_claiming c claim f.quality f.end_us ended before) is.Uneven) ≡ false
      claimed claim told =
          let s = h claim told in
          let soon : tick - 1500000 ≤ s.end + 100000 = omega (arith, s.soon) in
          let even = frame_is_even c.within rules t c.drift_us edges quartz (tick - 1500000) s.end pulses line s.late s.on_time s.last soon in
          let near = (frame_is_framed c.within rules t c.drift_us edges quartz (tick - 1500000) s.end pulses claim line s.late s.on_time s.last s.carries soon).near in
          rw (s.even even) (by_edge claim s (wider f.quality s.end claim near) o ended ends)
        where
          by_edge : (claim : Claim) (s : IsSeenOf c rules claim f tick now pulses) (near : IsTrueNear t edges (off f.quality) (off f.quality) s.end claim) (o : Option ℕ) (ended : Option Announced) → EndedBy t edges tick o ended before → is_untrue (state_claiming c claim f.quality f.end_us ended before) ≡ false
          by_edge claim s near None ended none = ap (λ (e : Option Announced). is_untrue (state_claiming c claim f.quality f.end_us e before)) none
          by_edge claim s near (Some e) ended there =
              let m = near.truth.second in
              let same : m.0 ≡ near.second = omega (arith, m.1) in
              claiming_true f.quality claim f.end_us s.end s.at near.second near.near (subst (λ (i : ℕ). IsSecond t i claim.at) same m.2) there.0 (omega (arith, there.1.come, s.soon)) (omega (arith, s.ahead, half, there.1.soon)) ended before there.2

      tells_so : (told : Told) → f.told ≡ told → is_untrue (state_telling c told f.is_even f.quality f.end_us ended before) ≡ false
      tells_so tells.Silence e = refl
      tells_so (tells.Fault x) e = refl
      tells_so (tells.Poor q) e = refl
      tells_so (tells.Claim claim) e = claimed claim e

  -- ---- what is said of a frame

  module _ (q : ℕ) where
    -- no frame that claims a second is uneven
    near_even : (f : ℕ) (a : Announced) → ¬ (state_near c q f a ≡ is.Uneven)
    near_even f a e = by (is_near ((off q) + a.bound_us) a.edge_us f) e
      where
        by : (b : Bool) → ¬ (cond b is.Agreed is.Apart ≡ is.Uneven)
        by true e = cc
        by false e = cc

    before_even : (claim : Claim) (f edge : ℕ) (before : Option Announced) → ¬ (state_before c claim q f edge before ≡ is.Uneven)
    before_even claim f edge None e = by (is_later f edge) e
      where
        by : (b : Bool) → ¬ (cond b is.Unjudged is.Differed ≡ is.Uneven)
        by true e = cc
        by false e = cc
    before_even claim f edge (Some a) e = by (same_second claim.at a.second) e
      where
        by : (b : Bool) → ¬ (cond b (state_near c q f a) is.Differed ≡ is.Uneven)
        by true e = near_even f a e
        by false e = cc

    claiming_even : (claim : Claim) (f : ℕ) (ended before : Option Announced) → ¬ (state_claiming c claim q f ended before ≡ is.Uneven)
    claiming_even claim f None before e = cc
    claiming_even claim f (Some a) before e = by (is_later a.edge_us f) (same_second claim.at a.second) e
      where
        by : (b same : Bool) → ¬ (cond b is.Unjudged (cond same (state_near c q f a) (state_before c claim q f a.edge_us before)) ≡ is.Uneven)
        by true same e = cc
        by false true e = near_even f a e
        by false false e = before_even claim f a.edge_us before e

    -- nor silent
    claiming_heard : (claim : Claim) (f : ℕ) (ended before : Option Announced) → ¬ (state_claiming c claim q f ended before ≡ is.Silent)
    claiming_heard claim f None before e = cc
    claiming_heard claim f (Some a) before e = by (is_later a.edge_us f) (same_second claim.at a.second) e
      where
        near : (a : Announced) (b : Bool) → ¬ (cond b is.Agreed is.Apart ≡ is.Silent)
        near a true e = cc
        near a false e = cc

        unknown : (b : Bool) → ¬ (cond b is.Unjudged is.Differed ≡ is.Silent)
        unknown true e = cc
        unknown false e = cc

        before_heard : (o : Option Announced) → ¬ (state_before c claim q f a.edge_us o ≡ is.Silent)
        before_heard None e = unknown (is_later f a.edge_us) e
        before_heard (Some b) e = other (same_second claim.at b.second) e
          where
            other : (same : Bool) → ¬ (cond same (state_near c q f b) is.Differed ≡ is.Silent)
            other true e = near b (is_near ((off q) + b.bound_us) b.edge_us f) e
            other false e = cc

        by : (b same : Bool) → ¬ (cond b is.Unjudged (cond same (state_near c q f a) (state_before c claim q f a.edge_us before)) ≡ is.Silent)
        by true same e = cc
        by false true e = near a (is_near ((off q) + a.bound_us) a.edge_us f) e
        by false false e = before_heard before e

    -- one that agrees does so with a told edge
    Agrees : Claim → ℕ → Announced → Type 0
    Agrees claim f a = (same_second claim.at a.second ≡ true) × (is_near ((off q) + a.bound_us) a.edge_us f ≡ true)

    agreed_near : (claim : Claim) (f : ℕ) (a : Announced) → same_second claim.at a.second ≡ true → state_near c q f a ≡ is.Agreed → Agrees claim f a
    unfolding Agrees
    agreed_near claim f a same e = by (is_near ((off q) + a.bound_us) a.edge_us f) refl e
      where
        by : (b : Bool) → is_near ((off q) + a.bound_us) a.edge_us f ≡ b → cond b is.Agreed is.Apart ≡ is.Agreed → (same_second claim.at a.second ≡ true) × (is_near ((off q) + a.bound_us) a.edge_us f ≡ true)
        by true near e = (same, near)
        by false far e = absurd cc

    agreed_before : (claim : Claim) (f edge : ℕ) (before : Option Announced) → state_before c claim q f edge before ≡ is.Agreed → (b : Announced) × (before ≡ Some b) × Agrees claim f b
    agreed_before claim f edge None e = absurd (by (is_later f edge) e)
      where
        by : (b : Bool) → ¬ (cond b is.Unjudged is.Differed ≡ is.Agreed)
        by true e = cc
        by false e = cc
    agreed_before claim f edge (Some a) e = by (same_second claim.at a.second) refl e
      where
        by : (b : Bool) → same_second claim.at a.second ≡ b → cond b (state_near c q f a) is.Differed ≡ is.Agreed → (b : Announced) × (Some a ≡ Some b) × Agrees claim f b
        by true same e = (a, refl, agreed_near claim f a same e)
        by false other e = absurd cc

    agreed_claiming : (claim : Claim) (f : ℕ) (a : Announced) (before : Option Announced) → state_claiming c claim q f (Some a) before ≡ is.Agreed → Agrees claim f a ⊎ ((b : Announced) × (before ≡ Some b) × Agrees claim f b)
    agreed_claiming claim f a before e = by (is_later a.edge_us f) (same_second claim.at a.second) refl e
      where
        by : (b same : Bool) → same_second claim.at a.second ≡ same → cond b is.Unjudged (cond same (state_near c q f a) (state_before c claim q f a.edge_us before)) ≡ is.Agreed → Agrees claim f a ⊎ ((b : Announced) × (before ≡ Some b) × Agrees claim f b)
        by true same at e = absurd cc
        by false true at e = inl (agreed_near claim f a at e)
        by false false at e = inr (agreed_before claim f a.edge_us before e)

    false_untrue : (state : LineState) → is_false state ≡ true → is_untrue state ≡ false → ⊥
    false_untrue is.Silent p q = cc
    false_untrue is.Broken p q = cc
    false_untrue is.Faulty p q = cc
    false_untrue is.Uneven p q = cc
    false_untrue is.Poor p q = cc
    false_untrue is.Unjudged p q = cc
    false_untrue is.Agreed p q = cc
    false_untrue is.Apart p q = cc
    false_untrue is.Differed p q = cc

    -- such a frame ends near the edge of what it claims
    ends_near : (claim : Claim) (f end : ℕ) (at : f ≡ end % 2 ^ 32) (a : Announced) (n told : ℕ) → IsEndedTruly t edges a n told → Agrees claim f a → end ≤ told + 2000000000 → told ≤ end + 2000000000
        → IsSecond t n claim.at × IsNear edges ((off q) + 2 * a.bound_us) ((off q) + 2 * a.bound_us) (n + 1) end
    unfolding Agrees
    ends_near claim f end at a n told ended agrees least most =
        let small = ended.small in
        let close = near_of ((off q) + a.bound_us) told end a.edge_us f ended.clock at (omega (arith, (off_few q), small)) least most agrees.1 in (
          subst (IsSecond t n) (sym (same_of claim.at a.second agrees.0)) ended.truth,
          record { least = omega (arith, close.1, ended.near.least); most = omega (arith, close.0, ended.near.most) },
        )

  module _ (rules : Rules) (pulses : List Pulse) (tick now : ℕ) (half : now + 504000 < tick + 1800000000) (s : ClockState) (ends : EndedBy t edges tick s.edge_us s.ended s.ended_before) where
    abbrev Rightly : LineState → Type 0
    Rightly state = IsSaidRightly c s rules t edges tick pulses state

    sent_of : (claim : Claim) (f : KeptFrame) (w : IsSeenOf c rules claim f tick now pulses) → IsSentFrame rules tick claim f.quality w.end w.late pulses
    sent_of claim f w = record { on_time = w.on_time; carries = w.carries; says = w.says; last = w.last; soon = w.soon }

    module _ (claim : Claim) (f : KeptFrame) (w : IsSeenOf c rules claim f tick now pulses) where
      falsely : is_false (state_claiming c claim f.quality f.end_us s.ended s.ended_before) ≡ true → HasSentFalsely c rules t edges tick pulses
      falsely e = record {
        claim = claim;
        quality = f.quality;
        end = w.end;
        late = w.late;
        sent = sent_of claim f w;
        never = λ n close claims. false_untrue f.quality (state_claiming c claim f.quality f.end_us s.ended s.ended_before) e (by n close claims s.edge_us s.ended s.ended_before ends);
      }
        where
          by : (n : ℕ) → IsNear edges (off f.quality) (off f.quality) (n + 1) w.end → IsSecond t n claim.at → (o : Option ℕ) (ended before : Option Announced) → EndedBy t edges tick o ended before → is_untrue (state_claiming c claim f.quality f.end_us ended before) ≡ false
          by n close claims None ended before none = ap (λ (e : Option Announced). is_untrue (state_claiming c claim f.quality f.end_us e before)) none
          by n close claims (Some e) ended before there = claiming_true f.quality claim f.end_us w.end w.at n close claims there.0 (omega (arith, there.1.come, w.soon)) (omega (arith, w.ahead, half, there.1.soon)) ended before there.2

      truly : state_claiming c claim f.quality f.end_us s.ended s.ended_before ≡ is.Agreed → HasSentTruly c s rules t edges tick pulses
      truly e = by s.edge_us s.ended s.ended_before refl refl ends e
        where
          made : (a : Announced) → (s.ended ≡ Some a) ⊎ (s.ended_before ≡ Some a) → (n : ℕ) → IsSecond t n claim.at × IsNear edges (off f.quality + 2 * a.bound_us) (off f.quality + 2 * a.bound_us) (n + 1) w.end → HasSentTruly c s rules t edges tick pulses
          made a is n near = record { told = a; is_told = is; claim = claim; quality = f.quality; end = w.end; late = w.late; sent = sent_of claim f w; n = n; second = near.0; near = near.1 }

          by : (o : Option ℕ) (ended before : Option Announced) → s.ended ≡ ended → s.ended_before ≡ before → EndedBy t edges tick o ended before → state_claiming c claim f.quality f.end_us ended before ≡ is.Agreed → HasSentTruly c s rules t edges tick pulses
          by None ended before p q none e = absurd (let both : is.Unjudged ≡ is.Agreed = subst (λ (x : Option Announced). state_claiming c claim f.quality f.end_us x before ≡ is.Agreed) none e in cc)
          by (Some x) None before p q there e = absurd cc
          by (Some x) (Some a) before p q there e =
              let h = there.2 in
              let at = there.1 in
              let small = h.is.small in
              elim (agreed_claiming f.quality claim f.end_us a before e) [
                | inl agrees ↦
                    made a (inl p) h.n
                    (ends_near f.quality claim f.end_us w.end w.at a h.n h.told h.is agrees
                    (omega (arith, w.ahead, half, at.soon, h.here.most, h.is.near.least, small)) (omega (arith, w.soon, at.come, h.here.least, h.is.near.most, small)))
                | inr other ↦
                    let b = other.0 in
                    let known = subst (IfBefore t edges h.n) other.1 h.before in
                    let small_before = known.3.small in
                    let next : edges (h.n + 1) ≡ edges (known.0 + 1 + 1) = ap (λ (i : ℕ). edges (i + 1)) known.2 in
                    made b (inr (q ∙ other.1)) known.0
                    (ends_near f.quality claim f.end_us w.end w.at b known.0 known.1 known.3 other.2
                    (omega (arith, w.ahead, half, at.soon, h.here.most, next, quartz.steady.most (known.0 + 1), quartz.few, known.3.near.least, small_before))
                    (omega (arith, w.soon, at.come, h.here.least, next, quartz.steady.least (known.0 + 1), quartz.few, known.3.near.most, small_before)))
              ]

      even_rightly : (b : Bool) → f.is_even ≡ b → Rightly (cond b (state_claiming c claim f.quality f.end_us s.ended s.ended_before) is.Uneven)
      even_rightly true even = record { false_one = falsely; uneven_one = λ e. absurd (claiming_even f.quality claim f.end_us s.ended s.ended_before e); true_one = truly; silent_one = λ e. absurd (claiming_heard f.quality claim f.end_us s.ended s.ended_before e) }
      even_rightly false odd = record {
        false_one = λ e. absurd cc;
        uneven_one = λ e. record { claim = claim; quality = f.quality; end = w.end; late = w.late; sent = sent_of claim f w; uneven = λ even. let both : true ≡ false = sym (w.even even) ∙ odd in cc };
        true_one = λ e. absurd cc;
        silent_one = λ e. absurd cc;
      }

    seen_rightly : (heard : Bool) → (heard ≡ false → IsIdle pulses tick) → (seen : Option KeptFrame) → IfSeen c rules tick now pulses seen → Rightly (state_seen c heard seen s.ended s.ended_before)
    seen_rightly true idle None h = record { false_one = λ e. absurd cc; uneven_one = λ e. absurd cc; true_one = λ e. absurd cc; silent_one = λ e. absurd cc }
    seen_rightly false idle None h = record { false_one = λ e. absurd cc; uneven_one = λ e. absurd cc; true_one = λ e. absurd cc; silent_one = λ e. idle refl }
    seen_rightly heard idle (Some f) h = tells_so f.told refl
      where
        tells_so : (told : Told) → f.told ≡ told → Rightly (state_telling c told f.is_even f.quality f.end_us s.ended s.ended_before)
        tells_so tells.Silence e = record { false_one = λ e. absurd cc; uneven_one = λ e. absurd cc; true_one = λ e. absurd cc; silent_one = λ e. absurd cc }
        tells_so (tells.Fault x) e = record { false_one = λ e. absurd cc; uneven_one = λ e. absurd cc; true_one = λ e. absurd cc; silent_one = λ e. absurd cc }
        tells_so (tells.Poor q) e = record { false_one = λ e. absurd cc; uneven_one = λ e. absurd cc; true_one = λ e. absurd cc; silent_one = λ e. absurd cc }
        tells_so (tells.Claim claim) e = even_rightly claim f (h claim e) f.is_even refl

-- ---- a life

-- a line that was true since 2.7 s before the last tick, whatever the others are of which the life asks nothing
pub true_line : (IsTrue : Rules → TimelineValue → (ℕ → ℕ) → ℕ → List Pulse → Type 0) (t : TimelineValue) (edges : ℕ → ℕ) (made : Made) (start now : ℕ) (calls : List Call) → LivesTruly IsTrue t edges made start calls
    → TellAlwaysTruly (IsTrue made.rules t edges) made.clock made.rules t edges 0 0 → StepsIn edges 0 0 (device_of made) start calls → AreInOrder start made.clock.redundancy (Tick now ∷ calls)
    → (i : ℕ) → i < 5 → IsTrueLately made.clock.within.us made.rules t edges (last_tick start calls - 1500000) (pulses_on i calls) → is_untrue (state_of made.clock (life_of made calls).state i) ≡ false
true_line IsTrue t edges made start now calls lives truly steps order i small line =
    let begun = begins made.rules made.clock made.table made.lines start made.fresh in
    let ends = ends_truly (IsTrue made.rules t edges) t edges (device_of made) start begun lives.is truly refl refl refl calls lives.order lives.truth steps in
    let seen = seen_in (device_of made) start begun lives.is.steady.few i small (each_new made.lines made.fresh i small).seen calls now order in
    let s : ClockState = (life_of made calls).state in
    seen_true t edges made.clock lives.is.steady made.rules (pulses_on i calls) (last_tick start calls) now order.1 line s.edge_us s.ended s.ended_before ends (line_at s.lines i).is_heard (line_at s.lines i).seen seen

-- what is said of any line is so
pub said_rightly : (IsTrue : Rules → TimelineValue → (ℕ → ℕ) → ℕ → List Pulse → Type 0) (t : TimelineValue) (edges : ℕ → ℕ) (made : Made) (start now : ℕ) (calls : List Call) → LivesTruly IsTrue t edges made start calls
    → TellAlwaysTruly (IsTrue made.rules t edges) made.clock made.rules t edges 0 0 → StepsIn edges 0 0 (device_of made) start calls → AreInOrder start made.clock.redundancy (Tick now ∷ calls)
    → (i : ℕ) → i < 5 → IsSaidRightly made.clock (life_of made calls).state made.rules t edges (last_tick start calls) (pulses_on i calls) (state_of made.clock (life_of made calls).state i)
said_rightly IsTrue t edges made start now calls lives truly steps order i small =
    let begun = begins made.rules made.clock made.table made.lines start made.fresh in
    let ends = ends_truly (IsTrue made.rules t edges) t edges (device_of made) start begun lives.is truly refl refl refl calls lives.order lives.truth steps in
    let seen = seen_in (device_of made) start begun lives.is.steady.few i small (each_new made.lines made.fresh i small).seen calls now order in
    let s : ClockState = (life_of made calls).state in
    seen_rightly t edges made.clock lives.is.steady made.rules (pulses_on i calls) (last_tick start calls) now order.1 s ends (line_at s.lines i).is_heard (heard_in (device_of made) start i small (each_new made.lines made.fresh i small) calls lives.order).idle (line_at s.lines i).seen seen

-- a tick could come once more at its time
pub again : (start : ℕ) (r : Redundancy) (now : ℕ) (calls : List Call) → AreInOrder start r (Tick now ∷ calls) → AreInOrder start r (Tick now ∷ (Tick now ∷ calls))
again start r now calls order = (omega arith, omega arith, order.2, order)

-- so it is at a tick
pub true_at_tick : (IsTrue : Rules → TimelineValue → (ℕ → ℕ) → ℕ → List Pulse → Type 0) (t : TimelineValue) (edges : ℕ → ℕ) (made : Made) (start now : ℕ) (calls : List Call) → LivesTruly IsTrue t edges made start (Tick now ∷ calls)
    → TellAlwaysTruly (IsTrue made.rules t edges) made.clock made.rules t edges 0 0 → StepsIn edges 0 0 (device_of made) start (Tick now ∷ calls)
    → (i : ℕ) → i < 5 → IsTrueLately made.clock.within.us made.rules t edges (now - 1500000) (pulses_on i calls) → is_untrue (state_of made.clock (life_of made (Tick now ∷ calls)).state i) ≡ false
true_at_tick IsTrue t edges made start now calls lives truly steps i small line = true_line IsTrue t edges made start now (Tick now ∷ calls) lives truly steps (again start made.clock.redundancy now calls lives.order) i small line
