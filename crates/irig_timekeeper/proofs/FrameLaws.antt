-- A frame that a line has sent whole is kept until a tick takes it.
use Rattle.std.specs.Prelude.{◌==◌, ◌&&◌, nat_lt, nat_le}
use Rattle.std.proofs.Common.{◌≡◌, ◌∙◌, ◌⊎◌, ℕ, zero, suc, ◌+◌, ◌-◌, ◌*◌, ◌/◌, ◌%◌, ◌^◌, ◌<◌, ◌≤◌, Bool, true, false, cond, List, [], ◌∷◌, ◌++◌, drop, length, length-append, Option, Some, None, refl, sym, ap, subst, arith, inl, inr}
use Rattle.std.proofs.lemmas.Bool.{cases_Bool, eqb-true, eqb-false}
use Rattle.irig_frame.specs.declared.symbol.Symbol.{Symbol}
use Rattle.irig_frame.specs.FieldTable.{is_marker_place}
use Rattle.irig_sync.specs.Edges.{element_at, second_long}
use Rattle.irig_sync.specs.Sync.{is_marker, is_marker_symbol, is_on_time, place_at, place_of, flag}
use Rattle.irig_sync.specs.Lines.{Pulse, IsTrueLine, IsTimeOf, place_after}
use Rattle.irig_sync.specs.FaultyLines.{IsPulseOf, ArePulsesBefore}
use Rattle.irig_sync.proofs.LineLaws.{marks, step_at, on_time_is, place_at_time}
use Rattle.irig_sync.proofs.EdgeLaws.{next_apart}
use Rattle.irig_sync.specs.Sync.{clock_gap}
use Rattle.irig_sync.specs.Lines.{pulse_at, IsAfter, IsSoon, symbols_of_last}
use Rattle.irig_time.specs.declared.rules.Rules.{Rules}
use Rattle.irig_time.specs.declared.claim.Claim.{Claim}
use Rattle.irig_time.specs.Timelines.{TimelineValue, IsTrueClaim}
use Rattle.irig_port.specs.declared.told.Told.{Told}
use Rattle.irig_port.specs.declared.told.Told.TheVariants as tells
use Rattle.irig_port.specs.Limits.{told_within, quality_in}
use Rattle.irig_port.specs.Hearing.{heard_at, heard_of_last}
use Rattle.irig_port.proofs.RunLaws.{holds_place}
use Rattle.irig_lines.specs.declared.setup.ClockRules.{ClockRules}
use Rattle.irig_lines.specs.Lines.{rise_before}
use Rattle.irig_lines.specs.declared.lines.KeptFrame.{KeptFrame}
use Rattle.irig_lines.specs.declared.lines.KeptClaim.{KeptClaim}
use Rattle.irig_lines.specs.declared.lines.Line.{Line}
use Rattle.irig_lines.specs.declared.lines.Lines.{Lines}
use Rattle.irig_lines.specs.declared.lines.Vote.{Vote}
use Rattle.irig_lines.specs.declared.within.Within.{Within}
use Rattle.irig_timekeeper.specs.declared.clock.ClockState.{ClockState}
use Rattle.irig_lines.specs.Counting.{is_late, edges_own}
use Rattle.irig_lines.specs.Steps.{is_pulse, is_even, line_at, line_heard, frame_behind, still_kept, settled, claim_told, claim_kept}
use Rattle.irig_timekeeper.specs.Clock.{clock_by, settled_at}
use Rattle.irig_timekeeper.specs.Keeping.{Keeping, place_told, heard_by, heard_then, vote_at, after_pulse, after_tick}
use Rattle.irig_timekeeper.specs.Life.{Call, after_calls, pulses_on, last_tick, HaveRisen, AreInOrder}
use Rattle.irig_timekeeper.specs.Life.Call.{Hear, Tick}
use Rattle.irig_timekeeper.proofs.VoteLaws.{frame_settled, claim_of_even}
use Rattle.irig_timekeeper.proofs.LifeLaws.{AreLinesAt, IsLineAt, line_soon, lines_after, line_same, own_pulses, others_pulses, no_pulse, has_risen, unheard}
use Rattle.irig_lines.proofs.WholeLaws.{begin_here, whole_of, AreSorted, whole_here, not_whole, whole_apart, whole_by}
use Rattle.irig_timekeeper.proofs.OrderLaws.{five, own_pulse, others_pulse}
use Rattle.irig_lines.specs.Edges.{IsQuartz}
use Rattle.irig_lines.specs.Exactness.{end_off_us, uneven_us}
use Rattle.irig_lines.specs.Widths.{half_us, widest_us}
use Rattle.irig_lines.proofs.WidthLaws.{half_most}
use Rattle.irig_timekeeper.specs.Announcing.{LeavesTheFirst, IsWhole}
use Rattle.irig_lines.proofs.LineLaws.{clock_of}

-- ---- the places of a whole frame

module _ (within : Within) (d : ℕ) (edges : ℕ → ℕ) (quartz : IsQuartz d edges) (line : ℕ → Symbol) (right : IsTrueLine line) (f : ℕ) (rest : List Pulse) (leaves : LeavesTheFirst within.us (edges f) rest) where
  marker_of : (k : ℕ) (p : Pulse) → IsPulseOf line edges within.us k p → is_marker p.width ≡ is_marker_place (k % 100)
  marker_of k p is = ap is_marker_symbol is.1 ∙ marks line right k

  first_marker : is_marker_place 0 ≡ true
  first_marker = refl

  -- its first pulse begins it
  first_place : (p : Pulse) → IsPulseOf line edges within.us (100 * f) p → place_after (p ∷ rest) ≡ 1
  first_place p is = of rest leaves
    where
      zero_place : 100 * f % 100 ≡ 0
      zero_place = omega arith

      frame_is : 100 * f / 100 ≡ f
      frame_is = omega arith

      marker : is_marker p.width ≡ true
      marker = marker_of (100 * f) p is ∙ ap is_marker_place zero_place

      begins : element_at edges (100 * f) ≡ edges f
      begins = rw (frame_is, zero_place) (omega arith)

      by : (on was : Bool) (place : ℕ) → (was ≡ true) ⊎ (on ≡ false) → place_at on true was place ≡ 1
      by on true place e = refl
      by true false place (inl e) = absurd cc
      by true false place (inr e) = absurd cc
      by false false place e = refl

      late : (g : ℕ) → 11000 ≤ g → is_on_time g ≡ false
      late g h = grind (arith, h)

      of : (rest : List Pulse) → LeavesTheFirst within.us (edges f) rest → place_after (p ∷ rest) ≡ 1
      of [] leaves = ap flag marker
      of (q ∷ qs) leaves =
          ap (λ (b : Bool). place_at (is_on_time (p.rise - q.rise)) b (is_marker q.width) (place_after (q ∷ qs))) marker
          ∙ by (is_on_time (p.rise - q.rise)) (is_marker q.width) (place_after (q ∷ qs)) (elim leaves [
            | inl was ↦ inl was
            | inr far ↦ inr (late (p.rise - q.rise) (omega (arith, far, is.0.0, begins)))
          ])

  -- and each goes on
  next_place : (n : ℕ) → n < 99 → (p q : Pulse) (ps : List Pulse) → IsPulseOf line edges within.us (100 * f + suc n) p → IsPulseOf line edges within.us (100 * f + n) q → place_after (q ∷ ps) ≡ n + 1 → place_after (p ∷ (q ∷ ps)) ≡ suc n + 1
  next_place n low p q ps here before at =
      let next : 100 * f + suc n ≡ suc (100 * f + n) = omega arith in
      let gap = next_apart d within.us edges (clock_of within d edges quartz) (100 * f + n) q.rise p.rise before.0 (subst (λ (k : ℕ). IsTimeOf edges within.us k p.rise) next here.0) in
      let on : is_on_time (p.rise - q.rise) ≡ true = (on_time_is (p.rise - q.rise)).1 (omega (arith, gap.0), omega (arith, gap.0, gap.1)) in
      let place : (100 * f + n) % 100 ≡ n = omega (arith, low) in
      let place' : (100 * f + suc n) % 100 ≡ (n + 1) % 100 = omega (arith, low) in
      let is : is_marker p.width ≡ is_marker_place ((n + 1) % 100) = marker_of (100 * f + suc n) p here ∙ ap is_marker_place place' in
      let was : is_marker q.width ≡ is_marker_place n = marker_of (100 * f + n) q before ∙ ap is_marker_place place in
      let inside : (n + 1) % 100 + 1 ≡ suc n + 1 = omega (arith, low) in
      ap (λ (b : Bool). place_at b (is_marker p.width) (is_marker q.width) (place_after (q ∷ ps))) on
      ∙ ap (λ (b : Bool). place_at true b (is_marker q.width) (place_after (q ∷ ps))) is
      ∙ ap (λ (b : Bool). place_at true (is_marker_place ((n + 1) % 100)) b (place_after (q ∷ ps))) was
      ∙ ap (place_at true (is_marker_place ((n + 1) % 100)) (is_marker_place n)) at
      ∙ step_at n (omega (arith, low)) ∙ inside

  frame_place : (n : ℕ) → n < 100 → (p : Pulse) (ps : List Pulse) → length ps ≡ n → ArePulsesBefore line edges within.us (suc (100 * f + n)) (p ∷ ps) → place_after (p ∷ (ps ++ rest)) ≡ n + 1
  frame_place zero low p [] long are =
      let same : 100 * f + 0 ≡ 100 * f = omega arith in
      first_place p (subst (λ (k : ℕ). IsPulseOf line edges within.us k p) same are.0)
  frame_place zero low p (q ∷ ps) long are = absurd cc
  frame_place (suc n) low p [] long are = absurd cc
  frame_place (suc n) low p (q ∷ ps) long are =
      let next : 100 * f + suc n ≡ suc (100 * f + n) = omega arith in
      let tail = subst (λ (k : ℕ). ArePulsesBefore line edges within.us k (q ∷ ps)) next are.1 in
      next_place n (omega (arith, low)) p q (ps ++ rest) are.0 tail.0 (frame_place n (omega (arith, low)) q ps (omega (arith, long)) tail)

-- when the frame of the m-th edge ends that came without an offset: each line's does so less than `within` us off
abbrev pub ends_at : (ℕ → ℕ) → ℕ → ℕ
ends_at edges m = edges (m - 1) + second_long edges (m - 1) * 99 / 100 + 10000

-- so the hundredth of a whole frame has that place, and rose an element before the edge
pub record EndsWhole (within d : ℕ) (edges : ℕ → ℕ) (m : ℕ) (pulses : List Pulse) : Type 0 where
  pub p : Pulse
  pub ps : List Pulse
  pub are : pulses ≡ p ∷ ps
  pub place : place_after (p ∷ ps) ≡ 100
  pub least : edges m ≤ p.rise + 10000 + end_off_us within d
  pub most : p.rise + 10000 ≤ edges m + end_off_us within d
  pub close_least : ends_at edges m ≤ p.rise + 10000 + (within - 1)
  pub close_most : p.rise + 10000 ≤ ends_at edges m + (within - 1)
  pub begins_least : edges (m - 1) < rise_before 99 (p ∷ ps) + within
  pub begins_most : rise_before 99 (p ∷ ps) < edges (m - 1) + within
  pub marker : is_marker p.width ≡ true

-- each of its pulses rises at its time
rise_in : (line : ℕ → Symbol) (edges : ℕ → ℕ) (within n j : ℕ) (frame rest : List Pulse) → n < length frame → ArePulsesBefore line edges within (suc (n + j)) frame → IsTimeOf edges within j (rise_before n (frame ++ rest))
rise_in line edges within n j [] rest less are = absurd (omega (arith, less))
rise_in line edges within zero j (p ∷ ps) rest less are =
    let here : 0 + j ≡ j = omega arith in
    subst (λ (k : ℕ). IsTimeOf edges within k p.rise) here are.0.0
rise_in line edges within (suc n) j (p ∷ ps) rest less are =
    let next : suc n + j ≡ suc (n + j) = omega arith in
    rise_in line edges within n j ps rest (omega (arith, less)) (subst (λ (k : ℕ). ArePulsesBefore line edges within k ps) next are.1)

pub ends_whole : (c : ClockRules) (rules : Rules) (t : TimelineValue) (d : ℕ) (edges : ℕ → ℕ) (m : ℕ) (pulses : List Pulse) → IsQuartz d edges → (w : IsWhole c rules t edges m pulses) → EndsWhole c.within.us d edges m pulses
ends_whole c rules t d edges m pulses quartz w = of w.frame w.parts w.hundred w.are
  where
    within : Within
    within = c.within

    of : (frame : List Pulse) → pulses ≡ frame ++ w.earlier → length frame ≡ 100 → ArePulsesBefore w.line edges within.us (100 * w.f + 100) frame → EndsWhole within.us d edges m pulses
    of [] parts hundred are = absurd cc
    of (p ∷ ps) parts hundred are =
        let next : 100 * w.f + 100 ≡ suc (100 * w.f + 99) = omega arith in
        let are' = subst (λ (k : ℕ). ArePulsesBefore w.line edges within.us k (p ∷ ps)) next are in
        let long : length ps ≡ 99 = omega (arith, hundred) in
        let frame : (100 * w.f + 99) / 100 ≡ w.f = omega arith in
        let place : (100 * w.f + 99) % 100 ≡ 99 = omega arith in
        let last : element_at edges (100 * w.f + 99) ≡ edges w.f + second_long edges w.f * 99 / 100 = rw (frame, place) refl in
        let edge : edges m ≡ edges (w.f + 1) = ap edges w.here in
        let before : m - 1 ≡ w.f = omega (arith, w.here) in
        let ends : ends_at edges m ≡ edges w.f + second_long edges w.f * 99 / 100 + 10000 = rw before refl in
        let count : 100 * w.f + 100 ≡ suc (99 + 100 * w.f) = omega arith in
        let first = rise_in w.line edges within.us 99 (100 * w.f) (p ∷ ps) w.earlier (omega (arith, hundred)) (subst (λ (k : ℕ). ArePulsesBefore w.line edges within.us k (p ∷ ps)) count are) in
        let frame_0 : 100 * w.f / 100 ≡ w.f = omega arith in
        let place_0 : 100 * w.f % 100 ≡ 0 = omega arith in
        let begins : element_at edges (100 * w.f) ≡ edges w.f = rw (frame_0, place_0) (omega arith) in
        let begin : edges (m - 1) ≡ edges w.f = ap edges before in
        record {
          p = p;
          ps = ps ++ w.earlier;
          are = parts;
          place = frame_place within d edges quartz w.line w.right w.f w.earlier w.first 99 (omega arith) p ps long are';
          least = omega (arith, edge, last, are'.0.0.0, quartz.steady.most w.f, within.some);
          most = omega (arith, edge, last, are'.0.0.1, quartz.steady.least w.f, within.some);
          close_least = omega (arith, ends, last, are'.0.0.0, within.some);
          close_most = omega (arith, ends, last, are'.0.0.1, within.some);
          begins_least = omega (arith, begin, begins, first.0);
          begins_most = omega (arith, begin, begins, first.1);
          marker = marker_of within d edges quartz w.line w.right w.f w.earlier w.first (100 * w.f + 99) p are'.0 ∙ ap is_marker_place place;
        }

-- ---- it is kept

-- what rose so is even
both_so : (g u : ℕ) → 990000 ≤ g + u → g ≤ 990000 + u → (nat_le 990000 (g + u) && nat_le g (990000 + u)) ≡ true
both_so g u least most = grind (arith, least, most)

pub even_by : (c : ClockRules) (begin rise : ℕ) → c.drift_us ≤ 100 → begin + 990000 ≤ rise + uneven_us c.within.us c.drift_us → rise ≤ begin + 990000 + uneven_us c.within.us c.drift_us → is_even c (begin % 2 ^ 32) (rise % 2 ^ 32) ≡ true
even_by c begin rise few least most =
    let gap : clock_gap (begin % 2 ^ 32) (rise % 2 ^ 32) ≡ rise - begin = omega (arith, few, c.within.few, least, most) in
    rw gap (both_so (rise - begin) (uneven_us c.within.us c.drift_us) (omega (arith, few, c.within.few, least)) (omega (arith, few, c.within.few, least, most)))

-- a whole frame rose so
even_whole : (within : Within) (d : ℕ) (edges : ℕ → ℕ) → IsQuartz d edges → (m begin rise : ℕ) → edges (m - 1) < begin + within.us → begin < edges (m - 1) + within.us → ends_at edges m ≤ rise + 10000 + (within.us - 1) → rise + 10000 ≤ ends_at edges m + (within.us - 1)
    → (begin + 990000 ≤ rise + uneven_us within.us d) × (rise ≤ begin + 990000 + uneven_us within.us d)
even_whole within d edges quartz m begin rise begun begins ended ends =
    let long_least = quartz.steady.least (m - 1) in
    let long_most = quartz.steady.most (m - 1) in
    (omega (arith, begins, ended, long_least, long_most, within.some), omega (arith, begun, ends, long_least, long_most, within.some))

pub in_time : (end now : ℕ) → end ≤ now + 14000 → now ≤ end + 100000 → is_late (end % 2 ^ 32) (now % 2 ^ 32) ≡ false
in_time end now ahead soon =
    let gap : (clock_gap (end % 2 ^ 32) (now % 2 ^ 32) + 14000) % 2 ^ 32 ≡ now + 14000 - end = omega (arith, ahead, soon) in
    rw gap (few (now + 14000 - end) (omega (arith, ahead, soon)))
  where
    few : (g : ℕ) → g ≤ 114000 → nat_lt 114000 g ≡ false
    few g h = grind (arith, h)

end_told : (told : Told) (end half : ℕ) (y : KeptClaim) → claim_told told end half ≡ Some y → end ≡ y.end_us
end_told (tells.Claim c) end half y e = cc
end_told tells.Silence end half y e = absurd cc
end_told (tells.Fault f) end half y e = absurd cc
end_told (tells.Poor q) end half y e = absurd cc

pub stays_kept : (c : ClockRules) (clock : ℕ) (frame : Option KeptFrame) (y : KeptClaim) → claim_kept c frame ≡ Some y → is_late y.end_us clock ≡ false → claim_kept c (still_kept clock frame) ≡ Some y
stays_kept c clock None y e late = absurd cc
stays_kept c clock (Some x) y e late =
    let same : is_late x.end_us clock ≡ false = ap (λ (end : ℕ). is_late end clock) (end_told x.told x.end_us (half_us c x.quality) y (claim_of_even c x y e).1) ∙ late in
    rw same e

-- no tick of these calls, which came behind those, has a vote from this time on
abbrev pub HaveNoVotes : Keeping → ℕ → List Call → List Call → Type 0
HaveNoVotes new from [] older = Unit {0}
HaveNoVotes new from (Hear port rise width ∷ later) older = HaveNoVotes new from later older
HaveNoVotes new from (Tick now ∷ later) older = (from ≤ now → vote_at (after_calls new (later ++ older)) (now % 2 ^ 32) ≡ None) × HaveNoVotes new from later older

-- a tick without a vote settles the lines
settles : (k : Keeping) (clock : ℕ) → vote_at k clock ≡ None → (after_tick k clock).state.lines ≡ settled clock k.state.lines
settles k clock e = of (vote_at k clock) e
  where
    either : (b : Bool) (x y : ClockState) (lines : Lines) → x.lines ≡ lines → y.lines ≡ lines → (cond b x y).lines ≡ lines
    either true x y lines p q = p
    either false x y lines p q = q

    of : (o : Option Vote) → o ≡ None → (clock_by k.clock k.table (settled_at k.clock k.state clock) clock o).lines ≡ settled clock k.state.lines
    of (Some x) e = absurd cc
    of None e = either (edges_own (settled_at k.clock k.state clock).pace k.state.edge_us clock == 0) _ _ _ refl refl

module _ (t : TimelineValue) (edges : ℕ → ℕ) (new : Keeping) (quartz : IsQuartz new.clock.drift_us edges) (start : ℕ) (begun : AreLinesAt new new (λ i. []) start start) (i : ℕ) (small : i < 5) (m : ℕ) (older : List Call) (told : ℕ) (risen : HaveRisen told older) (past : told + 11000 < edges m) where
  abbrev kept_claim : List Call → Option KeptClaim
  kept_claim calls = claim_kept new.clock (line_at (after_calls new calls).state.lines i).frame

  -- the line keeps the whole frame
  pub record Keeps (calls : List Call) : Type 0 where
    pub claim : Claim
    pub truth : IsTrueClaim t m claim
    pub end : ℕ
    pub half : ℕ
    pub keeps : kept_claim calls ≡ Some (record { claim = claim; end_us = end % 2 ^ 32; half_us = half })
    pub half_of : (new.clock.within.us - 1 ≤ half) × (half ≤ widest_us new.clock)
    pub least : edges m ≤ end + end_off_us new.clock.within.us new.clock.drift_us
    pub most : end ≤ edges m + end_off_us new.clock.within.us new.clock.drift_us
    pub close_least : ends_at edges m ≤ end + (new.clock.within.us - 1)
    pub close_most : end ≤ ends_at edges m + (new.clock.within.us - 1)
    pub is : end ≡ whole_of (pulses_on i calls)

  -- by a tick to come it ends an element and 4 ms ahead at most
  pub ended : (calls : List Call) (now : ℕ) → AreInOrder start new.clock.redundancy (Tick now ∷ calls) → whole_of (pulses_on i calls) ≤ now + 14000
  ended calls now order = let low = whole_by (pulses_on i calls) (now + 4000) ((lines_after new start begun calls now order).lines i small).sorted (order.2 i) in omega (arith, low)

  -- a pulse of another line, or none
  passes : (call : Call) (calls : List Call) → kept_claim (call ∷ calls) ≡ kept_claim calls → pulses_on i (call ∷ calls) ≡ pulses_on i calls → Keeps calls → Keeps (call ∷ calls)
  passes call calls same pulses k = record {
    claim = k.claim;
    truth = k.truth;
    end = k.end;
    half = k.half;
    half_of = k.half_of;
    keeps = same ∙ k.keeps;
    least = k.least;
    most = k.most;
    close_least = k.close_least;
    close_most = k.close_most;
    is = k.is ∙ ap whole_of (sym pulses);
  }

  -- the hundredth
  module _ (port rise width : ℕ) (calls : List Call) (now : ℕ) (order : AreInOrder start new.clock.redundancy (Tick now ∷ (Hear port rise width ∷ calls))) (narrow : is_pulse width ≡ true) (same : (i == port) ≡ true)
      (w : IsWhole new.clock new.rules t edges m (pulses_on i (Hear port rise width ∷ calls))) (ends : EndsWhole new.clock.within.us new.clock.drift_us edges m (pulses_on i (Hear port rise width ∷ calls))) where
    abbrev k : Keeping
    k = after_calls new calls

    abbrev line : Line
    line = line_at k.state.lines i

    abbrev pulses : List Pulse
    pulses = pulses_on i calls

    abbrev p : Pulse
    p = pulse_at rise width

    at : i ≡ port
    at = eqb-true i port same

    on : pulses_on i (Hear port rise width ∷ calls) ≡ p ∷ pulses
    on = own_pulses i port rise width calls narrow same

    both : p ∷ pulses ≡ ends.p ∷ ends.ps
    both = sym on ∙ ends.are

    head : p ≡ ends.p
    head = let e = both in cc

    hundred : place_after (p ∷ pulses) ≡ 100
    hundred = ap place_after both ∙ ends.place

    all : AreLinesAt new k (λ i. pulses_on i calls) (last_tick start calls) now
    all = lines_after new start begun calls now (unheard start new.clock.redundancy port rise width now calls order)

    l : IsLineAt k.clock k.rules (heard_by k.heard i) line pulses (last_tick start calls) now
    l = all.lines i small

    after : IsAfter pulses rise
    after = subst (λ (j : ℕ). IsAfter (pulses_on j calls) rise) (sym at) (order.3.1 narrow).0

    soon : IsSoon l.told rise
    soon = line_soon rise l (has_risen port rise width (now + 4000) calls order.2 narrow) order.1 (after, (order.3.1 narrow).1)

    place : place_of line.sync (rise % 2 ^ 32) width ≡ place_after (p ∷ pulses)
    place = place_at_time line.sync pulses l.told rise width l.hearing.sync after soon

    -- so the pulse is told to be the hundredth
    pub place_is : place_told k port (rise % 2 ^ 32) width ≡ 100
    place_is = rw narrow (ap (λ (j : ℕ). place_of (line_at k.state.lines j).sync (rise % 2 ^ 32) width) (sym at) ∙ place ∙ hundred)

    long : 100 ≤ length (p ∷ pulses)
    long =
        let parts : length (p ∷ pulses) ≡ length w.frame + length w.earlier = ap length (sym on ∙ w.parts) ∙ length-append w.frame w.earlier in
        omega (arith, parts, w.hundred)

    heard : heard_then k i (rise % 2 ^ 32) width ≡ symbols_of_last 100 (p ∷ pulses)
    heard =
        ap (λ (s : List Symbol). heard_at (place_of line.sync (rise % 2 ^ 32) width) s width) l.all
        ∙ ap (λ (n : ℕ). heard_at n (heard_of_last (length pulses) pulses) width) place
        ∙ holds_place (suc (length pulses)) (p ∷ pulses) (omega (arith, hundred)) (omega (arith, hundred, long))
        ∙ ap (λ (n : ℕ). symbols_of_last n (p ∷ pulses)) hundred

    tells_it : told_within (Some k.clock.limits.limits) k.rules (heard_then k i (rise % 2 ^ 32) width) ≡ tells.Claim w.claim
    tells_it =
        ap (λ (r : Rules). told_within (Some k.clock.limits.limits) r (heard_then k i (rise % 2 ^ 32) width)) all.same.rules
        ∙ ap (λ (c : ClockRules). told_within (Some c.limits.limits) new.rules (heard_then k i (rise % 2 ^ 32) width)) all.same.clock
        ∙ ap (told_within (Some new.clock.limits.limits) new.rules) (heard ∙ ap (symbols_of_last 100) (sym on)) ∙ w.tells

    own_line : line_at (after_pulse k port (rise % 2 ^ 32) width).state.lines i ≡ line_heard k.clock line (rise % 2 ^ 32) width (told_within (Some k.clock.limits.limits) k.rules (heard_then k i (rise % 2 ^ 32) width)) (quality_in (heard_then k i (rise % 2 ^ 32) width))
    own_line =
        subst (λ (j : ℕ). line_at (after_pulse k j (rise % 2 ^ 32) width).state.lines i ≡ line_heard k.clock line (rise % 2 ^ 32) width (told_within (Some k.clock.limits.limits) k.rules (heard_then k i (rise % 2 ^ 32) width)) (quality_in (heard_then k i (rise % 2 ^ 32) width))) at
        (rw narrow (line_same k.state.lines i _ small))

    -- it is even
    even : is_even k.clock line.begin_us (rise % 2 ^ 32) ≡ true
    even =
        let begin : line.begin_us ≡ rise_before 99 (p ∷ pulses) % 2 ^ 32 = begin_here line.begin_us 98 p pulses l.begins hundred in
        let same_begin : rise_before 99 (p ∷ pulses) ≡ rise_before 99 (ends.p ∷ ends.ps) = ap (rise_before 99) both in
        let rises : rise ≡ ends.p.rise = ap (λ (q : Pulse). q.rise) head in
        let rose = even_whole new.clock.within new.clock.drift_us edges quartz m (rise_before 99 (p ∷ pulses)) rise (omega (arith, same_begin, ends.begins_least)) (omega (arith, same_begin, ends.begins_most)) (omega (arith, rises, ends.close_least)) (omega (arith, rises, ends.close_most)) in
        subst (λ (c : ClockRules). is_even c line.begin_us (rise % 2 ^ 32) ≡ true) (sym all.same.clock)
        (ap (λ (b : ℕ). is_even new.clock b (rise % 2 ^ 32)) begin ∙ even_by new.clock (rise_before 99 (p ∷ pulses)) rise quartz.few rose.0 rose.1)

    kept_then : (c : ClockRules) (begin place rise : ℕ) (told : Told) (quality : ℕ) (frame : Option KeptFrame) (claim : Claim) → place ≡ 100 → told ≡ tells.Claim claim → is_even c begin (rise % 2 ^ 32) ≡ true → claim_kept new.clock (frame_behind c place begin (rise % 2 ^ 32) told quality frame) ≡ Some (record { claim = claim; end_us = (rise + 10000) % 2 ^ 32; half_us = half_us new.clock quality })
    kept_then c begin place rise told quality frame claim whole says even =
        let wrap : (rise % 2 ^ 32 + 10000) % 2 ^ 32 ≡ (rise + 10000) % 2 ^ 32 = omega arith in
        rw (whole, says, even) (ap (λ (end : ℕ). Some (record { claim = claim; end_us = end; half_us = half_us new.clock quality })) wrap)

    keeps_whole : Keeps (Hear port rise width ∷ calls)
    keeps_whole =
        let rises : rise ≡ ends.p.rise = ap (λ (q : Pulse). q.rise) head in
        record {
          claim = w.claim;
          truth = w.truth;
          end = rise + 10000;
          half = half_us new.clock (quality_in (heard_then k i (rise % 2 ^ 32) width));
          half_of = (omega arith, half_most new.clock (quality_in (heard_then k i (rise % 2 ^ 32) width)));
          keeps = ap (λ (x : Line). claim_kept new.clock x.frame) own_line ∙ kept_then k.clock line.begin_us (place_of line.sync (rise % 2 ^ 32) width) rise (told_within (Some k.clock.limits.limits) k.rules (heard_then k i (rise % 2 ^ 32) width)) (quality_in (heard_then k i (rise % 2 ^ 32) width)) line.frame w.claim (place ∙ hundred) tells_it even;
          least = omega (arith, rises, ends.least);
          most = omega (arith, rises, ends.most);
          close_least = omega (arith, rises, ends.close_least);
          close_most = omega (arith, rises, ends.close_most);
          is = sym (ap whole_of on ∙ whole_here p pulses hundred);
        }

  -- what is too wide is no pulse
  passes_wide : (port rise width : ℕ) (calls : List Call) → is_pulse width ≡ false → claim_kept new.clock (line_at (after_pulse (after_calls new calls) port rise width).state.lines i).frame ≡ kept_claim calls
  passes_wide port rise width calls wide = rw wide refl

  -- a tick without a vote
  ticks_on : (calls : List Call) (now : ℕ) → AreInOrder start new.clock.redundancy (Tick now ∷ calls) → now ≤ edges m + 98000 → vote_at (after_calls new calls) (now % 2 ^ 32) ≡ None → Keeps calls → Keeps (Tick now ∷ calls)
  ticks_on calls now order upto none k =
      let clock : ℕ = now % 2 ^ 32 in
      let late = in_time k.end now (omega (arith, k.is, ended calls now order)) (omega (arith, k.least, upto, quartz.few, new.clock.within.few)) in
      let lines = ap (λ (x : Lines). (line_at x i).frame) (settles (after_calls new calls) clock none) ∙ frame_settled clock (after_calls new calls).state.lines i small in
      record {
        claim = k.claim;
        truth = k.truth;
        end = k.end;
        half = k.half;
        half_of = k.half_of;
        keeps = ap (claim_kept new.clock) lines ∙ stays_kept new.clock clock (line_at (after_calls new calls).state.lines i).frame (record { claim = k.claim; end_us = k.end % 2 ^ 32; half_us = k.half }) k.keeps late;
        least = k.least;
        most = k.most;
        close_least = k.close_least;
        close_most = k.close_most;
        is = k.is;
      }

  -- a pulse behind it, which is no frame's last: it rose too soon
  module _ (port rise width : ℕ) (calls : List Call) (now : ℕ) (order : AreInOrder start new.clock.redundancy (Tick now ∷ (Hear port rise width ∷ calls))) (narrow : is_pulse width ≡ true) (same : (i == port) ≡ true) (upto : now ≤ edges m + 98000) (k : Keeps calls) where
    keeps_late : Keeps (Hear port rise width ∷ calls)
    keeps_late =
        let at : i ≡ port = eqb-true i port same in
        let pulses : List Pulse = pulses_on i calls in
        let p : Pulse = pulse_at rise width in
        let l = (lines_after new start begun calls now (unheard start new.clock.redundancy port rise width now calls order)).lines i small in
        let after : IsAfter pulses rise = subst (λ (j : ℕ). IsAfter (pulses_on j calls) rise) (sym at) (order.3.1 narrow).0 in
        let risen = has_risen port rise width (now + 4000) calls order.2 narrow in
        let soon : IsSoon l.told rise = line_soon rise l risen order.1 (after, (order.3.1 narrow).1) in
        let place : place_of (line_at (after_calls new calls).state.lines i).sync (rise % 2 ^ 32) width ≡ place_after (p ∷ pulses) = place_at_time (line_at (after_calls new calls).state.lines i).sync pulses l.told rise width l.hearing.sync after soon in
        let inside : ¬ (place_after (p ∷ pulses) ≡ 100) = λ ends. (let far = whole_apart p pulses (after, l.sorted) ends in absurd (omega (arith, far, k.is, k.least, risen, upto, quartz.few, new.clock.within.few))) in
        record {
          claim = k.claim;
          truth = k.truth;
          end = k.end;
          half = k.half;
          half_of = k.half_of;
          keeps = ap (claim_kept new.clock) (own_pulse (after_calls new calls) port i (rise % 2 ^ 32) width small narrow at (λ ends. inside (sym place ∙ ends))) ∙ k.keeps;
          least = k.least;
          most = k.most;
          close_least = k.close_least;
          close_most = k.close_most;
          is = k.is ∙ sym (ap whole_of (own_pulses i port rise width calls narrow same) ∙ not_whole p pulses inside);
        }

  -- the frame was told, and then so many pulses
  abbrev pub Whole : ℕ → List Pulse → Type 0
  Whole late pulses = IsWhole new.clock new.rules t edges m (drop late pulses)

  drop_more : (late : ℕ) (p : Pulse) (ps : List Pulse) → drop (suc late) (p ∷ ps) ≡ drop late ps
  drop_more late p ps = refl

  drop_none : (late : ℕ) (ps : List Pulse) → ps ≡ [] → drop late ps ≡ []
  drop_none zero ps e = e
  drop_none (suc late) [] e = refl
  drop_none (suc late) (p ∷ ps) e = absurd cc

  -- what was told before rose too early to be its last
  pub not_before : (late : ℕ) (ps : List Pulse) → AreSorted ps → IsAfter ps told → ¬ Whole late ps
  not_before zero ps sorted after w =
      let ends = ends_whole new.clock new.rules t new.clock.drift_us edges m ps quartz w in
      absurd (let rose = subst (λ (x : List Pulse). IsAfter x told) ends.are after in omega (arith, rose, ends.least, past, quartz.few, new.clock.within.few))
  not_before (suc late) [] sorted after w =
      let ends = ends_whole new.clock new.rules t new.clock.drift_us edges m [] quartz w in
      absurd (let none = ends.are in cc)
  not_before (suc late) (p ∷ ps) sorted after w = not_before late ps sorted.1 (earlier ps p.rise sorted.0 after) w
    where
      earlier : (qs : List Pulse) (rise : ℕ) → IsAfter qs rise → rise ≤ told → IsAfter qs told
      earlier [] rise after on = tt
      earlier (q ∷ qs) rise after on = omega (arith, after, on)

  pub whole_kept : (later : List Call) (now : ℕ) → AreInOrder start new.clock.redundancy (Tick now ∷ (later ++ older)) → HaveNoVotes new (edges m - 17000) later older → now ≤ edges m + 98000 → (late : ℕ) → Whole late (pulses_on i (later ++ older)) → Keeps (later ++ older)
  whole_kept [] now order none upto late w = absurd (not_before late (pulses_on i older) ((lines_after new start begun older now order).lines i small).sorted (risen i) w)
  whole_kept (Tick time ∷ later) now order none upto late w =
      let before = whole_kept later time order.3 none.1 (omega (arith, order.0, upto)) late w in
      let end = ended (later ++ older) time order.3 in
      ticks_on (later ++ older) time order.3 (omega (arith, order.0, upto)) (none.0 (omega (arith, before.is, before.least, end, quartz.few, new.clock.within.few))) before
  whole_kept (Hear port rise width ∷ later) now order none upto late w = elim (cases_Bool (i == port)) [
    | inr other ↦
        let same = others_pulses i port rise width (later ++ older) other in
        let before = whole_kept later now (unheard start new.clock.redundancy port rise width now (later ++ older) order) none upto late (subst (Whole late) same w) in
        let line = others_pulse (after_calls new (later ++ older)) port i (rise % 2 ^ 32) width (omega (arith, order.3.0, five new.clock.redundancy)) small (eqb-false i port other) in
        passes (Hear port rise width) (later ++ older) (ap (λ (x : Line). claim_kept new.clock x.frame) line) same before
    | inl same ↦ elim (cases_Bool (is_pulse width)) [
      | inr wide ↦
          let none_more = no_pulse i port rise width (later ++ older) wide in
          let before = whole_kept later now (unheard start new.clock.redundancy port rise width now (later ++ older) order) none upto late (subst (Whole late) none_more w) in
          passes (Hear port rise width) (later ++ older) (passes_wide port (rise % 2 ^ 32) width (later ++ older) wide) none_more before
      | inl narrow ↦ by narrow same late w (λ late w. whole_kept later now (unheard start new.clock.redundancy port rise width now (later ++ older) order) none upto late w)
    ]
  ]
    where
      by : is_pulse width ≡ true → (i == port) ≡ true → (late : ℕ) → Whole late (pulses_on i (Hear port rise width ∷ (later ++ older))) → ((late : ℕ) → Whole late (pulses_on i (later ++ older)) → Keeps (later ++ older)) → Keeps (Hear port rise width ∷ (later ++ older))
      by narrow same zero w kept = keeps_whole port rise width (later ++ older) now order narrow same w (ends_whole new.clock new.rules t new.clock.drift_us edges m _ quartz w)
      by narrow same (suc late) w kept =
          let on = own_pulses i port rise width (later ++ older) narrow same in
          let before = kept late (subst (λ (ps : List Pulse). Whole (suc late) ps) on w) in
          keeps_late port rise width (later ++ older) now order narrow same upto before
