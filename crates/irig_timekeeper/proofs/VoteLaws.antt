-- An edge on which lines agree is a true vote, if at most f of them were untrue of late.
use Rattle.std.specs.Prelude.{count_by, nat_le, nat_lt, ◌&&◌}
use Rattle.std.proofs.Common.{drop}
use Rattle.std.proofs.Common.{◌≡◌, ◌∙◌, ℕ, zero, suc, ◌+◌, ◌-◌, ◌*◌, ◌/◌, ◌%◌, ◌^◌, ◌<◌, ◌≤◌, Bool, true, false, cond, List, [], ◌∷◌, Option, Some, None, refl, sym, ap, subst, arith, inl, inr}
use Rattle.std.proofs.lemmas.Bool.{cases_lt, ltb-true, ltb-false, leb-true}
use Rattle.irig_sync.specs.Lines.{Pulse}
use Rattle.irig_sync.specs.Edges.{element_drift}
use Rattle.irig_sync.specs.Sync.{clock_gap}
use Rattle.irig_time.specs.declared.rules.Rules.{Rules}
use Rattle.irig_time.specs.declared.claim.Claim.{Claim}
use Rattle.irig_time.specs.Claims.{same_claim}
use Rattle.irig_time.specs.Timelines.{TimelineValue, IsTrueClaim}
use Rattle.irig_vote.proofs.CountLaws.{same_is}
use Rattle.irig_port.specs.declared.told.Told.{Told}
use Rattle.irig_port.specs.declared.told.Told.TheVariants as tells
use Rattle.irig_lines.specs.declared.lines.KeptFrame.{KeptFrame}
use Rattle.irig_lines.specs.declared.lines.KeptClaim.{KeptClaim}
use Rattle.irig_lines.specs.declared.lines.Lines.{Lines}
use Rattle.irig_lines.specs.declared.lines.Vote.{Vote}
use Rattle.irig_lines.specs.declared.setup.ClockRules.{ClockRules}
use Rattle.irig_vote.specs.Vote.{f_of}
use Rattle.irig_lines.specs.Edges.{IsQuartz, IsTrueNear}
use Rattle.irig_lines.specs.Lines.{IsLastBefore, IsFrameOf, IfKept, IsInTurnOf, HasJustCome}
use Rattle.irig_lines.specs.Counting.{is_late, has_come}
use Rattle.irig_lines.specs.Steps.{line_at, still_kept, settled, claim_told, claim_kept, all_kept, first_us, last_us, agrees, is_candidate, place_behind, ends_by, ends_from, agreed, if_come}
use Rattle.irig_timekeeper.specs.Truth.{AreHeardTruly, IsTrueVote}
use Rattle.irig_lines.specs.Exactness.{most_drift_us, most_vote_us}
use Rattle.irig_lines.specs.Widths.{half_us, reach_us, vote_us}
use Rattle.irig_lines.proofs.AgreeLaws.{one_agrees, kept_at, is_one}
use Rattle.irig_lines.proofs.PartLaws.{split, IsHalf, half_kept, each_half, agreeing_is, IsVoteOf, agreed_first, vote_of}
use Rattle.irig_lines.proofs.WidthLaws.{widest_few, reach_few}
use Rattle.irig_lines.proofs.CountingLaws.{rises}

-- ---- what a tick keeps

pub frame_settled : (now : ℕ) (lines : Lines) (i : ℕ) → i < 5 → (line_at (settled now lines) i).frame ≡ still_kept now (line_at lines i).frame
frame_settled now lines zero low = refl
frame_settled now lines (suc zero) low = refl
frame_settled now lines (suc (suc zero)) low = refl
frame_settled now lines (suc (suc (suc zero))) low = refl
frame_settled now lines (suc (suc (suc (suc zero)))) low = refl
frame_settled now lines (suc (suc (suc (suc (suc i))))) low = absurd (omega (arith, low))

end_of_claim : (told : Told) (end half : ℕ) (y : KeptClaim) → claim_told told end half ≡ Some y → end ≡ y.end_us
end_of_claim (tells.Claim c) end half y e = cc
end_of_claim tells.Silence end half y e = absurd cc
end_of_claim (tells.Fault f) end half y e = absurd cc
end_of_claim (tells.Poor q) end half y e = absurd cc

-- a frame is even that has a claim
pub claim_of_even : (c : ClockRules) (x : KeptFrame) (y : KeptClaim) → claim_kept c (Some x) ≡ Some y → (x.is_even ≡ true) × (claim_told x.told x.end_us (half_us c x.quality) ≡ Some y)
claim_of_even c x y e = of x.is_even e
  where
    of : (b : Bool) → cond b (claim_told x.told x.end_us (half_us c x.quality)) None ≡ Some y → (b ≡ true) × (claim_told x.told x.end_us (half_us c x.quality) ≡ Some y)
    of true e = (refl, e)
    of false e = absurd cc

pub still : (c : ClockRules) (now : ℕ) (o : Option KeptFrame) (y : KeptClaim) → claim_kept c (still_kept now o) ≡ Some y → (claim_kept c o ≡ Some y) × (is_late y.end_us now ≡ false)
still c now None y e = absurd cc
still c now (Some x) y e = by (is_late x.end_us now) refl e
  where
    by : (b : Bool) → is_late x.end_us now ≡ b → claim_kept c (cond b None (Some x)) ≡ Some y → (claim_kept c (Some x) ≡ Some y) × (is_late y.end_us now ≡ false)
    by true late e = absurd cc
    by false in_time e = (e, subst (λ (end : ℕ). is_late end now ≡ false) (end_of_claim x.told x.end_us (half_us c x.quality) y (claim_of_even c x y e).1) in_time)

pub come : (now : ℕ) (o : Option Vote) (y : Vote) → if_come now o ≡ Some y → (o ≡ Some y) × (has_come y.edge_us now ≡ true)
come now None y e = absurd cc
come now (Some x) y e = by (has_come x.edge_us now) refl e
  where
    by : (b : Bool) → has_come x.edge_us now ≡ b → cond b (Some x) None ≡ Some y → (Some x ≡ Some y) × (has_come y.edge_us now ≡ true)
    by false ahead e = absurd cc
    by true there e = (e, let same : x ≡ y = cc in subst (λ (v : Vote). has_come v.edge_us now ≡ true) same there)

-- ---- by the clock of 32 bits

pub not_late : (end now : ℕ) → end ≤ now + 14000 → now + 14000 < end + 2 ^ 32 → is_late (end % 2 ^ 32) (now % 2 ^ 32) ≡ false → now ≤ end + 100000
not_late end now order turn e =
    let gap : (clock_gap (end % 2 ^ 32) (now % 2 ^ 32) + 14000) % 2 ^ 32 ≡ now + 14000 - end = omega (arith, order, turn) in
    let most = ltb-false 114000 ((clock_gap (end % 2 ^ 32) (now % 2 ^ 32) + 14000) % 2 ^ 32) e in
    omega (arith, gap, most, order)

few_is : (g : ℕ) → g ≤ 103000 → nat_le g 103000 ≡ true
few_is g h = grind (arith, h)

-- a time so far behind a first time is at this one
pub exact_time : (time first e : ℕ) → time < 2 ^ 32 → e ≡ first % 2 ^ 32 → time ≡ (first + clock_gap e time) % 2 ^ 32
exact_time time first e range at = omega (arith, range, at)

-- what ends by such a time behind this one, and begins so little before it
ends_before : (e e' x y by : ℕ) → e ≡ x % 2 ^ 32 → e' ≡ y % 2 ^ 32 → x ≤ y + 200000 → y ≤ x + 200000 → by ≤ 2898 → (clock_gap e e' + 3000) % 2 ^ 32 ≤ by + 3000 → y ≤ x + by
ends_before e e' x y by p q near far few low = omega (arith, p, q, near, far, few, low)

begins_behind : (e e' x y before : ℕ) → e ≡ x % 2 ^ 32 → e' ≡ y % 2 ^ 32 → x ≤ y + 200000 → y ≤ x + 200000 → before ≤ 2898 → 3000 ≤ (clock_gap e e' + 3000) % 2 ^ 32 + before → (clock_gap e e' + 3000) % 2 ^ 32 < 2 ^ 31 → x ≤ y + before
begins_behind e e' x y before p q near far few high low = omega (arith, p, q, near, far, few, high, low)

-- an edge by the clock has come
edge_come : (edge now : ℕ) → edge ≤ now + 17000 → now ≤ edge + 103000 → clock_gap (edge % 2 ^ 32) (now % 2 ^ 32) ≤ 103000 → (edge ≤ now) × (now ≤ edge + 103000)
edge_come edge now ahead soon few = (omega (arith, ahead, soon, few), omega (arith, ahead, soon, few))

come_edge : (edge now : ℕ) → edge ≤ now → now ≤ edge + 103000 → clock_gap (edge % 2 ^ 32) (now % 2 ^ 32) ≤ 103000
come_edge edge now come soon = omega (arith, come, soon)

-- ---- the vote

pub last_late : (end : ℕ) (ps : List Pulse) → IsLastBefore end ps → 10000 ≤ end
last_late end [] last = absurd last
last_late end (p ∷ ps) last = omega (arith, last)

-- the edge of an end is none behind that of another end near it
not_after : (d : ℕ) (edges : ℕ → ℕ) → IsQuartz d edges → (m n x y : ℕ) → y ≤ edges m + 4452 → edges n ≤ x + 4452 → x ≤ y + 200000 → n ≤ m
not_after d edges quartz m n x y most least near = elim (cases_lt m n) [
  | inr more ↦ more
  | inl less ↦
      let there : m + (n - m) ≡ n = omega (arith, less) in
      let rise = subst (λ (i : ℕ). edges m + (n - m) * 999900 ≤ edges i) there (rises d edges quartz m (n - m)) in
      absurd (omega (arith, rise, less, most, least, near))
]

-- a frame of such a line claims the true second before an edge, and ends as near it as by its quality it
-- may, by a counter that runs d us a second wrong, and at most so much earlier or later
abbrev pub TellsTrulyBy : (List Pulse → Type 0) → ClockRules → (d : ℕ) → Rules → TimelineValue → (ℕ → ℕ) → (early late now : ℕ) → Type 0
TellsTrulyBy IsTrue c d rules t edges early late now =
    (half end : ℕ) (pulses : List Pulse) (claim : Claim) → IsTrue pulses → IsFrameOf c rules claim half end pulses → now ≤ end + 100000 → IsTrueNear t edges (early + (half + element_drift d)) (late + (half + element_drift d)) end claim

-- so by the drift of the setup
abbrev pub TellsTruly : (List Pulse → Type 0) → ClockRules → Rules → TimelineValue → (ℕ → ℕ) → (early late now : ℕ) → Type 0
TellsTruly IsTrue c rules t edges early late now = TellsTrulyBy IsTrue c c.drift_us rules t edges early late now

-- lines claim the true second before an edge, and the edge on which they agree lies so near it, by a
-- counter that runs d us a second wrong: by its bound, but for the drift of an element, and by no more
-- than a vote does
pub record IsVoteNear (c : ClockRules) (d : ℕ) (t : TimelineValue) (edges : ℕ → ℕ) (early late now : ℕ) (v : Vote) : Type 0 where
  pub far : ℕ
  pub told : far + element_drift c.drift_us ≡ v.bound_us + element_drift d
  pub few : far ≤ vote_us c d
  pub edge : ℕ
  pub clock : v.edge_us ≡ edge % 2 ^ 32
  pub truth : IsTrueNear t edges (early + far) (late + far) edge v.claim
  pub come : edge ≤ now
  pub soon : now ≤ edge + 103000

module _ (IsTrue : List Pulse → Type 0) (rules : Rules) (t : TimelineValue) (c : ClockRules) (d : ℕ) (edges : ℕ → ℕ) (quartz : IsQuartz d edges) (early late : ℕ) (room : early + late ≤ 3002) (now : ℕ) (lines : Lines) (pulses : ℕ → List Pulse)
    (tells_truly : TellsTrulyBy IsTrue c d rules t edges early late now) (h : AreHeardTruly IsTrue c rules (f_of c.redundancy) now lines pulses) where
  abbrev clock : ℕ
  clock = now % 2 ^ 32

  abbrev all : List (Option KeptClaim)
  all = all_kept c (settled clock lines)

  -- a frame of a true line that is such
  record IsTrueKept (is_such : Option KeptClaim → Bool) : Type 0 where
    i : ℕ
    low : i < 5
    right : h.untrue i ≡ false
    y : KeptClaim
    keeps : claim_kept c (line_at lines i).frame ≡ Some y
    end : ℕ
    at : y.end_us ≡ end % 2 ^ 32
    frame : IsFrameOf c rules y.claim y.half_us end (pulses i)
    is : is_such (Some y) ≡ true
    ahead : end ≤ now + 14000
    soon : now ≤ end + 100000
    some : 10000 ≤ end

  kept_true : (is_such : Option KeptClaim → Bool) (i : ℕ) → i < 5 → h.untrue i ≡ false → (y : KeptClaim) → claim_kept c (line_at lines i).frame ≡ Some y → is_late y.end_us clock ≡ false → is_such (Some y) ≡ true
      → IfKept (IsInTurnOf now) c rules (Some y) (pulses i) → IsTrueKept is_such
  kept_true is_such i low right y keeps in_time is turn = record {
    i = i;
    low = low;
    right = right;
    y = y;
    keeps = keeps;
    end = turn.0;
    at = turn.1;
    frame = turn.2;
    is = is;
    ahead = turn.3.0;
    soon = not_late turn.0 now turn.3.0 turn.3.1 (subst (λ (e : ℕ). is_late e clock ≡ false) turn.1 in_time);
    some = last_late turn.0 (drop turn.2.late (pulses i)) turn.2.last;
  }

  one_true : (is_such : Option KeptClaim → Bool) → is_such None ≡ false → f_of c.redundancy < count_by is_such all → IsTrueKept is_such
  one_true is_such none many =
      let found = one_agrees h.untrue is_such none 0 all (omega (arith, many, h.few)) in
      let low : found.i < 5 = found.low in
      let keeps = still c clock (line_at lines found.i).frame found.y (ap (claim_kept c) (sym (frame_settled clock lines found.i low)) ∙ kept_at c (settled clock lines) found.i found.y found.keeps) in
      let at : 0 + found.i ≡ found.i = omega arith in
      kept_true is_such found.i low (subst (λ (j : ℕ). h.untrue j ≡ false) at found.true_line) found.y keeps.0 keeps.1 found.same
      (subst (λ (o : Option KeptClaim). IfKept (IsInTurnOf now) c rules o (pulses found.i)) keeps.0 (h.kept found.i low))

  -- how near its edge it ends
  off : (is_such : Option KeptClaim → Bool) (k : IsTrueKept is_such) → ℕ
  off is_such k = k.y.half_us + element_drift d

  near_edge : (is_such : Option KeptClaim → Bool) (k : IsTrueKept is_such) → IsTrueNear t edges (early + off is_such k) (late + off is_such k) k.end k.y.claim
  unfolding off
  near_edge is_such k = tells_truly k.y.half_us k.end (pulses k.i) k.y.claim (h.true_lines k.i k.low k.right) k.frame k.soon

  is_half : (is_such : Option KeptClaim → Bool) (k : IsTrueKept is_such) → IsHalf c k.y
  is_half is_such k = half_kept c (line_at lines k.i).frame k.y k.keeps

  half_few : (is_such : Option KeptClaim → Bool) (k : IsTrueKept is_such) → k.y.half_us ≤ 1449
  half_few is_such k = (let most = (is_half is_such k).1 in let few = widest_few c in omega (arith, most, few))

  off_few : (is_such : Option KeptClaim → Bool) (k : IsTrueKept is_such) → off is_such k ≤ 1450
  unfolding off
  off_few is_such k = (let few = half_few is_such k in omega (arith, few, quartz.few))

  -- its last time, and its first one
  last_at : (is_such : Option KeptClaim → Bool) (k : IsTrueKept is_such) → last_us k.y ≡ (k.end + k.y.half_us) % 2 ^ 32
  last_at is_such k = of k.y.end_us k.at
    where
      of : (e : ℕ) → e ≡ k.end % 2 ^ 32 → (e + k.y.half_us) % 2 ^ 32 ≡ (k.end + k.y.half_us) % 2 ^ 32
      of e at = omega (arith, at)

  first_at : (is_such : Option KeptClaim → Bool) (k : IsTrueKept is_such) → first_us k.y ≡ (k.end - k.y.half_us) % 2 ^ 32
  first_at is_such k = of k.y.end_us k.at
    where
      of : (e : ℕ) → e ≡ k.end % 2 ^ 32 → (e + 2 ^ 32 - k.y.half_us) % 2 ^ 32 ≡ (k.end - k.y.half_us) % 2 ^ 32
      of e at = omega (arith, at, half_few is_such k, k.some)

  -- a candidate, and its last time
  module _ (x : KeptClaim) (counts : is_candidate (f_of c.redundancy) x all ≡ true) where
    one : IsTrueKept (agrees x)
    one = one_true (agrees x) refl (ltb-true (f_of c.redundancy) (count_by (agrees x) all) counts)

    gap : ℕ
    gap = clock_gap (first_us one.y) (last_us x)

    half : ℕ
    half = one.y.half_us

    narrow : half ≤ 1449
    unfolding half
    narrow = half_few (agrees x) one

    near : gap ≤ 2 * half
    unfolding gap half
    near = (agreeing_is x one.y one.is).1

    time : ℕ
    time = one.end - half + gap

    at_time : last_us x ≡ time % 2 ^ 32
    unfolding gap time half
    at_time = exact_time (last_us x) (one.end - one.y.half_us) (first_us one.y) (omega arith) (first_at (agrees x) one)

    ahead : time ≤ now + 15449
    unfolding time
    ahead = omega (arith, one.ahead, near, narrow, one.some)

    soon : now ≤ time + 101449
    unfolding time
    soon = omega (arith, one.soon, narrow, one.some)

    late_enough : 8000 ≤ time
    unfolding time
    late_enough = omega (arith, one.some, narrow)

    module _ (v : Vote) (of : IsVoteOf c all v x) where
      by_then : IsTrueKept (ends_by x of.behind)
      by_then = one_true (ends_by x of.behind) refl of.many_by

      from_then : IsTrueKept (ends_from x of.before)
      from_then = one_true (ends_from x of.before) refl of.many_from

      by_split : (same_claim x.claim by_then.y.claim ≡ true) × (nat_le (place_behind x (last_us by_then.y)) (of.behind + 3000) ≡ true)
      by_split = split (same_claim x.claim by_then.y.claim) (nat_le (place_behind x (last_us by_then.y)) (of.behind + 3000)) by_then.is

      by_half : ℕ
      by_half = by_then.y.half_us

      by_few : by_half ≤ 1449
      unfolding by_half
      by_few = half_few (ends_by x of.behind) by_then

      from_half : ℕ
      from_half = from_then.y.half_us

      from_few : from_half ≤ 1449
      unfolding from_half
      from_few = half_few (ends_from x of.before) from_then

      before : by_then.end + by_half ≤ time + of.behind
      unfolding by_half
      before =
          ends_before (last_us x) (last_us by_then.y) time (by_then.end + by_then.y.half_us) of.behind at_time (last_at (ends_by x of.behind) by_then) (omega (arith, ahead, by_then.soon)) (omega (arith, soon, by_then.ahead, by_few)) (omega (arith, of.behind_most, reach_few c))
          (leb-true (place_behind x (last_us by_then.y)) (of.behind + 3000) by_split.1)

      from_split : (nat_le 3000 (place_behind x (first_us from_then.y) + of.before) ≡ true) × (nat_lt (place_behind x (first_us from_then.y)) (2 ^ 31) ≡ true)
      from_split =
          split (nat_le 3000 (place_behind x (first_us from_then.y) + of.before)) (nat_lt (place_behind x (first_us from_then.y)) (2 ^ 31))
          (split (same_claim x.claim from_then.y.claim) (nat_le 3000 (place_behind x (first_us from_then.y) + of.before) && nat_lt (place_behind x (first_us from_then.y)) (2 ^ 31)) from_then.is).1

      behind : time + from_half ≤ from_then.end + of.before
      unfolding from_half
      behind =
          let low =
          begins_behind (last_us x) (first_us from_then.y) time (from_then.end - from_then.y.half_us) of.before at_time (first_at (ends_from x of.before) from_then) (omega (arith, ahead, from_then.soon, from_then.some, from_few)) (omega (arith, soon, from_then.ahead)) (omega (arith, of.before_most, reach_few c))
          (leb-true 3000 (place_behind x (first_us from_then.y) + of.before) from_split.0) (ltb-true (place_behind x (first_us from_then.y)) (2 ^ 31) from_split.1) in
          omega (arith, low, from_then.some, from_few)

      edge : ℕ
      edge = time - of.before + (of.before + of.behind) / 2

      at_edge : v.edge_us ≡ edge % 2 ^ 32
      unfolding edge
      at_edge = ap (λ (v : Vote). v.edge_us) of.is ∙ wraps (last_us x) time of.before ((of.before + of.behind) / 2) at_time late_enough (omega (arith, of.before_most, reach_few c))
        where
          wraps : (e time less more : ℕ) → e ≡ time % 2 ^ 32 → 8000 ≤ time → less ≤ 2898 → (e + 2 ^ 32 - less + more) % 2 ^ 32 ≡ (time - less + more) % 2 ^ 32
          wraps e time less more is late few = omega (arith, is, late, few)

      bound_is : v.bound_us ≡ element_drift c.drift_us + (of.before + of.behind + 1) / 2
      bound_is = ap (λ (v : Vote). v.bound_us) of.is

      far : ℕ
      far = element_drift d + (of.before + of.behind + 1) / 2

      told : far + element_drift c.drift_us ≡ v.bound_us + element_drift d
      unfolding far
      told = omega (arith, bound_is)

      few : far ≤ vote_us c d
      unfolding far
      few = omega (arith, of.before_most, of.behind_most)

      by_off : ℕ
      by_off = off (ends_by x of.behind) by_then

      by_off_few : by_off ≤ 1450
      unfolding by_off
      by_off_few = off_few (ends_by x of.behind) by_then

      by_off_is : by_off ≡ by_half + element_drift d
      unfolding by_off by_half off
      by_off_is = refl

      from_off : ℕ
      from_off = off (ends_from x of.before) from_then

      from_off_few : from_off ≤ 1450
      unfolding from_off
      from_off_few = off_few (ends_from x of.before) from_then

      from_off_is : from_off ≡ from_half + element_drift d
      unfolding from_off from_half off
      from_off_is = refl

      by_near : IsTrueNear t edges (early + by_off) (late + by_off) by_then.end by_then.y.claim
      unfolding by_off
      by_near = near_edge (ends_by x of.behind) by_then

      from_near : IsTrueNear t edges (early + from_off) (late + from_off) from_then.end from_then.y.claim
      unfolding from_off
      from_near = near_edge (ends_from x of.before) from_then

      one_edge : from_near.second ≡ by_near.second
      one_edge =
          let low = not_after d edges quartz (from_near.second + 1) (by_near.second + 1) by_then.end from_then.end
          (omega (arith, from_near.near.most, from_off_few, room)) (omega (arith, by_near.near.least, by_off_few, room)) (omega (arith, by_then.ahead, from_then.soon)) in
          let high = not_after d edges quartz (by_near.second + 1) (from_near.second + 1) from_then.end by_then.end
          (omega (arith, by_near.near.most, by_off_few, room)) (omega (arith, from_near.near.least, from_off_few, room)) (omega (arith, from_then.ahead, by_then.soon)) in
          omega (arith, low, high)

      least : edges (by_near.second + 1) ≤ edge + (early + far)
      unfolding edge far
      least = omega (arith, by_near.near.least, before, by_off_is, late_enough, of.before_most, reach_few c)

      most : edge ≤ edges (by_near.second + 1) + (late + far)
      unfolding edge far
      most =
          let same : edges (from_near.second + 1) ≡ edges (by_near.second + 1) = ap (λ (s : ℕ). edges (s + 1)) one_edge in
          omega (arith, from_near.near.most, same, behind, from_off_is, late_enough, of.before_most, reach_few c)

      claims : v.claim ≡ by_then.y.claim
      claims = ap (λ (v : Vote). v.claim) of.is ∙ same_is x.claim by_then.y.claim by_split.0

      small : c.drift_us ≤ most_drift_us → v.bound_us ≤ most_vote_us
      small slow = omega (arith, bound_is, of.before_most, of.behind_most, reach_few c, slow)

      there : has_come v.edge_us clock ≡ true → (edge ≤ now) × (now ≤ edge + 103000)
      unfolding edge
      there come =
          let few : clock_gap (edge % 2 ^ 32) (now % 2 ^ 32) ≤ 103000 = subst (λ (e : ℕ). clock_gap e clock ≤ 103000) at_edge (leb-true (clock_gap v.edge_us clock) 103000 come) in
          edge_come edge now (omega (arith, ahead, of.before_most, of.behind_most, reach_few c, late_enough)) (omega (arith, soon, of.before_most, reach_few c, late_enough)) few

      near_vote : has_come v.edge_us clock ≡ true → IsVoteNear c d t edges early late now v
      near_vote come = record {
        far = far;
        told = told;
        few = few;
        edge = edge;
        clock = at_edge;
        truth = record {
          second = by_near.second;
          near = record { least = least; most = most };
          truth = subst (λ (x : Claim). IsTrueClaim t (by_near.second + 1) x) (sym claims) by_near.truth;
        };
        come = (there come).0;
        soon = (there come).1;
      }

  -- the end of a frame has come, so long ago that an edge has too on which lines agree by it
  abbrev pub IsReady : (half end : ℕ) → Type 0
  IsReady half end = (end + reach_us c ≤ now + half) × (now ≤ end + 100000)

  -- what a true line keeps has just come, if it is not late
  abbrev pub AreReady : Type 0
  AreReady =
      (i : ℕ) → i < 5 → h.untrue i ≡ false → (y : KeptClaim) (end : ℕ) → y.end_us ≡ end % 2 ^ 32 → IsFrameOf c rules y.claim y.half_us end (pulses i) → end ≤ now + 14000 → now ≤ end + 100000
      → claim_kept c (line_at lines i).frame ≡ Some y → IsReady y.half_us end

  ready_of : AreReady → (is_such : Option KeptClaim → Bool) (k : IsTrueKept is_such) → IsReady k.y.half_us k.end
  ready_of ready is_such k = ready k.i k.low k.right k.y k.end k.at k.frame k.ahead k.soon k.keeps

  -- the parts of what is agreed
  record IsAgreedBy (v : Vote) : Type 0 where
    x : KeptClaim
    counts : is_candidate (f_of c.redundancy) x all ≡ true
    of : IsVoteOf c all v x

  parts_of : (v : Vote) → agreed c (settled clock lines) ≡ Some v → IsAgreedBy v
  parts_of v e =
      let first = agreed_first c (settled clock lines) v e in
      let one = is_one (IsHalf c) (reach_us c) (f_of c.redundancy) all all first.0 (each_half c (settled clock lines)) first.1 in
      record { x = first.0; counts = one.0; of = vote_of c (settled clock lines) v first.0 one.0 first.2 }

  pub vote_is_near : (v : Vote) → if_come clock (agreed c (settled clock lines)) ≡ Some v → IsVoteNear c d t edges early late now v
  vote_is_near v e =
      let there = come clock (agreed c (settled clock lines)) v e in
      let p = parts_of v there.0 in
      near_vote p.x p.counts v p.of there.1

  -- its bound is small if the setup's drift is
  vote_is_small : c.drift_us ≤ most_drift_us → (v : Vote) → if_come clock (agreed c (settled clock lines)) ≡ Some v → v.bound_us ≤ most_vote_us
  vote_is_small slow v e =
      let p = parts_of v (come clock (agreed c (settled clock lines)) v e).0 in
      small p.x p.counts v p.of slow

  -- ---- a vote comes

  come_is : (v : Vote) (time : ℕ) → has_come v.edge_us time ≡ true → (o : Option Vote) → o ≡ Some v → if_come time o ≡ Some v
  come_is v time there None e = absurd cc
  come_is v time there (Some y) e =
      let same : y ≡ v = cc in
      subst (λ (z : Vote). if_come time (Some z) ≡ Some v) (sym same) (rw there refl)

  there_by : AreReady → (v : Vote) (p : IsAgreedBy v) → has_come v.edge_us clock ≡ true
  unfolding edge from_half
  there_by ready v p =
      let b = ready_of ready (ends_by p.x p.of.behind) (by_then p.x p.counts v p.of) in
      let l = ready_of ready (ends_from p.x p.of.before) (from_then p.x p.counts v p.of) in
      let low = before p.x p.counts v p.of in
      let high = behind p.x p.counts v p.of in
      let enough = late_enough p.x p.counts in
      few_is (clock_gap v.edge_us clock) (subst (λ (e : ℕ). clock_gap e clock ≤ 103000) (sym (at_edge p.x p.counts v p.of))
      (come_edge (edge p.x p.counts v p.of) now (omega (arith, l.0, high, enough, p.of.before_most, p.of.behind_most, reach_few c)) (omega (arith, b.1, low, enough, p.of.before_most, p.of.behind_most, reach_few c))))

  pub vote_comes : AreReady → (v : Vote) → agreed c (settled clock lines) ≡ Some v → if_come clock (agreed c (settled clock lines)) ≡ Some v
  vote_comes ready v e = come_is v clock (there_by ready v (parts_of v e)) (agreed c (settled clock lines)) e

-- by the drift of the setup
pub vote_is_true : (IsTrue : List Pulse → Type 0) (rules : Rules) (t : TimelineValue) (c : ClockRules) (edges : ℕ → ℕ) → IsQuartz c.drift_us edges → (early late : ℕ) → early + late ≤ 3002 → (now : ℕ) (lines : Lines) (pulses : ℕ → List Pulse)
    → TellsTruly IsTrue c rules t edges early late now → AreHeardTruly IsTrue c rules (f_of c.redundancy) now lines pulses
    → (v : Vote) → if_come (now % 2 ^ 32) (agreed c (settled (now % 2 ^ 32) lines)) ≡ Some v → IsTrueVote t edges early late now v
vote_is_true IsTrue rules t c edges quartz early late room now lines pulses truly h v e =
    let vote = vote_is_near IsTrue rules t c c.drift_us edges quartz early late room now lines pulses truly h v e in
    record {
      edge = vote.edge;
      clock = vote.clock;
      truth = record {
        second = vote.truth.second;
        near = record { least = omega (arith, vote.told, vote.truth.near.least); most = omega (arith, vote.told, vote.truth.near.most) };
        truth = vote.truth.truth;
      };
      small = vote_is_small IsTrue rules t c c.drift_us edges quartz early late room now lines pulses truly h quartz.few v e;
      come = vote.come;
      soon = vote.soon;
    }

-- an end that is known otherwise
pub ready_by : (c : ClockRules) (rules : Rules) (now : ℕ) (o : Option KeptClaim) (ps : List Pulse) (y : KeptClaim) (end : ℕ) → IfKept (HasJustCome c now) c rules o ps → o ≡ Some y → IsHalf c y → y.end_us ≡ end % 2 ^ 32 → end ≤ now + 14000 → now ≤ end + 100000 → (end + reach_us c ≤ now + y.half_us) × (now ≤ end + 100000)
ready_by c rules now None ps y end h e half is ahead soon = absurd cc
ready_by c rules now (Some x) ps y end h e half is ahead soon =
    let same : x ≡ y = cc in
    let clock : h.0 % 2 ^ 32 ≡ end % 2 ^ 32 = sym h.1 ∙ ap (λ (z : KeptClaim). z.end_us) same ∙ is in
    by_clock h.0 end y.half_us clock half.0 h.3.0 h.3.1 ahead soon
  where
    by_clock : (x end half : ℕ) → x % 2 ^ 32 ≡ end % 2 ^ 32 → c.within.us - 1 ≤ half → x + reach_us c ≤ now + (c.within.us - 1) → now ≤ x + 100000 → end ≤ now + 14000 → now ≤ end + 100000 → (end + reach_us c ≤ now + half) × (now ≤ end + 100000)
    by_clock x end half clock wide come near ahead soon =
        let few = reach_few c in
        (omega (arith, clock, wide, come, near, ahead, soon, few, c.within.few), soon)
