-- A vote on which lines agree is that of a tick when its edge has come.
use Rattle.std.specs.Prelude.{◌&&◌, count_by, min, nat_le, nat_lt}
use Rattle.std.proofs.Common.{◌≡◌, ◌∙◌, ◌⊎◌, ℕ, ◌+◌, ◌-◌, ◌*◌, ◌%◌, ◌^◌, ◌<◌, ◌≤◌, Bool, true, false, cond, List, [], ◌∷◌, drop, Option, Some, None, refl, sym, ap, subst, arith, inl, inr}
use Rattle.std.proofs.lemmas.Bool.{cases_Bool, leb-true, ltb-true, ltb-false}
use Rattle.std.proofs.lemmas.List.Sums.{sum_by-cons}
use Rattle.irig_sync.specs.Sync.{clock_gap}
use Rattle.irig_time.specs.Claims.{same_claim}
use Rattle.irig_vote.specs.Vote.{f_of}
use Rattle.irig_lines.specs.declared.lines.KeptFrame.{KeptFrame}
use Rattle.irig_lines.specs.declared.lines.KeptClaim.{KeptClaim}
use Rattle.irig_lines.specs.declared.lines.Lines.{Lines}
use Rattle.irig_lines.specs.declared.lines.Vote.{Vote}
use Rattle.irig_lines.specs.declared.setup.ClockRules.{ClockRules}
use Rattle.irig_lines.specs.Widths.{widest_us, reach_us}
use Rattle.irig_lines.specs.Lines.{IfKept}
use Rattle.irig_lines.specs.Counting.{is_late, has_come}
use Rattle.irig_lines.specs.Steps.{line_at, still_kept, settled, claim_kept, all_kept, first_us, last_us, agrees, is_candidate, earlier, first_candidate, place_behind, ends_by, ends_from, ends_near, begins_near, last_behind, first_before, least_behind, least_before, vote_between, vote_with, agreed, if_come, wait_by}
use Rattle.irig_timekeeper.specs.Keeping.{Keeping, vote_at}
use Rattle.irig_timekeeper.specs.Life.{Call, after_calls, pulses_on, last_tick, AreInOrder}
use Rattle.irig_timekeeper.specs.Life.Call.{Tick}
use Rattle.irig_lines.proofs.PartLaws.{split, IsHalf, half_kept}
use Rattle.irig_lines.proofs.WidthLaws.{widest_few, reach_few}
use Rattle.irig_timekeeper.proofs.VoteLaws.{still, frame_settled, not_late, last_late}
use Rattle.irig_timekeeper.proofs.LifeLaws.{AreLinesAt, IsEndAt, and_false, lines_after}
use Rattle.irig_timekeeper.proofs.OrderLaws.{shared, kept_by, IsCandidateAt, IsKeptThere, there_at, IsAgreedOn, agreed_on, agreeing, many, absent, EndsAt, ends_at, near_end, lies_about}
use Rattle.irig_timekeeper.proofs.FrameLaws.{in_time, stays_kept}

-- ---- a frame that ended before another one, by the clock of 32 bits

high_is : (g w : ℕ) → w < g → nat_le g w ≡ false
high_is g w h = grind (arith, h)

not_less : (g w : ℕ) → w ≤ g → nat_lt g w ≡ false
not_less g w h = grind (arith, h)

module _ (x y : KeptClaim) (a b : ℕ) (at : last_us x ≡ a % 2 ^ 32) (at' : y.end_us ≡ b % 2 ^ 32) (half : y.half_us ≤ 1449) (before : b + y.half_us < a) (near : a ≤ b + 200000) (some : 10000 ≤ b) where
  first_long : 2 * y.half_us < clock_gap (first_us y) (last_us x)
  first_long = of (last_us x) y.end_us y.half_us at at' half before
    where
      of : (e e' h : ℕ) → e ≡ a % 2 ^ 32 → e' ≡ b % 2 ^ 32 → h ≤ 1449 → b + h < a → 2 * h < clock_gap ((e' + 2 ^ 32 - h) % 2 ^ 32) e
      of e e' h at at' few before = omega (arith, at, at', few, before, near, some)

  -- it does not agree
  not_agreeing : agrees x (Some y) ≡ false
  not_agreeing = and_false (same_claim x.claim y.claim) _ (high_is (clock_gap (first_us y) (last_us x)) (2 * y.half_us) first_long)

-- and if it did so more than 3 ms before, it does not count
module _ (x y : KeptClaim) (a b : ℕ) (at : last_us x ≡ a % 2 ^ 32) (at' : y.end_us ≡ b % 2 ^ 32) (half : y.half_us ≤ 1449) (before : b + y.half_us + 3000 < a) (near : a ≤ b + 200000) (some : 10000 ≤ b) where
  last_far : 2 ^ 31 ≤ place_behind x (last_us y)
  last_far = of (last_us x) y.end_us y.half_us at at' half before
    where
      of : (e e' h : ℕ) → e ≡ a % 2 ^ 32 → e' ≡ b % 2 ^ 32 → h ≤ 1449 → b + h + 3000 < a → 2 ^ 31 ≤ (clock_gap e ((e' + h) % 2 ^ 32) + 3000) % 2 ^ 32
      of e e' h at at' few before = omega (arith, at, at', few, before, near, some)

  first_far : 2 ^ 31 ≤ place_behind x (first_us y)
  first_far = of (last_us x) y.end_us y.half_us at at' half before
    where
      of : (e e' h : ℕ) → e ≡ a % 2 ^ 32 → e' ≡ b % 2 ^ 32 → h ≤ 1449 → b + h + 3000 < a → 2 ^ 31 ≤ (clock_gap e ((e' + 2 ^ 32 - h) % 2 ^ 32) + 3000) % 2 ^ 32
      of e e' h at at' few before = omega (arith, at, at', few, before, near, some)

  begin_long : 2898 < clock_gap (first_us y) (last_us x)
  begin_long = of (last_us x) y.end_us y.half_us at at' half before
    where
      of : (e e' h : ℕ) → e ≡ a % 2 ^ 32 → e' ≡ b % 2 ^ 32 → h ≤ 1449 → b + h + 3000 < a → 2898 < clock_gap ((e' + 2 ^ 32 - h) % 2 ^ 32) e
      of e e' h at at' few before = omega (arith, at, at', few, before, near, some)

  not_by : (behind : ℕ) → behind ≤ 2898 → ends_by x behind (Some y) ≡ false
  not_by behind low = and_false (same_claim x.claim y.claim) _ (high_is (place_behind x (last_us y)) (behind + 3000) (omega (arith, low, last_far)))

  not_from : (before : ℕ) → ends_from x before (Some y) ≡ false
  not_from before = and_false (same_claim x.claim y.claim) _ (and_false (nat_le 3000 (place_behind x (first_us y) + before)) _ (not_less (place_behind x (first_us y)) (2 ^ 31) first_far))

  not_near_end : (reach : ℕ) → reach ≤ 2898 → ends_near reach x (Some y) ≡ false
  not_near_end reach low = and_false (same_claim x.claim y.claim) _ (high_is (clock_gap (last_us x) (last_us y)) reach (of (clock_gap (last_us x) (last_us y)) last_far))
    where
      of : (g : ℕ) → 2 ^ 31 ≤ (g + 3000) % 2 ^ 32 → reach < g
      of g far = omega (arith, far, low)

  not_near_begin : (reach : ℕ) → reach ≤ 2898 → begins_near reach x (Some y) ≡ false
  not_near_begin reach low = and_false (same_claim x.claim y.claim) _ (high_is (clock_gap (first_us y) (last_us x)) reach (omega (arith, begin_long, low)))

behind_low : (reach : ℕ) (x : KeptClaim) (o : Option KeptClaim) → ends_near reach x o ≡ true → last_behind x o ≤ reach
behind_low reach x None e = omega arith
behind_low reach x (Some y) e = leb-true (clock_gap (last_us x) (last_us y)) reach (split (same_claim x.claim y.claim) (nat_le (clock_gap (last_us x) (last_us y)) reach) e).1

-- ---- frames, of which some are gone

module _ (Stays Gone : KeptClaim → Type 0) where
  -- what is kept stays, or is gone
  abbrev IsLeft : Option KeptClaim → Option KeptClaim → Type 0
  IsLeft o o' = ((o ≡ o') × ((z : KeptClaim) → o ≡ Some z → Stays z)) ⊎ ((o' ≡ None) × ((y : KeptClaim) × (o ≡ Some y) × Gone y))

  abbrev AreLeft : List (Option KeptClaim) → List (Option KeptClaim) → Type 0
  AreLeft [] [] = Unit {0}
  AreLeft [] (o' ∷ os') = ⊥
  AreLeft (o ∷ os) [] = ⊥
  AreLeft (o ∷ os) (o' ∷ os') = IsLeft o o' × AreLeft os os'

  -- if what is gone does not count, as many count
  module _ (counts : Option KeptClaim → Bool) (none : counts None ≡ false) (gone : (y : KeptClaim) → Gone y → counts (Some y) ≡ false) where
    same_at : (o o' : Option KeptClaim) → IsLeft o o' → counts o ≡ counts o'
    same_at o o' (inl stays) = ap counts stays.0
    same_at o o' (inr l) = ap counts l.1.1 ∙ gone l.1.0 l.1.2 ∙ sym none ∙ ap counts (sym l.0)

    same_count : (os os' : List (Option KeptClaim)) → AreLeft os os' → count_by counts os ≡ count_by counts os'
    same_count [] [] l = refl
    same_count [] (o' ∷ os') l = absurd l
    same_count (o ∷ os) [] l = absurd l
    same_count (o ∷ os) (o' ∷ os') l =
        let x = sum_by-cons (λ k. cond (counts k) 1 0) o os in
        let y = sum_by-cons (λ k. cond (counts k) 1 0) o' os' in
        let here : ◌≡◌ {A = ℕ} (cond (counts o) 1 0) (cond (counts o') 1 0) = ap (λ (b : Bool). cond b 1 0) (same_at o o' l.0) in
        omega (arith, x, y, here, same_count os os' l.1)

  -- no more count
  module _ (counts : Option KeptClaim → Bool) (none : counts None ≡ false) where
    one_at : (o o' : Option KeptClaim) → IsLeft o o' → ◌≤◌ (cond {A = ℕ} (counts o') 1 0) (cond {A = ℕ} (counts o) 1 0)
    one_at o o' (inl stays) = subst (λ (x : Option KeptClaim). ◌≤◌ (cond {A = ℕ} (counts x) 1 0) (cond {A = ℕ} (counts o) 1 0)) stays.0 (omega arith)
    one_at o o' (inr l) = (let not : counts o' ≡ false = ap counts l.0 ∙ none in rw not (omega arith))

    fewer : (os os' : List (Option KeptClaim)) → AreLeft os os' → count_by counts os' ≤ count_by counts os
    fewer [] [] l = omega arith
    fewer [] (o' ∷ os') l = absurd l
    fewer (o ∷ os) [] l = absurd l
    fewer (o ∷ os) (o' ∷ os') l =
        let x = sum_by-cons (λ k. cond (counts k) 1 0) o os in
        let y = sum_by-cons (λ k. cond (counts k) 1 0) o' os' in
        omega (arith, x, y, one_at o o' l.0, fewer os os' l.1)

  module _ (reach f : ℕ) (all all' : List (Option KeptClaim)) (left : AreLeft all all') where
    -- the candidate that ends first is the same
    module _ (same_candidate : (z : KeptClaim) → Stays z → is_candidate f z all ≡ is_candidate f z all') (never : (y : KeptClaim) → Gone y → is_candidate f y all ≡ false) where
      first_stays : (o : Option KeptClaim) → ((z : KeptClaim) → o ≡ Some z → Stays z) → (os os' : List (Option KeptClaim)) → ((so_far : Option KeptClaim) → first_candidate reach f all os so_far ≡ first_candidate reach f all' os' so_far)
          → (so_far : Option KeptClaim) → first_candidate reach f all (o ∷ os) so_far ≡ first_candidate reach f all' (o ∷ os') so_far
      first_stays None stays os os' rest so_far = rest so_far
      first_stays (Some z) stays os os' rest so_far =
          ap (λ (b : Bool). first_candidate reach f all os (cond b (earlier reach so_far z) so_far)) (same_candidate z (stays z refl)) ∙ rest _

      first_gone : (y : KeptClaim) → Gone y → (os : List (Option KeptClaim)) (so_far : Option KeptClaim) → first_candidate reach f all (Some y ∷ os) so_far ≡ first_candidate reach f all os so_far
      first_gone y gone os so_far = ap (λ (b : Bool). first_candidate reach f all os (cond b (earlier reach so_far y) so_far)) (never y gone)

      same_first : (os os' : List (Option KeptClaim)) → AreLeft os os' → (so_far : Option KeptClaim) → first_candidate reach f all os so_far ≡ first_candidate reach f all' os' so_far
      same_first [] [] l so_far = refl
      same_first [] (o' ∷ os') l so_far = absurd l
      same_first (o ∷ os) [] l so_far = absurd l
      same_first (o ∷ os) (o' ∷ os') l so_far = of l.0 (λ s. same_first os os' l.1 s)
        where
          of : IsLeft o o' → ((s : Option KeptClaim) → first_candidate reach f all os s ≡ first_candidate reach f all' os' s) → first_candidate reach f all (o ∷ os) so_far ≡ first_candidate reach f all' (o' ∷ os') so_far
          of (inl stays) rest = first_stays o stays.1 os os' rest so_far ∙ ap (λ (x : Option KeptClaim). first_candidate reach f all' (x ∷ os') so_far) stays.0
          of (inr gone) rest =
              ap (λ (x : Option KeptClaim). first_candidate reach f all (x ∷ os) so_far) gone.1.1
              ∙ first_gone gone.1.0 gone.1.2 os so_far ∙ rest so_far
              ∙ ap (λ (x : Option KeptClaim). first_candidate reach f all' (x ∷ os') so_far) (sym gone.0)

    -- and so is the interval in which its edge lies
    module _ (x : KeptClaim) (near_end : (y : KeptClaim) → Gone y → ends_near reach x (Some y) ≡ false) (near_begin : (y : KeptClaim) → Gone y → begins_near reach x (Some y) ≡ false) (by : (y : KeptClaim) (behind : ℕ) → Gone y → behind ≤ reach → ends_by x behind (Some y) ≡ false)
        (from : (y : KeptClaim) (before : ℕ) → Gone y → ends_from x before (Some y) ≡ false) where
      abbrev TestBy : List (Option KeptClaim) → Option KeptClaim → Bool
      TestBy frames o = ends_near reach x o && nat_lt f (count_by (ends_by x (last_behind x o)) frames)

      abbrev TestFrom : List (Option KeptClaim) → Option KeptClaim → Bool
      TestFrom frames o = begins_near reach x o && nat_lt f (count_by (ends_from x (first_before x o)) frames)

      same_test_by : (o : Option KeptClaim) → TestBy all o ≡ TestBy all' o
      same_test_by o = of (ends_near reach x o) refl
        where
          of : (b : Bool) → ends_near reach x o ≡ b → (b && nat_lt f (count_by (ends_by x (last_behind x o)) all)) ≡ (b && nat_lt f (count_by (ends_by x (last_behind x o)) all'))
          of false e = refl
          of true e = ap (nat_lt f) (same_count (ends_by x (last_behind x o)) refl (λ y gone. by y (last_behind x o) gone (behind_low reach x o e)) all all' left)

      same_test_from : (o : Option KeptClaim) → TestFrom all o ≡ TestFrom all' o
      same_test_from o = ap (λ (b : Bool). begins_near reach x o && b) (ap (nat_lt f) (same_count (ends_from x (first_before x o)) refl (λ y gone. from y (first_before x o) gone) all all' left))

      step_by : (o o' : Option KeptClaim) → IsLeft o o' → (so_far : ℕ) → cond (TestBy all o) (min (last_behind x o) so_far) so_far ≡ cond (TestBy all' o') (min (last_behind x o') so_far) so_far
      step_by o o' (inl stays) so_far =
          ap (λ (b : Bool). cond b (min (last_behind x o) so_far) so_far) (same_test_by o)
          ∙ ap (λ (y : Option KeptClaim). cond (TestBy all' y) (min (last_behind x y) so_far) so_far) stays.0
      step_by o o' (inr gone) so_far =
          ap (λ (y : Option KeptClaim). cond (TestBy all y) (min (last_behind x y) so_far) so_far) gone.1.1
          ∙ ap (λ (b : Bool). cond (b && nat_lt f (count_by (ends_by x (last_behind x (Some gone.1.0))) all)) (min (last_behind x (Some gone.1.0)) so_far) so_far) (near_end gone.1.0 gone.1.2)
          ∙ ap (λ (y : Option KeptClaim). cond (TestBy all' y) (min (last_behind x y) so_far) so_far) (sym gone.0)

      step_from : (o o' : Option KeptClaim) → IsLeft o o' → (so_far : ℕ) → cond (TestFrom all o) (min (first_before x o) so_far) so_far ≡ cond (TestFrom all' o') (min (first_before x o') so_far) so_far
      step_from o o' (inl stays) so_far =
          ap (λ (b : Bool). cond b (min (first_before x o) so_far) so_far) (same_test_from o)
          ∙ ap (λ (y : Option KeptClaim). cond (TestFrom all' y) (min (first_before x y) so_far) so_far) stays.0
      step_from o o' (inr gone) so_far =
          ap (λ (y : Option KeptClaim). cond (TestFrom all y) (min (first_before x y) so_far) so_far) gone.1.1
          ∙ ap (λ (b : Bool). cond (b && nat_lt f (count_by (ends_from x (first_before x (Some gone.1.0))) all)) (min (first_before x (Some gone.1.0)) so_far) so_far) (near_begin gone.1.0 gone.1.2)
          ∙ ap (λ (y : Option KeptClaim). cond (TestFrom all' y) (min (first_before x y) so_far) so_far) (sym gone.0)

      same_behind : (os os' : List (Option KeptClaim)) → AreLeft os os' → (so_far : ℕ) → least_behind reach f x all os so_far ≡ least_behind reach f x all' os' so_far
      same_behind [] [] l so_far = refl
      same_behind [] (o' ∷ os') l so_far = absurd l
      same_behind (o ∷ os) [] l so_far = absurd l
      same_behind (o ∷ os) (o' ∷ os') l so_far = ap (least_behind reach f x all os) (step_by o o' l.0 so_far) ∙ same_behind os os' l.1 _

      same_before : (os os' : List (Option KeptClaim)) → AreLeft os os' → (so_far : ℕ) → least_before reach f x all os so_far ≡ least_before reach f x all' os' so_far
      same_before [] [] l so_far = refl
      same_before [] (o' ∷ os') l so_far = absurd l
      same_before (o ∷ os) [] l so_far = absurd l
      same_before (o ∷ os) (o' ∷ os') l so_far = ap (least_before reach f x all os) (step_from o o' l.0 so_far) ∙ same_before os os' l.1 _

-- ---- what is late is not kept

late_gone : (c : ClockRules) (clock : ℕ) (frame : Option KeptFrame) (y : KeptClaim) → claim_kept c frame ≡ Some y → is_late y.end_us clock ≡ true → claim_kept c (still_kept clock frame) ≡ None
late_gone c clock frame y e late = of (claim_kept c (still_kept clock frame)) refl
  where
    of : (o : Option KeptClaim) → claim_kept c (still_kept clock frame) ≡ o → o ≡ None
    of None there = refl
    of (Some z) there =
        let kept = still c clock frame z there in
        let same : z ≡ y = (let both : Some z ≡ Some y = sym kept.0 ∙ e in cc) in
        absurd (let both : true ≡ false = sym late ∙ ap (λ (x : KeptClaim). is_late x.end_us clock) (sym same) ∙ kept.1 in cc)

late_past : (end then : ℕ) → end ≤ then + 14000 → then + 14000 < end + 2 ^ 32 → is_late (end % 2 ^ 32) (then % 2 ^ 32) ≡ true → end + 100000 < then
late_past end then ahead turn late =
    let gap : (clock_gap (end % 2 ^ 32) (then % 2 ^ 32) + 14000) % 2 ^ 32 ≡ then + 14000 - end = omega (arith, ahead, turn) in
    let far = ltb-true 114000 ((clock_gap (end % 2 ^ 32) (then % 2 ^ 32) + 14000) % 2 ^ 32) late in
    omega (arith, gap, far, ahead)

-- ---- a tick when the edge has come

module _ (new : Keeping) (start : ℕ) (begun : AreLinesAt new new (λ i. []) start start) where
  module _ (calls : List Call) (now then : ℕ) (order : AreInOrder start new.clock.redundancy (Tick now ∷ calls)) (order' : AreInOrder start new.clock.redundancy (Tick then ∷ calls)) (on : now ≤ then) (v : Vote) (agrees_now : agreed (after_calls new calls).clock (settled (now % 2 ^ 32) (after_calls new calls).state.lines) ≡ Some v) (edge : ℕ)
      (at : v.edge_us ≡ edge % 2 ^ 32) (ahead : edge ≤ now + 17000) (behind : now ≤ edge + 103000) (come : edge ≤ then) (soon : then ≤ edge + 94000) where
    abbrev c : ClockRules
    c = (after_calls new calls).clock

    abbrev lines : Lines
    lines = (after_calls new calls).state.lines

    abbrev all : List (Option KeptClaim)
    all = all_kept (after_calls new calls).clock (settled (now % 2 ^ 32) (after_calls new calls).state.lines)

    abbrev all_then : List (Option KeptClaim)
    all_then = all_kept (after_calls new calls).clock (settled (then % 2 ^ 32) (after_calls new calls).state.lines)

    abbrev w : ℕ
    w = reach_us (after_calls new calls).clock

    abbrev n : ℕ
    n = f_of (after_calls new calls).clock.redundancy

    few : widest_us c ≤ 1449
    few = widest_few (after_calls new calls).clock

    w_few : w ≤ 2898
    w_few = reach_few (after_calls new calls).clock

    a : IsAgreedOn new start begun calls now order v
    a = agreed_on new start begun calls now order v agrees_now

    end : (time : ℕ) × EndsAt new start begun calls now order a.x a.is time
    end = ends_at new start begun calls now order a.x a.is

    -- the tick comes at most 95.5 ms behind the last time of the candidate's frame
    upto : then ≤ end.0 + 95449
    upto =
        let lies = lies_about c all v a.x a.parts end.0 end.1.clock (omega (arith, end.1.low)) in
        let same : lies.edge ≡ edge = one_edge v.edge_us lies.edge edge lies.clock at (omega (arith, lies.most, few, end.1.ahead, behind)) (omega (arith, ahead, lies.least, few, end.1.soon)) in
        omega (arith, same, lies.most, few, soon)
      where
        one_edge : (e x y : ℕ) → e ≡ x % 2 ^ 32 → e ≡ y % 2 ^ 32 → x ≤ y + 200000 → y ≤ x + 200000 → x ≡ y
        one_edge e x y p q near far = omega (arith, p, q, near, far)

    -- what a line keeps now it keeps then, unless it is late then
    record Stays (z : KeptClaim) : Type 0 where
      there : IsKeptThere new start begun calls now order z

    record IsGone (y : KeptClaim) : Type 0 where
      half : IsHalf c y
      there : IsKeptThere new start begun calls now order y
      end : ℕ
      clock : y.end_us ≡ end % 2 ^ 32
      most : end ≤ now + 14000
      least : now ≤ end + 100000
      low : 10000 ≤ end
      past : end + 100000 < then

    -- what is kept then was kept now
    kept_now : (j : ℕ) → j < 5 → (y : KeptClaim) → claim_kept c (line_at (settled (then % 2 ^ 32) lines) j).frame ≡ Some y → claim_kept c (line_at (settled (now % 2 ^ 32) lines) j).frame ≡ Some y
    kept_now j small y kept =
        let l = (lines_after new start begun calls now order).lines j small in
        let raw = kept_by new start begun calls then order' j small y kept in
        let h = subst (λ (o : Option KeptClaim). IfKept (IsEndAt (pulses_on j calls) (last_tick start calls) now) (after_calls new calls).clock (after_calls new calls).rules o (pulses_on j calls)) raw.0 l.kept in
        let soon = not_late h.0 then (omega (arith, h.3.0, on)) (omega (arith, h.3.1, order'.1)) (subst (λ (e : ℕ). is_late e (then % 2 ^ 32) ≡ false) h.1 raw.1) in
        ap (claim_kept c) (frame_settled (now % 2 ^ 32) lines j small)
        ∙ stays_kept c (now % 2 ^ 32) (line_at lines j).frame y raw.0 (ap (λ (x : ℕ). is_late x (now % 2 ^ 32)) h.1 ∙ in_time h.0 now h.3.0 (omega (arith, soon, on)))

    is_left : (j : ℕ) → j < 5 → IsLeft Stays IsGone (claim_kept c (line_at (settled (now % 2 ^ 32) lines) j).frame) (claim_kept c (line_at (settled (then % 2 ^ 32) lines) j).frame)
    is_left j small = of (claim_kept c (line_at (settled (now % 2 ^ 32) lines) j).frame) refl (claim_kept c (line_at (settled (then % 2 ^ 32) lines) j).frame) refl
      where
        of : (o : Option KeptClaim) → claim_kept c (line_at (settled (now % 2 ^ 32) lines) j).frame ≡ o → (o' : Option KeptClaim) → claim_kept c (line_at (settled (then % 2 ^ 32) lines) j).frame ≡ o' → IsLeft Stays IsGone o o'
        of None e None e' = inl (refl, λ z none. absurd cc)
        of None e (Some y) e' = absurd (let both : None ≡ Some y = sym e ∙ kept_now j small y e' in cc)
        of (Some y) e o' e' =
            let l = (lines_after new start begun calls now order).lines j small in
            let raw = kept_by new start begun calls now order j small y e in
            let h = subst (λ (o : Option KeptClaim). IfKept (IsEndAt (pulses_on j calls) (last_tick start calls) now) (after_calls new calls).clock (after_calls new calls).rules o (pulses_on j calls)) raw.0 l.kept in
            let soon = not_late h.0 now h.3.0 (omega (arith, h.3.1, order.1)) (subst (λ (e : ℕ). is_late e (now % 2 ^ 32) ≡ false) h.1 raw.1) in
            let turn : then + 14000 < h.0 + 2 ^ 32 = omega (arith, h.3.1, order'.1) in
            elim (cases_Bool (is_late y.end_us (then % 2 ^ 32))) [
              | inl late ↦
                  let past = late_past h.0 then (omega (arith, h.3.0, on)) turn (subst (λ (x : ℕ). is_late x (then % 2 ^ 32) ≡ true) h.1 late) in
                  let none = sym e' ∙ ap (claim_kept c) (frame_settled (then % 2 ^ 32) lines j small) ∙ late_gone c (then % 2 ^ 32) (line_at lines j).frame y raw.0 late in
                  inr (
                    none,
                    (
                      y,
                      refl,
                      record {
                        half = half_kept c (line_at lines j).frame y raw.0;
                        there = there_at new start begun calls now order j small y e;
                        end = h.0;
                        clock = h.1;
                        most = h.3.0;
                        least = soon;
                        low = last_late h.0 (drop h.2.late (pulses_on j calls)) h.2.last;
                        past = past;
                      },
                    ),
                  )
              | inr in_time ↦
                  let same : Some y ≡ o' = sym (stays_kept c (then % 2 ^ 32) (line_at lines j).frame y raw.0 in_time) ∙ sym (ap (claim_kept c) (frame_settled (then % 2 ^ 32) lines j small)) ∙ e' in
                  inl (same, λ z is. (let one : y ≡ z = cc in subst Stays one (record { there = there_at new start begun calls now order j small y e })))
            ]

    left : AreLeft Stays IsGone all all_then
    left = (is_left 0 (omega arith), (is_left 1 (omega arith), (is_left 2 (omega arith), (is_left 3 (omega arith), (is_left 4 (omega arith), tt)))))

    few_of : (y : KeptClaim) → IsHalf c y → y.half_us ≤ 1449
    few_of y half = omega (arith, half.1, few)

    last_at : (y : KeptClaim) (gone : IsGone y) → last_us y ≡ (gone.end + y.half_us) % 2 ^ 32
    last_at y gone = of y.end_us gone.clock
      where
        of : (e : ℕ) → e ≡ gone.end % 2 ^ 32 → (e + y.half_us) % 2 ^ 32 ≡ (gone.end + y.half_us) % 2 ^ 32
        of e at = omega (arith, at)

    -- what stays is a candidate if it was one: it then agrees with none that is gone, since its last time
    -- comes about with that of the one that made the vote
    same_for : (z : KeptClaim) → Stays z → is_candidate n z all ≡ is_candidate n z all_then
    same_for z stays = elim (cases_Bool (is_candidate n z all)) [
      | inr not ↦
          let few = ltb-false n (count_by (agrees z) all) not in
          let less = fewer Stays IsGone (agrees z) refl all all_then left in
          not ∙ sym (not_less n (count_by (agrees z) all_then) (omega (arith, few, less)))
      | inl counts ↦
          let q : IsCandidateAt new start begun calls now order z = record { counts = counts; range = stays.there.range; i = stays.there.i; small = stays.there.small; keeps = stays.there.keeps } in
          let time = ends_at new start begun calls now order z q in
          let one = shared new.clock.redundancy (agreeing new start begun calls now order a.x a.is) (agreeing new start begun calls now order z q) (absent new start begun calls now order a.x a.is) (absent new start begun calls now order z q) (many new start begun calls now order a.x a.is) (many new start begun calls now order z q) in
          let near = near_end new start begun calls now order a.x a.is end.0 end.1 one.0 one.1 one.2 in
          let near' = near_end new start begun calls now order z q time.0 time.1 one.0 one.1 one.3 in
          ap (nat_lt n) (same_count Stays IsGone (agrees z) refl (λ y gone. not_agreeing z y time.0 gone.end time.1.clock gone.clock (few_of y gone.half) (omega (arith, near.0, near'.1, gone.past, upto, few_of y gone.half)) (omega (arith, time.1.ahead, gone.least)) gone.low) all all_then left)
    ]

    -- what is gone is none: two share a line, so their last times come about together
    never : (y : KeptClaim) → IsGone y → is_candidate n y all ≡ false
    never y gone = elim (cases_Bool (is_candidate n y all)) [
      | inr not ↦ not
      | inl counts ↦
          let q : IsCandidateAt new start begun calls now order y = record { counts = counts; range = gone.there.range; i = gone.there.i; small = gone.there.small; keeps = gone.there.keeps } in
          let one = shared new.clock.redundancy (agreeing new start begun calls now order a.x a.is) (agreeing new start begun calls now order y q) (absent new start begun calls now order a.x a.is) (absent new start begun calls now order y q) (many new start begun calls now order a.x a.is) (many new start begun calls now order y q) in
          let near = near_end new start begun calls now order a.x a.is end.0 end.1 one.0 one.1 one.2 in
          let half = few_of y gone.half in
          let near' = near_end new start begun calls now order y q (gone.end + y.half_us) (record { clock = last_at y gone; ahead = omega (arith, gone.most, half); soon = omega (arith, gone.least); low = omega (arith, gone.low) }) one.0 one.1 one.3 in
          absurd (omega (arith, near.0, near'.1, half, gone.past, upto))
    ]

    -- and its last time came more than 3 ms before that of the candidate
    early : (y : KeptClaim) (gone : IsGone y) → gone.end + y.half_us + 3000 < end.0
    early y gone = (let half = few_of y gone.half in omega (arith, upto, gone.past, half))

    near : (y : KeptClaim) (gone : IsGone y) → end.0 ≤ gone.end + 200000
    near y gone = omega (arith, end.1.ahead, gone.least)

    no_end : (y : KeptClaim) → IsGone y → ends_near w a.x (Some y) ≡ false
    no_end y gone = not_near_end a.x y end.0 gone.end end.1.clock gone.clock (few_of y gone.half) (early y gone) (near y gone) gone.low w w_few

    no_begin : (y : KeptClaim) → IsGone y → begins_near w a.x (Some y) ≡ false
    no_begin y gone = not_near_begin a.x y end.0 gone.end end.1.clock gone.clock (few_of y gone.half) (early y gone) (near y gone) gone.low w w_few

    none_by : (y : KeptClaim) (behind : ℕ) → IsGone y → behind ≤ w → ends_by a.x behind (Some y) ≡ false
    none_by y behind gone low = not_by a.x y end.0 gone.end end.1.clock gone.clock (few_of y gone.half) (early y gone) (near y gone) gone.low behind (omega (arith, low, w_few))

    none_from : (y : KeptClaim) (before : ℕ) → IsGone y → ends_from a.x before (Some y) ≡ false
    none_from y before gone = not_from a.x y end.0 gone.end end.1.clock gone.clock (few_of y gone.half) (early y gone) (near y gone) gone.low before

    -- so lines agree on the same
    agreed_then : agreed c (settled (then % 2 ^ 32) lines) ≡ Some v
    agreed_then =
        let first = same_first Stays IsGone w n all all_then left same_for never all all_then left None in
        let before = same_before Stays IsGone w n all all_then left a.x no_end no_begin none_by none_from all all_then left w in
        let behind = same_behind Stays IsGone w n all all_then left a.x no_end no_begin none_by none_from all all_then left w in
        ap (vote_with (reach_us c) c.drift_us n all_then) (sym first ∙ a.first)
        ∙ ap (λ (p : ℕ). Some (vote_between c.drift_us a.x p (least_behind w n a.x all_then all_then w))) (sym before ∙ sym a.parts.is_before)
        ∙ ap (λ (p : ℕ). Some (vote_between c.drift_us a.x a.parts.before p)) (sym behind ∙ sym a.parts.is_behind)
        ∙ ap Some (sym a.parts.is)

    has_come_then : has_come v.edge_us (then % 2 ^ 32) ≡ true
    has_come_then = low_gap (clock_gap v.edge_us (then % 2 ^ 32)) (gap v.edge_us at)
      where
        low_gap : (g : ℕ) → g ≤ 103000 → nat_le g 103000 ≡ true
        low_gap g h = grind (arith, h)

        gap : (e : ℕ) → e ≡ edge % 2 ^ 32 → clock_gap e (then % 2 ^ 32) ≤ 103000
        gap e clock = omega (arith, clock, come, soon)

    -- the tick has that vote
    pub vote_when_come : vote_at (after_calls new calls) (then % 2 ^ 32) ≡ Some v
    vote_when_come = ap (if_come (then % 2 ^ 32)) agreed_then ∙ come_is has_come_then
      where
        come_is : has_come v.edge_us (then % 2 ^ 32) ≡ true → if_come (then % 2 ^ 32) (Some v) ≡ Some v
        come_is there = rw there refl

  -- how long to wait for it
  pub waits_for : (now edge : ℕ) (o : Option ℕ) (v : Vote) → v.edge_us ≡ edge % 2 ^ 32 → edge ≤ now + 17000 → now ≤ edge + 103000 → (edge ≤ now + wait_by (now % 2 ^ 32) o (Some v)) × (wait_by (now % 2 ^ 32) o (Some v) ≤ 17000)
  waits_for now edge o v at ahead behind = of (nat_lt (clock_gap (now % 2 ^ 32) v.edge_us) (2 ^ 31)) refl
    where
      gap : (e : ℕ) → e ≡ edge % 2 ^ 32 → (clock_gap (now % 2 ^ 32) e < 2 ^ 31 → (edge ≤ now + clock_gap (now % 2 ^ 32) e) × (clock_gap (now % 2 ^ 32) e ≤ 17000)) × (2 ^ 31 ≤ clock_gap (now % 2 ^ 32) e → edge ≤ now)
      gap e clock = (λ low. (omega (arith, clock, ahead, behind, low), omega (arith, clock, ahead, behind, low)), λ high. omega (arith, clock, ahead, behind, high))

      of : (test : Bool) → nat_lt (clock_gap (now % 2 ^ 32) v.edge_us) (2 ^ 31) ≡ test → (edge ≤ now + cond test (clock_gap (now % 2 ^ 32) v.edge_us) 0) × (cond test (clock_gap (now % 2 ^ 32) v.edge_us) 0 ≤ 17000)
      of true e = (gap v.edge_us at).0 (ltb-true (clock_gap (now % 2 ^ 32) v.edge_us) (2 ^ 31) e)
      of false e = (let high = ltb-false (clock_gap (now % 2 ^ 32) v.edge_us) (2 ^ 31) e in let past = (gap v.edge_us at).1 high in omega (arith, past), omega arith)
