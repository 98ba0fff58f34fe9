-- The edge on which lines agree, by its parts: the frame that agrees with enough others and whose last
-- time comes first, and an interval about that time.
use Rattle.std.specs.Prelude.{◌&&◌, count_by, nat_le, nat_lt, min}
use Rattle.std.proofs.Common.{◌≡◌, ℕ, ◌+◌, ◌-◌, ◌*◌, ◌%◌, ◌^◌, ◌<◌, ◌≤◌, Bool, true, false, cond, List, [], ◌∷◌, Option, Some, None, refl, sym, subst, arith, inl, inr}
use Rattle.std.proofs.lemmas.Bool.{cases_lt, ltb-true, leb-true}
use Rattle.irig_sync.specs.Sync.{clock_gap}
use Rattle.irig_time.specs.Claims.{same_claim}
use Rattle.irig_vote.specs.Vote.{f_of}
use Rattle.irig_port.specs.declared.told.Told.{Told}
use Rattle.irig_port.specs.declared.told.Told.TheVariants as tells
use Rattle.irig_lines.specs.declared.lines.KeptClaim.{KeptClaim}
use Rattle.irig_lines.specs.declared.lines.KeptFrame.{KeptFrame}
use Rattle.irig_lines.specs.declared.lines.Lines.{Lines}
use Rattle.irig_lines.specs.declared.lines.Vote.{Vote}
use Rattle.irig_lines.specs.declared.setup.ClockRules.{ClockRules}
use Rattle.irig_lines.specs.Widths.{half_us, widest_us, reach_us}
use Rattle.irig_lines.proofs.WidthLaws.{half_most, widest_few}
use Rattle.irig_lines.specs.Steps.{claim_told, claim_kept, all_kept, first_us, last_us, agrees, is_candidate, first_candidate, place_behind, ends_by, ends_from, ends_near, begins_near, last_behind, first_before, least_behind, least_before, vote_between, vote_with, agreed}
use Rattle.irig_lines.proofs.AgreeLaws.{EachKept, as_many}

pub split : (a b : Bool) → (a && b) ≡ true → (a ≡ true) × (b ≡ true)
split true b e = (refl, e)
split false b e = absurd cc

both : (a b : Bool) → a ≡ true → b ≡ true → (a && b) ≡ true
both a b p q = rw (p, q) refl

low_is : (g w : ℕ) → g ≤ w → nat_le g w ≡ true
low_is g w h = grind (arith, h)

less_is : (g w : ℕ) → g < w → nat_lt g w ≡ true
less_is g w h = grind (arith, h)

-- ---- by the clock of 32 bits

-- what agrees with a time lies about it: its first time before, and its last one behind
pub gap_behind : (end half time : ℕ) → half ≤ 1449 → time < 2 ^ 32 → clock_gap ((end + 2 ^ 32 - half) % 2 ^ 32) time ≤ 2 * half → clock_gap time ((end + half) % 2 ^ 32) + clock_gap ((end + 2 ^ 32 - half) % 2 ^ 32) time ≡ 2 * half
gap_behind end half time narrow range near = omega (arith, narrow, range, near)

-- a time that lies so little before another one has its place
place_before : (first time : ℕ) → first < 2 ^ 32 → time < 2 ^ 32 → clock_gap first time ≤ 2898 → (clock_gap time first + 3000) % 2 ^ 32 + clock_gap first time ≡ 3000
place_before first time range range' near = omega (arith, range, range', near)

-- ---- two times that count enough frames

-- the edge of a frame that has a vote lies at least as far from its end as lines are off, and at most as
-- far as by the worst quality
abbrev pub IsHalf : ClockRules → KeptClaim → Type 0
IsHalf c y = (c.within.us - 1 ≤ y.half_us) × (y.half_us ≤ widest_us c)

-- the last time of a frame lies in the interval of each that agrees with it
pub agreeing_is : (x y : KeptClaim) → agrees x (Some y) ≡ true → (same_claim x.claim y.claim ≡ true) × (clock_gap (first_us y) (last_us x) ≤ 2 * y.half_us)
agreeing_is x y e =
    let parts = split (same_claim x.claim y.claim) (nat_le (clock_gap (first_us y) (last_us x)) (2 * y.half_us)) e in
    (parts.0, leb-true (clock_gap (first_us y) (last_us x)) (2 * y.half_us) parts.1)

pub is_agreeing : (x y : KeptClaim) → same_claim x.claim y.claim ≡ true → clock_gap (first_us y) (last_us x) ≤ 2 * y.half_us → agrees x (Some y) ≡ true
is_agreeing x y same near = both _ _ same (low_is (clock_gap (first_us y) (last_us x)) (2 * y.half_us) near)

module _ (c : ClockRules) (f : ℕ) (x : KeptClaim) (all : List (Option KeptClaim)) (each : EachKept (IsHalf c) all) where
  abbrev reach : ℕ
  reach = reach_us c

  half_few : (y : KeptClaim) → IsHalf c y → (y.half_us ≤ 1449) × (2 * y.half_us ≤ reach)
  half_few y half = (let few = widest_few c in (omega (arith, half.1, few), omega (arith, half.1)))

  -- what agrees ends in time
  agrees_by : (y : KeptClaim) → IsHalf c y → agrees x (Some y) ≡ true → ends_by x reach (Some y) ≡ true
  agrees_by y half e =
      let parts = agreeing_is x y e in
      let few = half_few y half in
      let gap = gap_behind y.end_us y.half_us (last_us x) few.0 (omega arith) parts.1 in
      both _ _ parts.0 (low_is (place_behind x (last_us y)) (reach + 3000) (omega (arith, gap, few.1)))

  agrees_from : (y : KeptClaim) → IsHalf c y → agrees x (Some y) ≡ true → ends_from x reach (Some y) ≡ true
  agrees_from y half e =
      let parts = agreeing_is x y e in
      let few = half_few y half in
      let place = place_before (first_us y) (last_us x) (omega arith) (omega arith) (omega (arith, parts.1, few.0)) in
      both _ _ parts.0 (both _ _ (low_is 3000 (place_behind x (first_us y) + reach) (omega (arith, place, parts.1, few.1))) (less_is (place_behind x (first_us y)) (2 ^ 31) (omega (arith, place))))

  -- so far behind lies the edge of enough frames
  record IsBehind (p : ℕ) : Type 0 where
    most : p ≤ reach
    many : f < count_by (ends_by x p) all

  record IsBefore (p : ℕ) : Type 0 where
    most : p ≤ reach
    many : f < count_by (ends_from x p) all

  of_less : (Such : ℕ → Type 0) (p q : ℕ) → Such p → Such q → Such (min p q)
  of_less Such p q one other = elim (cases_lt p q) [
    | inl less ↦ let is : min p q ≡ p = grind (arith, less) in subst Such (sym is) one
    | inr more ↦ let is : min p q ≡ q = grind (arith, more) in subst Such (sym is) other
  ]

  behind_low : (o : Option KeptClaim) → ends_near reach x o ≡ true → last_behind x o ≤ reach
  behind_low None e = omega arith
  behind_low (Some y) e =
      let parts = split (same_claim x.claim y.claim) (nat_le (clock_gap (last_us x) (last_us y)) reach) e in
      leb-true (clock_gap (last_us x) (last_us y)) reach parts.1

  before_low : (o : Option KeptClaim) → begins_near reach x o ≡ true → first_before x o ≤ reach
  before_low None e = omega arith
  before_low (Some y) e =
      let parts = split (same_claim x.claim y.claim) (nat_le (clock_gap (first_us y) (last_us x)) reach) e in
      leb-true (clock_gap (first_us y) (last_us x)) reach parts.1

  behind_is : (ys : List (Option KeptClaim)) (so_far : ℕ) → IsBehind so_far → IsBehind (least_behind reach f x all ys so_far)
  behind_is [] so_far is = is
  behind_is (y ∷ ys) so_far is = behind_is ys _ (of (ends_near reach x y) (nat_lt f (count_by (ends_by x (last_behind x y)) all)) refl refl)
    where
      of : (a b : Bool) → ends_near reach x y ≡ a → nat_lt f (count_by (ends_by x (last_behind x y)) all) ≡ b → IsBehind (cond (a && b) (min (last_behind x y) so_far) so_far)
      of true true p q = of_less IsBehind (last_behind x y) so_far (record { most = behind_low y p; many = ltb-true f (count_by (ends_by x (last_behind x y)) all) q }) is
      of true false p q = is
      of false b p q = is

  before_is : (ys : List (Option KeptClaim)) (so_far : ℕ) → IsBefore so_far → IsBefore (least_before reach f x all ys so_far)
  before_is [] so_far is = is
  before_is (y ∷ ys) so_far is = before_is ys _ (of (begins_near reach x y) (nat_lt f (count_by (ends_from x (first_before x y)) all)) refl refl)
    where
      of : (a b : Bool) → begins_near reach x y ≡ a → nat_lt f (count_by (ends_from x (first_before x y)) all) ≡ b → IsBefore (cond (a && b) (min (first_before x y) so_far) so_far)
      of true true p q = of_less IsBefore (first_before x y) so_far (record { most = before_low y p; many = ltb-true f (count_by (ends_from x (first_before x y)) all) q }) is
      of true false p q = is
      of false b p q = is

  module _ (is : is_candidate f x all ≡ true) where
    enough : f < count_by (agrees x) all
    enough = ltb-true f (count_by (agrees x) all) is

    behind_at : IsBehind (least_behind reach f x all all reach)
    behind_at = behind_is all reach (record { most = omega arith; many = (let more = as_many (IsHalf c) (agrees x) (ends_by x reach) refl agrees_by all each in omega (arith, enough, more)) })

    before_at : IsBefore (least_before reach f x all all reach)
    before_at = before_is all reach (record { most = omega arith; many = (let more = as_many (IsHalf c) (agrees x) (ends_from x reach) refl agrees_from all each in omega (arith, enough, more)) })

-- ---- what five lines keep is so exact

pub half_kept : (c : ClockRules) (frame : Option KeptFrame) (y : KeptClaim) → claim_kept c frame ≡ Some y → IsHalf c y
half_kept c None y e = absurd cc
half_kept c (Some x) y e = (let is = of x.is_even x.told e in let most = half_most c x.quality in (omega (arith, is), omega (arith, is, most)))
  where
    of : (b : Bool) (told : Told) → cond b (claim_told told x.end_us (half_us c x.quality)) None ≡ Some y → y.half_us ≡ half_us c x.quality
    of false told e = absurd cc
    of true (tells.Claim z) e = cc
    of true tells.Silence e = absurd cc
    of true (tells.Fault f) e = absurd cc
    of true (tells.Poor q) e = absurd cc

pub one_more : (Such : KeptClaim → Type 0) (o : Option KeptClaim) (xs : List (Option KeptClaim)) → ((y : KeptClaim) → o ≡ Some y → Such y) → EachKept Such xs → EachKept Such (o ∷ xs)
one_more Such None xs such each = each
one_more Such (Some y) xs such each = (such y refl, each)

pub each_half : (c : ClockRules) (lines : Lines) → EachKept (IsHalf c) (all_kept c lines)
each_half c lines =
    one_more (IsHalf c) _ _ (half_kept c lines.a.frame)
    (one_more (IsHalf c) _ _ (half_kept c lines.b.frame)
    (one_more (IsHalf c) _ _ (half_kept c lines.c.frame)
    (one_more (IsHalf c) _ _ (half_kept c lines.d.frame)
    (one_more (IsHalf c) _ _ (half_kept c lines.e.frame) tt))))

-- ---- the parts of a vote

-- the vote is of this frame, and its edge the middle of an interval about its last time; more than f
-- frames allow no earlier edge, and more than f no later one
pub record IsVoteOf (c : ClockRules) (all : List (Option KeptClaim)) (v : Vote) (x : KeptClaim) : Type 0 where
  pub before : ℕ
  pub behind : ℕ
  pub is : v ≡ vote_between c.drift_us x before behind
  pub is_before : before ≡ least_before (reach_us c) (f_of c.redundancy) x all all (reach_us c)
  pub is_behind : behind ≡ least_behind (reach_us c) (f_of c.redundancy) x all all (reach_us c)
  pub before_most : before ≤ reach_us c
  pub behind_most : behind ≤ reach_us c
  pub many_from : f_of c.redundancy < count_by (ends_from x before) all
  pub many_by : f_of c.redundancy < count_by (ends_by x behind) all

-- the vote by this frame
abbrev pub vote_by : ClockRules → List (Option KeptClaim) → KeptClaim → Vote
vote_by c all x =
    vote_between c.drift_us x (least_before (reach_us c) (f_of c.redundancy) x all all (reach_us c))
    (least_behind (reach_us c) (f_of c.redundancy) x all all (reach_us c))

abbrev pub first_of : ClockRules → List (Option KeptClaim) → Option KeptClaim
first_of c all = first_candidate (reach_us c) (f_of c.redundancy) all all None

-- the candidate whose last time comes first makes the vote
pub agreed_first : (c : ClockRules) (lines : Lines) (v : Vote) → agreed c lines ≡ Some v
    → (x : KeptClaim) × (first_of c (all_kept c lines) ≡ Some x) × (v ≡ vote_by c (all_kept c lines) x)
agreed_first c lines v e = of (first_of c (all_kept c lines)) refl e
  where
    of : (o : Option KeptClaim) → first_of c (all_kept c lines) ≡ o → vote_with (reach_us c) c.drift_us (f_of c.redundancy) (all_kept c lines) o ≡ Some v
        → (x : KeptClaim) × (first_of c (all_kept c lines) ≡ Some x) × (v ≡ vote_by c (all_kept c lines) x)
    of None first e = absurd cc
    of (Some x) first e = (x, first, cc)

pub vote_of : (c : ClockRules) (lines : Lines) (v : Vote) (x : KeptClaim) → is_candidate (f_of c.redundancy) x (all_kept c lines) ≡ true → v ≡ vote_by c (all_kept c lines) x → IsVoteOf c (all_kept c lines) v x
vote_of c lines v x is same =
    let before = before_at c (f_of c.redundancy) x (all_kept c lines) (each_half c lines) is in
    let behind = behind_at c (f_of c.redundancy) x (all_kept c lines) (each_half c lines) is in
    record {
      before = least_before (reach_us c) (f_of c.redundancy) x (all_kept c lines) (all_kept c lines) (reach_us c);
      behind = least_behind (reach_us c) (f_of c.redundancy) x (all_kept c lines) (all_kept c lines) (reach_us c);
      is = same;
      is_before = refl;
      is_behind = refl;
      before_most = before.most;
      behind_most = behind.most;
      many_from = before.many;
      many_by = behind.many;
    }
