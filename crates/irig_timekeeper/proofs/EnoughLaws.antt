-- A tick has a vote if more than f lines keep the frame that ends at an edge, whatever the others keep.
use Rattle.std.specs.Prelude.{◌&&◌, count_by}
use Rattle.std.specs.List.{range_with_len}
use Rattle.std.proofs.Common.{◌≡◌, ◌∙◌, ℕ, zero, suc, ◌+◌, ◌-◌, ◌*◌, ◌%◌, ◌^◌, ◌<◌, ◌≤◌, Bool, true, false, cond, List, [], ◌∷◌, Option, Some, refl, sym, ap, subst, arith, inl, inr, None}
use Rattle.std.proofs.lemmas.Bool.{cases_Bool, cases_lt, lt-ltb}
use Rattle.std.proofs.lemmas.List.Sums.{sum_by-cons}
use Rattle.irig_sync.specs.Sync.{clock_gap}
use Rattle.irig_sync.specs.Lines.{Pulse}
use Rattle.irig_time.specs.declared.claim.Claim.{Claim}
use Rattle.irig_time.specs.Claims.{same_claim}
use Rattle.irig_time.specs.Timelines.{TimelineValue, IsTrueClaim}
use Rattle.irig_time.proofs.SecondAt.{claim_is}
use Rattle.irig_vote.specs.Vote.{f_of}
use Rattle.irig_vote.proofs.CountLaws.{same_itself}
use Rattle.irig_lines.specs.declared.lines.KeptClaim.{KeptClaim}
use Rattle.irig_lines.specs.declared.lines.Lines.{Lines}
use Rattle.irig_lines.specs.declared.lines.Vote.{Vote}
use Rattle.irig_lines.specs.declared.setup.ClockRules.{ClockRules}
use Rattle.irig_lines.specs.Edges.{IsQuartz}
use Rattle.irig_lines.specs.Widths.{vote_us}
use Rattle.irig_lines.proofs.PartLaws.{is_agreeing, half_kept}
use Rattle.irig_lines.proofs.WidthLaws.{widest_few, reach_few}
use Rattle.irig_lines.specs.Steps.{line_at, settled, claim_kept, all_kept, agrees, agreed, if_come}
use Rattle.irig_timekeeper.specs.Keeping.{Keeping, vote_at}
use Rattle.irig_timekeeper.specs.Truth.{AreHeardTruly}
use Rattle.irig_timekeeper.specs.Life.{Call, after_calls, pulses_on, HaveRisen, AreInOrder, AreTrueLately}
use Rattle.irig_timekeeper.specs.Life.Call.{Tick}
use Rattle.irig_lines.proofs.CountingLaws.{rises}
use Rattle.irig_timekeeper.proofs.VoteLaws.{frame_settled, AreReady, vote_comes}
use Rattle.irig_timekeeper.proofs.WaitLaws.{one_is_agreed}
use Rattle.irig_lines.proofs.WholeLaws.{whole_of}
use Rattle.irig_timekeeper.proofs.LifeLaws.{AreLinesAt, lines_after, TellAlwaysTruly, heard_truly}
use Rattle.irig_timekeeper.proofs.FrameLaws.{Keeps, ended, in_time, stays_kept}

-- ---- the least of some numbers, and counts

none_of : (b : Bool) → b ≡ false → ◌≡◌ {A = ℕ} (cond b 1 0) 0
none_of b e = rw e refl

one_of : (b : Bool) → b ≡ true → ◌≡◌ {A = ℕ} (cond b 1 0) 1
one_of b e = rw e refl

at_most_one : (b : Bool) → cond b 1 0 ≤ 1
at_most_one true = omega arith
at_most_one false = omega arith

pub record IsLeast (a : ℕ → Bool) (g : ℕ → ℕ) (from n : ℕ) : Type 0 where
  pub i : ℕ
  pub low : i < n
  pub at : a (from + i) ≡ true
  pub least : (j : ℕ) → j < n → a (from + j) ≡ true → g (from + i) ≤ g (from + j)

module _ (a : ℕ → Bool) (g : ℕ → ℕ) where
  -- none of them is any
  never : (from n : ℕ) → count_by a (range_with_len from n) ≡ 0 → (j : ℕ) → j < n → ¬ (a (from + j) ≡ true)
  never from zero none j low e = omega (arith, low)
  never from (suc n) none zero low e =
      let here : from + 0 ≡ from = omega arith in
      let is : a from ≡ true = subst (λ (x : ℕ). a x ≡ true) here e in
      omega (arith, none, sum_by-cons (λ k. cond (a k) 1 0) from (range_with_len (from + 1) n), one_of (a from) is)
  never from (suc n) none (suc j) low e =
      let there : from + suc j ≡ from + 1 + j = omega arith in
      never (from + 1) n (omega (arith, none, sum_by-cons (λ k. cond (a k) 1 0) from (range_with_len (from + 1) n))) j (omega (arith, low)) (subst (λ (x : ℕ). a x ≡ true) there e)

  pub least_of : (from n : ℕ) → 0 < count_by a (range_with_len from n) → IsLeast a g from n
  least_of from zero some = absurd (omega (arith, some))
  least_of from (suc n) some = elim (cases_lt 0 (count_by a (range_with_len (from + 1) n))) [
    | inr none ↦
        let head : a from ≡ true = elim (cases_Bool (a from)) [ inl is ↦ is | inr not ↦ absurd (omega (arith, some, none, none_of (a from) not, sum_by-cons (λ k. cond (a k) 1 0) from (range_with_len (from + 1) n))) ] in
        let here : from ≡ from + 0 = omega arith in
        record {
          i = 0;
          low = omega arith;
          at = subst (λ (x : ℕ). a x ≡ true) here head;
          least = only (omega (arith, none));
        }
    | inl more ↦
        let tail = least_of (from + 1) n more in
        elim (cases_Bool (a from)) [
          | inr not ↦ later tail (λ is. let both : true ≡ false = sym is ∙ not in absurd cc)
          | inl is ↦ elim (cases_lt (g from) (g (from + 1 + tail.i))) [
            | inl less ↦ first tail is less
            | inr enough ↦ later tail (λ _. omega (arith, enough))
          ]
        ]
  ]
    where
      only : count_by a (range_with_len (from + 1) n) ≡ 0 → (j : ℕ) → j < suc n → a (from + j) ≡ true → g (from + 0) ≤ g (from + j)
      only none zero low e = omega arith
      only none (suc j) low e =
          let there : from + suc j ≡ from + 1 + j = omega arith in
          absurd (never (from + 1) n none j (omega (arith, low)) (subst (λ (x : ℕ). a x ≡ true) there e))

      first : (tail : IsLeast a g (from + 1) n) → a from ≡ true → g from < g (from + 1 + tail.i) → IsLeast a g from (suc n)
      first tail is less =
          let here : from ≡ from + 0 = omega arith in
          record { i = 0; low = omega arith; at = subst (λ (x : ℕ). a x ≡ true) here is; least = all }
        where
          all : (j : ℕ) → j < suc n → a (from + j) ≡ true → g (from + 0) ≤ g (from + j)
          all zero low e = omega arith
          all (suc j) low e =
              let there : from + suc j ≡ from + 1 + j = omega arith in
              let same : from + 0 ≡ from = omega arith in
              let most = tail.least j (omega (arith, low)) (subst (λ (x : ℕ). a x ≡ true) there e) in
              let at : g (from + suc j) ≡ g (from + 1 + j) = ap g there in
              let from_here : g (from + 0) ≡ g from = ap g same in
              omega (arith, most, less, at, from_here)

      later : (tail : IsLeast a g (from + 1) n) → (a from ≡ true → g (from + 1 + tail.i) ≤ g from) → IsLeast a g from (suc n)
      later tail head =
          let there : from + 1 + tail.i ≡ from + suc tail.i = omega arith in
          record { i = suc tail.i; low = omega (arith, tail.low); at = subst (λ (x : ℕ). a x ≡ true) there tail.at; least = all }
        where
          all : (j : ℕ) → j < suc n → a (from + j) ≡ true → g (from + suc tail.i) ≤ g (from + j)
          all zero low e =
              let same : from + 0 ≡ from = omega arith in
              let here : g (from + 0) ≡ g from = ap g same in
              let at : g (from + suc tail.i) ≡ g (from + 1 + tail.i) = ap g (let t : from + suc tail.i ≡ from + 1 + tail.i = omega arith in t) in
              omega (arith, head (subst (λ (x : ℕ). a x ≡ true) same e), here, at)
          all (suc j) low e =
              let there : from + suc j ≡ from + 1 + j = omega arith in
              let most = tail.least j (omega (arith, low)) (subst (λ (x : ℕ). a x ≡ true) there e) in
              let at : g (from + suc j) ≡ g (from + 1 + j) = ap g there in
              let at' : g (from + suc tail.i) ≡ g (from + 1 + tail.i) = ap g (let t : from + suc tail.i ≡ from + 1 + tail.i = omega arith in t) in
              omega (arith, most, at, at')

pub more_of : (a b : ℕ → Bool) (from n : ℕ) → ((j : ℕ) → j < n → a (from + j) ≡ true → b (from + j) ≡ true) → count_by a (range_with_len from n) ≤ count_by b (range_with_len from n)
more_of a b from zero both = omega arith
more_of a b from (suc n) both =
    let x = sum_by-cons (λ k. cond (a k) 1 0) from (range_with_len (from + 1) n) in
    let y = sum_by-cons (λ k. cond (b k) 1 0) from (range_with_len (from + 1) n) in
    let rest = more_of a b (from + 1) n (λ j low is. (let there : from + 1 + j ≡ from + suc j = omega arith in subst (λ (i : ℕ). b i ≡ true) (sym there) (both (suc j) (omega (arith, low)) (subst (λ (i : ℕ). a i ≡ true) there is)))) in
    elim (cases_Bool (a from)) [
      | inl is ↦
          let here : from ≡ from + 0 = omega arith in
          let so : b from ≡ true = subst (λ (i : ℕ). b i ≡ true) (sym here) (both 0 (omega arith) (subst (λ (i : ℕ). a i ≡ true) here is)) in
          omega (arith, x, y, rest, one_of (a from) is, one_of (b from) so)
      | inr not ↦ omega (arith, x, y, rest, none_of (a from) not)
    ]

-- ---- a tick

same_truth : (t : TimelineValue) (n : ℕ) (c c' : Claim) → IsTrueClaim t (n + 1) c → IsTrueClaim t (n + 1) c' → same_claim c c' ≡ true
same_truth t n c c' p q =
    let e : Some c ≡ Some c' = sym ((claim_is t n c).1 p) ∙ (claim_is t n c').1 q in
    let same : c ≡ c' = cc in
    subst (λ (x : Claim). same_claim c x ≡ true) same (same_itself c)

pub both_true : (a b : Bool) → a ≡ true → b ≡ true → (a && b) ≡ true
both_true true b p q = q
both_true false b p q = absurd cc

near_gap : (x y h l : ℕ) → h ≤ 1449 → l ≤ 1449 → y ≤ x + h + l → x + h ≤ y + l → l ≤ y → clock_gap ((y % 2 ^ 32 + 2 ^ 32 - l) % 2 ^ 32) ((x % 2 ^ 32 + h) % 2 ^ 32) ≤ 2 * l
near_gap x y h l narrow narrow' near order some = omega (arith, narrow, narrow', order, near, some)

-- edges that lie less than a second apart are one
pub one_edge : (d : ℕ) (edges : ℕ → ℕ) → IsQuartz d edges → (i j : ℕ) → edges i < edges j + 999900 → edges j < edges i + 999900 → i ≡ j
one_edge d edges quartz i j less more = elim (cases_lt i j) [
  | inl before ↦ absurd (omega (arith, far i j before, more))
  | inr from ↦ elim (cases_lt j i) [
    | inl behind ↦ absurd (omega (arith, far j i behind, less))
    | inr upto ↦ omega (arith, from, upto)
  ]
]
  where
    far : (i j : ℕ) → i < j → edges i + 999900 ≤ edges j
    far i j less =
        let there : i + (j - i) ≡ j = omega (arith, less) in
        let rise = subst (λ (x : ℕ). edges i + (j - i) * 999900 ≤ edges x) there (rises d edges quartz i (j - i)) in
        omega (arith, rise, less)

module _ (t : TimelineValue) (edges : ℕ → ℕ) (new : Keeping) (quartz : IsQuartz new.clock.drift_us edges) (start : ℕ) (begun : AreLinesAt new new (λ i. []) start start)
    (m : ℕ) (some : 1 ≤ m) (older : List Call) (told : ℕ) (risen : HaveRisen told older) (past : told + 11000 < edges m) (calls : List Call) (now : ℕ) (upto : now ≤ edges m + 98000)
    (whole : ℕ → Bool) (many : f_of new.clock.redundancy < count_by whole (range_with_len 0 5)) (keeps : (i : ℕ) (small : i < 5) → whole i ≡ true → Keeps t edges new quartz start begun i small m older told risen past calls)
    (ahead : (i : ℕ) (small : i < 5) (is : whole i ≡ true) → (keeps i small is).end ≤ now + 14000) where
  abbrev clock : ℕ
  clock = now % 2 ^ 32

  abbrev lines : Lines
  lines = (after_calls new calls).state.lines

  abbrev f : ℕ
  f = f_of new.clock.redundancy

  half_of : Option KeptClaim → ℕ
  half_of None = 0
  half_of (Some y) = y.half_us

  -- the last times
  lasts : ℕ → ℕ
  lasts i = whole_of (pulses_on i calls) + half_of (claim_kept new.clock (line_at lines i).frame)

  first : IsLeast whole lasts 0 5
  first = least_of whole lasts 0 5 (omega (arith, many))

  abbrev claim_of : (i : ℕ) (small : i < 5) → whole i ≡ true → KeptClaim
  claim_of i small is = record { claim = (keeps i small is).claim; end_us = (keeps i small is).end % 2 ^ 32; half_us = (keeps i small is).half }

  pub kept : (i : ℕ) (small : i < 5) (is : whole i ≡ true) → claim_kept new.clock (line_at (settled clock lines) i).frame ≡ Some (claim_of i small is)
  kept i small is =
      let k = keeps i small is in
      ap (claim_kept new.clock) (frame_settled clock lines i small)
      ∙ stays_kept new.clock clock (line_at lines i).frame (claim_of i small is) k.keeps (in_time k.end now (ahead i small is) (omega (arith, k.least, upto, quartz.few, new.clock.within.few)))

  last : (i : ℕ) (small : i < 5) (is : whole i ≡ true) → lasts i ≡ whole_of (pulses_on i calls) + (keeps i small is).half
  unfolding lasts half_of
  last i small is = ap (λ (o : Option KeptClaim). whole_of (pulses_on i calls) + half_of o) (keeps i small is).keeps

  -- all of them agree with the one whose last time comes first
  agree : (i j : ℕ) (small : i < 5) (low : j < 5) (is : whole i ≡ true) (so : whole j ≡ true) → lasts i ≤ lasts j → agrees (claim_of i small is) (claim_kept new.clock (line_at (settled clock lines) j).frame) ≡ true
  agree i j small low is so order =
      let k = keeps i small is in
      let l = keeps j low so in
      let few = widest_few new.clock in
      let same : m ≡ m - 1 + 1 = omega (arith, some) in
      let one = subst (λ (x : ℕ). IsTrueClaim t x k.claim) same k.truth in
      let other = subst (λ (x : ℕ). IsTrueClaim t x l.claim) same l.truth in
      subst (λ (o : Option KeptClaim). agrees (claim_of i small is) o ≡ true) (sym (kept j low so))
      (is_agreeing (claim_of i small is) (claim_of j low so) (same_truth t (m - 1) k.claim l.claim one other)
      (near_gap k.end l.end k.half l.half (omega (arith, k.half_of.1, few)) (omega (arith, l.half_of.1, few)) (omega (arith, k.close_least, l.close_most, k.half_of.0, l.half_of.0)) (omega (arith, order, last i small is, last j low so, k.is, l.is)) (omega (arith, l.least, past, l.half_of.1, few, quartz.few, new.clock.within.few))))

  pub some_agree : (v : Vote) × (agreed new.clock (settled clock lines) ≡ Some v)
  some_agree =
      let here : 0 + first.i ≡ first.i = omega arith in
      let is : whole first.i ≡ true = subst (λ (j : ℕ). whole j ≡ true) here first.at in
      let x : KeptClaim = claim_of first.i first.low is in
      let all = more_of whole (λ j. agrees x (claim_kept new.clock (line_at (settled clock lines) j).frame)) 0 5 (λ j low so. agree_at x first.i first.low is refl j low so) in
      one_is_agreed new.clock (settled clock lines) first.i x first.low (kept first.i first.low is) (lt-ltb f (count_by (agrees x) (all_kept new.clock (settled clock lines))) (omega (arith, many, all)))
    where
      agree_at : (x : KeptClaim) (i : ℕ) (small : i < 5) (is : whole i ≡ true) → i ≡ first.i → (j : ℕ) → j < 5 → whole (0 + j) ≡ true → agrees (claim_of i small is) (claim_kept new.clock (line_at (settled clock lines) (0 + j)).frame) ≡ true
      agree_at x i small is same j low so =
          let there : 0 + j ≡ j = omega arith in
          let here : 0 + first.i ≡ i = omega (arith, same) in
          let so' : whole j ≡ true = subst (λ (k : ℕ). whole k ≡ true) there so in
          let least = first.least j low so in
          let e1 : lasts (0 + first.i) ≡ lasts i = ap lasts here in
          let e2 : lasts (0 + j) ≡ lasts j = ap lasts there in
          subst (λ (k : ℕ). agrees (claim_of i small is) (claim_kept new.clock (line_at (settled clock lines) k).frame) ≡ true) (sym there)
          (agree i j small low is so' (omega (arith, least, e1, e2)))

module _ (IsTrue : ℕ → List Pulse → Type 0) (t : TimelineValue) (edges : ℕ → ℕ) (new : Keeping) (quartz : IsQuartz new.clock.drift_us edges) (start : ℕ) (begun : AreLinesAt new new (λ i. []) start start) (truly : TellAlwaysTruly IsTrue new.clock new.rules t edges 0 0)
    (m : ℕ) (some : 1 ≤ m) (older : List Call) (told : ℕ) (risen : HaveRisen told older) (past : told + 11000 < edges m) (calls : List Call) (now : ℕ) (order : AreInOrder start new.clock.redundancy (Tick now ∷ calls)) (upto : now ≤ edges m + 98000)
    (whole : ℕ → Bool) (many : f_of new.clock.redundancy < count_by whole (range_with_len 0 5)) (keeps : (i : ℕ) (small : i < 5) → whole i ≡ true → Keeps t edges new quartz start begun i small m older told risen past calls) where
  abbrev heard_lines : Lines
  heard_lines = (after_calls new calls).state.lines

  abbrev IsHeard : Type 0
  IsHeard = AreHeardTruly (IsTrue now) new.clock new.rules (f_of new.clock.redundancy) now heard_lines (λ i. pulses_on i calls)

  -- what a true line keeps then ends at this edge
  ready : edges m + vote_us new.clock new.clock.drift_us ≤ now → (h : IsHeard) → AreReady (IsTrue now) new.rules t new.clock new.clock.drift_us edges quartz 0 0 (omega arith) now heard_lines (λ i. pulses_on i calls) (truly now) h
  ready from h i low right y end is frame ahead soon keeps =
      let near = truly now y.half_us end (pulses_on i calls) y.claim (h.true_lines i low right) frame soon in
      let few = reach_few new.clock in
      let half = half_kept new.clock (line_at heard_lines i).frame y keeps in
      let same : near.second + 1 ≡ m = one_edge new.clock.drift_us edges quartz (near.second + 1) m (omega (arith, near.near.least, ahead, upto, few, half.1, quartz.few)) (omega (arith, near.near.most, soon, from, few, half.1, quartz.few)) in
      let here : edges (near.second + 1) ≡ edges m = ap edges same in
      (omega (arith, near.near.most, here, from, half.1), soon)

  pub has_vote : edges m + vote_us new.clock new.clock.drift_us ≤ now → AreTrueLately IsTrue (f_of new.clock.redundancy) now calls → (v : Vote) × (vote_at (after_calls new calls) (now % 2 ^ 32) ≡ Some v)
  has_vote from lately =
      let h = heard_truly IsTrue t edges 0 0 new start begun calls now order lately in
      let v = some_agree t edges new quartz start begun m some older told risen past calls now upto whole many keeps (λ i small is. (let k = keeps i small is in omega (arith, k.is, ended t edges new quartz start begun i small m older told risen past calls now order))) in
      let same = ap (λ (c : ClockRules). if_come (now % 2 ^ 32) (agreed c (settled (now % 2 ^ 32) heard_lines))) (lines_after new start begun calls now order).same.clock in
      (v.0, same ∙ vote_comes (IsTrue now) new.rules t new.clock new.clock.drift_us edges quartz 0 0 (omega arith) now heard_lines (λ i. pulses_on i calls) (truly now) h (ready from h) v.0 v.1)
