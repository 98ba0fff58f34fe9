-- Edges that are answered lie half a second apart, whatever lines carry: two votes share a line, whose
-- frames lie apart.
use Rattle.std.specs.Prelude.{◌==◌, count_by}
use Rattle.std.specs.List.{range_with_len}
use Rattle.std.proofs.Common.{◌≡◌, ◌∙◌, ◌⊎◌, ℕ, zero, suc, ◌+◌, ◌-◌, ◌*◌, ◌/◌, ◌%◌, ◌^◌, ◌<◌, ◌≤◌, Bool, true, false, cond, List, [], ◌∷◌, ◌++◌, drop, Option, Some, None, refl, sym, ap, subst, arith, inl, inr, append-nil}
use Rattle.std.proofs.lemmas.Bool.{cases_Bool, eqb-true, eqb-false, ne_eqb, ltb-true, leb-true}
use Rattle.std.proofs.lemmas.List.Sums.{sum_by-cons}
use Rattle.irig_sync.specs.Sync.{clock_gap, place_of}
use Rattle.irig_sync.specs.Lines.{Pulse, pulse_at, place_after, AreOnTime, IsAfter, IsSoon}
use Rattle.irig_sync.proofs.LineLaws.{place_at_time}
use Rattle.irig_time.specs.declared.rules.Rules.{Rules}
use Rattle.irig_time.specs.Claims.{same_claim}
use Rattle.irig_vote.specs.declared.redundancy.Redundancy.{Redundancy}
use Rattle.irig_vote.specs.declared.redundancy.Redundancy.TheVariants.{One, Three, Five}
use Rattle.irig_vote.specs.Vote.{f_of, ports_in}
use Rattle.irig_lines.specs.declared.lines.KeptClaim.{KeptClaim}
use Rattle.irig_lines.specs.declared.lines.Line.{Line}
use Rattle.irig_lines.specs.declared.lines.Lines.{Lines}
use Rattle.irig_lines.specs.declared.lines.Vote.{Vote}
use Rattle.irig_timekeeper.specs.declared.clock.Beat.{Beat}
use Rattle.irig_lines.specs.declared.setup.ClockRules.{ClockRules}
use Rattle.irig_timekeeper.specs.declared.clock.ClockState.{ClockState}
use Rattle.irig_lines.specs.Lines.{IfKept}
use Rattle.irig_lines.specs.Counting.{edges_between, is_late, has_come, edges_to_vote, edges_own}
use Rattle.irig_lines.specs.Widths.{widest_us, reach_us}
use Rattle.irig_lines.specs.Steps.{is_pulse, line_at, claim_kept, still_kept, line_taken, settled, taken, all_kept, first_us, last_us, agrees, is_candidate, first_candidate, agreed}
use Rattle.irig_timekeeper.specs.Clock.{step_to, beat_by, after_vote, answer_to_vote, after_own, answer_alone, own_edge, clock_by, answer_by, settled_at}
use Rattle.irig_timekeeper.specs.Keeping.{Keeping, vote_at, after_pulse, after_tick, answer_at}
use Rattle.irig_timekeeper.specs.Truth.{IsEdgeAt, AreApartBeats}
use Rattle.irig_timekeeper.specs.Life.{Call, after_calls, pulses_on, last_tick, AreInOrder}
use Rattle.irig_timekeeper.specs.Life.Call.{Hear, Tick}
use Rattle.irig_lines.proofs.AgreeLaws.{EachKept, is_one}
use Rattle.irig_lines.proofs.PartLaws.{IsHalf, half_kept, one_more, agreeing_is, IsVoteOf, agreed_first, vote_of}
use Rattle.irig_lines.proofs.WidthLaws.{widest_few, reach_few}
use Rattle.irig_timekeeper.proofs.VoteLaws.{still, come, exact_time, frame_settled, not_late, last_late}
use Rattle.irig_lines.proofs.WholeLaws.{whole_of, AreSorted, whole_here, not_whole, whole_apart}
use Rattle.irig_lines.specs.Paces.{ahead_us, edge_on}
use Rattle.irig_timekeeper.proofs.SoundLaws.{settled_sound}
use Rattle.irig_timekeeper.proofs.TimeLaws.{own_count, still_edge, own_edge_at, voted_count, same_edge, lasts_so}
use Rattle.irig_timekeeper.proofs.LifeLaws.{AreLinesAt, IsEndAt, line_soon, lines_after, order_before, ticked, line_takes, line_same, line_other, own_pulses, others_pulses, no_pulse, has_risen, unheard}
use Rattle.irig_timekeeper.specs.Rule.{against_table}

-- ---- two of more than half of the lines

-- one of so many is of both kinds
record AreBoth (a b : ℕ → Bool) (from n : ℕ) : Type 0 where
  i : ℕ
  low : i < n
  one : a (from + i) ≡ true
  other : b (from + i) ≡ true

at_most_one : (b : Bool) → cond b 1 0 ≤ 1
at_most_one true = omega arith
at_most_one false = omega arith

none_of : (b : Bool) → b ≡ false → ◌≡◌ {A = ℕ} (cond b 1 0) 0
none_of b e = rw e refl

module _ (a b : ℕ → Bool) where
  both_on : (from n : ℕ) → AreBoth a b (from + 1) n → AreBoth a b from (suc n)
  both_on from n found =
      let at : from + 1 + found.i ≡ from + suc found.i = omega arith in
      record {
        i = suc found.i;
        low = omega (arith, found.low);
        one = subst (λ (j : ℕ). a j ≡ true) at found.one;
        other = subst (λ (j : ℕ). b j ≡ true) at found.other;
      }

  both_here : (from n : ℕ) → a from ≡ true → b from ≡ true → AreBoth a b from (suc n)
  both_here from n p q =
      let at : from ≡ from + 0 = omega arith in
      record { i = 0; low = omega arith; one = subst (λ (j : ℕ). a j ≡ true) at p; other = subst (λ (j : ℕ). b j ≡ true) at q }

  are_both : (from n : ℕ) → n < count_by a (range_with_len from n) + count_by b (range_with_len from n) → AreBoth a b from n
  are_both from zero many = absurd (omega (arith, many))
  are_both from (suc n) many =
      let x = sum_by-cons (λ k. cond (a k) 1 0) from (range_with_len (from + 1) n) in
      let y = sum_by-cons (λ k. cond (b k) 1 0) from (range_with_len (from + 1) n) in
      elim (cases_Bool (a from)) [
        | inl p ↦ elim (cases_Bool (b from)) [
          | inl q ↦ both_here from n p q
          | inr not_b ↦ both_on from n (are_both (from + 1) n (omega (arith, many, x, y, at_most_one (a from), none_of (b from) not_b)))
        ]
        | inr not_a ↦ both_on from n (are_both (from + 1) n (omega (arith, many, x, y, none_of (a from) not_a, at_most_one (b from))))
      ]

-- those beyond the ports count for nothing
few_ports : (r : Redundancy) (a : ℕ → Bool) → ((i : ℕ) → i < 5 → ports_in r ≤ i → a i ≡ false) → count_by a (range_with_len 0 5) ≤ count_by a (range_with_len 0 (ports_in r))
few_ports One a none = omega (arith, none_of (a 1) (none 1 (omega arith) (omega arith)), none_of (a 2) (none 2 (omega arith) (omega arith)), none_of (a 3) (none 3 (omega arith) (omega arith)), none_of (a 4) (none 4 (omega arith) (omega arith)))
few_ports Three a none = omega (arith, none_of (a 3) (none 3 (omega arith) (omega arith)), none_of (a 4) (none 4 (omega arith) (omega arith)))
few_ports Five a none = omega arith

twice : (r : Redundancy) → ports_in r ≡ f_of r + f_of r + 1
twice One = refl
twice Three = refl
twice Five = refl

pub five : (r : Redundancy) → ports_in r ≤ 5
five One = omega arith
five Three = omega arith
five Five = omega arith

pub shared : (r : Redundancy) (a b : ℕ → Bool) → ((i : ℕ) → i < 5 → ports_in r ≤ i → a i ≡ false) → ((i : ℕ) → i < 5 → ports_in r ≤ i → b i ≡ false)
    → f_of r < count_by a (range_with_len 0 5) → f_of r < count_by b (range_with_len 0 5) → (i : ℕ) × (i < 5) × (a i ≡ true) × (b i ≡ true)
shared r a b no_a no_b many_a many_b =
    let found = are_both a b 0 (ports_in r) (omega (arith, few_ports r a no_a, few_ports r b no_b, many_a, many_b, twice r)) in
    let at : 0 + found.i ≡ found.i = omega arith in (
      found.i,
      omega (arith, found.low, five r),
      subst (λ (j : ℕ). a j ≡ true) at found.one,
      subst (λ (j : ℕ). b j ≡ true) at found.other,
    )

-- ---- a line that is not there brings nothing

no_pulses : List Pulse
no_pulses = []

drop_nothing : (n : ℕ) → drop n no_pulses ≡ []
unfolding no_pulses
drop_nothing zero = refl
drop_nothing (suc n) = refl

pub kept_of_nothing : (EndsSo : ℕ → Type 0) (c : ClockRules) (rules : Rules) (o : Option KeptClaim) (pulses : List Pulse) → pulses ≡ [] → IfKept EndsSo c rules o pulses → o ≡ None
unfolding no_pulses
kept_of_nothing EndsSo c rules None pulses e h = refl
kept_of_nothing EndsSo c rules (Some y) pulses e h =
    let none : drop h.2.late pulses ≡ [] = ap (drop h.2.late) e ∙ drop_nothing h.2.late in
    absurd (subst (AreOnTime 100) none h.2.on_time)

pub silent_line : (start : ℕ) (r : Redundancy) (i : ℕ) → ports_in r ≤ i → (calls : List Call) → AreInOrder start r calls → pulses_on i calls ≡ []
silent_line start r i far [] order = refl
silent_line start r i far (Tick now ∷ calls) order = silent_line start r i far calls order.3
silent_line start r i far (Hear port rise width ∷ calls) order =
    let before = silent_line start r i far calls order.2 in
    elim (cases_Bool (i == port)) [
      | inl same ↦ absurd (let at = eqb-true i port same in omega (arith, at, order.0, far))
      | inr other ↦ rw other before
    ]

-- ---- a line behind a pulse

-- of its own
pub own_pulse : (k : Keeping) (port i rise width : ℕ) → i < 5 → is_pulse width ≡ true → i ≡ port → ¬ (place_of (line_at k.state.lines i).sync rise width ≡ 100) → (line_at (after_pulse k port rise width).state.lines i).frame ≡ (line_at k.state.lines i).frame
own_pulse k port i rise width small narrow same inside =
    subst (λ (j : ℕ). (line_at (after_pulse k j rise width).state.lines i).frame ≡ (line_at k.state.lines i).frame) same
    (rw narrow (ap (λ (l : Line). l.frame) (line_same k.state.lines i _ small) ∙ rw (ne_eqb (place_of (line_at k.state.lines i).sync rise width) 100 inside) refl))

-- of another one
pub others_pulse : (k : Keeping) (port i rise width : ℕ) → port < 5 → i < 5 → ¬ (i ≡ port) → line_at (after_pulse k port rise width).state.lines i ≡ line_at k.state.lines i
others_pulse k port i rise width low small other = elim (cases_Bool (is_pulse width)) [
  | inl narrow ↦ rw narrow (line_other k.state.lines port _ i low small other)
  | inr wide ↦ rw wide refl
]

-- ---- what a line keeps behind a tick that took its frame ended a frame later

module _ (new : Keeping) (start : ℕ) (begins : AreLinesAt new new (λ i. []) start start) (c : ClockRules) (i : ℕ) (small : i < 5) where
  abbrev claim_at : List Call → Option KeptClaim
  claim_at calls = claim_kept c (line_at (after_calls new calls).state.lines i).frame

  abbrev whole_at : List Call → ℕ
  whole_at calls = whole_of (pulses_on i calls)

  -- a pulse on this line
  record IsSince (before : ℕ) (calls : List Call) : Type 0 where
    grown : before ≤ whole_at calls
    later : (y : KeptClaim) → claim_at calls ≡ Some y → before + 891000 ≤ whole_at calls

  since : (base : List Call) → claim_at base ≡ None → (later : List Call) (now : ℕ) → AreInOrder start new.clock.redundancy (Tick now ∷ (later ++ base)) → IsSince (whole_at base) (later ++ base)
  since base none [] now order = record { grown = omega arith; later = λ y e. absurd (let both : None ≡ Some y = sym none ∙ e in cc) }
  since base none (Tick time ∷ later) now order =
      let before = since base none later time order.3 in
      record { grown = before.grown; later = λ y e. before.later y (kept_before (after_calls new (later ++ base)) (time % 2 ^ 32) y e) }
    where
      kept_before : (k : Keeping) (clock : ℕ) (y : KeptClaim) → claim_kept c (line_at (after_tick k clock).state.lines i).frame ≡ Some y → claim_kept c (line_at k.state.lines i).frame ≡ Some y
      kept_before k clock y e = elim (ticked k clock) [
        | inl stays ↦
            let same : (line_at (after_tick k clock).state.lines i).frame ≡ still_kept clock (line_at k.state.lines i).frame = ap (λ (l : Lines). (line_at l i).frame) stays ∙ frame_settled clock k.state.lines i small in
            (still c clock (line_at k.state.lines i).frame y (ap (claim_kept c) (sym same) ∙ e)).0
        | inr gives ↦
            let gone : line_taken (line_at (settled clock k.state.lines) i) ≡ line_at (after_tick k clock).state.lines i = line_takes (settled clock k.state.lines) i small ∙ ap (λ (l : Lines). line_at l i) (sym gives) in
            absurd (let both : None ≡ Some y = ap (λ (l : Line). claim_kept c l.frame) gone ∙ e in cc)
      ]
  since base none (Hear port rise width ∷ later) now order =
      let calls : List Call = later ++ base in
      let ordered = unheard start new.clock.redundancy port rise width now calls order in
      let before = since base none later now ordered in
      let k : Keeping = after_calls new calls in
      let l = (lines_after new start begins calls now ordered).lines i small in
      elim (cases_Bool (i == port)) [
        | inr other ↦
            let apart = eqb-false i port other in
            let same = others_pulse k port i (rise % 2 ^ 32) width (omega (arith, order.3.0, five new.clock.redundancy)) small apart in
            stays before (ap (λ (x : Line). claim_kept c x.frame) same) (ap whole_of (others_pulses i port rise width calls other))
        | inl same ↦ elim (cases_Bool (is_pulse width)) [
          | inr wide ↦ stays before (rw wide refl) (ap whole_of (no_pulse i port rise width calls wide))
          | inl narrow ↦
              let at : i ≡ port = eqb-true i port same in
              let pulses : List Pulse = pulses_on i calls in
              let p : Pulse = pulse_at rise width in
              let after : IsAfter pulses rise = subst (λ (j : ℕ). IsAfter (pulses_on j calls) rise) (sym at) (order.3.1 narrow).0 in
              let soon : IsSoon l.told rise = line_soon rise l (has_risen port rise width (now + 4000) calls order.2 narrow) order.1 (after, (order.3.1 narrow).1) in
              let place : place_of (line_at k.state.lines i).sync (rise % 2 ^ 32) width ≡ place_after (p ∷ pulses) = place_at_time (line_at k.state.lines i).sync pulses l.told rise width l.hearing.sync after soon in
              let sorted : AreSorted (p ∷ pulses) = (after, l.sorted) in
              let on : pulses_on i (Hear port rise width ∷ calls) ≡ p ∷ pulses = own_pulses i port rise width calls narrow same in
              elim (cases_Bool (place_after (p ∷ pulses) == 100)) [
                | inl ends ↦
                    let hundred : place_after (p ∷ pulses) ≡ 100 = eqb-true (place_after (p ∷ pulses)) 100 ends in
                    let here : whole_at (Hear port rise width ∷ calls) ≡ rise + 10000 = ap whole_of on ∙ whole_here p pulses hundred in
                    let far = whole_apart p pulses sorted hundred in
                    record { grown = omega (arith, here, far, before.grown); later = λ y e. omega (arith, here, far, before.grown) }
                | inr inside ↦
                    let not_there : ¬ (place_after (p ∷ pulses) ≡ 100) = eqb-false (place_after (p ∷ pulses)) 100 inside in
                    let frame = own_pulse k port i (rise % 2 ^ 32) width small narrow at (λ ends. not_there (sym place ∙ ends)) in
                    stays before (ap (claim_kept c) frame) (ap whole_of on ∙ not_whole p pulses not_there)
              ]
        ]
      ]
    where
      stays : {now then : List Call} → IsSince (whole_at base) now → claim_at then ≡ claim_at now → whole_at then ≡ whole_at now → IsSince (whole_at base) then
      stays {now} {then} before claim whole = record {
        grown = omega (arith, before.grown, whole);
        later = λ y e. (let far = before.later y (sym claim ∙ e) in omega (arith, far, whole));
      }

-- ---- the lines that agree on an edge

pub ranged : (EndsSo : ℕ → Type 0) (c : ClockRules) (rules : Rules) (o : Option KeptClaim) (pulses : List Pulse) (y : KeptClaim) → IfKept EndsSo c rules o pulses → o ≡ Some y → y.end_us < 2 ^ 32
ranged EndsSo c rules None pulses y h e = absurd cc
ranged EndsSo c rules (Some x) pulses y h e =
    let same : x ≡ y = cc in
    let low : x.end_us < 2 ^ 32 = omega (arith, h.1) in
    subst (λ (v : KeptClaim). v.end_us < 2 ^ 32) same low

-- a tick that has a vote takes the frames
takes : (k : Keeping) (clock : ℕ) (v : Vote) → vote_at k clock ≡ Some v → (after_tick k clock).state.lines ≡ taken (settled clock k.state.lines)
takes k clock v e = of (vote_at k clock) e
  where
    either : (b : Bool) (x y : ClockState) (lines : Lines) → x.lines ≡ lines → y.lines ≡ lines → (cond b x y).lines ≡ lines
    either true x y lines p q = p
    either false x y lines p q = q

    of : (o : Option Vote) → o ≡ Some v → (clock_by k.clock k.table (settled_at k.clock k.state clock) clock o).lines ≡ taken (settled clock k.state.lines)
    of None e = absurd cc
    of (Some x) e = either (edges_to_vote k.state.edge_us x.edge_us == 0) _ _ _ refl refl

-- the edge of a vote lies about the last time of the frame that makes it
pub record LiesAbout (c : ClockRules) (e time : ℕ) : Type 0 where
  pub edge : ℕ
  pub clock : e ≡ edge % 2 ^ 32
  pub least : time ≤ edge + widest_us c
  pub most : edge ≤ time + widest_us c

pub lies_about : (c : ClockRules) (all : List (Option KeptClaim)) (v : Vote) (x : KeptClaim) → IsVoteOf c all v x → (time : ℕ) → last_us x ≡ time % 2 ^ 32 → 3000 ≤ time → LiesAbout c v.edge_us time
lies_about c all v x p time at some = record {
  edge = time + (p.before + p.behind) / 2 - p.before;
  clock = ap (λ (z : Vote). z.edge_us) p.is ∙ wrapped (last_us x) p.before p.behind at (omega (arith, p.before_most, reach_few c));
  least = omega (arith, p.before_most);
  most = omega (arith, p.before_most, p.behind_most);
}
  where
    wrapped : (e before behind : ℕ) → e ≡ time % 2 ^ 32 → before ≤ 2898 → (e + 2 ^ 32 - before + (before + behind) / 2) % 2 ^ 32 ≡ (time + (before + behind) / 2 - before) % 2 ^ 32
    wrapped e before behind at low = omega (arith, at, low, some)

module _ (new : Keeping) (start : ℕ) (begins : AreLinesAt new new (λ i. []) start start) where
  module _ (calls : List Call) (now : ℕ) (order : AreInOrder start new.clock.redundancy (Tick now ∷ calls)) where
    abbrev pub clock : ℕ
    clock = now % 2 ^ 32

    abbrev pub lines : Lines
    lines = (after_calls new calls).state.lines

    abbrev pub rules : ClockRules
    rules = (after_calls new calls).clock

    abbrev pub f : ℕ
    f = f_of (after_calls new calls).clock.redundancy

    abbrev pub reach : ℕ
    reach = reach_us (after_calls new calls).clock

    few : widest_us (after_calls new calls).clock ≤ 1449
    few = widest_few (after_calls new calls).clock

    -- what a line keeps
    pub kept_by : (i : ℕ) → i < 5 → (y : KeptClaim) → claim_kept rules (line_at (settled clock lines) i).frame ≡ Some y → (claim_kept rules (line_at lines i).frame ≡ Some y) × (is_late y.end_us clock ≡ false)
    kept_by i small y e = still rules clock (line_at lines i).frame y (ap (claim_kept rules) (sym (frame_settled clock lines i small)) ∙ e)

    -- a frame on which more than f lines agree, and that one of them keeps
    pub record IsCandidateAt (x : KeptClaim) : Type 0 where
      pub counts : is_candidate f x (all_kept rules (settled clock lines)) ≡ true
      pub range : x.end_us < 2 ^ 32
      pub i : ℕ
      pub small : i < 5
      pub keeps : claim_kept rules (line_at (settled clock lines) i).frame ≡ Some x

    pub record IsKeptThere (x : KeptClaim) : Type 0 where
      pub range : x.end_us < 2 ^ 32
      pub i : ℕ
      pub small : i < 5
      pub keeps : claim_kept rules (line_at (settled clock lines) i).frame ≡ Some x

    pub there_at : (i : ℕ) → i < 5 → (y : KeptClaim) → claim_kept rules (line_at (settled clock lines) i).frame ≡ Some y → IsKeptThere y
    there_at i small y e = record {
      range = ranged (IsEndAt (pulses_on i calls) (last_tick start calls) now) rules (after_calls new calls).rules (claim_kept rules (line_at lines i).frame) (pulses_on i calls) y ((lines_after new start begins calls now order).lines i small).kept (kept_by i small y e).0;
      i = i;
      small = small;
      keeps = e;
    }

    all_there : EachKept IsKeptThere (all_kept rules (settled clock lines))
    all_there =
        one_more IsKeptThere _ _ (there_at 0 (omega arith))
        (one_more IsKeptThere _ _ (there_at 1 (omega arith))
        (one_more IsKeptThere _ _ (there_at 2 (omega arith))
        (one_more IsKeptThere _ _ (there_at 3 (omega arith))
        (one_more IsKeptThere _ _ (there_at 4 (omega arith)) tt))))

    -- the vote is of the candidate whose last time comes first
    pub record IsAgreedOn (v : Vote) : Type 0 where
      pub x : KeptClaim
      pub is : IsCandidateAt x
      pub first : first_candidate reach f (all_kept rules (settled clock lines)) (all_kept rules (settled clock lines)) None ≡ Some x
      pub parts : IsVoteOf rules (all_kept rules (settled clock lines)) v x

    pub agreed_on : (v : Vote) → agreed rules (settled clock lines) ≡ Some v → IsAgreedOn v
    agreed_on v e =
        let all = all_kept rules (settled clock lines) in
        let first = agreed_first rules (settled clock lines) v e in
        let one = is_one IsKeptThere reach f all all first.0 all_there first.1 in
        record {
          x = first.0;
          is = record { counts = one.0; range = one.1.range; i = one.1.i; small = one.1.small; keeps = one.1.keeps };
          first = first.1;
          parts = vote_of rules (settled clock lines) v first.0 one.0 first.2;
        }

    module _ (x : KeptClaim) (is : IsCandidateAt x) where
      pub half : IsHalf rules x
      half = half_kept rules (line_at (settled clock lines) is.i).frame x is.keeps

      abbrev pub agreeing : ℕ → Bool
      agreeing i = agrees x (claim_kept rules (line_at (settled clock lines) i).frame)

      pub many : f_of new.clock.redundancy < count_by agreeing (range_with_len 0 5)
      many =
          let same : f ≡ f_of new.clock.redundancy = ap (λ (c : ClockRules). f_of c.redundancy) (lines_after new start begins calls now order).same.clock in
          let counted = ltb-true f (count_by (agrees x) (all_kept rules (settled clock lines))) is.counts in
          omega (arith, counted, same)

      pub absent : (i : ℕ) → i < 5 → ports_in new.clock.redundancy ≤ i → agreeing i ≡ false
      absent i small far = of (claim_kept rules (line_at (settled clock lines) i).frame) refl
        where
          of : (o : Option KeptClaim) → claim_kept rules (line_at (settled clock lines) i).frame ≡ o → agrees x o ≡ false
          of None e = refl
          of (Some y) e =
              let l = (lines_after new start begins calls now order).lines i small in
              let none = kept_of_nothing (IsEndAt (pulses_on i calls) (last_tick start calls) now) rules (after_calls new calls).rules (claim_kept rules (line_at lines i).frame) (pulses_on i calls) (silent_line start new.clock.redundancy i far calls order.3) l.kept in
              absurd (let both : None ≡ Some y = sym none ∙ (kept_by i small y e).0 in cc)

      -- a line that agrees keeps a frame whose edge may lie at the last time of this one
      pub record IsAgreeing (i : ℕ) : Type 0 where
        pub y : KeptClaim
        pub keeps : claim_kept rules (line_at lines i).frame ≡ Some y
        pub settled_keeps : claim_kept rules (line_at (settled clock lines) i).frame ≡ Some y
        pub same : same_claim x.claim y.claim ≡ true
        pub ends : y.end_us ≡ whole_of (pulses_on i calls) % 2 ^ 32
        pub half_of : IsHalf rules y
        pub near : clock_gap (first_us y) (last_us x) ≤ 2 * y.half_us
        pub ahead : whole_of (pulses_on i calls) ≤ now + 14000
        pub soon : now ≤ whole_of (pulses_on i calls) + 100000
        pub low : 10000 ≤ whole_of (pulses_on i calls)

      pub agreed_by : (i : ℕ) → i < 5 → agreeing i ≡ true → IsAgreeing i
      agreed_by i small agree = of (claim_kept rules (line_at (settled clock lines) i).frame) refl agree
        where
          of : (o : Option KeptClaim) → claim_kept rules (line_at (settled clock lines) i).frame ≡ o → agrees x o ≡ true → IsAgreeing i
          of None e agree = absurd cc
          of (Some y) e agree =
              let l = (lines_after new start begins calls now order).lines i small in
              let keeps = kept_by i small y e in
              let h = subst (λ (o : Option KeptClaim). IfKept (IsEndAt (pulses_on i calls) (last_tick start calls) now) (after_calls new calls).clock (after_calls new calls).rules o (pulses_on i calls)) keeps.0 l.kept in
              let whole : h.0 ≡ whole_of (pulses_on i calls) = h.3.2 in
              let ends : y.end_us ≡ whole_of (pulses_on i calls) % 2 ^ 32 = h.1 ∙ ap (λ (x : ℕ). x % 2 ^ 32) whole in
              let ahead : whole_of (pulses_on i calls) ≤ now + 14000 = omega (arith, whole, h.3.0) in
              let turn : now + 14000 < whole_of (pulses_on i calls) + 2 ^ 32 = omega (arith, whole, h.3.1, order.1) in
              let both = agreeing_is x y agree in
              record {
                y = y;
                keeps = keeps.0;
                settled_keeps = e;
                same = both.0;
                ends = ends;
                half_of = half_kept rules (line_at (settled clock lines) i).frame y e;
                near = both.1;
                ahead = ahead;
                soon = not_late (whole_of (pulses_on i calls)) now ahead turn (subst (λ (e : ℕ). is_late e clock ≡ false) ends keeps.1);
                low = omega (arith, whole, last_late h.0 (drop h.2.late (pulses_on i calls)) h.2.last);
              }

      -- so the last time of the candidate is this one
      pub record EndsAt (time : ℕ) : Type 0 where
        pub clock : last_us x ≡ time % 2 ^ 32
        pub ahead : time ≤ now + 15449
        pub soon : now ≤ time + 101449
        pub low : 8000 ≤ time

      exact_end : (i : ℕ) → i < 5 → agreeing i ≡ true → (time : ℕ) × EndsAt time × (time ≤ whole_of (pulses_on i calls) + 1449) × (whole_of (pulses_on i calls) ≤ time + 1449)
      exact_end i small agree =
          let a = agreed_by i small agree in
          let end : ℕ = whole_of (pulses_on i calls) in
          let half : ℕ = a.y.half_us in
          let gap : ℕ = clock_gap (first_us a.y) (last_us x) in
          let narrow : half ≤ 1449 = omega (arith, a.half_of.1, few) in
          let first = first_at a.y.end_us half end a.ends (omega (arith, a.low, narrow)) narrow in (
            end - half + gap,
            record {
              clock = exact_time (last_us x) (end - half) (first_us a.y) (omega arith) first;
              ahead = omega (arith, a.ahead, a.near, a.low, narrow);
              soon = omega (arith, a.soon, a.near, a.low, narrow);
              low = omega (arith, a.near, a.low, narrow);
            },
            omega (arith, a.near, a.low, narrow),
            omega (arith, a.near, a.low, narrow),
          )
        where
          first_at : (e half end : ℕ) → e ≡ end % 2 ^ 32 → half ≤ end → half ≤ 1449 → (e + 2 ^ 32 - half) % 2 ^ 32 ≡ (end - half) % 2 ^ 32
          first_at e half end at some narrow = omega (arith, at, some, narrow)

      pub ends_at : (time : ℕ) × EndsAt time
      ends_at =
          let one = shared new.clock.redundancy agreeing agreeing absent absent many many in
          let e = exact_end one.0 one.1 one.2 in
          (e.0, e.1)

      -- each that agrees ended about there
      pub near_end : (time : ℕ) → EndsAt time → (i : ℕ) → i < 5 → agreeing i ≡ true → (time ≤ whole_of (pulses_on i calls) + 1449) × (whole_of (pulses_on i calls) ≤ time + 1449)
      near_end time at i small agree =
          let e = exact_end i small agree in
          let same : e.0 ≡ time = one_end (last_us x) e.0 time e.1.clock at.clock (omega (arith, e.1.ahead, at.soon)) (omega (arith, at.ahead, e.1.soon)) in
          (omega (arith, same, e.2), omega (arith, same, e.3))
        where
          one_end : (e x y : ℕ) → e ≡ x % 2 ^ 32 → e ≡ y % 2 ^ 32 → x ≤ y + 200000 → y ≤ x + 200000 → x ≡ y
          one_end e x y p q near far = omega (arith, p, q, near, far)

  module _ (calls : List Call) (now : ℕ) (order : AreInOrder start new.clock.redundancy (Tick now ∷ calls)) (v : Vote) (voted : vote_at (after_calls new calls) (now % 2 ^ 32) ≡ Some v) where
    there : (agreed (rules calls now order) (settled (now % 2 ^ 32) (lines calls now order)) ≡ Some v) × (has_come v.edge_us (now % 2 ^ 32) ≡ true)
    there = come (now % 2 ^ 32) (agreed (rules calls now order) (settled (now % 2 ^ 32) (lines calls now order))) v voted

    on : IsAgreedOn calls now order v
    on = agreed_on calls now order v there.0

    end : (time : ℕ) × EndsAt calls now order on.x on.is time
    end = ends_at calls now order on.x on.is

    lies : LiesAbout (rules calls now order) v.edge_us end.0
    lies = lies_about (rules calls now order) (all_kept (rules calls now order) (settled (now % 2 ^ 32) (lines calls now order))) v on.x on.parts end.0 end.1.clock (omega (arith, end.1.low))

    narrows : widest_us (rules calls now order) ≤ 1449
    narrows = widest_few (rules calls now order)

    has : (lies.edge ≤ now) × (now ≤ lies.edge + 103000)
    has =
        let few = leb-true (clock_gap v.edge_us (now % 2 ^ 32)) 103000 there.1 in
        has_come_so v.edge_us lies.edge lies.clock (omega (arith, lies.most, end.1.ahead, narrows)) (omega (arith, lies.least, end.1.soon, narrows)) few
      where
        has_come_so : (e edge : ℕ) → e ≡ edge % 2 ^ 32 → edge ≤ now + 17000 → now ≤ edge + 103000 → clock_gap e (now % 2 ^ 32) ≤ 103000 → (edge ≤ now) × (now ≤ edge + 103000)
        has_come_so e edge clock ahead soon few = (omega (arith, clock, ahead, soon, few), omega (arith, clock, ahead, soon, few))

    at_edge : IsEdgeAt v.edge_us lies.edge now
    at_edge = record { clock = lies.clock; come = has.0; soon = omega (arith, has.1) }

    -- the edge that is voted has come
    pub edge_of : (edge : ℕ) × IsEdgeAt v.edge_us edge now × (now ≤ edge + 103000) × (6000 ≤ edge)
    edge_of = (lies.edge, at_edge, has.1, omega (arith, lies.least, end.1.low, narrows))

    -- a line that agrees ended about the edge
    record IsVoter (V i : ℕ) : Type 0 where
      y : KeptClaim
      keeps : claim_kept (rules calls now order) (line_at (lines calls now order) i).frame ≡ Some y
      least : V ≤ whole_of (pulses_on i calls) + 2898
      most : whole_of (pulses_on i calls) ≤ V + 2898

    voter : (V : ℕ) → IsEdgeAt v.edge_us V now → (i : ℕ) → i < 5 → agreeing calls now order on.x on.is i ≡ true → IsVoter V i
    voter V at i small agree =
        let a = agreed_by calls now order on.x on.is i small agree in
        let same : lies.edge ≡ V = same_edge v.edge_us lies.edge V now at_edge at in
        let near = near_end calls now order on.x on.is end.0 end.1 i small agree in
        record { y = a.y; keeps = a.keeps; least = omega (arith, same, lies.most, near.0, narrows); most = omega (arith, same, lies.least, near.1, narrows) }

  -- two votes share a line, whose frames lie a frame apart
  pub votes_apart : (earlier later : List Call) (before now : ℕ) (v v' : Vote) (V V' : ℕ) → AreInOrder start new.clock.redundancy (Tick now ∷ (later ++ (Tick before ∷ earlier)))
      → vote_at (after_calls new earlier) (before % 2 ^ 32) ≡ Some v → IsEdgeAt v.edge_us V before
      → vote_at (after_calls new (later ++ (Tick before ∷ earlier))) (now % 2 ^ 32) ≡ Some v' → IsEdgeAt v'.edge_us V' now → V + 885000 ≤ V'
  votes_apart earlier later before now v v' V V' order voted at voted' at' =
      let base : List Call = Tick before ∷ earlier in
      let calls : List Call = later ++ base in
      let ordered = order_before start new.clock.redundancy later base order.3 in
      let p = on earlier before ordered v voted in
      let q = on calls now order v' voted' in
      let one = shared new.clock.redundancy (agreeing earlier before ordered p.x p.is) (agreeing calls now order q.x q.is) (absent earlier before ordered p.x p.is) (absent calls now order q.x q.is) (many earlier before ordered p.x p.is) (many calls now order q.x q.is) in
      let i : ℕ = one.0 in
      let first = voter earlier before ordered v voted V at i one.1 one.2 in
      let second = voter calls now order v' voted' V' at' i one.1 one.3 in
      let gone : claim_kept (rules calls now order) (line_at (after_calls new base).state.lines i).frame ≡ None =
      ap (λ (l : Lines). claim_kept (rules calls now order) (line_at l i).frame) (takes (after_calls new earlier) (before % 2 ^ 32) v voted)
      ∙ ap (λ (l : Line). claim_kept (rules calls now order) l.frame) (sym (line_takes (settled (before % 2 ^ 32) (after_calls new earlier).state.lines) i one.1)) in
      let far = (since new start begins (rules calls now order) i one.1 base gone later now order).later second.y second.keeps in
      omega (arith, first.least, second.most, far)

  -- ---- one edge and a later one

  -- it was set by a vote
  pub record IsSetByVote (edge : ℕ) (calls : List Call) : Type 0 where
    pub earlier : List Call
    pub later : List Call
    pub before : ℕ
    pub v : Vote
    pub are : calls ≡ later ++ (Tick before ∷ earlier)
    pub voted : vote_at (after_calls new earlier) (before % 2 ^ 32) ≡ Some v
    pub at : IsEdgeAt v.edge_us edge before

  pub set_before : (edge : ℕ) (call : Call) (calls : List Call) → IsSetByVote edge calls → IsSetByVote edge (call ∷ calls)
  set_before edge call calls set = record { earlier = set.earlier; later = call ∷ set.later; before = set.before; v = set.v; are = ap (λ (x : List Call). call ∷ x) set.are; voted = set.voted; at = set.at }

  -- the last edge that was told lies at A or behind; lines may have set the edge back since
  abbrev pub IsPaced : ℕ → List Call → Option ℕ → Type 0
  IsPaced A calls None = A ≡ 0
  IsPaced A calls (Some e) = (edge : ℕ) × IsEdgeAt e edge (last_tick start calls) × ((A ≤ edge) ⊎ ((A ≤ edge + 103000) × IsSetByVote edge calls))

  -- a tick tells an edge that lies half a second behind A, and goes on from there
  pub record TellsLater (A now : ℕ) (calls : List Call) (o : Option ℕ) (b : Beat) : Type 0 where
    pub edge : ℕ
    pub at : IsEdgeAt b.edge_us edge now
    pub some : 1 ≤ edge
    pub later : (A ≡ 0) ⊎ (A + 500000 ≤ edge)
    pub on : IsPaced edge (Tick now ∷ calls) o

  pub record IsPacedTick (A now : ℕ) (calls : List Call) (o : Option ℕ) (answer : Option Beat) : Type 0 where
    pub next : IsPaced A (Tick now ∷ calls) o
    pub told : (b : Beat) → answer ≡ Some b → TellsLater A now calls o b

  module _ (A : ℕ) (calls : List Call) (now : ℕ) (order : AreInOrder start new.clock.redundancy (Tick now ∷ calls)) where
    abbrev k : Keeping
    k = after_calls new calls

    abbrev s : ClockState
    s = settled_at k.clock k.state (now % 2 ^ 32)

    abbrev tick : ℕ
    tick = last_tick start calls

    ordered : tick ≤ now
    ordered = order.0

    soon : now ≤ tick + 1800000000
    soon = omega (arith, order.1)

    -- an edge that is told
    tells : (e edge : ℕ) (b : Beat) → IsEdgeAt e edge now → 1 ≤ edge → (A ≡ 0) ⊎ (A + 500000 ≤ edge) → b.edge_us ≡ e → TellsLater A now calls (Some e) b
    tells e edge b at some later same = record {
      edge = edge;
      at = subst (λ (x : ℕ). IsEdgeAt x edge now) (sym same) at;
      some = some;
      later = later;
      on = (edge, at, inl (omega arith));
    }

    -- by the own counter
    own : (o : Option ℕ) → IsPaced A calls o → (n : ℕ) → n ≡ edges_own s.pace o (now % 2 ^ 32) → IsPacedTick A now calls (after_own k.clock k.table (record s { edge_us = o }) n).edge_us (answer_alone k.clock k.table (record s { edge_us = o }) n)
    own None paced n same =
        let none : (n == 0) ≡ true = ap (λ (x : ℕ). x == 0) same in
        rw none (record { next = paced; told = λ b e. absurd cc })
    own (Some e) paced n same =
        let edge : ℕ = paced.0 in
        let at = paced.1 in
        let count = same ∙ own_count tick now ordered soon e edge at s.pace in
        elim (cases_Bool (n == 0)) [
          | inl waits ↦
              let none : n ≡ 0 = eqb-true n 0 waits in
              let stays : (A ≤ edge) ⊎ ((A ≤ edge + 103000) × IsSetByVote edge (Tick now ∷ calls)) = elim paced.2 [ inl low ↦ inl low | inr set ↦ inr (set.0, set_before edge (Tick now) calls set.1) ] in
              rw waits (record { next = (edge, still_edge tick now ordered soon e edge at s.pace (sym count ∙ none), stays); told = λ b e. absurd cc })
          | inr more ↦
              let some : 1 ≤ n = omega (arith, eqb-false n 0 more) in
              let near : A ≤ edge + 103000 = elim paced.2 [ inl low ↦ omega (arith, low) | inr set ↦ set.0 ] in
              let sound = settled_sound k (lines_after new start begins calls now order).sound (now % 2 ^ 32) in
              let then = own_edge_at tick now ordered soon e edge at s.pace sound n count some in
              let long = (lasts_so s.pace sound n).least in
              rw more (record {
                next = (edge + ahead_us s.pace n, then, inl (omega (arith, near, some, long)));
                told = λ b answer.
                    let beat : b ≡ beat_by k.clock (record s { edge_us = Some e }) false (step_to k.clock k.table (record s { edge_us = Some e }) n None) (n - 1) (own_edge s.pace (Some e) n) s.bound_us = cc in
                    tells (edge_on s.pace e n) (edge + ahead_us s.pace n) b then (omega (arith, some, long)) (inr (omega (arith, near, some, long))) (ap (λ (x : Beat). x.edge_us) beat);
              })
        ]

    -- by a vote
    by_vote : (v : Vote) → vote_at k (now % 2 ^ 32) ≡ Some v → (o : Option ℕ) → IsPaced A calls o → (n : ℕ) → n ≡ edges_to_vote o v.edge_us
        → IsPacedTick A now calls (after_vote k.clock k.table (record s { edge_us = o }) v n).edge_us (answer_to_vote k.clock k.table (record s { edge_us = o }) v n)
    by_vote v voted None paced n same =
        let V = edge_of calls now order v voted in
        let some : (n == 0) ≡ false = ap (λ (x : ℕ). x == 0) same in
        rw some (record {
          next = (V.0, V.1, inl (omega (arith, paced)));
          told = λ b answer.
              let beat : b ≡ beat_by k.clock (record s { edge_us = None }) (against_table k.table (Some v.claim)) (step_to k.clock k.table (record s { edge_us = None }) n (Some v.claim)) (n - 1) v.edge_us v.bound_us = cc in
              tells v.edge_us V.0 b V.1 (omega (arith, V.3)) (inl paced) (ap (λ (x : Beat). x.edge_us) beat);
        })
    by_vote v voted (Some e) paced n same =
        let edge : ℕ = paced.0 in
        let at = paced.1 in
        let V = edge_of calls now order v voted in
        let count : n ≡ edges_between edge V.0 = same ∙ voted_count tick now ordered soon e edge at v.edge_us V.0 V.1 V.2 in
        let behind : (A ≤ edge) ⊎ ((A ≤ edge + 103000) × (edge + 885000 ≤ V.0)) = elim paced.2 [
          | inl low ↦ inl low
          | inr set ↦ inr (set.0, votes_behind now v V.0 edge set.1 order voted V.1)
        ] in
        elim (cases_Bool (n == 0)) [
          | inl waits ↦
              let none : n ≡ 0 = eqb-true n 0 waits in
              let back : A ≤ V.0 + 103000 = elim behind [ inl low ↦ omega (arith, low, at.come, ordered, V.2) | inr set ↦ absurd (omega (arith, set.1, count, none)) ] in
              let set : IsSetByVote V.0 (Tick now ∷ calls) = record { earlier = calls; later = []; before = now; v = v; are = refl; voted = voted; at = V.1 } in
              rw waits (record { next = (V.0, V.1, inr (back, set)); told = λ b e. absurd cc })
          | inr more ↦
              let some : 1 ≤ n = omega (arith, eqb-false n 0 more) in
              let far : A + 500000 ≤ V.0 = elim behind [ inl low ↦ omega (arith, low, count, some) | inr set ↦ omega (arith, set.0, set.1) ] in
              rw more (record {
                next = (V.0, V.1, inl (omega (arith, far)));
                told = λ b answer.
                    let beat : b ≡ beat_by k.clock (record s { edge_us = Some e }) (against_table k.table (Some v.claim)) (step_to k.clock k.table (record s { edge_us = Some e }) n (Some v.claim)) (n - 1) v.edge_us v.bound_us = cc in
                    tells v.edge_us V.0 b V.1 (omega (arith, V.3)) (inr far) (ap (λ (x : Beat). x.edge_us) beat);
              })
        ]
      where
        votes_behind : (now : ℕ) (v : Vote) (V edge : ℕ) → (set : IsSetByVote edge calls) → AreInOrder start new.clock.redundancy (Tick now ∷ calls) → vote_at (after_calls new calls) (now % 2 ^ 32) ≡ Some v → IsEdgeAt v.edge_us V now → edge + 885000 ≤ V
        votes_behind now v V edge set order voted at =
            votes_apart set.earlier set.later set.before now set.v v edge V
            (subst (λ (x : List Call). AreInOrder start new.clock.redundancy (Tick now ∷ x)) set.are order) set.voted set.at
            (subst (λ (x : List Call). vote_at (after_calls new x) (now % 2 ^ 32) ≡ Some v) set.are voted) at

    pub paced_tick : IsPaced A calls k.state.edge_us → IsPacedTick A now calls (after_tick k (now % 2 ^ 32)).state.edge_us (answer_at k (now % 2 ^ 32))
    paced_tick paced = of (vote_at k (now % 2 ^ 32)) refl
      where
        of : (o : Option Vote) → vote_at k (now % 2 ^ 32) ≡ o → IsPacedTick A now calls (clock_by k.clock k.table s (now % 2 ^ 32) o).edge_us (answer_by k.clock k.table s (now % 2 ^ 32) o)
        of None e = own k.state.edge_us paced _ refl
        of (Some v) e = by_vote v e k.state.edge_us paced _ refl

  -- over calls
  pub paced_on : (A : ℕ) (base : List Call) → IsPaced A base (after_calls new base).state.edge_us → (later : List Call) → AreInOrder start new.clock.redundancy (later ++ base) → IsPaced A (later ++ base) (after_calls new (later ++ base)).state.edge_us
  paced_on A base paced [] order = paced
  paced_on A base paced (Tick now ∷ later) order = (paced_tick A (later ++ base) now order (paced_on A base paced later order.3)).next
  paced_on A base paced (Hear port rise width ∷ later) order =
      hears_on (Hear port rise width) (after_calls new (later ++ base)).state.edge_us (after_calls new (Hear port rise width ∷ (later ++ base))).state.edge_us (stays (after_calls new (later ++ base)) port (rise % 2 ^ 32) width) refl (paced_on A base paced later order.2)
    where
      stays : (k : Keeping) (port rise width : ℕ) → (after_pulse k port rise width).state.edge_us ≡ k.state.edge_us
      stays k port rise width = elim (cases_Bool (is_pulse width)) [ inl narrow ↦ rw narrow refl | inr wide ↦ rw wide refl ]

      hears_on : (call : Call) (o o' : Option ℕ) → o' ≡ o → last_tick start (call ∷ (later ++ base)) ≡ last_tick start (later ++ base) → IsPaced A (later ++ base) o → IsPaced A (call ∷ (later ++ base)) o'
      hears_on call None o' same tick paced = subst (IsPaced A (call ∷ (later ++ base))) (sym same) paced
      hears_on call (Some e) o' same tick paced =
          subst (IsPaced A (call ∷ (later ++ base))) (sym same) (
            paced.0,
            subst (IsEdgeAt e paced.0) (sym tick) paced.1,
            elim paced.2 [ inl low ↦ inl low | inr set ↦ inr (set.0, set_before paced.0 call (later ++ base) set.1) ],
          )

  -- one edge and a later one
  pub edges_apart : new.state.edge_us ≡ None → (earlier later : List Call) (before now : ℕ) (b b' : Beat) → AreInOrder start new.clock.redundancy (Tick now ∷ (later ++ (Tick before ∷ earlier)))
      → answer_at (after_calls new earlier) (before % 2 ^ 32) ≡ Some b → answer_at (after_calls new (later ++ (Tick before ∷ earlier))) (now % 2 ^ 32) ≡ Some b' → AreApartBeats before now b b'
  edges_apart fresh earlier later before now b b' order answer answer' =
      let base : List Call = Tick before ∷ earlier in
      let ordered = order_before start new.clock.redundancy later base order.3 in
      let none : earlier ++ [] ≡ earlier = append-nil earlier in
      let from_new : IsPaced 0 [] new.state.edge_us = subst (IsPaced 0 []) (sym fresh) refl in
      let first = paced_on 0 [] from_new earlier (subst (AreInOrder start new.clock.redundancy) (sym none) ordered.3) in
      let paced = subst (λ (x : List Call). IsPaced 0 x (after_calls new x).state.edge_us) none first in
      let one = (paced_tick 0 earlier before ordered paced).told b answer in
      let then = paced_on one.edge base one.on later order.3 in
      let two = (paced_tick one.edge (later ++ base) now order then).told b' answer' in
      record {
        edge = one.edge;
        later = two.edge;
        told = one.at;
        told_later = two.at;
        apart = elim two.later [ inl none ↦ absurd (omega (arith, none, one.some)) | inr far ↦ far ];
      }
