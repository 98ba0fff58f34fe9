-- How long a device waits at most, in a life in order.
use Rattle.std.specs.Prelude.{nat_lt}
use Rattle.std.proofs.Common.{◌≡◌, ◌∙◌, ◌∷◌, ◌++◌, [], ◌+◌, ◌/◌, ◌%◌, ◌^◌, ◌<◌, ◌≤◌, ℕ, Bool, true, false, cond, List, Option, Some, None, refl, sym, ap, subst, arith, append-nil, ◌-◌}
use Rattle.std.proofs.lemmas.Bool.{ltb-false, ltb-true}
use Rattle.irig_sync.specs.Lines.{Pulse}
use Rattle.irig_sync.specs.Sync.{clock_gap}
use Rattle.irig_time.specs.declared.rules.Rules.{Rules}
use Rattle.irig_vote.specs.Vote.{f_of}
use Rattle.irig_lines.specs.declared.lines.KeptClaim.{KeptClaim}
use Rattle.irig_lines.specs.declared.lines.Lines.{Lines}
use Rattle.irig_lines.specs.declared.lines.Vote.{Vote}
use Rattle.irig_lines.specs.declared.setup.ClockRules.{ClockRules}
use Rattle.irig_lines.specs.Widths.{reach_us}
use Rattle.irig_lines.specs.Counting.{is_late}
use Rattle.irig_timekeeper.specs.Keeping.{Keeping, wait_at}
use Rattle.irig_timekeeper.specs.Life.{Call, Made, AreInOrder, after_calls, device_of, last_tick, life_of, pulses_on}
use Rattle.irig_timekeeper.specs.Life.Call.{Tick}
use Rattle.irig_lines.specs.Lines.{IfKept}
use Rattle.irig_lines.specs.Steps.{agreed, all_kept, claim_kept, line_at, settled, still_kept, until, wait_by}
use Rattle.irig_timekeeper.specs.Truth.{IfEdgeAt}
use Rattle.irig_lines.proofs.AgreeLaws.{EachKept, is_one}
use Rattle.irig_lines.proofs.PartLaws.{IsHalf, half_kept, one_more, agreed_first, vote_of}
use Rattle.irig_lines.proofs.WidthLaws.{widest_few, reach_few}
use Rattle.irig_timekeeper.proofs.LifeLaws.{AreLinesAt, begins, lines_after, IsEndAt}
use Rattle.irig_timekeeper.proofs.OrderLaws.{IsPaced, paced_on}
use Rattle.irig_timekeeper.proofs.VoteLaws.{still}

-- ---- the last edge, in a life

pub edge_in_life : (made : Made) (start : ℕ) (calls : List Call) → AreInOrder start made.clock.redundancy calls → IfEdgeAt (life_of made calls).state.edge_us (last_tick start calls)
edge_in_life made start calls order = of (life_of made calls).state.edge_us paced
  where
    new : Keeping
    new = device_of made

    begun : AreLinesAt (device_of made) (device_of made) (λ i. []) start start
    begun = begins made.rules made.clock made.table made.lines start made.fresh

    none : calls ++ [] ≡ calls
    none = append-nil calls

    paced : IsPaced (device_of made) start begun 0 calls (life_of made calls).state.edge_us
    paced = subst (λ (x : List Call). IsPaced (device_of made) start begun 0 x (after_calls (device_of made) x).state.edge_us) none
        (paced_on (device_of made) start begun 0 [] refl calls (subst (AreInOrder start made.clock.redundancy) (sym none) order))

    of : (o : Option ℕ) → IsPaced (device_of made) start begun 0 calls o → IfEdgeAt o (last_tick start calls)
    of None h = tt
    of (Some e) h = (h.0, h.1)

-- ---- the frame that makes a vote is not late

IsTimely : (c : ClockRules) (clock : ℕ) → KeptClaim → Type 0
IsTimely c clock y = (is_late y.end_us clock ≡ false) × (y.end_us < 2 ^ 32) × IsHalf c y

of_clock : (EndsSo : ℕ → Type 0) (c : ClockRules) (rules : Rules) (kept : Option KeptClaim) (pulses : List Pulse) (y : KeptClaim) → IfKept EndsSo c rules kept pulses → kept ≡ Some y → y.end_us < 2 ^ 32
of_clock EndsSo c rules None pulses y h e = absurd cc
of_clock EndsSo c rules (Some x) pulses y h e =
    let same : x ≡ y = cc in
    subst (λ (v : KeptClaim). v.end_us < 2 ^ 32) same (omega (arith, h.1))

-- and the edge lies at most 2,898 us behind its end, or before it
until_vote : (e end behind now : ℕ) → is_late end (now % 2 ^ 32) ≡ false → end < 2 ^ 32 → behind ≤ 5796 → e ≡ (end + 2 ^ 32 - 2898 + behind) % 2 ^ 32 → until (now % 2 ^ 32) e ≤ 17000
until_vote e end behind now timely range few at = of (nat_lt (clock_gap (now % 2 ^ 32) e) (2 ^ 31)) refl
  where
    near : (e end now : ℕ) → end < 2 ^ 32 → now < 2 ^ 32 → e ≡ (end + 2 ^ 32 - 2898 + behind) % 2 ^ 32 → (clock_gap end now + 14000) % 2 ^ 32 ≤ 114000 → clock_gap now e < 2 ^ 31 → clock_gap now e ≤ 17000
    near e end now range clock at timely low = omega (arith, range, clock, at, few, timely, low)

    of : (test : Bool) → nat_lt (clock_gap (now % 2 ^ 32) e) (2 ^ 31) ≡ test → cond test (clock_gap (now % 2 ^ 32) e) 0 ≤ 17000
    of true h = near e end (now % 2 ^ 32) range (omega arith) at (ltb-false 114000 ((clock_gap end (now % 2 ^ 32) + 14000) % 2 ^ 32) timely) (ltb-true (clock_gap (now % 2 ^ 32) e) (2 ^ 31) h)
    of false h = omega arith

until_edge : (e edge now : ℕ) → e ≡ edge % 2 ^ 32 → edge ≤ now → now ≤ edge + 1801006000 → until (now % 2 ^ 32) ((e + 1006000) % 2 ^ 32) ≤ 1006000
until_edge e edge now clock come soon = of (nat_lt (clock_gap (now % 2 ^ 32) ((e + 1006000) % 2 ^ 32)) (2 ^ 31)) refl
  where
    near : (e edge now : ℕ) → e ≡ edge % 2 ^ 32 → edge ≤ now → now ≤ edge + 1801006000 → clock_gap (now % 2 ^ 32) ((e + 1006000) % 2 ^ 32) < 2 ^ 31 → clock_gap (now % 2 ^ 32) ((e + 1006000) % 2 ^ 32) ≤ 1006000
    near e edge now clock come soon low = omega (arith, clock, come, soon, low)

    of : (test : Bool) → nat_lt (clock_gap (now % 2 ^ 32) ((e + 1006000) % 2 ^ 32)) (2 ^ 31) ≡ test → cond test (clock_gap (now % 2 ^ 32) ((e + 1006000) % 2 ^ 32)) 0 ≤ 1006000
    of true h = near e edge now clock come soon (ltb-true (clock_gap (now % 2 ^ 32) ((e + 1006000) % 2 ^ 32)) (2 ^ 31) h)
    of false h = omega arith

-- ---- a wait

module _ (made : Made) (start now : ℕ) (calls : List Call) (order : AreInOrder start made.clock.redundancy (Tick now ∷ calls)) where
  abbrev k : Keeping
  k = life_of made calls

  abbrev c : ClockRules
  c = (life_of made calls).clock

  abbrev lines : Lines
  lines = settled (now % 2 ^ 32) (life_of made calls).state.lines

  timely : (i : ℕ) → i < 5 → (y : KeptClaim) → claim_kept (life_of made calls).clock (still_kept (now % 2 ^ 32) (line_at (life_of made calls).state.lines i).frame) ≡ Some y → IsTimely (life_of made calls).clock (now % 2 ^ 32) y
  unfolding IsTimely
  timely i low y e =
      let l = lines_after (device_of made) start (begins made.rules made.clock made.table made.lines start made.fresh) calls now order in
      let kept = still (life_of made calls).clock (now % 2 ^ 32) (line_at (life_of made calls).state.lines i).frame y e in
      (kept.1, of_clock (IsEndAt (pulses_on i calls) (last_tick start calls) now) (life_of made calls).clock (life_of made calls).rules (claim_kept (life_of made calls).clock (line_at (life_of made calls).state.lines i).frame) (pulses_on i calls) y (l.lines i low).kept kept.0, half_kept (life_of made calls).clock (line_at (life_of made calls).state.lines i).frame y kept.0)

  each_timely : EachKept (IsTimely (life_of made calls).clock (now % 2 ^ 32)) (all_kept c lines)
  each_timely = one_more (IsTimely (life_of made calls).clock (now % 2 ^ 32)) _ _ (timely 0 (omega arith))
      (one_more (IsTimely (life_of made calls).clock (now % 2 ^ 32)) _ _ (timely 1 (omega arith))
      (one_more (IsTimely (life_of made calls).clock (now % 2 ^ 32)) _ _ (timely 2 (omega arith))
      (one_more (IsTimely (life_of made calls).clock (now % 2 ^ 32)) _ _ (timely 3 (omega arith))
      (one_more (IsTimely (life_of made calls).clock (now % 2 ^ 32)) _ _ (timely 4 (omega arith)) tt))))

  by_vote : (v : Vote) → agreed c lines ≡ Some v → until (now % 2 ^ 32) v.edge_us ≤ 1006000
  unfolding IsTimely
  by_vote v e =
      let first = agreed_first c lines v e in
      let one = is_one (IsTimely (life_of made calls).clock (now % 2 ^ 32)) (reach_us c) (f_of c.redundancy) (all_kept c lines) (all_kept c lines) first.0 each_timely first.1 in
      let p = vote_of c lines v first.0 one.0 first.2 in
      let behind : ℕ = 2898 + first.0.half_us + (p.before + p.behind) / 2 - p.before in
      let wide = widest_few c in
      let few : behind ≤ 5796 = omega (arith, p.before_most, p.behind_most, one.1.2.1, wide) in
      let near = until_vote v.edge_us first.0.end_us behind now one.1.0 one.1.1 few (ap (λ (x : Vote). x.edge_us) p.is ∙ wraps first.0.end_us first.0.half_us p.before p.behind (omega (arith, p.before_most, reach_few c))) in
      omega (arith, near)
    where
      wraps : (end half before behind : ℕ) → before ≤ 2898 → ((end + half) % 2 ^ 32 + 2 ^ 32 - before + (before + behind) / 2) % 2 ^ 32 ≡ (end + 2 ^ 32 - 2898 + (2898 + half + (before + behind) / 2 - before)) % 2 ^ 32
      wraps end half before behind low = omega (arith, low)

  of : (o : Option ℕ) → IfEdgeAt o (last_tick start calls) → (v : Option Vote) → agreed c lines ≡ v → wait_by (now % 2 ^ 32) o v ≤ 1006000
  of o at (Some v) e = by_vote v e
  of None at None e = omega arith
  of (Some edge) at None e = until_edge edge at.0 now at.1.clock (omega (arith, at.1.come, order.0)) (omega (arith, at.1.soon, order.1))

  pub waits_at_most : wait_at (life_of made calls) (now % 2 ^ 32) ≤ 1006000
  waits_at_most = of k.state.edge_us (edge_in_life made start calls order.3) (agreed c lines) refl
