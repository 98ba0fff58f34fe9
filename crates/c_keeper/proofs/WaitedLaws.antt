-- How long a timekeeper says to wait in a life, and what a tick then finds.
use Rattle.std.proofs.Common.{◌≡◌, ◌∙◌, ◌∷◌, ◌+◌, ◌-◌, ◌%◌, ◌^◌, ◌≤◌, ℕ, List, Option, Some, None, sym, ap, subst, arith}
use Rattle.irig_lines.specs.declared.setup.ClockRules.{ClockRules}
use Rattle.irig_timekeeper.specs.declared.clock.ClockState.{ClockState}
use Rattle.irig_lines.specs.declared.lines.Vote.{Vote}
use Rattle.irig_timekeeper.specs.Clock.{claim_voted, vote_of_lines}
use Rattle.irig_lines.specs.declared.pace.Pace.{Pace}
use Rattle.irig_lines.specs.Counting.{edges_own}
use Rattle.irig_timekeeper.specs.Keeping.{Keeping, wait_at}
use Rattle.irig_timekeeper.specs.Life.{Made, AreInOrder, device_of, last_tick, life_of}
use Rattle.irig_timekeeper.specs.Life.Call.{Tick}
use Rattle.irig_timekeeper.specs.Lived.{MadeOf, made_with}
use Rattle.irig_lines.specs.Steps.{agreed, settled, wait_by}
use Rattle.irig_timekeeper.specs.Truth.{IfEdgeAt}
use Rattle.irig_timekeeper.proofs.AgreedLaws.{vote_when_come, waits_for}
use Rattle.irig_timekeeper.proofs.LifeLaws.{begins}
use Rattle.irig_timekeeper.proofs.WaitBounds.{edge_in_life, waits_at_most}
use Rattle.irig_timekeeper.proofs.WaitLaws.{counts_then, waits}
use Rattle.c_keeper.specs.declared.timekeeper.IrigTimekeeper.{IrigTimekeeper}
use Rattle.c_keeper.specs.Lives.{Moment, HasLived, agreed_in, calls_of}
use Rattle.c_keeper.specs.Timekeepers.{clock_state_in, edge_in, vote_in, wait_in, IsTimekeeperOf}
use Rattle.c_keeper.proofs.ValueLaws.{waits_value}

waits_as : (t : IrigTimekeeper) (k : Keeping) (time now : ℕ) → IsTimekeeperOf t k → time ≡ now % 2 ^ 32 → wait_in t time ≡ wait_at k (now % 2 ^ 32)
waits_as t k time now h clock = waits_value t k time h ∙ ap (wait_at k) clock

agreed_as : (t : IrigTimekeeper) (k : Keeping) (time now : ℕ) → IsTimekeeperOf t k → time ≡ now % 2 ^ 32 → agreed_in t time ≡ agreed k.clock (settled (now % 2 ^ 32) k.state.lines)
agreed_as t k time now h clock =
    ap (λ (c : ClockRules). agreed c (settled time (clock_state_in t).lines)) h.clock
    ∙ (ap (λ (s : ClockState). agreed k.clock (settled time s.lines)) h.state ∙ ap (λ (x : ℕ). agreed k.clock (settled x k.state.lines)) clock)

module _ (t : IrigTimekeeper) (made : MadeOf) (start time now : ℕ) (past : List Moment) (h : HasLived t made past) (clock : time ≡ now % 2 ^ 32) (order : AreInOrder start made.clock.redundancy (Tick now ∷ calls_of past)) where
  abbrev whole : Made
  whole = made_with made h.lines h.fresh

  abbrev k : Keeping
  k = life_of whole (calls_of past)

  pub waited_at_most : wait_in t time ≤ 1006000
  waited_at_most = subst (λ (n : ℕ). n ≤ 1006000) (sym (waits_as t k time now h.is clock)) (waits_at_most whole start now (calls_of past) order)

  pub waited_votes : (then edge : ℕ) (vote : Vote) → AreInOrder start made.clock.redundancy (Tick then ∷ calls_of past) → agreed_in t time ≡ Some vote → vote.edge_us ≡ edge % 2 ^ 32
      → edge ≤ now + 17000 → now ≤ edge + 94000 → now + wait_in t time ≤ then → then ≤ edge + 94000 → vote_in t (then % 2 ^ 32) ≡ Some vote.claim
  waited_votes then edge vote order' agree at ahead behind waited soon =
      let begun = begins made.rules made.clock made.table h.lines start h.fresh in
      let agreed_then = sym (agreed_as t k time now h.is clock) ∙ agree in
      let wait : wait_in t time ≡ wait_by (now % 2 ^ 32) k.state.edge_us (Some vote) = waits_as t k time now h.is clock ∙ ap (wait_by (now % 2 ^ 32) k.state.edge_us) agreed_then in
      let long = waits_for (device_of whole) start begun now edge k.state.edge_us vote at ahead (omega (arith, behind)) in
      let w = vote_when_come (device_of whole) start begun (calls_of past) now then order order' (omega (arith, waited)) vote agreed_then edge at ahead (omega (arith, behind)) (omega (arith, wait, long.0, waited)) soon in
      ap (λ (c : ClockRules). claim_voted (vote_of_lines c (clock_state_in t) (then % 2 ^ 32))) h.is.clock
      ∙ (ap (λ (s : ClockState). claim_voted (vote_of_lines k.clock s (then % 2 ^ 32))) h.is.state ∙ ap claim_voted w)

  -- without an edge on which lines agree
  module _ (alone : agreed_in t time ≡ None) where
    waits_by_edge : wait_in t time ≡ wait_by (now % 2 ^ 32) (edge_in t) None
    waits_by_edge =
        waits_as t k time now h.is clock ∙ (ap (wait_by (now % 2 ^ 32) k.state.edge_us) (sym (agreed_as t k time now h.is clock) ∙ alone) ∙ ap (λ (s : ClockState). wait_by (now % 2 ^ 32) s.edge_us None) (sym h.is.state))

    edge_there : IfEdgeAt (edge_in t) (last_tick start (calls_of past))
    edge_there = subst (λ (s : ClockState). IfEdgeAt s.edge_us (last_tick start (calls_of past))) (sym h.is.state) (edge_in_life whole start (calls_of past) order.3)

    pub waited_above : (pace : Option Pace) → edges_own pace (edge_in t) time ≡ 0 → 1 ≤ wait_in t time
    waited_above pace none = subst (λ (n : ℕ). 1 ≤ n) (sym waits_by_edge) (of (edge_in t) edge_there (ap (edges_own pace (edge_in t)) (sym clock) ∙ none))
      where
        of : (o : Option ℕ) → IfEdgeAt o (last_tick start (calls_of past)) → edges_own pace o (now % 2 ^ 32) ≡ 0 → 1 ≤ wait_by (now % 2 ^ 32) o None
        of None at none = omega arith
        of (Some e) at none = (waits e at.0 (last_tick start (calls_of past)) now at.1 order.0 (omega (arith, order.1)) pace none).0

    pub waited_counts : (pace : Option Pace) (then e : ℕ) → AreInOrder start made.clock.redundancy (Tick then ∷ calls_of past) → edge_in t ≡ Some e → now + wait_in t time ≤ then → 1 ≤ edges_own pace (Some e) (then % 2 ^ 32)
    waited_counts pace then e order' is waited =
        let at : IfEdgeAt (Some e) (last_tick start (calls_of past)) = subst (λ (o : Option ℕ). IfEdgeAt o (last_tick start (calls_of past))) is edge_there in
        let wait : wait_in t time ≡ wait_by (now % 2 ^ 32) (Some e) None = waits_by_edge ∙ ap (λ (o : Option ℕ). wait_by (now % 2 ^ 32) o None) is in
        let then_is : now + wait_by (now % 2 ^ 32) (Some e) None + (then - (now + wait_by (now % 2 ^ 32) (Some e) None)) ≡ then = omega (arith, wait, waited) in
        subst (λ (x : ℕ). 1 ≤ edges_own pace (Some e) (x % 2 ^ 32)) then_is
        (counts_then pace e at.0 (last_tick start (calls_of past)) now (then - (now + wait_by (now % 2 ^ 32) (Some e) None)) at.1 order.0 (omega (arith, then_is, order'.1)))
