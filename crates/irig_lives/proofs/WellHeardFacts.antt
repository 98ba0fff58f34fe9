-- The loop that polls, second by second: each has a tick 50 to 80 ms behind its edge, and so the law of
-- seconds that are heard well speaks of it.
use Rattle.std.proofs.Common.{◌≡◌, ◌∙◌, ℕ, zero, suc, ◌+◌, ◌-◌, ◌*◌, ◌<◌, ◌≤◌, List, [], ◌∷◌, ◌++◌, take, drop, refl, sym, ap, subst, arith, append-nil, inr}
use Rattle.std.proofs.lemmas.List.{take-append-drop}
use Rattle.irig_sync.specs.Edges.{element_at}
use Rattle.irig_vote.specs.declared.redundancy.Redundancy.TheVariants as of
use Rattle.irig_lines.specs.Lines.{IsTrueLately}
use Rattle.irig_timekeeper.specs.Life.{Call, AreInOrder, AreTrueOver, last_tick, pulses_on}
use Rattle.irig_timekeeper.specs.Life.Call.{Tick}
use Rattle.irig_timekeeper.specs.Announcing.{ComesWhole, IsWellHeard, AreWellHeard, Announces}
use Rattle.irig_lines.proofs.LineLaws.{true_by_any}
use Rattle.irig_timekeeper.proofs.LifeLaws.{begins}
use Rattle.irig_timekeeper.proofs.LoopLaws.{truth_splits}
use Rattle.irig_timekeeper.proofs.AnnounceLaws.{announces}
use Rattle.irig_lives.proofs.LifeFacts.{true_table, edges, at, noon, is_device, rules, device, made, width_of, clock}
use Rattle.irig_lives.specs.Decided.{in_order, have_risen, is_after}
use Rattle.irig_lives.proofs.DecidedLaws.{order_is}
use Rattle.irig_lives.proofs.AnnounceFacts.{comes_whole, truly, all_left, sent, polls, with_element, own, others, rise_of, lie, frames, pulse, start, second_4}

-- the calls up to the tick 1 ms before that element
abbrev upto : ℕ → List Call
upto k = Tick (element_at edges k - 1000) ∷ polls k

pulses_1 : (i : ℕ) → i < 2 → pulses_on i (polls 108) ≡ sent i 108
unfolding polls with_element own others rise_of width_of lie frames sent pulse
pulses_1 zero low = refl
pulses_1 (suc zero) low = refl
pulses_1 (suc (suc i)) low = absurd (omega (arith, low))

pulses_2 : (i : ℕ) → i < 2 → pulses_on i (polls 207) ≡ sent i 207
unfolding polls with_element own others rise_of width_of lie frames sent pulse
pulses_2 zero low = refl
pulses_2 (suc zero) low = refl
pulses_2 (suc (suc i)) low = absurd (omega (arith, low))

pulses_3 : (i : ℕ) → i < 2 → pulses_on i (polls 306) ≡ sent i 306
unfolding polls with_element own others rise_of width_of lie frames sent pulse
pulses_3 zero low = refl
pulses_3 (suc zero) low = refl
pulses_3 (suc (suc i)) low = absurd (omega (arith, low))

pulses_4 : (i : ℕ) → i < 2 → pulses_on i (polls 405) ≡ sent i 405
unfolding polls with_element own others rise_of width_of lie frames sent pulse
pulses_4 zero low = refl
pulses_4 (suc zero) low = refl
pulses_4 (suc (suc i)) low = absurd (omega (arith, low))

nothing : (i : ℕ) → i < 5 → 2 < i → pulses_on i (polls 405) ≡ []
unfolding polls with_element own others rise_of width_of lie frames
nothing zero small high = absurd (omega (arith, high))
nothing (suc zero) small high = absurd (omega (arith, high))
nothing (suc (suc zero)) small high = absurd (omega (arith, high))
nothing (suc (suc (suc zero))) small high = refl
nothing (suc (suc (suc (suc zero)))) small high = refl
nothing (suc (suc (suc (suc (suc i))))) small high = absurd (omega (arith, small))

-- between the ticks of two seconds lie 307 calls
parts : (drop 307 (polls 207) ≡ upto 108) × (drop 307 (polls 306) ≡ upto 207) × (drop 307 (polls 405) ≡ upto 306)
unfolding polls with_element own others rise_of width_of lie frames
parts = (refl, refl, refl)

ticks : (last_tick start (polls 108) ≡ element_at edges 99 - 1000) × (last_tick start (polls 207) ≡ element_at edges 198 - 1000) × (last_tick start (polls 306) ≡ element_at edges 297 - 1000) × (last_tick start (polls 405) ≡ element_at edges 396 - 1000)
unfolding polls with_element own others rise_of width_of lie frames
ticks = (refl, refl, refl, refl)

-- of each second the frames came whole, and no more lines lied than may
true_upto : AreTrueOver (IsTrueLately 450 rules noon edges) 1 (upto 405) []
true_upto = truly 405 (upto 405) (all_left 405 (upto 405) pulses_4 nothing)

module _ (n : ℕ) (low : n < 4) (k : ℕ) (long : 100 * n + 100 ≤ k) (before : ℕ) (last : last_tick start (polls k) ≡ before) (early : before ≤ edges (1 + n) + 3000) (come : edges (1 + n) + 1099 ≤ element_at edges k - 1000)
    (soon : element_at edges k - 1000 ≤ edges (1 + n) + 98000) (are : (i : ℕ) → i < 2 → pulses_on i (polls k) ≡ sent i k) (newer older : List Call) (all : newer ++ older ≡ polls k) (truth : AreTrueOver (IsTrueLately 450 rules noon edges) 1 (Tick (element_at edges k - 1000) ∷ newer) older) where
  well : IsWellHeard (IsTrueLately 450 rules noon edges) noon edges device start (1 + n) (Tick (element_at edges k - 1000) ∷ newer) older
  well = record {
    now = element_at edges k - 1000;
    others = newer;
    are = refl;
    early = subst (λ (c : List Call). last_tick start c ≤ edges (1 + n) + 3000) (sym all) (omega (arith, last, early));
    come = come;
    soon = soon;
    frames = subst (ComesWhole noon edges device (1 + n)) (sym all) (comes_whole k (polls k) are n low long);
    truth = truth;
  }

-- the calls of a second, and those before
segment : (k older : ℕ) → drop 307 (polls k) ≡ upto older → take 307 (polls k) ++ upto older ≡ polls k
segment k older same = ap (λ (c : List Call). take 307 (polls k) ++ c) (sym same) ∙ take-append-drop 307 (polls k)

four_seconds : AreWellHeard (IsTrueLately 450 rules noon edges) noon edges device start 1 4 (upto 405) []
four_seconds =
    let IsTrue = IsTrueLately 450 rules noon edges in
    let all_4 = segment 405 306 parts.2 in
    let all_3 = segment 306 207 parts.1 in
    let all_2 = segment 207 108 parts.0 in
    let with_tick : (k older : ℕ) → take 307 (polls k) ++ upto older ≡ polls k → upto k ≡ (Tick (element_at edges k - 1000) ∷ take 307 (polls k)) ++ upto older = λ k older all. ap (λ (c : List Call). Tick (element_at edges k - 1000) ∷ c) (sym all) in
    let true_4 = truth_splits IsTrue 1 (Tick (element_at edges 405 - 1000) ∷ take 307 (polls 405)) (upto 306) [] (subst (λ (c : List Call). AreTrueOver IsTrue 1 c []) (with_tick 405 306 all_4) true_upto) in
    let true_3 = truth_splits IsTrue 1 (Tick (element_at edges 306 - 1000) ∷ take 307 (polls 306)) (upto 207) [] (subst (λ (c : List Call). AreTrueOver IsTrue 1 c []) (with_tick 306 207 all_3) true_4.1) in
    let true_2 = truth_splits IsTrue 1 (Tick (element_at edges 207 - 1000) ∷ take 307 (polls 207)) (upto 108) [] (subst (λ (c : List Call). AreTrueOver IsTrue 1 c []) (with_tick 207 108 all_2) true_3.1) in
    let well_1 = well 0 (omega arith) 108 (omega arith) _ ticks.0 (omega arith) (omega arith) (omega arith) pulses_1 (polls 108) [] (append-nil (polls 108)) true_2.1 in
    let well_2 = well 1 (omega arith) 207 (omega arith) _ ticks.1 (omega arith) (omega arith) (omega arith) pulses_2 (take 307 (polls 207)) (upto 108) all_2 (subst (AreTrueOver IsTrue 1 (Tick (element_at edges 207 - 1000) ∷ take 307 (polls 207))) (append-nil (upto 108)) true_2.0) in
    let well_3 = well 2 (omega arith) 306 (omega arith) _ ticks.2 (omega arith) (omega arith) (omega arith) pulses_3 (take 307 (polls 306)) (upto 207) all_3 (subst (AreTrueOver IsTrue 1 (Tick (element_at edges 306 - 1000) ∷ take 307 (polls 306))) (append-nil (upto 207)) true_3.0) in
    let well_4 = well 3 (omega arith) 405 (omega arith) _ ticks.3 (omega arith) (omega arith) (omega arith) pulses_4 (take 307 (polls 405)) (upto 306) all_4 (subst (AreTrueOver IsTrue 1 (Tick (element_at edges 405 - 1000) ∷ take 307 (polls 405))) (append-nil (upto 306)) true_4.0) in (
      Tick (element_at edges 405 - 1000) ∷ take 307 (polls 405),
      upto 306,
      with_tick 405 306 all_4,
      well_4,
      (
        Tick (element_at edges 306 - 1000) ∷ take 307 (polls 306),
        upto 207,
        with_tick 306 207 all_3,
        well_3,
        (
          Tick (element_at edges 207 - 1000) ∷ take 307 (polls 207),
          upto 108,
          with_tick 207 108 all_2,
          well_2,
          (upto 108, [], sym (append-nil (upto 108)), well_1, refl),
        ),
      ),
    )

order : AreInOrder start of.Three (upto 405)
unfolding polls with_element own others rise_of width_of lie frames in_order have_risen is_after
order = order_is start of.Three (upto 405) refl

-- so its last tick announces
announced : Announces edges device 4 (at 43204) (upto 405)
announced =
    announces (IsTrueLately 450 rules noon edges) noon edges device start (begins made.rules made.clock made.table made.lines start made.fresh) is_device (inr true_table)
    (λ now half end pulses claim is_true frame soon. true_by_any clock rules noon 100 edges half now end pulses claim is_device.steady is_true frame soon)
    refl 1 (omega arith) (omega arith) [] start (λ i. tt) (omega arith) (upto 405) four_seconds order (at 43204) second_4
