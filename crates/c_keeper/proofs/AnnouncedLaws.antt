-- A timekeeper in C announces that is ticked often, or when `wait` says.
use Rattle.std.proofs.Common.{◌≡◌, ◌∙◌, [], ◌∷◌, ◌++◌, ◌+◌, ◌%◌, ◌^◌, ◌≤◌, ℕ, List, Option, Some, None, sym, ap, subst}
use Rattle.irig_time.specs.declared.second.UtcSecond.{UtcSecond}
use Rattle.irig_time.specs.Timelines.{TimelineValue, IsSecond}
use Rattle.irig_timekeeper.specs.Announcing.{Announces}
use Rattle.irig_timekeeper.specs.Keeping.{Keeping, place_told, answer_at, wait_at}
use Rattle.irig_timekeeper.specs.Life.{Call, after_calls, device_of, life_of}
use Rattle.irig_timekeeper.specs.Life.Call.{Hear, Tick}
use Rattle.irig_timekeeper.specs.Lived.{MadeOf, made_with}
use Rattle.irig_timekeeper.specs.Loops.{AreMadeInTurn, AreToldInTime, TicksEach, made_at, named}
use Rattle.irig_timekeeper.specs.Loops as device
use Rattle.irig_timekeeper.proofs.LoopLaws.{polling_announces}
use Rattle.irig_timekeeper.proofs.WaitLoops.{waiting_announces}
use Rattle.c_keeper.specs.declared.second.IrigSecond.{IrigSecond}
use Rattle.c_keeper.specs.declared.timekeeper.IrigTimekeeper.{IrigTimekeeper}
use Rattle.irig_timekeeper.specs.Truth.{FollowsTruth}
use Rattle.c_keeper.specs.Announcing.{AreAsked, ComeInARow, GoesByWait, HasAnnounced, IsSoonEnough}
use Rattle.c_keeper.specs.Lives.{Moment, HasLived, HaveTold, calls_of}
use Rattle.c_keeper.specs.Lives.Moment.{Pulsed, Ticked, Waited}
use Rattle.c_keeper.specs.Seconds.{IsSecondOf}
use Rattle.c_keeper.proofs.LivesLaws.{calls_more, told_before}
use Rattle.c_keeper.proofs.StampedLaws.{tick_in_past}

-- a tick of the past gave what the device announces
announced_as : (q : IrigTimekeeper) (edges : ℕ → ℕ) (made : MadeOf) (m : ℕ) (moments before : List Moment) (u : UtcSecond) → (h : HasLived q made (moments ++ before))
    → Announces edges (device_of (made_with made h.lines h.fresh)) m u (calls_of moments ++ calls_of before) → HasAnnounced edges m u (moments ++ before)
announced_as q edges made m moments before u h a =
    let whole = made_with made h.lines h.fresh in
    let is = tick_in_past (moments ++ before) a.later a.now a.earlier (calls_more moments before ∙ a.are) in
    let said = told_before (device_of whole) is.later (Ticked a.now is.second ∷ is.earlier) (subst (HaveTold (device_of whole)) is.are h.told) in
    let answer = subst (λ (calls : List Call). answer_at (life_of whole calls) (a.now % 2 ^ 32) ≡ Some a.beat) (sym is.same) a.answer in
    let found : IsSecondOf is.second (Some a.beat) = subst (IsSecondOf is.second) answer said.0.is in
    record {
      later = is.later;
      now = a.now;
      second = is.second;
      earlier = is.earlier;
      are = is.are;
      soon = a.soon;
      says = found.report ∙ a.says;
    }

pub has_announced : (q : IrigTimekeeper) (t : TimelineValue) (edges : ℕ → ℕ) (made : MadeOf) (start m most : ℕ) (moments before : List Moment) (u : UtcSecond) → HasLived q made (moments ++ before)
    → ComeInARow t edges made start m moments before → FollowsTruth t made.clock.prefers_frames made.table → most ≤ 95000 → TicksEach most start (calls_of moments) (calls_of before) → AreToldInTime start (calls_of moments) (calls_of before)
    → IsSecond t (m + 1 + made.clock.reader_rules.lock_after) u → HasAnnounced edges (m + 1 + made.clock.reader_rules.lock_after) u (moments ++ before)
has_announced q t edges made start m most moments before u h come follows few each told second =
    announced_as q edges made (m + 1 + made.clock.reader_rules.lock_after) moments before u h
    (polling_announces t edges (made_with made h.lines h.fresh) start m most (calls_of moments) (calls_of before) u (come h.lines h.fresh) follows few each told second)

-- ---- a tick when `wait` says

module _ (new : Keeping) (late : ℕ) (before : List Moment) where
  -- what was named behind a call, from its time, is what the device names
  named_by : (call : Call) (past : List Moment) (time wait : ℕ) → wait ≡ wait_at (after_calls new (call ∷ calls_of (past ++ before))) (time % 2 ^ 32) → time ≡ made_at call → time + wait ≡ named new (calls_of past ++ calls_of before) call
  named_by call past time wait says at =
      ap (λ (x : ℕ). x + wait) at
      ∙ ap (λ (w : ℕ). made_at call + w) (says ∙ (ap (λ (x : ℕ). wait_at (after_calls new (call ∷ calls_of (past ++ before))) (x % 2 ^ 32)) at
      ∙ ap (λ (calls : List Call). wait_at (after_calls new (call ∷ calls)) (made_at call % 2 ^ 32)) (calls_more past before)))

  -- what is known of the moment next behind some: it asks, and a tick of this time comes soon enough
  abbrev Next : ℕ → List Moment → Option ℕ → Type 0
  Next now past None = Unit {0}
  Next now past (Some time) = (wait : ℕ) × (wait ≡ wait_at (after_calls new (calls_of (past ++ before))) (time % 2 ^ 32)) × (now ≤ time + wait + late)

  -- so behind a pulse, if it asks from its end
  by_end : (line rise width place now : ℕ) (past : List Moment) (next : Option ℕ) → Next now (Pulsed line rise width place ∷ past) next → next ≡ Some (rise + width) → now ≤ named new (calls_of past ++ calls_of before) (Hear line rise width) + late
  by_end line rise width place now past None is asks = absurd cc
  by_end line rise width place now past (Some time) is asks =
      let at : time ≡ rise + width = cc in
      subst (λ (x : ℕ). now ≤ x + late) (named_by (Hear line rise width) past time is.0 is.1 at) is.2

  soon : (now : ℕ) (past : List Moment) (next : Option ℕ) → Next now past next → AreAsked next past → IsSoonEnough late now past → HaveTold new (past ++ before) → device.IsSoonEnough late new now (calls_of past) (calls_of before)
  soon now [] next is asked enough told = tt
  soon now (Waited time wait ∷ past) next is asked enough told = soon now past (Some time) (wait, told.0, enough.0) asked enough.1 told.1
  soon now (Pulsed line rise width place ∷ past) next is asked enough told = (
    λ whole.
        (let same = ap (λ (calls : List Call). place_told (after_calls new calls) line (rise % 2 ^ 32) width) (calls_more past before) in
        by_end line rise width place now past next is (asked.0 (told.0 ∙ (same ∙ whole)))),
    soon now past None tt asked.1 enough told.1,
  )
  soon now (Ticked time' second ∷ past) None is asked enough told = (let none = asked.0 in absurd cc)
  soon now (Ticked time' second ∷ past) (Some time) is asked enough told =
      let at : time ≡ time' = (let same = asked.0 in cc) in
      let by = named_by (Tick time') past time is.0 is.1 at in
      subst (λ (x : ℕ). now ≤ x + late) by is.2

  goes : (past : List Moment) (next : Option ℕ) → AreAsked next past → GoesByWait late past → HaveTold new (past ++ before) → device.GoesByWait late new (calls_of past) (calls_of before)
  goes [] next asked by told = tt
  goes (Waited time wait ∷ past) next asked by told = goes past (Some time) asked by told.1
  goes (Pulsed line rise width place ∷ past) next asked by told = goes past None asked.1 by told.1
  goes (Ticked time second ∷ past) next asked by told = (soon time past None tt asked.1 by.0 told.1, goes past None asked.1 by.1 told.1)

pub has_announced_by_wait : (q : IrigTimekeeper) (t : TimelineValue) (edges : ℕ → ℕ) (made : MadeOf) (start m late now : ℕ) (s : IrigSecond) (moments before : List Moment) (u : UtcSecond) → HasLived q made (Ticked now s ∷ (moments ++ before))
    → ComeInARow t edges made start m (Ticked now s ∷ moments) before → FollowsTruth t made.clock.prefers_frames made.table → late ≤ 94000 → AreAsked None moments → GoesByWait late (Ticked now s ∷ moments)
    → AreMadeInTurn start (Tick now ∷ calls_of moments) (calls_of before) → IsSecond t (m + 1 + made.clock.reader_rules.lock_after) u
    → HasAnnounced edges (m + 1 + made.clock.reader_rules.lock_after) u (Ticked now s ∷ (moments ++ before))
has_announced_by_wait q t edges made start m late now s moments before u h come follows few asked by turn second =
    let whole = made_with made h.lines h.fresh in
    announced_as q edges made (m + 1 + made.clock.reader_rules.lock_after) (Ticked now s ∷ moments) before u h
    (waiting_announces t edges whole start m late (Tick now ∷ calls_of moments) (calls_of before) u (come h.lines h.fresh) follows few
    (soon (device_of whole) late before now moments None tt asked by.0 h.told.1, goes (device_of whole) late before moments None asked by.1 h.told.1) turn second)
