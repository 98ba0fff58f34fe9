-- A device announces in its course, and what it announced it told.
use Rattle.std.proofs.Common.{◌≡◌, ◌∙◌, ℕ, zero, suc, ◌+◌, ◌-◌, ◌%◌, ◌^◌, ◌≤◌, List, [], ◌∷◌, ◌++◌, append_assoc, append-nil, Option, Some, None, refl, sym, ap, arith, inl, inr, subst}
use Rattle.std.specs.Prelude.{nat_lt}
use Rattle.std.specs.List.{Contains}
use Rattle.std.proofs.lemmas.Bool.{cases_Bool}
use Rattle.std.proofs.lemmas.List.Elements.{Contains-append_left, Contains-push}
use Rattle.irig_frame.specs.declared.symbol.Symbol.{Symbol}
use Rattle.irig_time.specs.declared.second.UtcSecond.{UtcSecond}
use Rattle.irig_time.specs.Timelines.{TimelineValue, IsSecond}
use Rattle.irig_lines.specs.Lines.{IsTrueLately}
use Rattle.irig_lines.specs.Steps.{AreNewLines, no_lines}
use Rattle.irig_timekeeper.specs.declared.clock.Beat.{Beat}
use Rattle.irig_timekeeper.specs.Announcing.{Announces}
use Rattle.irig_timekeeper.specs.Keeping.{answer_at}
use Rattle.irig_timekeeper.specs.Life.{Call, device_of}
use Rattle.irig_timekeeper.specs.Life.Call.{Hear, Tick}
use Rattle.irig_timekeeper.specs.Lived.{keeping_after, made_with}
use Rattle.irig_timekeeper.specs.Loops.{ComeInARow}
use Rattle.irig_timekeeper.specs.Truth.{FollowsTruth}
use Rattle.irig_timekeeper.proofs.LoopLaws.{polling_announces}
use Rattle.irig_timekeeper.proofs.WaitLoops.{asked_announces, told_in_turn}
use Rattle.irig_wires.specs.declared.wires.Ending.{Ending}
use Rattle.irig_wires.specs.declared.wires.Happening.{Happening}
use Rattle.irig_wires.specs.declared.wires.Happening.TheVariants as happens
use Rattle.irig_simulated.specs.declared.told_second.ToldSecond.{ToldSecond}
use Rattle.irig_simulated.specs.Kinds.{Kind, MovesOn, count, edges_by_kind}
use Rattle.irig_simulated.specs.Courses.{Course, coming, happened, has_sent, heard, most_in, passed, played, stepped, ticked, told_count_of, told_if, told_second}
use Rattle.irig_simulated.specs.Doings.{AreCounted, Doing, IsTickedInTime, course_behind, told_by}
use Rattle.irig_simulated.specs.Announced.{HasTold, IsAmong}
use Rattle.irig_simulated.proofs.LoopCourses.{GoesSoon, InTurn, TicksSo, each_of, goes_of, on_loop, turn_of}

-- ---- what calls answered was told

module _ (k : Kind) where
  pub nothing_told : (x y : Course) → y.told ≡ x.told → y.calls ≡ x.calls → HasTold k x y
  nothing_told x y told calls = record {
    more = [];
    told = told ∙ sym (append-nil x.told);
    calls = ap (told_by k) calls ∙ sym (append-nil (told_by k x.calls));
  }

  then_told : (x y z : Course) → HasTold k x y → HasTold k y z → HasTold k x z
  then_told x y z first next = record {
    more = first.more ++ next.more;
    told = next.told ∙ ap (λ (l : List ToldSecond). l ++ next.more) first.told ∙ append_assoc x.told first.more next.more;
    calls = next.calls ∙ ap (λ (l : List ToldSecond). l ++ next.more) first.calls ∙ append_assoc (told_by k x.calls) first.more next.more;
  }

  told_heard : (x : Course) (e : Ending) → HasTold k x (heard k x e)
  told_heard x e = record { more = []; told = sym (append-nil x.told); calls = sym (append-nil (told_by k x.calls)) }

  pub told_ticked : (x : Course) → HasTold k x (ticked k x)
  told_ticked x = record { more = told_if k (count k x.now) (answer_at (keeping_after k.made x.calls) (count k x.now % 2 ^ 32)); told = refl; calls = refl }

  module _ (signal : (line element : ℕ) → Option Symbol) where
    told_happened : (what : Happening) (x : Course) → HasTold k x (happened k signal what x)
    told_happened (happens.End e) x = told_heard x e
    told_happened happens.Tick x = told_ticked x
    told_happened happens.Send x = nothing_told x (has_sent signal x) refl refl

    told_stepped : (x : Course) → HasTold k x (stepped k signal x)
    told_stepped x =
        let then = record x { now = (coming x).time_us } in
        then_told x then (stepped k signal x) (nothing_told x then refl refl) (told_happened (coming x).what then)

    told_played : (stop most : ℕ) (x : Course) → HasTold k x (played k signal stop most x)
    told_played stop zero x = nothing_told x x refl refl
    told_played stop (suc most) x = elim (cases_Bool (nat_lt (coming x).time_us stop)) [
      | inl less ↦ rw less (then_told x (stepped k signal x) (played k signal stop most (stepped k signal x)) (told_stepped x) (told_played stop most (stepped k signal x)))
      | inr done ↦ rw done (nothing_told x x refl refl)
    ]

    pub told_passed : (stop : ℕ) (x : Course) → HasTold k x (passed k signal stop x)
    told_passed stop x =
        let y = played k signal stop (most_in (stop - x.now)) x in
        then_told x y (passed k signal stop x) (told_played stop (most_in (stop - x.now)) x) (nothing_told y (passed k signal stop x) refl refl)

  -- ---- what a tick announced is told

  told_here : (now : ℕ) (calls : List Call) (answer : Option Beat) (beat : Beat) → answer ≡ Some beat → Contains (told_by k calls ++ told_if k now answer) (told_second k.first k.rate (told_count_of now beat) beat)
  told_here now calls None beat is = absurd cc
  told_here now calls (Some other) beat is =
      let same : other ≡ beat = cc in
      subst (λ (b : Beat). Contains (told_by k calls ++ told_if k now (Some b)) (told_second k.first k.rate (told_count_of now beat) beat)) (sym same) (Contains-push (told_by k calls) (told_second k.first k.rate (told_count_of now beat) beat))

  told_then : (later : List Call) (now : ℕ) (earlier : List Call) (beat : Beat) → answer_at (keeping_after k.made earlier) (now % 2 ^ 32) ≡ Some beat → Contains (told_by k (later ++ (Tick now ∷ earlier))) (told_second k.first k.rate (told_count_of now beat) beat)
  told_then [] now earlier beat is = told_here now earlier (answer_at (keeping_after k.made earlier) (now % 2 ^ 32)) beat is
  told_then (Hear port rise width ∷ later) now earlier beat is = told_then later now earlier beat is
  told_then (Tick time ∷ later) now earlier beat is = Contains-append_left (told_by k (later ++ (Tick now ∷ earlier))) _ (told_second k.first k.rate (told_count_of now beat) beat) (told_then later now earlier beat is)

  told_of : (fresh : AreNewLines no_lines) (n : ℕ) (u : UtcSecond) (calls : List Call) → Announces (edges_by_kind k) (device_of (made_with k.made no_lines fresh)) n u calls → IsAmong k n u (told_by k calls)
  told_of fresh n u calls a = record {
    told = told_second k.first k.rate (told_count_of a.now a.beat) a.beat;
    among = subst (λ (c : List Call). Contains (told_by k c) (told_second k.first k.rate (told_count_of a.now a.beat) a.beat)) (sym a.are) (told_then a.later a.now a.earlier a.beat a.answer);
    soon = (let by = a.soon in omega (arith, by));
    says = a.says;
  }

-- ---- it announces

pub course_announces : (t : TimelineValue) (k : Kind) (late : List ℕ) (doings : List Doing) (m : ℕ) (calls before : List Call) (u : UtcSecond) → MovesOn k → k.rate ≤ 1001000 → IsTickedInTime k
    → (course_behind k late doings).calls ≡ calls ++ before → AreCounted calls → (fresh : AreNewLines no_lines)
    → ComeInARow (IsTrueLately k.made.clock.within.us) t (edges_by_kind k) (made_with k.made no_lines fresh) (course_behind k late doings).start m calls before
    → FollowsTruth t k.made.clock.prefers_frames k.made.table → IsSecond t (m + 1 + k.made.clock.reader_rules.lock_after) u
    → IsAmong k (m + 1 + k.made.clock.reader_rules.lock_after) u (told_by k (course_behind k late doings).calls)
course_announces t k late doings m calls before u moves slow in_time are counted fresh come follows second =
    let x = course_behind k late doings in
    let h = on_loop k moves slow late doings in
    let turn = turn_of x.start calls before (subst (λ (c : List Call). InTurn x.start c) are h.turn) counted in
    subst (λ (c : List Call). IsAmong k (m + 1 + k.made.clock.reader_rules.lock_after) u (told_by k c)) (sym are)
    (told_of k fresh (m + 1 + k.made.clock.reader_rules.lock_after) u (calls ++ before)
    (elim in_time [
      | inl by_wait ↦
          asked_announces t (edges_by_kind k) (made_with k.made no_lines fresh) x.start m 2 calls before u come follows (omega arith)
          (goes_of 2 (keeping_after k.made []) calls before (subst (λ (c : List Call). GoesSoon 2 (keeping_after k.made []) c) are (h.goes by_wait))) turn second
      | inr each ↦
          polling_announces t (edges_by_kind k) (made_with k.made no_lines fresh) x.start m 95000 calls before u come follows (omega arith)
          (each_of 95000 x.start calls before (subst (λ (c : List Call). TicksSo 95000 x.start c) are (h.each each.0 each.1 each.3))) (told_in_turn x.start calls before turn) second
    ]))
