-- One tick of a reader: what stands before it, what stands after it, and what the reader says.
use Rattle.std.specs.Prelude.{◌==◌, nat_le, is_some}
use Rattle.std.proofs.Common.{◌≡◌, ℕ, ◌+◌, ◌<◌, ◌≤◌, Bool, true, false, Option, Some, None, Ok, Err, inl, inr, refl, sym, ◌∙◌, ap, subst, arith}
use Rattle.std.proofs.lemmas.Bool.{false≢true, cases_Bool, eqb-true, eqb-false, leb-true, leb-false, cases_lt}
use Rattle.irig_time.specs.declared.second.UtcSecond.{UtcSecond}
use Rattle.irig_time.specs.declared.claim.Claim.{Claim}
use Rattle.irig_time.specs.Days.{is_month_end}
use Rattle.irig_time.specs.Timelines.{TimelineValue, second_at, IsSecond, IsTrueClaim, true_mark}
use Rattle.irig_time.specs.TimelineFaults.{IsTimeline}
use Rattle.irig_time.proofs.SecondAt.{second_is}
use Rattle.irig_time.proofs.TimeLaws.{one_second}
use Rattle.irig_hold.specs.declared.hold.Turn.{Turn}
use Rattle.irig_hold.specs.declared.hold.Turn.TheVariants as turn
use Rattle.irig_hold.specs.Steps.{HoldValue, mark_or, hold_after, outcome_of, hold_start, voted_by, alone_by}
use Rattle.irig_hold.specs.Truth.{IsTrueTable, IsGuarded}
use Rattle.irig_hold.proofs.HoldLaws.{claimed, voted_goes, alone_goes, started_goes, voted_stops, started_stops, alone_guard, alone_end}
use Rattle.irig_reader.specs.declared.report.Lock.TheVariants as lock
use Rattle.irig_reader.specs.declared.report.Cause.{Cause}
use Rattle.irig_reader.specs.declared.report.Cause.TheVariants as cause
use Rattle.irig_reader.specs.declared.report.Report.{Report}
use Rattle.irig_reader.specs.declared.rule.State.{State}
use Rattle.irig_reader.specs.declared.rule.State.TheVariants.{Idle, Acquiring, Locked}
use Rattle.irig_reader.specs.declared.rule.Step.{Step}
use Rattle.irig_reader.specs.Rule.{stop_step, count_step, first_vote_step, later_vote_step_by, locked_vote_step, holdover_step, step_of}
use Rattle.irig_plant.specs.Edges.{VotedEdges, IsGuard, IsHeld, IsRun, IsLongestRun, IsLastVote}
use Rattle.irig_plant.specs.Exactly.{announcement, silence}
use Rattle.irig_plant.proofs.EdgeLaws.{held_back, lock_is_before, run_of_lock, lock_of_run, held_voted, held_alone, not_held_late, not_held_guard, first_run, next_run, now_last, older_last}
use Rattle.irig_plant.proofs.HeldMarks.{heard_at, IsTrueHold, on_time, IsOpen, moved_true, true_mark_low, voted_mark, vote_opens, unheard_since, unheard_by}

-- ---- what stands after the n-th tick, by the state; restarts that come after it are still to be
-- counted

pub record IsReady (x : VotedEdges) (n : ℕ) : Type 0 where
  pub unheld : IsHeld x n → x.restarted n ≡ false → ⊥
  pub unvoted : x.voted n ≡ true → x.restarted n ≡ false → ⊥

pub record IsAcquiring (x : VotedEdges) (n : ℕ) (h : HoldValue) (count : ℕ) : Type 0 where
  pub unheld : ¬ IsHeld x n
  pub run : IsLongestRun x n count
  pub few : count < x.reader_rules.lock_after
  pub hold : IsTrueHold x.times x.table n h

pub record IsLocked (x : VotedEdges) (n : ℕ) (h : HoldValue) : Type 0 where
  pub held : IsHeld x n
  pub last : IsLastVote x n h.age
  pub hold : IsTrueHold x.times x.table n h

abbrev pub Standing : VotedEdges → ℕ → State → Type 0
Standing x n Idle = IsReady x n
Standing x n (Acquiring h count) = IsAcquiring x n h count
Standing x n (Locked h) = IsLocked x n h

-- what stands before the next tick
abbrev pub Ready : VotedEdges → ℕ → State → Type 0
Ready x n Idle = IsReady x n
Ready x n (Acquiring h count) = (x.restarted n ≡ false) × IsAcquiring x n h count
Ready x n (Locked h) = (x.restarted n ≡ false) × IsLocked x n h

-- ---- what is said at the tick after the n-th, if T(n + 1) is v

pub data Said (x : VotedEdges) (n : ℕ) (v : UtcSecond) (r : Report) : Type 0 where
  by_vote : IsHeld x (n + 1) → x.voted (n + 1) ≡ true → r ≡ announcement v lock.Locked cause.Voted → Said x n v r
  by_hold : (age : ℕ) → IsHeld x (n + 1) → x.voted (n + 1) ≡ false → IsLastVote x (n + 1) age → r ≡ announcement v (lock.Holdover age) cause.Held → Said x n v r
  by_count : (count : ℕ) → ¬ IsHeld x (n + 1) → x.voted (n + 1) ≡ true → IsLongestRun x (n + 1) count → r ≡ silence (lock.Acquiring count) cause.Acquiring → Said x n v r
  by_age : (age : ℕ) → ¬ IsHeld x (n + 1) → x.voted (n + 1) ≡ false → IsHeld x n → x.restarted n ≡ false → IsLastVote x n age → x.reader_rules.holdover ≤ age
      → r ≡ silence lock.Unlocked cause.Expired → Said x n v r
  by_guard : (age : ℕ) → ¬ IsHeld x (n + 1) → x.voted (n + 1) ≡ false → IsHeld x n → x.restarted n ≡ false → IsLastVote x n age → age < x.reader_rules.holdover
      → IsGuard x (n + 1) → r ≡ silence lock.Unlocked cause.LeapGuard → Said x n v r
  by_silence : ¬ IsHeld x (n + 1) → x.voted (n + 1) ≡ false → (IsHeld x n → x.restarted n ≡ false → ⊥) → r ≡ silence lock.Unlocked cause.NoVote → Said x n v r

-- causes if the years have ended
abbrev pub is_over : Cause → Bool
is_over cause.NoVote = true
is_over cause.Expired = true
is_over cause.RangeEnd = true
is_over _ = false

pub data Ticked (x : VotedEdges) (n : ℕ) (step : Step) : Type 0 where
  live : (v : UtcSecond) → second_at x.times (n + 1) ≡ Some v → Standing x (n + 1) step.state → Said x n v step.report → Ticked x n step
  over : (c : Cause) → second_at x.times (n + 1) ≡ None → step ≡ stop_step c → is_over c ≡ true → Ticked x n step

-- ---- T(n)

is_none : {A : Type 0} (o : Option A) (a : A) → o ≡ None → ¬ (o ≡ Some a)
is_none None a e f = cc f
is_none (Some b) a e f = cc e

no_more : (t : TimelineValue) (n : ℕ) → second_at t n ≡ None → (v : UtcSecond) → ¬ IsSecond t n v
no_more t n e v h = is_none (second_at t n) v e ((second_is t n v).1 h)

module _ (x : VotedEdges) (sound : IsTimeline x.times) (table : IsTrueTable x.times x.table) (some : 1 ≤ x.reader_rules.lock_after) where
  -- ---- a tick without a vote if nothing was held

  unheld_on : (n : ℕ) → (IsHeld x n → x.restarted n ≡ false → ⊥) → x.voted (n + 1) ≡ false → ¬ IsHeld x (n + 1)
  unheld_on n f v h = let p : IsHeld x n × (x.restarted n ≡ false) = held_back x n some h (lock_is_before x n some v h) in f p.0 p.1

  idle : (n : ℕ) → ¬ IsHeld x n → x.voted n ≡ false → IsReady x n
  idle n f v = record { unheld = λ h _. f h; unvoted = λ e _. false≢true (sym v ∙ e) }

  nothing : (n : ℕ) (o : Option UtcSecond) → second_at x.times (n + 1) ≡ o → (IsHeld x n → x.restarted n ≡ false → ⊥) → x.voted (n + 1) ≡ false → Ticked x n (stop_step cause.NoVote)
  nothing n None e f v = over cause.NoVote e refl refl
  nothing n (Some u) e f v = live u e (idle (n + 1) (unheld_on n f v) v) (by_silence (unheld_on n f v) v f refl)

  -- ---- a vote that is counted

  counted_ticks : (n count : ℕ) (h : HoldValue) → (IsHeld x n → x.restarted n ≡ false → ⊥) → x.voted (n + 1) ≡ true → IsLongestRun x (n + 1) count → count ≤ x.reader_rules.lock_after
      → h.age ≡ 0 → IsTrueHold x.times x.table (n + 1) h → Ticked x n (count_step x.reader_rules h count)
  counted_ticks n count h f v r few age hold =
      let at : second_at x.times (n + 1) ≡ Some h.last = (second_is x.times (n + 1) h.last).1 hold.at in
      elim (cases_Bool (count == x.reader_rules.lock_after)) [
        | inl full ↦
            let p : count ≡ x.reader_rules.lock_after = eqb-true count x.reader_rules.lock_after full in
            let q : IsHeld x (n + 1) = lock_of_run x (n + 1) (subst (IsRun x (n + 1)) p r.run) in
            let l : IsLastVote x (n + 1) h.age = subst (IsLastVote x (n + 1)) (sym age) (now_last x (n + 1) v) in
            rw full (live h.last at (record { held = q; last = l; hold = hold }) (by_vote q v refl))
        | inr short ↦
            let p : ¬ (count ≡ x.reader_rules.lock_after) = eqb-false count x.reader_rules.lock_after short in
            let q : ¬ IsHeld x (n + 1) = λ y. elim (cases_lt n y.lock) [
              | inl now ↦
                  let e : y.lock ≡ n + 1 = omega (arith, now, y.before) in
                  let m : x.reader_rules.lock_after ≤ count = r.longest x.reader_rules.lock_after (run_of_lock x (n + 1) some y e) in
                  p (omega (arith, m, few))
              | inr before ↦ let d : IsHeld x n × (x.restarted n ≡ false) = held_back x n some y before in f d.0 d.1
            ] in
            rw short (live h.last at (record { unheld = q; run = r; few = omega (arith, p, few); hold = hold }) (by_count count q v r refl))
      ]

  -- ---- the hold's steps with a vote

  abbrev begins : Claim → UtcSecond → HoldValue
  begins c v = hold_after c.at 0 c.mark v

  begins_true : (n : ℕ) (c : Claim) (v : UtcSecond) → IsTrueClaim x.times (n + 1) c → IsSecond x.times (n + 1) v → IsTrueHold x.times x.table (n + 1) (begins c v)
  begins_true n c v claim there =
      let heard : c.at.sod ≤ 86399 → c.mark ≡ heard_at x.times c.at 0 = λ low. claim.mark ∙ true_mark_low x.times c.at low in
      moved_true x.times x.table n c.at v 0 c.mark (claimed x.times n c claim) there heard (vote_opens x.times x.table c.at c.mark heard)

  abbrev follows : HoldValue → Claim → UtcSecond → HoldValue
  follows h c v = hold_after h.last 0 (mark_or c.mark h.heard) v

  follows_true : (n : ℕ) (h : HoldValue) (c : Claim) (v : UtcSecond) → IsTrueHold x.times x.table n h → IsTrueClaim x.times (n + 1) c → IsSecond x.times (n + 1) v
      → IsTrueHold x.times x.table (n + 1) (follows h c v)
  follows_true n h c v hold claim there =
      let same : c.at ≡ h.last = one_second x.times n c.at h.last (claimed x.times n c claim) hold.at in
      let told : c.mark ≡ true_mark x.times.leaps h.last = claim.mark ∙ ap (true_mark x.times.leaps) same in
      let heard : h.last.sod ≤ 86399 → mark_or c.mark h.heard ≡ heard_at x.times h.last 0 = λ low.
      rw (told ∙ true_mark_low x.times h.last low, hold.heard) (voted_mark x.times h.last (h.age + 1)) in
      moved_true x.times x.table n h.last v 0 (mark_or c.mark h.heard) hold.at there heard (vote_opens x.times x.table h.last (mark_or c.mark h.heard) heard)

  begin_ticks : (n : ℕ) (c : Claim) (o : Option UtcSecond) → second_at x.times (n + 1) ≡ o → IsTrueClaim x.times (n + 1) c → IsReady x n → x.voted (n + 1) ≡ true
      → Ticked x n (first_vote_step x.reader_rules (hold_start x.table c))
  begin_ticks n c None e claim f v =
      let ends : hold_start x.table c ≡ Err turn.RangeEnd = (started_stops x.times x.table n c sound claim).1.1 (no_more x.times (n + 1) e) in
      rw ends (over cause.RangeEnd e refl refl)
  begin_ticks n c (Some w) e claim f v =
      let there : IsSecond x.times (n + 1) w = (second_is x.times (n + 1) w).0 e in
      rw (started_goes x.times x.table n c w sound claim there)
      (counted_ticks n 1 (begins c w) f.unheld v (first_run x n f.unvoted v) some refl (begins_true n c w claim there))

  join_ticks : (n count : ℕ) (h : HoldValue) (c : Claim) (anew : Step) (o : Option UtcSecond) → second_at x.times (n + 1) ≡ o → IsTrueClaim x.times (n + 1) c
      → x.restarted n ≡ false → IsAcquiring x n h count → x.voted (n + 1) ≡ true
      → Ticked x n (later_vote_step_by x.reader_rules count anew (voted_by x.table h c).answer (voted_by x.table h c).new)
  join_ticks n count h c anew None e claim q f v =
      let ends : (voted_by x.table h c).answer ≡ turn.RangeEnd = (voted_stops x.times x.table n h c sound f.hold.at claim).1.1 (no_more x.times (n + 1) e) in
      rw ends (over cause.RangeEnd e refl refl)
  join_ticks n count h c anew (Some w) e claim q f v =
      let there : IsSecond x.times (n + 1) w = (second_is x.times (n + 1) w).0 e in
      let goes : voted_by x.table h c ≡ outcome_of h (Ok (follows h c w)) = voted_goes x.times x.table n h c w sound f.hold.at claim there in
      rw goes (counted_ticks n (count + 1) (follows h c w) (λ y _. f.unheld y) v (next_run x n count f.run q v) (omega (arith, f.few)) refl (follows_true n h c w f.hold claim there))

  follow_ticks : (n : ℕ) (h : HoldValue) (c : Claim) (o : Option UtcSecond) → second_at x.times (n + 1) ≡ o → IsTrueClaim x.times (n + 1) c
      → x.restarted n ≡ false → IsLocked x n h → x.voted (n + 1) ≡ true → Ticked x n (locked_vote_step (voted_by x.table h c))
  follow_ticks n h c None e claim q f v =
      let ends : (voted_by x.table h c).answer ≡ turn.RangeEnd = (voted_stops x.times x.table n h c sound f.hold.at claim).1.1 (no_more x.times (n + 1) e) in
      rw ends (over cause.RangeEnd e refl refl)
  follow_ticks n h c (Some w) e claim q f v =
      let there : IsSecond x.times (n + 1) w = (second_is x.times (n + 1) w).0 e in
      let goes : voted_by x.table h c ≡ outcome_of h (Ok (follows h c w)) = voted_goes x.times x.table n h c w sound f.hold.at claim there in
      let y : IsHeld x (n + 1) = held_voted x n f.held q v in
      rw goes (live w e (record { held = y; last = now_last x (n + 1) v; hold = follows_true n h c w f.hold claim there }) (by_vote y v refl))

  -- ---- the hold's step without a vote

  -- a guard edge is one at which the hold is guarded
  guards : (n : ℕ) (h : HoldValue) → IsLocked x n h → IsGuard x (n + 1) → IsGuarded x.table h
  guards n h f g =
      let here : g.before ≡ n = omega (arith, g.is_before) in
      let at : IsSecond x.times n g.second = subst (λ (k : ℕ). IsSecond x.times k g.second) here ((second_is x.times g.before g.second).0 g.at) in
      let same : g.second ≡ h.last = one_second x.times n g.second h.last at f.hold.at in
      let day : g.second.day ≡ h.last.day = ap (λ (u : UtcSecond). u.day) same in
      let sod : g.second.sod ≡ h.last.sod = ap (λ (u : UtcSecond). u.sod) same in
      let far : f.last.edge + 57 < n + 1 = elim (cases_lt (f.last.edge + 57) (n + 1)) [
        | inl a ↦ a
        | inr a ↦ absurd (false≢true (sym (g.unheard f.last.edge a (omega (arith, f.last.is_at))) ∙ f.last.is))
      ] in
      record {
        end = sym (ap is_month_end day) ∙ g.at_month_end;
        late = inl (omega (arith, sod, g.at_58));
        unheard = f.hold.heard ∙ unheard_by x.times h.last (h.age + 1) (omega (arith, sod, g.at_58, far, f.last.is_at));
        above = omega (arith, day, g.above);
      }

  -- and the other way round
  guarded_at : (n : ℕ) (h : HoldValue) → IsLocked x n h → x.voted (n + 1) ≡ false → IsGuarded x.table h → IsGuard x (n + 1)
  guarded_at n h f v g =
      let at_58 : h.last.sod ≡ 86398 = elim g.late [ inl a ↦ a | inr a ↦ absurd (f.hold.past_58 a g) ] in
      let far : h.last.sod < 86341 + (h.age + 1) = unheard_since x.times h.last (h.age + 1) g.end (sym f.hold.heard ∙ g.unheard) in
      record {
        before = n;
        is_before = refl;
        second = h.last;
        at = (second_is x.times n h.last).1 f.hold.at;
        at_58 = at_58;
        at_month_end = g.end;
        above = g.above;
        unvoted = v;
        unheard = λ i a b. f.last.none_since i (omega (arith, a, at_58, far, f.last.is_at)) (omega arith);
      }

  abbrev goes_alone : HoldValue → UtcSecond → HoldValue
  goes_alone h v = hold_after h.last (h.age + 1) h.heard v

  alone_ticks : (n : ℕ) (h : HoldValue) (v : UtcSecond) → second_at x.times (n + 1) ≡ Some v → x.restarted n ≡ false → IsLocked x n h → x.voted (n + 1) ≡ false → h.age < x.reader_rules.holdover
      → ¬ IsGuarded x.table h → Ticked x n (holdover_step (alone_by x.table h x.reader_rules.holdover))
  alone_ticks n h v e q f u young free =
      let there : IsSecond x.times (n + 1) v = (second_is x.times (n + 1) v).0 e in
      let goes : alone_by x.table h x.reader_rules.holdover ≡ outcome_of h (Ok (goes_alone h v)) = alone_goes x.times x.table n x.reader_rules.holdover h v sound table (on_time x.times x.table n h f.hold) there young free in
      let opens : IsOpen x.table h.last h.heard = λ at end none above. free (record { end = end; late = inl at; unheard = none; above = above }) in
      let y : IsHeld x (n + 1) = held_alone x n h.age some f.held f.last q young (λ g. free (guards n h f g)) in
      let l : IsLastVote x (n + 1) (h.age + 1) = older_last x n h.age f.last u in
      rw goes (live v e
      (record { held = y; last = l; hold = moved_true x.times x.table n h.last v (h.age + 1) h.heard f.hold.at there (λ _. f.hold.heard) opens })
      (by_hold (h.age + 1) y u l refl))

  young_ticks : (n : ℕ) (h : HoldValue) (o : Option UtcSecond) → second_at x.times (n + 1) ≡ o → x.restarted n ≡ false → IsLocked x n h → x.voted (n + 1) ≡ false → h.age < x.reader_rules.holdover
      → Ticked x n (holdover_step (alone_by x.table h x.reader_rules.holdover))
  young_ticks n h None e q f u young =
      let ends : (alone_by x.table h x.reader_rules.holdover).answer ≡ turn.RangeEnd = (alone_end x.times x.table n x.reader_rules.holdover h sound f.hold.at).1 (young, no_more x.times (n + 1) e) in
      rw ends (over cause.RangeEnd e refl refl)
  young_ticks n h (Some v) e q f u young = by_answer (alone_by x.table h x.reader_rules.holdover).answer refl
    where
      guard : (alone_by x.table h x.reader_rules.holdover).answer ≡ turn.LeapGuard → Ticked x n (holdover_step (alone_by x.table h x.reader_rules.holdover))
      guard a =
          let g : IsGuard x (n + 1) = guarded_at n h f u ((alone_guard x.table h x.reader_rules.holdover).0 a).1 in
          let y : ¬ IsHeld x (n + 1) = not_held_guard x n some g in
          rw a (live v e (idle (n + 1) y u) (by_guard h.age y u f.held q f.last young g refl))

      free : ¬ ((alone_by x.table h x.reader_rules.holdover).answer ≡ turn.LeapGuard) → Ticked x n (holdover_step (alone_by x.table h x.reader_rules.holdover))
      free f' = alone_ticks n h v e q f u young (λ g. f' ((alone_guard x.table h x.reader_rules.holdover).1 (young, g)))

      by_answer : (answer : Turn) → (alone_by x.table h x.reader_rules.holdover).answer ≡ answer → Ticked x n (holdover_step (alone_by x.table h x.reader_rules.holdover))
      by_answer turn.LeapGuard a = guard a
      by_answer (turn.Now w) a = free (λ b. let z : turn.Now w ≡ turn.LeapGuard = sym a ∙ b in cc)
      by_answer turn.Expired a = free (λ b. let z : turn.Expired ≡ turn.LeapGuard = sym a ∙ b in cc)
      by_answer turn.RangeEnd a = free (λ b. let z : turn.RangeEnd ≡ turn.LeapGuard = sym a ∙ b in cc)
      by_answer turn.Jump a = free (λ b. let z : turn.Jump ≡ turn.LeapGuard = sym a ∙ b in cc)

  late_ticks : (n : ℕ) (h : HoldValue) (o : Option UtcSecond) → second_at x.times (n + 1) ≡ o → x.restarted n ≡ false → IsLocked x n h → x.voted (n + 1) ≡ false → x.reader_rules.holdover ≤ h.age
      → Ticked x n (stop_step cause.Expired)
  late_ticks n h None e q f u old = over cause.Expired e refl refl
  late_ticks n h (Some v) e q f u old =
      let y : ¬ IsHeld x (n + 1) = not_held_late x n h.age f.last old u in
      live v e (idle (n + 1) y u) (by_age h.age y u f.held q f.last old refl)

  hold_ticks : (n : ℕ) (h : HoldValue) → x.restarted n ≡ false → IsLocked x n h → x.voted (n + 1) ≡ false → Ticked x n (holdover_step (alone_by x.table h x.reader_rules.holdover))
  hold_ticks n h q f u =
      elim (cases_Bool (nat_le x.reader_rules.holdover h.age)) [
        | inl old ↦ rw old (late_ticks n h (second_at x.times (n + 1)) refl q f u (leb-true x.reader_rules.holdover h.age old))
        | inr young ↦ young_ticks n h (second_at x.times (n + 1)) refl q f u (leb-false x.reader_rules.holdover h.age young)
      ]

  -- ---- one tick

  pub ticks : (n : ℕ) (state : State) (vote : Option Claim) → is_some vote ≡ x.voted (n + 1) → ((c : Claim) → vote ≡ Some c → IsTrueClaim x.times (n + 1) c) → Ready x n state
      → Ticked x n (step_of x.reader_rules x.table state vote)
  unfolding step_of
  ticks n Idle None e truth f = nothing n (second_at x.times (n + 1)) refl f.unheld (sym e)
  ticks n Idle (Some c) e truth f = begin_ticks n c (second_at x.times (n + 1)) refl (truth c refl) f (sym e)
  ticks n (Acquiring h count) None e truth f = nothing n (second_at x.times (n + 1)) refl (λ y _. f.1.unheld y) (sym e)
  ticks n (Acquiring h count) (Some c) e truth f = join_ticks n count h c _ (second_at x.times (n + 1)) refl (truth c refl) f.0 f.1 (sym e)
  ticks n (Locked h) None e truth f = hold_ticks n h f.0 f.1 (sym e)
  ticks n (Locked h) (Some c) e truth f = follow_ticks n h c (second_at x.times (n + 1)) refl (truth c refl) f.0 f.1 (sym e)
