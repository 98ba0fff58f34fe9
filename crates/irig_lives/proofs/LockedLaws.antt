-- What a tick leaves that announces by a vote, and what a device says that then hears nothing.
use Rattle.std.specs.Prelude.{◌==◌, ◌&&◌}
use Rattle.std.proofs.Common.{◌≡◌, ◌∙◌, ℕ, zero, suc, ◌+◌, ◌-◌, ◌<◌, ◌≤◌, false, Option, Some, None, Ok, refl, sym, ap, subst, arith, inl, inr, Bool}
use Rattle.std.proofs.lemmas.Bool.{cases_Bool}
use Rattle.irig_time.specs.declared.second.UtcSecond.{UtcSecond}
use Rattle.irig_time.specs.declared.claim.Claim.{Claim}
use Rattle.irig_time.specs.Tables.{TableValue, spoken_mark}
use Rattle.irig_time.specs.Next.{next_of}
use Rattle.irig_time.specs.Timelines.{TimelineValue, IsSecond}
use Rattle.irig_time.specs.TimelineFaults.{IsTimeline}
use Rattle.irig_hold.specs.declared.hold.Turn.TheVariants as turn
use Rattle.irig_hold.specs.Steps.{HoldValue, Outcome, hold_after, hold_or_stop, outcome_of, voted_by, alone_by, mark_or}
use Rattle.irig_hold.specs.Truth.{IsTrueTable, IsOnTime}
use Rattle.irig_hold.proofs.HoldLaws.{stop_is_no_now, alone_goes, alone_true}
use Rattle.irig_reader.specs.declared.rules.ReaderRules.{ReaderRules}
use Rattle.irig_reader.specs.declared.rule.State.{State}
use Rattle.irig_reader.specs.declared.rule.State.TheVariants.{Locked}
use Rattle.irig_reader.specs.declared.rule.Step.{Step}
use Rattle.irig_reader.specs.declared.report.Report.{Report}
use Rattle.irig_reader.specs.declared.report.Lock.TheVariants as lock
use Rattle.irig_reader.specs.Locking.{voted_report}
use Rattle.irig_reader.specs.Rule.{count_step, holdover_step, step_of}
use Rattle.irig_reader.proofs.StepCases.{count_cases, vote_cases, none_cases}
use Rattle.irig_lines.specs.declared.pace.Pace.{Pace}
use Rattle.irig_lines.specs.Paces.{edge_on, grown_us}
use Rattle.irig_lines.proofs.PaceLaws.{none_grown}
use Rattle.irig_timekeeper.proofs.LearnLaws.{plain_settled}
use Rattle.irig_timekeeper.specs.declared.clock.Beat.{Beat}
use Rattle.irig_lines.specs.declared.setup.ClockRules.{ClockRules}
use Rattle.irig_timekeeper.specs.declared.clock.ClockState.{ClockState}
use Rattle.irig_lines.specs.declared.lines.Lines.{Lines}
use Rattle.irig_lines.specs.declared.lines.Vote.{Vote}
use Rattle.irig_lines.specs.Counting.{edges_own, edges_to_vote}
use Rattle.irig_lines.specs.Steps.{settled, taken, agreed, if_come}
use Rattle.irig_timekeeper.specs.Rule.{missed, step_behind, against_table, step_checked, goes_against}
use Rattle.irig_timekeeper.specs.Clock.{rules_on, bound_of, beat_by, step_to, after_vote, answer_to_vote, after_own, answer_alone, own_edge, clock_by, answer_by, settled_at, is_unsteady}
use Rattle.irig_timekeeper.specs.Keeping.{Keeping, vote_at, after_tick, answer_at}
use Rattle.irig_timekeeper.proofs.DoubtedSteps.{says_all}
use Rattle.irig_timekeeper.proofs.EvenLaws.{dark_is_steady}
use Rattle.irig_timekeeper.proofs.SinceLaws.{begun_age, voted_age}
use Rattle.irig_timekeeper.proofs.CheckedSteps.{checked_cases, passes}
use Rattle.irig_timekeeper.proofs.GuardLaws.{on_time_passes}

-- ---- a step that announces by a vote

-- it is locked, and its hold has just come to that second
record IsLockedAt (u : UtcSecond) (s : State) : Type 0 where
  h : HoldValue
  is : s ≡ Locked h
  last : h.last ≡ u
  age : h.age ≡ 0

IfAnnounced : UtcSecond → Step → Type 0
IfAnnounced u step = step.report.announce ≡ Some u → IsLockedAt u step.state

module _ (rules : ReaderRules) (table : TableValue) where
  counted : (u : UtcSecond) (h : HoldValue) (count : ℕ) → h.age ≡ 0 → IfAnnounced u (count_step rules h count)
  unfolding IfAnnounced
  counted u h count young = count_cases (IfAnnounced u) rules h count (λ enough says. (let same : h.last ≡ u = cc in record { h = h; is = refl; last = same; age = young })) (λ more says. absurd cc)

  -- what a hold answers, it has come to
  answered : (h : HoldValue) (from : UtcSecond) (age : ℕ) (c : Claim) (o : Option UtcSecond) (w : UtcSecond) → (outcome_of h (hold_or_stop from age (mark_or c.mark h.heard) o)).answer ≡ turn.Now w → (outcome_of h (hold_or_stop from age (mark_or c.mark h.heard) o)).new.last ≡ w
  answered h from age c None w e = absurd (stop_is_no_now from.day w e)
  answered h from age c (Some v) w e = cc

  voted_last : (h : HoldValue) (c : Claim) (w : UtcSecond) → (voted_by table h c).answer ≡ turn.Now w → (voted_by table h c).new.last ≡ w
  voted_last h c w e = elim (cases_Bool ((c.at.day == h.last.day) && (c.at.sod == h.last.sod))) [
    | inl for ↦ rw for (answered h h.last 0 c (next_of h.last (spoken_mark table (mark_or c.mark h.heard) h.last.day)) w (rw for at e))
    | inr other ↦ let jump : turn.Jump ≡ turn.Now w = rw other at e in absurd cc
  ]

  rule_locks : (u : UtcSecond) (s : State) (c : Claim) → IfAnnounced u (step_of rules table s (Some c))
  unfolding IfAnnounced
  rule_locks u s c =
      vote_cases (IfAnnounced u) rules table s c (λ h e. counted u h 1 (begun_age c.at c.mark (next_of c.at (spoken_mark table c.mark c.at.day)) h e)) (λ stop says. absurd cc)
      (λ h count w is e. counted u (voted_by table h c).new (count + 1) (voted_age table h c w e))
      (λ h w is e says. (let same : w ≡ u = cc in record { h = (voted_by table h c).new; is = refl; last = voted_last h c w e ∙ same; age = voted_age table h c w e }))

  voted_locks : (prefers : Bool) (u : UtcSecond) (s : State) (c : Claim) → IfAnnounced u (step_checked prefers rules table s (Some c))
  unfolding IfAnnounced
  voted_locks prefers u s c = checked_cases prefers rules table s (Some c) (λ step. step.report.announce ≡ Some u → IsLockedAt u step.state) (rule_locks u s c) (λ says. absurd cc)

  -- without a vote none is so
  rule_never : (s : State) → ¬ ((step_of rules table s None).report.lock ≡ lock.Locked)
  rule_never s = none_cases (λ step. ¬ (step.report.lock ≡ lock.Locked)) rules table s (λ c e. (let no : lock.Unlocked ≡ lock.Locked = e in cc)) (λ h w is e says. (let other : lock.Holdover (alone_by table h rules.holdover).new.age ≡ lock.Locked = says in cc))

  never_alone : (prefers : Bool) (s : State) → ¬ ((step_checked prefers rules table s None).report.lock ≡ lock.Locked)
  never_alone prefers s = checked_cases prefers rules table s None (λ step. ¬ (step.report.lock ≡ lock.Locked)) (rule_never s) (λ e. (let no : lock.Unlocked ≡ lock.Locked = e in cc))

-- ---- a tick that does

pub record IsLeft (u : UtcSecond) (beat : Beat) (new : ClockState) : Type 0 where
  pub h : HoldValue
  pub reader : new.reader ≡ Locked h
  pub last : h.last ≡ u
  pub age : h.age ≡ 0
  pub edge : new.edge_us ≡ Some beat.edge_us
  pub bound : beat.bound_us ≡ new.bound_us
  pub lines : Lines
  pub dark : new.lines ≡ taken lines

module _ (c : ClockRules) (table : TableValue) (s : ClockState) (u : UtcSecond) (beat : Beat) (says : beat.report ≡ voted_report u) where
  left_alone : (n : ℕ) → answer_alone c table s n ≡ Some beat → IsLeft u beat (after_own c table s n)
  left_alone n e = elim (cases_Bool (n == 0)) [
    | inl none ↦ let no : None ≡ Some beat = rw none at e in absurd cc
    | inr some ↦
        let is : Some (beat_by c s false (step_to c table s n None) (n - 1) (own_edge s.pace s.edge_us n) s.bound_us) ≡ Some beat = rw some at e in
        let same : beat_by c s false (step_to c table s n None) (n - 1) (own_edge s.pace s.edge_us n) s.bound_us ≡ beat = cc in
        absurd (never_alone (rules_on c s.pace s.reader n) table c.prefers_frames (missed c.prefers_frames (rules_on c s.pace s.reader n) table (n - 1) s.reader) (ap (λ (b : Beat). b.report.lock) same ∙ ap (λ (r : Report). r.lock) says))
  ]

  left_voted : (v : Vote) (n : ℕ) → answer_to_vote c table s v n ≡ Some beat → IsLeft u beat (after_vote c table s v n)
  unfolding IfAnnounced
  left_voted v n e = elim (cases_Bool (n == 0)) [
    | inl none ↦ let no : None ≡ Some beat = rw none at e in absurd cc
    | inr some ↦
        let is : Some (beat_by c s (against_table table (Some v.claim)) (step_to c table s n (Some v.claim)) (n - 1) v.edge_us v.bound_us) ≡ Some beat = rw some at e in
        let same : beat_by c s (against_table table (Some v.claim)) (step_to c table s n (Some v.claim)) (n - 1) v.edge_us v.bound_us ≡ beat = cc in
        let locked = voted_locks (rules_on c s.pace s.reader n) table c.prefers_frames u (missed c.prefers_frames (rules_on c s.pace s.reader n) table (n - 1) s.reader) v.claim (ap (λ (b : Beat). b.report.announce) same ∙ ap (λ (r : Report). r.announce) says) in
        let none : v.bound_us + grown_us c.drift_us s.pace 0 ≡ v.bound_us = omega (arith, none_grown c.drift_us s.pace) in
        let bound : beat.bound_us ≡ v.bound_us =
        ap (λ (b : Beat). b.bound_us) (sym same)
        ∙ ap (λ (r : Report). bound_of c.drift_us s.pace v.bound_us r.lock) (ap (λ (b : Beat). b.report) same ∙ says) ∙ none in
        rw some (record {
          h = locked.h;
          reader = locked.is;
          last = locked.last;
          age = locked.age;
          edge = ap (λ (b : Beat). Some b.edge_us) same;
          bound = bound;
          lines = s.lines;
          dark = refl;
        })
  ]

pub left_by : (k : Keeping) (clock : ℕ) (u : UtcSecond) (beat : Beat) → answer_at k clock ≡ Some beat → beat.report ≡ voted_report u → IsLeft u beat (after_tick k clock).state
left_by k clock u beat answer says = of (vote_at k clock) answer
  where
    s : ClockState
    s = settled_at k.clock k.state clock

    of : (o : Option Vote) → answer_by k.clock k.table s clock o ≡ Some beat → IsLeft u beat (clock_by k.clock k.table s clock o)
    of None e =
        let l = left_alone k.clock k.table s u beat says (edges_own s.pace k.state.edge_us clock) e in
        record { h = l.h; reader = l.reader; last = l.last; age = l.age; edge = l.edge; bound = l.bound; lines = l.lines; dark = l.dark }
    of (Some v) e =
        let l = left_voted k.clock k.table s u beat says v (edges_to_vote k.state.edge_us v.edge_us) e in
        record { h = l.h; reader = l.reader; last = l.last; age = l.age; edge = l.edge; bound = l.bound; lines = l.lines; dark = l.dark }

-- ---- a tick of dark lines, so many seconds later

pub record SaysAlone (k : Keeping) (clock e n : ℕ) (u : UtcSecond) : Type 0 where
  pub beat : Beat
  pub answer : answer_at k clock ≡ Some beat
  pub says : beat.report.announce ≡ Some u
  pub edge : beat.edge_us ≡ edge_on None e (suc n)
  pub bound : k.state.bound_us ≤ beat.bound_us

pub says_alone : (k : Keeping) (clock e n : ℕ) (u : UtcSecond) (lines : Lines) → k.state.lines ≡ taken lines → k.state.edge_us ≡ Some e → k.state.doubt ≡ 0 → k.state.pace ≡ None → edges_own None (Some e) clock ≡ suc n
    → rules_on k.clock None k.state.reader (suc n) ≡ k.clock.reader_rules → (step_behind k.clock.prefers_frames k.clock.reader_rules k.table n k.state.reader None).report.announce ≡ Some u → SaysAlone k clock e n u
says_alone k clock e n u lines dark edge certain plain count goes says =
    let s : ClockState = settled_at k.clock k.state clock in
    let none : vote_at k clock ≡ None = ap (λ (x : Lines). if_come clock (agreed k.clock (settled clock x))) dark in
    let nothing_learned : s.pace ≡ None = plain_settled k plain clock in
    let so_many : edges_own s.pace k.state.edge_us clock ≡ suc n = ap (λ (p : Option Pace). edges_own p k.state.edge_us clock) nothing_learned ∙ (ap (λ (o : Option ℕ). edges_own None o clock) edge ∙ count) in
    let less : suc n - 1 ≡ n = omega arith in
    let some : (suc n == 0) ≡ false = grind arith in
    let counted_on : answer_alone k.clock k.table s (suc n) ≡ Some (beat_by k.clock s false (step_to k.clock k.table s (suc n) None) (suc n - 1) (own_edge s.pace k.state.edge_us (suc n)) k.state.bound_us) = rw some refl in
    let steady : is_unsteady k.clock k.state clock ≡ false = dark_is_steady k clock lines dark in
    let nothing : s.doubt ≡ 0 = rw steady certain in
    let by : rules_on k.clock s.pace k.state.reader (suc n) ≡ k.clock.reader_rules = ap (λ (p : Option Pace). rules_on k.clock p k.state.reader (suc n)) nothing_learned ∙ goes in
    let step : (step_to k.clock k.table s (suc n) None).report.announce ≡ Some u =
    says_all s.doubt None (step_behind k.clock.prefers_frames (rules_on k.clock s.pace k.state.reader (suc n)) k.table (suc n - 1) k.state.reader None).report.announce nothing
    ∙ ap (λ (r : ReaderRules). (step_behind k.clock.prefers_frames r k.table (suc n - 1) k.state.reader None).report.announce) by
    ∙ ap (λ (m : ℕ). (step_behind k.clock.prefers_frames k.clock.reader_rules k.table m k.state.reader None).report.announce) less ∙ says in
    record {
      beat = beat_by k.clock s false (step_to k.clock k.table s (suc n) None) (suc n - 1) (own_edge s.pace k.state.edge_us (suc n)) k.state.bound_us;
      answer = ap (answer_by k.clock k.table s clock) none ∙ ap (answer_alone k.clock k.table s) so_many ∙ counted_on;
      says = step;
      edge = ap (λ (p : Option Pace). own_edge p k.state.edge_us (suc n)) nothing_learned ∙ ap (λ (o : Option ℕ). own_edge None o (suc n)) edge;
      bound = omega arith;
    }

-- ---- seconds that a locked reader counts alone

pub record IsAloneAt (t : TimelineValue) (n age : ℕ) (s : State) : Type 0 where
  pub h : HoldValue
  pub is : s ≡ Locked h
  pub on_time : IsOnTime t n h
  pub age_is : h.age ≡ age

module _ (rules : ReaderRules) (table : TableValue) (t : TimelineValue) (sound : IsTimeline t) (true_table : IsTrueTable t table) where
  rule_alone : (n age : ℕ) (s : State) (v : UtcSecond) → IsAloneAt t n age s → IsSecond t (n + 1) v → age < rules.holdover → ((h : HoldValue) → IsOnTime t n h → h.last.day ≤ table.until)
      → IsAloneAt t (n + 1) (age + 1) (step_of rules table s None).state × ((step_of rules table s None).report.announce ≡ Some v)
  unfolding step_of
  rule_alone n age s v at second young known =
      let h = at.h in
      let goes = alone_goes t table n rules.holdover h v sound true_table at.on_time second (omega (arith, at.age_is, young)) (λ guarded. (let above = guarded.above in omega (arith, above, known h at.on_time))) in
      let step : step_of rules table s None ≡ holdover_step (outcome_of h (Ok (hold_after h.last (h.age + 1) h.heard v))) = ap (λ (x : State). step_of rules table x None) at.is ∙ ap holdover_step goes in
      let come = alone_true t table n rules.holdover h v sound true_table at.on_time (ap (λ (o : Outcome). o.answer) goes) in
      let new : IsOnTime t (n + 1) (hold_after h.last (h.age + 1) h.heard v) = subst (λ (o : Outcome). IsOnTime t (n + 1) o.new) goes come.on_time in (
        record { h = hold_after h.last (h.age + 1) h.heard v; is = ap (λ (x : Step). x.state) step; on_time = new; age_is = omega (arith, at.age_is) },
        ap (λ (x : Step). x.report.announce) step,
      )

  -- what it has heard does not go against the table
  one_alone : (prefers : Bool) (n age : ℕ) (s : State) (v : UtcSecond) → IsAloneAt t n age s → IsSecond t (n + 1) v → age < rules.holdover → ((h : HoldValue) → IsOnTime t n h → h.last.day ≤ table.until)
      → IsAloneAt t (n + 1) (age + 1) (step_checked prefers rules table s None).state × ((step_checked prefers rules table s None).report.announce ≡ Some v)
  one_alone prefers n age s v at second young known =
      let with = ap (λ (x : State). goes_against table x None) at.is ∙ on_time_passes t table n at.h true_table at.on_time in
      subst (λ (step : Step). IsAloneAt t (n + 1) (age + 1) step.state × (step.report.announce ≡ Some v)) (sym (passes prefers rules table s None (inr with))) (rule_alone n age s v at second young known)

  -- many
  pub many_alone : (prefers : Bool) (n j : ℕ) (s : State) (second : ℕ → UtcSecond) → IsAloneAt t n 0 s → j < rules.holdover → ((i : ℕ) → i ≤ suc j → IsSecond t (n + i) (second i))
      → ((i : ℕ) (h : HoldValue) → i ≤ j → IsOnTime t (n + i) h → h.last.day ≤ table.until)
      → IsAloneAt t (n + j) j (missed prefers rules table j s) × ((step_behind prefers rules table j s None).report.announce ≡ Some (second (suc j)))
  many_alone prefers n j s second at young seconds known =
      let all = upto j (omega arith) in
      let next : n + suc j ≡ n + j + 1 = omega arith in
      (all, (one_alone prefers (n + j) j (missed prefers rules table j s) (second (suc j)) all (subst (λ (m : ℕ). IsSecond t m (second (suc j))) next (seconds (suc j) (omega arith))) young (λ h. known j h (omega arith))).1)
    where
      upto : (i : ℕ) → i ≤ j → IsAloneAt t (n + i) i (missed prefers rules table i s)
      upto zero low = let none : n ≡ n + 0 = omega arith in subst (λ (m : ℕ). IsAloneAt t m 0 s) none at
      upto (suc i) low =
          let next : n + i + 1 ≡ n + suc i = omega arith in
          let one : i + 1 ≡ suc i = omega arith in
          let step = (one_alone prefers (n + i) i (missed prefers rules table i s) (second (suc i)) (upto i (omega (arith, low))) (subst (λ (m : ℕ). IsSecond t m (second (suc i))) (sym next) (seconds (suc i) (omega (arith, low)))) (omega (arith, low, young)) (λ h. known i h (omega (arith, low)))).0 in
          subst (λ (m : ℕ). IsAloneAt t m (suc i) (missed prefers rules table (suc i) s)) next (subst (λ (m : ℕ). IsAloneAt t (n + i + 1) m (missed prefers rules table (suc i) s)) one step)
