-- A tick of a device whose leap table guards its leaps, and what it tells of a vote against the table.
use Rattle.std.specs.Prelude.{◌==◌}
use Rattle.std.proofs.Common.{◌≡◌, ◌∙◌, ℕ, ◌+◌, ◌-◌, ◌%◌, ◌^◌, ◌≤◌, Bool, false, List, ◌∷◌, Option, Some, None, refl, sym, ap, subst, arith, inl, inr}
use Rattle.std.proofs.lemmas.Bool.{cases_Bool, eqb-false}
use Rattle.irig_time.specs.declared.second.UtcSecond.{UtcSecond}
use Rattle.irig_time.specs.Tables.{TableValue}
use Rattle.irig_time.specs.Timelines.{TimelineValue, IsSecond}
use Rattle.irig_time.specs.TimelineFaults.{IsTimeline}
use Rattle.irig_hold.specs.Steps.{HoldValue}
use Rattle.irig_hold.specs.Truth.{IsTrueTable}
use Rattle.irig_reader.specs.declared.report.Report.{Report}
use Rattle.irig_reader.specs.declared.rule.State.{State}
use Rattle.irig_reader.specs.declared.rule.State.TheVariants.{Locked}
use Rattle.irig_lines.specs.declared.lines.Vote.{Vote}
use Rattle.irig_lines.specs.declared.setup.ClockRules.{ClockRules}
use Rattle.irig_lines.specs.Counting.{edges_to_vote, edges_own}
use Rattle.irig_lines.specs.Lines.{IsTrueLately}
use Rattle.irig_lines.specs.Steps.{agreed, settled, if_come}
use Rattle.irig_lines.proofs.LineLaws.{true_by_any}
use Rattle.irig_reader.specs.declared.rules.ReaderRules.{ReaderRules}
use Rattle.irig_timekeeper.specs.declared.clock.Beat.{Beat}
use Rattle.irig_timekeeper.specs.declared.clock.ClockState.{ClockState}
use Rattle.irig_timekeeper.specs.Rule.{against_table, step_behind, missed}
use Rattle.irig_timekeeper.specs.Clock.{beat_by, step_to, answer_to_vote, answer_alone, own_edge, answer_by, claim_voted, settled_at, rules_on}
use Rattle.irig_timekeeper.specs.Keeping.{Keeping, vote_at, answer_at}
use Rattle.irig_timekeeper.specs.Truth.{KnowsEnd}
use Rattle.irig_timekeeper.specs.Life.{Call, Made, pulses_on, LivesTruly, device_of, life_of}
use Rattle.irig_timekeeper.specs.Life.Call.{Tick}
use Rattle.irig_timekeeper.proofs.VoteLaws.{vote_is_true}
use Rattle.irig_timekeeper.proofs.LifeLaws.{begins, lines_after, heard_truly}
use Rattle.irig_timekeeper.proofs.DoubtedSteps.{rule_announces}
use Rattle.irig_timekeeper.proofs.DoubtLaws.{says_voted}
use Rattle.irig_timekeeper.proofs.GuardLaws.{guards_vote, guards_missed, true_agrees}

module _ (k : Keeping) (clock : ℕ) (b : Beat) (answer : answer_at k clock ≡ Some b) where
  abbrev s : ClockState
  s = settled_at k.clock k.state clock

  -- ---- what is told of the vote

  pub told_of_vote : b.against_table ≡ against_table k.table (claim_voted (vote_at k clock))
  told_of_vote = of (vote_at k clock) answer
    where
      own : (n : ℕ) → answer_alone k.clock k.table s n ≡ Some b → b.against_table ≡ false
      own n answer = elim (cases_Bool (n == 0)) [
        | inl none ↦ let both : None ≡ Some b = rw none at answer in absurd cc
        | inr some ↦
            let both : Some (beat_by k.clock s false (step_to k.clock k.table s n None) (n - 1) (own_edge s.pace s.edge_us n) s.bound_us) ≡ Some b = rw some at answer in
            let beat : beat_by k.clock s false (step_to k.clock k.table s n None) (n - 1) (own_edge s.pace s.edge_us n) s.bound_us ≡ b = cc in
            ap (λ (x : Beat). x.against_table) (sym beat)
      ]

      voted : (v : Vote) (n : ℕ) → answer_to_vote k.clock k.table s v n ≡ Some b → b.against_table ≡ against_table k.table (Some v.claim)
      voted v n answer = elim (cases_Bool (n == 0)) [
        | inl none ↦ let both : None ≡ Some b = rw none at answer in absurd cc
        | inr some ↦
            let both : Some (beat_by k.clock s (against_table k.table (Some v.claim)) (step_to k.clock k.table s n (Some v.claim)) (n - 1) v.edge_us v.bound_us) ≡ Some b = rw some at answer in
            let beat : beat_by k.clock s (against_table k.table (Some v.claim)) (step_to k.clock k.table s n (Some v.claim)) (n - 1) v.edge_us v.bound_us ≡ b = cc in
            ap (λ (x : Beat). x.against_table) (sym beat)
      ]

      of : (o : Option Vote) → answer_by k.clock k.table s clock o ≡ Some b → b.against_table ≡ against_table k.table (claim_voted o)
      of None answer = own (edges_own s.pace k.state.edge_us clock) answer
      of (Some v) answer = voted v (edges_to_vote k.state.edge_us v.edge_us) answer

  -- ---- what is announced

  -- the rules where so many were missed
  abbrev rules_then : ℕ → ReaderRules
  rules_then missed = rules_on k.clock s.pace k.state.reader (missed + 1)

  alone_says : (u : UtcSecond) → vote_at k clock ≡ None → b.report.announce ≡ Some u → (step_behind k.clock.prefers_frames (rules_then b.missed) k.table b.missed k.state.reader None).report.announce ≡ Some u
  alone_says u alone says = own (edges_own s.pace k.state.edge_us clock) (subst (λ (o : Option Vote). answer_by k.clock k.table s clock o ≡ Some b) alone answer)
    where
      own : (n : ℕ) → answer_alone k.clock k.table s n ≡ Some b → (step_behind k.clock.prefers_frames (rules_then b.missed) k.table b.missed k.state.reader None).report.announce ≡ Some u
      own n answer = elim (cases_Bool (n == 0)) [
        | inl none ↦ let both : None ≡ Some b = rw none at answer in absurd cc
        | inr some ↦
            let both : Some (beat_by k.clock s false (step_to k.clock k.table s n None) (n - 1) (own_edge s.pace s.edge_us n) s.bound_us) ≡ Some b = rw some at answer in
            let beat : beat_by k.clock s false (step_to k.clock k.table s n None) (n - 1) (own_edge s.pace s.edge_us n) s.bound_us ≡ b = cc in
            let so_many : n - 1 ≡ b.missed = ap (λ (x : Beat). x.missed) beat in
            let announces = rule_announces s.doubt None (step_behind k.clock.prefers_frames (rules_on k.clock s.pace k.state.reader n) k.table (n - 1) k.state.reader None).report.announce u (ap (λ (x : Beat). x.report.announce) beat ∙ says) in
            let one_more : n ≡ n - 1 + 1 = (let more = eqb-false n 0 some in omega (arith, more)) in
            subst (λ (i : ℕ). (step_behind k.clock.prefers_frames (rules_then i) k.table i k.state.reader None).report.announce ≡ Some u) so_many
            (subst (λ (i : ℕ). (step_behind k.clock.prefers_frames (rules_on k.clock s.pace k.state.reader i) k.table (n - 1) k.state.reader None).report.announce ≡ Some u) one_more announces)
      ]

  module _ (t : TimelineValue) (sound : IsTimeline t) (guards : k.clock.prefers_frames ≡ false) (n : ℕ) (u : UtcSecond) (says : b.report.announce ≡ Some u) where
    -- by a vote for T(n)
    pub tick_guards_vote : (v : Vote) → vote_at k clock ≡ Some v → IsSecond t n v.claim.at → KnowsEnd t k.table v.claim.at.day → IsSecond t (n + 1) u
    tick_guards_vote v voted at knows =
        let rule = says_voted k clock v b voted answer in
        let by : (step_behind k.clock.prefers_frames (rules_then b.missed) k.table b.missed k.state.reader (claim_voted (vote_at k clock))).report.announce ≡ Some u = ap (λ (r : Report). r.announce) (sym rule) ∙ says in
        let by_claim : (step_behind k.clock.prefers_frames (rules_then b.missed) k.table b.missed k.state.reader (Some v.claim)).report.announce ≡ Some u =
        subst (λ (o : Option Vote). (step_behind k.clock.prefers_frames (rules_then b.missed) k.table b.missed k.state.reader (claim_voted o)).report.announce ≡ Some u) voted by in
        guards_vote t (rules_then b.missed) k.table n (missed false (rules_then b.missed) k.table b.missed k.state.reader) v.claim u sound at knows
        (subst (λ (p : Bool). (step_behind p (rules_then b.missed) k.table b.missed k.state.reader (Some v.claim)).report.announce ≡ Some u) guards by_claim)

    -- without one, from a hold at T(n)
    pub tick_guards_hold : (h : HoldValue) → vote_at k clock ≡ None → k.state.reader ≡ Locked h → IsSecond t n h.last → ((i : ℕ) (v : UtcSecond) → i ≤ b.missed → IsSecond t (n + i) v → KnowsEnd t k.table v.day) → IsSecond t (n + b.missed + 1) u
    tick_guards_hold h alone is at knows =
        guards_missed t (rules_then b.missed) k.table sound n b.missed h u at knows
        (subst (λ (x : State). (step_behind false (rules_then b.missed) k.table b.missed x None).report.announce ≡ Some u) is
        (subst (λ (p : Bool). (step_behind p (rules_then b.missed) k.table b.missed k.state.reader None).report.announce ≡ Some u) guards (alone_says u alone says)))

-- ---- true votes do not speak against a true table

pub never_against : (t : TimelineValue) (edges : ℕ → ℕ) (made : Made) (start now : ℕ) (calls : List Call) (b : Beat) → IsTrueTable t made.table → LivesTruly (IsTrueLately made.clock.within.us) t edges made start (Tick now ∷ calls) → answer_at (life_of made calls) (now % 2 ^ 32) ≡ Some b → b.against_table ≡ false
never_against t edges made start now calls b right lives answer = told_of_vote k (now % 2 ^ 32) b answer ∙ of (vote_at k (now % 2 ^ 32)) refl
  where
    k : Keeping
    k = life_of made calls

    of : (o : Option Vote) → vote_at k (now % 2 ^ 32) ≡ o → against_table k.table (claim_voted o) ≡ false
    of None e = refl
    of (Some v) e =
        let begun = begins made.rules made.clock made.table made.lines start made.fresh in
        let l = lines_after (device_of made) start begun calls now lives.order in
        let h = heard_truly (IsTrueLately made.clock.within.us made.rules t edges) t edges 0 0 (device_of made) start begun calls now lives.order lives.truth.0 in
        let vote = vote_is_true (IsTrueLately made.clock.within.us made.rules t edges now) made.rules t made.clock edges lives.is.steady 0 0 (omega arith) now (life_of made calls).state.lines (λ i. pulses_on i calls)
        (λ half end pulses claim is_true frame soon. true_by_any made.clock made.rules t made.clock.drift_us edges half now end pulses claim lives.is.steady is_true frame soon) h v
        (ap (λ (c : ClockRules). if_come (now % 2 ^ 32) (agreed c (settled (now % 2 ^ 32) (life_of made calls).state.lines))) (sym l.same.clock) ∙ e) in
        ap (λ (x : TableValue). against_table x (Some v.claim)) l.same.table ∙ true_agrees t made.table vote.truth.second v.claim right vote.truth.truth
