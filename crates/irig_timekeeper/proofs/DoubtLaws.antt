-- What has strayed is not held: behind a vote that contradicts those before it, or frames that tell that
-- the counter is unsteady, nothing is announced without a vote until so many seconds were voted. While
-- lines are true nothing is in doubt.
use Rattle.std.specs.Prelude.{◌==◌, is_none, min, max}
use Rattle.std.proofs.Common.{◌≡◌, ◌∙◌, ℕ, ◌+◌, ◌-◌, ◌%◌, ◌^◌, ◌<◌, ◌≤◌, Bool, true, false, cond, List, [], ◌∷◌, ◌++◌, Option, Some, None, refl, sym, ap, subst, arith, inl, inr}
use Rattle.std.proofs.lemmas.Bool.{cases_Bool, eqb-false}
use Rattle.irig_time.specs.declared.second.UtcSecond.{UtcSecond}
use Rattle.irig_time.specs.declared.claim.Claim.{Claim}
use Rattle.irig_reader.specs.declared.report.Report.{Report}
use Rattle.irig_lines.specs.declared.lines.Vote.{Vote}
use Rattle.irig_timekeeper.specs.declared.clock.Beat.{Beat}
use Rattle.irig_lines.specs.declared.setup.ClockRules.{ClockRules}
use Rattle.irig_timekeeper.specs.declared.clock.ClockState.{ClockState}
use Rattle.irig_lines.specs.Counting.{edges_to_vote, edges_own}
use Rattle.irig_lines.specs.Intervals.{by_vote, contradicts}
use Rattle.irig_timekeeper.specs.Rule.{step_behind, against_table}
use Rattle.irig_lines.specs.Steps.{is_pulse}
use Rattle.irig_timekeeper.specs.Clock.{announce_unless, unless_doubted, beat_by, step_to, own_edge, after_own, answer_alone, answer_to_vote, known_at, doubted_s, clock_by, answer_by, settled_at, is_unsteady, claim_voted, rules_on}
use Rattle.irig_timekeeper.specs.Keeping.{Keeping, vote_at, after_tick, answer_at}
use Rattle.irig_timekeeper.specs.Life.{Call, after_calls}
use Rattle.irig_timekeeper.specs.Life.Call.{Hear, Tick}
use Rattle.irig_timekeeper.proofs.DoubtedSteps.{says_all}
use Rattle.irig_timekeeper.specs.Doubts.{counted_by, voted_since, NoneStrays, SaysTheRule}

-- ---- what a tick says

-- nothing is announced without a vote while something is in doubt
holds_back : (doubt : ℕ) (announce : Option UtcSecond) → 1 ≤ doubt → announce_unless doubt None announce ≡ None
holds_back doubt announce some = let more : (doubt == 0) ≡ false = grind (arith, some) in rw more refl

module _ (k : Keeping) (clock : ℕ) where
  abbrev s : ClockState
  s = settled_at k.clock k.state clock

  -- what is in doubt stays so when lines are settled
  still_doubted : 1 ≤ k.state.doubt → 1 ≤ s.doubt
  still_doubted some = elim (cases_Bool (is_unsteady k.clock k.state clock)) [ inl unsteady ↦ rw unsteady (one_at_least (min 1000 k.clock.reader_rules.holdover)) | inr steady ↦ rw steady some ]
    where
      one_at_least : (n : ℕ) → 1 ≤ max 1 n
      one_at_least n = grind arith

  -- what the rule says where so many seconds are counted
  abbrev rule_by : (n missed : ℕ) → Option Claim → Report
  rule_by n missed vote = (step_behind k.clock.prefers_frames (rules_on k.clock s.pace k.state.reader n) k.table missed k.state.reader vote).report

  abbrev rule : ℕ → Option Claim → Report
  rule missed vote = rule_by (missed + 1) missed vote

  pub says_nothing : (b : Beat) → 1 ≤ k.state.doubt → vote_at k clock ≡ None → answer_at k clock ≡ Some b → b.report.announce ≡ None
  says_nothing b doubt alone answer = by (edges_own s.pace k.state.edge_us clock) (subst (λ (o : Option Vote). answer_by k.clock k.table s clock o ≡ Some b) alone answer)
    where
      by : (n : ℕ) → answer_alone k.clock k.table s n ≡ Some b → b.report.announce ≡ None
      by n answer = elim (cases_Bool (n == 0)) [
        | inl none ↦ let both : None ≡ Some b = rw none at answer in absurd cc
        | inr some ↦
            let both : Some (beat_by k.clock s false (step_to k.clock k.table s n None) (n - 1) (own_edge s.pace s.edge_us n) s.bound_us) ≡ Some b = rw some at answer in
            let beat : beat_by k.clock s false (step_to k.clock k.table s n None) (n - 1) (own_edge s.pace s.edge_us n) s.bound_us ≡ b = cc in
            ap (λ (x : Beat). x.report.announce) (sym beat) ∙ holds_back s.doubt (rule_by n (n - 1) None).announce (still_doubted doubt)
      ]

  by_beat : (vote : Option Claim) (n edge voted : ℕ) (b : Beat) → 1 ≤ n → unless_doubted s.doubt vote (rule_by n (n - 1) vote) ≡ rule_by n (n - 1) vote → beat_by k.clock s (against_table k.table vote) (step_to k.clock k.table s n vote) (n - 1) edge voted ≡ b → b.report ≡ rule b.missed vote
  by_beat vote n edge voted b some said beat =
      let one_more : n ≡ n - 1 + 1 = omega (arith, some) in
      ap (λ (x : Beat). x.report) (sym beat) ∙ said ∙ ap (λ (i : ℕ). rule_by i (n - 1) vote) one_more ∙ ap (λ (x : Beat). rule x.missed vote) beat

  -- by a vote the rule is said, whatever is in doubt
  by_vote_said : (v : Vote) (b : Beat) → answer_by k.clock k.table s clock (Some v) ≡ Some b → b.report ≡ rule b.missed (Some v.claim)
  by_vote_said v b answer = voted (edges_to_vote k.state.edge_us v.edge_us) answer
    where
      voted : (n : ℕ) → answer_to_vote k.clock k.table s v n ≡ Some b → b.report ≡ rule b.missed (Some v.claim)
      voted n answer = elim (cases_Bool (n == 0)) [
        | inl none ↦ let both : None ≡ Some b = rw none at answer in absurd cc
        | inr some ↦
            let both : Some (beat_by k.clock s (against_table k.table (Some v.claim)) (step_to k.clock k.table s n (Some v.claim)) (n - 1) v.edge_us v.bound_us) ≡ Some b = rw some at answer in
            by_beat (Some v.claim) n v.edge_us v.bound_us b (let more = eqb-false n 0 some in omega (arith, more)) refl cc
      ]

  pub says_voted : (v : Vote) (b : Beat) → vote_at k clock ≡ Some v → answer_at k clock ≡ Some b → SaysTheRule k clock b
  says_voted v b voted answer =
      by_vote_said v b (subst (λ (o : Option Vote). answer_by k.clock k.table s clock o ≡ Some b) voted answer)
      ∙ ap (λ (o : Option Vote). rule b.missed (claim_voted o)) (sym voted)

  -- without one if nothing is in doubt, and frames do not tell that the counter is unsteady
  pub says_rule : (b : Beat) → k.state.doubt ≡ 0 → is_unsteady k.clock k.state clock ≡ false → answer_at k clock ≡ Some b → SaysTheRule k clock b
  says_rule b certain steady answer = of (vote_at k clock) answer
    where
      nothing : s.doubt ≡ 0
      nothing = rw steady certain

      of : (o : Option Vote) → answer_by k.clock k.table s clock o ≡ Some b → b.report ≡ rule b.missed (claim_voted o)
      of (Some v) answer = by_vote_said v b answer
      of None answer = own (edges_own s.pace k.state.edge_us clock) answer
        where
          own : (n : ℕ) → answer_alone k.clock k.table s n ≡ Some b → b.report ≡ rule b.missed None
          own n answer = elim (cases_Bool (n == 0)) [
            | inl none ↦ let both : None ≡ Some b = rw none at answer in absurd cc
            | inr some ↦
                let both : Some (beat_by k.clock s false (step_to k.clock k.table s n None) (n - 1) (own_edge s.pace s.edge_us n) s.bound_us) ≡ Some b = rw some at answer in
                by_beat None n (own_edge s.pace s.edge_us n) s.bound_us b (let more = eqb-false n 0 some in omega (arith, more)) (ap (λ (o : Option UtcSecond). record (rule_by n (n - 1) None) { announce = o }) (says_all s.doubt None (rule_by n (n - 1) None).announce nothing)) cc
          ]

-- ---- what a tick leaves in doubt

-- a vote contradicts those before it, or frames tell that the counter is unsteady
strayed : Keeping → (clock : ℕ) → Option Vote → Bool
strayed k clock None = is_unsteady k.clock k.state clock
strayed k clock (Some v) = contradicts (known_at k.clock (settled_at k.clock k.state clock) (edges_to_vote k.state.edge_us v.edge_us)) (by_vote v)

record LeavesDoubt (k : Keeping) (clock : ℕ) (vote : Option Vote) (new : ClockState) : Type 0 where
  strays : new.strays ≡ cond (strayed k clock vote) ((k.state.strays + 1) % 2 ^ 32) k.state.strays
  doubt : new.doubt ≡ cond (strayed k clock vote) (doubted_s k.clock) (k.state.doubt - counted_by k vote)

tick_doubts : (k : Keeping) (clock : ℕ) → LeavesDoubt k clock (vote_at k clock) (after_tick k clock).state
unfolding strayed
tick_doubts k clock = of (vote_at k clock) refl
  where
    s : ClockState
    s = settled_at k.clock k.state clock

    stays : (n : ℕ) → ((after_own k.clock k.table s n).strays ≡ s.strays) × ((after_own k.clock k.table s n).doubt ≡ s.doubt)
    stays n = elim (cases_Bool (n == 0)) [ inl none ↦ rw none (refl, refl) | inr some ↦ rw some (refl, refl) ]

    -- with a vote frames do not
    steady : (o : Option Vote) → o ≡ vote_at k clock → is_none o ≡ false → is_unsteady k.clock k.state clock ≡ false
    steady o at some = let none : is_none (vote_at k clock) ≡ false = ap is_none (sym at) ∙ some in rw none refl

    none_off : (unsteady : Bool) (most doubt : ℕ) → cond unsteady most doubt ≡ cond unsteady most (doubt - 0)
    none_off true most doubt = refl
    none_off false most doubt = omega arith

    of : (o : Option Vote) → o ≡ vote_at k clock → LeavesDoubt k clock o (clock_by k.clock k.table s clock o)
    of None at = let same = stays (edges_own (settled_at k.clock k.state clock).pace k.state.edge_us clock) in record { strays = same.0; doubt = same.1 ∙ none_off (is_unsteady k.clock k.state clock) (doubted_s k.clock) k.state.doubt }
    of (Some v) at = let even = steady (Some v) at refl in record { strays = rw even refl; doubt = rw even refl }

-- one more is another count
one_more : (strays : ℕ) → ¬ ((strays + 1) % 2 ^ 32 ≡ strays)
one_more strays same = omega (arith, same)

-- behind a tick at which one strayed so many seconds are in doubt
begins_doubt : (k : Keeping) (clock : ℕ) → ¬ ((after_tick k clock).state.strays ≡ k.state.strays) → (after_tick k clock).state.doubt ≡ doubted_s k.clock
begins_doubt k clock other =
    let left = tick_doubts k clock in
    elim (cases_Bool (strayed k clock (vote_at k clock))) [
      | inl strays ↦ let is : (after_tick k clock).state.doubt ≡ cond true (doubted_s k.clock) (k.state.doubt - counted_by k (vote_at k clock)) = rw strays at left.doubt in is
      | inr not ↦ let is : (after_tick k clock).state.strays ≡ cond false ((k.state.strays + 1) % 2 ^ 32) k.state.strays = rw not at left.strays in absurd (other is)
    ]

-- each voted second takes one off, if no vote strays
keeps_doubt : (k : Keeping) (clock most : ℕ) → most ≡ doubted_s k.clock → (voted : ℕ) → most ≤ k.state.doubt + voted → most ≤ (after_tick k clock).state.doubt + (voted + counted_by k (vote_at k clock))
keeps_doubt k clock most is voted low =
    let left = tick_doubts k clock in
    elim (cases_Bool (strayed k clock (vote_at k clock))) [
      | inl strays ↦ let doubt : (after_tick k clock).state.doubt ≡ doubted_s k.clock = rw strays at left.doubt in omega (arith, doubt, is)
      | inr not ↦ let doubt : (after_tick k clock).state.doubt ≡ k.state.doubt - counted_by k (vote_at k clock) = rw not at left.doubt in omega (arith, doubt, low)
    ]

-- no more is in doubt than at its begin
record IsFewer (k : Keeping) (vote : Option Vote) (new : ClockState) : Type 0 where
  most : new.doubt ≤ doubted_s k.clock
  fewer : new.strays ≡ k.state.strays → new.doubt ≡ k.state.doubt - counted_by k vote

fewer_doubts : (k : Keeping) (clock : ℕ) → k.state.doubt ≤ doubted_s k.clock → IsFewer k (vote_at k clock) (after_tick k clock).state
fewer_doubts k clock low =
    let left = tick_doubts k clock in
    elim (cases_Bool (strayed k clock (vote_at k clock))) [
      | inl strays ↦
          let doubt : (after_tick k clock).state.doubt ≡ doubted_s k.clock = rw strays at left.doubt in
          let more : (after_tick k clock).state.strays ≡ (k.state.strays + 1) % 2 ^ 32 = rw strays at left.strays in
          record { most = omega (arith, doubt); fewer = λ same. absurd (one_more k.state.strays (sym more ∙ same)) }
      | inr not ↦
          let doubt : (after_tick k clock).state.doubt ≡ k.state.doubt - counted_by k (vote_at k clock) = rw not at left.doubt in
          record { most = omega (arith, doubt, low); fewer = λ same. doubt }
    ]

-- ---- a life

module _ (new : Keeping) where
  same_clock : (calls : List Call) → (after_calls new calls).clock ≡ new.clock
  same_clock [] = refl
  same_clock (Hear port rise width ∷ calls) = elim (cases_Bool (is_pulse width)) [ inl narrow ↦ rw narrow (same_clock calls) | inr wide ↦ rw wide (same_clock calls) ]
  same_clock (Tick now ∷ calls) = same_clock calls

  -- of a tick at which one strayed, and later calls, that many seconds are voted, or in doubt yet
  in_doubt : (before : ℕ) (earlier : List Call) → ¬ ((after_calls new (Tick before ∷ earlier)).state.strays ≡ (after_calls new earlier).state.strays)
      → (later : List Call) → doubted_s new.clock ≤ (after_calls new (later ++ (Tick before ∷ earlier))).state.doubt + voted_since new later (Tick before ∷ earlier)
  in_doubt before earlier other [] = let doubt = begins_doubt (after_calls new earlier) (before % 2 ^ 32) other in let most = ap doubted_s (same_clock earlier) in omega (arith, doubt, most)
  in_doubt before earlier other (Hear port rise width ∷ later) =
      let h = in_doubt before earlier other later in
      elim (cases_Bool (is_pulse width)) [ inl narrow ↦ rw narrow h | inr wide ↦ rw wide h ]
  in_doubt before earlier other (Tick now ∷ later) =
      let calls : List Call = later ++ (Tick before ∷ earlier) in
      keeps_doubt (after_calls new calls) (now % 2 ^ 32) (doubted_s new.clock) (sym (ap doubted_s (same_clock calls))) (voted_since new later (Tick before ∷ earlier)) (in_doubt before earlier other later)

  -- so no second is held until so many were voted
  pub not_held : (before now : ℕ) (earlier later : List Call) (b : Beat) → ¬ ((after_calls new (Tick before ∷ earlier)).state.strays ≡ (after_calls new earlier).state.strays)
      → voted_since new later (Tick before ∷ earlier) < doubted_s new.clock → vote_at (after_calls new (later ++ (Tick before ∷ earlier))) (now % 2 ^ 32) ≡ None
      → answer_at (after_calls new (later ++ (Tick before ∷ earlier))) (now % 2 ^ 32) ≡ Some b → b.report.announce ≡ None
  not_held before now earlier later b other few alone answer =
      let h = in_doubt before earlier other later in
      says_nothing (after_calls new (later ++ (Tick before ∷ earlier))) (now % 2 ^ 32) b (omega (arith, h, few)) alone answer

  -- no more is in doubt, and less by each voted second
  at_most : new.state.doubt ≡ 0 → (calls : List Call) → (after_calls new calls).state.doubt ≤ doubted_s new.clock
  at_most none [] = omega (arith, none)
  at_most none (Hear port rise width ∷ calls) = let h = at_most none calls in elim (cases_Bool (is_pulse width)) [ inl narrow ↦ rw narrow h | inr wide ↦ rw wide h ]
  at_most none (Tick now ∷ calls) =
      let most = ap doubted_s (same_clock calls) in
      let low = at_most none calls in
      let then = (fewer_doubts (after_calls new calls) (now % 2 ^ 32) (omega (arith, low, most))).most in
      omega (arith, then, most)

  ends_doubt : new.state.doubt ≡ 0 → (later earlier : List Call) → NoneStrays new later earlier → (after_calls new (later ++ earlier)).state.doubt ≤ doubted_s new.clock - voted_since new later earlier
  ends_doubt none [] earlier same = let h = at_most none earlier in omega (arith, h)
  ends_doubt none (Hear port rise width ∷ later) earlier same =
      let h = ends_doubt none later earlier same in
      elim (cases_Bool (is_pulse width)) [ inl narrow ↦ rw narrow h | inr wide ↦ rw wide h ]
  ends_doubt none (Tick now ∷ later) earlier same =
      let calls : List Call = later ++ earlier in
      let most = ap doubted_s (same_clock calls) in
      let low = at_most none calls in
      let doubt = (fewer_doubts (after_calls new calls) (now % 2 ^ 32) (omega (arith, low, most))).fewer same.0 in
      let before = ends_doubt none later earlier same.1 in
      omega (arith, doubt, before)

  -- so the rule is said again behind so many of them, unless frames tell then that the counter is unsteady
  pub held_again : new.state.doubt ≡ 0 → (now : ℕ) (later earlier : List Call) (b : Beat) → NoneStrays new later earlier → doubted_s new.clock ≤ voted_since new later earlier
      → is_unsteady new.clock (after_calls new (later ++ earlier)).state (now % 2 ^ 32) ≡ false → answer_at (after_calls new (later ++ earlier)) (now % 2 ^ 32) ≡ Some b → SaysTheRule (after_calls new (later ++ earlier)) (now % 2 ^ 32) b
  held_again none now later earlier b same enough steady answer =
      let h = ends_doubt none later earlier same in
      let as_made = ap (λ (c : ClockRules). is_unsteady c (after_calls new (later ++ earlier)).state (now % 2 ^ 32)) (same_clock (later ++ earlier)) in
      says_rule (after_calls new (later ++ earlier)) (now % 2 ^ 32) b (omega (arith, h, enough)) (as_made ∙ steady) answer
