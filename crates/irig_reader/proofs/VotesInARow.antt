-- A silent reader announces again by so many votes in a row as its rules ask, and by no fewer.
use Rattle.std.proofs.Common.{◌≡◌, ◌==◌, ℕ, suc, ◌+◌, List, [], ◌∷◌, Option, Some, None, Ok, refl, sym, subst, ap, inl, inr, arith}
use Rattle.std.specs.Prelude.{◌&&◌, ⊤}
use Rattle.std.proofs.lemmas.Bool.{cases_Bool}
use Rattle.irig_time.specs.declared.second.UtcSecond.{UtcSecond}
use Rattle.irig_time.specs.declared.mark.Mark.{Mark}
use Rattle.irig_time.specs.declared.claim.Claim.{Claim}
use Rattle.irig_time.specs.Next.{next_of}
use Rattle.irig_time.specs.Tables.{TableValue, spoken_mark}
use Rattle.irig_hold.specs.declared.hold.Turn.TheVariants as turn
use Rattle.irig_hold.specs.Steps.{HoldValue, hold_start, hold_or_stop, hold_after, mark_or, outcome_of, voted_by, alone_by}
use Rattle.irig_hold.proofs.HoldLaws.{stop_is_no_now, voted_for}
use Rattle.irig_reader.specs.declared.rules.ReaderRules.{ReaderRules}
use Rattle.irig_reader.specs.declared.report.Cause.{Cause}
use Rattle.irig_reader.specs.declared.report.Cause.TheVariants as cause
use Rattle.irig_reader.specs.declared.rule.State.{State}
use Rattle.irig_reader.specs.declared.rule.State.TheVariants.{Idle, Acquiring, Locked}
use Rattle.irig_reader.specs.declared.rule.Step.{Step}
use Rattle.irig_reader.specs.Rule.{stop_step, count_step, cause_of, step_of, state_of, report_of}
use Rattle.irig_reader.specs.Locking.{IsSilentAfter, IsNextByMark, FollowsVotes}
use Rattle.irig_reader.proofs.StepCases.{locked_cases, count_cases, vote_cases, none_cases}

-- a silent reader is not locked
abbrev pub IsUnlocked : State → Type 0
IsUnlocked Idle = ⊤
IsUnlocked (Acquiring h count) = ⊤
IsUnlocked (Locked h) = ⊥

-- so many votes in a row lead to where an acquiring reader stands
abbrev Counts : List (Option Claim) → State → Type 0
Counts votes Idle = ⊤
Counts votes (Acquiring h count) = FollowsVotes count votes h.last
Counts votes (Locked h) = ⊤

-- by these votes the step counts so many in a row, and announces by enough of them
pub record IsByVotes (rules : ReaderRules) (votes : List (Option Claim)) (step : Step) : Type 0 where
  pub counts : Counts votes step.state
  pub says : (u : UtcSecond) → step.report.announce ≡ Some u → FollowsVotes rules.lock_after votes u

module _ (rules : ReaderRules) (votes : List (Option Claim)) where
  by_stop : (c : Cause) → IsByVotes rules votes (stop_step c)
  by_stop c = record { counts = tt; says = λ u e. absurd cc }

  counted : (h : HoldValue) (count : ℕ) → FollowsVotes count votes h.last → IsByVotes rules votes (count_step rules h count)
  counted h count follows =
      count_cases (IsByVotes rules votes) rules h count
      (λ enough. record {
        counts = tt;
        says = λ u e.
            let same : h.last ≡ u = cc in
            subst (λ (k : ℕ). FollowsVotes k votes u) enough (subst (FollowsVotes count votes) same follows);
      })
      (λ more. record { counts = follows; says = λ u e. absurd cc })

-- ---- the second after a vote's

begun_next : (u : UtcSecond) (mark from : Mark) (o : Option UtcSecond) (h : HoldValue) → next_of u from ≡ o → hold_or_stop u 0 mark o ≡ Ok h → IsNextByMark u h.last
begun_next u mark from None h is e = absurd cc
begun_next u mark from (Some v) h is e =
    let same : hold_after u 0 mark v ≡ h = cc in
    let last : v ≡ h.last = ap (λ (k : HoldValue). k.last) same in
    subst (IsNextByMark u) last (record { mark = from; next = is })

gone_next : (h : HoldValue) (u : UtcSecond) (mark from : Mark) (o : Option UtcSecond) (w : UtcSecond) → next_of u from ≡ o → (outcome_of h (hold_or_stop u 0 mark o)).answer ≡ turn.Now w
    → IsNextByMark u (outcome_of h (hold_or_stop u 0 mark o)).new.last
gone_next h u mark from None w is e = absurd (stop_is_no_now u.day w e)
gone_next h u mark from (Some v) w is e = record { mark = from; next = is }

-- what a hold that goes on by a vote comes to
voted_next : (table : TableValue) (h : HoldValue) (c : Claim) (w : UtcSecond) → (voted_by table h c).answer ≡ turn.Now w → IsNextByMark h.last (voted_by table h c).new.last
voted_next table h c w e =
    elim (cases_Bool ((c.at.day == h.last.day) && (c.at.sod == h.last.sod))) [
      | inl for ↦
          let mark : Mark = mark_or c.mark h.heard in
          let from : Mark = spoken_mark table mark h.last.day in
          rw for (gone_next h h.last mark from (next_of h.last from) w refl (rw for at e))
      | inr other ↦ let jump : turn.Jump ≡ turn.Now w = rw other at e in absurd cc
    ]

-- ---- one edge of a reader that is not locked

first_follows : (table : TableValue) (c : Claim) (votes : List (Option Claim)) (h : HoldValue) → hold_start table c ≡ Ok h → FollowsVotes 1 (Some c ∷ votes) h.last
first_follows table c votes h e = (begun_next c.at c.mark (spoken_mark table c.mark c.at.day) (next_of c.at (spoken_mark table c.mark c.at.day)) h refl e, tt)

later_follows : (table : TableValue) (h : HoldValue) (count : ℕ) (c : Claim) (votes : List (Option Claim)) (u : UtcSecond) → FollowsVotes count votes h.last → (voted_by table h c).answer ≡ turn.Now u
    → FollowsVotes (count + 1) (Some c ∷ votes) (voted_by table h c).new.last
later_follows table h count c votes u follows e =
    let for : c.at ≡ h.last = voted_for table h c u e in
    let more : suc count ≡ count + 1 = omega arith in
    subst (λ (k : ℕ). FollowsVotes k (Some c ∷ votes) (voted_by table h c).new.last) more
    (subst (λ (x : UtcSecond). IsNextByMark x (voted_by table h c).new.last) (sym for) (voted_next table h c u e), subst (FollowsVotes count votes) (sym for) follows)

unlocked_step : (rules : ReaderRules) (table : TableValue) (state : State) (vote : Option Claim) (votes : List (Option Claim)) → IsUnlocked state → Counts votes state
    → IsByVotes rules (vote ∷ votes) (step_of rules table state vote)
unfolding step_of
unlocked_step rules table Idle None votes silent counts = by_stop rules (None ∷ votes) cause.NoVote
unlocked_step rules table (Acquiring h count) None votes silent counts = by_stop rules (None ∷ votes) cause.NoVote
unlocked_step rules table state (Some c) votes silent counts =
    vote_cases (IsByVotes rules (Some c ∷ votes)) rules table state c (λ h e. counted rules (Some c ∷ votes) h 1 (first_follows table c votes h e)) (λ stop. by_stop rules (Some c ∷ votes) (cause_of stop))
    (λ h count u is e. counted rules (Some c ∷ votes) (voted_by table h c).new (count + 1) (later_follows table h count c votes u (subst (Counts votes) is counts) e)) (λ h u is e. absurd (subst IsUnlocked is silent))
unlocked_step rules table (Locked h) None votes silent counts = absurd silent

-- ---- any votes

step_counts : (rules : ReaderRules) (table : TableValue) (state : State) (vote : Option Claim) (votes : List (Option Claim)) → Counts votes state → Counts (vote ∷ votes) (step_of rules table state vote).state
unfolding step_of
step_counts rules table Idle vote votes counts = (unlocked_step rules table Idle vote votes tt tt).counts
step_counts rules table (Acquiring h count) vote votes counts = (unlocked_step rules table (Acquiring h count) vote votes tt counts).counts
step_counts rules table (Locked h) None votes counts = locked_cases (λ step. Counts (None ∷ votes) step.state) _ cause.Held (alone_by table h rules.holdover).answer (alone_by table h rules.holdover).new (λ u e. tt) (λ stop e. tt)
step_counts rules table (Locked h) (Some c) votes counts = locked_cases (λ step. Counts (Some c ∷ votes) step.state) _ cause.Voted (voted_by table h c).answer (voted_by table h c).new (λ u e. tt) (λ stop e. tt)

counted_by : (rules : ReaderRules) (table : TableValue) (votes : List (Option Claim)) → Counts votes (state_of rules table votes)
counted_by rules table [] = tt
counted_by rules table (vote ∷ votes) = step_counts rules table (state_of rules table votes) vote votes (counted_by rules table votes)

-- ---- silence

-- a step that announces nothing leaves the reader unlocked
abbrev IsSilentIfUnlocked : Step → Type 0
IsSilentIfUnlocked step = step.report.announce ≡ None → IsUnlocked step.state

silent_count : (rules : ReaderRules) (h : HoldValue) (count : ℕ) → IsSilentIfUnlocked (count_step rules h count)
silent_count rules h count = count_cases IsSilentIfUnlocked rules h count (λ enough e. absurd cc) (λ more e. tt)

silent_step : (rules : ReaderRules) (table : TableValue) (state : State) (vote : Option Claim) → IsSilentIfUnlocked (step_of rules table state vote)
silent_step rules table state None = none_cases IsSilentIfUnlocked rules table state (λ c e. tt) (λ h u is now e. absurd cc)
silent_step rules table state (Some c) =
    vote_cases IsSilentIfUnlocked rules table state c (λ h e. silent_count rules h 1) (λ stop e. tt) (λ h count u is e. silent_count rules (voted_by table h c).new (count + 1)) (λ h u is now e. absurd cc)

pub silent_unlocked : (rules : ReaderRules) (table : TableValue) (votes : List (Option Claim)) → IsSilentAfter rules table votes → IsUnlocked (state_of rules table votes)
silent_unlocked rules table [] silent = tt
silent_unlocked rules table (vote ∷ votes) silent = silent_step rules table (state_of rules table votes) vote silent

-- ---- the first announcement

pub announced_by_votes : (rules : ReaderRules) (table : TableValue) (vote : Option Claim) (votes : List (Option Claim)) (u : UtcSecond) → IsSilentAfter rules table votes
    → (report_of rules table vote votes).announce ≡ Some u → FollowsVotes rules.lock_after (vote ∷ votes) u
announced_by_votes rules table vote votes u silent e =
    (unlocked_step rules table (state_of rules table votes) vote votes (silent_unlocked rules table votes silent) (counted_by rules table votes)).says u e
