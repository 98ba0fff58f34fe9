-- What a reader announces without a vote, by its last vote.
use Rattle.std.proofs.Common.{◌≡◌, ◌==◌, ℕ, suc, ◌+◌, List, [], ◌∷◌, Option, Some, None, Ok, refl, sym, subst, ap, ◌∙◌, inl, inr, arith}
use Rattle.std.specs.Prelude.{nat_le, ◌&&◌, IfSome}
use Rattle.std.proofs.lemmas.Bool.{cases_Bool}
use Rattle.std.proofs.lemmas.List.Elements.{All-head, All-tail}
use Rattle.irig_time.specs.declared.second.UtcSecond.{UtcSecond}
use Rattle.irig_time.specs.declared.mark.Mark.{Mark}
use Rattle.irig_time.specs.declared.claim.Claim.{Claim}
use Rattle.irig_time.specs.Next.{next_of}
use Rattle.irig_time.specs.Timelines.{TimelineValue, IsTrueClaim}
use Rattle.irig_time.specs.TimelineFaults.{IsTimeline}
use Rattle.irig_time.specs.Claims.{IsMarkedLate}
use Rattle.irig_time.specs.Tables.{TableValue, spoken_mark}
use Rattle.irig_hold.specs.declared.hold.Turn.TheVariants as turn
use Rattle.irig_hold.specs.Steps.{HoldValue, hold_start, hold_or_stop, hold_after, mark_or, outcome_of, voted_by, alone_by}
use Rattle.irig_hold.specs.Truth.{IsOnTime, HasHeardLate}
use Rattle.irig_reader.proofs.StepCases.{locked_cases, count_cases, vote_cases}
use Rattle.irig_reader.proofs.OneEdge.{voted_holds}
use Rattle.irig_hold.proofs.HoldLaws.{stop_is_no_now, started_true, voted_on_time, voted_late, alone_late, started_late}
use Rattle.irig_reader.specs.declared.rules.ReaderRules.{ReaderRules}
use Rattle.irig_reader.specs.declared.report.Lock.TheVariants as lock
use Rattle.irig_reader.specs.declared.report.Cause.TheVariants as cause
use Rattle.irig_reader.specs.declared.rule.State.{State}
use Rattle.irig_reader.specs.declared.rule.State.TheVariants.{Idle, Acquiring, Locked}
use Rattle.irig_reader.specs.Rule.{count_step, step_of, state_of, report_of}
use Rattle.irig_reader.specs.Held.{then_none, AreMarkedLate, IsSince}

-- a fact of the hold of a state, if it has one
abbrev pub IfHold : State → (HoldValue → Type 0) → Type 0
IfHold Idle P = Unit {0}
IfHold (Acquiring h count) P = P h
IfHold (Locked h) P = P h

count_has : (P : HoldValue → Type 0) (rules : ReaderRules) (h : HoldValue) (count : ℕ) → P h → IfHold (count_step rules h count).state P
count_has P rules h count p = count_cases (λ step. IfHold step.state P) rules h count (λ enough. p) (λ more. p)

-- what holds of the hold if it goes on by the vote
abbrev pub IfItGoes : TableValue → Claim → (HoldValue → Type 0) → HoldValue → Type 0
IfItGoes table c P h = (u : UtcSecond) → (voted_by table h c).answer ≡ turn.Now u → P (voted_by table h c).new

-- what holds of a hold that begins with the vote, and of one that answers it, holds of the state
pub voted_has : (P : HoldValue → Type 0) (rules : ReaderRules) (table : TableValue) (state : State) (c : Claim) → ((h : HoldValue) → hold_start table c ≡ Ok h → P h)
    → IfHold state (IfItGoes table c P) → IfHold (step_of rules table state (Some c)).state P
voted_has P rules table state c first later =
    vote_cases (λ step. IfHold step.state P) rules table state c (λ h e. count_has P rules h 1 (first h e)) (λ stop. tt)
    (λ h count u is e. count_has P rules (voted_by table h c).new (count + 1) (subst (λ (s : State). IfHold s (IfItGoes table c P)) is later u e)) (λ h u is e. subst (λ (s : State). IfHold s (IfItGoes table c P)) is later u e)

-- ---- marks

pub late_step : (rules : ReaderRules) (table : TableValue) (state : State) (vote : Option Claim) → IfHold state HasHeardLate → IfSome vote IsMarkedLate → IfHold (step_of rules table state vote).state HasHeardLate
unfolding step_of
late_step rules table Idle None late marked = tt
late_step rules table (Acquiring h count) None late marked = tt
late_step rules table (Locked h) None late marked = locked_cases (λ step. IfHold step.state HasHeardLate) _ cause.Held (alone_by table h rules.holdover).answer (alone_by table h rules.holdover).new (λ u e. alone_late table h rules.holdover late) (λ stop e. tt)
late_step rules table Idle (Some c) late marked = voted_has HasHeardLate rules table Idle c (λ h e. started_late table c h marked e) tt
late_step rules table (Acquiring h count) (Some c) late marked =
    voted_has HasHeardLate rules table (Acquiring h count) c (λ k e. started_late table c k marked e) (λ u e. voted_late table h c late marked)
late_step rules table (Locked h) (Some c) late marked = voted_has HasHeardLate rules table (Locked h) c (λ k e. started_late table c k marked e) (λ u e. voted_late table h c late marked)

pub late_state : (rules : ReaderRules) (table : TableValue) (votes : List (Option Claim)) → AreMarkedLate votes → IfHold (state_of rules table votes) HasHeardLate
late_state rules table [] marked = tt
late_state rules table (vote ∷ votes) marked = late_step rules table (state_of rules table votes) vote (late_state rules table votes (All-tail (λ v. IfSome v IsMarkedLate) vote votes marked)) (All-head (λ v. IfSome v IsMarkedLate) vote votes marked)

-- ---- where the reader stands

-- a locked reader's hold is on time
abbrev IfLocked : State → (HoldValue → Type 0) → Type 0
IfLocked Idle P = Unit {0}
IfLocked (Acquiring h count) P = Unit {0}
IfLocked (Locked h) P = P h

locked_of : (P : HoldValue → Type 0) (s : State) → IfHold s P → IfLocked s P
locked_of P Idle p = tt
locked_of P (Acquiring h count) p = tt
locked_of P (Locked h) p = p

pub by_vote : (t : TimelineValue) (n : ℕ) (rules : ReaderRules) (table : TableValue) (state : State) (c : Claim) → IsTimeline t → IfHold state HasHeardLate → IsTrueClaim t (n + 1) c
    → IfHold (step_of rules table state (Some c)).state (IsOnTime t (n + 1))
by_vote t n rules table state c sound late claim = voted_has (IsOnTime t (n + 1)) rules table state c (λ h e. started_true t table n c h sound claim e) (later state late)
  where
    later : (s : State) → IfHold s HasHeardLate → IfHold s (IfItGoes table c (IsOnTime t (n + 1)))
    later Idle late = tt
    later (Acquiring h count) late = λ u e. voted_on_time t table n h c u sound late claim e
    later (Locked h) late = λ u e. voted_on_time t table n h c u sound late claim e

-- ---- the age of a hold

begun_age : (u : UtcSecond) (mark : Mark) (o : Option UtcSecond) (h : HoldValue) → hold_or_stop u 0 mark o ≡ Ok h → h.age ≡ 0
begun_age u mark None h e = absurd cc
begun_age u mark (Some v) h e = let same : hold_after u 0 mark v ≡ h = cc in sym (ap (λ (k : HoldValue). k.age) same)

outcome_age : (h : HoldValue) (u : UtcSecond) (age : ℕ) (mark : Mark) (o : Option UtcSecond) (w : UtcSecond) → (outcome_of h (hold_or_stop u age mark o)).answer ≡ turn.Now w → (outcome_of h (hold_or_stop u age mark o)).new.age ≡ age
outcome_age h u age mark None w e = absurd (stop_is_no_now u.day w e)
outcome_age h u age mark (Some v) w e = refl

voted_age : (table : TableValue) (h : HoldValue) (c : Claim) (w : UtcSecond) → (voted_by table h c).answer ≡ turn.Now w → (voted_by table h c).new.age ≡ 0
voted_age table h c w e =
    elim (cases_Bool ((c.at.day == h.last.day) && (c.at.sod == h.last.sod))) [
      | inl for ↦
          let mark : Mark = mark_or c.mark h.heard in
          rw for (outcome_age h h.last 0 mark (next_of h.last (spoken_mark table mark h.last.day)) w (rw for at e))
      | inr other ↦ let jump : turn.Jump ≡ turn.Now w = rw other at e in absurd cc
    ]

alone_age : (table : TableValue) (h : HoldValue) (limit : ℕ) (w : UtcSecond) → (alone_by table h limit).answer ≡ turn.Now w → (alone_by table h limit).new.age ≡ h.age + 1
alone_age table h limit w e =
    elim (cases_Bool (nat_le limit h.age)) [
      | inl long ↦ let stopped : turn.Expired ≡ turn.Now w = rw long at e in absurd cc
      | inr short ↦ rw short (outcome_age h h.last (h.age + 1) h.heard (next_of h.last (spoken_mark table h.heard h.last.day)) w (rw short at e))
    ]

-- a new vote is the last one, and no edge has come since
is_last : (c : Claim) (votes : List (Option Claim)) (s : State) → IfHold s (λ h. h.age ≡ 0) → IfLocked s (λ h. IsSince (Some c ∷ votes) h.age)
is_last c votes Idle young = tt
is_last c votes (Acquiring h count) young = tt
is_last c votes (Locked h) young = record { claim = c; earlier = votes; are = rw young refl }

one_more : (votes : List (Option Claim)) (age new : ℕ) → IsSince votes age → new ≡ age + 1 → IsSince (None ∷ votes) new
one_more votes age new since is =
    let step : suc age ≡ new = omega (arith, is) in
    record {
      claim = since.claim;
      earlier = since.earlier;
      are = subst (λ (a : ℕ). None ∷ votes ≡ then_none a (Some since.claim ∷ since.earlier)) step (ap (λ (vs : List (Option Claim)). let o : Option Claim = None in o ∷ vs) since.are);
    }

none_since : (rules : ReaderRules) (table : TableValue) (votes : List (Option Claim)) (s : State) → IfLocked s (λ h. IsSince votes h.age) → IfLocked (step_of rules table s None).state (λ h. IsSince (None ∷ votes) h.age)
unfolding step_of
none_since rules table votes Idle since = tt
none_since rules table votes (Acquiring h count) since = tt
none_since rules table votes (Locked h) since =
    locked_cases (λ step. IfLocked step.state (λ k. IsSince (None ∷ votes) k.age)) _ cause.Held (alone_by table h rules.holdover).answer (alone_by table h rules.holdover).new
    (λ u e. one_more votes h.age (alone_by table h rules.holdover).new.age since (alone_age table h rules.holdover u e)) (λ stop e. tt)

young : (rules : ReaderRules) (table : TableValue) (state : State) (c : Claim) → IfHold (step_of rules table state (Some c)).state (λ h. h.age ≡ 0)
young rules table state c =
    voted_has (λ h. h.age ≡ 0) rules table state c (λ h e. begun_age c.at c.mark (next_of c.at (spoken_mark table c.mark c.at.day)) h e) (later state)
  where
    later : (s : State) → IfHold s (IfItGoes table c (λ h. h.age ≡ 0))
    later Idle = tt
    later (Acquiring h count) = λ u e. voted_age table h c u e
    later (Locked h) = λ u e. voted_age table h c u e

since_of : (rules : ReaderRules) (table : TableValue) (votes : List (Option Claim)) → IfLocked (state_of rules table votes) (λ h. IsSince votes h.age)
since_of rules table [] = tt
since_of rules table (Some c ∷ votes) = is_last c votes (step_of rules table (state_of rules table votes) (Some c)).state (young rules table (state_of rules table votes) c)
since_of rules table (None ∷ votes) = none_since rules table votes (state_of rules table votes) (since_of rules table votes)

-- ---- what the lock says

lock_since : (rules : ReaderRules) (table : TableValue) (votes : List (Option Claim)) (s : State) (a : ℕ) → IfLocked s (λ h. IsSince votes h.age) → (step_of rules table s None).report.lock ≡ lock.Holdover a → IsSince (None ∷ votes) a
unfolding step_of
lock_since rules table votes Idle a since e = absurd cc
lock_since rules table votes (Acquiring h count) a since e = absurd cc
lock_since rules table votes (Locked h) a since e =
    locked_cases (λ step. step.report.lock ≡ lock.Holdover a → IsSince (None ∷ votes) a) (lock.Holdover (alone_by table h rules.holdover).new.age) cause.Held (alone_by table h rules.holdover).answer (alone_by table h rules.holdover).new
    (λ u is says. let same : (alone_by table h rules.holdover).new.age ≡ a = cc in one_more votes h.age a since (sym same ∙ alone_age table h rules.holdover u is)) (λ stop is says. absurd cc) e

-- the lock names the last vote
pub held_since : (rules : ReaderRules) (table : TableValue) (vote : Option Claim) (votes : List (Option Claim)) (a : ℕ) → (report_of rules table vote votes).lock ≡ lock.Holdover a → IsSince (vote ∷ votes) a
held_since rules table None votes a e = lock_since rules table votes (state_of rules table votes) a (since_of rules table votes) e
held_since rules table (Some c) votes a e = absurd (let none = voted_holds rules table (state_of rules table votes) c a e in omega (arith, none.0, none.1))
