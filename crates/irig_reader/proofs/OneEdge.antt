-- What a reader says at an edge, by what its ports tell at that edge and by nothing before.
use Rattle.std.proofs.Common.{◌≡◌, ◌==◌, ℕ, ◌+◌, ◌<◌, ◌≤◌, Bool, true, false, cond, Option, Some, None, refl, sym, subst, ap, ◌∙◌, inl, inr, ◌⊎◌, arith}
use Rattle.std.specs.Prelude.{nat_le}
use Rattle.std.proofs.lemmas.Bool.{cases_Bool, leb-false}
use Rattle.irig_time.specs.declared.second.UtcSecond.{UtcSecond}
use Rattle.irig_time.specs.declared.mark.Mark.{Mark}
use Rattle.irig_time.specs.declared.claim.Claim.{Claim}
use Rattle.irig_time.specs.Next.{next_of}
use Rattle.irig_time.specs.Timelines.{TimelineValue, IsSecond, IsTrueClaim, truth_at}
use Rattle.irig_time.specs.TimelineFaults.{IsTimeline}
use Rattle.irig_time.specs.Tables.{TableValue, spoken_mark}
use Rattle.irig_time.proofs.SecondAt.{claim_is}
use Rattle.irig_vote.specs.declared.redundancy.Redundancy.{Redundancy}
use Rattle.irig_vote.specs.declared.votes.Tells.{Tells}
use Rattle.irig_vote.specs.Vote.{f_of, ports_of, carriers, others, vote_of}
use Rattle.irig_vote.proofs.CountLaws.{vote_counts, few_tell_others}
use Rattle.irig_hold.specs.declared.hold.Turn.{Turn}
use Rattle.irig_hold.specs.declared.hold.Turn.TheVariants as turn
use Rattle.irig_hold.specs.Steps.{HoldValue, hold_or_stop, outcome_of, voted_by, alone_by}
use Rattle.irig_hold.proofs.HoldLaws.{started_true, voted_second, voted_other}
use Rattle.irig_reader.specs.declared.rules.ReaderRules.{ReaderRules}
use Rattle.irig_reader.specs.declared.report.Lock.{Lock}
use Rattle.irig_reader.specs.declared.report.Lock.TheVariants as lock
use Rattle.irig_reader.specs.declared.report.Cause.{Cause}
use Rattle.irig_reader.specs.declared.report.Cause.TheVariants as cause
use Rattle.irig_reader.specs.declared.rule.State.{State}
use Rattle.irig_reader.specs.declared.rule.State.TheVariants.{Idle, Acquiring, Locked}
use Rattle.irig_reader.specs.declared.rule.Step.{Step}
use Rattle.irig_reader.specs.Rule.{stop_step, count_step, locked_step, holdover_step, step_of}
use Rattle.irig_reader.specs.Clean.{IsClean}
use Rattle.irig_reader.proofs.StepCases.{count_cases, vote_cases}

-- what the step announces is T(n + 1)
abbrev pub SaysNext : TimelineValue → ℕ → Step → Type 0
SaysNext t n step = (u : UtcSecond) → step.report.announce ≡ Some u → IsSecond t (n + 1) u

-- ---- a true vote

counted : (t : TimelineValue) (n : ℕ) (rules : ReaderRules) (h : HoldValue) (count : ℕ) → IsSecond t (n + 1) h.last → SaysNext t n (count_step rules h count)
counted t n rules h count at =
    count_cases (SaysNext t n) rules h count (λ enough u e. let same : h.last ≡ u = cc in subst (IsSecond t (n + 1)) same at) (λ more u e. absurd cc)

pub voted_says : (t : TimelineValue) (n : ℕ) (rules : ReaderRules) (table : TableValue) (state : State) (c : Claim) → IsTimeline t → IsTrueClaim t (n + 1) c → SaysNext t n (step_of rules table state (Some c))
voted_says t n rules table state c sound claim =
    vote_cases (SaysNext t n) rules table state c (λ h e. counted t n rules h 1 (started_true t table n c h sound claim e).last) (λ stop u e. absurd cc)
    (λ h count u is e. let now = voted_second t table n h c u sound claim e in counted t n rules (voted_by table h c).new (count + 1) (subst (IsSecond t (n + 1)) (sym now.1) now.0))
    (λ h u is e v says. let same : u ≡ v = cc in subst (IsSecond t (n + 1)) same (voted_second t table n h c u sound claim e).0)

-- ---- no vote

held_cause : (l : Lock) (answer : Turn) (h : HoldValue) → (locked_step l cause.Held answer h).report.cause ≡ cause.Voted → ⊥
held_cause l (turn.Now u) h e = cc
held_cause l turn.Jump h e = cc
held_cause l turn.LeapGuard h e = cc
held_cause l turn.Expired h e = cc
held_cause l turn.RangeEnd h e = cc

pub unvoted : (rules : ReaderRules) (table : TableValue) (state : State) → (step_of rules table state None).report.cause ≡ cause.Voted → ⊥
unfolding step_of
unvoted rules table Idle e = cc
unvoted rules table (Acquiring h count) e = cc
unvoted rules table (Locked h) e = held_cause _ (alone_by table h rules.holdover).answer (alone_by table h rules.holdover).new e

-- ---- what the ports tell

-- a claim that f + 1 ports tell was voted, and led to what is announced
pub record IsVotedBy (t : TimelineValue) (n : ℕ) (told : Tells) (r : Redundancy) (u : UtcSecond) : Type 0 where
  pub claim : Claim
  pub enough : f_of r + 1 ≤ carriers claim (ports_of told r)
  pub leads : truth_at t n ≡ Some claim → IsSecond t (n + 1) u

pub voted_by_ports : (t : TimelineValue) (n : ℕ) (rules : ReaderRules) (table : TableValue) (state : State) (told : Tells) (r : Redundancy) (u : UtcSecond) → IsTimeline t
    → (step_of rules table state (vote_of told r)).report.cause ≡ cause.Voted → (step_of rules table state (vote_of told r)).report.announce ≡ Some u → IsVotedBy t n told r u
voted_by_ports t n rules table state told r u sound voted says = of (vote_of told r) refl voted says
  where
    of : (vote : Option Claim) → vote_of told r ≡ vote → (step_of rules table state vote).report.cause ≡ cause.Voted → (step_of rules table state vote).report.announce ≡ Some u → IsVotedBy t n told r u
    of None is voted says = absurd (unvoted rules table state voted)
    of (Some c) is voted says = record {
      claim = c;
      enough = (vote_counts told r c).0 is;
      leads = λ truth. voted_says t n rules table state c sound ((claim_is t n c).0 truth) u says;
    }

pub voted_seconds : (t : TimelineValue) (n : ℕ) (rules : ReaderRules) (table : TableValue) (state : State) (told : Tells) (r : Redundancy) (u : UtcSecond) → IsTimeline t → IsClean t n told r
    → (step_of rules table state (vote_of told r)).report.cause ≡ cause.Voted → (step_of rules table state (vote_of told r)).report.announce ≡ Some u → IsSecond t (n + 1) u
voted_seconds t n rules table state told r u sound clean voted says =
    let by = voted_by_ports t n rules table state told r u sound voted says in
    by.leads (clean.no_other by.claim by.enough)

pub clean_by_few : (t : TimelineValue) (n : ℕ) (told : Tells) (r : Redundancy) (c : Claim) → truth_at t n ≡ Some c → others c (ports_of told r) ≤ f_of r → IsClean t n told r
clean_by_few t n told r c truth few = record {
  no_other = λ d enough.
      let same : d ≡ c = few_tell_others told r c d few ((vote_counts told r d).1 enough) in
      truth ∙ ap (λ (x : Claim). let o : Option Claim = Some x in o) (sym same);
}

pub clean_vote : (t : TimelineValue) (n : ℕ) (told : Tells) (r : Redundancy) → IsClean t n told r → (vote_of told r ≡ None) ⊎ (vote_of told r ≡ truth_at t n)
clean_vote t n told r clean = of (vote_of told r) refl
  where
    of : (vote : Option Claim) → vote_of told r ≡ vote → (vote ≡ None) ⊎ (vote ≡ truth_at t n)
    of None is = inl refl
    of (Some c) is = inr (sym (clean.no_other c ((vote_counts told r c).0 is)))

pub misled : (t : TimelineValue) (n : ℕ) (rules : ReaderRules) (table : TableValue) (state : State) (told : Tells) (r : Redundancy) (u : UtcSecond) → IsTimeline t
    → (step_of rules table state (vote_of told r)).report.cause ≡ cause.Voted → (step_of rules table state (vote_of told r)).report.announce ≡ Some u → ¬ IsSecond t (n + 1) u
    → (c : Claim) × (f_of r + 1 ≤ carriers c (ports_of told r)) × ¬ (truth_at t n ≡ Some c)
misled t n rules table state told r u sound voted says false_second =
    let by = voted_by_ports t n rules table state told r u sound voted says in
    (by.claim, by.enough, λ truth. false_second (by.leads truth))

-- ---- a tick that was missed, or came twice

jumped : (l : Lock) (c : Cause) (answer : Turn) (h : HoldValue) → answer ≡ turn.Jump → locked_step l c answer h ≡ stop_step cause.Jump
jumped l c answer h is = rw is refl

pub lost_tick : (t : TimelineValue) (n : ℕ) (rules : ReaderRules) (table : TableValue) (h : HoldValue) (told : Tells) (r : Redundancy) (c : Claim) → IsClean t n told r → ¬ IsSecond t n h.last
    → vote_of told r ≡ Some c → step_of rules table (Locked h) (vote_of told r) ≡ stop_step cause.Jump
unfolding step_of
lost_tick t n rules table h told r c clean apart is =
    let claim : IsTrueClaim t (n + 1) c = (claim_is t n c).0 (clean.no_other c ((vote_counts told r c).0 is)) in
    rw is (jumped lock.Locked cause.Voted (voted_by table h c).answer (voted_by table h c).new (voted_other t table n h c claim apart))

-- ---- how long it holds over

-- a holdover of this step is at least 1 and at most the limit
abbrev IsWithin : ℕ → Step → Type 0
IsWithin limit step = (a : ℕ) → step.report.lock ≡ lock.Holdover a → (1 ≤ a) × (a ≤ limit)

count_within : (limit : ℕ) (rules : ReaderRules) (h : HoldValue) (count : ℕ) → IsWithin limit (count_step rules h count)
count_within limit rules h count = count_cases (IsWithin limit) rules h count (λ enough a e. absurd cc) (λ more a e. absurd cc)

vote_within : (limit : ℕ) (rules : ReaderRules) (table : TableValue) (state : State) (c : Claim) → IsWithin limit (step_of rules table state (Some c))
vote_within limit rules table state c =
    vote_cases (IsWithin limit) rules table state c (λ h e. count_within limit rules h 1) (λ stop a e. absurd cc)
    (λ h count u is e. count_within limit rules (voted_by table h c).new (count + 1)) (λ h u is now a e. absurd cc)

stepped_within : (limit : ℕ) (h : HoldValue) (from : UtcSecond) (age : ℕ) (mark : Mark) (o : Option UtcSecond) → 1 ≤ age → age ≤ limit → IsWithin limit (holdover_step (outcome_of h (hold_or_stop from age mark o)))
stepped_within limit h from age mark None least most a e = stop_lock (from.day == 36523) a e
  where
    stop_lock : (b : Bool) (a : ℕ) → (locked_step (lock.Holdover h.age) cause.Held (cond b turn.RangeEnd turn.LeapGuard) h).report.lock ≡ lock.Holdover a → (1 ≤ a) × (a ≤ limit)
    stop_lock true a e = absurd cc
    stop_lock false a e = absurd cc
stepped_within limit h from age mark (Some v) least most a e =
    let same : age ≡ a = cc in
    (omega (arith, least, same), omega (arith, most, same))

alone_within : (rules : ReaderRules) (table : TableValue) (h : HoldValue) → IsWithin rules.holdover (holdover_step (alone_by table h rules.holdover))
alone_within rules table h a e =
    elim (cases_Bool (nat_le rules.holdover h.age)) [
      | inl long ↦ let stopped : lock.Unlocked ≡ lock.Holdover a = rw long at e in absurd cc
      | inr short ↦
          let young : h.age < rules.holdover = leb-false rules.holdover h.age short in
          stepped_within rules.holdover h h.last (h.age + 1) h.heard (next_of h.last (spoken_mark table h.heard h.last.day)) (omega arith) (omega (arith, young)) a (rw short at e)
    ]

pub holdover_within : (rules : ReaderRules) (table : TableValue) (state : State) (vote : Option Claim) (a : ℕ) → (step_of rules table state vote).report.lock ≡ lock.Holdover a → (1 ≤ a) × (a ≤ rules.holdover)
unfolding step_of
holdover_within rules table Idle None a e = absurd cc
holdover_within rules table (Acquiring h count) None a e = absurd cc
holdover_within rules table (Locked h) None a e = alone_within rules table h a e
holdover_within rules table state (Some c) a e = vote_within rules.holdover rules table state c a e

-- a vote ends a holdover
pub voted_holds : (rules : ReaderRules) (table : TableValue) (state : State) (c : Claim) → IsWithin 0 (step_of rules table state (Some c))
voted_holds rules table state c = vote_within 0 rules table state c
