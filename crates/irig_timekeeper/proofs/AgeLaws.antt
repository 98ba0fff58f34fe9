-- What edges without a vote leave of a reader's rule.
use Rattle.std.specs.Prelude.{nat_le}
use Rattle.std.proofs.Common.{◌≡◌, ◌==◌, ◌∙◌, ◌⊎◌, ℕ, zero, suc, ◌+◌, ◌<◌, ◌≤◌, Option, Some, None, Result, Ok, Err, refl, ap, subst, arith, inl, inr, Bool}
use Rattle.std.proofs.lemmas.Bool.{cases_Bool, leb-false}
use Rattle.irig_time.specs.declared.second.UtcSecond.{UtcSecond}
use Rattle.irig_time.specs.declared.mark.Mark.{Mark}
use Rattle.irig_time.specs.Next.{next_of}
use Rattle.irig_time.specs.Tables.{TableValue, spoken_mark}
use Rattle.irig_hold.specs.declared.hold.Turn.{Turn}
use Rattle.irig_hold.specs.declared.hold.Turn.TheVariants as turn
use Rattle.irig_hold.specs.Steps.{HoldValue, stop_on, hold_or_stop, hold_start, voted_by, outcome_of}
use Rattle.irig_reader.specs.declared.rules.ReaderRules.{ReaderRules}
use Rattle.irig_reader.specs.declared.report.Lock.TheVariants as lock
use Rattle.irig_reader.specs.declared.report.Cause.TheVariants as cause
use Rattle.irig_reader.specs.declared.rule.State.{State}
use Rattle.irig_reader.specs.declared.rule.State.TheVariants.{Idle, Acquiring, Locked}
use Rattle.irig_reader.specs.declared.rule.Step.{Step}
use Rattle.irig_reader.specs.Rule.{count_step, first_vote_step, later_vote_step_by, locked_step, holdover_step, step_of}
use Rattle.irig_time.specs.declared.claim.Claim.{Claim}
use Rattle.irig_reader.specs.declared.rule.Step.{Step}
use Rattle.irig_timekeeper.specs.Clock.{age_of, lasted}
use Rattle.irig_timekeeper.specs.Rule.{missed, step_behind, step_checked}
use Rattle.irig_timekeeper.proofs.CheckedSteps.{checked_cases}

-- a step without a vote: silent and with nothing to go on, or locked and one edge older
pub record IsOlder (limit age : ℕ) (s : State) : Type 0 where
  pub h : HoldValue
  pub is : s ≡ Locked h
  pub older : h.age ≡ age
  pub young : h.age ≤ limit

-- and the report says so
pub record IsHeld (limit age : ℕ) (step : Step) : Type 0 where
  pub locked : IsOlder limit age step.state
  pub says : step.report.lock ≡ lock.Holdover age

abbrev pub IsAlone : ℕ → ℕ → Step → Type 0
IsAlone limit age step = ((step.state ≡ Idle) × (step.report.announce ≡ None)) ⊎ IsHeld limit age step

module _ (prefers : Bool) (rules : ReaderRules) (table : TableValue) where
  stopped : (age : ℕ) (answer : Turn) (h : HoldValue) → ((u : UtcSecond) → ¬ (answer ≡ turn.Now u)) → IsAlone rules.holdover age (locked_step (lock.Holdover h.age) cause.Held answer h)
  stopped age (turn.Now u) h never = absurd (never u refl)
  stopped age turn.LeapGuard h never = inl (refl, refl)
  stopped age turn.Expired h never = inl (refl, refl)
  stopped age turn.RangeEnd h never = inl (refl, refl)
  stopped age turn.Jump h never = inl (refl, refl)

  no_step : (day : ℕ) (u : UtcSecond) → ¬ (stop_on day ≡ turn.Now u)
  no_step day u e =
      elim (cases_Bool (day == 36523)) [
        | inl last ↦ let both : turn.RangeEnd ≡ turn.Now u = rw last at e in cc
        | inr before ↦ let both : turn.LeapGuard ≡ turn.Now u = rw before at e in cc
      ]

  stepped : (h : HoldValue) (mark : Mark) (o : Option UtcSecond) → h.age < rules.holdover → IsAlone rules.holdover (h.age + 1) (holdover_step (outcome_of h (hold_or_stop h.last (h.age + 1) mark o)))
  stepped h mark None young = stopped (h.age + 1) (stop_on h.last.day) h (no_step h.last.day)
  stepped h mark (Some u) young = inr (record { locked = record { h = _; is = refl; older = refl; young = omega (arith, young) }; says = refl })

  rule_alone : (s : State) → IsAlone rules.holdover (age_of s + 1) (step_of rules table s None)
  unfolding step_of
  rule_alone Idle = inl (refl, refl)
  rule_alone (Acquiring h count) = inl (refl, refl)
  rule_alone (Locked h) = elim (cases_Bool (nat_le rules.holdover h.age)) [
    | inl long ↦ rw long (inl (refl, refl))
    | inr short ↦ rw short (stepped h h.heard (next_of h.last (spoken_mark table h.heard h.last.day)) (leb-false rules.holdover h.age short))
  ]

  pub alone_step : (s : State) → IsAlone rules.holdover (age_of s + 1) (step_checked prefers rules table s None)
  alone_step s = checked_cases prefers rules table s None (IsAlone rules.holdover (age_of s + 1)) (rule_alone s) (inl (refl, refl))

  -- ---- how long a holdover has lasted, whatever the vote

  module _ (most : ℕ) where
    counted_lasts : (h : HoldValue) (count : ℕ) → lasted (count_step rules h count).report.lock ≤ most
    counted_lasts h count = elim (cases_Bool (count == rules.lock_after)) [
      | inl enough ↦ rw enough (omega arith)
      | inr more ↦ rw more (omega arith)
    ]

    first_lasts : (o : Result HoldValue Turn) → lasted (first_vote_step rules o).report.lock ≤ most
    first_lasts (Ok h) = counted_lasts h 1
    first_lasts (Err stop) = omega arith

    later_lasts : (count : ℕ) (anew : Step) (answer : Turn) (h : HoldValue) → lasted anew.report.lock ≤ most → lasted (later_vote_step_by rules count anew answer h).report.lock ≤ most
    later_lasts count anew (turn.Now u) h e = counted_lasts h (count + 1)
    later_lasts count anew turn.Jump h e = e
    later_lasts count anew turn.LeapGuard h e = omega arith
    later_lasts count anew turn.Expired h e = omega arith
    later_lasts count anew turn.RangeEnd h e = omega arith

    voted_lasts : (answer : Turn) (h : HoldValue) → lasted (locked_step lock.Locked cause.Voted answer h).report.lock ≤ most
    voted_lasts (turn.Now u) h = omega arith
    voted_lasts turn.LeapGuard h = omega arith
    voted_lasts turn.Expired h = omega arith
    voted_lasts turn.RangeEnd h = omega arith
    voted_lasts turn.Jump h = omega arith

    alone_lasts : (answer : Turn) (h new : HoldValue) → ((u : UtcSecond) → answer ≡ turn.Now u → new.age ≤ most) → lasted (locked_step (lock.Holdover new.age) cause.Held answer h).report.lock ≤ most
    alone_lasts (turn.Now u) h new few = few u refl
    alone_lasts turn.LeapGuard h new few = omega arith
    alone_lasts turn.Expired h new few = omega arith
    alone_lasts turn.RangeEnd h new few = omega arith
    alone_lasts turn.Jump h new few = omega arith

    stepped_lasts : (h : HoldValue) (mark : Mark) (o : Option UtcSecond) → h.age + 1 ≤ most → lasted (holdover_step (outcome_of h (hold_or_stop h.last (h.age + 1) mark o))).report.lock ≤ most
    stepped_lasts h mark None young = alone_lasts (stop_on h.last.day) h h (λ u e. absurd (no_step h.last.day u e))
    stepped_lasts h mark (Some u) young = omega (arith, young)

    rule_lasts : (s : State) (vote : Option Claim) → (age_of s < rules.holdover → age_of s + 1 ≤ most) → lasted (step_of rules table s vote).report.lock ≤ most
    unfolding step_of
    rule_lasts Idle None young = omega arith
    rule_lasts (Acquiring h count) None young = omega arith
    rule_lasts Idle (Some c) young = first_lasts (hold_start table c)
    rule_lasts (Acquiring h count) (Some c) young = later_lasts count (first_vote_step rules (hold_start table c)) (voted_by table h c).answer (voted_by table h c).new (first_lasts (hold_start table c))
    rule_lasts (Locked h) (Some c) young = voted_lasts (voted_by table h c).answer (voted_by table h c).new
    rule_lasts (Locked h) None young = elim (cases_Bool (nat_le rules.holdover h.age)) [
      | inl long ↦ rw long (omega arith)
      | inr short ↦ rw short (stepped_lasts h h.heard (next_of h.last (spoken_mark table h.heard h.last.day)) (young (leb-false rules.holdover h.age short)))
    ]

    step_lasts_by : (s : State) (vote : Option Claim) → (age_of s < rules.holdover → age_of s + 1 ≤ most) → lasted (step_checked prefers rules table s vote).report.lock ≤ most
    step_lasts_by s vote young = checked_cases prefers rules table s vote (λ step. lasted step.report.lock ≤ most) (rule_lasts s vote young) (omega arith)

  -- no longer than it may
  pub step_lasts : (s : State) (vote : Option Claim) → lasted (step_checked prefers rules table s vote).report.lock ≤ rules.holdover
  step_lasts s vote = step_lasts_by rules.holdover s vote (λ young. omega (arith, young))

  -- and one edge more than before
  step_ages : (s : State) (vote : Option Claim) → lasted (step_checked prefers rules table s vote).report.lock ≤ age_of s + 1
  step_ages s vote = step_lasts_by (age_of s + 1) s vote (λ young. omega arith)

  -- one more or several
  abbrev IsGone : ℕ → State → Type 0
  IsGone age s = (s ≡ Idle) ⊎ IsOlder rules.holdover age s

  once : (s : State) → IsGone (age_of s + 1) (step_checked prefers rules table s None).state
  once s = elim (alone_step s) [ inl stop ↦ inl stop.0 | inr older ↦ inr older.locked ]

  idle_stays : (step_checked prefers rules table Idle None).state ≡ Idle
  unfolding step_of
  idle_stays = checked_cases prefers rules table Idle None (λ step. step.state ≡ Idle) refl refl

  then_once : (age next : ℕ) (s : State) → next ≡ age + 1 → IsGone age s → IsGone next (step_checked prefers rules table s None).state
  then_once age next s e (inl idle) = inl (ap (λ (x : State). (step_checked prefers rules table x None).state) idle ∙ idle_stays)
  then_once age next s e (inr older) =
      let was : age_of s ≡ age = ap age_of older.is ∙ older.older in
      let same : age_of s + 1 ≡ next = omega (arith, was, e) in
      subst (λ (n : ℕ). IsGone n (step_checked prefers rules table s None).state) same (once s)

  pub gone : (j : ℕ) (s : State) → IsGone (age_of s + suc j) (missed prefers rules table (suc j) s)
  gone zero s = let same : age_of s + 1 ≡ age_of s + suc 0 = omega arith in subst (λ (n : ℕ). IsGone n (step_checked prefers rules table s None).state) same (once s)
  gone (suc j) s = then_once (age_of s + suc j) (age_of s + suc (suc j)) (missed prefers rules table (suc j) s) (omega arith) (gone j s)

  -- too many leave nothing to go on
  pub gone_idle : (n : ℕ) (s : State) → 1 ≤ n → rules.holdover < age_of s + n → missed prefers rules table n s ≡ Idle
  gone_idle zero s some long = absurd (omega (arith, some))
  gone_idle (suc j) s some long = by (gone j s)
    where
      by : IsGone (age_of s + suc j) (missed prefers rules table (suc j) s) → missed prefers rules table (suc j) s ≡ Idle
      by (inl idle) = idle
      by (inr older) = absurd (omega (arith, older.older, older.young, long))

  pub missed_idle : (n : ℕ) (s : State) → s ≡ Idle → missed prefers rules table n s ≡ Idle
  missed_idle zero s e = e
  missed_idle (suc n) s e = ap (λ (x : State). (step_checked prefers rules table x None).state) (missed_idle n s e) ∙ idle_stays

  -- behind so many it has lasted for these at most
  missed_ages : (n : ℕ) (s : State) → age_of (missed prefers rules table n s) ≤ age_of s + n
  missed_ages zero s = omega arith
  missed_ages (suc n) s = by (gone n s)
    where
      by : IsGone (age_of s + suc n) (missed prefers rules table (suc n) s) → age_of (missed prefers rules table (suc n) s) ≤ age_of s + suc n
      by (inl idle) = let none : age_of (missed prefers rules table (suc n) s) ≡ 0 = ap age_of idle in omega (arith, none)
      by (inr older) = let same : age_of (missed prefers rules table (suc n) s) ≡ older.h.age = ap age_of older.is in omega (arith, same, older.older)

  pub behind_ages : (n : ℕ) (s : State) (vote : Option Claim) → lasted (step_behind prefers rules table n s vote).report.lock ≤ age_of s + n + 1
  behind_ages n s vote = omega (arith, step_ages (missed prefers rules table n s) vote, missed_ages n s)
