-- By true votes in a row a reader announces again.
use Rattle.std.proofs.Common.{◌≡◌, ◌==◌, ℕ, zero, suc, ◌+◌, ◌<◌, ◌≤◌, true, List, [], ◌∷◌, Option, Some, None, Ok, refl, sym, subst, ap, ◌∙◌, inl, inr, ◌⊎◌, arith}
use Rattle.std.specs.Prelude.{◌&&◌, ⊤}
use Rattle.std.specs.Option.{option_map}
use Rattle.std.proofs.lemmas.Bool.{cases_Bool}
use Rattle.irig_time.specs.declared.second.UtcSecond.{UtcSecond}
use Rattle.irig_time.specs.declared.claim.Claim.{Claim}
use Rattle.irig_time.specs.Timelines.{TimelineValue, IsSecond, IsTrueClaim, true_claim, truth_at}
use Rattle.irig_time.specs.TimelineFaults.{IsTimeline}
use Rattle.irig_time.specs.Tables.{TableValue}
use Rattle.irig_time.proofs.SecondAt.{second_is, claim_is}
use Rattle.irig_time.proofs.NoGaps.{second_before, seconds_before}
use Rattle.irig_hold.specs.Steps.{HoldValue, hold_start, hold_after, mark_or, outcome_of, voted_by}
use Rattle.irig_hold.proofs.HoldLaws.{tested, claimed, voted_goes, started_goes}
use Rattle.irig_reader.specs.declared.rules.ReaderRules.{ReaderRules}
use Rattle.irig_reader.specs.declared.report.Lock.TheVariants as lock
use Rattle.irig_reader.specs.declared.report.Cause.TheVariants as cause
use Rattle.irig_reader.specs.declared.report.Report.{Report}
use Rattle.irig_reader.specs.declared.rule.State.{State}
use Rattle.irig_reader.specs.declared.rule.State.TheVariants.{Idle, Acquiring, Locked}
use Rattle.irig_reader.specs.declared.rule.Step.{Step}
use Rattle.irig_reader.specs.Rule.{count_of, count_step, first_vote_step, later_vote_step_by, locked_step, step_of, state_of, report_of}
use Rattle.irig_reader.specs.Locking.{IsSilentAfter, then_true, voted_report}
use Rattle.irig_reader.proofs.StepCases.{count_cases, vote_cases, none_cases}
use Rattle.irig_reader.proofs.VotesInARow.{IsUnlocked, silent_unlocked}

-- ---- fewer votes are counted than the lock takes

abbrev IsCounting : ReaderRules → State → Type 0
IsCounting rules state = count_of state < rules.lock_after

module _ (rules : ReaderRules) (some : 1 ≤ rules.lock_after) where
  count_counting : (h : HoldValue) (count : ℕ) → count ≤ rules.lock_after → IsCounting rules (count_step rules h count).state
  count_counting h count most = count_cases (λ step. IsCounting rules step.state) rules h count (λ enough. omega (arith, some)) (λ more. omega (arith, most, more))

  step_counting : (table : TableValue) (state : State) (vote : Option Claim) → IsCounting rules state → IsCounting rules (step_of rules table state vote).state
  step_counting table state None few = none_cases (λ step. IsCounting rules step.state) rules table state (λ c. omega (arith, some)) (λ h u is now. omega (arith, some))
  step_counting table state (Some c) few =
      vote_cases (λ step. IsCounting rules step.state) rules table state c (λ h e. count_counting h 1 some) (λ stop. omega (arith, some))
      (λ h count u is e. count_counting (voted_by table h c).new (count + 1) (let fewer : IsCounting rules (Acquiring h count) = subst (IsCounting rules) is few in omega (arith, fewer))) (λ h u is now. omega (arith, some))

  counting : (table : TableValue) (votes : List (Option Claim)) → IsCounting rules (state_of rules table votes)
  counting table [] = some
  counting table (vote ∷ votes) = step_counting table (state_of rules table votes) vote (counting table votes)

-- ---- where true votes lead

-- after so many true votes the reader stands at T(n): it counts at least as many, or is locked
abbrev Stands : TimelineValue → ℕ → ℕ → State → Type 0
Stands t n k Idle = k ≡ 0
Stands t n k (Acquiring h count) = (k ≡ 0) ⊎ (IsSecond t n h.last × (k ≤ count))
Stands t n k (Locked h) = IsSecond t n h.last

abbrev OnLocked : State → Type 0 → Type 0
OnLocked Idle P = ⊤
OnLocked (Acquiring h count) P = ⊤
OnLocked (Locked h) P = P

-- the step leads there, and if it is locked it announces this second
record LeadsTo (t : TimelineValue) (n k : ℕ) (v : UtcSecond) (step : Step) : Type 0 where
  stands : Stands t n k step.state
  says : OnLocked step.state (step.report ≡ voted_report v)

weaker : (t : TimelineValue) (n k : ℕ) (s : State) → Stands t n k s → Stands t n 0 s
weaker t n k Idle stands = refl
weaker t n k (Acquiring h count) stands = inl refl
weaker t n k (Locked h) stands = stands

-- one true vote, of T(n), if T(n + 1) is there
module _ (t : TimelineValue) (n : ℕ) (rules : ReaderRules) (table : TableValue) (c : Claim) (v : UtcSecond) (sound : IsTimeline t) (claim : IsTrueClaim t (n + 1) c) (there : IsSecond t (n + 1) v) where
  counted : (h : HoldValue) (k count : ℕ) → h.last ≡ v → k ≤ count → LeadsTo t (n + 1) k v (count_step rules h count)
  counted h k count last enough =
      let at : IsSecond t (n + 1) h.last = subst (IsSecond t (n + 1)) (sym last) there in
      elim (cases_Bool (count == rules.lock_after)) [
        | inl locked ↦ rw locked (record { stands = at; says = ap voted_report last })
        | inr more ↦ rw more (record { stands = inr (at, enough); says = tt })
      ]

  begun : LeadsTo t (n + 1) 1 v (first_vote_step rules (hold_start table c))
  begun = rw (started_goes t table n c v sound claim there) (counted (hold_after c.at 0 c.mark v) 1 1 refl (omega arith))

  -- a hold that stands at T(n) goes on
  goes : (h : HoldValue) → IsSecond t n h.last → voted_by table h c ≡ outcome_of h (Ok (hold_after h.last 0 (mark_or c.mark h.heard) v))
  goes h at = voted_goes t table n h c v sound at claim there

  joins : (h : HoldValue) (count k : ℕ) (anew : Step) → k ≤ count → IsSecond t n h.last → LeadsTo t (n + 1) (k + 1) v (later_vote_step_by rules count anew (voted_by table h c).answer (voted_by table h c).new)
  joins h count k anew most at = rw (goes h at) (counted (hold_after h.last 0 (mark_or c.mark h.heard) v) (k + 1) (count + 1) refl (omega (arith, most)))

  stays : (h : HoldValue) (k : ℕ) → IsSecond t n h.last → LeadsTo t (n + 1) k v (locked_step lock.Locked cause.Voted (voted_by table h c).answer (voted_by table h c).new)
  stays h k at = rw (goes h at) (record { stands = there; says = refl })

  here : (h : HoldValue) → ((c.at.day == h.last.day) && (c.at.sod == h.last.sod)) ≡ true → IsSecond t n h.last
  here h for = subst (IsSecond t n) (tested c h for) (claimed t n c claim)

  one_more : (k : ℕ) (state : State) → Stands t n k state → LeadsTo t (n + 1) (k + 1) v (step_of rules table state (Some c))
  unfolding step_of
  one_more k Idle none = rw none begun
  one_more k (Acquiring h count) (inl none) =
      elim (cases_Bool ((c.at.day == h.last.day) && (c.at.sod == h.last.sod))) [
        | inl for ↦ joins h count k _ (omega (arith, none)) (here h for)
        | inr other ↦ rw (other, none) begun
      ]
  one_more k (Acquiring h count) (inr stands) = joins h count k _ stands.1 stands.0
  one_more k (Locked h) at = stays h (k + 1) at

  -- whatever it stood at, it then stands at T(n + 1) or is silent
  after_any : (state : State) → Stands t (n + 1) 0 (step_of rules table state (Some c)).state
  unfolding step_of
  after_any Idle = weaker t (n + 1) 1 _ begun.stands
  after_any (Acquiring h count) = weaker t (n + 1) 1 _ (one_more 0 (Acquiring h count) (inl refl)).stands
  after_any (Locked h) =
      elim (cases_Bool ((c.at.day == h.last.day) && (c.at.sod == h.last.sod))) [
        | inl for ↦ (stays h 0 (here h for)).stands
        | inr other ↦ rw other refl
      ]

-- ---- so many of them

true_there : (t : TimelineValue) (n : ℕ) (v : UtcSecond) → IsSecond t (n + 1) v → (c : Claim) × (truth_at t n ≡ Some c)
true_there t n v there =
    let u = second_before t n v there in
    (true_claim t.leaps u.0, ap (option_map (true_claim t.leaps)) ((second_is t n u.0).1 u.1))

module _ (t : TimelineValue) (rules : ReaderRules) (table : TableValue) (sound : IsTimeline t) where
  by_truth : (n k : ℕ) (v : UtcSecond) (state : State) → IsSecond t (n + 1) v → Stands t n k state → LeadsTo t (n + 1) (k + 1) v (step_of rules table state (truth_at t n))
  by_truth n k v state there stands =
      let c = true_there t n v there in
      rw c.1 (one_more t n rules table c.0 v sound ((claim_is t n c.0).0 c.1) there k state stands)

  any_by_truth : (n : ℕ) (v : UtcSecond) (state : State) → IsSecond t (n + 1) v → Stands t (n + 1) 0 (step_of rules table state (truth_at t n)).state
  any_by_truth n v state there =
      let c = true_there t n v there in
      rw c.1 (after_any t n rules table c.0 v sound ((claim_is t n c.0).0 c.1) there state)

  stands_after : (n k : ℕ) (v : UtcSecond) (votes : List (Option Claim)) → IsSecond t (n + k) v → Stands t n 0 (state_of rules table votes) → Stands t (n + k) k (state_of rules table (then_true t n k votes))
  stands_after n zero v votes there stands = let same : n ≡ n + 0 = omega arith in subst (λ (m : ℕ). Stands t m 0 (state_of rules table votes)) same stands
  stands_after n (suc k) v votes there stands =
      let next : n + k + 1 ≡ n + suc k = omega arith in
      let count : k + 1 ≡ suc k = omega arith in
      let now : IsSecond t (n + k + 1) v = subst (λ (m : ℕ). IsSecond t m v) (sym next) there in
      let u = second_before t (n + k) v now in
      let before = stands_after n k u.0 votes u.1 stands in
      subst (λ (m : ℕ). Stands t m (suc k) (state_of rules table (then_true t n (suc k) votes))) next
      (subst (λ (j : ℕ). Stands t (n + k + 1) j (state_of rules table (then_true t n (suc k) votes))) count
      (by_truth (n + k) k v (state_of rules table (then_true t n k votes)) now before).stands)

-- enough of them lock it
locked_by : (t : TimelineValue) (n k : ℕ) (v : UtcSecond) (s : State) (r : Report) → 1 ≤ k → count_of s < k → Stands t n k s → OnLocked s (r ≡ voted_report v) → r ≡ voted_report v
locked_by t n k v Idle r some few none says = absurd (omega (arith, some, none))
locked_by t n k v (Acquiring h count) r some few (inl none) says = absurd (omega (arith, some, none))
locked_by t n k v (Acquiring h count) r some few (inr stands) says = absurd (omega (arith, few, stands.1))
locked_by t n k v (Locked h) r some few stands says = says

unlocked_stands : (t : TimelineValue) (n : ℕ) (s : State) → IsUnlocked s → Stands t n 0 s
unlocked_stands t n Idle free = refl
unlocked_stands t n (Acquiring h count) free = inl refl
unlocked_stands t n (Locked h) free = absurd free

-- the last of them, from where the ones before lead
module _ (t : TimelineValue) (rules : ReaderRules) (table : TableValue) (sound : IsTimeline t) (some : 1 ≤ rules.lock_after) where
  last_true : (n k : ℕ) (vote : Option Claim) (votes before : List (Option Claim)) (v : UtcSecond) → k ≡ rules.lock_after → Stands t n 0 (state_of rules table votes) → IsSecond t (n + k) v
      → vote ∷ before ≡ then_true t n k votes → report_of rules table vote before ≡ voted_report v
  last_true n zero vote votes before v all stands there are = absurd (omega (arith, all, some))
  last_true n (suc k) vote votes before v all stands there are =
      let next : n + suc k ≡ n + k + 1 = omega arith in
      let now : IsSecond t (n + k + 1) v = subst (λ (m : ℕ). IsSecond t m v) next there in
      let u = second_before t (n + k) v now in
      let rest : List (Option Claim) = then_true t n k votes in
      let newest : vote ≡ truth_at t (n + k) = cc in
      let older : before ≡ rest = cc in
      let state : State = state_of rules table rest in
      let leads = by_truth t rules table sound (n + k) k v state now (stands_after t rules table sound n k u.0 votes u.1 stands) in
      let few = step_counting rules some table state (truth_at t (n + k)) (counting rules some table rest) in
      let count : k + 1 ≡ rules.lock_after = omega (arith, all) in
      rw (newest, older) (locked_by t (n + k + 1) (k + 1) v (step_of rules table state (truth_at t (n + k))).state (step_of rules table state (truth_at t (n + k))).report (omega arith) (omega (arith, few, count)) leads.stands leads.says)

  pub locked_by_true_votes : (n : ℕ) (vote : Option Claim) (votes before : List (Option Claim)) (v : UtcSecond) → IsSilentAfter rules table votes → IsSecond t (n + rules.lock_after) v
      → vote ∷ before ≡ then_true t n rules.lock_after votes → report_of rules table vote before ≡ voted_report v
  locked_by_true_votes n vote votes before v silent there are =
      last_true n rules.lock_after vote votes before v refl (unlocked_stands t n (state_of rules table votes) (silent_unlocked rules table votes silent)) there are

  -- the first of them counts as an earlier vote
  first_apart : (n k : ℕ) (votes : List (Option Claim)) → then_true t n (suc k) votes ≡ then_true t (n + 1) k (truth_at t n ∷ votes)
  first_apart n zero votes = let same : n + 0 ≡ n = omega arith in ap (λ (m : ℕ). truth_at t m ∷ votes) same
  first_apart n (suc k) votes =
      let same : n + suc k ≡ n + 1 + k = omega arith in
      ap (λ (rest : List (Option Claim)). truth_at t (n + suc k) ∷ rest) (first_apart n k votes) ∙ ap (λ (m : ℕ). truth_at t m ∷ then_true t (n + 1) k (truth_at t n ∷ votes)) same

  pub locked_from_anywhere : (n : ℕ) (vote : Option Claim) (votes before : List (Option Claim)) (v : UtcSecond) → IsSecond t (n + 1 + rules.lock_after) v
      → vote ∷ before ≡ then_true t n (rules.lock_after + 1) votes → report_of rules table vote before ≡ voted_report v
  locked_from_anywhere n vote votes before v there are =
      let first = seconds_before t (n + 1) rules.lock_after v there in
      let count : rules.lock_after + 1 ≡ suc rules.lock_after = omega arith in
      last_true (n + 1) rules.lock_after vote (truth_at t n ∷ votes) before v refl (any_by_truth t rules table sound n first.0 (state_of rules table votes) first.1) there
      (are ∙ ap (λ (k : ℕ). then_true t n k votes) count ∙ first_apart n rules.lock_after votes)
