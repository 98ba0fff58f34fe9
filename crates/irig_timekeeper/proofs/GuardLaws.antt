-- The leap table as a guard of the reader's rule: it lets true votes pass, if it is true, and leaves a
-- second only where it goes on as the timeline does, if it knows how the day ends.
use Rattle.std.specs.Prelude.{nat_lt, nat_le, ◌==◌}
use Rattle.std.proofs.Common.{◌≡◌, ◌∙◌, ◌⊎◌, ℕ, zero, suc, ◌+◌, ◌<◌, ◌≤◌, Bool, true, false, cond, not, ◌&&◌, Option, Some, None, refl, sym, ap, subst, arith, inl, inr}
use Rattle.std.proofs.lemmas.Bool.{cases_Bool, cases_lt, lt-ltb, le-ltb, eq-eqb, eqb-true, and_parts}
use Rattle.irig_time.specs.declared.second.UtcSecond.{UtcSecond}
use Rattle.irig_time.specs.declared.mark.Mark.{Mark}
use Rattle.irig_time.specs.declared.mark.Mark.TheVariants.{Unspoken, NoLeap, Insert, Delete}
use Rattle.irig_time.specs.declared.leap.Leap.{Leap}
use Rattle.irig_time.specs.declared.leap.Leap.TheVariants as leap
use Rattle.irig_time.specs.declared.claim.Claim.{Claim}
use Rattle.irig_time.specs.Days.{is_month_end}
use Rattle.irig_time.specs.Next.{next_of}
use Rattle.irig_time.specs.Tables.{TableValue, table_mark, spoken_mark}
use Rattle.irig_time.specs.Timelines.{TimelineValue, IsSecond, IsTrueClaim, leap_of, mark_by, true_mark, second_at, truth_at}
use Rattle.irig_time.specs.TimelineFaults.{IsTimeline}
use Rattle.irig_time.proofs.SecondAt.{second_is, claim_is}
use Rattle.irig_time.proofs.NextLaws.{heard, end}
use Rattle.irig_time.proofs.TimeLaws.{same_second, some_same}
use Rattle.irig_hold.specs.declared.hold.Turn.TheVariants as turn
use Rattle.irig_hold.specs.Steps.{HoldValue, mark_or, stop_on, hold_after, hold_or_stop, hold_start, outcome_of}
use Rattle.irig_hold.specs.Truth.{IsTrueTable, IsOnTime}
use Rattle.irig_hold.proofs.HoldLaws.{tested}
use Rattle.irig_reader.specs.declared.rules.ReaderRules.{ReaderRules}
use Rattle.irig_reader.specs.declared.report.Lock.{Lock}
use Rattle.irig_reader.specs.declared.report.Lock.TheVariants as lock
use Rattle.irig_reader.specs.declared.report.Cause.{Cause}
use Rattle.irig_reader.specs.declared.report.Cause.TheVariants as cause
use Rattle.irig_reader.specs.declared.rule.State.{State}
use Rattle.irig_reader.specs.declared.rule.State.TheVariants.{Idle, Acquiring, Locked}
use Rattle.irig_reader.specs.declared.rule.Step.{Step}
use Rattle.irig_reader.specs.Rule.{count_step, first_vote_step, later_vote_step_by, locked_step, holdover_step, step_of}
use Rattle.irig_reader.proofs.StepCases.{count_cases}
use Rattle.irig_timekeeper.specs.Rule.{against_table, differ, same_next, part_behind, word_behind, word_of, parts_from, goes_against, step_checked, missed, step_behind}
use Rattle.irig_timekeeper.specs.Truth.{FollowsTruth, KnowsEnd}
use Rattle.irig_timekeeper.proofs.CheckedSteps.{passes, checked_announces, checked_passes}

-- ---- two words

no_other : (m : Mark) → differ m m ≡ false
no_other Unspoken = refl
no_other NoLeap = refl
no_other Insert = refl
no_other Delete = refl

unheard : (m : Mark) → differ Unspoken m ≡ false
unheard Unspoken = refl
unheard NoLeap = refl
unheard Insert = refl
unheard Delete = refl

unknown : (m : Mark) → differ m Unspoken ≡ false
unknown Unspoken = refl
unknown NoLeap = refl
unknown Insert = refl
unknown Delete = refl

same_itself : (o : Option UtcSecond) → same_next o o ≡ true
same_itself None = refl
same_itself (Some u) = rw (eq-eqb u.day u.day refl, eq-eqb u.sod u.sod refl) refl

-- words that lead to one second do not part there
one_next : (u : UtcSecond) (a b : Mark) → next_of u a ≡ next_of u b → part_behind u a b ≡ false
one_next u a b e = by (differ a b) (same_next (next_of u a) (next_of u b)) (ap (λ (o : Option UtcSecond). same_next o (next_of u b)) e ∙ same_itself (next_of u b))
  where
    by : (x y : Bool) → y ≡ true → (x && not y) ≡ false
    by true y e = rw e refl
    by false y e = refl

-- nor do those that do not differ
no_part : (u : UtcSecond) (a b : Mark) → differ a b ≡ false → part_behind u a b ≡ false
no_part u a b e = rw e refl

-- ---- away from the end of a day all that speak lead to one second

IsAway : UtcSecond → Type 0
IsAway u = (u.sod < 86398) ⊎ (86400 ≤ u.sod)

away_tests : (u : UtcSecond) → IsAway u → (b : Bool) × ((nat_lt u.sod 86398 ≡ b) × ((nat_lt u.sod 86399 ≡ b) × (nat_lt u.sod 86400 ≡ b)))
unfolding IsAway
away_tests u (inl low) = (true, (lt-ltb u.sod 86398 low, (lt-ltb u.sod 86399 (omega (arith, low)), lt-ltb u.sod 86400 (omega (arith, low)))))
away_tests u (inr high) = (false, (le-ltb u.sod 86398 (omega (arith, high)), (le-ltb u.sod 86399 (omega (arith, high)), le-ltb u.sod 86400 high)))

away_next : (u : UtcSecond) → IsAway u → (next_of u Insert ≡ next_of u NoLeap) × (next_of u Delete ≡ next_of u NoLeap)
away_next u away =
    let tests = away_tests u away in
    elim (cases_Bool (is_month_end u.day)) [
      | inl month ↦ (rw (month, tests.1.1.0, tests.1.1.1) refl, rw (month, tests.1.0, tests.1.1.0) refl)
      | inr none ↦ (rw none refl, rw none refl)
    ]

away_parts : (u : UtcSecond) (a b : Mark) → IsAway u → part_behind u a b ≡ false
away_parts u Unspoken b away = no_part u Unspoken b (unheard b)
away_parts u NoLeap Unspoken away = refl
away_parts u Insert Unspoken away = refl
away_parts u Delete Unspoken away = refl
away_parts u NoLeap NoLeap away = refl
away_parts u Insert Insert away = refl
away_parts u Delete Delete away = refl
away_parts u NoLeap Insert away = one_next u NoLeap Insert (sym (away_next u away).0)
away_parts u NoLeap Delete away = one_next u NoLeap Delete (sym (away_next u away).1)
away_parts u Insert NoLeap away = one_next u Insert NoLeap (away_next u away).0
away_parts u Insert Delete away = one_next u Insert Delete ((away_next u away).0 ∙ sym (away_next u away).1)
away_parts u Delete NoLeap away = one_next u Delete NoLeap (away_next u away).1
away_parts u Delete Insert away = one_next u Delete Insert ((away_next u away).1 ∙ sym (away_next u away).0)

-- ---- a true table lets the truth pass

-- what it says of a day of the timeline is nothing, or what is so
right_mark : (t : TimelineValue) (table : TableValue) → IsTrueTable t table → (day : ℕ) → t.start.day ≤ day → (table_mark table day ≡ Unspoken) ⊎ (table_mark table day ≡ mark_by (leap_of t.leaps day))
right_mark t table right day from = elim (cases_Bool (is_month_end day)) [
  | inr none ↦ inl (rw none refl)
  | inl month ↦ elim (cases_lt table.until day) [
    | inl above ↦ inl (rw (month, lt-ltb table.until day above) refl)
    | inr within ↦ inr (rw (month, le-ltb table.until day within) (ap mark_by (right.leaps day month from within)))
  ]
]

right_parts : (t : TimelineValue) (table : TableValue) → IsTrueTable t table → (u : UtcSecond) → t.start.day ≤ u.day → (heard : Mark) → (heard ≡ Unspoken) ⊎ (heard ≡ mark_by (leap_of t.leaps u.day)) → parts_from table u heard ≡ false
right_parts t table right u from heard (inl silent) = no_part u heard (table_mark table u.day) (ap (λ (m : Mark). differ m (table_mark table u.day)) silent ∙ unheard (table_mark table u.day))
right_parts t table right u from heard (inr truth) = elim (right_mark t table right u.day from) [
  | inl silent ↦ no_part u heard (table_mark table u.day) (ap (differ heard) silent ∙ unknown heard)
  | inr known ↦ no_part u heard (table_mark table u.day) (ap (differ heard) (known ∙ sym truth) ∙ no_other heard)
]

-- a hold that has heard the truth or nothing
pub on_time_passes : (t : TimelineValue) (table : TableValue) (n : ℕ) (h : HoldValue) → IsTrueTable t table → IsOnTime t n h → goes_against table (Locked h) None ≡ false
unfolding goes_against
on_time_passes t table n h right on_time = right_parts t table right h.last on_time.last.from h.heard on_time.heard

word_speaks : (m : Mark) (h : HoldValue) (c : Claim) → ¬ (m ≡ Unspoken) → c.mark ≡ m → word_behind h c ≡ m
word_speaks m h c speaks e = elim (cases_Bool ((c.at.day == h.last.day) && (c.at.sod == h.last.sod))) [
  | inl same ↦ rw same (ap (λ (x : Mark). mark_or x h.heard) e ∙ or_speaks m h.heard speaks)
  | inr other ↦ rw other e
]
  where
    or_speaks : (m before : Mark) → ¬ (m ≡ Unspoken) → mark_or m before ≡ m
    or_speaks Unspoken before speaks = absurd (speaks refl)
    or_speaks NoLeap before speaks = refl
    or_speaks Insert before speaks = refl
    or_speaks Delete before speaks = refl

truth_speaks : (l : Option Leap) → ¬ (mark_by l ≡ Unspoken)
truth_speaks None e = cc
truth_speaks (Some leap.Insert) e = cc
truth_speaks (Some leap.Delete) e = cc

word_is : (m : Mark) (s : State) (c : Claim) → ¬ (m ≡ Unspoken) → c.mark ≡ m → word_of s c ≡ m
word_is m Idle c speaks e = e
word_is m (Acquiring h count) c speaks e = word_speaks m h c speaks e
word_is m (Locked h) c speaks e = word_speaks m h c speaks e

-- a true claim, wherever the reader stands
true_passes : (t : TimelineValue) (table : TableValue) (n : ℕ) (s : State) (c : Claim) → IsTrueTable t table → IsTrueClaim t (n + 1) c → goes_against table s (Some c) ≡ false
unfolding goes_against IsAway
true_passes t table n s c right claim = elim (cases_Bool (is_month_end c.at.day)) [
  | inr none ↦ no_part c.at (word_of s c) (table_mark table c.at.day) (let silent : table_mark table c.at.day ≡ Unspoken = rw none refl in ap (differ (word_of s c)) silent ∙ unknown (word_of s c))
  | inl month ↦ elim (cases_lt c.at.sod 86341) [
    | inl early ↦ away_parts c.at (word_of s c) (table_mark table c.at.day) (inl (omega (arith, early)))
    | inr from ↦ elim (cases_lt c.at.sod 86400) [
      | inr last ↦ away_parts c.at (word_of s c) (table_mark table c.at.day) (inr last)
      | inl before ↦
          let truth : Mark = mark_by (leap_of t.leaps c.at.day) in
          let says : true_mark t.leaps c.at ≡ truth = rw (month, le-ltb c.at.sod 86341 from, lt-ltb c.at.sod 86400 before) refl in
          right_parts t table right c.at claim.second.2.from (word_of s c) (inr (word_is truth s c (truth_speaks (leap_of t.leaps c.at.day)) (claim.mark ∙ says)))
    ]
  ]
]

-- and it does not speak against the table
pub true_agrees : (t : TimelineValue) (table : TableValue) (n : ℕ) (c : Claim) → IsTrueTable t table → IsTrueClaim t (n + 1) c → against_table table (Some c) ≡ false
true_agrees t table n c right claim = elim (right_mark t table right c.at.day claim.second.2.from) [
  | inl silent ↦ ap (differ c.mark) silent ∙ unknown c.mark
  | inr known ↦ elim (honest (is_month_end c.at.day) (nat_lt c.at.sod 86341) (nat_lt c.at.sod 86400)) [
    | inl nothing ↦ ap (λ (m : Mark). differ m (table_mark table c.at.day)) (claim.mark ∙ nothing) ∙ unheard (table_mark table c.at.day)
    | inr says ↦ ap (λ (m : Mark). differ m (table_mark table c.at.day)) (claim.mark ∙ says) ∙ ap (differ truth) known ∙ no_other truth
  ]
]
  where
    truth : Mark
    truth = mark_by (leap_of t.leaps c.at.day)

    honest : (month early before : Bool) → let said : Mark = cond month (cond early Unspoken (cond before truth Unspoken)) Unspoken in (said ≡ Unspoken) ⊎ (said ≡ truth)
    honest false early before = inl refl
    honest true true before = inl refl
    honest true false true = inr refl
    honest true false false = inl refl

pub passes_truth : (t : TimelineValue) (prefers : Bool) (rules : ReaderRules) (table : TableValue) → FollowsTruth t prefers table → (n : ℕ) (s : State) (c : Claim) → truth_at t n ≡ Some c → step_checked prefers rules table s (Some c) ≡ step_of rules table s (Some c)
passes_truth t prefers rules table (inl prefers_frames) n s c truth = passes prefers rules table s (Some c) (inl prefers_frames)
passes_truth t prefers rules table (inr right) n s c truth = passes prefers rules table s (Some c) (inr (true_passes t table n s c right ((claim_is t n c).0 truth)))

-- ---- where a step leads

exact_next : (a b : Option UtcSecond) → same_next a b ≡ true → a ≡ b
exact_next None None e = refl
exact_next None (Some v) e = absurd cc
exact_next (Some u) None e = absurd cc
exact_next (Some u) (Some v) e =
    let parts = and_parts (u.day == v.day) (u.sod == v.sod) e in
    some_same u v (same_second u v (eqb-true u.day v.day parts.0) (eqb-true u.sod v.sod parts.1))

not_false : (x : Bool) → not x ≡ false → x ≡ true
not_false true e = refl
not_false false e = absurd cc

-- words that speak and do not part lead to one second
unparted : (u : UtcSecond) (a b : Mark) → ¬ (a ≡ Unspoken) → ¬ (b ≡ Unspoken) → part_behind u a b ≡ false → next_of u a ≡ next_of u b
unparted u Unspoken b speaks known e = absurd (speaks refl)
unparted u NoLeap Unspoken speaks known e = absurd (known refl)
unparted u Insert Unspoken speaks known e = absurd (known refl)
unparted u Delete Unspoken speaks known e = absurd (known refl)
unparted u NoLeap NoLeap speaks known e = refl
unparted u Insert Insert speaks known e = refl
unparted u Delete Delete speaks known e = refl
unparted u NoLeap Insert speaks known e = exact_next (next_of u NoLeap) (next_of u Insert) (not_false _ e)
unparted u NoLeap Delete speaks known e = exact_next (next_of u NoLeap) (next_of u Delete) (not_false _ e)
unparted u Insert NoLeap speaks known e = exact_next (next_of u Insert) (next_of u NoLeap) (not_false _ e)
unparted u Insert Delete speaks known e = exact_next (next_of u Insert) (next_of u Delete) (not_false _ e)
unparted u Delete NoLeap speaks known e = exact_next (next_of u Delete) (next_of u NoLeap) (not_false _ e)
unparted u Delete Insert speaks known e = exact_next (next_of u Delete) (next_of u Insert) (not_false _ e)

-- where the truth leads is T(n + 1)
truth_leads : (t : TimelineValue) (n : ℕ) (u v : UtcSecond) → IsTimeline t → IsSecond t n u → next_of u (mark_by (leap_of t.leaps u.day)) ≡ Some v → IsSecond t (n + 1) v
truth_leads t n u v sound at e = by (second_at t (n + 1)) refl
  where
    by : (o : Option UtcSecond) → second_at t (n + 1) ≡ o → IsSecond t (n + 1) v
    by (Some w) is =
        let there : IsSecond t (n + 1) w = (second_is t (n + 1) w).0 is in
        let both : Some w ≡ Some v = sym (heard t n u w sound at there) ∙ e in
        let same : w ≡ v = cc in
        subst (IsSecond t (n + 1)) same there
    by None is =
        let none : next_of u (mark_by (leap_of t.leaps u.day)) ≡ None = end t n u (mark_by (leap_of t.leaps u.day)) sound at (λ w there. let both : None ≡ Some w = sym is ∙ (second_is t (n + 1) w).1 there in absurd cc) in
        let both : None ≡ Some v = sym none ∙ e in
        absurd cc

-- by a word that does not part from a table that knows how the day ends, so does T(n)
guarded : (t : TimelineValue) (table : TableValue) (n : ℕ) (u v : UtcSecond) (word : Mark) → IsTimeline t → IsSecond t n u → KnowsEnd t table u.day → parts_from table u word ≡ false → next_of u (spoken_mark table word u.day) ≡ Some v → IsSecond t (n + 1) v
guarded t table n u v word sound at knows with e = truth_leads t n u v sound at (elim (cases_Bool (is_month_end u.day)) [
  | inr none ↦ (let same : next_of u truth ≡ next_of u (spoken_mark table word u.day) = rw none refl in same) ∙ e
  | inl month ↦ sym (by_word (knows month) word with) ∙ e
])
  where
    truth : Mark
    truth = mark_by (leap_of t.leaps u.day)

    speaks : ¬ (truth ≡ Unspoken)
    speaks = truth_speaks (leap_of t.leaps u.day)

    spoken : table_mark table u.day ≡ truth → (m : Mark) → ¬ (m ≡ Unspoken) → parts_from table u m ≡ false → next_of u m ≡ next_of u truth
    spoken known m says with = unparted u m truth says speaks (subst (λ (x : Mark). part_behind u m x ≡ false) known with)

    by_word : table_mark table u.day ≡ truth → (m : Mark) → parts_from table u m ≡ false → next_of u (spoken_mark table m u.day) ≡ next_of u truth
    by_word known Unspoken with = ap (next_of u) known
    by_word known NoLeap with = spoken known NoLeap (λ e. cc) with
    by_word known Insert with = spoken known Insert (λ e. cc) with
    by_word known Delete with = spoken known Delete (λ e. cc) with

-- ---- what the rule announces is where it steps

stops_on : (day : ℕ) → (stop_on day ≡ turn.RangeEnd) ⊎ (stop_on day ≡ turn.LeapGuard)
stops_on day = elim (cases_Bool (day == 36523)) [ inl last ↦ inl (rw last refl) | inr before ↦ inr (rw before refl) ]

module _ (rules : ReaderRules) (table : TableValue) (v : UtcSecond) where
  Says : Step → Type 0
  Says step = step.report.announce ≡ Some v

  counts : (h : HoldValue) (count : ℕ) → Says (count_step rules h count) → h.last ≡ v
  unfolding Says
  counts h count = count_cases (λ step. step.report.announce ≡ Some v → h.last ≡ v) rules h count (λ enough e. cc) (λ more e. absurd cc)

  begins : (u : UtcSecond) (mark : Mark) (o : Option UtcSecond) → Says (first_vote_step rules (hold_or_stop u 0 mark o)) → o ≡ Some v
  unfolding Says
  begins u mark None e = absurd cc
  begins u mark (Some w) e = let last = counts (hold_after u 0 mark w) 1 e in ap (λ (x : UtcSecond). Some x) last

  joins : (count : ℕ) (anew : Step) (h : HoldValue) (u : UtcSecond) (mark : Mark) (o : Option UtcSecond)
      → Says (later_vote_step_by rules count anew (outcome_of h (hold_or_stop u 0 mark o)).answer (outcome_of h (hold_or_stop u 0 mark o)).new) → o ≡ Some v
  unfolding Says
  joins count anew h u mark None e = elim (stops_on u.day) [
    | inl last ↦ let none : None ≡ Some v = rw last at e in absurd cc
    | inr before ↦ let none : None ≡ Some v = rw before at e in absurd cc
  ]
  joins count anew h u mark (Some w) e = let last = counts (hold_after u 0 mark w) (count + 1) e in ap (λ (x : UtcSecond). Some x) last

  goes : (l : Lock) (c : Cause) (h : HoldValue) (u : UtcSecond) (age : ℕ) (mark : Mark) (o : Option UtcSecond)
      → Says (locked_step l c (outcome_of h (hold_or_stop u age mark o)).answer (outcome_of h (hold_or_stop u age mark o)).new) → o ≡ Some v
  unfolding Says
  goes l c h u age mark None e = elim (stops_on u.day) [
    | inl last ↦ let none : None ≡ Some v = rw last at e in absurd cc
    | inr before ↦ let none : None ≡ Some v = rw before at e in absurd cc
  ]
  goes l c h u age mark (Some w) e = e

  -- by a vote, from the second of its claim
  vote_next : (s : State) (c : Claim) → (step_of rules table s (Some c)).report.announce ≡ Some v → next_of c.at (spoken_mark table (word_of s c) c.at.day) ≡ Some v
  unfolding step_of Says
  vote_next Idle c e = begins c.at c.mark (next_of c.at (spoken_mark table c.mark c.at.day)) e
  vote_next (Acquiring h count) c e = elim (cases_Bool ((c.at.day == h.last.day) && (c.at.sod == h.last.sod))) [
    | inl same ↦
        let word : Mark = mark_or c.mark h.heard in
        let here : next_of h.last (spoken_mark table word h.last.day) ≡ Some v = joins count (first_vote_step rules (hold_start table c)) h h.last word (next_of h.last (spoken_mark table word h.last.day)) (rw same at e) in
        rw same (subst (λ (u : UtcSecond). next_of u (spoken_mark table word u.day) ≡ Some v) (sym (tested c h same)) here)
    | inr other ↦ rw other (begins c.at c.mark (next_of c.at (spoken_mark table c.mark c.at.day)) (rw other at e))
  ]
  vote_next (Locked h) c e = elim (cases_Bool ((c.at.day == h.last.day) && (c.at.sod == h.last.sod))) [
    | inl same ↦
        let word : Mark = mark_or c.mark h.heard in
        let here : next_of h.last (spoken_mark table word h.last.day) ≡ Some v = goes lock.Locked cause.Voted h h.last 0 word (next_of h.last (spoken_mark table word h.last.day)) (rw same at e) in
        rw same (subst (λ (u : UtcSecond). next_of u (spoken_mark table word u.day) ≡ Some v) (sym (tested c h same)) here)
    | inr other ↦ let none : None ≡ Some v = rw other at e in absurd cc
  ]

-- by a vote for T(n), unless frames are preferred, a table that knows how the day ends leaves T(n + 1)
pub guards_vote : (t : TimelineValue) (rules : ReaderRules) (table : TableValue) (n : ℕ) (s : State) (c : Claim) (v : UtcSecond) → IsTimeline t → IsSecond t n c.at → KnowsEnd t table c.at.day → (step_checked false rules table s (Some c)).report.announce ≡ Some v → IsSecond t (n + 1) v
unfolding goes_against
guards_vote t rules table n s c v sound at knows says =
    let rule = checked_announces false rules table s (Some c) v says in
    let with : goes_against table s (Some c) ≡ false = checked_passes false rules table s (Some c) v refl says in
    guarded t table n c.at v (word_of s c) sound at knows with (vote_next rules table v s c (ap (λ (x : Step). x.report.announce) (sym rule) ∙ says))

-- ---- without a vote

-- a step leads to nothing, or to T(n), which it announces
pub record IsHeldAt (t : TimelineValue) (n : ℕ) (step : Step) : Type 0 where
  pub h : HoldValue
  pub is : step.state ≡ Locked h
  pub says : step.report.announce ≡ Some h.last
  pub second : IsSecond t n h.last

abbrev pub HoldsTruly : TimelineValue → ℕ → Step → Type 0
HoldsTruly t n step = ((step.state ≡ Idle) × (step.report.announce ≡ None)) ⊎ IsHeldAt t n step

stopped : (t : TimelineValue) (n : ℕ) (l : Lock) (h : HoldValue) (day : ℕ) → HoldsTruly t n (locked_step l cause.Held (stop_on day) h)
stopped t n l h day = elim (stops_on day) [ inl last ↦ rw last (inl (refl, refl)) | inr before ↦ rw before (inl (refl, refl)) ]

held_by : (t : TimelineValue) (n : ℕ) (h : HoldValue) (age : ℕ) (mark : Mark) (o : Option UtcSecond) → ((v : UtcSecond) → o ≡ Some v → IsSecond t n v) → HoldsTruly t n (holdover_step (outcome_of h (hold_or_stop h.last age mark o)))
held_by t n h age mark None leads = stopped t n (lock.Holdover h.age) h h.last.day
held_by t n h age mark (Some v) leads = inr (record { h = hold_after h.last age mark v; is = refl; says = refl; second = leads v refl })

guards_locked : (t : TimelineValue) (rules : ReaderRules) (table : TableValue) (n : ℕ) (h : HoldValue) → IsTimeline t → IsSecond t n h.last → KnowsEnd t table h.last.day → HoldsTruly t (n + 1) (step_checked false rules table (Locked h) None)
unfolding goes_against step_checked step_of
guards_locked t rules table n h sound at knows = elim (cases_Bool (parts_from table h.last h.heard)) [
  | inl against ↦ rw against (inl (refl, refl))
  | inr with ↦
      rw with (elim (cases_Bool (nat_le rules.holdover h.age)) [
        | inl long ↦ rw long (inl (refl, refl))
        | inr short ↦
            rw short (held_by t (n + 1) h (h.age + 1) h.heard (next_of h.last (spoken_mark table h.heard h.last.day))
            (λ v e. guarded t table n h.last v h.heard sound at knows with e))
      ])
]

-- so over edges that were missed, if it knows how each of their days ends
module _ (t : TimelineValue) (rules : ReaderRules) (table : TableValue) (sound : IsTimeline t) where
  -- it has nothing to go on, or is locked at T(n)
  pub StandsTruly : ℕ → State → Type 0
  StandsTruly n s = (s ≡ Idle) ⊎ ((h : HoldValue) × (s ≡ Locked h) × IsSecond t n h.last)

  idle_holds : (n : ℕ) → HoldsTruly t n (step_checked false rules table Idle None)
  unfolding goes_against step_checked step_of
  idle_holds n = inl (refl, refl)

  one_held : (n : ℕ) (s : State) → ((u : UtcSecond) → IsSecond t n u → KnowsEnd t table u.day) → StandsTruly n s → HoldsTruly t (n + 1) (step_checked false rules table s None)
  unfolding StandsTruly
  one_held n s knows (inl idle) = rw idle (idle_holds (n + 1))
  one_held n s knows (inr at) = rw at.1 (guards_locked t rules table n at.0 sound at.2 (knows at.0.last at.2))

  then_stands : (n : ℕ) (step : Step) → HoldsTruly t n step → StandsTruly n step.state
  unfolding StandsTruly
  then_stands n step (inl stop) = inl stop.0
  then_stands n step (inr held) = inr (held.h, held.is, held.second)

  missed_truly : (n j : ℕ) (s : State) → ((i : ℕ) (u : UtcSecond) → i < j → IsSecond t (n + i) u → KnowsEnd t table u.day) → StandsTruly n s → StandsTruly (n + j) (missed false rules table j s)
  missed_truly n zero s knows at = let same : n ≡ n + 0 = omega arith in subst (λ (m : ℕ). StandsTruly m s) same at
  missed_truly n (suc j) s knows at =
      let same : n + j + 1 ≡ n + suc j = omega arith in
      let before = missed_truly n j s (λ i u low. knows i u (omega (arith, low))) at in
      subst (λ (m : ℕ). StandsTruly m (missed false rules table (suc j) s)) same (then_stands (n + j + 1) (step_checked false rules table (missed false rules table j s) None) (one_held (n + j) (missed false rules table j s) (λ u. knows j u (omega arith)) before))

  pub guards_missed : (n j : ℕ) (h : HoldValue) (v : UtcSecond) → IsSecond t n h.last → ((i : ℕ) (u : UtcSecond) → i ≤ j → IsSecond t (n + i) u → KnowsEnd t table u.day) → (step_behind false rules table j (Locked h) None).report.announce ≡ Some v → IsSecond t (n + j + 1) v
  unfolding StandsTruly
  guards_missed n j h v at knows says =
      let before = missed_truly n j (Locked h) (λ i u low. knows i u (omega (arith, low))) (inr (h, refl, at)) in
      elim (one_held (n + j) (missed false rules table j (Locked h)) (λ u. knows j u (omega arith)) before) [
        | inl stop ↦ let both : None ≡ Some v = sym stop.1 ∙ says in absurd cc
        | inr held ↦ let both : Some held.h.last ≡ Some v = sym held.says ∙ says in let same : held.h.last ≡ v = cc in subst (IsSecond t (n + j + 1)) same held.second
      ]
