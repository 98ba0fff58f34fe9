-- A hold keeps to a timeline.
use Rattle.std.specs.Prelude.{◌↔◌, ◌==◌, ◌&&◌, nat_lt, Result, Ok, Err}
use Rattle.std.proofs.Common.{◌≡◌, eqb-true, ℕ, ◌+◌, ◌-◌, ◌<◌, ◌≤◌, ◌⊎◌, Bool, true, false, cond, Option, Some, None, refl, sym, ap, subst, ◌∙◌, arith, inl, inr}
use Rattle.std.proofs.lemmas.Bool.{both_ways, cases_Bool, cases_lt, cases_eq, lt-ltb, le-ltb, le-leb, lt-leb, eq-eqb, ne_eqb, and_from, and_parts}
use Rattle.irig_time.proofs.TimeLaws.{one_second, same_second}
use Rattle.irig_time.proofs.NextLaws.{heard, end, last_day}
use Rattle.irig_time.specs.declared.second.UtcSecond.{UtcSecond}
use Rattle.irig_time.specs.declared.mark.Mark.{Mark}
use Rattle.irig_time.specs.declared.mark.Mark.TheVariants.{Unspoken, NoLeap, Insert, Delete}
use Rattle.irig_time.specs.declared.leap.Leap.{Leap}
use Rattle.irig_time.specs.declared.leap.Leap.TheVariants as leap
use Rattle.irig_time.specs.declared.claim.Claim.{Claim}
use Rattle.irig_time.specs.Days.{is_month_end}
use Rattle.irig_time.specs.Next.{next_of}
use Rattle.irig_time.specs.Timelines.{TimelineValue, leap_of, mark_by, day_length, seconds_in, EndsAt, IsSecond, true_mark, IsTrueClaim}
use Rattle.irig_time.specs.TimelineFaults.{IsTimeline}
use Rattle.irig_time.specs.Tables.{TableValue, table_mark, spoken_mark}
use Rattle.irig_hold.specs.declared.hold.Turn.{Turn}
use Rattle.irig_hold.specs.declared.hold.Turn.TheVariants.{Now, LeapGuard, Expired, RangeEnd, Jump}
use Rattle.irig_hold.specs.Steps.{HoldValue, stop_on, mark_kept, hold_after, hold_or_stop, hold_step, hold_start, Outcome, outcome_of, mark_or, voted_by, alone_by}
use Rattle.irig_time.specs.Claims.{IsMarkedLate}
use Rattle.irig_hold.specs.Truth.{IsTrueTable, IsOnTime, HasHeardLate, IsGuarded, HasComeTo}
use Rattle.irig_hold.proofs.Stepping.{IsLast, free_or_last, next_none, last_waits, next_follows}

-- what the timeline says of the day of a second
abbrev truth : TimelineValue → UtcSecond → Mark
truth t u = mark_by (leap_of t.leaps u.day)

abbrev some : UtcSecond → Option UtcSecond
some u = Some u

-- ---- marks

pub truth_speaks : (l : Option Leap) → mark_by l ≡ Unspoken → ⊥
truth_speaks None e = cc
truth_speaks (Some leap.Insert) e = cc
truth_speaks (Some leap.Delete) e = cc

pub mark_or-truth : (l : Option Leap) (mark : Mark) → mark_or (mark_by l) mark ≡ mark_by l
mark_or-truth None mark = refl
mark_or-truth (Some leap.Insert) mark = refl
mark_or-truth (Some leap.Delete) mark = refl

spoken-truth : (table : TableValue) (l : Option Leap) (day : ℕ) → spoken_mark table (mark_by l) day ≡ mark_by l
spoken-truth table None day = refl
spoken-truth table (Some leap.Insert) day = refl
spoken-truth table (Some leap.Delete) day = refl

-- a true claim speaks at 23:59:58 and 23:59:59 of a month's last day
claim_speaks : (t : TimelineValue) (u : UtcSecond) → IsLast u → true_mark t.leaps u ≡ truth t u
claim_speaks t u h =
    elim h.late [
      | inl a ↦ rw (h.end, le-ltb u.sod 86341 (omega (arith, a)), lt-ltb u.sod 86400 (omega (arith, a))) refl
      | inr b ↦ rw (h.end, le-ltb u.sod 86341 (omega (arith, b)), lt-ltb u.sod 86400 (omega (arith, b))) refl
    ]

-- nothing, or the truth
abbrev IsHonest : TimelineValue → UtcSecond → Mark → Type 0
IsHonest t u mark = (mark ≡ Unspoken) ⊎ (mark ≡ truth t u)

claim_honest : (t : TimelineValue) (u : UtcSecond) → IsHonest t u (true_mark t.leaps u)
claim_honest t u = by_tests (is_month_end u.day) (nat_lt u.sod 86341) (nat_lt u.sod 86400) (truth t u)
  where
    by_tests : (a b c : Bool) (mark : Mark) → let said : Mark = cond a (cond b Unspoken (cond c mark Unspoken)) Unspoken in (said ≡ Unspoken) ⊎ (said ≡ mark)
    by_tests false b c mark = inl refl
    by_tests true true c mark = inl refl
    by_tests true false true mark = inr refl
    by_tests true false false mark = inl refl

vote_honest : (t : TimelineValue) (u : UtcSecond) (mark before : Mark) → IsHonest t u mark → IsHonest t u before → IsHonest t u (mark_or mark before)
vote_honest t u Unspoken before a b = b
vote_honest t u NoLeap before a b = a
vote_honest t u Insert before a b = a
vote_honest t u Delete before a b = a

kept_honest : (t : TimelineValue) (u v : UtcSecond) (mark : Mark) → IsHonest t u mark → IsHonest t v (mark_kept u.day v.day mark)
kept_honest t u v mark h =
    elim (cases_eq u.day v.day) [
      | inl same ↦
          let day : truth t u ≡ truth t v = ap (λ (d : ℕ). mark_by (leap_of t.leaps d)) same in
          rw (eq-eqb u.day v.day same) (elim h [ inl none ↦ inl none | inr told ↦ inr (told ∙ day) ])
      | inr other ↦ rw (ne_eqb u.day v.day other) (inl refl)
    ]

-- ---- the step by what is spoken

-- what is spoken leads where the truth does
abbrev Leads : TimelineValue → TableValue → UtcSecond → Mark → Type 0
Leads t table u mark = next_of u (spoken_mark table mark u.day) ≡ next_of u (truth t u)

truth_leads : (t : TimelineValue) (table : TableValue) (u : UtcSecond) (mark : Mark) → (IsLast u → mark ≡ truth t u) → Leads t table u mark
truth_leads t table u mark h =
    elim (free_or_last u) [
      | inl free ↦ free (spoken_mark table mark u.day) (truth t u)
      | inr last ↦ ap (λ (m : Mark). next_of u (spoken_mark table m u.day)) (h last) ∙ ap (next_of u) (spoken-truth table (leap_of t.leaps u.day) u.day)
    ]

claim_leads : (t : TimelineValue) (table : TableValue) (c : Claim) → c.mark ≡ true_mark t.leaps c.at → Leads t table c.at c.mark
claim_leads t table c told = truth_leads t table c.at c.mark (λ last. told ∙ claim_speaks t c.at last)

vote_leads : (t : TimelineValue) (table : TableValue) (u : UtcSecond) (mark before : Mark) → mark ≡ true_mark t.leaps u → Leads t table u (mark_or mark before)
vote_leads t table u mark before told =
    truth_leads t table u (mark_or mark before) (λ last. ap (λ (m : Mark). mark_or m before) (told ∙ claim_speaks t u last) ∙ mark_or-truth (leap_of t.leaps u.day) before)

abbrev IsSilent : TableValue → UtcSecond → Mark → Type 0
IsSilent table u mark = IsLast u × (mark ≡ Unspoken) × (table.until < u.day)

-- a table that ends before a month's last day, and no other, is silent there
table_speaks : (table : TableValue) (day : ℕ) → is_month_end day ≡ true → ((table.until < day) × (table_mark table day ≡ Unspoken)) ⊎ ((day ≤ table.until) × (table_mark table day ≡ mark_by (leap_of table.leaps day)))
table_speaks table day end =
    elim (cases_lt table.until day) [
      | inl lt ↦ inl (lt, rw (end, lt-ltb table.until day lt) refl)
      | inr ge ↦ inr (ge, rw (end, le-ltb table.until day ge) refl)
    ]

-- what a hold on time speaks leads where the truth does, or it is silent
honest_leads : (t : TimelineValue) (table : TableValue) (u : UtcSecond) (mark : Mark) → IsTrueTable t table → t.start.day ≤ u.day → IsHonest t u mark → Leads t table u mark ⊎ IsSilent table u mark
honest_leads t table u mark true_table from (inr told) = inl (truth_leads t table u mark (λ _. told))
honest_leads t table u mark true_table from (inl none) =
    elim (free_or_last u) [
      | inl free ↦ inl (free (spoken_mark table mark u.day) (truth t u))
      | inr last ↦ elim (table_speaks table u.day last.end) [
        | inl silent ↦ inr (last, none, silent.0)
        | inr told ↦
            let same : table_mark table u.day ≡ truth t u = told.1 ∙ ap mark_by (true_table.leaps u.day last.end from told.0) in
            let asked : spoken_mark table mark u.day ≡ table_mark table u.day = ap (λ (m : Mark). spoken_mark table m u.day) none in
            inl (ap (next_of u) (asked ∙ same))
      ]
    ]

silent_is : (table : TableValue) (u : UtcSecond) (mark : Mark) → IsSilent table u mark → spoken_mark table mark u.day ≡ Unspoken
silent_is table u mark h =
    let asked : spoken_mark table mark u.day ≡ table_mark table u.day = ap (λ (m : Mark). spoken_mark table m u.day) h.1 in
    asked ∙ rw (h.0.end, lt-ltb table.until u.day h.2) refl

silent_waits : (table : TableValue) (u : UtcSecond) (mark : Mark) → IsSilent table u mark → next_of u (spoken_mark table mark u.day) ≡ None
silent_waits table u mark h = ap (next_of u) (silent_is table u mark h) ∙ last_waits u h.0

silent_from : (table : TableValue) (u : UtcSecond) (mark : Mark) → IsLast u → spoken_mark table mark u.day ≡ Unspoken → IsSilent table u mark
silent_from table u Unspoken last e =
    elim (table_speaks table u.day last.end) [
      | inl silent ↦ (last, refl, silent.0)
      | inr told ↦ absurd (truth_speaks (leap_of table.leaps u.day) (sym told.1 ∙ e))
    ]
silent_from table u NoLeap last e = absurd cc
silent_from table u Insert last e = absurd cc
silent_from table u Delete last e = absurd cc

-- ---- the step of the timeline

-- a fact that cannot be false, of numbers, is true
surely : (t : TimelineValue) (n : ℕ) (u : UtcSecond) → ¬ ¬ IsSecond t n u → IsSecond t n u
surely t n u h = record {
  from = elim (cases_lt u.day t.start.day) [ inl lt ↦ absurd (h (λ s. omega (arith, s.from, lt))) | inr ge ↦ ge ];
  to = elim (cases_lt 36523 u.day) [ inl lt ↦ absurd (h (λ s. omega (arith, s.to, lt))) | inr ge ↦ ge ];
  sod = elim (cases_lt u.sod (day_length t.leaps u.day)) [ inl lt ↦ lt | inr ge ↦ absurd (h (λ s. omega (arith, s.sod, ge))) ];
  sum = elim (cases_eq (seconds_in t.leaps t.start.day (u.day - t.start.day) + u.sod) (t.start.sod + n)) [ inl e ↦ e | inr ne ↦ absurd (h (λ s. ne s.sum)) ];
}

-- where the truth leads is T(n + 1)
truth_is_next : (t : TimelineValue) (n : ℕ) (u v : UtcSecond) → IsTimeline t → IsSecond t n u → next_of u (truth t u) ≡ Some v → IsSecond t (n + 1) v
truth_is_next t n u v sound at e =
    surely t (n + 1) v (λ no.
    let none : next_of u (truth t u) ≡ None = end t n u (truth t u) sound at (λ w there.
    let same : some w ≡ Some v = sym (heard t n u w sound at there) ∙ e in
    let w_is_v : w ≡ v = cc in
    no (subst (IsSecond t (n + 1)) w_is_v there)) in
    let both : None ≡ some v = sym none ∙ e in
    absurd cc)

-- if T ends, each mark leads nowhere, and the day is the last
ends : (t : TimelineValue) (n : ℕ) (u : UtcSecond) → IsTimeline t → IsSecond t n u → EndsAt t n → u.day ≡ 36523
ends t n u sound at none =
    elim (next_none u NoLeap (end t n u NoLeap sound at none)) [
      | inl last ↦ last
      | inr silent ↦ absurd (let speaks : NoLeap ≡ Unspoken = silent.1 in cc)
    ]

-- where a step leads nowhere on the last day, T ends
ended : (t : TimelineValue) (n : ℕ) (u : UtcSecond) (mark : Mark) → IsTimeline t → IsSecond t n u → u.day ≡ 36523 → next_of u mark ≡ None → EndsAt t n
ended t n u mark sound at last none v there =
    elim (free_or_last u) [
      | inl free ↦ let both : None ≡ some v = sym none ∙ free mark (truth t u) ∙ heard t n u v sound at there in cc
      | inr month ↦ both_ways (is_month_end u.day) (ap is_month_end last ∙ last_day) month.end
    ]

pub claimed : (t : TimelineValue) (n : ℕ) (c : Claim) → IsTrueClaim t (n + 1) c → IsSecond t n c.at
claimed t n c h = let same : h.second.0 ≡ n = omega (arith, h.second.1) in subst (λ (m : ℕ). IsSecond t m c.at) same h.second.2

-- ---- where a step leads

stop_at_end : (day : ℕ) → day ≡ 36523 → stop_on day ≡ RangeEnd
stop_at_end day e = rw (eq-eqb day 36523 e) refl

stop_before : (day : ℕ) → ¬ (day ≡ 36523) → stop_on day ≡ LeapGuard
stop_before day ne = rw (ne_eqb day 36523 ne) refl

-- a stop is one of two
stop_is : (day : ℕ) → (stop_on day ≡ RangeEnd) ⊎ (stop_on day ≡ LeapGuard)
stop_is day = elim (cases_eq day 36523) [ inl e ↦ inl (stop_at_end day e) | inr ne ↦ inr (stop_before day ne) ]

moved_on_time : (t : TimelineValue) (n : ℕ) (u v : UtcSecond) (age : ℕ) (mark : Mark) → IsHonest t u mark → IsSecond t (n + 1) v → IsOnTime t (n + 1) (hold_after u age mark v)
moved_on_time t n u v age mark honest there = record { last = there; heard = kept_honest t u v mark honest }

-- where each second that a step leads to is T(n + 1)
abbrev LeadsOn : TimelineValue → ℕ → Option UtcSecond → Type 0
LeadsOn t n o = (v : UtcSecond) → o ≡ Some v → IsSecond t (n + 1) v

moved_if_true : (t : TimelineValue) (n : ℕ) (u : UtcSecond) (age : ℕ) (mark : Mark) (o : Option UtcSecond) (new : HoldValue) → IsHonest t u mark → LeadsOn t n o
    → hold_or_stop u age mark o ≡ Ok new → IsOnTime t (n + 1) new
moved_if_true t n u age mark None new honest on e = absurd cc
moved_if_true t n u age mark (Some v) new honest on e =
    let same : hold_after u age mark v ≡ new = cc in
    subst (IsOnTime t (n + 1)) same (moved_on_time t n u v age mark honest (on v refl))

pub stop_is_no_now : (day : ℕ) (u : UtcSecond) → stop_on day ≡ Now u → ⊥
stop_is_no_now day u e = elim (stop_is day) [ inl a ↦ let both : RangeEnd ≡ Now u = sym a ∙ e in cc | inr b ↦ let both : LeapGuard ≡ Now u = sym b ∙ e in cc ]

outcome_true : (t : TimelineValue) (n : ℕ) (h : HoldValue) (u : UtcSecond) (age : ℕ) (mark : Mark) (o : Option UtcSecond) (w : UtcSecond) → IsHonest t u mark → LeadsOn t n o
    → (outcome_of h (hold_or_stop u age mark o)).answer ≡ Now w → HasComeTo t (n + 1) w (outcome_of h (hold_or_stop u age mark o)).new
outcome_true t n h u age mark None w honest on e = absurd (stop_is_no_now u.day w e)
outcome_true t n h u age mark (Some v) w honest on e =
    let same : v ≡ w = cc in
    record { second = subst (IsSecond t (n + 1)) same (on v refl); last = same; on_time = moved_on_time t n u v age mark honest (on v refl) }

leads_on : (t : TimelineValue) (table : TableValue) (n : ℕ) (u : UtcSecond) (mark : Mark) → IsTimeline t → IsSecond t n u → Leads t table u mark → LeadsOn t n (next_of u (spoken_mark table mark u.day))
leads_on t table n u mark sound at leads v e = truth_is_next t n u v sound at (sym leads ∙ e)

honest_leads_on : (t : TimelineValue) (table : TableValue) (n : ℕ) (u : UtcSecond) (mark : Mark) → IsTimeline t → IsTrueTable t table → IsSecond t n u → IsHonest t u mark
    → LeadsOn t n (next_of u (spoken_mark table mark u.day))
honest_leads_on t table n u mark sound true_table at honest v e =
    elim (honest_leads t table u mark true_table at.from honest) [
      | inl leads ↦ leads_on t table n u mark sound at leads v e
      | inr silent ↦ let both : None ≡ some v = sym (silent_waits table u mark silent) ∙ e in absurd cc
    ]

-- ---- the tests of a vote and of a limit

is_for : (c : Claim) (h : HoldValue) → c.at ≡ h.last → ((c.at.day == h.last.day) && (c.at.sod == h.last.sod)) ≡ true
is_for c h e = and_from _ _ (eq-eqb c.at.day h.last.day (ap (λ (u : UtcSecond). u.day) e)) (eq-eqb c.at.sod h.last.sod (ap (λ (u : UtcSecond). u.sod) e))

-- a true vote for the second of the hold
pub record IsTrueVote (t : TimelineValue) (n : ℕ) (h : HoldValue) (c : Claim) : Type 0 where
  pub for : ((c.at.day == h.last.day) && (c.at.sod == h.last.sod)) ≡ true
  pub told : c.mark ≡ true_mark t.leaps h.last

true_vote : (t : TimelineValue) (n : ℕ) (h : HoldValue) (c : Claim) → IsSecond t n h.last → IsTrueClaim t (n + 1) c → IsTrueVote t n h c
true_vote t n h c at claim =
    let same : c.at ≡ h.last = one_second t n c.at h.last (claimed t n c claim) at in
    record { for = is_for c h same; told = claim.mark ∙ ap (true_mark t.leaps) same }

-- ---- the law of the hold

pub voted_true : (t : TimelineValue) (table : TableValue) (n : ℕ) (h : HoldValue) (c : Claim) (u : UtcSecond) → IsTimeline t → IsOnTime t n h → IsTrueClaim t (n + 1) c
    → (voted_by table h c).answer ≡ Now u → HasComeTo t (n + 1) u (voted_by table h c).new
voted_true t table n h c u sound on_time claim e =
    let vote = true_vote t n h c on_time.last claim in
    let mark : Mark = mark_or c.mark h.heard in
    let said : IsHonest t h.last c.mark = subst (IsHonest t h.last) (sym vote.told) (claim_honest t h.last) in
    let honest : IsHonest t h.last mark = vote_honest t h.last c.mark h.heard said on_time.heard in
    let leads = vote_leads t table h.last c.mark h.heard vote.told in
    let answered : (outcome_of h (hold_step table h.last 0 mark)).answer ≡ Now u = rw vote.for at e in
    rw vote.for (outcome_true t n h h.last 0 mark (next_of h.last (spoken_mark table mark h.last.day)) u honest (leads_on t table n h.last mark sound on_time.last leads) answered)

pub alone_true : (t : TimelineValue) (table : TableValue) (n limit : ℕ) (h : HoldValue) (u : UtcSecond) → IsTimeline t → IsTrueTable t table → IsOnTime t n h
    → (alone_by table h limit).answer ≡ Now u → HasComeTo t (n + 1) u (alone_by table h limit).new
alone_true t table n limit h u sound true_table on_time e =
    elim (cases_lt h.age limit) [
      | inr ge ↦ let both : Expired ≡ Now u = rw (le-leb limit h.age ge) at e in absurd cc
      | inl lt ↦
          let answered : (outcome_of h (hold_step table h.last (h.age + 1) h.heard)).answer ≡ Now u = rw (lt-leb limit h.age lt) at e in
          let on = honest_leads_on t table n h.last h.heard sound true_table on_time.last on_time.heard in
          rw (lt-leb limit h.age lt) (outcome_true t n h h.last (h.age + 1) h.heard (next_of h.last (spoken_mark table h.heard h.last.day)) u on_time.heard on answered)
    ]

pub started_true : (t : TimelineValue) (table : TableValue) (n : ℕ) (c : Claim) (h : HoldValue) → IsTimeline t → IsTrueClaim t (n + 1) c → hold_start table c ≡ Ok h → IsOnTime t (n + 1) h
started_true t table n c h sound claim e =
    let honest : IsHonest t c.at c.mark = subst (IsHonest t c.at) (sym claim.mark) (claim_honest t c.at) in
    let on = leads_on t table n c.at c.mark sound (claimed t n c claim) (claim_leads t table c claim.mark) in
    moved_if_true t n c.at 0 c.mark (next_of c.at (spoken_mark table c.mark c.at.day)) h honest on e

-- ---- whatever a hold stands at and has heard

abbrev IsOfVote : TimelineValue → ℕ → UtcSecond → Outcome → Type 0
IsOfVote t n u o = IsSecond t (n + 1) u × (o.new.last ≡ u)

outcome_second : (t : TimelineValue) (n : ℕ) (h : HoldValue) (u : UtcSecond) (age : ℕ) (mark : Mark) (o : Option UtcSecond) (w : UtcSecond) → LeadsOn t n o
    → (outcome_of h (hold_or_stop u age mark o)).answer ≡ Now w → IsOfVote t n w (outcome_of h (hold_or_stop u age mark o))
outcome_second t n h u age mark None w on e = absurd (stop_is_no_now u.day w e)
outcome_second t n h u age mark (Some v) w on e =
    let same : v ≡ w = cc in
    (subst (IsSecond t (n + 1)) same (on v refl), same)

pub tested : (c : Claim) (h : HoldValue) → ((c.at.day == h.last.day) && (c.at.sod == h.last.sod)) ≡ true → c.at ≡ h.last
tested c h for =
    let parts = and_parts (c.at.day == h.last.day) (c.at.sod == h.last.sod) for in
    same_second c.at h.last (eqb-true c.at.day h.last.day parts.0) (eqb-true c.at.sod h.last.sod parts.1)

-- a vote that is answered with a second is for the second of the hold
pub voted_for : (table : TableValue) (h : HoldValue) (c : Claim) (u : UtcSecond) → (voted_by table h c).answer ≡ Now u → c.at ≡ h.last
voted_for table h c u e =
    elim (cases_Bool ((c.at.day == h.last.day) && (c.at.sod == h.last.sod))) [
      | inl for ↦ tested c h for
      | inr other ↦ let jump : Jump ≡ Now u = rw other at e in absurd cc
    ]

pub voted_second : (t : TimelineValue) (table : TableValue) (n : ℕ) (h : HoldValue) (c : Claim) (u : UtcSecond) → IsTimeline t → IsTrueClaim t (n + 1) c
    → (voted_by table h c).answer ≡ Now u → IsOfVote t n u (voted_by table h c)
voted_second t table n h c u sound claim e =
    let at : IsSecond t n h.last = subst (IsSecond t n) (voted_for table h c u e) (claimed t n c claim) in
    let vote = true_vote t n h c at claim in
    let mark : Mark = mark_or c.mark h.heard in
    let leads = vote_leads t table h.last c.mark h.heard vote.told in
    let answered : (outcome_of h (hold_step table h.last 0 mark)).answer ≡ Now u = rw vote.for at e in
    rw vote.for (outcome_second t n h h.last 0 mark (next_of h.last (spoken_mark table mark h.last.day)) u (leads_on t table n h.last mark sound at leads) answered)

-- a vote for T(n) is not for a hold at another second
pub voted_other : (t : TimelineValue) (table : TableValue) (n : ℕ) (h : HoldValue) (c : Claim) → IsTrueClaim t (n + 1) c → ¬ IsSecond t n h.last → (voted_by table h c).answer ≡ Jump
voted_other t table n h c claim apart =
    elim (cases_Bool ((c.at.day == h.last.day) && (c.at.sod == h.last.sod))) [
      | inl for ↦ absurd (apart (subst (IsSecond t n) (tested c h for) (claimed t n c claim)))
      | inr other ↦ rw other refl
    ]

-- ---- marks that are heard in a month's last minute

abbrev Speaks : UtcSecond → Mark → Type 0
Speaks u mark = (mark ≡ Unspoken) ⊎ ((is_month_end u.day ≡ true) × (86341 ≤ u.sod))

or_speaks : (u : UtcSecond) (mark before : Mark) → Speaks u mark → Speaks u before → Speaks u (mark_or mark before)
or_speaks u Unspoken before a b = b
or_speaks u NoLeap before a b = a
or_speaks u Insert before a b = a
or_speaks u Delete before a b = a

heard_speaks : (h : HoldValue) → HasHeardLate h → Speaks h.last h.heard
heard_speaks h late = elim late [ inl none ↦ inl none | inr end ↦ inr (end.0, omega (arith, end.1)) ]

other_day : (u v : UtcSecond) → v.day ≡ u.day + 1 → ¬ (u.day ≡ v.day)
other_day u v next same = omega (arith, next, same)

moved_late : (u v : UtcSecond) (age : ℕ) (mark from : Mark) → next_of u from ≡ Some v → Speaks u mark → HasHeardLate (hold_after u age mark v)
moved_late u v age mark from e speaks =
    elim (next_follows u v from e) [
      | inl same ↦
          rw (eq-eqb u.day v.day (sym same.0)) (elim speaks [
            | inl none ↦ inl none
            | inr end ↦ inr (subst (λ (d : ℕ). is_month_end d ≡ true) (sym same.0) end.0, omega (arith, same.1, end.1))
          ])
      | inr next ↦ rw (ne_eqb u.day v.day (other_day u v next.0)) (inl refl)
    ]

outcome_late : (h : HoldValue) (u : UtcSecond) (age : ℕ) (mark : Mark) (o : Option UtcSecond) → HasHeardLate h → ((v : UtcSecond) → o ≡ Some v → HasHeardLate (hold_after u age mark v))
    → HasHeardLate (outcome_of h (hold_or_stop u age mark o)).new
outcome_late h u age mark None late moved = late
outcome_late h u age mark (Some v) late moved = moved v refl

stepped_late : (table : TableValue) (h : HoldValue) (age : ℕ) (mark : Mark) → HasHeardLate h → Speaks h.last mark → HasHeardLate (outcome_of h (hold_step table h.last age mark)).new
stepped_late table h age mark late speaks =
    outcome_late h h.last age mark (next_of h.last (spoken_mark table mark h.last.day)) late (λ v e. moved_late h.last v age mark (spoken_mark table mark h.last.day) e speaks)

pub voted_late : (table : TableValue) (h : HoldValue) (c : Claim) → HasHeardLate h → IsMarkedLate c → HasHeardLate (voted_by table h c).new
voted_late table h c late marked =
    elim (cases_Bool ((c.at.day == h.last.day) && (c.at.sod == h.last.sod))) [
      | inl for ↦
          let told : Speaks h.last c.mark = subst (λ (u : UtcSecond). Speaks u c.mark) (tested c h for) marked in
          rw for (stepped_late table h 0 (mark_or c.mark h.heard) late (or_speaks h.last c.mark h.heard told (heard_speaks h late)))
      | inr other ↦ rw other late
    ]

pub alone_late : (table : TableValue) (h : HoldValue) (limit : ℕ) → HasHeardLate h → HasHeardLate (alone_by table h limit).new
alone_late table h limit late =
    elim (cases_lt h.age limit) [
      | inl lt ↦ rw (lt-leb limit h.age lt) (stepped_late table h (h.age + 1) h.heard late (heard_speaks h late))
      | inr ge ↦ rw (le-leb limit h.age ge) late
    ]

started_if_late : (u : UtcSecond) (mark from : Mark) (o : Option UtcSecond) (h : HoldValue) → next_of u from ≡ o → Speaks u mark → hold_or_stop u 0 mark o ≡ Ok h → HasHeardLate h
started_if_late u mark from None h is speaks e = absurd cc
started_if_late u mark from (Some v) h is speaks e =
    let same : hold_after u 0 mark v ≡ h = cc in
    subst HasHeardLate same (moved_late u v 0 mark from is speaks)

pub started_late : (table : TableValue) (c : Claim) (h : HoldValue) → IsMarkedLate c → hold_start table c ≡ Ok h → HasHeardLate h
started_late table c h marked e = started_if_late c.at c.mark (spoken_mark table c.mark c.at.day) (next_of c.at (spoken_mark table c.mark c.at.day)) h refl marked e

-- a true vote makes good whatever was heard before: below second 60 it speaks itself, and after that
-- the day is over
late_honest : (t : TimelineValue) (u : UtcSecond) (mark before : Mark) → mark ≡ true_mark t.leaps u → Speaks u before → u.sod < 86400 → IsHonest t u (mark_or mark before)
late_honest t u Unspoken before told speaks low =
    elim speaks [
      | inl none ↦ inl none
      | inr end ↦
          let true_one : true_mark t.leaps u ≡ truth t u = rw (end.0, le-ltb u.sod 86341 (omega (arith, end.1)), lt-ltb u.sod 86400 low) refl in
          absurd (truth_speaks (leap_of t.leaps u.day) (sym (told ∙ true_one)))
    ]
late_honest t u NoLeap before told speaks low = subst (IsHonest t u) (sym told) (claim_honest t u)
late_honest t u Insert before told speaks low = subst (IsHonest t u) (sym told) (claim_honest t u)
late_honest t u Delete before told speaks low = subst (IsHonest t u) (sym told) (claim_honest t u)

moved_by_vote : (t : TimelineValue) (n : ℕ) (u v : UtcSecond) (mark before from : Mark) → mark ≡ true_mark t.leaps u → Speaks u before → next_of u from ≡ Some v → IsSecond t (n + 1) v
    → IsOnTime t (n + 1) (hold_after u 0 (mark_or mark before) v)
moved_by_vote t n u v mark before from told speaks e there = record {
  last = there;
  heard = elim (next_follows u v from e) [
    | inl same ↦ kept_honest t u v (mark_or mark before) (late_honest t u mark before told speaks same.2)
    | inr next ↦ rw (ne_eqb u.day v.day (other_day u v next.0)) (inl refl)
  ];
}

outcome_on_time : (t : TimelineValue) (n : ℕ) (h : HoldValue) (u : UtcSecond) (mark : Mark) (o : Option UtcSecond) (w : UtcSecond) → ((v : UtcSecond) → o ≡ Some v → IsOnTime t (n + 1) (hold_after u 0 mark v))
    → (outcome_of h (hold_or_stop u 0 mark o)).answer ≡ Now w → IsOnTime t (n + 1) (outcome_of h (hold_or_stop u 0 mark o)).new
outcome_on_time t n h u mark None w moved e = absurd (stop_is_no_now u.day w e)
outcome_on_time t n h u mark (Some v) w moved e = moved v refl

pub voted_on_time : (t : TimelineValue) (table : TableValue) (n : ℕ) (h : HoldValue) (c : Claim) (w : UtcSecond) → IsTimeline t → HasHeardLate h → IsTrueClaim t (n + 1) c
    → (voted_by table h c).answer ≡ Now w → IsOnTime t (n + 1) (voted_by table h c).new
voted_on_time t table n h c w sound late claim e =
    let at : IsSecond t n h.last = subst (IsSecond t n) (voted_for table h c w e) (claimed t n c claim) in
    let vote = true_vote t n h c at claim in
    let mark : Mark = mark_or c.mark h.heard in
    let from : Mark = spoken_mark table mark h.last.day in
    let leads = leads_on t table n h.last mark sound at (vote_leads t table h.last c.mark h.heard vote.told) in
    let answered : (outcome_of h (hold_step table h.last 0 mark)).answer ≡ Now w = rw vote.for at e in
    rw vote.for (outcome_on_time t n h h.last mark (next_of h.last from) w (λ v is. moved_by_vote t n h.last v c.mark h.heard from vote.told (heard_speaks h late) is (leads v is)) answered)

-- ---- where T(n + 1) exists

goes : (t : TimelineValue) (table : TableValue) (n : ℕ) (u v : UtcSecond) (age : ℕ) (mark : Mark) → IsTimeline t → IsSecond t n u → IsSecond t (n + 1) v → Leads t table u mark
    → hold_step table u age mark ≡ Ok (hold_after u age mark v)
goes t table n u v age mark sound at there leads = ap (hold_or_stop u age mark) (leads ∙ heard t n u v sound at there)

pub voted_goes : (t : TimelineValue) (table : TableValue) (n : ℕ) (h : HoldValue) (c : Claim) (v : UtcSecond) → IsTimeline t → IsSecond t n h.last → IsTrueClaim t (n + 1) c → IsSecond t (n + 1) v
    → voted_by table h c ≡ outcome_of h (Ok (hold_after h.last 0 (mark_or c.mark h.heard) v))
voted_goes t table n h c v sound at claim there =
    let vote = true_vote t n h c at claim in
    let leads = vote_leads t table h.last c.mark h.heard vote.told in
    rw vote.for (ap (outcome_of h) (goes t table n h.last v 0 (mark_or c.mark h.heard) sound at there leads))

abbrev guarded : (table : TableValue) (h : HoldValue) → IsSilent table h.last h.heard → IsGuarded table h
guarded table h s = record { end = s.0.end; late = s.0.late; unheard = s.1; above = s.2 }

pub alone_goes : (t : TimelineValue) (table : TableValue) (n limit : ℕ) (h : HoldValue) (v : UtcSecond) → IsTimeline t → IsTrueTable t table → IsOnTime t n h → IsSecond t (n + 1) v → h.age < limit
    → ¬ IsGuarded table h → alone_by table h limit ≡ outcome_of h (Ok (hold_after h.last (h.age + 1) h.heard v))
alone_goes t table n limit h v sound true_table on_time there young unguarded =
    elim (honest_leads t table h.last h.heard true_table on_time.last.from on_time.heard) [
      | inl leads ↦ rw (lt-leb limit h.age young) (ap (outcome_of h) (goes t table n h.last v (h.age + 1) h.heard sound on_time.last there leads))
      | inr silent ↦ absurd (unguarded (guarded table h silent))
    ]

pub started_goes : (t : TimelineValue) (table : TableValue) (n : ℕ) (c : Claim) (v : UtcSecond) → IsTimeline t → IsTrueClaim t (n + 1) c → IsSecond t (n + 1) v
    → hold_start table c ≡ Ok (hold_after c.at 0 c.mark v)
started_goes t table n c v sound claim there = goes t table n c.at v 0 c.mark sound (claimed t n c claim) there (claim_leads t table c claim.mark)

-- ---- what stops a hold

stop_is_no_jump : (day : ℕ) → stop_on day ≡ Jump → ⊥
stop_is_no_jump day e = elim (stop_is day) [ inl a ↦ let both : RangeEnd ≡ Jump = sym a ∙ e in cc | inr b ↦ let both : LeapGuard ≡ Jump = sym b ∙ e in cc ]

outcome_no_jump : (h : HoldValue) (u : UtcSecond) (age : ℕ) (mark : Mark) (o : Option UtcSecond) → (outcome_of h (hold_or_stop u age mark o)).answer ≡ Jump → ⊥
outcome_no_jump h u age mark None e = stop_is_no_jump u.day e
outcome_no_jump h u age mark (Some v) e = cc

pub voted_no_jump : (t : TimelineValue) (table : TableValue) (n : ℕ) (h : HoldValue) (c : Claim) → IsSecond t n h.last → IsTrueClaim t (n + 1) c → ¬ ((voted_by table h c).answer ≡ Jump)
voted_no_jump t table n h c at claim e =
    let vote = true_vote t n h c at claim in
    let mark : Mark = mark_or c.mark h.heard in
    let answered : (outcome_of h (hold_step table h.last 0 mark)).answer ≡ Jump = rw vote.for at e in
    outcome_no_jump h h.last 0 mark (next_of h.last (spoken_mark table mark h.last.day)) answered

-- if T ends, a step does
stops : (t : TimelineValue) (table : TableValue) (n : ℕ) (u : UtcSecond) (age : ℕ) (mark : Mark) → IsTimeline t → IsSecond t n u → EndsAt t n
    → hold_step table u age mark ≡ Err RangeEnd
stops t table n u age mark sound at none =
    let nowhere : next_of u (spoken_mark table mark u.day) ≡ None = end t n u (spoken_mark table mark u.day) sound at none in
    ap (hold_or_stop u age mark) nowhere ∙ ap (λ (stop : Turn). let r : Result HoldValue Turn = Err stop in r) (stop_at_end u.day (ends t n u sound at none))

vote_answer : (t : TimelineValue) (table : TableValue) (n : ℕ) (h : HoldValue) (c : Claim) (v : UtcSecond) → IsTimeline t → IsSecond t n h.last → IsTrueClaim t (n + 1) c → IsSecond t (n + 1) v
    → (voted_by table h c).answer ≡ Now v
vote_answer t table n h c v sound at claim there = ap (λ (o : Outcome). o.answer) (voted_goes t table n h c v sound at claim there)

vote_end : (t : TimelineValue) (table : TableValue) (n : ℕ) (h : HoldValue) (c : Claim) → IsTimeline t → IsSecond t n h.last → IsTrueClaim t (n + 1) c → EndsAt t n → (voted_by table h c).answer ≡ RangeEnd
vote_end t table n h c sound at claim none =
    let vote = true_vote t n h c at claim in
    rw vote.for (ap (λ (r : Result HoldValue Turn). (outcome_of h r).answer) (stops t table n h.last 0 (mark_or c.mark h.heard) sound at none))

pub voted_stops : (t : TimelineValue) (table : TableValue) (n : ℕ) (h : HoldValue) (c : Claim) → IsTimeline t → IsSecond t n h.last → IsTrueClaim t (n + 1) c
    → ¬ ((voted_by table h c).answer ≡ LeapGuard) × (((voted_by table h c).answer ≡ RangeEnd) ↔ EndsAt t n)
voted_stops t table n h c sound at claim = (unguarded, (ends_there, vote_end t table n h c sound at claim))
  where
    ends_there : (voted_by table h c).answer ≡ RangeEnd → EndsAt t n
    ends_there e v there = let both : Now v ≡ RangeEnd = sym (vote_answer t table n h c v sound at claim there) ∙ e in cc

    unguarded : ¬ ((voted_by table h c).answer ≡ LeapGuard)
    unguarded e =
        let none : EndsAt t n = λ v there. let both : Now v ≡ LeapGuard = sym (vote_answer t table n h c v sound at claim there) ∙ e in cc in
        let both : RangeEnd ≡ LeapGuard = sym (vote_end t table n h c sound at claim none) ∙ e in
        cc

abbrev refused : Turn → Result HoldValue Turn
refused stop = Err stop

start_end : (t : TimelineValue) (table : TableValue) (n : ℕ) (c : Claim) → IsTimeline t → IsTrueClaim t (n + 1) c → EndsAt t n → hold_start table c ≡ Err RangeEnd
start_end t table n c sound claim none = stops t table n c.at 0 c.mark sound (claimed t n c claim) none

pub started_stops : (t : TimelineValue) (table : TableValue) (n : ℕ) (c : Claim) → IsTimeline t → IsTrueClaim t (n + 1) c
    → ¬ (hold_start table c ≡ Err LeapGuard) × ((hold_start table c ≡ Err RangeEnd) ↔ EndsAt t n)
started_stops t table n c sound claim = (unguarded, (ends_there, start_end t table n c sound claim))
  where
    ends_there : hold_start table c ≡ Err RangeEnd → EndsAt t n
    ends_there e v there = let both : Ok (hold_after c.at 0 c.mark v) ≡ refused RangeEnd = sym (started_goes t table n c v sound claim there) ∙ e in cc

    unguarded : ¬ (hold_start table c ≡ Err LeapGuard)
    unguarded e =
        let none : EndsAt t n = λ v there. let both : Ok (hold_after c.at 0 c.mark v) ≡ refused LeapGuard = sym (started_goes t table n c v sound claim there) ∙ e in cc in
        let both : refused RangeEnd ≡ Err LeapGuard = sym (start_end t table n c sound claim none) ∙ e in
        cc

-- what a stopped step tells
outcome_guard : (h : HoldValue) (u : UtcSecond) (age : ℕ) (mark : Mark) (o : Option UtcSecond) → (outcome_of h (hold_or_stop u age mark o)).answer ≡ LeapGuard → (o ≡ None) × ¬ (u.day ≡ 36523)
outcome_guard h u age mark None e = (refl, λ last. let both : RangeEnd ≡ LeapGuard = sym (stop_at_end u.day last) ∙ e in cc)
outcome_guard h u age mark (Some v) e = absurd cc

outcome_end : (h : HoldValue) (u : UtcSecond) (age : ℕ) (mark : Mark) (o : Option UtcSecond) → (outcome_of h (hold_or_stop u age mark o)).answer ≡ RangeEnd → (o ≡ None) × (u.day ≡ 36523)
outcome_end h u age mark None e =
    (refl, elim (cases_eq u.day 36523) [ inl last ↦ last | inr ne ↦ let both : LeapGuard ≡ RangeEnd = sym (stop_before u.day ne) ∙ e in absurd cc ])
outcome_end h u age mark (Some v) e = absurd cc

guard_tells : (table : TableValue) (h : HoldValue) (limit : ℕ) → (alone_by table h limit).answer ≡ LeapGuard → (h.age < limit) × IsGuarded table h
guard_tells table h limit e =
    elim (cases_lt h.age limit) [
      | inr ge ↦ let both : Expired ≡ LeapGuard = rw (le-leb limit h.age ge) at e in absurd cc
      | inl lt ↦
          let answered : (outcome_of h (hold_step table h.last (h.age + 1) h.heard)).answer ≡ LeapGuard = rw (lt-leb limit h.age lt) at e in
          let why = outcome_guard h h.last (h.age + 1) h.heard (next_of h.last (spoken_mark table h.heard h.last.day)) answered in
          elim (next_none h.last (spoken_mark table h.heard h.last.day) why.0) [
            | inl last ↦ absurd (why.1 last)
            | inr silent ↦ (lt, guarded table h (silent_from table h.last h.heard silent.0 silent.1))
          ]
    ]

guard_stops : (table : TableValue) (h : HoldValue) (limit : ℕ) → (h.age < limit) × IsGuarded table h → (alone_by table h limit).answer ≡ LeapGuard
guard_stops table h limit g =
    let last : IsLast h.last = record { end = g.1.end; late = g.1.late } in
    let nowhere : next_of h.last (spoken_mark table h.heard h.last.day) ≡ None = silent_waits table h.last h.heard (last, g.1.unheard, g.1.above) in
    let mid : ¬ (h.last.day ≡ 36523) = λ e. both_ways (is_month_end h.last.day) (ap is_month_end e ∙ last_day) g.1.end in
    rw (lt-leb limit h.age g.0) (ap (λ (o : Option UtcSecond). (outcome_of h (hold_or_stop h.last (h.age + 1) h.heard o)).answer) nowhere ∙ stop_before h.last.day mid)

pub alone_guard : (table : TableValue) (h : HoldValue) (limit : ℕ) → ((alone_by table h limit).answer ≡ LeapGuard) ↔ ((h.age < limit) × IsGuarded table h)
alone_guard table h limit = (guard_tells table h limit, guard_stops table h limit)

end_tells : (t : TimelineValue) (table : TableValue) (n limit : ℕ) (h : HoldValue) → IsTimeline t → IsSecond t n h.last → (alone_by table h limit).answer ≡ RangeEnd
    → (h.age < limit) × EndsAt t n
end_tells t table n limit h sound at e =
    elim (cases_lt h.age limit) [
      | inr ge ↦ let both : Expired ≡ RangeEnd = rw (le-leb limit h.age ge) at e in absurd cc
      | inl lt ↦
          let answered : (outcome_of h (hold_step table h.last (h.age + 1) h.heard)).answer ≡ RangeEnd = rw (lt-leb limit h.age lt) at e in
          let why = outcome_end h h.last (h.age + 1) h.heard (next_of h.last (spoken_mark table h.heard h.last.day)) answered in
          (lt, ended t n h.last (spoken_mark table h.heard h.last.day) sound at why.1 why.0)
    ]

end_stops : (t : TimelineValue) (table : TableValue) (n limit : ℕ) (h : HoldValue) → IsTimeline t → IsSecond t n h.last → (h.age < limit) × EndsAt t n
    → (alone_by table h limit).answer ≡ RangeEnd
end_stops t table n limit h sound at g =
    rw (lt-leb limit h.age g.0) (ap (λ (r : Result HoldValue Turn). (outcome_of h r).answer) (stops t table n h.last (h.age + 1) h.heard sound at g.1))

pub alone_end : (t : TimelineValue) (table : TableValue) (n limit : ℕ) (h : HoldValue) → IsTimeline t → IsSecond t n h.last
    → ((alone_by table h limit).answer ≡ RangeEnd) ↔ ((h.age < limit) × EndsAt t n)
alone_end t table n limit h sound at = (end_tells t table n limit h sound at, end_stops t table n limit h sound at)

-- ---- a hold that goes alone for a short time has heard how its month ends

-- if it has heard nothing of its month's end, its last vote was of 23:59:00 or before
abbrev pub HasHeardInTime : HoldValue → Type 0
HasHeardInTime h = h.heard ≡ Unspoken → is_month_end h.last.day ≡ true → h.last.sod ≤ 86341 + h.age

abbrev IsEarly : UtcSecond → ℕ → Mark → Type 0
IsEarly u age mark = mark ≡ Unspoken → is_month_end u.day ≡ true → u.sod < 86400 → u.sod < 86341 + age

moved_in_time : (u v : UtcSecond) (age : ℕ) (mark from : Mark) → next_of u from ≡ Some v → IsEarly u age mark → HasHeardInTime (hold_after u age mark v)
moved_in_time u v age mark from e early =
    elim (next_follows u v from e) [
      | inl same ↦ rw (eq-eqb u.day v.day (sym same.0)) (λ unheard end.
          let low : u.sod < 86341 + age = early unheard (subst (λ (d : ℕ). is_month_end d ≡ true) same.0 end) same.2 in
          omega (arith, same.1, low))
      | inr next ↦ rw (ne_eqb u.day v.day (other_day u v next.0)) (λ unheard end. omega (arith, next.1))
    ]

-- a true vote speaks from 23:59:01 on
vote_early : (t : TimelineValue) (u : UtcSecond) (mark before : Mark) → mark ≡ true_mark t.leaps u → IsEarly u 0 (mark_or mark before)
vote_early t u Unspoken before told unheard end low =
    elim (cases_lt u.sod 86341) [
      | inl lt ↦ omega (arith, lt)
      | inr ge ↦
          let true_one : true_mark t.leaps u ≡ truth t u = rw (end, le-ltb u.sod 86341 ge, lt-ltb u.sod 86400 low) refl in
          absurd (truth_speaks (leap_of t.leaps u.day) (sym (told ∙ true_one)))
    ]
vote_early t u NoLeap before told unheard end low = absurd cc
vote_early t u Insert before told unheard end low = absurd cc
vote_early t u Delete before told unheard end low = absurd cc

outcome_in_time : (h : HoldValue) (u : UtcSecond) (age : ℕ) (mark from : Mark) (o : Option UtcSecond) (w : UtcSecond) → next_of u from ≡ o → IsEarly u age mark
    → (outcome_of h (hold_or_stop u age mark o)).answer ≡ Now w → HasHeardInTime (outcome_of h (hold_or_stop u age mark o)).new
outcome_in_time h u age mark from None w is early e = absurd (stop_is_no_now u.day w e)
outcome_in_time h u age mark from (Some v) w is early e = moved_in_time u v age mark from is early

begun_in_time : (u : UtcSecond) (mark from : Mark) (o : Option UtcSecond) (h : HoldValue) → next_of u from ≡ o → IsEarly u 0 mark → hold_or_stop u 0 mark o ≡ Ok h → HasHeardInTime h
begun_in_time u mark from None h is early e = absurd cc
begun_in_time u mark from (Some v) h is early e =
    let same : hold_after u 0 mark v ≡ h = cc in
    subst HasHeardInTime same (moved_in_time u v 0 mark from is early)

unspoken_or : (mark : Mark) → mark_or mark Unspoken ≡ mark
unspoken_or Unspoken = refl
unspoken_or NoLeap = refl
unspoken_or Insert = refl
unspoken_or Delete = refl

pub started_in_time : (t : TimelineValue) (table : TableValue) (n : ℕ) (c : Claim) (h : HoldValue) → IsTrueClaim t (n + 1) c → hold_start table c ≡ Ok h → HasHeardInTime h
started_in_time t table n c h claim e =
    let from : Mark = spoken_mark table c.mark c.at.day in
    begun_in_time c.at c.mark from (next_of c.at from) h refl (subst (IsEarly c.at 0) (unspoken_or c.mark) (vote_early t c.at c.mark Unspoken claim.mark)) e

pub voted_in_time : (t : TimelineValue) (table : TableValue) (n : ℕ) (h : HoldValue) (c : Claim) (w : UtcSecond) → IsTrueClaim t (n + 1) c → (voted_by table h c).answer ≡ Now w
    → HasHeardInTime (voted_by table h c).new
voted_in_time t table n h c w claim e =
    let for = voted_for table h c w e in
    let told : c.mark ≡ true_mark t.leaps h.last = claim.mark ∙ ap (true_mark t.leaps) for in
    let mark : Mark = mark_or c.mark h.heard in
    let from : Mark = spoken_mark table mark h.last.day in
    let tests = is_for c h for in
    let answered : (outcome_of h (hold_step table h.last 0 mark)).answer ≡ Now w = rw tests at e in
    rw tests (outcome_in_time h h.last 0 mark from (next_of h.last from) w refl (vote_early t h.last c.mark h.heard told) answered)

pub alone_in_time : (table : TableValue) (h : HoldValue) (limit : ℕ) (w : UtcSecond) → HasHeardInTime h → (alone_by table h limit).answer ≡ Now w → HasHeardInTime (alone_by table h limit).new
alone_in_time table h limit w in_time e =
    elim (cases_lt h.age limit) [
      | inr ge ↦ let both : Expired ≡ Now w = rw (le-leb limit h.age ge) at e in absurd cc
      | inl lt ↦
          let from : Mark = spoken_mark table h.heard h.last.day in
          let answered : (outcome_of h (hold_step table h.last (h.age + 1) h.heard)).answer ≡ Now w = rw (lt-leb limit h.age lt) at e in
          let early : IsEarly h.last (h.age + 1) h.heard = λ unheard end low. let most = in_time unheard end in omega (arith, most) in
          rw (lt-leb limit h.age lt) (outcome_in_time h h.last (h.age + 1) h.heard from (next_of h.last from) w refl early answered)
    ]

-- for at most 57 seconds it goes alone to T(n + 1), whatever the table says
pub alone_short : (t : TimelineValue) (table : TableValue) (n limit : ℕ) (h : HoldValue) (u : UtcSecond) → IsTimeline t → limit ≤ 57 → IsOnTime t n h → HasHeardInTime h
    → (alone_by table h limit).answer ≡ Now u → HasComeTo t (n + 1) u (alone_by table h limit).new
alone_short t table n limit h u sound short on_time in_time e =
    elim (cases_lt h.age limit) [
      | inr ge ↦ let both : Expired ≡ Now u = rw (le-leb limit h.age ge) at e in absurd cc
      | inl lt ↦
          let answered : (outcome_of h (hold_step table h.last (h.age + 1) h.heard)).answer ≡ Now u = rw (lt-leb limit h.age lt) at e in
          let told : IsLast h.last → h.heard ≡ truth t h.last = λ last.
          elim on_time.heard [
            | inl none ↦ let most = in_time none last.end in elim last.late [ inl a ↦ absurd (omega (arith, most, a, lt, short)) | inr b ↦ absurd (omega (arith, most, b, lt, short)) ]
            | inr true_one ↦ true_one
          ] in
          let on = leads_on t table n h.last h.heard sound on_time.last (truth_leads t table h.last h.heard told) in
          rw (lt-leb limit h.age lt) (outcome_true t n h h.last (h.age + 1) h.heard (next_of h.last (spoken_mark table h.heard h.last.day)) u on_time.heard on answered)
    ]
