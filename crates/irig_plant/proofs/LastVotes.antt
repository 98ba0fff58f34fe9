-- Where the last vote of a reader lies among its events, and what is announced by it.
use Rattle.std.proofs.Common.{length, ◌<◌, ◌≡◌, ◌==◌, ℕ, zero, suc, ◌+◌, ◌≤◌, List, [], ◌∷◌, ◌++◌, Option, Some, None, refl, sym, ap, ◌∙◌, arith, inl, inr, eqb-true}
use Rattle.std.proofs.lemmas.Bool.{cases_Bool, eq-eqb}
use Rattle.irig_time.specs.declared.second.UtcSecond.{UtcSecond}
use Rattle.irig_time.specs.declared.claim.Claim.{Claim}
use Rattle.irig_time.specs.Tables.{TableValue}
use Rattle.irig_hold.specs.Steps.{HoldValue, voted_by, alone_by}
use Rattle.irig_reader.specs.declared.rules.ReaderRules.{ReaderRules}
use Rattle.irig_reader.specs.declared.report.Lock.TheVariants as lock
use Rattle.irig_reader.specs.declared.report.Cause.TheVariants as cause
use Rattle.irig_reader.specs.declared.report.Report.{Report}
use Rattle.irig_reader.specs.declared.rule.State.{State}
use Rattle.irig_reader.specs.declared.rule.Step.{Step}
use Rattle.irig_reader.specs.Rule.{count_step, step_of}
use Rattle.irig_reader.specs.Held.{then_none, AreMarkedLate}
use Rattle.irig_reader.specs.History.{vote_at_tick}
use Rattle.irig_reader.proofs.StepCases.{count_cases, vote_cases, none_cases}
use Rattle.irig_reader.proofs.MarkedVotes.{votes_marked, none_marked}
use Rattle.irig_plant.specs.declared.event.Event.{Event}
use Rattle.irig_plant.specs.declared.event.Event.TheVariants.{Tick, Restart}
use Rattle.irig_plant.specs.Schedule.{Setup, ticks_of, votes_of, history_of}
use Rattle.irig_plant.proofs.CourseLaws.{ticks_grow, ticks_now}

-- ---- votes and ticks

-- the vote so many votes back is that of this tick of r, and these came before it
pub record IsVoteBack (s : Setup) (r age : ℕ) (ev : List Event) (c : Claim) (votes : List (Option Claim)) : Type 0 where
  pub later : List Event
  pub earlier : List Event
  pub tick : ev ≡ later ++ (Tick r ∷ earlier)
  pub back : ticks_of r earlier + 1 + age ≡ ticks_of r ev
  pub vote : vote_at_tick (history_of s r earlier) ≡ Some c
  pub before : votes_of s r earlier ≡ votes

none_empty : (age : ℕ) (c : Claim) (votes : List (Option Claim)) → [] ≡ then_none age (Some c ∷ votes) → ⊥
none_empty zero c votes is = cc
none_empty (suc age) c votes is = cc

one_later : (s : Setup) (r age more : ℕ) (e : Event) (ev : List Event) (c : Claim) (votes : List (Option Claim)) → ticks_of r (e ∷ ev) + age ≡ ticks_of r ev + more → IsVoteBack s r age ev c votes → IsVoteBack s r more (e ∷ ev) c votes
one_later s r age more e ev c votes step h = record {
  later = e ∷ h.later;
  earlier = h.earlier;
  tick = ap (λ es. e ∷ es) h.tick;
  back = omega (arith, step, h.back);
  vote = h.vote;
  before = h.before;
}

ticked_back : (s : Setup) (r x age : ℕ) (ev : List Event) (c : Claim) (votes : List (Option Claim)) → x ≡ r → ((a : ℕ) → votes_of s r ev ≡ then_none a (Some c ∷ votes) → IsVoteBack s r a ev c votes)
    → vote_at_tick (history_of s r ev) ∷ votes_of s r ev ≡ then_none age (Some c ∷ votes) → IsVoteBack s r age (Tick x ∷ ev) c votes
ticked_back s r x zero ev c votes same rest is =
    let vote : vote_at_tick (history_of s r ev) ≡ Some c = cc in
    let before : votes_of s r ev ≡ votes = cc in
    rw same (record { later = []; earlier = ev; tick = refl; back = omega (arith, ticks_now r ev); vote = vote; before = before })
ticked_back s r x (suc age) ev c votes same rest is =
    let before : votes_of s r ev ≡ then_none age (Some c ∷ votes) = cc in
    rw same (one_later s r age (suc age) (Tick r) ev c votes (omega (arith, ticks_now r ev)) (rest age before))

pub vote_back : (s : Setup) (r age : ℕ) (ev : List Event) (c : Claim) (votes : List (Option Claim)) → votes_of s r ev ≡ then_none age (Some c ∷ votes) → IsVoteBack s r age ev c votes
vote_back s r age [] c votes is = absurd (none_empty age c votes is)
vote_back s r age (Tick x ∷ ev) c votes is =
    elim (cases_Bool (x == r)) [
      | inl here ↦ ticked_back s r x age ev c votes (eqb-true x r here) (λ a rest. vote_back s r a ev c votes rest) (rw here at is)
      | inr other ↦ one_later s r age age (Tick x) ev c votes (rw other refl) (vote_back s r age ev c votes (rw other at is))
    ]
vote_back s r age (Restart x ∷ ev) c votes is =
    elim (cases_Bool (x == r)) [
      | inl here ↦ absurd (none_empty age c votes (rw here at is))
      | inr other ↦ one_later s r age age (Restart x) ev c votes refl (vote_back s r age ev c votes (rw other at is))
    ]
vote_back s r age (e ∷ ev) c votes is = one_later s r age age e ev c votes refl (vote_back s r age ev c votes is)

-- no vote came since
no_vote : (s : Setup) (r age : ℕ) (ev : List Event) (c d : Claim) (votes : List (Option Claim)) → vote_at_tick (history_of s r ev) ∷ votes_of s r ev ≡ then_none age (Some c ∷ votes) → vote_at_tick (history_of s r ev) ≡ Some d → age ≡ 0
no_vote s r zero ev c d votes is vote = refl
no_vote s r (suc age) ev c d votes is vote =
    let none : vote_at_tick (history_of s r ev) ≡ None = cc in
    let clash : ◌≡◌ {A = Option Claim} None (Some d) = sym none ∙ vote in
    absurd cc

ticked_since : (s : Setup) (r age before : ℕ) (ev : List Event) (c : Claim) (votes : List (Option Claim)) → before ≤ ticks_of r ev → ((a : ℕ) → votes_of s r ev ≡ then_none a (Some c ∷ votes) → before + a ≤ ticks_of r ev)
    → vote_at_tick (history_of s r ev) ∷ votes_of s r ev ≡ then_none age (Some c ∷ votes) → before + age ≤ ticks_of r ev + 1
ticked_since s r zero before ev c votes low rest is = omega (arith, low)
ticked_since s r (suc age) before ev c votes low rest is =
    let some : votes_of s r ev ≡ then_none age (Some c ∷ votes) = cc in
    omega (arith, rest age some)

pub none_since : (s : Setup) (r age : ℕ) (later ev : List Event) (c d : Claim) (votes : List (Option Claim)) → votes_of s r (later ++ (Tick r ∷ ev)) ≡ then_none age (Some c ∷ votes) → vote_at_tick (history_of s r ev) ≡ Some d
    → ticks_of r ev + 1 + age ≤ ticks_of r (later ++ (Tick r ∷ ev))
none_since s r age [] ev c d votes is vote =
    let now : vote_at_tick (history_of s r ev) ∷ votes_of s r ev ≡ then_none age (Some c ∷ votes) = rw (eq-eqb r r refl) at is in
    omega (arith, no_vote s r age ev c d votes now vote, ticks_now r ev)
none_since s r age (Tick x ∷ later) ev c d votes is vote =
    elim (cases_Bool (x == r)) [
      | inl here ↦
          let low : ticks_of r ev + 1 ≤ ticks_of r (later ++ (Tick r ∷ ev)) = omega (arith, ticks_grow r later (Tick r ∷ ev), ticks_now r ev) in
          rw here (ticked_since s r age (ticks_of r ev + 1) (later ++ (Tick r ∷ ev)) c votes low (λ a rest. none_since s r a later ev c d votes rest vote) (rw here at is))
      | inr other ↦ rw other (none_since s r age later ev c d votes (rw other at is) vote)
    ]
none_since s r age (Restart x ∷ later) ev c d votes is vote =
    elim (cases_Bool (x == r)) [
      | inl here ↦ absurd (none_empty age c votes (rw here at is))
      | inr other ↦ none_since s r age later ev c d votes (rw other at is) vote
    ]
none_since s r age (e ∷ later) ev c d votes is vote = none_since s r age later ev c d votes is vote

-- nor a restart: there are no more votes than ticks after one
after_restart : (s : Setup) (r : ℕ) (later ev : List Event) → length (votes_of s r (later ++ (Restart r ∷ ev))) + ticks_of r ev ≤ ticks_of r (later ++ (Restart r ∷ ev))
after_restart s r [] ev = rw (eq-eqb r r refl) (omega arith)
after_restart s r (Tick x ∷ later) ev =
    elim (cases_Bool (x == r)) [
      | inl here ↦ rw here (omega (arith, after_restart s r later ev))
      | inr other ↦ rw other (after_restart s r later ev)
    ]
after_restart s r (Restart x ∷ later) ev =
    elim (cases_Bool (x == r)) [
      | inl here ↦ rw here (omega (arith, ticks_grow r later (Restart r ∷ ev)))
      | inr other ↦ rw other (after_restart s r later ev)
    ]
after_restart s r (e ∷ later) ev = after_restart s r later ev

so_long : (age : ℕ) (c : Claim) (votes : List (Option Claim)) → age < length (then_none age (Some c ∷ votes))
so_long zero c votes = omega arith
so_long (suc age) c votes = omega (arith, so_long age c votes)

pub unbroken_since : (s : Setup) (r age : ℕ) (later ev : List Event) (c : Claim) (votes : List (Option Claim)) → votes_of s r (later ++ (Restart r ∷ ev)) ≡ then_none age (Some c ∷ votes) → ticks_of r ev + age < ticks_of r (later ++ (Restart r ∷ ev))
unbroken_since s r age later ev c votes is = omega (arith, after_restart s r later ev, ap (λ (vs : List (Option Claim)). length vs) is, so_long age c votes)

-- votes speak of a leap in a month's last minute alone
pub marked_late : (s : Setup) (r : ℕ) (ev : List Event) → AreMarkedLate (votes_of s r ev)
marked_late s r [] = none_marked
marked_late s r (Tick x ∷ ev) =
    elim (cases_Bool (x == r)) [
      | inl here ↦ rw here (votes_marked (history_of s r ev) (marked_late s r ev))
      | inr other ↦ rw other (marked_late s r ev)
    ]
marked_late s r (Restart x ∷ ev) =
    elim (cases_Bool (x == r)) [
      | inl here ↦ rw here none_marked
      | inr other ↦ rw other (marked_late s r ev)
    ]
marked_late s r (e ∷ ev) = marked_late s r ev

-- ---- by a vote, or held

-- what announces, announces by the vote of its edge, or holds over
pub record IsVotedNow (said : Report) : Type 0 where
  pub lock : said.lock ≡ lock.Locked
  pub cause : said.cause ≡ cause.Voted

pub record IsHeldNow (said : Report) : Type 0 where
  pub age : ℕ
  pub lock : said.lock ≡ lock.Holdover age
  pub cause : said.cause ≡ cause.Held

abbrev IfSays : (Report → Type 0) → Step → Type 0
IfSays P step = (u : UtcSecond) → step.report.announce ≡ Some u → P step.report

count_says : (rules : ReaderRules) (h : HoldValue) (count : ℕ) → IfSays IsVotedNow (count_step rules h count)
count_says rules h count = count_cases (IfSays IsVotedNow) rules h count (λ enough u e. record { lock = refl; cause = refl }) (λ more u e. absurd cc)

pub vote_says : (rules : ReaderRules) (table : TableValue) (state : State) (c : Claim) → IfSays IsVotedNow (step_of rules table state (Some c))
vote_says rules table state c =
    vote_cases (IfSays IsVotedNow) rules table state c (λ h e. count_says rules h 1) (λ stop u e. absurd cc) (λ h count u is e. count_says rules (voted_by table h c).new (count + 1)) (λ h u is now v e. record { lock = refl; cause = refl })

pub none_says : (rules : ReaderRules) (table : TableValue) (state : State) → IfSays IsHeldNow (step_of rules table state None)
none_says rules table state =
    none_cases (IfSays IsHeldNow) rules table state (λ c u e. absurd cc) (λ h u is now v e. record { age = (alone_by table h rules.holdover).new.age; lock = refl; cause = refl })
