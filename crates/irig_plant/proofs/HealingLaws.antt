-- What is announced rests on the last vote: so a false second has its false majority there, and a
-- reader heals whose ticks are clean again.
use Rattle.std.proofs.Common.{false, ◌≡◌, ℕ, ◌+◌, ◌<◌, ◌≤◌, List, [], ◌∷◌, ◌++◌, All, length, Option, Some, None, refl, sym, ap, subst, ◌∙◌, arith, inl, inr}
use Rattle.std.proofs.lemmas.Bool.{eq-eqb, cases_Bool, cases_lt}
use Rattle.std.proofs.lemmas.List.{append_assoc}
use Rattle.std.proofs.lemmas.List.Elements.{All-contains}
use Rattle.irig_time.specs.declared.second.UtcSecond.{UtcSecond}
use Rattle.irig_time.specs.declared.claim.Claim.{Claim}
use Rattle.irig_time.specs.Timelines.{IsSecond, IsTrueClaim, second_at, truth_at}
use Rattle.irig_time.specs.TimelineFaults.{IsTimeline}
use Rattle.irig_time.specs.Tables.{TableValue}
use Rattle.irig_time.proofs.SecondAt.{second_is, claim_is}
use Rattle.irig_vote.specs.declared.redundancy.Redundancy.{Redundancy}
use Rattle.irig_vote.specs.declared.votes.Tells.{Tells}
use Rattle.irig_vote.specs.Vote.{redundancy_of, vote_of}
use Rattle.irig_vote.proofs.CountLaws.{vote_counts}
use Rattle.irig_reader.specs.declared.rules.ReaderRules.{ReaderRules}
use Rattle.irig_reader.specs.declared.report.Lock.TheVariants as lock
use Rattle.irig_reader.specs.declared.report.Cause.TheVariants as cause
use Rattle.irig_reader.specs.declared.report.Report.{Report}
use Rattle.irig_reader.specs.declared.rule.State.{State}
use Rattle.irig_reader.specs.Rule.{step_of, state_of}
use Rattle.irig_reader.specs.Held.{then_none, AreMarkedLate, IsSince}
use Rattle.irig_reader.specs.History.{told_at_tick, vote_at_tick}
use Rattle.irig_reader.proofs.OneEdge.{IsVotedBy, voted_by_ports, holdover_within, unvoted}
use Rattle.irig_reader.proofs.HeldEdges.{held_since}
use Rattle.irig_reader.proofs.LifeLaws.{held_is_true}
use Rattle.irig_plant.specs.declared.event.Event.{Event}
use Rattle.irig_plant.specs.declared.event.Event.TheVariants.{Tick, Restart}
use Rattle.irig_plant.specs.declared.entry.Entry.{Entry}
use Rattle.irig_plant.specs.Schedule.{Setup, setup_at, ticks_of, votes_of, history_of, entry_of, log_of}
use Rattle.irig_plant.specs.Premises.{IsKeptUpTo}
use Rattle.irig_plant.specs.Edges.{is_restarted, IsRestarted}
use Rattle.irig_plant.specs.Truth.{IsTruthful}
use Rattle.irig_plant.specs.OwnEdge.{IsCleanNow, HasFalseMajority}
use Rattle.irig_plant.specs.Healing.{HasMonthEnds, HasVoteAt, RestsOn, RestsOnAVote, RestsOnItsMajority, IsCleanBetween, IsCleanSince, IsTrueIfClean}
use Rattle.irig_plant.proofs.CourseLaws.{ticks_grow, ticks_now, restarted_by_test}
use Rattle.irig_plant.proofs.LastVotes.{IsVoteBack, vote_back, none_since, unbroken_since, marked_late, IsVotedNow, IsHeldNow, vote_says, none_says}
use Rattle.irig_plant.proofs.OwnEdge.{claim_heard, kept_is_clean, false_second}
use Rattle.irig_plant.proofs.ExactLaws.{log_at}

-- ---- one tick

module _ (s : Setup) (r : ℕ) (ev : List Event) where
  abbrev rules : ReaderRules
  rules = (setup_at s.readers r).rules

  abbrev table : TableValue
  table = (setup_at s.readers r).table

  abbrev state : State
  state = state_of rules table (votes_of s r ev)

  abbrev told : Tells
  told = told_at_tick (history_of s r ev)

  abbrev redundancy : Redundancy
  redundancy = redundancy_of (length s.generators)

  abbrev said : Option Claim → Report
  said vote = (step_of rules table state vote).report

  -- u is announced by the vote so many votes back
  record IsByVote (u : UtcSecond) : Type 0 where
    age : ℕ
    claim : Claim
    votes : List (Option Claim)
    are : vote_at_tick (history_of s r ev) ∷ votes_of s r ev ≡ then_none age (Some claim ∷ votes)
    near : age ≤ rules.holdover
    voted : age ≡ 0 → ((entry_of s r ev).report.lock ≡ lock.Locked) × ((entry_of s r ev).report.cause ≡ cause.Voted)
    held : 0 < age → ((entry_of s r ev).report.lock ≡ lock.Holdover age) × ((entry_of s r ev).report.cause ≡ cause.Held)
    leads : (n : ℕ) → IsTimeline s.times → HasMonthEnds s r → AreMarkedLate votes → n + 1 + age ≡ ticks_of r ev + 1 → IsTrueClaim s.times (n + 1) claim → IsSecond s.times (ticks_of r ev + 1) u

  voted_leads : (c : Claim) (u : UtcSecond) (n : ℕ) → vote_of told redundancy ≡ Some c → IsTimeline s.times → (entry_of s r ev).report.cause ≡ cause.Voted → (entry_of s r ev).report.announce ≡ Some u
      → n + 1 + 0 ≡ ticks_of r ev + 1 → IsTrueClaim s.times (n + 1) c → IsSecond s.times (ticks_of r ev + 1) u
  voted_leads c u n is sound voted says at claim =
      let by : IsVotedBy s.times (ticks_of r ev) told redundancy u = voted_by_ports s.times (ticks_of r ev) rules table state told redundancy u sound voted says in
      let both : ◌≡◌ {A = Option Claim} (Some c) (Some by.claim) = sym is ∙ (vote_counts told redundancy by.claim).1 by.enough in
      let here : n ≡ ticks_of r ev = omega (arith, at) in
      by.leads (ap (truth_at s.times) (sym here) ∙ (claim_is s.times n c).1 claim ∙ both)

  by_vote : (u : UtcSecond) → (entry_of s r ev).report.announce ≡ Some u → IsByVote u
  by_vote u says = of (vote_at_tick (history_of s r ev)) refl
    where
      of : (vote : Option Claim) → vote_at_tick (history_of s r ev) ≡ vote → IsByVote u
      of (Some c) is =
          let now : IsVotedNow (said (Some c)) = vote_says rules table state c u (subst (λ (v : Option Claim). (said v).announce ≡ Some u) is says) in
          let voted : IsVotedNow (entry_of s r ev).report = subst (λ (v : Option Claim). IsVotedNow (said v)) (sym is) now in
          record {
            age = 0;
            claim = c;
            votes = votes_of s r ev;
            are = ap (λ (v : Option Claim). v ∷ votes_of s r ev) is;
            near = omega arith;
            voted = λ _. (voted.lock, voted.cause);
            held = λ some. absurd (omega (arith, some));
            leads = λ n sound knows marked at claim. voted_leads c u n is sound voted.cause says at claim;
          }
      of None is =
          let silent : (said None).announce ≡ Some u = subst (λ (v : Option Claim). (said v).announce ≡ Some u) is says in
          let now : IsHeldNow (said None) = none_says rules table state u silent in
          let since : IsSince (None ∷ votes_of s r ev) now.age = held_since rules table None (votes_of s r ev) now.age now.lock in
          let bounds = holdover_within rules table state None now.age now.lock in
          record {
            age = now.age;
            claim = since.claim;
            votes = since.earlier;
            are = ap (λ (v : Option Claim). v ∷ votes_of s r ev) is ∙ since.are;
            near = bounds.1;
            voted = λ none. absurd (omega (arith, none, bounds.0));
            held = λ some. (ap (λ (v : Option Claim). (said v).lock) is ∙ now.lock, ap (λ (v : Option Claim). (said v).cause) is ∙ now.cause);
            leads = λ n sound knows marked at claim.
                subst (λ (m : ℕ). IsSecond s.times m u) at
                (held_is_true s.times rules table sound knows n now.age None (votes_of s r ev) since.earlier since.claim u marked claim since.are (omega (arith, bounds.0)) silent);
          }

-- ---- entries

-- what comes before the next tick is one of the events before
split_within : (r : ℕ) (x : Event) (later ev l e : List Event) → later ++ (Tick r ∷ ev) ≡ l ++ (x ∷ e) → ticks_of r e ≤ ticks_of r ev → (m : List Event) × (Tick r ∷ ev ≡ m ++ (x ∷ e))
split_within r x [] ev l e is low = (l, is)
split_within r x (y ∷ later) ev [] e is low =
    let rest : later ++ (Tick r ∷ ev) ≡ e = cc in
    absurd (omega (arith, low, ap (ticks_of r) rest, ticks_grow r later (Tick r ∷ ev), ticks_now r ev))
split_within r x (y ∷ later) ev (z ∷ l) e is low =
    let rest : later ++ (Tick r ∷ ev) ≡ l ++ (x ∷ e) = cc in
    split_within r x later ev l e rest low

-- the tick of the vote on which an entry rests
pub record IsTraced (s : Setup) (ev : List Event) (e : Entry) (u : UtcSecond) : Type 0 where
  pub later : List Event
  pub earlier : List Event
  pub tick : ev ≡ later ++ (Tick e.reader ∷ earlier)
  pub claim : Claim
  pub vote : vote_at_tick (history_of s e.reader earlier) ≡ Some claim
  pub rests : RestsOn s ev e (ticks_of e.reader earlier + 1)
  pub leads : IsTimeline s.times → HasMonthEnds s e.reader → IsTrueClaim s.times (ticks_of e.reader earlier + 1) claim → second_at s.times e.edge ≡ Some u

none_later : (s : Setup) (all : List Event) (r age k j : ℕ) (later ev : List Event) (c : Claim) (votes : List (Option Claim)) → all ≡ later ++ (Tick r ∷ ev) → votes_of s r (Tick r ∷ ev) ≡ then_none age (Some c ∷ votes)
    → k + age ≡ ticks_of r ev + 1 → HasVoteAt s r j all → j ≤ ticks_of r ev + 1 → j ≤ k
none_later s all r age k j later ev c votes is are back h low =
    let part = split_within r (Tick r) later ev h.later h.earlier (sym is ∙ h.tick) (omega (arith, low, h.edge)) in
    let since : ticks_of r h.earlier + 1 + age ≤ ticks_of r (part.0 ++ (Tick r ∷ h.earlier)) =
    none_since s r age part.0 h.earlier c h.claim votes (subst (λ (es : List Event). votes_of s r es ≡ then_none age (Some c ∷ votes)) part.1 are) h.vote in
    omega (arith, since, ap (ticks_of r) part.1, ticks_now r ev, back, h.edge)

none_restarted : (s : Setup) (all : List Event) (r age k i : ℕ) (later ev : List Event) (c : Claim) (votes : List (Option Claim)) → all ≡ later ++ (Tick r ∷ ev) → votes_of s r (Tick r ∷ ev) ≡ then_none age (Some c ∷ votes)
    → k + age ≡ ticks_of r ev + 1 → k ≤ i → i < ticks_of r ev + 1 → is_restarted r all i ≡ false
none_restarted s all r age k i later ev c votes is are back from low =
    elim (cases_Bool (is_restarted r all i)) [
      | inl broken ↦
          let h : IsRestarted r all i = restarted_by_test r all i broken in
          let part = split_within r (Restart r) later ev h.later h.earlier (sym is ∙ h.restart) (omega (arith, low, h.edge)) in
          let since : ticks_of r h.earlier + age < ticks_of r (part.0 ++ (Restart r ∷ h.earlier)) =
          unbroken_since s r age part.0 h.earlier c votes (subst (λ (es : List Event). votes_of s r es ≡ then_none age (Some c ∷ votes)) part.1 are) in
          absurd (omega (arith, since, ap (ticks_of r) part.1, ticks_now r ev, back, from, h.edge))
      | inr unbroken ↦ unbroken
    ]

traced_by : (s : Setup) (all : List Event) (r : ℕ) (later ev : List Event) → all ≡ later ++ (Tick r ∷ ev) → (u : UtcSecond) (by : IsByVote s r ev u) → votes_of s r (Tick r ∷ ev) ≡ then_none by.age (Some by.claim ∷ by.votes)
    → IsVoteBack s r by.age (Tick r ∷ ev) by.claim by.votes → IsTraced s all (entry_of s r ev) u
traced_by s all r later ev is u by are at =
    let tick : all ≡ (later ++ at.later) ++ (Tick r ∷ at.earlier) = is ∙ ap (λ (es : List Event). later ++ es) at.tick ∙ sym (append_assoc later at.later (Tick r ∷ at.earlier)) in
    let back : ticks_of r at.earlier + 1 + by.age ≡ ticks_of r ev + 1 = omega (arith, at.back, ticks_now r ev) in
    record {
      later = later ++ at.later;
      earlier = at.earlier;
      tick = tick;
      claim = by.claim;
      vote = at.vote;
      rests = record {
        vote = record { later = later ++ at.later; earlier = at.earlier; tick = tick; edge = refl; claim = by.claim; vote = at.vote };
        last = λ j h low. none_later s all r by.age (ticks_of r at.earlier + 1) j later ev by.claim by.votes is are back h low;
        unbroken = λ i from low. none_restarted s all r by.age (ticks_of r at.earlier + 1) i later ev by.claim by.votes is are back from low;
        age = by.age;
        back = back;
        near = by.near;
        voted = by.voted;
        held = by.held;
      };
      leads = λ sound knows claim.
          (second_is s.times (ticks_of r ev + 1) u).1 (by.leads (ticks_of r at.earlier) sound knows (subst AreMarkedLate at.before (marked_late s r at.earlier)) back claim);
    }

traced : (s : Setup) (all : List Event) (r : ℕ) (later ev : List Event) → all ≡ later ++ (Tick r ∷ ev) → (u : UtcSecond) → (entry_of s r ev).report.announce ≡ Some u → IsTraced s all (entry_of s r ev) u
traced s all r later ev is u says = from (by_vote s r ev u says)
  where
    from : IsByVote s r ev u → IsTraced s all (entry_of s r ev) u
    from by =
        let are : votes_of s r (Tick r ∷ ev) ≡ then_none by.age (Some by.claim ∷ by.votes) = rw (eq-eqb r r refl) by.are in
        traced_by s all r later ev is u by are (vote_back s r by.age (Tick r ∷ ev) by.claim by.votes are)

pub record HasTrace (s : Setup) (ev : List Event) (e : Entry) : Type 0 where
  pub trace : (u : UtcSecond) → e.report.announce ≡ Some u → IsTraced s ev e u

pub log_traced : (s : Setup) (ev : List Event) → All (HasTrace s ev) (log_of s ev)
log_traced s ev = log_at s ev (HasTrace s ev) (λ r later earlier is. record { trace = λ u says. traced s ev r later earlier is u says }) [] ev refl

-- ---- false seconds

pub log_rests : (s : Setup) (ev : List Event) → All (RestsOnAVote s ev) (log_of s ev)
log_rests s ev = λ i d low. record {
  rests = λ u says. let t = (log_traced s ev i d low).trace u says in (ticks_of _ t.earlier + 1, t.rests);
}

pub false_majority : (s : Setup) (ev : List Event) (e : Entry) → IsTimeline s.times → HasTrace s ev e → RestsOnItsMajority s ev e
false_majority s ev e sound has = record { false_second = of }
  where
    of : HasMonthEnds s e.reader → ¬ IsTruthful s.times e → (k : ℕ) × RestsOn s ev e k × HasFalseMajority s e.reader k ev
    of knows untrue =
        let says = false_second s.times e untrue in
        let t : IsTraced s ev e says.0 = has.trace says.0 says.1 in (
          ticks_of e.reader t.earlier + 1,
          t.rests,
          record {
            later = t.later;
            earlier = t.earlier;
            tick = t.tick;
            edge = refl;
            claim = t.claim;
            ports = (claim_heard s e.reader t.earlier t.claim).0 ((vote_counts (told_at_tick (history_of s e.reader t.earlier)) (redundancy_of (length s.generators)) t.claim).0 t.vote);
            untrue = λ is. says.2 (t.leads sound knows is);
          },
        )

pub log_rests_on_majorities : (s : Setup) (ev : List Event) → IsTimeline s.times → All (RestsOnItsMajority s ev) (log_of s ev)
log_rests_on_majorities s ev sound = λ i d low. false_majority s ev _ sound (log_traced s ev i d low)

-- ---- healing

-- an entry is truthful if the vote on which it rests was of a clean tick
by_clean : (s : Setup) (ev : List Event) (e : Entry) → IsTimeline s.times → HasMonthEnds s e.reader → HasTrace s ev e
    → ((k : ℕ) → RestsOn s ev e k → (later earlier : List Event) → ev ≡ later ++ (Tick e.reader ∷ earlier) → k ≡ ticks_of e.reader earlier + 1 → IsCleanNow s e.reader earlier) → IsTruthful s.times e
by_clean s ev e sound knows has clean = record { second = at }
  where
    at : (u : UtcSecond) → e.report.announce ≡ Some u → second_at s.times e.edge ≡ Some u
    at u says =
        let t : IsTraced s ev e u = has.trace u says in
        let n : ℕ = ticks_of e.reader t.earlier in
        let now : IsCleanNow s e.reader t.earlier = clean (n + 1) t.rests t.later t.earlier t.tick refl in
        let told = (vote_counts (told_at_tick (history_of s e.reader t.earlier)) (redundancy_of (length s.generators)) t.claim).0 t.vote in
        t.leads sound knows ((claim_is s.times n t.claim).0 (now.no_other t.claim told))

module _ (s : Setup) (m : ℕ) (ev : List Event) (e : Entry) (h : IsCleanSince s m ev e) where
  trace : HasTrace s ev e
  trace = All-contains (HasTrace s ev) (log_of s ev) e (log_traced s ev) h.logged

  -- if it rests on a vote after the m-th tick
  rests_later : ((k : ℕ) → RestsOn s ev e k → m < k) → IsTruthful s.times e
  rests_later late =
      by_clean s ev e h.timeline h.month_ends trace
      (λ k rests later earlier is at. h.clean.ticks later earlier is (omega (arith, late k rests, at)) (omega (arith, rests.back, at)))

  pub healed : (k : ℕ) → HasVoteAt s e.reader k ev → m < k → k ≤ e.edge → IsTruthful s.times e
  healed k vote after to = rests_later (λ j rests. omega (arith, rests.last k vote to, after))

  pub over : m + (setup_at s.readers e.reader).rules.holdover < e.edge → IsTruthful s.times e
  over far = rests_later (λ j rests. omega (arith, rests.back, rests.near, far))

  pub held : ¬ IsTruthful s.times e → (e.report.cause ≡ cause.Held) × (e.edge ≤ m + (setup_at s.readers e.reader).rules.holdover)
  held untrue =
      let says = false_second s.times e untrue in
      let t : IsTraced s ev e says.0 = trace.trace says.0 says.1 in
      let k : ℕ = ticks_of e.reader t.earlier + 1 in
      elim (cases_lt m k) [
        | inl later ↦ absurd (untrue (healed k t.rests.vote later (omega (arith, t.rests.back))))
        | inr before ↦ ((t.rests.held (omega (arith, t.rests.back, before, h.after))).1, omega (arith, t.rests.back, t.rests.near, before))
      ]

-- ---- clean ticks alone

pub log_true_if_clean : (s : Setup) (ev : List Event) → IsTimeline s.times → All (IsTrueIfClean s ev) (log_of s ev)
log_true_if_clean s ev sound = λ i d low. record {
  second = λ knows clean.
      by_clean s ev _ sound knows (log_traced s ev i d low)
      (λ k rests later earlier is at. clean.ticks later earlier is (omega arith) (omega (arith, rests.back, at)));
}

pub kept_between : (s : Setup) (r n : ℕ) (ev : List Event) → IsKeptUpTo s r n ev → IsCleanBetween s r 0 n ev
kept_between s r n ev kept = record { ticks = λ later earlier is from low. kept_is_clean s r earlier (kept.ticks later earlier is low) }

-- ---- an entry by a vote has one

pub record HasItsVote (s : Setup) (ev : List Event) (e : Entry) : Type 0 where
  pub vote : e.report.cause ≡ cause.Voted → HasVoteAt s e.reader e.edge ev

pub log_has_votes : (s : Setup) (ev : List Event) → All (HasItsVote s ev) (log_of s ev)
log_has_votes s ev = log_at s ev (HasItsVote s ev) each [] ev refl
  where
    each : (r : ℕ) (later earlier : List Event) → ev ≡ later ++ (Tick r ∷ earlier) → HasItsVote s ev (entry_of s r earlier)
    each r later earlier is = record { vote = of (vote_at_tick (history_of s r earlier)) refl }
      where
        of : (vote : Option Claim) → vote_at_tick (history_of s r earlier) ≡ vote → (entry_of s r earlier).report.cause ≡ cause.Voted → HasVoteAt s r (ticks_of r earlier + 1) ev
        of None none voted = absurd (unvoted (rules s r earlier) (table s r earlier) (state s r earlier) (subst (λ (v : Option Claim). (said s r earlier v).cause ≡ cause.Voted) none voted))
        of (Some c) vote voted = record { later = later; earlier = earlier; tick = is; edge = refl; claim = c; vote = vote }
