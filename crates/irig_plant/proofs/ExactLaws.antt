-- When entries announce, with what lock, why they are silent, and that the guard's cause is told at
-- guard edges alone.
use Rattle.std.specs.Prelude.{is_some, All, ◌↔◌}
use Rattle.std.specs.List.{Contains}
use Rattle.std.proofs.Common.{◌≡◌, ℕ, ◌+◌, ◌-◌, ◌<◌, ◌≤◌, Bool, true, false, List, [], ◌∷◌, ◌++◌, Option, Some, None, inl, inr, refl, sym, ap, subst, ◌∙◌, arith}
use Rattle.std.proofs.lemmas.Bool.{false≢true}
use Rattle.std.proofs.lemmas.List.{append_assoc}
use Rattle.std.proofs.lemmas.List.Elements.{All-nil, All-push, All-contains, Contains-append_left, Contains-push}
use Rattle.irig_time.specs.declared.second.UtcSecond.{UtcSecond}
use Rattle.irig_time.specs.Timelines.{second_at, IsSecond}
use Rattle.irig_time.specs.TimelineFaults.{IsTimeline}
use Rattle.irig_time.proofs.SecondAt.{second_is}
use Rattle.irig_hold.specs.Truth.{IsTrueTable}
use Rattle.irig_reader.specs.declared.report.Lock.{Lock}
use Rattle.irig_reader.specs.declared.report.Cause.{Cause}
use Rattle.irig_reader.specs.declared.report.Cause.TheVariants as cause
use Rattle.irig_reader.specs.declared.report.Report.{Report}
use Rattle.irig_reader.specs.declared.rule.Step.{Step}
use Rattle.irig_reader.specs.Rule.{stop_step}
use Rattle.irig_plant.specs.declared.event.Event.{Event}
use Rattle.irig_plant.specs.declared.event.Event.TheVariants.{Tick}
use Rattle.irig_plant.specs.declared.entry.Entry.{Entry}
use Rattle.irig_plant.specs.Schedule.{Setup, setup_at, ticks_of, entry_of, log_of}
use Rattle.irig_plant.specs.Premises.{IsKeptUpTo, HasPremises}
use Rattle.irig_plant.specs.Truth.{GivesNoFalseAlarm}
use Rattle.irig_plant.specs.Edges.{VotedEdges, voted_edges_of, CanLock, IsGuard, IsHeld, IsLastVote}
use Rattle.irig_plant.specs.Exactly.{announcement, silence, IsServed, AnnouncesWhenHeld, IsAnnouncement, HasItsLock, WasHeld, NoneWithin, SomeWithin, IsSilence, HasItsCause}
use Rattle.irig_plant.specs.Headline.{KeepsHeadline}
use Rattle.irig_plant.proofs.Headline.{log_is_true, IsCalm, log_keeps_calm}
use Rattle.irig_time.proofs.NoGaps.{second_before}
use Rattle.irig_plant.proofs.CourseLaws.{HasTick, has_tick}
use Rattle.irig_plant.proofs.TickLaws.{Said, by_vote, by_hold, by_count, by_age, by_guard, by_silence, is_over, Ticked, live, over}
use Rattle.irig_plant.proofs.Standing.{can_lock, ticked_at}

-- ---- from what is said

said_some : (r : Report) (v : UtcSecond) (l : Lock) (c : Cause) → r ≡ announcement v l c → is_some r.announce ≡ true
said_some r v l c e = ap (λ (z : Report). is_some z.announce) e

said_none : (r : Report) (l : Lock) (c : Cause) → r ≡ silence l c → is_some r.announce ≡ false
said_none r l c e = ap (λ (z : Report). is_some z.announce) e

clash : {A : Type 0} (b : Bool) → b ≡ true → b ≡ false → A
clash b e f = absurd (false≢true (sym f ∙ e))

cause_is : (r : Report) (u : Option UtcSecond) (l : Lock) (c d : Cause) → r ≡ record { announce = u; lock = l; cause = c } → r.cause ≡ d → c ≡ d
cause_is r u l c d e f = sym (ap (λ (z : Report). z.cause) e) ∙ f

module _ (x : VotedEdges) (n : ℕ) (v : UtcSecond) (r : Report) where
  when_held : Said x n v r → (is_some r.announce ≡ true) ↔ IsHeld x (n + 1)
  when_held (by_vote held voted is) = (λ _. held, λ _. said_some _ _ _ _ is)
  when_held (by_hold age held unvoted last is) = (λ _. held, λ _. said_some _ _ _ _ is)
  when_held (by_count count unheld voted run is) = (λ s. clash _ s (said_none _ _ _ is), λ h. absurd (unheld h))
  when_held (by_age age unheld unvoted before unbroken last old is) = (λ s. clash _ s (said_none _ _ _ is), λ h. absurd (unheld h))
  when_held (by_guard age unheld unvoted before unbroken last young guard is) = (λ s. clash _ s (said_none _ _ _ is), λ h. absurd (unheld h))
  when_held (by_silence unheld unvoted before is) = (λ s. clash _ s (said_none _ _ _ is), λ h. absurd (unheld h))

  lock_of : is_some r.announce ≡ true → Said x n v r → IsAnnouncement x (n + 1) v r
  lock_of h (by_vote held voted is) = record { voted = λ _. is; held = λ q. clash _ voted q }
  lock_of h (by_hold age held unvoted last is) = record { voted = λ q. clash _ q unvoted; held = λ _. record { age = age; last = last; report = is } }
  lock_of h (by_count count unheld voted run is) = clash _ h (said_none _ _ _ is)
  lock_of h (by_age age unheld unvoted before unbroken last old is) = clash _ h (said_none _ _ _ is)
  lock_of h (by_guard age unheld unvoted before unbroken last young guard is) = clash _ h (said_none _ _ _ is)
  lock_of h (by_silence unheld unvoted before is) = clash _ h (said_none _ _ _ is)

  guard_of : r.cause ≡ cause.LeapGuard → Said x n v r → IsGuard x (n + 1)
  guard_of h (by_vote held voted is) = let q : cause.Voted ≡ cause.LeapGuard = cause_is r _ _ _ _ is h in absurd cc
  guard_of h (by_hold age held unvoted last is) = let q : cause.Held ≡ cause.LeapGuard = cause_is r _ _ _ _ is h in absurd cc
  guard_of h (by_count count unheld voted run is) = let q : cause.Acquiring ≡ cause.LeapGuard = cause_is r _ _ _ _ is h in absurd cc
  guard_of h (by_age age unheld unvoted before unbroken last old is) = let q : cause.Expired ≡ cause.LeapGuard = cause_is r _ _ _ _ is h in absurd cc
  guard_of h (by_guard age unheld unvoted before unbroken last young guard is) = guard
  guard_of h (by_silence unheld unvoted before is) = let q : cause.NoVote ≡ cause.LeapGuard = cause_is r _ _ _ _ is h in absurd cc

over_cause : (step : Step) (c d : Cause) → step ≡ stop_step c → is_over c ≡ true → step.report.cause ≡ d → is_over d ≡ true
over_cause step c d e f h = let q : c ≡ d = sym (ap (λ (z : Step). z.report.cause) e) ∙ h in sym (ap is_over q) ∙ f

guard_at : (x : VotedEdges) (n : ℕ) (step : Step) → step.report.cause ≡ cause.LeapGuard → Ticked x n step → IsGuard x (n + 1)
guard_at x n step h (live v e standing said) = guard_of x n v step.report h said
guard_at x n step h (over c e is k) = absurd (false≢true (over_cause step c cause.LeapGuard is k h))

-- if T(n + 1) is v
said_at : (x : VotedEdges) (n : ℕ) (v : UtcSecond) (step : Step) → second_at x.times (n + 1) ≡ Some v → Ticked x n step → Said x n v step.report
said_at x n v step at (live w e standing said) =
    let q : ◌≡◌ {A = Option UtcSecond} (Some w) (Some v) = sym e ∙ at in
    let same : w ≡ v = cc in
    subst (λ u. Said x n u step.report) same said
said_at x n v step at (over c e is k) = let q : ◌≡◌ {A = Option UtcSecond} None (Some v) = sym e ∙ at in absurd cc

-- ---- the last voted edge, and the edges within the holdover

none_within : (x : VotedEdges) (n age : ℕ) → IsLastVote x n age → x.reader_rules.holdover ≤ age → NoneWithin x (n + 1) x.reader_rules.holdover
none_within x n age l old j a b = l.none_since j (omega (arith, l.is_at)) (omega arith)

some_within : (x : VotedEdges) (n age : ℕ) → IsLastVote x n age → age < x.reader_rules.holdover → SomeWithin x (n + 1) x.reader_rules.holdover
some_within x n age l young = record { edge = l.edge; near = omega (arith, l.is_at); below = omega (arith, l.is_at); is = l.is }

-- ---- entries

kept_less : (s : Setup) (r n m : ℕ) (ev : List Event) → IsKeptUpTo s r n ev → m ≤ n → IsKeptUpTo s r m ev
kept_less s r n m ev kept less = record { ticks = λ later earlier is low. kept.ticks later earlier is (omega arith) }

-- what each entry has as one of its events
pub log_at : (s : Setup) (all : List Event) (R : Entry → Type 0) → ((r : ℕ) (later ev : List Event) → all ≡ later ++ (Tick r ∷ ev) → R (entry_of s r ev))
    → (later ev : List Event) → all ≡ later ++ ev → All R (log_of s ev)
log_at s all R each later [] is = All-nil R
log_at s all R each later (Tick r ∷ ev) is =
    All-push R (log_of s ev) (entry_of s r ev) (log_at s all R each (later ++ (Tick r ∷ [])) ev (is ∙ sym (append_assoc later (Tick r ∷ []) ev))) (each r later ev is)
log_at s all R each later (e ∷ ev) is = log_at s all R each (later ++ (e ∷ [])) ev (is ∙ sym (append_assoc later (e ∷ []) ev))

-- the guard's cause is told at guard edges alone
record TellsGuard (s : Setup) (all : List Event) (e : Entry) : Type 0 where
  leap_guard : HasPremises s all e → e.report.cause ≡ cause.LeapGuard → IsGuard (voted_edges_of s e.reader all) e.edge

-- a logged entry stays in the log
stays_logged : (s : Setup) (e : Entry) (later ev : List Event) → Contains (log_of s ev) e → Contains (log_of s (later ++ ev)) e
stays_logged s e [] ev h = h
stays_logged s e (Tick r ∷ later) ev h = Contains-append_left (log_of s (later ++ ev)) (entry_of s r (later ++ ev) ∷ []) e (stays_logged s e later ev h)
stays_logged s e (x ∷ later) ev h = stays_logged s e later ev h

logged_at : (s : Setup) (r : ℕ) (all later ev : List Event) → all ≡ later ++ (Tick r ∷ ev) → Contains (log_of s all) (entry_of s r ev)
logged_at s r all later ev is =
    subst (λ es. Contains (log_of s es) (entry_of s r ev)) (sym is) (stays_logged s (entry_of s r ev) later (Tick r ∷ ev) (Contains-push (log_of s ev) (entry_of s r ev)))

module _ (s : Setup) (all : List Event) (sound : IsTimeline s.times) (ruled : All CanLock s.readers) where
  said : (r : ℕ) (later ev : List Event) → all ≡ later ++ (Tick r ∷ ev) → (v : UtcSecond) → IsServed s all (entry_of s r ev) v
      → Said (voted_edges_of s r all) (ticks_of r ev) v (entry_of s r ev).report
  said r later ev is v served =
      said_at (voted_edges_of s r all) (ticks_of r ev) v _ served.second
      (ticked_at s r all (record { sound = sound; true_table = served.premises.true_table }) (can_lock s r ruled) later ev is served.premises.kept)

  pub log_when_held : All (AnnouncesWhenHeld s all) (log_of s all)
  log_when_held = log_at s all (AnnouncesWhenHeld s all) (λ r later ev is. record { exactly = λ v served. when_held _ _ v _ (said r later ev is v served) }) [] all refl

  pub log_tells_lock : All (HasItsLock s all) (log_of s all)
  log_tells_lock = log_at s all (HasItsLock s all) (λ r later ev is. record { lock = λ v served says. lock_of _ _ v _ says (said r later ev is v served) }) [] all refl

  -- ---- the tick before

  -- there are the premises too
  served_before : (r : ℕ) (ev : List Event) (v : UtcSecond) (e : Entry) → IsServed s all (entry_of s r ev) v → e.reader ≡ r → e.edge ≡ ticks_of r ev → (u : UtcSecond) × IsServed s all e u
  served_before r ev v e served reader edge =
      let there : IsSecond s.times (ticks_of r ev + 1) v = (second_is s.times (ticks_of r ev + 1) v).0 served.second in
      let before = second_before s.times (ticks_of r ev) v there in (
        before.0,
        record {
          second = ap (second_at s.times) edge ∙ (second_is s.times (ticks_of r ev) before.0).1 before.1;
          premises = record {
            true_table = subst (λ k. IsTrueTable s.times (setup_at s.readers k).table) (sym reader) served.premises.true_table;
            kept = subst (λ k. IsKeptUpTo s k e.edge all) (sym reader) (kept_less s r (ticks_of r ev + 1) e.edge all served.premises.kept (omega (arith, edge)));
          };
        },
      )

  held_then : (r : ℕ) (ev : List Event) (v : UtcSecond) (e : Entry) → Contains (log_of s all) e → IsServed s all (entry_of s r ev) v → e.reader ≡ r → e.edge ≡ ticks_of r ev
      → (is_some e.report.announce ≡ true) ↔ IsHeld (voted_edges_of s r all) (ticks_of r ev)
  held_then r ev v e logged served reader edge =
      let before = served_before r ev v e served reader edge in
      let exact : AnnouncesWhenHeld s all e = All-contains (AnnouncesWhenHeld s all) (log_of s all) e log_when_held logged in
      subst (λ k. (is_some e.report.announce ≡ true) ↔ IsHeld (voted_edges_of s k all) (ticks_of r ev)) reader
      (subst (λ n. (is_some e.report.announce ≡ true) ↔ IsHeld (voted_edges_of s e.reader all) n) edge (exact.exactly before.0 before.1))

  was_held : (r : ℕ) (later ev : List Event) (v : UtcSecond) → all ≡ later ++ (Tick r ∷ ev) → IsServed s all (entry_of s r ev) v
      → IsHeld (voted_edges_of s r all) (ticks_of r ev) → (voted_edges_of s r all).restarted (ticks_of r ev) ≡ false → WasHeld s all r (ticks_of r ev + 1)
  was_held r later ev v is served held unbroken =
      let lock : 1 ≤ (setup_at s.readers r).rules.lock_after = can_lock s r ruled in
      let some : 1 ≤ ticks_of r ev = omega (arith, lock, held.enough, held.before) in
      let tick : HasTick r ev (ticks_of r ev - 1) = has_tick r ev (ticks_of r ev - 1) (omega arith) in
      let edge : ticks_of r tick.earlier + 1 ≡ ticks_of r ev = omega (arith, some, tick.ticks) in
      let split : all ≡ (later ++ (Tick r ∷ tick.later)) ++ (Tick r ∷ tick.earlier) =
      is ∙ ap (λ es. later ++ (Tick r ∷ es)) tick.is ∙ sym (append_assoc later (Tick r ∷ tick.later) (Tick r ∷ tick.earlier)) in
      let logged : Contains (log_of s all) (entry_of s r tick.earlier) = logged_at s r all (later ++ (Tick r ∷ tick.later)) tick.earlier split in
      record {
        before = ticks_of r ev;
        is_before = refl;
        announced = record {
          entry = entry_of s r tick.earlier;
          logged = logged;
          reader = refl;
          edge = edge;
          announces = (held_then r ev v (entry_of s r tick.earlier) logged served refl edge).1 held;
        };
        unbroken = unbroken;
      }

  was_not_held : (r : ℕ) (ev : List Event) (v : UtcSecond) → IsServed s all (entry_of s r ev) v
      → (IsHeld (voted_edges_of s r all) (ticks_of r ev) → (voted_edges_of s r all).restarted (ticks_of r ev) ≡ false → ⊥) → ¬ WasHeld s all r (ticks_of r ev + 1)
  was_not_held r ev v served f h =
      let here : h.before ≡ ticks_of r ev = omega (arith, h.is_before) in
      let a = h.announced in
      f ((held_then r ev v a.entry a.logged served a.reader (a.edge ∙ here)).0 a.announces) (ap (voted_edges_of s r all).restarted (sym here) ∙ h.unbroken)

  cause_of : (r : ℕ) (later ev : List Event) (v : UtcSecond) → all ≡ later ++ (Tick r ∷ ev) → IsServed s all (entry_of s r ev) v → is_some (entry_of s r ev).report.announce ≡ false
      → Said (voted_edges_of s r all) (ticks_of r ev) v (entry_of s r ev).report → IsSilence (voted_edges_of s r all) (WasHeld s all r (ticks_of r ev + 1)) (ticks_of r ev + 1) (entry_of s r ev).report
  cause_of r later ev v is served h (by_vote held voted said) = clash _ (said_some _ _ _ _ said) h
  cause_of r later ev v is served h (by_hold age held unvoted last said) = clash _ (said_some _ _ _ _ said) h
  cause_of r later ev v is served h (by_count count unheld voted run said) = inl (record { voted = voted; count = count; run = run; report = said })
  cause_of r later ev v is served h (by_age age unheld unvoted before unbroken last old said) =
      inr (inl (record {
        unvoted = unvoted;
        was_held = was_held r later ev v is served before unbroken;
        none = none_within (voted_edges_of s r all) (ticks_of r ev) age last old;
        report = said;
      }))
  cause_of r later ev v is served h (by_guard age unheld unvoted before unbroken last young guard said) =
      inr (inr (inl (record {
        unvoted = unvoted;
        was_held = was_held r later ev v is served before unbroken;
        some = some_within (voted_edges_of s r all) (ticks_of r ev) age last young;
        guard = guard;
        report = said;
      })))
  cause_of r later ev v is served h (by_silence unheld unvoted before said) =
      inr (inr (inr (record { unvoted = unvoted; unheld = was_not_held r ev v served before; report = said })))

  pub log_tells_cause : All (HasItsCause s all) (log_of s all)
  log_tells_cause = log_at s all (HasItsCause s all) (λ r later ev is. record { cause = λ v served silence. cause_of r later ev v is served silence (said r later ev is v served) }) [] all refl

  -- ---- no false alarm

  pub log_is_calm : All (GivesNoFalseAlarm s all) (log_of s all)
  log_is_calm i d low = record {
    jump = (calm i d low).jump;
    range_end = (calm i d low).range_end;
    leap_guard = (guards i d low).leap_guard;
  }
    where
      calm : All (IsCalm s all) (log_of s all)
      calm = log_keeps_calm s all sound

      guards : All (TellsGuard s all) (log_of s all)
      guards = log_at s all (TellsGuard s all) (λ r later ev is. record {
        leap_guard = λ p e.
            guard_at (voted_edges_of s r all) (ticks_of r ev) _ e (ticked_at s r all (record { sound = sound; true_table = p.true_table }) (can_lock s r ruled) later ev is p.kept);
      }) [] all refl

  -- ---- all of the headline

  pub log_keeps_headline : All (KeepsHeadline s all) (log_of s all)
  log_keeps_headline i d low = record {
    truth = log_is_true s all sound i d low;
    calm = log_is_calm i d low;
    exactly = log_when_held i d low;
    lock = log_tells_lock i d low;
    cause = log_tells_cause i d low;
  }
