-- Instances of the headline's records that hold, and instances that do not, so that none of their
-- fields can be dropped or turned. Newest events come first.
use Rattle.std.specs.Prelude.{◌==◌, ◌||◌, All}
use Rattle.std.proofs.Common.{◌≡◌, ℕ, ◌+◌, ◌<◌, ◌≤◌, true, false, List, [], ◌∷◌, Option, Some, None, inl, inr, refl, sym, ap, subst, ◌∙◌, arith}
use Rattle.std.proofs.lemmas.Bool.{false≢true, cases_eq}
use Rattle.std.proofs.lemmas.List.Elements.{All-nil, All-cons}
use Rattle.irig_time.specs.declared.second.UtcSecond.{UtcSecond}
use Rattle.irig_time.specs.declared.leap.Leap.TheVariants as leap
use Rattle.irig_time.proofs.StandardFacts.{known_month_end, known_first_end}
use Rattle.irig_time.specs.Timelines.{TimelineValue, times, second_at}
use Rattle.irig_time.specs.Tables.{TableValue, table}
use Rattle.irig_hold.specs.Truth.{IsTrueTable}
use Rattle.irig_vote.specs.declared.redundancy.Redundancy.TheVariants.{Three}
use Rattle.irig_reader.specs.declared.report.Lock.TheVariants as lock
use Rattle.irig_reader.specs.declared.report.Cause.TheVariants as cause
use Rattle.irig_reader.specs.declared.report.Report.{Report}
use Rattle.irig_plant.specs.declared.event.Event.{Event}
use Rattle.irig_plant.specs.declared.event.Event.TheVariants.{Tick, Replay, Restart}
use Rattle.irig_plant.specs.declared.entry.Entry.{Entry}
use Rattle.irig_plant.specs.declared.setup.ReaderSetup.{ReaderSetup}
use Rattle.irig_plant.specs.Audits.{is_true_table, first_false, is_broken_now, tick_of_reader, first_broken}
use Rattle.irig_plant.specs.Edges.{VotedEdges, is_voted_now, is_voted, IsVoted, IsRestarted, voted_edges_of, IsGuard, HasVote, IsHeld, KeepsLock, IsRun, IsLongestRun, IsLastVote}
use Rattle.irig_vote.specs.Counts.{AreRising, AtLeast, AtMost}
use Rattle.irig_plant.specs.Premises.{IsKeptUpTo, HasPremises, IsKept}
use Rattle.irig_plant.specs.Truth.{AnnouncesTruth, GivesNoFalseAlarm, IsTruthful, IsBefore}
use Rattle.irig_plant.specs.Exactly.{announcement, silence, IsServed, AnnouncesWhenHeld, IsAnnouncement, HasItsLock, HasAnnounced, WasHeld, IsSilence, HasItsCause}
use Rattle.irig_plant.specs.Headline.{KeepsHeadline}
use Rattle.irig_plant.specs.SilentTicks.{silent_ports}
use Rattle.irig_plant.proofs.CourseLaws.{voted_by_test, test_by_voted, test_by_restarted}
use Rattle.irig_plant.proofs.Headline.{kept_now, harmless}
use Rattle.irig_plant.proofs.KeptLaws.{empty_true}
use Rattle.irig_plant.proofs.NoonPlants.{at, noon, plant, told_0, told_nothing, kept_none, kept_tick, kept_replay, two_stale, kept_first_of_3}

-- ---- how many numbers are such

rising : AreRising 0 (0 ∷ 1 ∷ [])
rising = (omega arith, (omega arith, tt))

not_twice : ¬ AreRising 0 (1 ∷ 1 ∷ [])
not_twice h = omega (arith, h.1.0)

not_falling : ¬ AreRising 0 (1 ∷ 0 ∷ [])
not_falling h = omega (arith, h.1.0)

-- two numbers are below 2
both_below : All (λ (n : ℕ). n < 2) (0 ∷ 1 ∷ [])
both_below = All-cons (λ n. n < 2) 0 (1 ∷ []) (omega arith) (All-cons (λ n. n < 2) 1 [] (omega arith) (All-nil (λ n. n < 2)))

at_most_two : AtMost 2 (λ n. n < 2)
at_most_two [] r such = omega arith
at_most_two (a ∷ []) r such = omega arith
at_most_two (a ∷ b ∷ []) r such = omega arith
at_most_two (a ∷ b ∷ c ∷ ns) r such = absurd (omega (arith, r.1.0, r.1.1.0, such 2 0 (omega arith)))

not_at_most_one : ¬ AtMost 1 (λ n. n < 2)
not_at_most_one h = omega (arith, h (0 ∷ 1 ∷ []) rising both_below)

at_least_two : AtLeast 2 (λ n. n < 2)
at_least_two = record { numbers = 0 ∷ 1 ∷ []; rising = rising; such = both_below; many = omega arith }

not_at_least_three : ¬ AtLeast 3 (λ n. n < 2)
not_at_least_three h = omega (arith, h.many, at_most_two h.numbers h.rising h.such)

-- ---- the premises

-- of three generators; at the second tick two ports of reader 0 have heard the frame of edge 0
broken_at_2 : is_broken_now (plant 3) 0 two_stale ≡ true
unfolding second_at
broken_at_2 = rw (told_0, told_nothing) refl

first_at_2 : first_broken (plant 3) (Tick 0 ∷ two_stale) ≡ Some (tick_of_reader 0 2)
first_at_2 = rw (kept_first_of_3, broken_at_2) refl

-- a tick that is broken later, or at another reader, breaks nothing here; at this edge it does
kept_up_to_1 : IsKeptUpTo (plant 3) 0 1 (Tick 0 ∷ two_stale)
kept_up_to_1 =
    (harmless (plant 3) 0 1 (Tick 0) two_stale (λ e. omega arith)).1
    (kept_replay (plant 3) 1 0 0 0 1 (Replay 0 0 0 ∷ Tick 0 ∷ [])
    (kept_replay (plant 3) 0 0 0 0 1 (Tick 0 ∷ []) (kept_tick (plant 3) 0 0 1 [] kept_first_of_3 (kept_none (plant 3) 0 1))))

other_kept : IsKeptUpTo (plant 3) 1 2 (Tick 0 ∷ two_stale)
other_kept =
    (harmless (plant 3) 1 2 (Tick 0) two_stale (λ e. absurd cc)).1
    (kept_replay (plant 3) 1 0 0 1 2 (Replay 0 0 0 ∷ Tick 0 ∷ [])
    (kept_replay (plant 3) 0 0 0 1 2 (Tick 0 ∷ []) (kept_tick (plant 3) 0 1 2 [] kept_first_of_3 (kept_none (plant 3) 1 2))))

broken_up_to_2 : ¬ IsKeptUpTo (plant 3) 0 2 (Tick 0 ∷ two_stale)
broken_up_to_2 kept = false≢true (sym (kept_now (plant 3) 0 2 two_stale kept (omega arith)) ∙ broken_at_2)

not_kept : ¬ IsKept (plant 3) (Tick 0 ∷ two_stale)
not_kept kept = broken_up_to_2 (kept.ticks 0 2)

-- so an entry of edge 1 has its premises, and one of edge 2 has not
abbrev entry : ℕ → Report → Entry
entry edge report = record { reader = 0; edge = edge; report = report; redundancy = Three; told = silent_ports; truth = None }

premises_at_1 : (said : Report) → HasPremises (plant 3) (Tick 0 ∷ two_stale) (entry 1 said)
premises_at_1 said = record { true_table = empty_true noon (omega arith); kept = kept_up_to_1 }

no_premises_at_2 : (said : Report) → ¬ HasPremises (plant 3) (Tick 0 ∷ two_stale) (entry 2 said)
no_premises_at_2 said p = broken_up_to_2 p.kept

-- of three tables the least false one is named
module _ (t : TimelineValue) (a b c : ReaderSetup) (right : is_true_table t a.table ≡ true) (wrong : is_true_table t b.table ≡ false) (other : is_true_table t c.table ≡ false) where
  least_false : first_false t 0 (a ∷ b ∷ c ∷ []) ≡ Some 1
  least_false = rw (right, wrong) refl

-- ---- truth and alarms, if no event has come

premises : (said : Report) → HasPremises (plant 3) [] (entry 1 said)
premises said = record { true_table = empty_true noon (omega arith); kept = kept_none (plant 3) 0 1 }

abbrev holds_over : ℕ → Report
holds_over sod = announcement (at sod) (lock.Holdover 1) cause.Held

-- what is announced by a hold is to be T of the edge, too
true_hold : AnnouncesTruth (plant 3) [] (entry 1 (holds_over 43201))
unfolding second_at
true_hold = record { second = λ p u e. e }

another : ¬ (◌≡◌ {A = Option UtcSecond} (Some (at 43201)) (Some (at 43202)))
another e =
    let same : at 43201 ≡ at 43202 = cc in
    omega (arith, ap (λ (u : UtcSecond). u.sod) same)

false_hold : ¬ AnnouncesTruth (plant 3) [] (entry 1 (holds_over 43202))
unfolding second_at
false_hold h = another (h.second (premises (holds_over 43202)) (at 43202) refl)

truthful : IsTruthful noon (entry 1 (holds_over 43201))
unfolding second_at
truthful = record { second = λ u e. e }

not_truthful : ¬ IsTruthful noon (entry 1 (holds_over 43202))
unfolding second_at
not_truthful h = another (h.second (at 43202) refl)

calm : GivesNoFalseAlarm (plant 3) [] (entry 1 (silence lock.Unlocked cause.NoVote))
calm = record { jump = λ p e. cc; range_end = λ p e. absurd cc; leap_guard = λ p e. absurd cc }

false_jump : ¬ GivesNoFalseAlarm (plant 3) [] (entry 1 (silence lock.Unlocked cause.Jump))
false_jump h = h.jump (premises (silence lock.Unlocked cause.Jump)) refl

false_end : ¬ GivesNoFalseAlarm (plant 3) [] (entry 1 (silence lock.Unlocked cause.RangeEnd))
unfolding second_at
false_end h = let none : ◌≡◌ {A = Option UtcSecond} (Some (at 43201)) None = h.range_end (premises (silence lock.Unlocked cause.RangeEnd)) refl in cc

false_guard : ¬ GivesNoFalseAlarm (plant 3) [] (entry 1 (silence lock.Unlocked cause.LeapGuard))
unfolding second_at
false_guard h =
    let g : IsGuard (voted_edges_of (plant 3) 0 []) 1 = h.leap_guard (premises (silence lock.Unlocked cause.LeapGuard)) refl in
    let first : g.before ≡ 0 = omega (arith, g.is_before) in
    let second : ◌≡◌ {A = Option UtcSecond} (Some (at 43200)) (Some g.second) = subst (λ (n : ℕ). second_at noon n ≡ Some g.second) first g.at in
    let same : at 43200 ≡ g.second = cc in
    omega (arith, ap (λ (u : UtcSecond). u.sod) same, g.at_58)

-- 23:59:60 comes before 00:00:00, and nothing before itself
before_midnight : IsBefore (record { day = 6209; sod = 86400 }) (record { day = 6210; sod = 0 })
before_midnight = inl (omega arith)

not_after : ¬ IsBefore (record { day = 6210; sod = 0 }) (record { day = 6209; sod = 86400 })
not_after (inl day) = omega (arith, day)
not_after (inr same) = omega (arith, same.0)

not_itself : ¬ IsBefore (at 1) (at 1)
not_itself (inl day) = omega (arith, day)
not_itself (inr same) = omega (arith, same.1)

-- ---- exactly when

unheld : ¬ IsHeld (voted_edges_of (plant 3) 0 []) 1
unheld h = false≢true (h.votes h.lock (omega arith) (omega arith))

served : (said : Report) → IsServed (plant 3) [] (entry 1 said) (at 43201)
unfolding second_at
served said = record { second = refl; premises = premises said }

silent_unheld : AnnouncesWhenHeld (plant 3) [] (entry 1 (silence lock.Unlocked cause.NoVote))
silent_unheld = record { exactly = λ v s. (λ says. absurd (false≢true says), λ held. absurd (unheld held)) }

announced_unheld : ¬ AnnouncesWhenHeld (plant 3) [] (entry 1 (holds_over 43201))
announced_unheld h = unheld ((h.exactly (at 43201) (served (holds_over 43201))).0 refl)

none_announced : ¬ HasAnnounced (plant 3) [] 0 0
none_announced h = omega (arith, h.logged.1)

-- who is silent has no lock to tell, and an edge that nobody voted is not locked
silent_lock : HasItsLock (plant 3) [] (entry 1 (silence lock.Unlocked cause.NoVote))
silent_lock = record { lock = λ v s says. absurd (false≢true says) }

not_locked : ¬ HasItsLock (plant 3) [] (entry 1 (announcement (at 43201) lock.Locked cause.Voted))
not_locked h =
    let held = (h.lock (at 43201) (served (announcement (at 43201) lock.Locked cause.Voted)) refl).held refl in
    let is : lock.Locked ≡ lock.Holdover held.age = ap (λ (r : Report). r.lock) held.report in
    cc

-- who never announced has not been held
never_held : (n : ℕ) → ¬ WasHeld (plant 3) [] 0 n
never_held n h = omega (arith, h.announced.logged.1)

silent_cause : HasItsCause (plant 3) [] (entry 1 (silence lock.Unlocked cause.NoVote))
silent_cause = record { cause = λ v s quiet. inr (inr (inr (record { unvoted = refl; unheld = never_held 1; report = refl }))) }

not_expired : ¬ HasItsCause (plant 3) [] (entry 1 (silence lock.Unlocked cause.Expired))
not_expired h = elim (h.cause (at 43201) (served (silence lock.Unlocked cause.Expired)) refl) [
  | inl c ↦ false≢true c.voted
  | inr (inl e) ↦ never_held 1 e.was_held
  | inr (inr (inl g)) ↦ never_held 1 g.was_held
  | inr (inr (inr w)) ↦ let is : cause.Expired ≡ cause.NoVote = ap (λ (r : Report). r.cause) w.report in cc
]

-- all of the headline at once
silent_headline : KeepsHeadline (plant 3) [] (entry 1 (silence lock.Unlocked cause.NoVote))
silent_headline = record { truth = record { second = λ p u e. absurd cc }; calm = calm; exactly = silent_unheld; lock = silent_lock; cause = silent_cause }

false_headline : ¬ KeepsHeadline (plant 3) [] (entry 1 (holds_over 43202))
false_headline h = false_hold h.truth

-- ---- edges

-- at the first tick two ports have heard the frame of edge 0
abbrev two_true : List Event
two_true = Replay 1 0 0 ∷ Replay 0 0 0 ∷ []

voted_now : is_voted_now (plant 3) 0 two_true ≡ true
unfolding second_at
voted_now = rw (known_first_end, told_0, told_nothing) refl

voted_at_1 : IsVoted (plant 3) 0 (Tick 0 ∷ two_true) 1
voted_at_1 = voted_by_test (plant 3) 0 (Tick 0 ∷ two_true) 1 voted_now

-- if no port heard a frame, or no tick came, it is not voted
none_heard : is_voted (plant 3) 0 (Tick 0 ∷ []) 1 ≡ false
unfolding second_at
none_heard = rw (known_first_end, told_nothing) refl

unvoted_at_1 : ¬ IsVoted (plant 3) 0 (Tick 0 ∷ []) 1
unvoted_at_1 h = false≢true (sym none_heard ∙ test_by_voted (plant 3) 0 (Tick 0 ∷ []) 1 h)

unticked_at_1 : ¬ IsVoted (plant 3) 0 two_true 1
unticked_at_1 h = false≢true (test_by_voted (plant 3) 0 two_true 1 h)

-- a restart between the first tick and the second
abbrev restarted : List Event
restarted = Tick 0 ∷ Restart 0 ∷ Tick 0 ∷ []

restarted_after_1 : IsRestarted 0 restarted 1
restarted_after_1 = record { later = Tick 0 ∷ []; earlier = Tick 0 ∷ []; restart = refl; edge = omega arith }

not_restarted_after_2 : ¬ IsRestarted 0 restarted 2
not_restarted_after_2 h = false≢true (test_by_restarted 0 restarted 2 h)

other_not_restarted : ¬ IsRestarted 1 restarted 0
other_not_restarted h = false≢true (test_by_restarted 1 restarted 0 h)

-- a month's end that nobody spoke of, above the table
abbrev old_year : TimelineValue
old_year = times (record { day = 6209; sod = 86398 }) []

abbrev unheard : ℕ → VotedEdges
unheard until = record { times = old_year; reader_rules = record { lock_after = 1; holdover = 100 }; table = table until []; voted = λ i. false; restarted = λ i. false }

guard : IsGuard (unheard 6208) 1
unfolding second_at
guard = record {
  before = 0;
  is_before = refl;
  second = record { day = 6209; sod = 86398 };
  at = refl;
  at_58 = refl;
  at_month_end = known_month_end;
  above = omega arith;
  unvoted = refl;
  unheard = λ i a b. refl;
}

not_in_table : ¬ IsGuard (unheard 6209) 1
unfolding second_at
not_in_table g =
    let first : g.before ≡ 0 = omega (arith, g.is_before) in
    let second : ◌≡◌ {A = Option UtcSecond} (Some (record { day = 6209; sod = 86398 })) (Some g.second) = subst (λ (n : ℕ). second_at old_year n ≡ Some g.second) first g.at in
    let same : ◌≡◌ {A = UtcSecond} (record { day = 6209; sod = 86398 }) g.second = cc in
    omega (arith, ap (λ (u : UtcSecond). u.day) same, g.above)

-- no lock is kept over a guard edge
not_kept_over_guard : ¬ KeepsLock (unheard 6208) 0 1
not_kept_over_guard h = h.unguarded 1 (omega arith) (omega arith) guard

-- a table that denies the leap of its last day is false, and one that ends before it is true
abbrev leap_year : TimelineValue
leap_year = times (record { day = 6209; sod = 86398 }) ((6209, leap.Insert) ∷ [])

denies : ¬ IsTrueTable leap_year (table 6209 [])
denies h = let none : None ≡ Some leap.Insert = h.leaps 6209 known_month_end (omega arith) (omega arith) in cc

ends_before : IsTrueTable leap_year (table 6208 [])
ends_before = record { leaps = λ day end from to. absurd (omega arith) }

-- a reader that locks after 2 votes and holds over for 1 edge, of which edges 1 and 2 are voted, is
-- held at 2 and 3 alone
module _ (t : TimelineValue) (table : TableValue) where
  abbrev two_votes : VotedEdges
  two_votes = record { times = t; reader_rules = record { lock_after = 2; holdover = 1 }; table = table; voted = λ i. (i == 1) || (i == 2); restarted = λ i. false }

  vote_at_2 : (j : ℕ) → 2 ≤ j → j ≤ 3 → HasVote two_votes 2 j 1
  vote_at_2 j from to = record { edge = 2; from = omega arith; to = from; near = to; is = refl }

  both_voted : (i : ℕ) → 3 ≤ i + 2 → i ≤ 2 → two_votes.voted i ≡ true
  both_voted i from to = elim (cases_eq i 1) [ inl e ↦ ap two_votes.voted e | inr other ↦ ap two_votes.voted (let e : i ≡ 2 = omega (arith, other) in e) ]

  held_at_2 : IsHeld two_votes 2
  held_at_2 = record {
    lock = 2;
    enough = omega arith;
    before = omega arith;
    votes = both_voted;
    unbroken = λ i a b. refl;
    fresh = λ j a b. vote_at_2 j a (omega arith);
    unguarded = λ j a b. absurd (omega arith);
  }

  held_at_3 : IsHeld two_votes 3
  held_at_3 = record {
    lock = 2;
    enough = omega arith;
    before = omega arith;
    votes = both_voted;
    unbroken = λ i a b. refl;
    fresh = λ j a b. vote_at_2 j a b;
    unguarded = λ j a b g. false≢true (sym (g.unheard 2 (omega arith) a));
  }

  not_held_at_1 : ¬ IsHeld two_votes 1
  not_held_at_1 h = omega (arith, h.enough, h.before)

  not_held_at_4 : ¬ IsHeld two_votes 4
  not_held_at_4 h =
      let last : HasVote two_votes h.lock 4 1 = h.fresh 4 h.before (omega arith) in
      elim (cases_eq last.edge 3) [
        | inl e ↦ false≢true (ap two_votes.voted (sym e) ∙ last.is)
        | inr other ↦ false≢true (ap two_votes.voted (let e : 4 ≡ last.edge = omega (arith, other, last.near, last.to) in e) ∙ last.is)
      ]

  -- a lock at edge 2 is kept up to edge 3 and no further, and not over a restart
  kept_to_3 : KeepsLock two_votes 2 3
  kept_to_3 = record {
    after = omega arith;
    unbroken = λ i a b. refl;
    fresh = vote_at_2;
    unguarded = λ j a b g. false≢true (sym (g.unheard 2 (omega arith) a));
  }

  not_kept_to_4 : ¬ KeepsLock two_votes 2 4
  not_kept_to_4 h =
      let last : HasVote two_votes 2 4 1 = h.fresh 4 (omega arith) (omega arith) in
      elim (cases_eq last.edge 3) [
        | inl e ↦ false≢true (ap two_votes.voted (sym e) ∙ last.is)
        | inr other ↦ false≢true (ap two_votes.voted (let e : 4 ≡ last.edge = omega (arith, other, last.near, last.to) in e) ∙ last.is)
      ]

  not_kept_over_restart : ¬ KeepsLock (record two_votes { restarted = λ i. i == 2 }) 2 3
  not_kept_over_restart h = false≢true (sym (h.unbroken 2 (omega arith) (omega arith)))

  -- the last vote before edge 3 is that of edge 2, and not that of edge 1
  last_of_3 : IsLastVote two_votes 3 1
  last_of_3 = record { edge = 2; is_at = omega arith; is = refl; none_since = λ j a b. ap two_votes.voted (let e : j ≡ 3 = omega (arith, a, b) in e) }

  not_last_of_3 : ¬ IsLastVote two_votes 3 2
  not_last_of_3 h = false≢true (sym (h.none_since 2 (omega (arith, h.is_at)) (omega arith)))

  -- the longest run up to edge 2 has two edges, and one edge is no longest run
  run_of_2 : IsRun two_votes 2 2
  run_of_2 = record { some = omega arith; fits = omega arith; votes = λ i a b. both_voted i a b; unbroken = λ i a b. refl }

  longest_of_2 : IsLongestRun two_votes 2 2
  longest_of_2 = record { run = run_of_2; longest = λ other run. run.fits }

  not_longest_of_2 : ¬ IsLongestRun two_votes 2 1
  not_longest_of_2 h = omega (arith, h.longest 2 run_of_2)

  -- a restart breaks it
  not_run_over_restart : ¬ IsRun (record two_votes { restarted = λ i. i == 1 }) 2 2
  not_run_over_restart h = false≢true (sym (h.unbroken 1 (omega arith) (omega arith)))

  not_guard : (j : ℕ) → 2 < j → j ≤ 59 → ¬ IsGuard two_votes j
  not_guard j a b g = false≢true (sym (g.unheard 2 (omega arith) a))

  -- a voted edge is announced as locked, and edge 3 with the age of the last vote
  module _ (v : UtcSecond) where
    locked_at_2 : IsAnnouncement two_votes 2 v (announcement v lock.Locked cause.Voted)
    locked_at_2 = record { voted = λ e. refl; held = λ e. absurd (false≢true (sym e)) }

    not_held_over_at_2 : ¬ IsAnnouncement two_votes 2 v (announcement v (lock.Holdover 1) cause.Held)
    not_held_over_at_2 h = let is : lock.Holdover 1 ≡ lock.Locked = ap (λ (r : Report). r.lock) (h.voted refl) in cc

    held_over_at_3 : IsAnnouncement two_votes 3 v (announcement v (lock.Holdover 1) cause.Held)
    held_over_at_3 = record { voted = λ e. absurd (false≢true e); held = λ e. record { age = 1; last = last_of_3; report = refl } }

    not_older_at_3 : ¬ IsAnnouncement two_votes 3 v (announcement v (lock.Holdover 2) cause.Held)
    not_older_at_3 h =
        let held = h.held refl in
        let is : lock.Holdover 2 ≡ lock.Holdover held.age = ap (λ (r : Report). r.lock) held.report in
        let same : 2 ≡ held.age = cc in
        not_last_of_3 (subst (λ (n : ℕ). IsLastVote two_votes 3 n) (sym same) held.last)

  -- ---- why it is silent

  counts_at_2 : IsSilence two_votes ⊥ 2 (silence (lock.Acquiring 2) cause.Acquiring)
  counts_at_2 = inl (record { voted = refl; count = 2; run = longest_of_2; report = refl })

  not_counts_at_2 : ¬ IsSilence two_votes ⊥ 2 (silence (lock.Acquiring 1) cause.Acquiring)
  not_counts_at_2 (inl c) =
      let is : lock.Acquiring 1 ≡ lock.Acquiring c.count = ap (λ (r : Report). r.lock) c.report in
      let same : 1 ≡ c.count = cc in
      not_longest_of_2 (subst (λ (n : ℕ). IsLongestRun two_votes 2 n) (sym same) c.run)
  not_counts_at_2 (inr (inl e)) = false≢true (sym e.unvoted)
  not_counts_at_2 (inr (inr (inl g))) = false≢true (sym g.unvoted)
  not_counts_at_2 (inr (inr (inr w))) = false≢true (sym w.unvoted)

  expired_at_4 : IsSilence two_votes (Unit {0}) 4 (silence lock.Unlocked cause.Expired)
  expired_at_4 = inr (inl (record { unvoted = refl; was_held = tt; none = λ j a b. ap two_votes.voted (let e : j ≡ 3 = omega (arith, a, b) in e); report = refl }))

  not_guarded_at_4 : ¬ IsSilence two_votes (Unit {0}) 4 (silence lock.Unlocked cause.LeapGuard)
  not_guarded_at_4 (inl c) = false≢true c.voted
  not_guarded_at_4 (inr (inl e)) = let is : cause.LeapGuard ≡ cause.Expired = ap (λ (r : Report). r.cause) e.report in cc
  not_guarded_at_4 (inr (inr (inl g))) = not_guard 4 (omega arith) (omega arith) g.guard
  not_guarded_at_4 (inr (inr (inr w))) = w.unheld tt

  no_vote_at_4 : IsSilence two_votes ⊥ 4 (silence lock.Unlocked cause.NoVote)
  no_vote_at_4 = inr (inr (inr (record { unvoted = refl; unheld = λ held. held; report = refl })))

  not_expired_at_4 : ¬ IsSilence two_votes ⊥ 4 (silence lock.Unlocked cause.Expired)
  not_expired_at_4 (inl c) = false≢true c.voted
  not_expired_at_4 (inr (inl e)) = e.was_held
  not_expired_at_4 (inr (inr (inl g))) = g.was_held
  not_expired_at_4 (inr (inr (inr w))) = let is : cause.Expired ≡ cause.NoVote = ap (λ (r : Report). r.cause) w.report in cc

  -- a reader that announced at edge 2 has no reason to be silent at edge 3, whatever it says
  no_reason_at_3 : (said : Report) → ¬ IsSilence two_votes (Unit {0}) 3 said
  no_reason_at_3 said (inl c) = false≢true c.voted
  no_reason_at_3 said (inr (inl e)) = false≢true (sym (e.none 2 (omega arith) (omega arith)))
  no_reason_at_3 said (inr (inr (inl g))) = not_guard 3 (omega arith) (omega arith) g.guard
  no_reason_at_3 said (inr (inr (inr w))) = w.unheld tt
