-- Instances of the records of clean ticks and of healing that hold, and instances that do not, so
-- that none of their fields can be dropped or turned. Newest events come first.
use Rattle.std.proofs.Common.{All, ◌≡◌, ℕ, ◌+◌, ◌<◌, ◌≤◌, true, List, [], ◌∷◌, ◌++◌, Option, Some, None, refl, sym, ap, subst, ◌∙◌, arith, inl, inr}
use Rattle.std.proofs.lemmas.Bool.{false≢true, cases_Bool, cases_lt}
use Rattle.std.proofs.lemmas.List.Elements.{All-contains, All-nil, All-cons, Contains-push, Contains-append_left}
use Rattle.irig_time.specs.declared.second.UtcSecond.{UtcSecond}
use Rattle.irig_time.specs.declared.claim.Claim.{Claim}
use Rattle.irig_time.specs.Timelines.{second_at, truth_at, IsTrueClaim}
use Rattle.irig_time.proofs.SecondAt.{claim_is}
use Rattle.irig_time.specs.Tables.{table}
use Rattle.irig_hold.specs.Truth.{IsTrueTable}
use Rattle.irig_port.specs.declared.told.Told.{Told}
use Rattle.irig_port.specs.declared.told.Told.TheVariants as tells
use Rattle.irig_port.specs.Heard.{symbols_of}
use Rattle.irig_port.proofs.CarriesLaws.{carries_is_told}
use Rattle.irig_port.specs.Told.{told_of_widths}
use Rattle.irig_time.specs.Claims.{same_claim}
use Rattle.irig_vote.specs.declared.redundancy.Redundancy.TheVariants.{Three}
use Rattle.irig_vote.specs.Vote.{carriers}
use Rattle.irig_vote.proofs.CountLaws.{same_is}
use Rattle.irig_reader.specs.declared.report.Lock.{Lock}
use Rattle.irig_reader.specs.declared.report.Lock.TheVariants as lock
use Rattle.irig_reader.specs.declared.report.Cause.{Cause}
use Rattle.irig_reader.specs.declared.report.Cause.TheVariants as cause
use Rattle.irig_reader.specs.declared.report.Report.{Report}
use Rattle.irig_reader.specs.History.{vote_at_tick}
use Rattle.irig_reader.proofs.OneEdge.{clean_by_few}
use Rattle.irig_plant.specs.declared.event.Event.{Event}
use Rattle.irig_plant.specs.declared.event.Event.TheVariants.{Tick, Replay, Restart}
use Rattle.irig_plant.specs.declared.entry.Entry.{Entry}
use Rattle.irig_plant.specs.Schedule.{Setup, heard_at, ticks_of, history_of, entry_of, log_of}
use Rattle.irig_plant.specs.Edges.{is_restarted}
use Rattle.irig_reader.specs.Rules.{IsReaderRules}
use Rattle.irig_plant.specs.History.{AreReaders}
use Rattle.irig_plant.specs.Audits.{is_broken_now}
use Rattle.irig_plant.specs.Exactly.{announcement}
use Rattle.irig_vote.specs.Counts.{AtLeast, AtMost}
use Rattle.irig_plant.specs.Ports.{HasHeard, IsUntruePort}
use Rattle.irig_plant.specs.Truth.{IsTruthful}
use Rattle.irig_plant.specs.OwnEdge.{IsCleanNow, IsCleanAt, IsTrueByItsEdge, HasFalseMajority, HasItsMajority}
use Rattle.irig_plant.specs.Healing.{HasVoteAt, RestsOn, RestsOnAVote, RestsOnItsMajority, IsCleanBetween, IsCleanSince, IsTrueIfClean, IsFalseToTheEnd, IsFalseEdge}
use Rattle.irig_plant.specs.SilentTicks.{silent_ports}
use Rattle.irig_plant.proofs.KeptLaws.{empty_true}
use Rattle.irig_plant.proofs.CourseLaws.{ticks_grow, ticks_now}
use Rattle.irig_plant.proofs.NoonPlants.{at, noon, rules, plant, three_generators, claim_0, told_0, told_nothing, two_stale}
use Rattle.irig_plant.proofs.HealingPlant.{holder, holding, is_timeline, misled, held_once, held_twice, claim_of, truth_1, told_2, first_vote, stale_vote, silent_vote, says_2, says_3, says_4}
use Rattle.irig_plant.proofs.OwnEdge.{clean_by_ports}
use Rattle.irig_plant.proofs.PortLaws.{broken_by_ports}
use Rattle.irig_plant.proofs.ExactLaws.{log_at}

-- an entry of the reader
abbrev entry : ℕ → ℕ → Lock → Cause → Entry
entry edge sod l c = record { reader = 0; edge = edge; report = announcement (at sod) l c; redundancy = Three; told = silent_ports; truth = None }

abbrev first_tick : List Event
first_tick = Tick 0 ∷ []

-- one port of three hears the old frame
abbrev one_stale : List Event
one_stale = Replay 0 0 0 ∷ first_tick

-- the newest tick is found in one way
the_newest : (r : ℕ) (ev later earlier : List Event) → Tick r ∷ ev ≡ later ++ (Tick r ∷ earlier) → ticks_of r ev ≤ ticks_of r earlier → earlier ≡ ev
the_newest r ev [] earlier is low = let same : ev ≡ earlier = cc in sym same
the_newest r ev (x ∷ later) earlier is low =
    let rest : ev ≡ later ++ (Tick r ∷ earlier) = cc in
    absurd (omega (arith, low, ap (ticks_of r) rest, ticks_grow r later (Tick r ∷ earlier), ticks_now r earlier))

-- ---- clean ticks

none_clean : (ev : List Event) → IsCleanNow holding 0 (Tick 0 ∷ ev)
none_clean ev = rw told_nothing (record { no_other = λ c enough. absurd (omega (arith, enough)) })

first_clean : IsCleanNow holding 0 []
first_clean = rw told_nothing (record { no_other = λ c enough. absurd (omega (arith, enough)) })

one_clean : IsCleanNow holding 0 one_stale
one_clean = rw (told_0, told_nothing) (clean_by_few noon 1 _ _ (claim_of 43201) truth_1 (omega arith))

old_claim : ¬ (truth_at noon 1 ≡ Some claim_0)
old_claim told =
    let both : ◌≡◌ {A = Option Claim} (Some (claim_of 43201)) (Some claim_0) = sym truth_1 ∙ told in
    let same : claim_of 43201 ≡ claim_0 = cc in
    omega (arith, ap (λ (c : Claim). c.at.sod) same)

two_unclean : ¬ IsCleanNow holding 0 two_stale
two_unclean clean = let enough : 2 ≤ 2 = omega arith in old_claim (clean.no_other claim_0 (rw (told_0, told_nothing) enough))

-- two of three that tell false claims, and not the same, leave it clean, though it is broken
abbrev two_differ : List Event
two_differ = Replay 1 0 2 ∷ Replay 0 0 0 ∷ first_tick

abbrev different : List Told
different = tells.Claim claim_0 ∷ tells.Claim (claim_of 43202) ∷ tells.Silence ∷ []

none_twice : (c : Claim) → 2 ≤ carriers c different → ⊥
none_twice c enough =
    elim (cases_Bool (same_claim c claim_0)) [
      | inl first ↦ omega (arith, subst (λ (x : Claim). 2 ≤ carriers x different) (same_is c claim_0 first) enough)
      | inr other ↦ elim (cases_Bool (same_claim c (claim_of 43202))) [
        | inl second ↦ omega (arith, subst (λ (x : Claim). 2 ≤ carriers x different) (same_is c (claim_of 43202) second) enough)
        | inr neither ↦ omega (arith, (rw (other, neither) at enough))
      ]
    ]

differ_clean : IsCleanNow holding 0 two_differ
differ_clean = rw (told_0, told_2, told_nothing) (record { no_other = λ c enough. absurd (none_twice c enough) })

not_claim_1 : (sod : ℕ) → ¬ (sod ≡ 43201) → ¬ IsTrueClaim noon 2 (claim_of sod)
not_claim_1 sod other is =
    let both : ◌≡◌ {A = Option Claim} (Some (claim_of 43201)) (Some (claim_of sod)) = sym truth_1 ∙ (claim_is noon 1 (claim_of sod)).1 is in
    let same : claim_of 43201 ≡ claim_of sod = cc in
    other (sym (ap (λ (c : Claim). c.at.sod) same))

untrue_told : (p sod : ℕ) → p < 3 → told_of_widths rules (heard_at holding 0 p two_differ) ≡ tells.Claim (claim_of sod) → ¬ (sod ≡ 43201) → IsUntruePort holding 0 two_differ p
untrue_told p sod low told other = record {
  claim = claim_of sod;
  heard = record { port = low; carries = (carries_is_told rules (symbols_of (heard_at holding 0 p two_differ)) (claim_of sod)).0 told };
  untrue = not_claim_1 sod other;
}

differ_broken : is_broken_now holding 0 two_differ ≡ true
differ_broken =
    let first : IsUntruePort holding 0 two_differ 0 = untrue_told 0 43200 (omega arith) told_0 (λ e. omega (arith, e)) in
    let second : IsUntruePort holding 0 two_differ 1 = untrue_told 1 43202 (omega arith) told_2 (λ e. omega (arith, e)) in
    (broken_by_ports holding 0 two_differ).1 (record {
      numbers = 0 ∷ 1 ∷ [];
      rising = (omega arith, (omega arith, tt));
      such = All-cons (IsUntruePort holding 0 two_differ) 0 (1 ∷ []) first (All-cons (IsUntruePort holding 0 two_differ) 1 [] second (All-nil (IsUntruePort holding 0 two_differ)));
      many = omega arith;
    })

newest_clean : (ev : List Event) → IsCleanNow holding 0 ev → IsCleanAt holding 0 (ticks_of 0 ev + 1) (Tick 0 ∷ ev)
newest_clean ev clean = record {
  ticks = λ later earlier is edge. subst (IsCleanNow holding 0) (sym (the_newest 0 ev later earlier is (omega (arith, edge)))) clean;
}

clean_at_1 : IsCleanAt holding 0 1 first_tick
clean_at_1 = newest_clean [] first_clean

unclean_at_2 : ¬ IsCleanAt holding 0 2 misled
unclean_at_2 clean = two_unclean (clean.ticks [] two_stale refl refl)

-- ---- true by the own edge

another : ¬ (◌≡◌ {A = Option UtcSecond} (Some (at 43201)) (Some (at 43202)))
another e =
    let same : at 43201 ≡ at 43202 = cc in
    omega (arith, ap (λ (u : UtcSecond). u.sod) same)

false_at_1 : (l : Lock) (c : Cause) → ¬ IsTruthful noon (entry 1 43202 l c)
unfolding second_at
false_at_1 l c h = another (h.second (at 43202) refl)

true_at_1 : (l : Lock) (c : Cause) → IsTruthful noon (entry 1 43201 l c)
unfolding second_at
true_at_1 l c = record { second = λ u e. e }

false_at_2 : (l : Lock) (c : Cause) → ¬ IsTruthful noon (entry 2 43201 l c)
unfolding second_at
false_at_2 l c h = another (sym (h.second (at 43201) refl))

-- a false vote of a clean tick is none of them; one of an unclean tick, or what is held, may be
true_vote : IsTrueByItsEdge holding first_tick (entry 1 43201 lock.Locked cause.Voted)
true_vote = record { voted = λ clean voted. true_at_1 lock.Locked cause.Voted }

false_vote : ¬ IsTrueByItsEdge holding first_tick (entry 1 43202 lock.Locked cause.Voted)
false_vote h = false_at_1 lock.Locked cause.Voted (h.voted clean_at_1 refl)

misled_vote : IsTrueByItsEdge holding misled (entry 2 43201 lock.Locked cause.Voted)
misled_vote = record { voted = λ clean voted. absurd (unclean_at_2 clean) }

false_hold : IsTrueByItsEdge holding first_tick (entry 1 43202 (lock.Holdover 1) cause.Held)
false_hold = record { voted = λ clean voted. absurd cc }

-- ---- false majorities

first_heard : HasHeard holding 0 0 two_stale claim_0
first_heard = record { port = omega arith; carries = (carries_is_told rules (symbols_of (heard_at holding 0 0 two_stale)) claim_0).0 told_0 }

second_heard : HasHeard holding 0 1 two_stale claim_0
second_heard = record { port = omega arith; carries = (carries_is_told rules (symbols_of (heard_at holding 0 1 two_stale)) claim_0).0 told_0 }

both_heard : AtLeast 2 (λ p. HasHeard holding 0 p two_stale claim_0)
both_heard = record {
  numbers = 0 ∷ 1 ∷ [];
  rising = (omega arith, (omega arith, tt));
  such = All-cons (λ p. HasHeard holding 0 p two_stale claim_0) 0 (1 ∷ []) first_heard (All-cons (λ p. HasHeard holding 0 p two_stale claim_0) 1 [] second_heard (All-nil (λ p. HasHeard holding 0 p two_stale claim_0)));
  many = omega arith;
}

untrue_at_2 : ¬ IsTrueClaim noon 2 claim_0
untrue_at_2 is = old_claim ((claim_is noon 1 claim_0).1 is)

majority_at_2 : HasFalseMajority holding 0 2 misled
majority_at_2 = record { later = []; earlier = two_stale; tick = refl; edge = refl; claim = claim_0; ports = both_heard; untrue = untrue_at_2 }

-- a clean tick has none: one at which one port of three hears the old frame
newest_unlied : (ev : List Event) → IsCleanNow holding 0 ev → ¬ HasFalseMajority holding 0 (ticks_of 0 ev + 1) (Tick 0 ∷ ev)
newest_unlied ev clean h =
    let same : h.earlier ≡ ev = the_newest 0 ev h.later h.earlier h.tick (omega (arith, h.edge)) in
    let heard : AtLeast 2 (λ p. HasHeard holding 0 p ev h.claim) = subst (λ (es : List Event). AtLeast 2 (λ p. HasHeard holding 0 p es h.claim)) same h.ports in
    h.untrue ((clean_by_ports holding 0 ev).0 clean h.claim heard)

no_majority_of_one : ¬ HasFalseMajority holding 0 2 (Tick 0 ∷ one_stale)
no_majority_of_one = newest_unlied one_stale one_clean

has_majority : HasItsMajority holding misled (entry 2 43201 lock.Locked cause.Voted)
has_majority = record { false_vote = λ voted untrue. majority_at_2 }

-- who tells the truth needs none
true_without : HasItsMajority holding first_tick (entry 1 43201 lock.Locked cause.Voted)
true_without = record { false_vote = λ voted untrue. absurd (untrue (true_at_1 lock.Locked cause.Voted)) }

false_without : ¬ HasItsMajority holding (Tick 0 ∷ one_stale) (entry 2 43201 lock.Locked cause.Voted)
false_without h = no_majority_of_one (h.false_vote refl (false_at_2 lock.Locked cause.Voted))

-- ---- votes

vote_at_2 : HasVoteAt holding 0 2 misled
vote_at_2 = record { later = []; earlier = two_stale; tick = refl; edge = refl; claim = claim_0; vote = stale_vote }

later_vote_at_2 : HasVoteAt holding 0 2 held_once
later_vote_at_2 = record { later = Tick 0 ∷ []; earlier = two_stale; tick = refl; edge = refl; claim = claim_0; vote = stale_vote }

newest_unvoted : (s : Setup) (k : ℕ) (ev : List Event) → vote_at_tick (history_of s 0 ev) ≡ None → k ≡ ticks_of 0 ev + 1 → ¬ HasVoteAt s 0 k (Tick 0 ∷ ev)
newest_unvoted s k ev none at h =
    let same : h.earlier ≡ ev = the_newest 0 ev h.later h.earlier h.tick (omega (arith, h.edge, at)) in
    let clash : ◌≡◌ {A = Option Claim} None (Some h.claim) = sym none ∙ ap (λ (es : List Event). vote_at_tick (history_of s 0 es)) (sym same) ∙ h.vote in
    cc

unvoted_at_1 : ¬ HasVoteAt holding 0 1 first_tick
unvoted_at_1 = newest_unvoted holding 1 [] first_vote refl

unvoted_at_3 : (k : ℕ) → k ≡ 3 → ¬ HasVoteAt holding 0 k held_once
unvoted_at_3 k at = newest_unvoted holding k misled (silent_vote two_stale) at

-- ---- what an entry rests on

last_at_2 : (j : ℕ) → HasVoteAt holding 0 j held_once → j ≤ 3 → j ≤ 2
last_at_2 j h low =
    elim (cases_lt 2 j) [
      | inl later ↦ absurd (unvoted_at_3 j (omega (arith, later, low)) h)
      | inr before ↦ before
    ]

rests_on_2 : RestsOn holding held_once (entry 3 43202 (lock.Holdover 1) cause.Held) 2
rests_on_2 = record {
  vote = later_vote_at_2;
  last = last_at_2;
  unbroken = λ i from low. refl;
  age = 1;
  back = refl;
  near = omega arith;
  voted = λ now. absurd (omega (arith, now));
  held = λ some. (refl, refl);
}

-- not on a vote that is not the last, nor by another age or another cause
not_on_1 : (e : Entry) → e.reader ≡ 0 → e.edge ≡ 3 → ¬ RestsOn holding held_once e 1
not_on_1 e reader edge h =
    let vote : HasVoteAt holding e.reader 2 held_once = rw reader later_vote_at_2 in
    omega (arith, h.last 2 vote (omega (arith, edge)))

not_older : ¬ RestsOn holding held_once (entry 3 43202 (lock.Holdover 2) cause.Held) 2
not_older h =
    let age : h.age ≡ 1 = omega (arith, h.back) in
    let is : lock.Holdover 2 ≡ lock.Holdover h.age = (h.held (omega (arith, age))).0 in
    let same : 2 ≡ h.age = cc in
    omega (arith, same, age)

not_voted : ¬ RestsOn holding held_once (entry 3 43202 (lock.Holdover 1) cause.Voted) 2
not_voted h = let is : cause.Voted ≡ cause.Held = (h.held (omega (arith, h.back))).1 in cc

not_locked : ¬ RestsOn holding misled (entry 2 43201 (lock.Holdover 1) cause.Voted) 2
not_locked h = let is : lock.Holdover 1 ≡ lock.Locked = (h.voted (omega (arith, h.back))).0 in cc

-- nor over a restart, nor past the holdover
not_over_restart : (e : Entry) → e.reader ≡ 0 → e.edge ≡ 3 → ¬ RestsOn holding (Tick 0 ∷ Restart 0 ∷ misled) e 2
not_over_restart e reader edge h =
    let broken : is_restarted e.reader (Tick 0 ∷ Restart 0 ∷ misled) 2 ≡ true = rw reader refl in
    false≢true (sym (h.unbroken 2 (omega arith) (omega (arith, edge))) ∙ broken)

not_past_holdover : (said : Report) → ¬ RestsOn (plant 3) held_once (record (entry 3 43202 lock.Locked cause.Held) { report = said }) 2
not_past_holdover said h = omega (arith, h.near, h.back)

rests : RestsOnAVote holding held_once (entry 3 43202 (lock.Holdover 1) cause.Held)
rests = record { rests = λ u says. (2, rests_on_2) }

unvoted_until_1 : (e : Entry) (k : ℕ) → e.reader ≡ 0 → e.edge ≡ 1 → ¬ RestsOn holding first_tick e k
unvoted_until_1 e k reader edge h =
    let at : k ≡ 1 = omega (arith, h.vote.edge, h.back, edge) in
    unvoted_at_1 (subst (λ (j : ℕ). HasVoteAt holding 0 j first_tick) at (subst (λ (r : ℕ). HasVoteAt holding r k first_tick) reader h.vote))

rests_on_none : ¬ RestsOnAVote holding first_tick (entry 1 43201 lock.Locked cause.Voted)
rests_on_none h = let on = h.rests (at 43201) refl in unvoted_until_1 _ on.0 refl refl on.1

later_majority_at_2 : HasFalseMajority holding 0 2 held_once
later_majority_at_2 = record { later = Tick 0 ∷ []; earlier = two_stale; tick = refl; edge = refl; claim = claim_0; ports = both_heard; untrue = untrue_at_2 }

rests_on_majority : RestsOnItsMajority holding held_once (entry 3 43202 (lock.Holdover 1) cause.Held)
rests_on_majority = record { false_second = λ true_table untrue. (2, rests_on_2, later_majority_at_2) }

empty_table : IsTrueTable noon (table 0 [])
empty_table = empty_true noon (omega arith)

rests_on_no_majority : ¬ RestsOnItsMajority holding first_tick (entry 1 43202 (lock.Holdover 1) cause.Held)
rests_on_no_majority h =
    let on = h.false_second (inl empty_table) (false_at_1 (lock.Holdover 1) cause.Held) in
    unvoted_until_1 _ on.0 refl refl on.1

-- ---- clean since

-- the third tick and the fourth are clean, and the second is not
clean_to_4 : IsCleanBetween holding 0 2 4 held_twice
clean_to_4 = record { ticks = each }
  where
    each : (later earlier : List Event) → held_twice ≡ later ++ (Tick 0 ∷ earlier) → 2 ≤ ticks_of 0 earlier → ticks_of 0 earlier < 4 → IsCleanNow holding 0 earlier
    each [] earlier is from low = let same : held_once ≡ earlier = cc in subst (IsCleanNow holding 0) same (none_clean misled)
    each (x ∷ []) earlier is from low = let same : misled ≡ earlier = cc in subst (IsCleanNow holding 0) same (none_clean two_stale)
    each (x ∷ y ∷ later) earlier is from low =
        let rest : misled ≡ later ++ (Tick 0 ∷ earlier) = cc in
        absurd (omega (arith, from, ap (ticks_of 0) rest, ticks_grow 0 later (Tick 0 ∷ earlier), ticks_now 0 earlier))

unclean_from_1 : ¬ IsCleanBetween holding 0 1 4 held_twice
unclean_from_1 h = two_unclean (h.ticks (Tick 0 ∷ Tick 0 ∷ []) two_stale refl (omega arith) (omega arith))

-- an unclean tick that is later does not matter
clean_to_1 : IsCleanBetween holding 0 0 1 misled
clean_to_1 = record { ticks = each }
  where
    each : (later earlier : List Event) → misled ≡ later ++ (Tick 0 ∷ earlier) → 0 ≤ ticks_of 0 earlier → ticks_of 0 earlier < 1 → IsCleanNow holding 0 earlier
    each [] earlier is from low = let same : two_stale ≡ earlier = cc in absurd (omega (arith, low, ap (ticks_of 0) same))
    each (x ∷ []) earlier is from low = absurd (let same : ◌≡◌ {A = Event} (Replay 1 0 0) (Tick 0) = cc in cc)
    each (x ∷ y ∷ []) earlier is from low = absurd (let same : ◌≡◌ {A = Event} (Replay 0 0 0) (Tick 0) = cc in cc)
    each (x ∷ y ∷ z ∷ []) earlier is from low = let same : [] ≡ earlier = cc in subst (IsCleanNow holding 0) same first_clean
    each (x ∷ y ∷ z ∷ w ∷ later) earlier is from low =
        let rest : [] ≡ later ++ (Tick 0 ∷ earlier) = cc in
        absurd (omega (arith, ap (ticks_of 0) rest, ticks_grow 0 later (Tick 0 ∷ earlier), ticks_now 0 earlier))

-- ---- the fourth entry is false, and the last one that can be

abbrev pub fourth : Entry
fourth = entry_of holding 0 held_once

false_at_4 : ¬ IsTruthful noon fourth
unfolding second_at
false_at_4 h =
    let is : ◌≡◌ {A = Option UtcSecond} (Some (at 43204)) (Some (at 43203)) = h.second (at 43203) (ap (λ (r : Report). r.announce) says_4) in
    let same : at 43204 ≡ at 43203 = cc in
    omega (arith, ap (λ (u : UtcSecond). u.sod) same)

clean_since_2 : IsCleanSince holding 2 held_twice fourth
clean_since_2 = record { timeline = is_timeline; month_ends = inl empty_table; logged = Contains-push (log_of holding held_once) fourth; after = omega arith; clean = clean_to_4 }

not_clean_since_1 : ¬ IsCleanSince holding 1 held_twice fourth
not_clean_since_1 h = unclean_from_1 h.clean

not_clean_since_4 : ¬ IsCleanSince holding 4 held_twice fourth
not_clean_since_4 h = omega (arith, h.after)

pub false_to_the_end : IsFalseToTheEnd holding 2 held_twice fourth
unfolding second_at
false_to_the_end = record {
  events = Tick 0 ∷ Replay 0 0 0 ∷ Replay 1 0 0 ∷ Tick 0 ∷ Tick 0 ∷ Tick 0 ∷ [];
  in_order = refl;
  takes = record {
    timeline = is_timeline;
    generators = record { new = three_generators.new; zones = three_generators.zones };
    readers = are_readers;
    accepted = (refl, (refl, (refl, (refl, (refl, (refl, tt))))));
  };
  since = clean_since_2;
  untrue = false_at_4;
  holds_over = omega arith;
  to_the_end = omega arith;
}
  where
    are_readers : AreReaders (holder ∷ [])
    are_readers = record {
      count = (omega arith, omega arith);
      range = All-cons (λ x. IsReaderRules x.rules) holder [] (record { lock_after = (omega arith, omega arith); holdover = omega arith }) (All-nil (λ x. IsReaderRules x.rules));
    }

-- the bound belongs to the last unclean tick
not_to_the_end : ¬ IsFalseToTheEnd holding 1 held_twice fourth
not_to_the_end h = not_clean_since_1 h.since

-- ---- one unclean tick costs three false seconds, as the reader holds over for two

abbrev second : Entry
second = entry_of holding 0 two_stale

abbrev third : Entry
third = entry_of holding 0 misled

second_false : ¬ IsTruthful noon second
unfolding second_at
second_false h = another (sym (h.second (at 43201) (ap (λ (r : Report). r.announce) says_2)))

third_false : ¬ IsTruthful noon third
unfolding second_at
third_false h =
    let is : ◌≡◌ {A = Option UtcSecond} (Some (at 43203)) (Some (at 43202)) = h.second (at 43202) (ap (λ (r : Report). r.announce) says_3) in
    let same : at 43203 ≡ at 43202 = cc in
    omega (arith, ap (λ (u : UtcSecond). u.sod) same)

abbrev IsFalseOne : ℕ → Type 0
IsFalseOne n = IsFalseEdge holding 0 held_twice n

false_edge_2 : IsFalseOne 2
false_edge_2 = record {
  entry = second;
  logged = Contains-append_left (log_of holding held_once) (fourth ∷ []) second (Contains-append_left (log_of holding misled) (third ∷ []) second (Contains-push (log_of holding two_stale) second));
  reader = refl;
  edge = refl;
  untrue = second_false;
}

false_edge_3 : IsFalseOne 3
false_edge_3 = record {
  entry = third;
  logged = Contains-append_left (log_of holding held_once) (fourth ∷ []) third (Contains-push (log_of holding misled) third);
  reader = refl;
  edge = refl;
  untrue = third_false;
}

false_edge_4 : IsFalseOne 4
false_edge_4 = record { entry = fourth; logged = Contains-push (log_of holding held_once) fourth; reader = refl; edge = refl; untrue = false_at_4 }

three_false : AtLeast 3 IsFalseOne
three_false = record {
  numbers = 2 ∷ 3 ∷ 4 ∷ [];
  rising = (omega arith, (omega arith, (omega arith, tt)));
  such = All-cons IsFalseOne 2 (3 ∷ 4 ∷ []) false_edge_2 (All-cons IsFalseOne 3 (4 ∷ []) false_edge_3 (All-cons IsFalseOne 4 [] false_edge_4 (All-nil IsFalseOne)));
  many = omega arith;
}

-- what has not come is not false
abbrev HasCome : Entry → Type 0
HasCome e = e.edge ≤ ticks_of e.reader held_twice

all_come : All HasCome (log_of holding held_twice)
all_come = log_at holding held_twice HasCome come [] held_twice refl
  where
    come : (r : ℕ) (later ev : List Event) → held_twice ≡ later ++ (Tick r ∷ ev) → HasCome (entry_of holding r ev)
    come r later ev is = omega (arith, ap (ticks_of r) is, ticks_grow r later (Tick r ∷ ev), ticks_now r ev)

no_false_edge_5 : ¬ IsFalseOne 5
no_false_edge_5 h =
    let four : ticks_of h.entry.reader held_twice ≡ 4 = rw h.reader refl in
    omega (arith, All-contains HasCome (log_of holding held_twice) h.entry all_come h.logged, four, h.edge)

-- the second tick alone has a false majority
lied_at_2_alone : (k : ℕ) → HasFalseMajority holding 0 k held_twice → k ≡ 2
lied_at_2_alone k h = of h.later h.tick
  where
    clean : IsCleanNow holding 0 h.earlier → k ≡ 2
    clean now = absurd (h.untrue (subst (λ (n : ℕ). IsTrueClaim noon n h.claim) (sym h.edge) ((clean_by_ports holding 0 h.earlier).0 now h.claim h.ports)))

    of : (later : List Event) → held_twice ≡ later ++ (Tick 0 ∷ h.earlier) → k ≡ 2
    of [] is = let same : held_once ≡ h.earlier = cc in clean (subst (IsCleanNow holding 0) same (none_clean misled))
    of (x ∷ []) is = let same : misled ≡ h.earlier = cc in clean (subst (IsCleanNow holding 0) same (none_clean two_stale))
    of (x ∷ y ∷ later) is =
        let rest : misled ≡ later ++ (Tick 0 ∷ h.earlier) = cc in
        elim (cases_lt (ticks_of 0 h.earlier) 1) [
          | inl first ↦ clean (clean_to_1.ticks later h.earlier rest (omega arith) first)
          | inr more ↦ omega (arith, more, h.edge, ap (ticks_of 0) rest, ticks_grow 0 later (Tick 0 ∷ h.earlier), ticks_now 0 h.earlier)
        ]

one_majority : AtMost 1 (λ k. HasFalseMajority holding 0 k held_twice)
one_majority [] rising lied = omega arith
one_majority (k ∷ []) rising lied = omega arith
one_majority (k ∷ j ∷ ks) rising lied = absurd (omega (arith, rising.1.0, lied_at_2_alone k (lied 0 k (omega arith)), lied_at_2_alone j (lied 1 j (omega arith))))

-- ---- clean ticks alone

first_clean_so_far : IsCleanBetween holding 0 0 1 first_tick
first_clean_so_far = record {
  ticks = λ later earlier is from low. subst (IsCleanNow holding 0) (sym (the_newest 0 [] later earlier is (omega arith))) first_clean;
}

true_if_clean : IsTrueIfClean holding first_tick (entry 1 43201 (lock.Holdover 1) cause.Held)
true_if_clean = record { second = λ true_table clean. true_at_1 (lock.Holdover 1) cause.Held }

false_though_clean : ¬ IsTrueIfClean holding first_tick (entry 1 43202 (lock.Holdover 1) cause.Held)
false_though_clean h = false_at_1 (lock.Holdover 1) cause.Held (h.second (inl empty_table) first_clean_so_far)

-- and the fourth entry may be false, as the second tick is unclean
false_if_unclean : IsTrueIfClean holding held_twice fourth
false_if_unclean = record { second = λ true_table clean. absurd (two_unclean (clean.ticks (Tick 0 ∷ Tick 0 ∷ []) two_stale refl (omega arith) (omega arith))) }
