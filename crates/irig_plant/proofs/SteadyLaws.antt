-- A locked reader goes from second to second by marks that its votes or its table gave.
use Rattle.std.specs.Prelude.{◌==◌, ◌&&◌, nat_le, ⊤}
use Rattle.std.proofs.Common.{◌≡◌, ℕ, ◌+◌, Bool, true, false, cond, List, [], ◌∷◌, ◌++◌, Option, Some, None, Result, Ok, Err, ◌⊎◌, inl, inr, refl, sym, ap, subst, ◌∙◌, eqb-true, arith}
use Rattle.std.proofs.lemmas.Bool.{cases_Bool, eq-eqb}
use Rattle.std.proofs.lemmas.List.Elements.{Contains-append_right}
use Rattle.irig_time.specs.declared.second.UtcSecond.{UtcSecond}
use Rattle.irig_time.specs.declared.mark.Mark.{Mark}
use Rattle.irig_time.specs.declared.mark.Mark.TheVariants.{Unspoken, NoLeap, Insert, Delete}
use Rattle.irig_time.specs.declared.claim.Claim.{Claim}
use Rattle.irig_time.specs.Seconds.{same_second}
use Rattle.irig_time.specs.Tables.{TableValue, table_mark, spoken_mark}
use Rattle.irig_time.specs.Next.{next_of}
use Rattle.irig_hold.specs.declared.hold.Turn.{Turn}
use Rattle.irig_hold.specs.declared.hold.Turn.TheVariants as turn
use Rattle.irig_hold.specs.Steps.{HoldValue, mark_kept, hold_or_stop, hold_step, hold_start, outcome_of, mark_or}
use Rattle.irig_reader.specs.declared.rules.ReaderRules.{ReaderRules}
use Rattle.irig_reader.specs.declared.report.Lock.{Lock}
use Rattle.irig_reader.specs.declared.report.Lock.TheVariants as lock
use Rattle.irig_reader.specs.declared.report.Cause.{Cause}
use Rattle.irig_reader.specs.declared.report.Cause.TheVariants as cause
use Rattle.irig_reader.specs.declared.rule.State.{State}
use Rattle.irig_reader.specs.declared.rule.State.TheVariants.{Idle, Acquiring, Locked}
use Rattle.irig_reader.specs.declared.rule.Step.{Step}
use Rattle.irig_reader.specs.Rule.{announce_step, count_step, first_vote_step, later_vote_step_by, locked_step, step_of, state_of, report_of}
use Rattle.irig_reader.specs.History.{vote_at_tick}
use Rattle.irig_plant.specs.declared.event.Event.{Event}
use Rattle.irig_plant.specs.declared.event.Event.TheVariants.{Tick}
use Rattle.irig_plant.specs.Schedule.{Setup, setup_at, votes_of, history_of, entry_of}
use Rattle.irig_plant.specs.Hearing.{hearing_of}
use Rattle.irig_plant.proofs.HearingLaws.{votes_heard_alike}
use Rattle.irig_plant.specs.Steadiness.{IsVotedMark, FollowsByMark}

-- what a hold heard was said by a vote for its day
abbrev IsHeard : List (Option Claim) → ℕ → Mark → Type 0
IsHeard votes day mark = (mark ≡ Unspoken) ⊎ IsVotedMark votes day mark

abbrev Sourced : List (Option Claim) → HoldValue → Type 0
Sourced votes h = IsHeard votes h.last.day h.heard

abbrev SourcedState : List (Option Claim) → State → Type 0
SourcedState votes Idle = ⊤
SourcedState votes (Acquiring h count) = Sourced votes h
SourcedState votes (Locked h) = Sourced votes h

-- a step of a hold goes on by the mark that was heard, or that of the table
abbrev Stepped : TableValue → List (Option Claim) → UtcSecond → Result HoldValue Turn → Type 0
Stepped table votes from (Ok h) = FollowsByMark table votes from h.last × Sourced votes h
Stepped table votes from (Err (turn.Now u)) = ⊥
Stepped table votes from (Err _) = ⊤

stops : (table : TableValue) (votes : List (Option Claim)) (from : UtcSecond) (last : Bool) → Stepped table votes from (Err (cond last turn.RangeEnd turn.LeapGuard))
stops table votes from true = tt
stops table votes from false = tt

heard_kept : (votes : List (Option Claim)) (from to : ℕ) (heard : Mark) → IsHeard votes from heard → IsHeard votes to (mark_kept from to heard)
heard_kept votes from to heard h =
    elim (cases_Bool (from == to)) [
      | inl same ↦ rw same (subst (λ (day : ℕ). IsHeard votes day heard) (eqb-true from to same) h)
      | inr other ↦ rw other (inl refl)
    ]

voted_given : (table : TableValue) (votes : List (Option Claim)) (day : ℕ) (mark : Mark) → IsHeard votes day mark → ¬ (mark ≡ Unspoken) → (mark ≡ table_mark table day) ⊎ IsVotedMark votes day mark
voted_given table votes day mark (inl none) spoken = absurd (spoken none)
voted_given table votes day mark (inr voted) spoken = inr voted

given : (table : TableValue) (votes : List (Option Claim)) (day : ℕ) (heard : Mark) → IsHeard votes day heard → (spoken_mark table heard day ≡ table_mark table day) ⊎ IsVotedMark votes day (spoken_mark table heard day)
given table votes day Unspoken h = inl refl
given table votes day NoLeap h = voted_given table votes day NoLeap h (λ e. cc)
given table votes day Insert h = voted_given table votes day Insert h (λ e. cc)
given table votes day Delete h = voted_given table votes day Delete h (λ e. cc)

step_goes : (table : TableValue) (votes : List (Option Claim)) (from : UtcSecond) (age : ℕ) (heard : Mark) → IsHeard votes from.day heard → Stepped table votes from (hold_step table from age heard)
step_goes table votes from age heard h = by_next (next_of from (spoken_mark table heard from.day)) refl
  where
    by_next : (o : Option UtcSecond) → next_of from (spoken_mark table heard from.day) ≡ o → Stepped table votes from (hold_or_stop from age heard o)
    by_next None e = stops table votes from (from.day == 36523)
    by_next (Some to) e = (record { mark = spoken_mark table heard from.day; given = given table votes from.day heard h; next = e }, heard_kept votes from.day to.day heard h)

-- ---- what is said at a step

-- it announces the second to which its hold has come, if it announces one
record Says (votes : List (Option Claim)) (P : UtcSecond → Type 0) (step : Step) : Type 0 where
  state : SourcedState votes step.state
  second : (u : UtcSecond) → step.report.announce ≡ Some u → (h : HoldValue) × (step.state ≡ Locked h) × (h.last ≡ u) × P u

silent_says : (votes : List (Option Claim)) (P : UtcSecond → Type 0) (step : Step) → SourcedState votes step.state → step.report.announce ≡ None → Says votes P step
silent_says votes P step sourced none = record { state = sourced; second = λ u e. let clash : ◌≡◌ {A = Option UtcSecond} None (Some u) = sym none ∙ e in absurd cc }

announced_says : (votes : List (Option Claim)) (P : UtcSecond → Type 0) (h : HoldValue) (l : Lock) (c : Cause) → Sourced votes h → P h.last → Says votes P (announce_step h h.last l c)
announced_says votes P h l c sourced p = record {
  state = sourced;
  second = λ u e. let same : h.last ≡ u = cc in (h, refl, same, subst P same p);
}

locked_says : (table : TableValue) (votes : List (Option Claim)) (from h : HoldValue) (l : Lock) (c : Cause) (r : Result HoldValue Turn) → Stepped table votes from.last r
    → Says votes (FollowsByMark table votes from.last) (locked_step l c (outcome_of h r).answer (outcome_of h r).new)
locked_says table votes from h l c (Ok new) s = announced_says votes (FollowsByMark table votes from.last) new l c s.1 s.0
locked_says table votes from h l c (Err (turn.Now u)) s = absurd s
locked_says table votes from h l c (Err turn.LeapGuard) s = silent_says votes _ _ tt refl
locked_says table votes from h l c (Err turn.Expired) s = silent_says votes _ _ tt refl
locked_says table votes from h l c (Err turn.RangeEnd) s = silent_says votes _ _ tt refl
locked_says table votes from h l c (Err turn.Jump) s = silent_says votes _ _ tt refl

-- ---- one step of the rule

more_heard : (vote : Option Claim) (votes : List (Option Claim)) (day : ℕ) (mark : Mark) → IsHeard votes day mark → IsHeard (vote ∷ votes) day mark
more_heard vote votes day mark (inl none) = inl none
more_heard vote votes day mark (inr h) = inr (record { claim = h.claim; vote = Contains-append_right (vote ∷ []) votes (Some h.claim) h.vote; day_is = h.day_is; mark_is = h.mark_is })

heard_now : (c : Claim) (votes : List (Option Claim)) (day : ℕ) → c.at.day ≡ day → IsHeard (Some c ∷ votes) day c.mark
heard_now c votes day is = inr (record { claim = c; vote = (0, omega arith, refl); day_is = is; mark_is = refl })

heard_either : (votes : List (Option Claim)) (day : ℕ) (a b : Mark) → IsHeard votes day a → IsHeard votes day b → IsHeard votes day (mark_or a b)
heard_either votes day Unspoken b h k = k
heard_either votes day NoLeap b h k = h
heard_either votes day Insert b h k = h
heard_either votes day Delete b h k = h

both_days : (a b : Bool) → (a && b) ≡ true → a ≡ true
both_days true b e = refl
both_days false b e = e

-- where it was locked, what it announces follows from where it stood
abbrev Goes : TableValue → List (Option Claim) → State → UtcSecond → Type 0
Goes table votes (Locked h) u = FollowsByMark table votes h.last u
Goes table votes Idle u = ⊤
Goes table votes (Acquiring h count) u = ⊤

alone_says : (reader_rules : ReaderRules) (table : TableValue) (votes : List (Option Claim)) (h : HoldValue) → Sourced votes h → Says (None ∷ votes) (Goes table (None ∷ votes) (Locked h)) (step_of reader_rules table (Locked h) None)
unfolding step_of
alone_says reader_rules table votes h sourced =
    elim (cases_Bool (nat_le reader_rules.holdover h.age)) [
      | inl late ↦ rw late (silent_says (None ∷ votes) _ _ tt refl)
      | inr young ↦ rw young (locked_says table (None ∷ votes) h h _ cause.Held (hold_step table h.last (h.age + 1) h.heard)
          (step_goes table (None ∷ votes) h.last (h.age + 1) h.heard (more_heard None votes h.last.day h.heard sourced)))
    ]

-- what a hold answers to a vote
vote_goes : (table : TableValue) (votes : List (Option Claim)) (h : HoldValue) (c : Claim) → Sourced votes h → same_second c.at h.last ≡ true
    → Stepped table (Some c ∷ votes) h.last (hold_step table h.last 0 (mark_or c.mark h.heard))
vote_goes table votes h c sourced same =
    let day : c.at.day ≡ h.last.day = eqb-true c.at.day h.last.day (both_days (c.at.day == h.last.day) (c.at.sod == h.last.sod) same) in
    step_goes table (Some c ∷ votes) h.last 0 (mark_or c.mark h.heard)
    (heard_either (Some c ∷ votes) h.last.day c.mark h.heard (heard_now c votes h.last.day day) (more_heard (Some c) votes h.last.day h.heard sourced))

voted_says : (reader_rules : ReaderRules) (table : TableValue) (votes : List (Option Claim)) (h : HoldValue) (c : Claim) → Sourced votes h → Says (Some c ∷ votes) (Goes table (Some c ∷ votes) (Locked h)) (step_of reader_rules table (Locked h) (Some c))
unfolding step_of
voted_says reader_rules table votes h c sourced =
    elim (cases_Bool (same_second c.at h.last)) [
      | inl same ↦ rw same (locked_says table (Some c ∷ votes) h h lock.Locked cause.Voted (hold_step table h.last 0 (mark_or c.mark h.heard)) (vote_goes table votes h c sourced same))
      | inr other ↦ rw other (silent_says (Some c ∷ votes) _ _ tt refl)
    ]

counted_says : (reader_rules : ReaderRules) (votes : List (Option Claim)) (h : HoldValue) (count : ℕ) → Sourced votes h → Says votes (λ u. ⊤) (count_step reader_rules h count)
counted_says reader_rules votes h count sourced =
    elim (cases_Bool (count == reader_rules.lock_after)) [
      | inl enough ↦ rw enough (announced_says votes (λ u. ⊤) h lock.Locked cause.Voted sourced tt)
      | inr few ↦ rw few (silent_says votes (λ u. ⊤) _ sourced refl)
    ]

first_says : (reader_rules : ReaderRules) (table : TableValue) (votes : List (Option Claim)) (from : UtcSecond) (r : Result HoldValue Turn) → Stepped table votes from r → Says votes (λ u. ⊤) (first_vote_step reader_rules r)
first_says reader_rules table votes from (Ok h) s = counted_says reader_rules votes h 1 s.1
first_says reader_rules table votes from (Err stop) s = silent_says votes (λ u. ⊤) _ tt refl

begun_says : (reader_rules : ReaderRules) (table : TableValue) (votes : List (Option Claim)) (c : Claim) → Says (Some c ∷ votes) (λ u. ⊤) (first_vote_step reader_rules (hold_start table c))
begun_says reader_rules table votes c = first_says reader_rules table (Some c ∷ votes) c.at (hold_start table c) (step_goes table (Some c ∷ votes) c.at 0 c.mark (heard_now c votes c.at.day refl))

later_says : (reader_rules : ReaderRules) (table : TableValue) (votes : List (Option Claim)) (h : HoldValue) (count : ℕ) (anew : Step) (r : Result HoldValue Turn) → Says votes (λ u. ⊤) anew → Stepped table votes h.last r
    → Says votes (λ u. ⊤) (later_vote_step_by reader_rules count anew (outcome_of h r).answer (outcome_of h r).new)
later_says reader_rules table votes h count anew (Ok new) begun s = counted_says reader_rules votes new (count + 1) s.1
later_says reader_rules table votes h count anew (Err (turn.Now u)) begun s = absurd s
later_says reader_rules table votes h count anew (Err turn.Jump) begun s = begun
later_says reader_rules table votes h count anew (Err turn.LeapGuard) begun s = silent_says votes (λ u. ⊤) _ tt refl
later_says reader_rules table votes h count anew (Err turn.Expired) begun s = silent_says votes (λ u. ⊤) _ tt refl
later_says reader_rules table votes h count anew (Err turn.RangeEnd) begun s = silent_says votes (λ u. ⊤) _ tt refl

acquired_says : (reader_rules : ReaderRules) (table : TableValue) (votes : List (Option Claim)) (h : HoldValue) (count : ℕ) (c : Claim) → Sourced votes h → Says (Some c ∷ votes) (λ u. ⊤) (step_of reader_rules table (Acquiring h count) (Some c))
unfolding step_of
acquired_says reader_rules table votes h count c sourced =
    elim (cases_Bool (same_second c.at h.last)) [
      | inl same ↦ rw same (later_says reader_rules table (Some c ∷ votes) h count _ (hold_step table h.last 0 (mark_or c.mark h.heard)) (begun_says reader_rules table votes c) (vote_goes table votes h c sourced same))
      | inr other ↦ rw other (begun_says reader_rules table votes c)
    ]

step_says : (reader_rules : ReaderRules) (table : TableValue) (votes : List (Option Claim)) (state : State) (vote : Option Claim) → SourcedState votes state → Says (vote ∷ votes) (Goes table (vote ∷ votes) state) (step_of reader_rules table state vote)
unfolding step_of
step_says reader_rules table votes Idle None h = silent_says (None ∷ votes) (λ u. ⊤) _ tt refl
step_says reader_rules table votes Idle (Some c) h = begun_says reader_rules table votes c
step_says reader_rules table votes (Acquiring hold count) None h = silent_says (None ∷ votes) (λ u. ⊤) _ tt refl
step_says reader_rules table votes (Acquiring hold count) (Some c) h = acquired_says reader_rules table votes hold count c h
step_says reader_rules table votes (Locked hold) None h = alone_says reader_rules table votes hold h
step_says reader_rules table votes (Locked hold) (Some c) h = voted_says reader_rules table votes hold c h

sourced_by : (reader_rules : ReaderRules) (table : TableValue) (votes : List (Option Claim)) → SourcedState votes (state_of reader_rules table votes)
sourced_by reader_rules table [] = tt
sourced_by reader_rules table (vote ∷ votes) = (step_says reader_rules table votes (state_of reader_rules table votes) vote (sourced_by reader_rules table votes)).state

-- a step that announces leaves the reader locked, at the second that it announces
pub announced_locked : (reader_rules : ReaderRules) (table : TableValue) (votes : List (Option Claim)) (vote : Option Claim) (u : UtcSecond) → (report_of reader_rules table vote votes).announce ≡ Some u
    → (h : HoldValue) × (state_of reader_rules table (vote ∷ votes) ≡ Locked h) × (h.last ≡ u)
announced_locked reader_rules table votes vote u says =
    let at = (step_says reader_rules table votes (state_of reader_rules table votes) vote (sourced_by reader_rules table votes)).second u says in
    (at.0, at.1, at.2)

-- two steps that announce
pub steps_follow : (reader_rules : ReaderRules) (table : TableValue) (votes : List (Option Claim)) (one two : Option Claim) (u v : UtcSecond)
    → (report_of reader_rules table one votes).announce ≡ Some u → (report_of reader_rules table two (one ∷ votes)).announce ≡ Some v → FollowsByMark table (two ∷ one ∷ votes) u v
steps_follow reader_rules table votes one two u v first second =
    let before = (step_says reader_rules table votes (state_of reader_rules table votes) one (sourced_by reader_rules table votes)).second u first in
    let sourced : SourcedState (one ∷ votes) (Locked before.0) = subst (λ (state : State). SourcedState (one ∷ votes) state) before.1 (sourced_by reader_rules table (one ∷ votes)) in
    let says : (step_of reader_rules table (Locked before.0) two).report.announce ≡ Some v = subst (λ (state : State). (step_of reader_rules table state two).report.announce ≡ Some v) before.1 second in
    subst (λ (w : UtcSecond). FollowsByMark table (two ∷ one ∷ votes) w v) before.2 ((step_says reader_rules table (one ∷ votes) (Locked before.0) two sourced).second v says).3

-- ---- a reader's two ticks

votes_at_tick : (s : Setup) (r : ℕ) (ev : List Event) → votes_of s r (Tick r ∷ ev) ≡ vote_at_tick (history_of s r ev) ∷ votes_of s r ev
votes_at_tick s r ev = rw (eq-eqb r r refl) refl

pub ticks_follow : (s : Setup) (r : ℕ) (ev between : List Event) (u v : UtcSecond) → hearing_of s r (between ++ (Tick r ∷ ev)) ≡ hearing_of s r (Tick r ∷ ev)
    → (entry_of s r ev).report.announce ≡ Some u → (entry_of s r (between ++ (Tick r ∷ ev))).report.announce ≡ Some v
    → FollowsByMark (setup_at s.readers r).table (votes_of s r (Tick r ∷ (between ++ (Tick r ∷ ev)))) u v
ticks_follow s r ev between u v same first second =
    let reader_rules = (setup_at s.readers r).rules in
    let table = (setup_at s.readers r).table in
    let later = between ++ (Tick r ∷ ev) in
    let votes : votes_of s r later ≡ vote_at_tick (history_of s r ev) ∷ votes_of s r ev = votes_heard_alike s r later (Tick r ∷ ev) same ∙ votes_at_tick s r ev in
    let says : (report_of reader_rules table (vote_at_tick (history_of s r later)) (vote_at_tick (history_of s r ev) ∷ votes_of s r ev)).announce ≡ Some v =
    subst (λ (vs : List (Option Claim)). (report_of reader_rules table (vote_at_tick (history_of s r later)) vs).announce ≡ Some v) votes second in
    let all : vote_at_tick (history_of s r later) ∷ vote_at_tick (history_of s r ev) ∷ votes_of s r ev ≡ votes_of s r (Tick r ∷ later) =
    ap (λ (vs : List (Option Claim)). vote_at_tick (history_of s r later) ∷ vs) (sym votes) ∙ sym (votes_at_tick s r later) in
    subst (λ (vs : List (Option Claim)). FollowsByMark table vs u v) all
    (steps_follow reader_rules table (votes_of s r ev) (vote_at_tick (history_of s r ev)) (vote_at_tick (history_of s r later)) u v first says)
