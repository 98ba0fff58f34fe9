-- The reader's rule keeps to the truth: by true votes a reader that stands at T(n), or nowhere,
-- goes to T(n + 1), or nowhere.
use Rattle.std.proofs.Common.{◌≡◌, ◌==◌, ◌⊎◌, ℕ, ◌+◌, Option, Some, None, Result, Ok, Err, refl, sym, ◌∙◌, subst, inl, inr}
use Rattle.std.specs.Prelude.{nat_le}
use Rattle.std.proofs.lemmas.Bool.{cases_Bool}
use Rattle.irig_time.specs.declared.second.UtcSecond.{UtcSecond}
use Rattle.irig_time.specs.declared.mark.Mark.{Mark}
use Rattle.irig_time.specs.declared.claim.Claim.{Claim}
use Rattle.irig_time.specs.Next.{next_of}
use Rattle.irig_time.specs.Timelines.{TimelineValue, IsSecond, IsTrueClaim, truth_at}
use Rattle.irig_time.specs.TimelineFaults.{IsTimeline}
use Rattle.irig_time.specs.Tables.{TableValue, spoken_mark}
use Rattle.irig_time.proofs.SecondAt.{claim_is}
use Rattle.irig_hold.specs.declared.hold.Turn.{Turn}
use Rattle.irig_hold.specs.declared.hold.Turn.TheVariants as turn
use Rattle.irig_hold.specs.Steps.{HoldValue, stop_on, hold_or_stop, outcome_of, hold_start, voted_by, alone_by}
use Rattle.irig_hold.specs.Truth.{IsTrueTable, IsOnTime, HasComeTo}
use Rattle.irig_hold.proofs.HoldLaws.{voted_true, alone_true, started_true, voted_no_jump, voted_stops, started_stops, alone_end}
use Rattle.irig_reader.specs.declared.rules.ReaderRules.{ReaderRules}
use Rattle.irig_reader.specs.declared.report.Lock.{Lock}
use Rattle.irig_reader.specs.declared.report.Lock.TheVariants as lock
use Rattle.irig_reader.specs.declared.report.Cause.{Cause}
use Rattle.irig_reader.specs.declared.report.Cause.TheVariants as cause
use Rattle.irig_reader.specs.declared.rule.State.{State}
use Rattle.irig_reader.specs.declared.rule.State.TheVariants.{Idle, Acquiring, Locked}
use Rattle.irig_reader.specs.declared.rule.Step.{Step}
use Rattle.irig_reader.specs.Rule.{stop_step, announce_step, count_step, cause_of, first_vote_step, later_vote_step_by, locked_step, step_of}
use Rattle.irig_reader.specs.Standing.{StandsAtTruth}
use Rattle.irig_reader.proofs.StepCases.{locked_cases, count_cases, first_cases, later_cases}

-- there is no T(n)
abbrev Ends : TimelineValue → ℕ → Type 0
Ends t n = (v : UtcSecond) → ¬ IsSecond t n v

-- a cause that is no false alarm at edge n
pub record IsTrueCause (t : TimelineValue) (n : ℕ) (c : Cause) : Type 0 where
  pub jump : ¬ (c ≡ cause.Jump)
  pub range_end : c ≡ cause.RangeEnd → Ends t n

-- a step that leads to T(n), or nowhere, announces no other second, and tells a true cause
pub record IsTrueStep (t : TimelineValue) (n : ℕ) (step : Step) : Type 0 where
  pub state : StandsAtTruth t n step.state
  pub says : (u : UtcSecond) → step.report.announce ≡ Some u → IsSecond t n u
  pub calm : IsTrueCause t n step.report.cause

stopped_true : (t : TimelineValue) (n : ℕ) (c : Cause) → IsTrueCause t n c → IsTrueStep t n (stop_step c)
stopped_true t n c calm = record { state = tt; says = λ u e. absurd cc; calm = calm }

announced_true : (t : TimelineValue) (n : ℕ) (h : HoldValue) (u : UtcSecond) (l : Lock) (c : Cause) → IsOnTime t n h → h.last ≡ u → IsTrueCause t n c → IsTrueStep t n (announce_step h u l c)
announced_true t n h u l c on_time last calm = record {
  state = on_time;
  says = λ v e. let same : h.last ≡ v = cc in subst (IsSecond t n) same on_time.last;
  calm = calm;
}

counted_true : (t : TimelineValue) (n : ℕ) (reader_rules : ReaderRules) (h : HoldValue) (count : ℕ) → IsOnTime t n h → IsTrueStep t n (count_step reader_rules h count)
counted_true t n reader_rules h count on_time =
    count_cases (IsTrueStep t n) reader_rules h count (λ enough. announced_true t n h h.last lock.Locked cause.Voted on_time refl (record { jump = λ e. cc; range_end = λ e. absurd cc }))
    (λ more. record { state = on_time; says = λ u e. absurd cc; calm = record { jump = λ e. cc; range_end = λ e. absurd cc } })

-- ---- a hold's stops

-- a stop that is no jump, and is the end of the range only if there is no T(n)
halted_true : (t : TimelineValue) (n : ℕ) (stop : Turn) → ¬ (stop ≡ turn.Jump) → (stop ≡ turn.RangeEnd → Ends t n) → IsTrueStep t n (stop_step (cause_of stop))
halted_true t n (turn.Now u) no_jump ends = stopped_true t n cause.Held (record { jump = λ e. cc; range_end = λ e. absurd cc })
halted_true t n turn.Jump no_jump ends = absurd (no_jump refl)
halted_true t n turn.LeapGuard no_jump ends = stopped_true t n cause.LeapGuard (record { jump = λ e. cc; range_end = λ e. absurd cc })
halted_true t n turn.Expired no_jump ends = stopped_true t n cause.Expired (record { jump = λ e. cc; range_end = λ e. absurd cc })
halted_true t n turn.RangeEnd no_jump ends = stopped_true t n cause.RangeEnd (record { jump = λ e. cc; range_end = λ e. ends refl })

no_vote_true : (t : TimelineValue) (n : ℕ) → IsTrueStep t n (stop_step cause.NoVote)
no_vote_true t n = stopped_true t n cause.NoVote (record { jump = λ e. cc; range_end = λ e. absurd cc })

stop_no_jump : (day : ℕ) → ¬ (stop_on day ≡ turn.Jump)
stop_no_jump day e =
    elim (cases_Bool (day == 36523)) [
      | inl last ↦ let both : turn.RangeEnd ≡ turn.Jump = rw last at e in cc
      | inr before ↦ let both : turn.LeapGuard ≡ turn.Jump = rw before at e in cc
    ]

step_no_jump : (h : HoldValue) (u : UtcSecond) (age : ℕ) (mark : Mark) (o : Option UtcSecond) → ¬ ((outcome_of h (hold_or_stop u age mark o)).answer ≡ turn.Jump)
step_no_jump h u age mark None e = stop_no_jump u.day e
step_no_jump h u age mark (Some v) e = cc

pub start_no_jump : (u : UtcSecond) (age : ℕ) (mark : Mark) (o : Option UtcSecond) → ¬ (hold_or_stop u age mark o ≡ Err turn.Jump)
start_no_jump u age mark None e = let stop : stop_on u.day ≡ turn.Jump = cc in stop_no_jump u.day stop
start_no_jump u age mark (Some v) e = cc

pub alone_no_jump : (table : TableValue) (h : HoldValue) (limit : ℕ) → ¬ ((alone_by table h limit).answer ≡ turn.Jump)
alone_no_jump table h limit e =
    elim (cases_Bool (nat_le limit h.age)) [
      | inl long ↦ let both : turn.Expired ≡ turn.Jump = rw long at e in cc
      | inr short ↦ step_no_jump h h.last (h.age + 1) h.heard (next_of h.last (spoken_mark table h.heard h.last.day)) (rw short at e)
    ]

-- ---- what a hold answers

-- the hold begins at T(n), or there is none
pub record BeginsTrue (t : TimelineValue) (n : ℕ) (first : Result HoldValue Turn) : Type 0 where
  pub begins : (h : HoldValue) → first ≡ Ok h → IsOnTime t n h
  pub no_jump : ¬ (first ≡ Err turn.Jump)
  pub ends : first ≡ Err turn.RangeEnd → Ends t n

-- the hold comes to T(n), or stops
pub record AnswersTrue (t : TimelineValue) (n : ℕ) (answer : Turn) (h : HoldValue) : Type 0 where
  pub comes : (u : UtcSecond) → answer ≡ turn.Now u → HasComeTo t n u h
  pub no_jump : ¬ (answer ≡ turn.Jump)
  pub ends : answer ≡ turn.RangeEnd → Ends t n

begun_true : (t : TimelineValue) (n : ℕ) (reader_rules : ReaderRules) (first : Result HoldValue Turn) → BeginsTrue t n first → IsTrueStep t n (first_vote_step reader_rules first)
begun_true t n reader_rules first is =
    first_cases (IsTrueStep t n) reader_rules first (λ h e. counted_true t n reader_rules h 1 (is.begins h e)) (λ stop e. halted_true t n stop (λ jump. is.no_jump cc) (λ end. is.ends cc))

joined_true : (t : TimelineValue) (n : ℕ) (reader_rules : ReaderRules) (count : ℕ) (anew : Step) (answer : Turn) (h : HoldValue) → IsTrueStep t n anew → AnswersTrue t n answer h
    → IsTrueStep t n (later_vote_step_by reader_rules count anew answer h)
joined_true t n reader_rules count anew answer h first answered =
    later_cases (IsTrueStep t n) reader_rules count anew answer h first (λ u e. counted_true t n reader_rules h (count + 1) (answered.comes u e).on_time)
    (λ stop e. halted_true t n stop (λ jump. answered.no_jump (e ∙ jump)) (λ end. answered.ends (e ∙ end)))

locked_true : (t : TimelineValue) (n : ℕ) (l : Lock) (c : Cause) (answer : Turn) (h : HoldValue) → IsTrueCause t n c → AnswersTrue t n answer h → IsTrueStep t n (locked_step l c answer h)
locked_true t n l c answer h calm answered =
    locked_cases (IsTrueStep t n) l c answer h (λ u e. announced_true t n h u l c (answered.comes u e).on_time (answered.comes u e).last calm)
    (λ stop e. halted_true t n stop (λ jump. answered.no_jump (e ∙ jump)) (λ end. answered.ends (e ∙ end)))

starts : (t : TimelineValue) (n : ℕ) (table : TableValue) (c : Claim) → IsTimeline t → IsTrueClaim t (n + 1) c → BeginsTrue t (n + 1) (hold_start table c)
starts t n table c sound claim = record {
  begins = λ h e. started_true t table n c h sound claim e;
  no_jump = start_no_jump c.at 0 c.mark (next_of c.at (spoken_mark table c.mark c.at.day));
  ends = (started_stops t table n c sound claim).1.0;
}

follows : (t : TimelineValue) (n : ℕ) (table : TableValue) (h : HoldValue) (c : Claim) → IsTimeline t → IsTrueClaim t (n + 1) c → IsOnTime t n h
    → AnswersTrue t (n + 1) (voted_by table h c).answer (voted_by table h c).new
follows t n table h c sound claim on_time = record {
  comes = λ u e. voted_true t table n h c u sound on_time claim e;
  no_jump = voted_no_jump t table n h c on_time.last claim;
  ends = (voted_stops t table n h c sound on_time.last claim).1.0;
}

goes_alone : (t : TimelineValue) (n limit : ℕ) (table : TableValue) (h : HoldValue) → IsTimeline t → IsTrueTable t table → IsOnTime t n h
    → AnswersTrue t (n + 1) (alone_by table h limit).answer (alone_by table h limit).new
goes_alone t n limit table h sound true_table on_time = record {
  comes = λ u e. alone_true t table n limit h u sound true_table on_time e;
  no_jump = alone_no_jump table h limit;
  ends = λ e. ((alone_end t table n limit h sound on_time.last).0 e).1;
}

-- ---- one edge

-- by no vote
alone_step : (t : TimelineValue) (n : ℕ) (reader_rules : ReaderRules) (table : TableValue) (state : State) → IsTimeline t → IsTrueTable t table → StandsAtTruth t n state
    → IsTrueStep t (n + 1) (step_of reader_rules table state None)
unfolding step_of
alone_step t n reader_rules table Idle sound true_table on_time = no_vote_true t (n + 1)
alone_step t n reader_rules table (Acquiring h count) sound true_table on_time = no_vote_true t (n + 1)
alone_step t n reader_rules table (Locked h) sound true_table on_time =
    locked_true t (n + 1) _ cause.Held (alone_by table h reader_rules.holdover).answer (alone_by table h reader_rules.holdover).new (record { jump = λ e. cc; range_end = λ e. absurd cc })
    (goes_alone t n reader_rules.holdover table h sound true_table on_time)

-- by a true vote
voted_step : (t : TimelineValue) (n : ℕ) (reader_rules : ReaderRules) (table : TableValue) (state : State) (c : Claim) → IsTimeline t → IsTrueClaim t (n + 1) c → StandsAtTruth t n state
    → IsTrueStep t (n + 1) (step_of reader_rules table state (Some c))
unfolding step_of
voted_step t n reader_rules table Idle c sound claim on_time = begun_true t (n + 1) reader_rules (hold_start table c) (starts t n table c sound claim)
voted_step t n reader_rules table (Acquiring h count) c sound claim on_time =
    joined_true t (n + 1) reader_rules count _ (voted_by table h c).answer (voted_by table h c).new (begun_true t (n + 1) reader_rules (hold_start table c) (starts t n table c sound claim))
    (follows t n table h c sound claim on_time)
voted_step t n reader_rules table (Locked h) c sound claim on_time =
    locked_true t (n + 1) _ cause.Voted (voted_by table h c).answer (voted_by table h c).new (record { jump = λ e. cc; range_end = λ e. absurd cc }) (follows t n table h c sound claim on_time)

-- by a vote that is none or the true one
pub step_true : (t : TimelineValue) (n : ℕ) (reader_rules : ReaderRules) (table : TableValue) (state : State) (vote : Option Claim) → IsTimeline t → IsTrueTable t table → StandsAtTruth t n state
    → (vote ≡ None) ⊎ (vote ≡ truth_at t n) → IsTrueStep t (n + 1) (step_of reader_rules table state vote)
step_true t n reader_rules table state None sound true_table at vote = alone_step t n reader_rules table state sound true_table at
step_true t n reader_rules table state (Some c) sound true_table at (inl none) = absurd cc
step_true t n reader_rules table state (Some c) sound true_table at (inr truth) = voted_step t n reader_rules table state c sound ((claim_is t n c).0 (sym truth)) at
