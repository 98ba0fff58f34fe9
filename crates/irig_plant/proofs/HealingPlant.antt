-- A plant worked by hand from noon of 2000-01-31 on: at one edge two of three ports hear an old
-- frame, so that the reader is misled. Then it either holds over to the end, or is healed by the
-- next votes. Newest events come first.
use Rattle.std.specs.Prelude.{replicate}
use Rattle.std.proofs.Common.{◌≡◌, ℕ, List, [], ◌∷◌, Option, Some, None, Result, Ok, refl, ap, ◌∙◌}
use Rattle.irig_time.specs.declared.second.UtcSecond.{UtcSecond}
use Rattle.irig_time.specs.declared.mark.Mark.TheVariants.{Unspoken}
use Rattle.irig_time.specs.declared.claim.Claim.{Claim}
use Rattle.irig_time.specs.Timelines.{second_at, truth_at}
use Rattle.irig_time.specs.TimelineFaults.{IsTimeline}
use Rattle.irig_time.specs.Tables.{table, table_mark}
use Rattle.irig_time.specs.Next.{next_of}
use Rattle.irig_time.proofs.StandardFacts.{known_first_end}
use Rattle.irig_gen.specs.Sent.{frame_of}
use Rattle.irig_hold.specs.declared.hold.Turn.{Turn}
use Rattle.irig_hold.specs.declared.hold.Turn.TheVariants as turn
use Rattle.irig_hold.specs.Steps.{HoldValue, Outcome, hold_value, hold_or_stop, hold_start, outcome_of, alone_by}
use Rattle.irig_port.specs.declared.told.Told.TheVariants as tells
use Rattle.irig_port.specs.Told.{told_of_widths}
use Rattle.irig_vote.specs.Vote.{vote_of}
use Rattle.irig_reader.specs.declared.report.Lock.TheVariants as lock
use Rattle.irig_reader.specs.declared.report.Cause.TheVariants as cause
use Rattle.irig_reader.specs.declared.rule.State.{State}
use Rattle.irig_reader.specs.declared.rule.State.TheVariants.{Idle, Locked}
use Rattle.irig_reader.specs.declared.rule.Step.{Step}
use Rattle.irig_reader.specs.Rule.{stop_step, announce_step, first_vote_step, holdover_step, step_of, state_of}
use Rattle.irig_reader.specs.History.{vote_at_tick, report_at_tick}
use Rattle.irig_plant.specs.declared.event.Event.{Event}
use Rattle.irig_plant.specs.declared.event.Event.TheVariants.{Tick, Replay}
use Rattle.irig_plant.specs.declared.setup.ReaderSetup.{ReaderSetup}
use Rattle.irig_plant.specs.Widths.{widths_of}
use Rattle.irig_plant.specs.Schedule.{Setup, setup, no_generator, votes_of, history_of}
use Rattle.irig_plant.specs.Exactly.{announcement, silence}
use Rattle.irig_plant.proofs.FrameLaws.{true_frame_told}
use Rattle.irig_plant.proofs.NoonPlants.{at, noon, rules, is_generator, claim_0, told_0, told_nothing, two_stale}

-- a reader that locks after one vote and holds over for two edges
abbrev pub holder : ReaderSetup
holder = record { rules = record { lock_after = 1; holdover = 2 }; table = table 0 [] }

-- of three generators
abbrev pub holding : Setup
holding = setup noon (replicate 3 no_generator) rules (holder ∷ [])

pub is_timeline : IsTimeline noon
is_timeline = record { sound = refl }

-- its second tick, at which two ports have heard the frame of edge 0, and two more without a frame
abbrev pub misled : List Event
misled = Tick 0 ∷ two_stale

abbrev pub held_once : List Event
held_once = Tick 0 ∷ misled

abbrev pub held_twice : List Event
held_twice = Tick 0 ∷ held_once

-- or two more with two true frames each
abbrev pub third_carried : List Event
third_carried = Replay 1 0 2 ∷ Replay 0 0 2 ∷ misled

abbrev pub fourth_carried : List Event
fourth_carried = Replay 1 0 3 ∷ Replay 0 0 3 ∷ Tick 0 ∷ third_carried

-- ---- what the ports tell

abbrev pub claim_of : ℕ → Claim
claim_of sod = record { at = at sod; mark = Unspoken }

pub truth_1 : truth_at noon 1 ≡ Some (claim_of 43201)
unfolding second_at
truth_1 = rw known_first_end refl

truth_2 : truth_at noon 2 ≡ Some (claim_of 43202)
unfolding second_at
truth_2 = rw known_first_end refl

truth_3 : truth_at noon 3 ≡ Some (claim_of 43203)
unfolding second_at
truth_3 = rw known_first_end refl

pub told_2 : told_of_widths rules (widths_of (frame_of None no_generator noon 2)) ≡ tells.Claim (claim_of 43202)
told_2 = true_frame_told no_generator noon 2 (claim_of 43202) is_generator is_timeline truth_2

told_3 : told_of_widths rules (widths_of (frame_of None no_generator noon 3)) ≡ tells.Claim (claim_of 43203)
told_3 = true_frame_told no_generator noon 3 (claim_of 43203) is_generator is_timeline truth_3

-- ---- the votes

pub first_vote : vote_at_tick (history_of holding 0 []) ≡ None
unfolding vote_of
first_vote = rw told_nothing refl

pub stale_vote : vote_at_tick (history_of holding 0 two_stale) ≡ Some claim_0
unfolding vote_of
stale_vote = rw (told_0, told_nothing) refl

pub silent_vote : (ev : List Event) → vote_at_tick (history_of holding 0 (Tick 0 ∷ ev)) ≡ None
unfolding vote_of
silent_vote ev = rw told_nothing refl

pub third_vote : vote_at_tick (history_of holding 0 third_carried) ≡ Some (claim_of 43202)
unfolding vote_of
third_vote = rw (told_2, told_nothing) refl

pub fourth_vote : vote_at_tick (history_of holding 0 fourth_carried) ≡ Some (claim_of 43203)
unfolding vote_of
fourth_vote = rw (told_3, told_nothing) refl

-- ---- the hold, from the old second on

unspoken : table_mark (table 0 []) 30 ≡ Unspoken
unspoken = rw known_first_end refl

next_1 : next_of (at 43200) Unspoken ≡ Some (at 43201)
next_1 = rw known_first_end refl

next_2 : next_of (at 43201) Unspoken ≡ Some (at 43202)
next_2 = rw known_first_end refl

next_3 : next_of (at 43202) Unspoken ≡ Some (at 43203)
next_3 = rw known_first_end refl

next_4 : next_of (at 43203) Unspoken ≡ Some (at 43204)
next_4 = rw known_first_end refl

abbrev hold : ℕ → ℕ → HoldValue
hold sod age = hold_value (at sod) age Unspoken

started : hold_start (table 0 []) claim_0 ≡ Ok (hold 43201 0)
started = ap (hold_or_stop (at 43200) 0 Unspoken) (ap (next_of (at 43200)) unspoken ∙ next_1)

started_anew : hold_start (table 0 []) (claim_of 43203) ≡ Ok (hold 43204 0)
started_anew = ap (hold_or_stop (at 43203) 0 Unspoken) (ap (next_of (at 43203)) unspoken ∙ next_4)

alone_1 : alone_by (table 0 []) (hold 43201 0) 2 ≡ record { answer = turn.Now (at 43202); new = hold 43202 1 }
alone_1 = ap (λ (o : Option UtcSecond). outcome_of (hold 43201 0) (hold_or_stop (at 43201) 1 Unspoken o)) (ap (next_of (at 43201)) unspoken ∙ next_2)

alone_2 : alone_by (table 0 []) (hold 43202 1) 2 ≡ record { answer = turn.Now (at 43203); new = hold 43203 2 }
alone_2 = ap (λ (o : Option UtcSecond). outcome_of (hold 43202 1) (hold_or_stop (at 43202) 2 Unspoken o)) (ap (next_of (at 43202)) unspoken ∙ next_3)

abbrev step : State → Option Claim → Step
step state vote = step_of holder.rules (table 0 []) state vote

idle : step Idle None ≡ stop_step cause.NoVote
unfolding step_of
idle = refl

misled_step : step Idle (Some claim_0) ≡ announce_step (hold 43201 0) (at 43201) lock.Locked cause.Voted
unfolding step_of
misled_step = ap (λ (h : Result HoldValue Turn). first_vote_step holder.rules h) started

held_step_1 : step (Locked (hold 43201 0)) None ≡ announce_step (hold 43202 1) (at 43202) (lock.Holdover 1) cause.Held
unfolding step_of
held_step_1 = ap (λ (o : Outcome). holdover_step o) alone_1

held_step_2 : step (Locked (hold 43202 1)) None ≡ announce_step (hold 43203 2) (at 43203) (lock.Holdover 2) cause.Held
unfolding step_of
held_step_2 = ap (λ (o : Outcome). holdover_step o) alone_2

-- the true claim of edge 3 is not that of the second at which the reader stands
jump_step : step (Locked (hold 43201 0)) (Some (claim_of 43202)) ≡ stop_step cause.Jump
unfolding step_of
jump_step = refl

healed_step : step Idle (Some (claim_of 43203)) ≡ announce_step (hold 43204 0) (at 43204) lock.Locked cause.Voted
unfolding step_of
healed_step = ap (λ (h : Result HoldValue Turn). first_vote_step holder.rules h) started_anew

-- ---- where it stands

abbrev stands : List (Option Claim) → State
stands votes = state_of holder.rules (table 0 []) votes

abbrev one_vote : List (Option Claim)
one_vote = Some claim_0 ∷ None ∷ []

at_1 : stands (None ∷ []) ≡ Idle
at_1 = ap (λ (x : Step). x.state) idle

at_2 : stands one_vote ≡ Locked (hold 43201 0)
at_2 = ap (λ (x : State). (step x (Some claim_0)).state) at_1 ∙ ap (λ (x : Step). x.state) misled_step

at_3 : stands (None ∷ one_vote) ≡ Locked (hold 43202 1)
at_3 = ap (λ (x : State). (step x None).state) at_2 ∙ ap (λ (x : Step). x.state) held_step_1

jumped_at_3 : stands (Some (claim_of 43202) ∷ one_vote) ≡ Idle
jumped_at_3 = ap (λ (x : State). (step x (Some (claim_of 43202))).state) at_2 ∙ ap (λ (x : Step). x.state) jump_step

-- ---- what is announced

says : (ev : List Event) (votes : List (Option Claim)) (vote : Option Claim) (state : State) (now : Step) → votes_of holding 0 ev ≡ votes → vote_at_tick (history_of holding 0 ev) ≡ vote → stands votes ≡ state → step state vote ≡ now
    → report_at_tick (history_of holding 0 ev) ≡ now.report
says ev votes vote state now before here at is =
    ap (λ (vs : List (Option Claim)). (step (stands vs) (vote_at_tick (history_of holding 0 ev))).report) before ∙ ap (λ (v : Option Claim). (step (stands votes) v).report) here
    ∙ ap (λ (x : State). (step x vote).report) at ∙ ap (λ (x : Step). x.report) is

-- T(2) is 43202, T(3) 43203 and T(4) 43204
pub says_2 : report_at_tick (history_of holding 0 two_stale) ≡ announcement (at 43201) lock.Locked cause.Voted
says_2 = says two_stale (None ∷ []) (Some claim_0) Idle _ (rw first_vote refl) stale_vote at_1 misled_step

pub says_3 : report_at_tick (history_of holding 0 misled) ≡ announcement (at 43202) (lock.Holdover 1) cause.Held
says_3 = says misled one_vote None (Locked (hold 43201 0)) _ (rw (stale_vote, first_vote) refl) (silent_vote two_stale) at_2 held_step_1

pub says_4 : report_at_tick (history_of holding 0 held_once) ≡ announcement (at 43203) (lock.Holdover 2) cause.Held
says_4 = says held_once (None ∷ one_vote) None (Locked (hold 43202 1)) _ (rw (silent_vote two_stale, stale_vote) refl) (silent_vote misled) at_3 held_step_2

-- with votes it jumps, and then tells the true second
pub jumps_3 : report_at_tick (history_of holding 0 third_carried) ≡ silence lock.Unlocked cause.Jump
jumps_3 = says third_carried one_vote (Some (claim_of 43202)) (Locked (hold 43201 0)) _ (rw (stale_vote, first_vote) refl) third_vote at_2 jump_step

pub healed_4 : report_at_tick (history_of holding 0 fourth_carried) ≡ announcement (at 43204) lock.Locked cause.Voted
healed_4 = says fourth_carried (Some (claim_of 43202) ∷ one_vote) (Some (claim_of 43203)) Idle _ (rw (third_vote, stale_vote, first_vote) refl) fourth_vote jumped_at_3 healed_step
