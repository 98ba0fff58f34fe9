-- A plant at the end of a month without a leap, whatever the rules of its reader, if it holds over
-- for 58 edges or more. Two ports hear true frames until it locks at 23:59:01, and then none does: all
-- are kept. But its table says that 23:59:59 is deleted. Newest events come first.
use Rattle.std.specs.Prelude.{replicate}
use Rattle.std.proofs.Common.{◌≡◌, ℕ, zero, suc, ◌+◌, ◌-◌, ◌==◌, ◌<◌, ◌≤◌, false, List, [], ◌∷◌, ◌++◌, Option, Some, None, Ok, refl, sym, ap, subst, ◌∙◌, arith}
use Rattle.std.proofs.lemmas.Bool.{eq-eqb, lt-ltb, lt-leb}
use Rattle.std.proofs.lemmas.List.Elements.{All-nil, All-cons}
use Rattle.irig_time.specs.declared.second.UtcSecond.{UtcSecond}
use Rattle.irig_time.specs.declared.leap.Leap.TheVariants as leap
use Rattle.irig_time.specs.declared.mark.Mark.TheVariants.{Unspoken}
use Rattle.irig_time.specs.declared.claim.Claim.{Claim}
use Rattle.irig_time.specs.Timelines.{TimelineValue, times, second_at, truth_at}
use Rattle.irig_time.specs.TimelineFaults.{IsTimeline}
use Rattle.irig_time.specs.Tables.{TableValue, table}
use Rattle.irig_time.proofs.SecondAt.{second_is}
use Rattle.irig_time.proofs.StandardFacts.{known_first_end}
use Rattle.irig_gen.specs.Sent.{frame_of}
use Rattle.irig_hold.specs.Steps.{HoldValue, hold_value, hold_step}
use Rattle.irig_port.specs.declared.told.Told.TheVariants as tells
use Rattle.irig_port.specs.Told.{told_of_widths}
use Rattle.irig_vote.specs.Vote.{vote_of}
use Rattle.irig_reader.specs.declared.rules.ReaderRules.{ReaderRules}
use Rattle.irig_reader.specs.declared.rule.State.{State}
use Rattle.irig_reader.specs.declared.rule.State.TheVariants.{Idle, Acquiring, Locked}
use Rattle.irig_reader.specs.declared.report.Lock.TheVariants as lock
use Rattle.irig_reader.specs.declared.report.Cause.TheVariants as cause
use Rattle.irig_reader.specs.declared.rule.Step.{Step}
use Rattle.irig_reader.specs.Rule.{announce_step, count_step, step_of, state_of}
use Rattle.irig_reader.specs.Rules.{IsReaderRules}
use Rattle.irig_reader.specs.History.{vote_at_tick}
use Rattle.irig_plant.specs.declared.event.Event.{Event}
use Rattle.irig_plant.specs.declared.event.Event.TheVariants.{Tick, Raw}
use Rattle.irig_plant.specs.Widths.{widths_of}
use Rattle.irig_plant.specs.Schedule.{Setup, setup, no_generator, heard_at, ticks_of, votes_of, history_of}
use Rattle.irig_plant.specs.Runs.{events_after, AreAccepted}
use Rattle.irig_plant.specs.Audits.{is_broken_now}
use Rattle.irig_plant.specs.Premises.{IsKeptUpTo}
use Rattle.irig_plant.specs.Misled.{IsMisledByTable}
use Rattle.irig_plant.proofs.FrameLaws.{true_frame_told}
use Rattle.irig_plant.proofs.Headline.{harmless}
use Rattle.irig_plant.proofs.ListLaws.{apart}
use Rattle.irig_plant.proofs.NoonPlants.{at, rules, is_generator, told_nothing, kept_none, kept_tick, three_generators}
use Rattle.irig_plant.proofs.SecondEvents.{after_both}
use Rattle.irig_plant.proofs.HealthyLaws.{both_accepted}

abbrev pub new_month : UtcSecond
new_month = record { day = 31; sod = 0 }

-- the table says of that day that it ends a second early
abbrev deletion : TableValue
deletion = table 30 ((30, leap.Delete) ∷ [])

-- ---- a hold goes on to 23:59:58, and then to the next day

abbrev hold : ℕ → ℕ → HoldValue
hold sod age = hold_value (at sod) age Unspoken

goes_on : (sod next age : ℕ) → sod + 1 ≡ next → sod < 86398 → hold_step deletion (at sod) age Unspoken ≡ Ok (hold next age)
goes_on sod next age is low = rw (known_first_end, lt-ltb sod 86398 low, is) refl

abbrev claim_of : ℕ → Claim
claim_of sod = record { at = at sod; mark = Unspoken }

module _ (reader_rules : ReaderRules) (in_range : IsReaderRules reader_rules) (long : 58 ≤ reader_rules.holdover) where
  abbrev count : ℕ
  count = reader_rules.lock_after

  -- it starts as many seconds before 23:59:01
  abbrev first : ℕ
  first = 86341 - count

  abbrev line : TimelineValue
  line = times (at first) []

  abbrev pub plant : Setup
  plant = setup line (replicate 3 no_generator) rules (record { rules = reader_rules; table = deletion } ∷ [])

  fits : first + count ≡ 86341
  fits = omega (arith, in_range.lock_after.1)

  is_timeline : IsTimeline line
  is_timeline = record { sound = rw (lt-ltb first 86400 (omega (arith, fits))) refl }

  second : (n : ℕ) → n < count + 59 → second_at line n ≡ Some (at (first + n))
  second n low = (second_is line n (at (first + n))).1 (record { from = omega arith; to = omega arith; sod = omega (arith, fits, low); sum = omega arith })

  truth : (k : ℕ) → k < count → truth_at line k ≡ Some (claim_of (first + k))
  truth k low = rw (second k (omega (arith, low)), known_first_end, lt-ltb (first + k) 86341 (omega (arith, fits, low))) refl

  -- the pulses of a true frame
  abbrev frame : ℕ → List ℕ
  frame k = widths_of (frame_of None no_generator line k)

  told : (k : ℕ) → k < count → told_of_widths rules (frame k) ≡ tells.Claim (claim_of (first + k))
  told k low = true_frame_told no_generator line k (claim_of (first + k)) is_generator is_timeline (truth k low)

  -- ---- one step of the rule

  abbrev step : State → Option Claim → Step
  step = step_of reader_rules deletion

  begins : (sod next : ℕ) → sod + 1 ≡ next → sod < 86398 → (step Idle (Some (claim_of sod))).state ≡ (count_step reader_rules (hold next 0) 1).state
  unfolding step_of
  begins sod next is low = rw (goes_on sod next 0 is low) refl

  joins : (sod next n m : ℕ) → sod + 1 ≡ next → n + 1 ≡ m → sod < 86398 → (step (Acquiring (hold sod 0) n) (Some (claim_of sod))).state ≡ (count_step reader_rules (hold next 0) m).state
  unfolding step_of
  joins sod next n m is more low = rw (eq-eqb sod sod refl, goes_on sod next 0 is low, more) refl

  alone : (sod age older : ℕ) (h : HoldValue) → age + 1 ≡ older → age < 58 → hold_step deletion (at sod) older Unspoken ≡ Ok h → step (Locked (hold sod age)) None ≡ announce_step h h.last (lock.Holdover h.age) cause.Held
  unfolding step_of
  alone sod age older h more low goes = rw (lt-leb reader_rules.holdover age (omega (arith, long, low)), more, goes) refl

  -- ---- one tick

  -- where a tick leaves the plant, which took these events with its ports kept
  record IsAt (n : ℕ) (state : State) (ev : List Event) : Type 0 where
    ticks : ticks_of 0 ev ≡ n
    empty : (p : ℕ) → heard_at plant 0 p ev ≡ []
    stands : state_of reader_rules deletion (votes_of plant 0 ev) ≡ state
    events : List Event
    in_order : events_after events [] ≡ ev
    accepted : AreAccepted plant events []
    kept : (q k : ℕ) → IsKeptUpTo plant q k ev

  abbrev Leads : ℕ → State → Type 0
  Leads n state = (ev : List Event) × IsAt n state ev

  no_vote : (ev : List Event) → ((p : ℕ) → heard_at plant 0 p ev ≡ []) → vote_at_tick (history_of plant 0 ev) ≡ None
  unfolding vote_of
  no_vote ev empty = rw (empty 0, empty 1, empty 2, told_nothing) refl

  module _ (n m : ℕ) (state next : State) (ev : List Event) (h : IsAt n state ev) (more : n + 1 ≡ m) where
    ticked : (es before : List Event) (vote : Option Claim) → events_after es ev ≡ Tick 0 ∷ before → AreAccepted plant es ev → ((q k : ℕ) → IsKeptUpTo plant q k before) → is_broken_now plant 0 before ≡ false
        → ticks_of 0 before ≡ n → state_of reader_rules deletion (votes_of plant 0 before) ≡ state → vote_at_tick (history_of plant 0 before) ≡ vote → (step state vote).state ≡ next → IsAt m next (Tick 0 ∷ before)
    ticked es before vote is accepted kept whole ticks stands votes goes = record {
      ticks = omega (arith, more, ticks);
      empty = λ p. refl;
      stands = ap (λ (v : Option Claim). (step (state_of reader_rules deletion (votes_of plant 0 before)) v).state) votes ∙ ap (λ (x : State). (step x vote).state) stands ∙ goes;
      events = h.events ++ es;
      in_order = after_both h.events es [] ∙ ap (events_after es) h.in_order ∙ is;
      accepted = both_accepted plant h.events es [] h.accepted (subst (AreAccepted plant es) (sym h.in_order) accepted);
      kept = λ q k. kept_tick plant 0 q k before whole (kept q k);
    }

    -- two ports heard the frame of the second before
    voting : n < count → (step state (Some (claim_of (first + n)))).state ≡ next → Leads m next
    unfolding vote_of
    voting low goes =
        let heard : List Event = Raw 1 0 (frame n) ∷ Raw 0 0 (frame n) ∷ ev in
        let broken : is_broken_now plant 0 heard ≡ false = rw (h.ticks, truth n low, h.empty 0, h.empty 1, h.empty 2, told n low, told_nothing, eq-eqb (first + n) (first + n) refl) refl in
        let vote : vote_at_tick (history_of plant 0 heard) ≡ Some (claim_of (first + n)) = rw (h.empty 0, h.empty 1, h.empty 2, told n low, told_nothing, eq-eqb (first + n) (first + n) refl) refl in
        let kept : (q k : ℕ) → IsKeptUpTo plant q k heard = λ q k.
        (harmless plant q k (Raw 1 0 (frame n)) (Raw 0 0 (frame n) ∷ ev) (λ e. absurd cc)).1 ((harmless plant q k (Raw 0 0 (frame n)) ev (λ e. absurd cc)).1 (h.kept q k)) in
        let accepted : AreAccepted plant (Raw 0 0 (frame n) ∷ Raw 1 0 (frame n) ∷ Tick 0 ∷ []) ev = (refl, (refl, (rw (h.ticks, second n (omega (arith, low))) refl, tt))) in
        (_, ticked (Raw 0 0 (frame n) ∷ Raw 1 0 (frame n) ∷ Tick 0 ∷ []) heard (Some (claim_of (first + n))) refl accepted kept broken h.ticks h.stands vote goes)

    -- no port heard anything
    silence : n < count + 59 → (step state None).state ≡ next → IsAt m next (Tick 0 ∷ ev)
    silence low = ticked (Tick 0 ∷ []) ev None refl (rw (h.ticks, second n low) refl, tt) h.kept (rw (h.empty 0, h.empty 1, h.empty 2, told_nothing) refl) h.ticks h.stands (no_vote ev h.empty)

  -- ---- many of them

  counting : (k : ℕ) → k < count → Leads (k + 1) (count_step reader_rules (hold (first + (k + 1)) 0) (k + 1)).state
  counting zero low =
      let start : IsAt 0 Idle [] = record { ticks = refl; empty = λ p. refl; stands = refl; events = []; in_order = refl; accepted = tt; kept = kept_none plant } in
      voting 0 1 Idle _ [] start refl low (begins (first + 0) (first + 1) (omega arith) (omega (arith, fits, low)))
  counting (suc k) low =
      let before = counting k (omega (arith, low)) in
      let few : (k + 1 == count) ≡ false = apart (k + 1) count (λ e. omega (arith, e, low)) in
      voting (k + 1) (suc k + 1) (Acquiring (hold (first + (k + 1)) 0) (k + 1)) _ before.0 (rw few at before.1) (omega arith) (omega (arith, low))
      (joins (first + (k + 1)) (first + (suc k + 1)) (k + 1) (suc k + 1) (omega arith) (omega arith) (omega (arith, fits, low)))

  -- locked, it holds over
  holding : (a : ℕ) → a ≤ 57 → Leads (count + a) (Locked (hold (86341 + a) a))
  holding zero low =
      let last = counting (count - 1) (omega (arith, in_range.lock_after.0)) in
      let all : count - 1 + 1 ≡ count = omega (arith, in_range.lock_after.0) in
      let same : count + 0 ≡ count = omega arith in
      (last.0, rw same (rw (all, fits, eq-eqb count count refl) at last.1))
  holding (suc a) low =
      let before = holding a (omega (arith, low)) in
      let over = goes_on (86341 + a) (86341 + suc a) (suc a) (omega arith) (omega (arith, low)) in
      let alone_now = alone (86341 + a) a (suc a) (hold (86341 + suc a) (suc a)) (omega arith) (omega (arith, low)) over in
      (_, silence (count + a) (count + suc a) (Locked (hold (86341 + a) a)) _ before.0 before.1 (omega arith) (omega (arith, low)) (ap (λ (x : Step). x.state) alone_now))

  misled_after : (ev : List Event) → IsAt (count + 57) (Locked (hold 86398 57)) ev → IsMisledByTable plant ev 0 new_month
  misled_after ev h =
      let over = alone 86398 57 58 (hold_value new_month 58 Unspoken) refl (omega arith) (rw known_first_end refl) in
      let last = silence (count + 57) (count + 57 + 1) (Locked (hold 86398 57)) _ ev h refl (omega arith) refl in
      record {
        events = last.events;
        in_order = last.in_order;
        takes = record {
          timeline = is_timeline;
          generators = record { new = three_generators.new; zones = three_generators.zones };
          readers = record { count = (omega arith, omega arith); range = All-cons (λ x. IsReaderRules x.rules) _ [] in_range (All-nil (λ x. IsReaderRules x.rules)) };
          accepted = last.accepted;
        };
        kept = last.kept;
        says = rw (no_vote ev h.empty, h.stands) (ap (λ (x : Step). x.report.announce) over);
        untrue = λ e. omega (arith, fits, h.ticks, ((second_is line (ticks_of 0 ev + 1) new_month).0 e).sum);
      }

  pub misled_by_table : (ev : List Event) × IsMisledByTable plant ev 0 new_month
  misled_by_table = let all = holding 57 (omega arith) in (all.0, misled_after all.0 all.1)
