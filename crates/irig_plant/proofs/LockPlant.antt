-- A plant that is healthy from 23:58:59 of 2016-12-31 on, a day that ends with a leap second,
-- whatever the rules of its reader. At 23:59:59 the reader is locked, and two of the three
-- generators no longer tell of the leap. Newest events come first.
use Rattle.std.specs.Prelude.{replicate, is_some, nat_lt}
use Rattle.std.proofs.Common.{◌≡◌, ℕ, ◌+◌, ◌<◌, ◌≤◌, true, false, List, [], ◌∷◌, ◌++◌, Option, Some, None, refl, sym, ap, subst, ◌∙◌, inl, inr, arith}
use Rattle.std.proofs.lemmas.Bool.{cases_Bool, le-ltb}
use Rattle.std.proofs.lemmas.List.Elements.{All-nil, All-cons}
use Rattle.irig_time.specs.declared.second.UtcSecond.{UtcSecond}
use Rattle.irig_time.specs.declared.leap.Leap.TheVariants as leap
use Rattle.irig_time.specs.declared.mark.Mark.TheVariants.{NoLeap}
use Rattle.irig_time.specs.declared.claim.Claim.{Claim}
use Rattle.irig_time.specs.Timelines.{TimelineValue, times, second_at, truth_at}
use Rattle.irig_time.specs.TimelineFaults.{IsTimeline}
use Rattle.irig_time.specs.Tables.{TableValue, table}
use Rattle.irig_time.proofs.StandardFacts.{known_month_end}
use Rattle.irig_gen.specs.declared.fault.GenFault.TheVariants.{NoPending}
use Rattle.irig_gen.specs.Frames.{GeneratorValue}
use Rattle.irig_gen.specs.Sent.{frame_of, sent_of}
use Rattle.irig_hold.specs.Steps.{HoldValue}
use Rattle.irig_port.specs.declared.told.Told.{Told}
use Rattle.irig_port.specs.declared.told.Told.TheVariants as tells
use Rattle.irig_port.specs.Told.{told_of_widths}
use Rattle.irig_vote.specs.declared.redundancy.Redundancy.TheVariants.{Three}
use Rattle.irig_vote.specs.declared.votes.Tells.{Tells}
use Rattle.irig_vote.specs.Vote.{vote_of}
use Rattle.irig_reader.specs.declared.report.Report.{Report}
use Rattle.irig_reader.specs.declared.rules.ReaderRules.{ReaderRules}
use Rattle.irig_reader.specs.declared.rule.State.{State}
use Rattle.irig_reader.specs.declared.rule.State.TheVariants.{Locked}
use Rattle.irig_reader.specs.Rule.{step_of, state_of}
use Rattle.irig_reader.specs.Rules.{IsReaderRules}
use Rattle.irig_reader.specs.History.{told_at_tick, vote_at_tick}
use Rattle.irig_plant.specs.declared.event.Event.{Event}
use Rattle.irig_plant.specs.declared.event.Event.TheVariants.{Tick, Carry, Fault}
use Rattle.irig_plant.specs.declared.setup.ReaderSetup.{ReaderSetup}
use Rattle.irig_plant.specs.Widths.{widths_of}
use Rattle.irig_plant.specs.Schedule.{Setup, setup, no_generator, generator_at, pulses_sent, heard_at, ticks_of, votes_of, history_of, entry_of}
use Rattle.irig_plant.specs.Runs.{events_after, AreAccepted}
use Rattle.irig_plant.specs.Audits.{is_untrue, untrue_ports}
use Rattle.irig_vote.specs.Counts.{AtMost}
use Rattle.irig_plant.specs.Ports.{IsUntruePort}
use Rattle.irig_plant.specs.Premises.{IsKeptUpTo, HasTrueTable, IsKept}
use Rattle.irig_plant.specs.WholeSecond.{second_of}
use Rattle.irig_plant.specs.HealthyPlant.{seconds_of, IsHealthyPlant, healthy_report}
use Rattle.irig_plant.specs.Misled.{IsMisled}
use Rattle.irig_plant.proofs.NoonPlants.{rules, is_generator, told_nothing, three_generators}
use Rattle.irig_plant.proofs.Headline.{harmless}
use Rattle.irig_plant.proofs.KeptLaws.{empty_true}
use Rattle.irig_plant.proofs.TableLaws.{test_by_true}
use Rattle.irig_plant.proofs.PortLaws.{few_untrue}
use Rattle.irig_plant.proofs.FrameLaws.{true_frame_told}
use Rattle.irig_plant.proofs.HealthLaws.{faulted_frame_kept}
use Rattle.irig_plant.proofs.SteadyLaws.{announced_locked}
use Rattle.irig_plant.proofs.SecondEvents.{after_both}
use Rattle.irig_plant.proofs.HealthyTicks.{AllHealthy, kept_by_health, says_healthy}
use Rattle.irig_plant.proofs.HealthyLaws.{HasHealthyLog, from_start, one_second, second_accepted, both_accepted, takes_seconds, is_there}

abbrev at : ℕ → UtcSecond
at sod = record { day = 6209; sod = sod }

abbrev pub new_year : UtcSecond
new_year = record { day = 6210; sod = 0 }

-- 23:59:60 is inserted
abbrev leaping : TimelineValue
leaping = times (at 86339) ((6209, leap.Insert) ∷ [])

-- and is not
abbrev leapless : TimelineValue
leapless = times (at 86339) []

leaping_is : IsTimeline leaping
leaping_is = record { sound = rw known_month_end refl }

leapless_is : IsTimeline leapless
leapless_is = record { sound = refl }

second_59 : second_at leaping 59 ≡ Some (at 86398)
unfolding second_at
second_59 = refl

second_60 : second_at leaping 60 ≡ Some (at 86399)
unfolding second_at
second_60 = refl

second_61 : second_at leaping 61 ≡ Some (at 86400)
unfolding second_at
second_61 = refl

-- ---- without the bit a frame of 23:59:59 says that no leap comes

abbrev false_claim : Claim
false_claim = record { at = at 86399; mark = NoLeap }

leapless_truth : truth_at leapless 60 ≡ Some false_claim
unfolding second_at
leapless_truth = rw known_month_end refl

-- it is the frame of a day without a leap
same_frame : frame_of (Some NoPending) no_generator leaping 60 ≡ frame_of None no_generator leapless 60
unfolding frame_of second_at
same_frame = refl

told_false : told_of_widths rules (widths_of (frame_of (Some NoPending) no_generator leaping 60)) ≡ tells.Claim false_claim
told_false = ap (λ o. told_of_widths rules (widths_of o)) same_frame ∙ true_frame_told no_generator leapless 60 false_claim is_generator leapless_is leapless_truth

sent_faulted : (x : GeneratorValue) → x.fault ≡ Some NoPending → sent_of x leaping ≡ frame_of (Some NoPending) x leaping x.edge
unfolding sent_of
sent_faulted x fault = rw fault refl

-- ---- two of three ports tell it, and one nothing

abbrev tells_of : Told → Told → Told → Told → Told → Tells
tells_of a b c d e = record { a = a; b = b; c = c; d = d; e = e }

two_tell : (d e : Told) → vote_of (tells_of (tells.Claim false_claim) (tells.Claim false_claim) tells.Silence d e) Three ≡ Some false_claim
unfolding vote_of
two_tell d e = refl

two_vote : (a b c d e : Told) → a ≡ tells.Claim false_claim → b ≡ tells.Claim false_claim → c ≡ tells.Silence → vote_of (tells_of a b c d e) Three ≡ Some false_claim
two_vote a b c d e first second third = rw (first, second, third) (two_tell d e)

two_at_most : (truth : Option Claim) (a b c : Told) → c ≡ tells.Silence → untrue_ports truth (a ∷ b ∷ c ∷ []) ≤ 2
two_at_most truth a b c silent =
    elim (cases_Bool (is_untrue truth a)) [
      | inl p ↦ elim (cases_Bool (is_untrue truth b)) [ inl q ↦ rw (silent, p, q) (omega arith) | inr q ↦ rw (silent, p, q) (omega arith) ]
      | inr p ↦ elim (cases_Bool (is_untrue truth b)) [ inl q ↦ rw (silent, p, q) (omega arith) | inr q ↦ rw (silent, p, q) (omega arith) ]
    ]

abbrev nothing : TableValue
nothing = table 0 []

module _ (reader_rules : ReaderRules) (in_range : IsReaderRules reader_rules) where
  abbrev reader : ReaderSetup
  reader = record { rules = reader_rules; table = nothing }

  abbrev pub plant : Setup
  plant = setup leaping (replicate 3 no_generator) rules (reader ∷ [])

  healthy : IsHealthyPlant plant
  healthy = record {
    timeline = leaping_is;
    generators = record { new = three_generators.new; zones = three_generators.zones };
    readers = record {
      count = (omega arith, omega arith);
      range = All-cons (λ x. IsReaderRules x.rules) reader [] in_range (All-nil (λ x. IsReaderRules x.rules));
    };
    tables = All-cons (HasTrueTable leaping) reader [] (test_by_true leaping nothing (empty_true leaping (omega arith))) (All-nil (HasTrueTable leaping));
  }

  -- a locked reader goes by the mark of the vote
  false_step : (h : HoldValue) → h.last ≡ at 86399 → (step_of reader_rules nothing (Locked h) (Some false_claim)).report.announce ≡ Some new_year
  unfolding step_of
  false_step h last = rw (last, known_month_end) refl

  -- ---- where sixty seconds leave it

  record IsSixtyOn (ev : List Event) : Type 0 where
    ticks : ticks_of 0 ev ≡ 60
    empty : (p : ℕ) → heard_at plant 0 p ev ≡ []
    edges : (g : ℕ) → g < 3 → (generator_at plant g ev).edge ≡ 60
    hold : HoldValue
    locked : state_of reader_rules nothing (votes_of plant 0 ev) ≡ Locked hold
    last : hold.last ≡ at 86399
    kept : IsKept plant ev

  abbrev one_more : List Event → List Event
  one_more before = events_after (second_of 3 1) before

  -- the last of its ticks told 23:59:59
  sixty_on : (before : List Event) → HasHealthyLog plant healthy 60 (one_more before) → IsSixtyOn (one_more before)
  sixty_on before h =
      let carried : List Event = Carry 2 0 ∷ Carry 1 0 ∷ Carry 0 0 ∷ before in
      let edge : ticks_of 0 carried + 1 ≡ 60 = h.at.ticks 0 (omega arith) in
      let all : AllHealthy plant (Tick 0 ∷ carried) = h.healthy in
      let says : (entry_of plant 0 carried).report ≡ healthy_report leaping reader_rules (ticks_of 0 carried + 1) = says_healthy plant healthy 0 carried all (at 86399) (ap (second_at leaping) edge ∙ second_60) in
      let late : nat_lt 60 reader_rules.lock_after ≡ false = le-ltb 60 reader_rules.lock_after in_range.lock_after.1 in
      let tells_59 : (healthy_report leaping reader_rules 60).announce ≡ Some (at 86399) = rw late second_60 in
      let announces : (entry_of plant 0 carried).report.announce ≡ Some (at 86399) =
      ap (λ (r : Report). r.announce) says ∙ ap (λ (n : ℕ). (healthy_report leaping reader_rules n).announce) edge ∙ tells_59 in
      let locked = announced_locked reader_rules nothing (votes_of plant 0 carried) (vote_at_tick (history_of plant 0 carried)) (at 86399) announces in
      record {
        ticks = edge;
        empty = λ p. h.at.empty 0 p (omega arith);
        edges = λ g low. h.at.edges g low;
        hold = locked.0;
        locked = locked.1;
        last = locked.2;
        kept = kept_by_health plant healthy (one_more before) h.healthy;
      }

  -- ---- two generators forget the leap

  abbrev tail : List Event
  tail = Fault 0 NoPending ∷ Fault 1 NoPending ∷ Carry 0 0 ∷ Carry 1 0 ∷ Tick 0 ∷ []

  module _ (ev : List Event) (on : IsSixtyOn ev) where
    abbrev forgetful : List Event
    forgetful = Fault 1 NoPending ∷ Fault 0 NoPending ∷ ev

    abbrev carried_false : List Event
    carried_false = Carry 1 0 ∷ Carry 0 0 ∷ forgetful

    sends_false : (g : ℕ) → (generator_at plant g forgetful).fault ≡ Some NoPending → (generator_at plant g forgetful).edge ≡ 60 → generator_at plant g [] ≡ no_generator
        → told_of_widths rules (pulses_sent plant g forgetful) ≡ tells.Claim false_claim
    sends_false g fault edge made =
        let x = generator_at plant g forgetful in
        let frame : sent_of x leaping ≡ frame_of (Some NoPending) no_generator leaping 60 =
        sent_faulted x fault ∙ ap (frame_of (Some NoPending) x leaping) edge ∙ faulted_frame_kept (Some NoPending) plant g forgetful 60 ∙ ap (λ y. frame_of (Some NoPending) y leaping 60) made in
        ap (λ o. told_of_widths rules (widths_of o)) frame ∙ told_false

    told_a : told_of_widths rules (heard_at plant 0 0 carried_false) ≡ tells.Claim false_claim
    told_a = ap (λ w. told_of_widths rules (w ++ pulses_sent plant 0 forgetful)) (on.empty 0) ∙ sends_false 0 refl (on.edges 0 (omega arith)) refl

    told_b : told_of_widths rules (heard_at plant 0 1 carried_false) ≡ tells.Claim false_claim
    told_b = ap (λ w. told_of_widths rules (w ++ pulses_sent plant 1 forgetful)) (on.empty 1) ∙ sends_false 1 refl (on.edges 1 (omega arith)) refl

    told_c : told_of_widths rules (heard_at plant 0 2 carried_false) ≡ tells.Silence
    told_c = ap (told_of_widths rules) (on.empty 2) ∙ told_nothing

    false_vote : vote_at_tick (history_of plant 0 carried_false) ≡ Some false_claim
    false_vote = let told = told_at_tick (history_of plant 0 carried_false) in two_vote told.a told.b told.c told.d told.e told_a told_b told_c

    few : AtMost 2 (IsUntruePort plant 0 carried_false)
    few =
        let told = told_at_tick (history_of plant 0 carried_false) in
        (few_untrue plant 0 carried_false 2).0 (two_at_most (truth_at leaping (ticks_of 0 carried_false)) told.a told.b told.c told_c)

    says_false : (entry_of plant 0 carried_false).report.announce ≡ Some new_year
    says_false =
        ap (λ (vote : Option Claim). (step_of reader_rules nothing (state_of reader_rules nothing (votes_of plant 0 ev)) vote).report.announce) false_vote
        ∙ ap (λ (state : State). (step_of reader_rules nothing state (Some false_claim)).report.announce) on.locked ∙ false_step on.hold on.last

    untrue : ¬ (second_at leaping (ticks_of 0 carried_false + 1) ≡ Some new_year)
    untrue e =
        let same : ◌≡◌ {A = Option UtcSecond} (Some (at 86400)) (Some new_year) = sym second_61 ∙ ap (λ (n : ℕ). second_at leaping (n + 1)) (sym on.ticks) ∙ e in
        let is : at 86400 ≡ new_year = cc in
        omega (arith, ap (λ (u : UtcSecond). u.sod) is)

    still_kept : (e : Event) (es : List Event) → ((r : ℕ) → ¬ (e ≡ Tick r)) → ((r n : ℕ) → IsKeptUpTo plant r n es) → (r n : ℕ) → IsKeptUpTo plant r n (e ∷ es)
    still_kept e es other kept r n = (harmless plant r n e es (λ is. absurd (other r is))).1 (kept r n)

    kept : IsKept plant carried_false
    kept = record {
      tables = on.kept.tables;
      ticks = still_kept (Carry 1 0) (Carry 0 0 ∷ forgetful) (λ r e. cc) (still_kept (Carry 0 0) forgetful (λ r e. cc) (still_kept (Fault 1 NoPending) (Fault 0 NoPending ∷ ev) (λ r e. cc) (still_kept (Fault 0 NoPending) ev (λ r e. cc) on.kept.ticks)));
    }

    tail_accepted : AreAccepted plant tail ev
    tail_accepted = (refl, (refl, (refl, (refl, (rw (on.ticks, second_60) refl, tt)))))

  -- ---- all of it

  there_at : (n k : ℕ) (u : UtcSecond) → n ≡ k → second_at leaping k ≡ Some u → is_some (second_at leaping n) ≡ true
  there_at n k u same e = ap (λ (m : ℕ). is_some (second_at leaping m)) same ∙ is_there (second_at leaping k) u e

  misled_after : (n : ℕ) → n ≡ 59 → (ev : List Event) × IsMisled plant ev 0 new_year
  misled_after n same =
      let before : List Event = events_after (seconds_of plant n) [] in
      let next : n + 1 ≡ 60 = omega (arith, same) in
      let here : is_some (second_at leaping n) ≡ true = there_at n 59 (at 86398) same second_59 in
      let there : is_some (second_at leaping (n + 1)) ≡ true = there_at (n + 1) 60 (at 86399) next second_60 in
      let log = from_start plant healthy n here in
      let log_60 : HasHealthyLog plant healthy 60 (one_more before) = subst (λ (k : ℕ). HasHealthyLog plant healthy k (one_more before)) next (one_second plant healthy n before log there) in
      let on : IsSixtyOn (one_more before) = sixty_on before log_60 in (
        carried_false (one_more before) on,
        record {
          events = seconds_of plant n ++ (second_of 3 1 ++ tail);
          in_order = after_both (seconds_of plant n) (second_of 3 1 ++ tail) [];
          takes = record {
            timeline = leaping_is;
            generators = healthy.generators;
            readers = healthy.readers;
            accepted = both_accepted plant (seconds_of plant n) (second_of 3 1 ++ tail) [] ((takes_seconds plant n healthy).1 here)
                (both_accepted plant (second_of 3 1) tail before ((second_accepted plant healthy.generators n before log.at here).1 there) (tail_accepted (one_more before) on));
          };
          kept = kept (one_more before) on;
          few = few (one_more before) on;
          says = says_false (one_more before) on;
          untrue = untrue (one_more before) on;
        },
      )

  pub locked_misled : (ev : List Event) × IsMisled plant ev 0 new_year
  locked_misled = misled_after 59 refl
