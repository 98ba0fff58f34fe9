-- Plants of three and of five generators, worked by hand from noon of 2000-01-31 on. Newest events
-- come first. Just one tick at which f + 1 ports are untrue, and a false second is announced.
use Rattle.std.specs.Prelude.{replicate}
use Rattle.std.proofs.Common.{◌≡◌, ℕ, ◌<◌, false, List, [], ◌∷◌, ◌++◌, length, Some, None, Result, Ok, inl, inr, ◌⊎◌, refl, ap, ◌∙◌, arith}
use Rattle.std.proofs.lemmas.List.Elements.{All-nil, All-cons, All-replicate}
use Rattle.irig_control.specs.declared.parity.Parity.TheVariants.{Even}
use Rattle.irig_time.specs.declared.rules.Rules.{Rules}
use Rattle.irig_time.specs.declared.rules.Sense.TheVariants.{Add}
use Rattle.irig_time.specs.declared.rules.SbsUse.TheVariants.{Ignore}
use Rattle.irig_time.specs.declared.second.UtcSecond.{UtcSecond}
use Rattle.irig_time.specs.declared.mark.Mark.TheVariants.{Unspoken}
use Rattle.irig_time.specs.declared.claim.Claim.{Claim}
use Rattle.irig_time.specs.Timelines.{TimelineValue, times, second_at, truth_at}
use Rattle.irig_time.specs.TimelineFaults.{IsTimeline}
use Rattle.irig_time.specs.Tables.{table, table_mark}
use Rattle.irig_time.specs.Next.{next_of}
use Rattle.irig_time.proofs.StandardFacts.{known_first_end}
use Rattle.irig_gen.specs.Refusals.{IsGenerator}
use Rattle.irig_gen.specs.Sent.{frame_of}
use Rattle.irig_port.specs.declared.told.Told.TheVariants as tells
use Rattle.irig_port.specs.Told.{told_of_widths}
use Rattle.irig_port.proofs.ToldLaws.{none_told}
use Rattle.irig_vote.specs.Vote.{vote_of}
use Rattle.irig_reader.specs.declared.report.Lock.TheVariants as lock
use Rattle.irig_reader.specs.declared.report.Cause.TheVariants as cause
use Rattle.irig_reader.specs.declared.report.Report.{Report}
use Rattle.irig_hold.specs.declared.hold.Turn.{Turn}
use Rattle.irig_hold.specs.Steps.{HoldValue, hold_value, hold_or_stop, hold_start}
use Rattle.irig_reader.specs.declared.rule.State.TheVariants.{Idle}
use Rattle.irig_reader.specs.Rule.{first_vote_step, step_of}
use Rattle.irig_reader.specs.Rules.{IsReaderRules}
use Rattle.irig_reader.specs.History.{vote_at_tick, report_at_tick}
use Rattle.irig_plant.specs.declared.event.Event.{Event}
use Rattle.irig_plant.specs.declared.event.Event.TheVariants.{Tick, Replay}
use Rattle.irig_plant.specs.declared.setup.ReaderSetup.{ReaderSetup}
use Rattle.irig_plant.specs.Widths.{widths_of}
use Rattle.irig_plant.specs.Schedule.{Setup, setup, no_generator, ticks_of, history_of}
use Rattle.irig_plant.specs.Audits.{is_broken_now}
use Rattle.irig_vote.specs.Counts.{AtMost}
use Rattle.irig_plant.specs.Ports.{IsUntruePort}
use Rattle.irig_plant.specs.Premises.{IsKeptUpTo, HasTrueTable, IsKept}
use Rattle.irig_plant.specs.Exactly.{announcement}
use Rattle.irig_plant.specs.History.{IsNew, AreReaders}
use Rattle.irig_plant.specs.Health.{HasGenerators}
use Rattle.irig_plant.specs.Misled.{IsMisled}
use Rattle.irig_plant.proofs.Headline.{harmless}
use Rattle.irig_plant.proofs.KeptLaws.{empty_true}
use Rattle.irig_plant.proofs.TableLaws.{test_by_true}
use Rattle.irig_plant.proofs.PortLaws.{few_untrue}
use Rattle.irig_plant.proofs.FrameLaws.{true_frame_told}

abbrev pub at : ℕ → UtcSecond
at sod = record { day = 30; sod = sod }

abbrev pub noon : TimelineValue
noon = times (at 43200) []

abbrev pub rules : Rules
rules = record { parity = Even; sense = Add; sbs = Ignore }

-- a reader that locks after one vote, and has no table
abbrev pub reader : ReaderSetup
reader = record { rules = record { lock_after = 1; holdover = 0 }; table = table 0 [] }

-- so many generators on UTC
abbrev pub plant : ℕ → Setup
plant count = setup noon (replicate count no_generator) rules (reader ∷ [])

is_timeline : IsTimeline noon
is_timeline = record { sound = refl }

pub is_generator : IsGenerator no_generator
is_generator = record { sound = refl }

-- ---- what ports tell of the frame of edge 0, and of nothing

abbrev pub claim_0 : Claim
claim_0 = record { at = at 43200; mark = Unspoken }

truth_0 : truth_at noon 0 ≡ Some claim_0
unfolding second_at
truth_0 = rw known_first_end refl

pub told_0 : told_of_widths rules (widths_of (frame_of None no_generator noon 0)) ≡ tells.Claim claim_0
told_0 = true_frame_told no_generator noon 0 claim_0 is_generator is_timeline truth_0

pub told_nothing : told_of_widths rules [] ≡ tells.Silence
told_nothing = none_told rules [] refl

-- ---- the premise, an event later

pub kept_none : (s : Setup) (r n : ℕ) → IsKeptUpTo s r n []
kept_none s r n = record { ticks = at }
  where
    at : (later earlier : List Event) → [] ≡ later ++ (Tick r ∷ earlier) → ticks_of r earlier < n → is_broken_now s r earlier ≡ false
    at [] earlier is low = absurd cc
    at (x ∷ later) earlier is low = absurd cc

pub kept_tick : (s : Setup) (x r n : ℕ) (ev : List Event) → is_broken_now s x ev ≡ false → IsKeptUpTo s r n ev → IsKeptUpTo s r n (Tick x ∷ ev)
kept_tick s x r n ev unbroken kept = record { ticks = at }
  where
    at : (later earlier : List Event) → Tick x ∷ ev ≡ later ++ (Tick r ∷ earlier) → ticks_of r earlier < n → is_broken_now s r earlier ≡ false
    at [] earlier is low =
        let reader : x ≡ r = cc in
        let rest : ev ≡ earlier = cc in
        rw (← reader, ← rest) unbroken
    at (y ∷ later) earlier is low =
        let rest : ev ≡ later ++ (Tick r ∷ earlier) = cc in
        kept.ticks later earlier rest low

pub kept_replay : (s : Setup) (g x edge r n : ℕ) (ev : List Event) → IsKeptUpTo s r n ev → IsKeptUpTo s r n (Replay g x edge ∷ ev)
kept_replay s g x edge r n ev kept = (harmless s r n (Replay g x edge) ev (λ e. absurd cc)).1 kept

-- ---- the plants can be made

empty_table : HasTrueTable noon reader
empty_table = test_by_true noon (table 0 []) (empty_true noon (omega arith))

has_generators : (count : ℕ) → (count ≡ 3) ⊎ (count ≡ 5) → length (replicate count no_generator) ≡ count → HasGenerators (plant count)
has_generators count some long = record {
  new = record {
    count = elim some [ inl three ↦ inl (long ∙ three) | inr five ↦ inr (long ∙ five) ];
    new = All-replicate (IsNew rules) count no_generator (record { edge = refl; fault = refl; ruled = refl });
  };
  zones = All-replicate IsGenerator count no_generator is_generator;
}

pub three_generators : HasGenerators (plant 3)
three_generators = has_generators 3 (inl refl) refl

are_readers : AreReaders (reader ∷ [])
are_readers = record {
  count = (omega arith, omega arith);
  range = All-cons (λ x. IsReaderRules x.rules) reader [] (record { lock_after = (omega arith, omega arith); holdover = omega arith }) (All-nil (λ x. IsReaderRules x.rules));
}

is_kept : (count : ℕ) (ev : List Event) → ((r n : ℕ) → IsKeptUpTo (plant count) r n ev) → IsKept (plant count) ev
is_kept count ev ticks = record { tables = All-cons (HasTrueTable noon) reader [] empty_table (All-nil (HasTrueTable noon)); ticks = ticks }

-- ---- at the reader's second tick f + 1 of its ports have heard the frame of edge 0

abbrev pub two_stale : List Event
two_stale = Replay 1 0 0 ∷ Replay 0 0 0 ∷ Tick 0 ∷ []

abbrev pub three_stale : List Event
three_stale = Replay 2 0 0 ∷ two_stale

not_second : ¬ (second_at noon 2 ≡ Some (at 43201))
unfolding second_at
not_second e =
    let same : at 43202 ≡ at 43201 = cc in
    omega (arith, ap (λ (u : UtcSecond). u.sod) same)

pub kept_first_of_3 : is_broken_now (plant 3) 0 [] ≡ false
unfolding second_at
kept_first_of_3 = rw told_nothing refl

kept_first_of_5 : is_broken_now (plant 5) 0 [] ≡ false
unfolding second_at
kept_first_of_5 = rw told_nothing refl

few_of_3 : AtMost 2 (IsUntruePort (plant 3) 0 two_stale)
unfolding second_at
few_of_3 = (few_untrue (plant 3) 0 two_stale 2).0 (rw (told_0, told_nothing) (omega arith))

few_of_5 : AtMost 3 (IsUntruePort (plant 5) 0 three_stale)
unfolding second_at
few_of_5 = (few_untrue (plant 5) 0 three_stale 3).0 (rw (told_0, told_nothing) (omega arith))

votes_of_3 : (vote_at_tick (history_of (plant 3) 0 []) ≡ None) × (vote_at_tick (history_of (plant 3) 0 two_stale) ≡ Some claim_0)
unfolding vote_of
votes_of_3 = (rw told_nothing refl, rw (told_0, told_nothing) refl)

votes_of_5 : (vote_at_tick (history_of (plant 5) 0 []) ≡ None) × (vote_at_tick (history_of (plant 5) 0 three_stale) ≡ Some claim_0)
unfolding vote_of
votes_of_5 = (rw told_nothing refl, rw (told_0, told_nothing) refl)

-- the first vote leads to the second after the claim's
unspoken : table_mark (table 0 []) 30 ≡ Unspoken
unspoken = rw known_first_end refl

second_after : next_of (at 43200) Unspoken ≡ Some (at 43201)
second_after = rw known_first_end refl

started : hold_start (table 0 []) claim_0 ≡ Ok (hold_value (at 43201) 0 Unspoken)
started = ap (hold_or_stop (at 43200) 0 Unspoken) (ap (next_of (at 43200)) unspoken ∙ second_after)

first_says : (step_of reader.rules (table 0 []) Idle (Some claim_0)).report ≡ announcement (at 43201) lock.Locked cause.Voted
unfolding step_of
first_says = ap (λ (h : Result HoldValue Turn). (first_vote_step reader.rules h).report) started

says_of_3 : report_at_tick (history_of (plant 3) 0 two_stale) ≡ announcement (at 43201) lock.Locked cause.Voted
unfolding step_of
says_of_3 = rw (votes_of_3.0, votes_of_3.1) first_says

says_of_5 : report_at_tick (history_of (plant 5) 0 three_stale) ≡ announcement (at 43201) lock.Locked cause.Voted
unfolding step_of
says_of_5 = rw (votes_of_5.0, votes_of_5.1) first_says

pub three_misled : IsMisled (plant 3) two_stale 0 (at 43201)
unfolding second_at
three_misled = record {
  events = Tick 0 ∷ Replay 0 0 0 ∷ Replay 1 0 0 ∷ Tick 0 ∷ [];
  in_order = refl;
  takes = record {
    timeline = is_timeline;
    generators = three_generators;
    readers = are_readers;
    accepted = (refl, (refl, (refl, (refl, tt))));
  };
  kept = is_kept 3 two_stale (λ r n.
      kept_replay (plant 3) 1 0 0 r n (Replay 0 0 0 ∷ Tick 0 ∷ [])
      (kept_replay (plant 3) 0 0 0 r n (Tick 0 ∷ []) (kept_tick (plant 3) 0 r n [] kept_first_of_3 (kept_none (plant 3) r n))));
  few = few_of_3;
  says = ap (λ (r : Report). r.announce) says_of_3;
  untrue = not_second;
}

pub five_misled : IsMisled (plant 5) three_stale 0 (at 43201)
unfolding second_at
five_misled = record {
  events = Tick 0 ∷ Replay 0 0 0 ∷ Replay 1 0 0 ∷ Replay 2 0 0 ∷ Tick 0 ∷ [];
  in_order = refl;
  takes = record {
    timeline = is_timeline;
    generators = has_generators 5 (inr refl) refl;
    readers = are_readers;
    accepted = (refl, (refl, (refl, (refl, (refl, tt)))));
  };
  kept = is_kept 5 three_stale (λ r n.
      kept_replay (plant 5) 2 0 0 r n two_stale
      (kept_replay (plant 5) 1 0 0 r n (Replay 0 0 0 ∷ Tick 0 ∷ [])
      (kept_replay (plant 5) 0 0 0 r n (Tick 0 ∷ []) (kept_tick (plant 5) 0 r n [] kept_first_of_5 (kept_none (plant 5) r n)))));
  few = few_of_5;
  says = ap (λ (r : Report). r.announce) says_of_5;
  untrue = not_second;
}
