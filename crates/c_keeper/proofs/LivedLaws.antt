-- A life in C begins, and goes on by a call.
use Rattle.std.proofs.Common.{◌≡◌, ◌∙◌, ◌∷◌, [], ◌%◌, ◌^◌, ℕ, List, Option, Some, None, refl, sym, ap, subst}
use Rattle.irig_port.specs.declared.limits.Limits.{Limits}
use Rattle.irig_port.specs.declared.tally.Tally.{Tally}
use Rattle.irig_time.specs.declared.rules.Rules.{Rules}
use Rattle.irig_time.specs.declared.rules.Sense.{Sense}
use Rattle.irig_vote.specs.declared.redundancy.Redundancy.{Redundancy}
use Rattle.irig_timekeeper.specs.declared.clock.Beat.{Beat}
use Rattle.irig_lines.specs.declared.setup.ClockRules.{ClockRules}
use Rattle.irig_timekeeper.specs.declared.clock.ClockState.{ClockState}
use Rattle.irig_lines.specs.declared.lines.Vote.{Vote}
use Rattle.irig_timekeeper.specs.Clock.{claim_voted, vote_of_lines}
use Rattle.irig_timekeeper.specs.Keeping.{place_told, Keeping, after_pulse, after_tick, answer_at, new_keeping, new_state, restarted, vote_at, wait_at}
use Rattle.irig_timekeeper.specs.Life.{device_of, life_of}
use Rattle.irig_timekeeper.specs.Lived.{MadeOf, made_with}
use Rattle.irig_lines.specs.Steps.{AreNewLines}
use Rattle.irig_timekeeper.proofs.LivedLaws.{as_made}
use Rattle.c_numbers.specs.declared.voices.Voices.{Voices}
use Rattle.c_numbers.specs.Reports.{voices_in}
use Rattle.c_numbers.proofs.NoVoteLaws.{none_agrees}
use Rattle.c_numbers.specs.Voices.{voices_to}
use Rattle.c_keeper.specs.declared.second.IrigSecond.{IrigSecond}
use Rattle.c_keeper.specs.declared.timekeeper.IrigTimekeeper.{IrigTimekeeper}
use Rattle.c_lines.specs.Lines.{lines_in}
use Rattle.c_keeper.specs.Lives.{Moment, HasLived, calls_of}
use Rattle.c_keeper.specs.Lives.Moment.{Pulsed, Ticked, Waited}
use Rattle.c_keeper.specs.Seconds.{IsSecondOf}
use Rattle.c_keeper.specs.Timekeepers.{answer_in, clock_in, clock_state_in, vote_in, IsTimekeeperOf}

pub lived_new : (q : IrigTimekeeper) (made : MadeOf) (clock : ClockRules) → ((limits : Option Limits) (rules : Rules) → AreNewLines (lines_in limits rules q.lines))
    → clock ≡ made.clock → IsTimekeeperOf q (new_keeping made.rules clock made.table (lines_in (Some made.clock.limits.limits) made.rules q.lines)) → HasLived q made []
lived_new q made clock fresh same is = record {
  lines = lines_in (Some made.clock.limits.limits) made.rules q.lines;
  fresh = fresh (Some made.clock.limits.limits) made.rules;
  is = subst (λ (c : ClockRules). IsTimekeeperOf q (new_keeping made.rules c made.table (lines_in (Some made.clock.limits.limits) made.rules q.lines))) same is;
  told = tt;
}

pub lived_pulse : (t q : IrigTimekeeper) (made : MadeOf) (past : List Moment) (line time rise width place : ℕ) → ((k : Keeping) → IsTimekeeperOf t k → IsTimekeeperOf q (after_pulse k line time width))
    → ((k : Keeping) → IsTimekeeperOf t k → place ≡ place_told k line time width) → HasLived t made past → time ≡ rise % 2 ^ 32 → HasLived q made (Pulsed line rise width place ∷ past)
lived_pulse t q made past line time rise width place goes answers h clock =
    let k = life_of (made_with made h.lines h.fresh) (calls_of past) in record {
      lines = h.lines;
      fresh = h.fresh;
      is = subst (λ (x : ℕ). IsTimekeeperOf q (after_pulse k line x width)) clock (goes k h.is);
      told = (answers k h.is ∙ ap (λ (x : ℕ). place_told k line x width) clock, h.told);
    }

pub lived_again : (t q : IrigTimekeeper) (made : MadeOf) (past : List Moment) → ((limits : Option Limits) (rules : Rules) → AreNewLines (lines_in limits rules q.lines))
    → ((k : Keeping) → IsTimekeeperOf t k → IsTimekeeperOf q (restarted k (lines_in (Some k.clock.limits.limits) k.rules q.lines))) → HasLived t made past → HasLived q made []
lived_again t q made past fresh goes h =
    let made_new = device_of (made_with made h.lines h.fresh) in
    let k = life_of (made_with made h.lines h.fresh) (calls_of past) in
    let same = as_made made_new (calls_of past) in
    let is = goes k h.is in record {
      lines = lines_in (Some made.clock.limits.limits) made.rules q.lines;
      fresh = fresh (Some made.clock.limits.limits) made.rules;
      is = record {
        rules = is.rules ∙ same.rules;
        clock = is.clock ∙ same.clock;
        table = is.table ∙ same.table;
        heard = is.heard;
        state = is.state ∙ (ap (λ (c : ClockRules). new_state (lines_in (Some c.limits.limits) k.rules q.lines)) same.clock ∙ ap (λ (r : Rules). new_state (lines_in (Some made.clock.limits.limits) r q.lines)) same.rules);
        accepted = is.accepted;
      };
      told = tt;
    }

-- how long to wait does not change it
pub lived_wait : (t : IrigTimekeeper) (made : MadeOf) (past : List Moment) (time now wait : ℕ) → ((k : Keeping) → IsTimekeeperOf t k → wait ≡ wait_at k time) → HasLived t made past → time ≡ now % 2 ^ 32 → HasLived t made (Waited now wait ∷ past)
lived_wait t made past time now wait answers h clock =
    let k = life_of (made_with made h.lines h.fresh) (calls_of past) in record {
      lines = h.lines;
      fresh = h.fresh;
      is = h.is;
      told = (answers k h.is ∙ ap (wait_at k) clock, h.told);
    }

-- ---- a tick

agreed_vote : (s : IrigSecond) (answer : Option Beat) (vote : Option Vote) (r : Redundancy) (sense : Sense) (ports : List Tally) → IsSecondOf s answer
    → ((beat : Beat) → answer ≡ Some beat → voices_in s.report ≡ voices_to (claim_voted vote) beat.told r sense ports)
    → (s.report.agreed ≡ 0 → ⊥) → (v : Vote) × (vote ≡ Some v)
agreed_vote s answer (Some v) r sense ports is voices some = (v, refl)
agreed_vote s None None r sense ports nothing voices some = absurd (some (ap (λ (x : IrigSecond). x.report.agreed) nothing))
agreed_vote s (Some beat) None r sense ports is voices some = absurd (some (ap (λ (v : Voices). v.agreed) (voices beat refl) ∙ none_agrees beat.told r sense ports))

pub lived_tick : (t q : IrigTimekeeper) (made : MadeOf) (past : List Moment) (time now : ℕ) (s : IrigSecond) (r : Redundancy) (sense : Sense) (ports : List Tally)
    → IsSecondOf s (answer_in t time)
    → ((beat : Beat) → answer_in t time ≡ Some beat → voices_in s.report ≡ voices_to (vote_in t time) beat.told r sense ports)
    → ((k : Keeping) → IsTimekeeperOf t k → IsSecondOf s (answer_at k time))
    → ((k : Keeping) → IsTimekeeperOf t k → IsTimekeeperOf q (after_tick k time))
    → HasLived t made past → time ≡ now % 2 ^ 32 → HasLived q made (Ticked now s ∷ past)
lived_tick t q made past time now s r sense ports said voices answers goes h clock =
    let k = life_of (made_with made h.lines h.fresh) (calls_of past) in record {
      lines = h.lines;
      fresh = h.fresh;
      is = subst (λ (x : ℕ). IsTimekeeperOf q (after_tick k x)) clock (goes k h.is);
      told = (
        record {
          is = subst (λ (x : ℕ). IsSecondOf s (answer_at k x)) clock (answers k h.is);
          vote = λ some.
              let v = agreed_vote s (answer_in t time) (vote_of_lines (clock_in t) (clock_state_in t) time) r sense ports said voices some in (
                v.0,
                ap (λ (x : ℕ). vote_at k x) (sym clock)
                    ∙ (ap (λ (c : ClockRules). vote_of_lines c k.state time) (sym h.is.clock)
                    ∙ (ap (λ (state : ClockState). vote_of_lines (clock_in t) state time) (sym h.is.state) ∙ v.1)),
              );
        },
        h.told,
      );
    }
