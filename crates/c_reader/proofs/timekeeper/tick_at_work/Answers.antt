use Rattle.std.proofs.Common.{◌≡◌, ◌∙◌, ℕ, Option, List, sym, ap, subst}
use Rattle.irig_time.specs.declared.claim.Claim.{Claim}
use Rattle.irig_time.specs.declared.second.UtcSecond.{UtcSecond}
use Rattle.irig_port.specs.declared.tally.Tally.{Tally}
use Rattle.irig_vote.specs.Vote.{ports_in}
use Rattle.irig_timekeeper.specs.declared.clock.Beat.{Beat}
use Rattle.irig_timekeeper.specs.declared.clock.ClockState.{ClockState}
use Rattle.irig_lines.specs.declared.setup.ClockRules.{ClockRules}
use Rattle.irig_timekeeper.specs.Clock.{clock_after, clock_answer, clock_vote}
use Rattle.c_numbers.specs.declared.setup.IrigSetup.{IrigSetup}
use Rattle.c_numbers.specs.Against.{held_by}
use Rattle.c_numbers.specs.LeapTables.{table_in}
use Rattle.c_numbers.specs.Numbers.{sense_in}
use Rattle.c_numbers.specs.Setups.{redundancy_in}
use Rattle.c_numbers.specs.Voices.{voices_to}
use Rattle.c_keeper.specs.declared.timekeeper.IrigTimekeeper.{IrigTimekeeper}
use Rattle.c_lines.specs.Lines.{frames_in, KeepNoMore}
use Rattle.c_keeper.specs.Seconds.{against_at, IsSecondOf}
use Rattle.c_keeper.specs.States.{masks_of}
use Rattle.c_keeper.specs.Timekeepers.{answer_in, clock_in, clock_state_in, state_behind, unread, vote_in}
use Rattle.c_keeper.proofs.KeptLaws.{kept_by_tick}
use Rattle.c_keeper.proofs.TickLaws.{before_kept, bound_kept, ended_before_kept, ended_kept, known_kept, last_kept}
use Rattle.c_keeper.proofs.UnreadLaws.{after_unread, answer_unread, read_again}
use Rattle.c_keeper.proofs.ValueLaws.{valid_told}
use Rattle.c_reader.proofs.timekeeper.tick_at_work.Goals as goal

-- ---- a tick of what was read

answers : (t : IrigTimekeeper) (now : ℕ) (r : ClockRules) (s : ClockState) → r ≡ clock_in t → s ≡ unread (clock_state_in t) → clock_answer r (table_in t.table) s now ≡ answer_in t now
answers t now r s rules read =
    ap (λ (r : ClockRules). clock_answer r (table_in t.table) s now) rules
    ∙ (ap (λ (s : ClockState). clock_answer (clock_in t) (table_in t.table) s now) read ∙ answer_unread (clock_in t) (table_in t.table) (clock_state_in t) now)

votes : (t : IrigTimekeeper) (now : ℕ) (r : ClockRules) (s : ClockState) → r ≡ clock_in t → s ≡ unread (clock_state_in t) → clock_vote r s now ≡ vote_in t now
votes t now r s rules read =
    ap (λ (r : ClockRules). clock_vote r s now) rules ∙ ap (λ (s : ClockState). clock_vote (clock_in t) s now) read

leaves : (t : IrigTimekeeper) (now : ℕ) (r : ClockRules) (s : ClockState) → r ≡ clock_in t → s ≡ unread (clock_state_in t) → clock_after r (table_in t.table) s now ≡ unread (state_behind t now)
leaves t now r s rules read =
    ap (λ (r : ClockRules). clock_after r (table_in t.table) s now) rules
    ∙ (ap (λ (s : ClockState). clock_after (clock_in t) (table_in t.table) s now) read ∙ after_unread (clock_in t) (table_in t.table) (clock_state_in t) now)

stands : (t new : IrigTimekeeper) (now : ℕ) (left : ClockState) → left ≡ unread (state_behind t now) → record (clock_state_in new) { lines = left.lines } ≡ left
    → (clock_state_in new).lines ≡ (state_behind t now).lines → clock_state_in new ≡ state_behind t now
stands t new now left is rest lines = read_again (clock_state_in new) left (state_behind t now) rest is lines

-- ---- what was told of seconds that ended is small

pub second_of-requires-clause-ended : goal.second_of-requires-clause-ended
second_of-requires-clause-ended c = ended_kept c.keep.new.timekeeper c.tick-ticked.new.state c.keep.ensures.rest c.tick-ticked.ensures.ended

pub second_of-requires-clause-ended_before : goal.second_of-requires-clause-ended_before
second_of-requires-clause-ended_before c = ended_before_kept c.keep.new.timekeeper c.tick-ticked.new.state c.keep.ensures.rest c.tick-ticked.ensures.ended

-- ---- what it says

pub returns-clause-given : goal.returns-clause-given
returns-clause-given c =
    let t = c.args.timekeeper.now in
    let q = c.keep.new.timekeeper in
    let rules = c.clock_rules_of-rules in
    let read = c.unread_state_of-state in
    let ticked = c.tick-ticked in
    let second = c.second_of in
    let answer = ticked.ensures.answer ∙ answers t c.args.now_us rules.result read.result rules.ensures read.ensures.is in
    let vote = ticked.ensures.vote ∙ votes t c.args.now_us rules.result read.result rules.ensures read.ensures.is in
    record {
      said = subst (λ (beat : Option Beat). IsSecondOf second.result beat) answer second.ensures.told;
      valid = valid_told second.result ticked.result.beat second.ensures.told ticked.ensures.said;
      voices = λ beat is.
          second.ensures.voices beat (answer ∙ is)
          ∙ (ap (λ (s : IrigSetup). voices_to ticked.result.vote beat.told (redundancy_in s) (sense_in s.sense) (frames_in q.lines)) c.keep.ensures.setup
          ∙ (ap (λ (frames : List Tally). voices_to ticked.result.vote beat.told (redundancy_in t.setup) (sense_in t.setup.sense) frames) c.keep.ensures.frames
          ∙ ap (λ (v : Option Claim). voices_to v beat.told (redundancy_in t.setup) (sense_in t.setup.sense) (frames_in t.lines)) vote));
      against = λ beat is.
          second.ensures.against beat (answer ∙ is)
          ∙ (ap (λ (s : IrigSetup). against_at c.held_by-held.result beat (redundancy_in s)) c.keep.ensures.setup
          ∙ ap (λ (held : Option UtcSecond). against_at held beat (redundancy_in t.setup))
          (c.held_by-held.ensures ∙ ap (λ (s : ClockState). held_by s.reader) read.ensures.is));
      strays = second.ensures.strays;
      doubt = second.ensures.doubt;
      lines = λ beat is. second.ensures.lines beat (answer ∙ is) ∙ ap (λ (r : ClockRules). masks_of r (clock_state_in q)) rules.ensures;
    }

-- ---- where it then stands

pub returns-clause-left : goal.returns-clause-left
returns-clause-left c =
    let t = c.args.timekeeper.now in
    let q = c.keep.new.timekeeper in
    let state = c.tick-ticked.new.state in
    let kept = c.keep.ensures in
    let left = c.tick-ticked.ensures in
    let is = left.after ∙ leaves t c.args.now_us c.clock_rules_of-rules.result c.unread_state_of-state.result c.clock_rules_of-rules.ensures c.unread_state_of-state.ensures.is in
    let announced = left.announced c.unread_state_of-state.ensures.announced in
    record {
      setup = kept.setup;
      table = kept.table;
      wires = kept.wires;
      stands = stands t q c.args.now_us state is kept.rest
          (kept.lines (state_behind t c.args.now_us).lines (kept_by_tick (clock_in t) (table_in t.table) (clock_state_in t) c.args.now_us) (sym (ap (λ (s : ClockState). s.lines) is)));
      heard = kept.heard;
      bound = bound_kept q state kept.rest left.small;
      known = record { interval = known_kept q state kept.rest left.known; pace = kept.counts };
      is_state = kept.is_state;
      last = last_kept q state kept.rest announced;
      before = before_kept q state kept.rest announced;
      ended = ended_kept q state kept.rest left.ended;
      ended_before = ended_before_kept q state kept.rest left.ended;
      absent = subst (λ (s : IrigSetup). KeepNoMore (ports_in (redundancy_in s)) q.lines) (sym kept.setup) (kept.absent _ c.requires.absent);
    }
