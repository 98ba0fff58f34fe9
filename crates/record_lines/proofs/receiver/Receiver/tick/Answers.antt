use Rattle.std.proofs.Common.{◌∙◌, ◌∷◌, sym, refl, ap}
use Rattle.irig_timekeeper.specs.Clock.{claim_voted}
use Rattle.irig_timekeeper.specs.Keeping.{answer_at, vote_at}
use Rattle.irig_timekeeper.specs.Life.Call.{Tick}
use Rattle.irig_timekeeper.specs.Lived.{keeping_after}
use Rattle.record_lines.specs.Times.{next_tick}
use Rattle.record_lines.proofs.CallLaws.{due_in_order, ticks}
use Rattle.record_lines.proofs.ToldLaws.{asks, keeping_is, told_none, told_second}
use Rattle.record_lines.proofs.receiver.Receiver.tick.Goals as goal

pub returns-clause-ticks : goal.returns-clause-ticks
returns-clause-ticks g c made start calls is =
    let old = c.args.self.now in
    let at = old.due_us in
    let k = keeping_after made calls in
    let keeping = keeping_is old.keeper made calls is.lived in
    let order = due_in_order old old made start calls is old.gone old.due old.latest in
    let lived = c.tick_with_vote-ticked.ensures.lived made calls at is.lived c.low.ensures in
    let beat = c.tick_with_vote-ticked.ensures.answer k keeping ∙ ap (answer_at k) c.low.ensures in
    let vote = c.tick_with_vote-ticked.ensures.vote k keeping ∙ ap (λ n. claim_voted (vote_at k n)) c.low.ensures in
    record {
      is = ticks old _ made start calls is order lived refl refl refl refl;
      due = ◌∙◌ {b = next_tick at at c.wait-wait_us.result} c.next_tick-self.ensures (ap (next_tick at at) (asks c.tick_with_vote-ticked.new.self made (Tick at ∷ calls) lived c.wait-wait_us.result c.low-2.result at c.wait-wait_us.ensures.value c.low-2.ensures));
      none = λ none. sym beat ∙ told_none at c.tick_with_vote-ticked.result.beat c.tick_with_vote-ticked.result.vote (sym c.told_by.ensures ∙ none);
      some = λ second told. told_second old.keeper made start at calls is.lived order c.tick_with_vote-ticked.result.beat c.tick_with_vote-ticked.result.vote beat vote
          (λ claim voted. c.tick_with_vote-ticked.ensures.carried made start at calls claim is.lived c.low.ensures order voted)
          second (sym c.told_by.ensures ∙ told);
    }
