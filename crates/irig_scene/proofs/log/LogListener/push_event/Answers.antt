use Rattle.irig_scene.proofs.LogLaws.{on_ok, then_same, tick_is_lines, entry_is_lines}
use Rattle.irig_scene.proofs.log.LogListener.push_event.Goals as goal

pub returns-then-shown-clause-said : goal.returns-then-shown-clause-said
returns-then-shown-clause-said g c =
    on_ok c.push_ticks.result _ _ (λ pushed x at taken gave. then_same _ _ _ _ pushed (tick_is_lines c.args.shown x _ _ _ c.if-shown.true taken.named gave)) c.push_ticks.ensures

pub returns-else-shown-clause-said : goal.returns-else-shown-clause-said
returns-else-shown-clause-said g c =
    on_ok c.push_entries.result _ _ (λ pushed x at taken gave. then_same _ _ _ _ pushed (entry_is_lines c.args.shown x _ _ _ c.if-shown.false taken.named gave)) c.push_entries.ensures
