use Rattle.irig_plant.specs.History.{with_cleared_log}
use Rattle.irig_scene.proofs.SteppedLaws.{stepped_on, stepped_back, refused_steps}
use Rattle.irig_scene.proofs.stepped.step_alone.Goals as goal

pub returns-in-Ok-clause-steps : goal.returns-in-Ok-clause-steps
returns-in-Ok-clause-steps g c = λ h p.
    let cleared = c.clear_log.ensures h p in
    (c.in-Ok.ensures.accepted (with_cleared_log h) cleared, c.in-Ok.ensures.stands (with_cleared_log h) cleared)

pub returns-in-Err-clause-steps : goal.returns-in-Err-clause-steps
returns-in-Err-clause-steps g c =
    refused_steps c.args.plant.now _ c.args.event.now c.in-Err.fault _ c.stop_of_event.ensures
    (λ h p. c.in-Err.ensures.unchanged (with_cleared_log h) (c.clear_log.ensures h p))
    (λ h p. c.in-Err.ensures.refused (with_cleared_log h) (c.clear_log.ensures h p))

pub returns-in-Ok-clause-alone : goal.returns-in-Ok-clause-alone
returns-in-Ok-clause-alone g c = λ was.
    stepped_on _ was.history c.args.event.now (c.in-Ok.ensures.stands (with_cleared_log was.history) (c.clear_log.ensures was.history was.stands))

pub returns-in-Err-clause-alone : goal.returns-in-Err-clause-alone
returns-in-Err-clause-alone g c = λ was.
    stepped_back _ was.history (c.in-Err.ensures.unchanged (with_cleared_log was.history) (c.clear_log.ensures was.history was.stands))
