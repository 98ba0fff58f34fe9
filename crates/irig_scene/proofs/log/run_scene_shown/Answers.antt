use Rattle.irig_scene.proofs.WrittenLaws.{runs_truly}
use Rattle.irig_scene.proofs.LogLaws.{log_ran}
use Rattle.irig_scene.proofs.log.run_scene_shown.Goals as goal

pub returns-clause-runs : goal.returns-clause-runs
returns-clause-runs g c = runs_truly _ _ c.args.shown _ _ _ _ _ (log_ran c.args.shown _ _ _ _ _ c.run_to.ensures.ran) c.run_to.ensures.read c.run_to.ensures.write
