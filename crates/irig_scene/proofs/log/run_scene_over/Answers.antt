use Rattle.report_log.specs.Text.{entries_alone}
use Rattle.irig_scene.proofs.WrittenLaws.{runs_truly}
use Rattle.irig_scene.proofs.LogLaws.{log_ran}
use Rattle.irig_scene.proofs.log.run_scene_over.Goals as goal

pub returns : goal.returns
returns g c = runs_truly _ _ (entries_alone c.args.all) _ _ _ _ _ (log_ran (entries_alone c.args.all) _ _ _ _ _ c.run_to.ensures.ran) c.run_to.ensures.read c.run_to.ensures.write
