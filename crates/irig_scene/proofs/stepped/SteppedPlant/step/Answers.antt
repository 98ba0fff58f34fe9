use Rattle.irig_scene.proofs.SteppedLaws.{still_happened, still_few}
use Rattle.irig_scene.proofs.stepped.SteppedPlant.step.Goals as goal

pub invariant_of-self : goal.invariant_of-self
invariant_of-self g c = record {
  happened = still_happened _ _ c.args.self.now.happened c.step_alone.ensures.alone;
  few = still_few _ _ c.args.self.now.happened c.step_alone.ensures.alone;
}
