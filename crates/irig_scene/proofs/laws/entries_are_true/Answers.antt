use Rattle.irig_scene.proofs.TrueLines.{lines_true}
use Rattle.irig_scene.proofs.laws.entries_are_true.Goals as goal

pub returns : goal.returns
returns _ = lines_true
