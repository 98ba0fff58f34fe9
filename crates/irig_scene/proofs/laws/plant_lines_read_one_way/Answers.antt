use Rattle.irig_scene.proofs.PlantLines.{one_plant_line}
use Rattle.irig_scene.proofs.laws.plant_lines_read_one_way.Goals as goal

pub returns : goal.returns
returns _ = one_plant_line
