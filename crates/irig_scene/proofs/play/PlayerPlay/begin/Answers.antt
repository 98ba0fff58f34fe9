use Rattle.std.proofs.Common.{[], refl, ap, inl}
use Rattle.std.proofs.lemmas.Result.{err_from_is_err_and}
use Rattle.irig_scene.specs.Scene.{scene, begun}
use Rattle.irig_scene.proofs.play.PlayerPlay.begin.Goals as goal

pub returns-clause-begins : goal.returns-clause-begins
returns-clause-begins g c = (scene _ [], ap begun c.in_ok-plant.ensures.plan, refl, c.in_ok-player.ensures.stands, c.in_ok-write_first.ensures.wrote)

pub returns-in_err-write_first-clause-begins : goal.returns-in_err-write_first-clause-begins
returns-in_err-write_first-clause-begins g c =
    let p = err_from_is_err_and c.from_residual-in_err-write_first.result c.from_residual-in_err-write_first.ensures.1 in
    rw (p.1, p.2) (inl (scene _ [], ap begun c.in_ok-plant.ensures.plan, refl, c.in_err-write_first.ensures.wrote))
