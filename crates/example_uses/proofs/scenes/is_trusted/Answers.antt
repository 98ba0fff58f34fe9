use Rattle.std.proofs.Common.{ap, sym, ◌∙◌}
use Rattle.irig_plant.proofs.AuditLaws.{kept_is}
use Rattle.irig_scene.specs.Scene.{meaning_of}
use Rattle.example_uses.proofs.scenes.is_trusted.Goals as goal

pub returns-in-Kept : goal.returns-in-Kept
returns-in-Kept c is_trusted =
    let ran = c.in_ok-outcome.ensures.ran in
    let done = ran.ran.1 in
    let left = ap (λ device. (meaning_of device.now).scene) (sym c.new-input.ensures.device) ∙ ap (λ x. (meaning_of x).scene) (sym ran.of_input) ∙ done.left in
    (done.scene, left, (kept_is done.scene.plan.setup done.scene.events).0 (sym done.ended.audit ∙ c.in-Kept.is))
