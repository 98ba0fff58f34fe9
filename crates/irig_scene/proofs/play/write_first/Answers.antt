use Rattle.std.proofs.Common.{rules, sym, subst, true}
use Rattle.irig_device.specs.Watched.{device_of}
use Rattle.report_run.specs.Faults.{WroteText}
use Rattle.irig_scene.proofs.TakenLaws.{echoed, then_newline}
use Rattle.irig_scene.proofs.play.write_first.Goals as goal

pub returns-in-Ok-clause-wrote : goal.returns-in-Ok-clause-wrote
returns-in-Ok-clause-wrote g c =
    subst (λ t. WroteText c.write_text.result (g.W.Write.contents (device_of c.args.output.now)) (g.W.Write.contents (device_of c.write_text.new.output)) t) (sym (echoed (g.L.Listener.texts c.args.asked) c.args.line.now c.echoes_plant_line.result true (c.echoes_plant_line.ensures c.args.line.now) (search rules)))
    (then_newline _ _ _ _ _ c.in-Ok.ensures.ok c.write_text.ensures.wrote)
