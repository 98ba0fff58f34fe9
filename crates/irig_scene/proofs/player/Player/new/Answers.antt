use Rattle.std.proofs.Common.{rules, ◌≡◌, ◌∙◌, [], ap, length, refl, sym}
use Rattle.std.specs.Prelude.{string_bytes}
use Rattle.std.proofs.lemmas.List.{length-map}
use Rattle.irig_plant.specs.History.{beginning, HasPlantHistory}
use Rattle.scenario_line.specs.PlantLine.{plan_of}
use Rattle.irig_scene.specs.Scene.{scene}
use Rattle.irig_scene.proofs.PlayerLaws.{made, begun}
use Rattle.irig_scene.proofs.player.Player.new.Goals as goal

pub new-requires-2-clause-happened : goal.new-requires-2-clause-happened
new-requires-2-clause-happened g c = let new : HasPlantHistory c.in-Ok-Ok-Ok.plant (beginning (plan_of c.args.line).setup) = search rules in ∣ (begun _ (plan_of c.args.line) new).happened ∣₁

pub new-requires-2-clause-few : goal.new-requires-2-clause-few
new-requires-2-clause-few g c = let new : HasPlantHistory c.in-Ok-Ok-Ok.plant (beginning (plan_of c.args.line).setup) = search rules in (begun _ (plan_of c.args.line) new).few

pub returns-clause-stands : goal.returns-clause-stands
returns-clause-stands g c =
    let plan = plan_of c.args.line in
    let new : HasPlantHistory c.in-Ok-Ok-Ok.plant (beginning plan.setup) = search rules in
    let counted : length c.args.line.names.keys ≡ length c.args.line.readers.items = c.requires.names ∙ sym c.deref.ensures.len ∙ ap length c.deref.ensures.value in
    record {
      stage = record {
        listener = made _ _ _ c.in-Ok-Ok-Ok.is-2 c.new-listener.ensures (scene plan []) (record { begun = refl; named = refl; count = length-map c.args.line.names.keys string_bytes ∙ counted; ported = search rules });
        gone = 0;
        plant = rw c.new-2.ensures new;
        named = search rules;
      };
      second = search rules;
    }
