use Rattle.std.proofs.Common.{◌∙◌}
use Rattle.scenario_json.proofs.FieldLaws.{only_keys}
use Rattle.scenario_json.proofs.fields.has_only.Goals as goal

pub returns : goal.returns
returns c = c.are_named.ensures ∙ only_keys c.args.named.now c.args.members.now.entries
