use Rattle.std.proofs.Common.{◌∙◌}
use Rattle.scenario_json.proofs.Keys.{position_of_text}
use Rattle.scenario_line.proofs.plain_tokens.place_of.Goals as goal

pub returns-clause-place : goal.returns-clause-place
returns-clause-place c = c.get_index_of.ensures.index ∙ position_of_text c.args.name.now c.args.names.now.keys
