use Rattle.std.proofs.Common.{◌∙◌, sym}
use Rattle.std.proofs.lemmas.List.Folds.{list_all-map}
use Rattle.serde_json.specs.View.{view}
use Rattle.scenario_json.specs.Keys.{key_value}
use Rattle.text_refusal.specs.Values.{has_value, have_values}
use Rattle.text_refusal.proofs.range.have_values.Goals as goal

pub returns : goal.returns
unfolding have_values
returns c =
    c.each_has_value.ensures ∙ sym (list_all-map (λ key. has_value key (view c.args.value.now)) key_value c.args.keys.now)
