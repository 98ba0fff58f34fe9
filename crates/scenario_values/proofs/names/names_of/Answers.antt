use Rattle.std.proofs.Common.{◌≡◌, length, map, string_bytes, sym, ap, ◌∙◌}
use Rattle.std.proofs.lemmas.List.{length-map}
use Rattle.serde_json.specs.View.{view}
use Rattle.scenario_values.specs.PlantValues.{readers_in}
use Rattle.scenario_values.proofs.NameCounts.{if_counted}
use Rattle.scenario_values.proofs.names.names_of.Goals as goal

pub returns-clause-count : goal.returns-clause-count
returns-clause-count c =
    if_counted c.names_among.result (λ names. map string_bytes names.keys) (map view c.readers_in.result.now)
    (λ names. length names.keys ≡ length (readers_in (view c.args.value.now)))
    (λ names counted. sym (length-map names.keys string_bytes) ∙ counted.same ∙ ap length c.readers_in.ensures) c.names_among.ensures.names
