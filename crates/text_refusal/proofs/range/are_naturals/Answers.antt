use Rattle.std.proofs.Common.{◌≡◌, ◌∙◌, ◌&&◌, true, is_some, map, ap, sym}
use Rattle.std.specs.List.{list_all}
use Rattle.std.proofs.lemmas.List.Folds.{list_all-map}
use Rattle.serde_json.specs.View.{view}
use Rattle.scenario_json.specs.Fields.{natural_in}
use Rattle.scenario_json.specs.Json.{at_most}
use Rattle.text_refusal.proofs.PlaceLaws.{is_some_map}
use Rattle.text_refusal.proofs.range.are_naturals.Goals as goal

pub returns-then-is_some : goal.returns-then-is_some
returns-then-is_some c =
    let few : is_some (at_most c.args.count (map view c.args.items.now)) ≡ true =
    ap is_some (sym c.at_most.ensures) ∙ is_some_map _ c.at_most.result ∙ sym c.is_some.ensures ∙ c.if-is_some.true in
    let each = list_all-map (λ d. is_some (natural_in c.args.most d)) view c.args.items.now in
    c.each_is_natural.ensures ∙ sym each ∙ ap (λ b. b && list_all (λ d. is_some (natural_in c.args.most d)) (map view c.args.items.now)) (sym few)
