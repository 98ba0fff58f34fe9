use Rattle.std.proofs.Common.{◌≡◌, ◌≤◌, length, map, string_bytes, sym, ◌∙◌}
use Rattle.std.proofs.lemmas.List.{length-map}
use Rattle.serde_json.specs.View.{view}
use Rattle.scenario_values.proofs.NameCounts.{if_counted}
use Rattle.scenario_values.proofs.names.names_among.Goals as goal

pub returns-clause-count : goal.returns-clause-count
returns-clause-count c =
    if_counted c.reader_names.result (λ names. map string_bytes names.keys) (map view c.args.readers.now)
    (λ names. length names.keys ≡ length c.args.readers.now)
    (λ names counted. sym (length-map names.keys string_bytes) ∙ counted.same ∙ length-map c.args.readers.now view) c.reader_names.ensures

pub returns-clause-least : goal.returns-clause-least
returns-clause-least c =
    if_counted c.reader_names.result (λ names. map string_bytes names.keys) (map view c.args.readers.now) (λ names. 1 ≤ length names.keys)
    (λ names counted. rw (sym (length-map names.keys string_bytes)) counted.least) c.reader_names.ensures

pub returns-clause-most : goal.returns-clause-most
returns-clause-most c =
    if_counted c.reader_names.result (λ names. map string_bytes names.keys) (map view c.args.readers.now) (λ names. length names.keys ≤ 16)
    (λ names counted. rw (sym (length-map names.keys string_bytes)) counted.most) c.reader_names.ensures
