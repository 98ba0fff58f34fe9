use Rattle.std.proofs.Common.{rules, ◌≡◌, ◌≤◌, ◌∷◌, [], Some, take, length, refl, ◌∙◌}
use Rattle.json.specs.Token.{end_object}
use Rattle.scenario_json.specs.Keys.{texts_of}
use Rattle.scenario_line.specs.PlainLine.{IsRawHead, plain_widths}
use Rattle.scenario_line.proofs.RawLaws.{raw_is}
use Rattle.scenario_line.proofs.plain_line.raw_in.Goals as goal

pub returns : goal.returns
returns c =
    let names = texts_of c.args.names.now.keys in
    let head : IsRawHead names c.args.reader c.in_ok-g.g c.in_ok-g.r c.in_ok-g.list = search rules in
    let rest = c.in_ok-count.rest in
    let listed : plain_widths c.in_ok-g.list ≡ Some (take c.in_ok-count.count c.widths_in.new.widths, rest) = search rules in
    let kept : c.in_ok-widths.widths ≡ take c.in_ok-count.count c.widths_in.new.widths = search rules in
    let few : length c.in_ok-widths.widths ≤ 1000 = search rules in
    let ended : rest ≡ end_object ∷ [] = search rules in
    raw_is names c.args.reader head.at_reader head.at_list c.in_ok-g.g c.in_ok-g.r head.generator head.reader c.in_ok-widths.widths c.in_ok-g.list rest head.list
    (listed ∙ rw kept refl) few ended
