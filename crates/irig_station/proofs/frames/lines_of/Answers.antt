use Rattle.std.proofs.Common.{◌≡◌, ◌∙◌, ◌++◌, ◌∷◌, [], List, map, take, ap, arith}
use Rattle.std.proofs.lemmas.List.{take_all}
use Rattle.irig_simulated.specs.declared.second.LineSecond.{LineSecond}
use Rattle.irig_station.specs.SentSeconds.{line_of_generator}
use Rattle.irig_station.proofs.HarmlessLaws.{map_more}
use Rattle.irig_station.proofs.frames.lines_of.Goals as goal

pub loop-generator-preserved : goal.loop-generator-preserved
loop-generator-preserved g c =
    let xs = c.args.generators.now in
    let i = c.loop-generator.generator-index in
    let x = c.generator-item.result in
    let line = line_of_generator c.args.rules c.args.timeline.now in
    c.in_ok-push.ensures.items
    ∙ ap (λ (l : List LineSecond). l ++ c.line_beside.result ∷ []) c.loop-generator.invariant
    ∙ ap (λ (y : LineSecond). map line (take i xs) ++ y ∷ []) c.line_beside.ensures
    ∙ map_more line xs i x c.loop-generator-test.true c.generator-item.is

pub returns : goal.returns
returns g c =
    c.loop-generator.invariant ∙ ap (map (line_of_generator c.args.rules c.args.timeline.now)) (take_all c.loop-generator.generator-index c.args.generators.now (omega arith))
