use Rattle.std.proofs.Common.{◌∙◌, ◌++◌, ◌∷◌, [], List, None, ap, arith, get_or, map}
use Rattle.std.proofs.lemmas.List.{get_or_default, take_all}
use Rattle.irig_frame.specs.declared.symbol.Symbol.{Symbol}
use Rattle.irig_simulated.specs.declared.second.LineSecond.{LineSecond}
use Rattle.irig_station.proofs.HarmlessLaws.{map_more}
use Rattle.irig_station.proofs.frames.truths_of.Goals as goal

abbrev truth_of : LineSecond → List Symbol
truth_of line = line.truth

-- what the code reads past the end
abbrev no_line : LineSecond
no_line = record { sent = None; truth = [] }

pub loop-line-preserved : goal.loop-line-preserved
loop-line-preserved c =
    let xs = c.args.lines.now in
    let i = c.loop-line.line-index in
    c.in_ok-push.ensures.items
    ∙ ap (λ (l : List (List Symbol)). l ++ (get_or xs i no_line).truth ∷ []) c.loop-line.invariant
    ∙ map_more truth_of xs i (get_or xs i no_line) c.loop-line-test.true (get_or_default xs i no_line (get_or xs i no_line) c.loop-line-test.true)

pub returns : goal.returns
returns c =
    c.loop-line.invariant ∙ ap (map truth_of) (take_all c.loop-line.line-index c.args.lines.now (omega arith))
