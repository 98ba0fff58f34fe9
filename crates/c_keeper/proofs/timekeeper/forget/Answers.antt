use Rattle.std.proofs.Common.{◌∙◌, sym, ap, subst}
use Rattle.irig_lines.specs.Steps.{AreNewLines}
use Rattle.c_lines.specs.declared.line.IrigLines.{IrigLines}
use Rattle.c_keeper.specs.declared.timekeeper.IrigTimekeeper.{IrigTimekeeper}
use Rattle.c_lines.specs.Lines.{lines_in, KeepNoMore}
use Rattle.c_keeper.proofs.timekeeper.forget.Goals as goal

pub returns-clause-lines : goal.returns-clause-lines
returns-clause-lines c limits rules =
    subst (λ (ls : IrigLines). AreNewLines (lines_in limits rules ls)) (sym (ap (λ (t : IrigTimekeeper). t.lines) c.set_interval.ensures.others ∙ ap (λ (t : IrigTimekeeper). t.lines) c.set_edge.ensures.others))
    (c.lines_of_nothing-timekeeper.ensures.new limits rules)

pub returns-clause-absent : goal.returns-clause-absent
returns-clause-absent c ports =
    subst (λ (ls : IrigLines). KeepNoMore ports ls) (sym (ap (λ (t : IrigTimekeeper). t.lines) c.set_interval.ensures.others ∙ ap (λ (t : IrigTimekeeper). t.lines) c.set_edge.ensures.others))
    (c.lines_of_nothing-timekeeper.ensures.absent ports)
