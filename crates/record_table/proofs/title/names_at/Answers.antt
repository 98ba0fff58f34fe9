use Rattle.std.proofs.Common.{[], ◌∷◌, ◌++◌, ap, ◌∙◌}
use Rattle.record_cells.specs.Cells.{unquoted}
use Rattle.record_table.specs.Titles.{bytes_of}
use Rattle.record_table.proofs.NameLaws.{next-name}
use Rattle.record_table.proofs.title.names_at.Goals as goal

pub loop-at-preserved : goal.loop-at-preserved
loop-at-preserved c =
    next-name c.loop-at.names.items c.add.new.names.items c.args.first c.loop-at.at c.args.count c.args.line.now
    c.loop-at-test.true (c.in_ok-add.ensures ∙ ap (λ t. bytes_of c.loop-at.names.items ++ t ∷ []) (c.unquoted.ensures ∙ ap unquoted c.field_of.ensures))
    ∙ c.loop-at.invariant
