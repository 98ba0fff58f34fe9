use Rattle.std.proofs.Common.{◌∙◌, [], ap, subst, length, rules}
use Rattle.std.proofs.lemmas.Result.{err_from_is_err_and}
use Rattle.record_table.specs.Titles.{bytes_of}
use Rattle.report_judge.specs.Channels.{channel_bytes}
use Rattle.report_judge.specs.Hearings.{HasHeard}
use Rattle.report_judge.proofs.TableLaws.{begins-rows, column-by-name, columns-are, refused-title}
use Rattle.report_judge.proofs.table.Rows.new.Goals as goal

pub returns-in_err-sound-clause-refuses : goal.returns-in_err-sound-clause-refuses
returns-in_err-sound-clause-refuses c =
    let p = err_from_is_err_and c.from_residual.result c.from_residual.ensures.1 in
    rw (p.1, p.2) (λ text h. refused-title c.args.asked.now text c.args.head c.in_err-sound.field-0.0 h c.requires c.in_err-sound.ensures.fault)

pub returns-in-Err-clause-refuses : goal.returns-in-Err-clause-refuses
returns-in-Err-clause-refuses c = λ text h more.
    columns-are (channel_bytes c.args.asked.now.channels) text c.args.head more _ h c.requires
    (column-by-name (channel_bytes c.args.asked.now.channels) c.args.head.names.items c.in_ok-all.all.items _
    (c.in_ok-all.ensures.names ∙ ap bytes_of c.names.ensures) (search rules))

pub returns-in_err-changes-clause-refuses : goal.returns-in_err-changes-clause-refuses
returns-in_err-changes-clause-refuses c =
    let p = err_from_is_err_and c.from_residual-in_err-changes.result c.from_residual-in_err-changes.ensures.1 in
    rw (p.1, p.2) (λ text h. refused-title c.args.asked.now text c.args.head c.in_err-changes.field-0.0 h c.requires c.in_err-changes.ensures.fault)

pub returns-clause-reads : goal.returns-clause-reads
returns-clause-reads c = λ text h.
    begins-rows c.args.asked.now text c.args.head c.as_slice-4.result.now _ h c.in_ok-changes.ensures.ready
    (column-by-name (channel_bytes c.args.asked.now.channels) c.args.head.names.items c.in_ok-all.all.items _
    (c.in_ok-all.ensures.names ∙ ap bytes_of c.names.ensures) (search rules))
    c.in_ok-changes.ensures.says (subst (λ n. HasHeard c.args.asked.now n [] c.in_ok-hearing.hearing) {x = c.len.result} {y = length c.as_slice-4.result.now} (search rules) c.in_ok-hearing.ensures)
