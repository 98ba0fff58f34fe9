use Rattle.std.proofs.Common.{◌∙◌, [], ap, subst, length, rules}
use Rattle.std.proofs.lemmas.Result.{err_from_is_err_and}
use Rattle.record_vcd.specs.Sections.{wires_of}
use Rattle.report_judge.specs.Channels.{channel_bytes, names_of}
use Rattle.report_judge.specs.Hearings.{HasHeard}
use Rattle.report_judge.proofs.ReadingLaws.{begins-below, chosen-by-name, places-are, refused-head}
use Rattle.report_judge.proofs.reading.Below.new.Goals as goal

pub returns-in-Err-clause-refuses : goal.returns-in-Err-clause-refuses
returns-in-Err-clause-refuses c = λ text h more.
    places-are (channel_bytes c.args.asked.now.channels) text c.args.head more _ h c.requires
    (chosen-by-name (channel_bytes c.args.asked.now.channels) c.args.head.wires.items c.in_ok-all.all.items _
    (c.in_ok-all.ensures.names ∙ ap (λ w. names_of (wires_of w)) c.wires.ensures) (search rules))

pub returns-in_err-changes-clause-refuses : goal.returns-in_err-changes-clause-refuses
returns-in_err-changes-clause-refuses c =
    let p = err_from_is_err_and c.from_residual-in_err-changes.result c.from_residual-in_err-changes.ensures.1 in
    rw (p.1, p.2) (λ text h. refused-head c.args.asked.now text c.args.head c.in_err-changes.field-0.0 h c.requires c.in_err-changes.ensures.fault)

pub returns-clause-reads : goal.returns-clause-reads
returns-clause-reads c = λ text h.
    begins-below c.args.asked.now text c.args.head c.as_slice-4.result.now _ h c.in_ok-changes.ensures.ready
    (chosen-by-name (channel_bytes c.args.asked.now.channels) c.args.head.wires.items c.in_ok-all.all.items _
    (c.in_ok-all.ensures.names ∙ ap (λ w. names_of (wires_of w)) c.wires.ensures) (search rules))
    c.in_ok-changes.ensures.says (subst (λ n. HasHeard c.args.asked.now n [] c.in_ok-hearing.hearing) {x = c.len.result} {y = length c.as_slice-4.result.now} (search rules) c.in_ok-hearing.ensures)
