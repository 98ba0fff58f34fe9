use Rattle.std.proofs.Common.{◌≡◌, ◌∙◌, length, subst, sym, ap, rules}
use Rattle.report_log.specs.Text.{entries_alone}
use Rattle.c_scenario.specs.Runs.{HasWholeLog, IsStatus, scenario_log, scenario_refusal, written_over}
use Rattle.c_scenario.proofs.RunLaws.{devices_left, done_of, ends_as, front_counts, is_status, log_left, readers_left, refused_of, whole_left}
use Rattle.c_scenario.proofs.irig_scene_c_run.Goals as goal

pub returns-clause-status : goal.returns-clause-status
returns-clause-status c = subst IsStatus (sym c.status_of.ensures) (is_status c.run_text-ended.result.answer)

pub returns-clause-done : goal.returns-clause-done
returns-clause-done c = λ done.
    let run = c.run_text-ended.result in
    let shown = entries_alone c.args.all in
    done_of run.log.items (scenario_log c.args.text.now shown) (scenario_refusal c.args.text.now) run.answer (ends_as c.args.text.now shown run.answer run.log.items c.run_text-ended.ensures) (sym c.status_of.ensures ∙ done)

pub returns-clause-refused : goal.returns-clause-refused
returns-clause-refused c = λ three.
    let run = c.run_text-ended.result in
    let shown = entries_alone c.args.all in
    refused_of run.log.items (scenario_log c.args.text.now shown) (scenario_refusal c.args.text.now) run.answer (ends_as c.args.text.now shown run.answer run.log.items c.run_text-ended.ensures) (sym c.status_of.ensures ∙ three)

pub returns-clause-whole : goal.returns-clause-whole
returns-clause-whole c = λ whole.
    let run = c.run_text-ended.result in
    let shown = entries_alone c.args.all in
    whole_left c.args.text.now shown run.answer run.log.items c.run_text-ended.ensures c.args.log.now c.len.result c.write_over.new.room (search rules) (c.write_over.ensures ∙ ap (written_over c.args.log.now) c.deref.ensures.value)
    (subst HasWholeLog c.status_of.ensures whole)

pub returns-clause-front : goal.returns-clause-front
returns-clause-front c =
    let run = c.run_text-ended.result in
    let shown = entries_alone c.args.all in
    front_counts c.args.text.now shown run.answer run.log.items c.run_text-ended.ensures c.args.log.now c.len.result c.write_over.new.room (search rules) (c.write_over.ensures ∙ ap (written_over c.args.log.now) c.deref.ensures.value)

pub returns-clause-log : goal.returns-clause-log
returns-clause-log c =
    let run = c.run_text-ended.result in
    let shown = entries_alone c.args.all in
    log_left c.args.text.now shown run.answer run.log.items c.run_text-ended.ensures c.args.log.now c.len.result c.write_over.new.room (search rules) (c.write_over.ensures ∙ ap (written_over c.args.log.now) c.deref.ensures.value)

pub returns-clause-vouches : goal.returns-clause-vouches
returns-clause-vouches c =
    let run = c.run_text-ended.result in
    let shown = entries_alone c.args.all in
    readers_left c.args.text.now shown run.answer run.log.items c.run_text-ended.ensures c.args.log.now c.len.result c.write_over.new.room (search rules) (c.write_over.ensures ∙ ap (written_over c.args.log.now) c.deref.ensures.value)

pub returns-clause-vouches_for_devices : goal.returns-clause-vouches_for_devices
returns-clause-vouches_for_devices c =
    let run = c.run_text-ended.result in
    let shown = entries_alone c.args.all in
    devices_left c.args.text.now shown run.answer run.log.items c.run_text-ended.ensures c.args.log.now c.len.result c.write_over.new.room (search rules) (c.write_over.ensures ∙ ap (written_over c.args.log.now) c.deref.ensures.value)
