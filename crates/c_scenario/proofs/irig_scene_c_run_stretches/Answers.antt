use Rattle.std.proofs.Common.{◌≡◌, ◌∙◌, length, map, ap, subst, arith, rules}
use Rattle.c_scenario.specs.Runs.{HasWholeLog, written_over}
use Rattle.c_scenario.specs.Stretches.{stretch_for}
use Rattle.c_scenario.proofs.StretchLaws.{stretches_are, count_is, room_stays, none_found}
use Rattle.c_scenario.proofs.irig_scene_c_run_stretches.Goals as goal

pub returns-clause-stretches : goal.returns-clause-stretches
returns-clause-stretches c = λ whole.
    let found = c.find-found.result in
    c.write_stretches.ensures ∙ ap (written_over c.args.stretches.now)
    (ap (map stretch_for) c.deref.ensures.value ∙ stretches_are found.answer found.findings.items c.args.text.now c.find-found.ensures.found (subst HasWholeLog c.status_of.ensures whole))

pub returns-clause-whole : goal.returns-clause-whole
returns-clause-whole c = λ whole.
    let found = c.find-found.result in
    let count : c.len.result ≡ length found.findings.items = search rules in
    count ∙ count_is found.answer found.findings.items c.args.text.now c.find-found.ensures.found (subst HasWholeLog c.status_of.ensures whole)

pub returns-clause-unchanged : goal.returns-clause-unchanged
returns-clause-unchanged c = λ failed.
    let found = c.find-found.result in
    room_stays found.answer found.findings.items c.args.text.now c.find-found.ensures.found c.args.stretches.now c.write_stretches.new.room (omega (arith, failed, c.status_of.ensures))
    (c.write_stretches.ensures ∙ ap (λ fs. written_over c.args.stretches.now (map stretch_for fs)) c.deref.ensures.value)

pub returns-clause-none : goal.returns-clause-none
returns-clause-none c = λ failed.
    let found = c.find-found.result in
    let count : c.len.result ≡ length found.findings.items = search rules in
    count ∙ ap length (none_found found.answer found.findings.items c.args.text.now c.find-found.ensures.found (omega (arith, failed, c.status_of.ensures)))
