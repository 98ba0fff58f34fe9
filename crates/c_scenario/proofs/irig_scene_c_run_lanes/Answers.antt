use Rattle.std.proofs.Common.{◌≡◌, ◌∙◌, length, map, ap, subst, arith, rules}
use Rattle.c_scenario.specs.Runs.{HasWholeLog, written_over}
use Rattle.c_scenario.specs.Lanes.{lane_for}
use Rattle.c_scenario.proofs.LaneLaws.{lanes_are, count_is, room_stays, none_drawn}
use Rattle.c_scenario.proofs.irig_scene_c_run_lanes.Goals as goal

pub returns-clause-lanes : goal.returns-clause-lanes
returns-clause-lanes c = λ whole.
    let drawn = c.draw-drawn.result in
    c.write_lanes.ensures ∙ ap (written_over c.args.lanes.now)
    (ap (map lane_for) c.deref.ensures.value ∙ lanes_are drawn.answer drawn.lanes.items c.args.text.now c.draw-drawn.ensures.drawn (subst HasWholeLog c.status_of.ensures whole))

pub returns-clause-whole : goal.returns-clause-whole
returns-clause-whole c = λ whole.
    let drawn = c.draw-drawn.result in
    let count : c.len.result ≡ length drawn.lanes.items = search rules in
    count ∙ count_is drawn.answer drawn.lanes.items c.args.text.now c.draw-drawn.ensures.drawn (subst HasWholeLog c.status_of.ensures whole)

pub returns-clause-unchanged : goal.returns-clause-unchanged
returns-clause-unchanged c = λ failed.
    let drawn = c.draw-drawn.result in
    room_stays drawn.answer drawn.lanes.items c.args.text.now c.draw-drawn.ensures.drawn c.args.lanes.now c.write_lanes.new.room (omega (arith, failed, c.status_of.ensures))
    (c.write_lanes.ensures ∙ ap (λ fs. written_over c.args.lanes.now (map lane_for fs)) c.deref.ensures.value)

pub returns-clause-none : goal.returns-clause-none
returns-clause-none c = λ failed.
    let drawn = c.draw-drawn.result in
    let count : c.len.result ≡ length drawn.lanes.items = search rules in
    count ∙ ap length (none_drawn drawn.answer drawn.lanes.items c.args.text.now c.draw-drawn.ensures.drawn (omega (arith, failed, c.status_of.ensures)))
