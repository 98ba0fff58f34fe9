use Rattle.std.proofs.Common.{List, [], subst}
use Rattle.irig_timekeeper.specs.Life.{Call}
use Rattle.irig_timekeeper.specs.Lived.{keeping_after}
use Rattle.irig_timekeeper.proofs.WaitLoops.{told_in_turn}
use Rattle.irig_simulated.specs.Doings.{course_behind}
use Rattle.irig_simulated.proofs.LoopCourses.{GoesSoon, InTurn, TicksSo, each_of, goes_of, on_loop, turn_of}
use Rattle.irig_simulated.proofs.laws.a_course_goes_by_its_loop.Goals as goal

pub returns-clause-turn : goal.returns-clause-turn
returns-clause-turn c k late doings calls before moves slow are counted =
    let x = course_behind k late doings in
    let turn = turn_of x.start calls before (subst (λ (c : List Call). InTurn x.start c) are (on_loop k moves slow late doings).turn) counted in
    (turn, told_in_turn x.start calls before turn)

pub returns-clause-waits : goal.returns-clause-waits
returns-clause-waits c k late doings calls before fresh moves slow are is =
    goes_of 2 (keeping_after k.made []) calls before (subst (λ (c : List Call). GoesSoon 2 (keeping_after k.made []) c) are ((on_loop k moves slow late doings).goes is))

pub returns-clause-polls : goal.returns-clause-polls
returns-clause-polls c k late doings calls before us moves slow are is few =
    let x = course_behind k late doings in
    each_of 95000 x.start calls before (subst (λ (c : List Call). TicksSo 95000 x.start c) are ((on_loop k moves slow late doings).each us is few))
