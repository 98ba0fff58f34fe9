use Rattle.irig_simulated.proofs.AnnounceCourses.{course_announces, told_passed, told_ticked}
use Rattle.irig_simulated.proofs.laws.a_course_announces.Goals as goal

pub returns-clause-announces : goal.returns-clause-announces
returns-clause-announces c t k late doings m calls before u moves slow in_time are counted fresh come follows second =
    course_announces t k late doings m calls before u moves slow in_time are counted fresh come follows second

pub returns-clause-passes : goal.returns-clause-passes
returns-clause-passes c k signal stop x = told_passed k signal stop x

pub returns-clause-ticks : goal.returns-clause-ticks
returns-clause-ticks c k x = told_ticked k x
