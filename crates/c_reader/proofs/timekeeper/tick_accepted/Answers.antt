use Rattle.c_keeper.specs.CheckWord.{check_of}
use Rattle.c_keeper.proofs.TickLaws.{given_at_rest, given_checked, left_at_rest, left_checked}
use Rattle.c_reader.proofs.timekeeper.tick_accepted.Goals as goal

-- ---- nothing to do

pub returns-then-is_quiet-clause-given : goal.returns-then-is_quiet-clause-given
returns-then-is_quiet-clause-given c =
    given_at_rest c.args.timekeeper.now c.args.now_us c.nothing_told.result (c.is_quiet.ensures.rest c.requires.accepted.known.interval c.if-is_quiet.true) c.nothing_told.ensures

pub returns-then-is_quiet-clause-left : goal.returns-then-is_quiet-clause-left
returns-then-is_quiet-clause-left c =
    left_at_rest c.args.timekeeper.now c.args.now_us (c.is_quiet.ensures.rest c.requires.accepted.known.interval c.if-is_quiet.true) c.requires.accepted

pub returns-then-is_quiet-clause-sealed : goal.returns-then-is_quiet-clause-sealed
returns-then-is_quiet-clause-sealed c = c.requires.accepted.sealed

-- ---- something to do

pub returns-clause-given : goal.returns-clause-given
returns-clause-given c =
    given_checked c.args.timekeeper.now c.tick_at_work-second.new.timekeeper c.args.now_us c.check_of-timekeeper.result c.tick_at_work-second.result c.tick_at_work-second.ensures.given

pub returns-clause-left : goal.returns-clause-left
returns-clause-left c =
    left_checked c.args.timekeeper.now c.tick_at_work-second.new.timekeeper c.args.now_us c.check_of-timekeeper.result c.tick_at_work-second.ensures.left

pub returns-clause-sealed : goal.returns-clause-sealed
unfolding check_of
returns-clause-sealed c = c.check_of-timekeeper.ensures
