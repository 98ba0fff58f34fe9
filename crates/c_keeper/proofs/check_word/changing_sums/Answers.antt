use Rattle.c_keeper.proofs.check_word.changing_sums.Goals as goal

pub returns : goal.returns
returns c = c.with_state.ensures _ (c.with_clock-clock.ensures _ c.lines_sums.ensures)
