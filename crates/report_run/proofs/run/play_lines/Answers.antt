use Rattle.std.proofs.Common.{rules, arith, []}
use Rattle.std.proofs.lemmas.Result.{err_from_is_err_and}
use Rattle.std.proofs.lemmas.Grind.{common_steps}
use Rattle.report_run.proofs.RestLaws.{no_read_failed}
use Rattle.report_run.proofs.RunLaws.{has_begun, line_done, line_first_is, left_read, left_ended, left_too_long, left_last, left_unnoted, last_first_is}
use Rattle.report_run.proofs.run.play_lines.Goals as goal

pub loop-input-init : goal.loop-input-init
loop-input-init g c = (omega arith, omega arith, c.requires.output_whole, c.requires.input_whole, rw c.requires.none (has_begun g.T.Play.language g.T.Play.ends g.T.Play.entries (g.T.Play.stands_for c.args.asked) g.T.Play.counts (g.T.Play.texts c.args.asked) _ _ _ c.requires.new))

pub returns-in_err-read_line-clause-ran : goal.returns-in_err-read_line-clause-ran
returns-in_err-read_line-clause-ran g c =
    let p = err_from_is_err_and c.from_residual-in_err-read_line.result c.from_residual-in_err-read_line.ensures.1 in
    rw (p.1, p.2) (left_read g.T.Play.language g.T.Play.ends g.T.Play.entries (g.T.Play.stands_for c.args.asked) g.T.Play.counts (g.T.Play.texts c.args.asked) (g.met.T.Play.stays c.args.asked) _ _ _ _ _ _ _ c.loop-input.invariant.4 _ (c.in_ok-note_start.ensures.noted c.args.asked c.loop-input.invariant.4.at c.loop-input.invariant.4.stands) _ _ c.in_err-read_line.ensures.fault c.in_err-read_line.ensures.part)

pub returns-in_err-run_line-in-Newline-clause-ran : goal.returns-in_err-run_line-in-Newline-clause-ran
returns-in_err-run_line-in-Newline-clause-ran g c =
    let p = err_from_is_err_and c.from_residual-in_err-run_line-in-Newline.result c.from_residual-in_err-run_line-in-Newline.ensures.1 in
    rw (p.1, p.2) (left_ended g.T.Play.language g.T.Play.ends g.T.Play.entries (g.T.Play.stands_for c.args.asked) g.T.Play.counts (g.T.Play.texts c.args.asked) (g.met.T.Play.stays c.args.asked) _ _ _ _ _ _ _ c.loop-input.invariant.4 _ (c.in_ok-note_start.ensures.noted c.args.asked c.loop-input.invariant.4.at c.loop-input.invariant.4.stands) _ _ _ _ _ _ _ _ c.in_ok-read_line.ensures.line c.in-Newline.is c.deref.ensures.value c.limit_of.ensures
    c.in_err-run_line-in-Newline.ensures.runs c.in_err-run_line-in-Newline.ensures.leaves)

pub loop-input-preserved : goal.loop-input-preserved
loop-input-preserved g c = (
  omega arith,
  search rules,
  search rules,
  search rules,
  line_done g.T.Play.language g.T.Play.ends g.T.Play.entries (g.T.Play.stands_for c.args.asked) g.T.Play.counts (g.T.Play.texts c.args.asked) _ _ _ _ _ _ _ _ _ _ _ _ _ _ _ c.loop-input.invariant.4 (c.in_ok-note_start.ensures.noted c.args.asked c.loop-input.invariant.4.at c.loop-input.invariant.4.stands) c.in_ok-read_line.ensures.line c.in-Newline.is c.deref.ensures.value
      c.in_ok-run_line-in-Newline.ensures.runs,
)

pub returns-in-TooLong-clause-ran : goal.returns-in-TooLong-clause-ran
returns-in-TooLong-clause-ran g c =
    left_too_long g.T.Play.language g.T.Play.ends g.T.Play.entries (g.T.Play.stands_for c.args.asked) g.T.Play.counts (g.T.Play.texts c.args.asked) (g.met.T.Play.stays c.args.asked) _ _ _ _ _ _ _ c.loop-input.invariant.4 _ (c.in_ok-note_start.ensures.noted c.args.asked c.loop-input.invariant.4.at c.loop-input.invariant.4.stands) _ _ _ _ _ _ _ c.in_ok-read_line.ensures.line c.in-TooLong.is c.limit_of.ensures
    c.too_long.ensures c.stop.ensures.wrote

pub returns-in-EndOfInput-clause-ran : goal.returns-in-EndOfInput-clause-ran
returns-in-EndOfInput-clause-ran g c =
    left_last g.T.Play.language g.T.Play.ends g.T.Play.entries (g.T.Play.stands_for c.args.asked) g.T.Play.counts (g.T.Play.texts c.args.asked) (g.met.T.Play.stays c.args.asked) _ _ _ _ _ _ _ c.loop-input.invariant.4 _ (c.in_ok-note_start.ensures.noted c.args.asked c.loop-input.invariant.4.at c.loop-input.invariant.4.stands) _ _ _ _ _ _ _ _ c.in_ok-read_line.ensures.line c.in-EndOfInput.is c.deref-in-EndOfInput.ensures.value c.limit_of.ensures
    c.run_last.ensures.runs c.run_last.ensures.heard

pub returns-in-TooLong-clause-read : goal.returns-in-TooLong-clause-read
returns-in-TooLong-clause-read g c = grind (arith, common_steps)

pub returns-in-TooLong-clause-write : goal.returns-in-TooLong-clause-write
returns-in-TooLong-clause-write g c = grind (arith, common_steps)

pub returns-in-EndOfInput-clause-read : goal.returns-in-EndOfInput-clause-read
returns-in-EndOfInput-clause-read g c =
    let run = c.loop-input.invariant.4 in
    no_read_failed g.T.Play.language g.T.Play.ends (g.T.Play.texts c.args.asked) _ _ _ _ run.at _ _ _ (c.run_last.ensures.runs run.at _ run.stands (last_first_is g.T.Play.language g.T.Play.ends g.T.Play.entries (g.T.Play.stands_for c.args.asked) g.T.Play.counts (g.T.Play.texts c.args.asked) (g.met.T.Play.stays c.args.asked) _ _ _ _ _ _ _ run _ (c.in_ok-note_start.ensures.noted c.args.asked c.loop-input.invariant.4.at c.loop-input.invariant.4.stands) _ _ _ _ _ c.in_ok-read_line.ensures.line c.deref-in-EndOfInput.ensures.value)) (search rules)

pub returns-in-EndOfInput-clause-write : goal.returns-in-EndOfInput-clause-write
returns-in-EndOfInput-clause-write g c = grind (arith, common_steps)

pub returns-in_err-read_line-clause-read : goal.returns-in_err-read_line-clause-read
returns-in_err-read_line-clause-read g c = grind (arith, common_steps)

pub returns-in_err-read_line-clause-write : goal.returns-in_err-read_line-clause-write
returns-in_err-read_line-clause-write g c = grind (arith, common_steps)

pub returns-in_err-run_line-in-Newline-clause-read : goal.returns-in_err-run_line-in-Newline-clause-read
returns-in_err-run_line-in-Newline-clause-read g c =
    let p = err_from_is_err_and c.from_residual-in_err-run_line-in-Newline.result c.from_residual-in_err-run_line-in-Newline.ensures.1 in
    let run = c.loop-input.invariant.4 in
    rw (p.1, p.2) (no_read_failed g.T.Play.language g.T.Play.ends (g.T.Play.texts c.args.asked) _ _ 0 _ run.at _ _ _ ((c.in_err-run_line-in-Newline.ensures.runs run.at _ run.stands (line_first_is g.T.Play.language g.T.Play.ends g.T.Play.entries (g.T.Play.stands_for c.args.asked) g.T.Play.counts (g.T.Play.texts c.args.asked) (g.met.T.Play.stays c.args.asked) _ _ _ _ _ _ _ run _ (c.in_ok-note_start.ensures.noted c.args.asked c.loop-input.invariant.4.at c.loop-input.invariant.4.stands) _)).ran [] 0) (search rules))

pub returns-in_err-run_line-in-Newline-clause-write : goal.returns-in_err-run_line-in-Newline-clause-write
returns-in_err-run_line-in-Newline-clause-write g c = grind (arith, common_steps)

pub returns-in_err-note_start-clause-ran : goal.returns-in_err-note_start-clause-ran
returns-in_err-note_start-clause-ran g c =
    let p = err_from_is_err_and c.from_residual.result c.from_residual.ensures.1 in
    rw (p.1, p.2, c.in_err-note_start.ensures.memory) (left_unnoted g.T.Play.language g.T.Play.ends g.T.Play.entries (g.T.Play.stands_for c.args.asked) g.T.Play.counts (g.T.Play.texts c.args.asked) (g.met.T.Play.stays c.args.asked) _ _ _ _ _ _ _ c.loop-input.invariant.4 _)

pub returns-in_err-note_start-clause-read : goal.returns-in_err-note_start-clause-read
returns-in_err-note_start-clause-read g c =
    let p = err_from_is_err_and c.from_residual.result c.from_residual.ensures.1 in
    rw (p.1, p.2, c.in_err-note_start.ensures.memory) (grind (arith, common_steps))

pub returns-in_err-note_start-clause-write : goal.returns-in_err-note_start-clause-write
returns-in_err-note_start-clause-write g c =
    let p = err_from_is_err_and c.from_residual.result c.from_residual.ensures.1 in
    rw (p.1, p.2, c.in_err-note_start.ensures.memory) (grind (arith, common_steps))
