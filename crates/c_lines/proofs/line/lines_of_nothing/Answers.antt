use Rattle.c_lines.proofs.line.lines_of_nothing.Goals as goal

pub returns-clause-new : goal.returns-clause-new
returns-clause-new c limits rules = record {
  a = c.line_of_nothing.ensures.new limits rules;
  b = c.line_of_nothing-2.ensures.new limits rules;
  c = c.line_of_nothing-3.ensures.new limits rules;
  d = c.line_of_nothing-4.ensures.new limits rules;
  e = c.line_of_nothing-5.ensures.new limits rules;
}
