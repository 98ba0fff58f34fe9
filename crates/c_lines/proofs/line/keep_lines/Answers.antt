use Rattle.std.proofs.Common.{ap}
use Rattle.irig_lines.specs.declared.lines.Lines.{Lines}
use Rattle.c_lines.proofs.line.keep_lines.Goals as goal

pub returns-clause-lines : goal.returns-clause-lines
returns-clause-lines c limits rules read h is = λ i. record {
  a = c.keep_line.ensures.line limits rules read.a h.a (ap (λ (ls : Lines). ls.a) is) i;
  b = c.keep_line-2.ensures.line limits rules read.b h.b (ap (λ (ls : Lines). ls.b) is) i;
  c = c.keep_line-3.ensures.line limits rules read.c h.c (ap (λ (ls : Lines). ls.c) is) i;
  d = c.keep_line-4.ensures.line limits rules read.d h.d (ap (λ (ls : Lines). ls.d) is) i;
  e = c.keep_line-5.ensures.line limits rules read.e h.e (ap (λ (ls : Lines). ls.e) is) i;
}
