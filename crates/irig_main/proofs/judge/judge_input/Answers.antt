use Rattle.std.proofs.Common.{Ok, Err, IfSome, ap, subst, rules}
use Rattle.report_judge.specs.Readings.{JudgedWhole, RefusedBy}
use Rattle.irig_device.specs.Watched.{device_of}
use Rattle.irig_main.proofs.judge.judge_input.Goals as goal

pub returns-in-Ok-clause-judged : goal.returns-in-Ok-clause-judged
returns-in-Ok-clause-judged g c = record {
  result = Ok c.in-Ok.judged;
  judged = (
    subst (λ a. IfSome (g.I.Read.remaining (device_of c.args.input.now)) (λ text. JudgedWhole a text c.in-Ok.judged)) c.asked_of.ensures c.in-Ok.ensures.judged,
    c.in-Ok.ensures.end,
  );
  shown = c.show.ensures.shown;
}

pub returns-in-Err-clause-judged : goal.returns-in-Err-clause-judged
returns-in-Err-clause-judged g c = record {
  result = Err c.in-Err.fault;
  judged = λ no. subst (λ a. IfSome (g.I.Read.remaining (device_of c.args.input.now)) (λ text. RefusedBy a text c.in-Err.fault)) c.asked_of.ensures (c.in-Err.ensures.refused no);
  shown = (ap (λ f. Err f) c.from.ensures, search rules);
}
