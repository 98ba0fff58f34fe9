use Rattle.std.proofs.Common.{Ok, Err, IfSome, ap, subst, rules}
use Rattle.report_judge.specs.Records.{JudgedRecord, RecordRefused}
use Rattle.irig_device.specs.Watched.{device_of}
use Rattle.irig_main.proofs.record.judge_pair.Goals as goal

pub returns-in-Ok-clause-judged : goal.returns-in-Ok-clause-judged
returns-in-Ok-clause-judged g c = record {
  left = _;
  rest = _;
  result = Ok c.in-Ok.judged;
  judged = (
    subst (λ a. IfSome (g.C.Read.remaining (device_of c.args.config.now)) (λ t. IfSome (g.D.Read.remaining (device_of c.args.data.now)) (λ s. JudgedRecord a t s c.in-Ok.judged))) c.asked_of.ensures c.in-Ok.ensures.judged,
    c.in-Ok.ensures.config_end,
    c.in-Ok.ensures.data_end,
  );
  shown = c.show.ensures.shown;
}

pub returns-in-Err-clause-judged : goal.returns-in-Err-clause-judged
returns-in-Err-clause-judged g c = record {
  left = g.C.Read.remaining (device_of c.judge_record.new.config);
  rest = g.D.Read.remaining (device_of c.judge_record.new.data);
  result = Err c.in-Err.fault;
  judged = λ no_config no_samples. subst (λ a. RecordRefused a (g.C.Read.remaining (device_of c.args.config.now)) (g.D.Read.remaining (device_of c.args.data.now)) c.in-Err.fault)
      c.asked_of.ensures (c.in-Err.ensures.refused no_config no_samples);
  shown = (ap (λ f. Err f) c.from.ensures, search rules);
}
