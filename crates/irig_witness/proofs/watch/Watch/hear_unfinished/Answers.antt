use Rattle.irig_witness.proofs.MostLaws.{hears_most, others_most, tick_most}
use Rattle.irig_witness.proofs.watch.Watch.hear_unfinished.Goals as goal

pub returns : goal.returns
returns c = record {
  on = hears_most c.args.self.now _ c.args.line c.args.element c.args.last c.hear_most.ensures;
  others = others_most c.args.self.now _ c.args.line _ c.requires.line c.hear_most.ensures;
  tick = tick_most c.args.self.now _ c.args.line _ c.requires.line c.hear_most.ensures;
}
