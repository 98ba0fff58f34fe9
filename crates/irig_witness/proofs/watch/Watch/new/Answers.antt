use Rattle.std.proofs.Common.{refl}
use Rattle.irig_witness.proofs.WatchLaws.{new_on}
use Rattle.irig_witness.proofs.watch.Watch.new.Goals as goal

pub returns : goal.returns
returns c clock x = new_on _ clock x c.args.start c.new_witness.ensures c.new_witness-2.ensures c.new_witness-3.ensures c.new_witness-4.ensures c.new_witness-5.ensures refl refl
