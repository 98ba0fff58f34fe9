use Rattle.std.proofs.Common.{◌∙◌, ℕ, ◌∷◌, sym, subst}
use Rattle.std.proofs.lemmas.Bool.{and_from}
use Rattle.irig_timekeeper.specs.Life.Call.{Tick}
use Rattle.irig_timekeeper.specs.Truth.{IsStampedTruly}
use Rattle.irig_lives.specs.Decided.{in_order}
use Rattle.irig_lives.proofs.DecidedLaws.{both, order_is}
use Rattle.irig_wires.specs.Oscillator.{rate_of}
use Rattle.irig_witness.specs.Promise.{lines_of}
use Rattle.irig_witness.proofs.VouchLaws.{device, in_time, lives_well}
use Rattle.irig_witness.proofs.WatchLaws.{tick_is}
use Rattle.irig_witness.proofs.device.Device.stamp.Goals as goal

pub returns-clause-truth : goal.returns-clause-truth
returns-clause-truth g c t sent made start now n tau calls stamp is setup kept turn past young small at said =
    let d = c.args.self.now in
    let first = d.oscillator.first in
    let rate = rate_of d.oscillator.gain_us in
    let x = lines_of made.rules t sent first rate in
    let keeps = sym is.watch.kept ∙ kept in
    let order = (both (in_order start made.clock.redundancy calls) _ keeps).0 in
    let next = order_is start made.clock.redundancy (Tick now ∷ calls) (tick_is d.watch made.clock x start calls is.watch now ∙ and_from _ _ turn order) in
    let well = lives_well t x made start calls (device t sent first rate made.rules made.clock made.table setup) keeps in
    let stamped : IsStampedTruly t x.edges 0 c.args.time stamp = c.stamp.ensures.truth t x.edges made start c.args.time now calls stamp is.lived c.low.ensures well next past young said in
    in_time t first rate n tau stamp made.clock made.table setup small (subst (λ (time : ℕ). IsStampedTruly t x.edges 0 time stamp) at stamped)
