use Rattle.std.proofs.Common.{arith}
use Rattle.irig_lines.specs.Lines.{IsTrueLately}
use Rattle.irig_lines.specs.Steps.{no_lines}
use Rattle.irig_lines.proofs.LineLaws.{true_by_any}
use Rattle.irig_timekeeper.specs.Life.{device_of}
use Rattle.irig_timekeeper.specs.Lived.{made_with}
use Rattle.irig_timekeeper.proofs.LearnLaws.{steps_truly}
use Rattle.irig_timekeeper.proofs.RowLaws.{in_a_row, none_lost}
use Rattle.irig_witness.specs.Promise.{lines_of}
use Rattle.irig_witness.proofs.VouchLaws.{device, lives}
use Rattle.irig_simulated.specs.Kinds.{count}
use Rattle.irig_simulated.proofs.laws.a_course_stamps_each_instant.Goals as goal

pub returns : goal.returns
returns _ t sent k x edge next time beat then u v fresh is kept row says says_then none from upto =
    let made = made_with k.made no_lines fresh in
    let by = lines_of k.made.rules t sent k.first k.rate in
    let l = lives t by made x.start (device t sent k.first k.rate k.made.rules k.made.clock k.made.table is) x.calls kept in
    let near = in_a_row made.rules made.clock made.table made.lines x.start made.fresh (IsTrueLately made.clock.within.us made.rules t by.edges) t by.edges 0 0 l.is (omega arith)
    (λ now half end pulses claim is_true frame soon. true_by_any made.clock made.rules t made.clock.drift_us by.edges half now end pulses claim l.is.steady is_true frame soon)
    x.calls beat then edge next u l.order l.truth (steps_truly t by.edges made x.start x.calls l) row says none in
    none_lost (device_of made) x.calls beat then edge next u v row says says_then (count k time) near from upto
