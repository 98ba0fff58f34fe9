use Rattle.std.proofs.Common.{◌≡◌, length, arith}
use Rattle.irig_control.proofs.OnesLaws.{ones_are}
use Rattle.irig_control.proofs.parity.ones_in.Goals as goal

pub returns : goal.returns
returns c =
    let s = c.args.frame.now in
    let len : length s ≡ 100 = c.told-frame in
    let all = ones_are s (omega (arith, len)) in
    omega (arith, all, c.count_ones.ensures.count, c.count_ones-2.ensures.count, c.count_ones-3.ensures.count, c.count_ones-4.ensures.count, c.count_ones-5.ensures.count, c.count_ones-6.ensures.count, c.count_ones-7.ensures.count, c.count_ones-8.ensures.count)
