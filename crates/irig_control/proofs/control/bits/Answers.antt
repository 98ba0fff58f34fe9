use Rattle.std.proofs.Common.{arith, ◌≡◌, ◌<◌, ◌*◌, ◌/◌, ◌%◌, ◌^◌}
use Rattle.std.proofs.lemmas.Nat.{pow_below, and_mask}
use Rattle.irig_control.proofs.control.bits.Goals as goal

pub returns : goal.returns
returns c =
    let small : 2 ^ c.args.width < 4294967296 = pow_below c.args.width 32 c.requires.width in
    let mask : 1 * 2 ^ c.args.width % 4294967296 ≡ 2 ^ c.args.width = omega arith in
    rw mask (and_mask (c.args.word / 2 ^ c.args.lowest) c.args.width)
