use Rattle.std.proofs.Common.{◌+◌, ◌*◌, arith}
use Rattle.irig_wires.specs.Oscillator.{counter_at}
use Rattle.irig_witness.specs.Promise.{lines_of}
use Rattle.irig_witness.proofs.VouchLaws.{device, in_time, tells, stamps}
use Rattle.irig_witness.proofs.laws.a_device_vouches.Goals as goal

pub returns-clause-tells : goal.returns-clause-tells
returns-clause-tells _ t sent first rate made start now calls beat u is kept answer says =
    tells t (lines_of made.rules t sent first rate) made start (device t sent first rate made.rules made.clock made.table is) now calls beat u kept answer says

pub returns-clause-stamps : goal.returns-clause-stamps
returns-clause-stamps _ t sent first rate n tau made start now calls stamp is small kept order past young e =
    in_time t first rate n tau stamp made.clock made.table is small
    (stamps t (lines_of made.rules t sent first rate) made start (device t sent first rate made.rules made.clock made.table is) (counter_at first rate (n * 1000000 + tau)) now calls stamp kept order past young e)

pub returns-clause-together : goal.returns-clause-together
returns-clause-together _ t d e n tau one two by_one by_two = omega (arith, by_one.late, by_two.early)
