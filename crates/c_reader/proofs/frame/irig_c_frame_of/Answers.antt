use Rattle.std.proofs.Common.{rules, ◌≤◌, ℤ, subst, unsigned_abs}
use Rattle.irig_control.proofs.ControlLaws.{in_byte}
use Rattle.irig_time.specs.Frames.{IsFrameOfSecond}
use Rattle.c_reader.proofs.frame.irig_c_frame_of.Goals as goal

pub returns-clause-frame : goal.returns-clause-frame
returns-clause-frame c done =
    let small : unsigned_abs c.args.local_half_hours ≤ 31 = search rules in
    rw (c.numbers_of.ensures, ← c.parity_of.ensures, ← c.control_of_c-control.ensures)
    (subst (λ (z : ℤ). IsFrameOfSecond c.parity_of.result c.args.second.now z c.control_of_c-control.result c.frame_of_second-frame.result) (in_byte c.args.local_half_hours small) c.frame_of_second-frame.ensures.frame)
