use Rattle.std.proofs.Common.{sym, subst, List, ℤ}
use Rattle.irig_frame.specs.declared.symbol.Symbol.{Symbol}
use Rattle.irig_frame.specs.Encoder.{frame_of_coded}
use Rattle.irig_control.specs.Parity.{with_parity}
use Rattle.irig_time.specs.Frames.{IsFrameOfSecond}
use Rattle.irig_control.proofs.ControlLaws.{in_byte}
use Rattle.irig_time.proofs.FrameLaws.{frame_of_second_is, one_frame_of_second}
use Rattle.irig_time.proofs.frame.frame_of_second.Goals as goal

pub returns-clause-frame : goal.returns-clause-frame
returns-clause-frame c =
    let u = c.args.utc.now in
    let k = c.args.control.now in
    let frame = subst (λ (h : ℤ). IsFrameOfSecond c.args.parity u h k (with_parity c.args.parity (frame_of_coded c.value_of_second.result))) (in_byte c.args.half_hours c.requires.local) (c.value_of_second.ensures.frame c.args.parity) in
    subst (λ (s : List Symbol). IsFrameOfSecond c.args.parity u c.args.half_hours k s) (sym c.encode_with_parity.ensures) frame

pub returns-clause-value : goal.returns-clause-value
returns-clause-value c =
    one_frame_of_second c.args.parity c.args.utc.now c.args.half_hours c.args.control.now _ _ (returns-clause-frame c)
    (frame_of_second_is c.args.parity c.args.utc.now c.args.half_hours c.args.control.now c.requires.valid c.requires.local c.requires.control)
