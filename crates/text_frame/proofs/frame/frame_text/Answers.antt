use Rattle.std.proofs.Common.{ℤ, subst, to_z, of_z, w8}
use Rattle.irig_control.specs.declared.control.Control.{Control}
use Rattle.irig_control.proofs.ControlLaws.{in_byte}
use Rattle.irig_time.specs.Frames.{IsFrameOfSecond}
use Rattle.text_frame.specs.Frame.{control_with}
use Rattle.text_frame.proofs.frame.frame_text.Goals as goal

pub returns-in_default-clause-bad_time : goal.returns-in_default-clause-bad_time
returns-in_default-clause-bad_time c utc valid named =
    c.in_default.not-Some utc ((c.read_text.ensures.exact utc).1 (valid, named))

pub frame_of_second-frame-requires-clause-valid : goal.frame_of_second-frame-requires-clause-valid
frame_of_second-frame-requires-clause-valid c = ((c.read_text.ensures.exact c.in-Some.utc).0 c.in-Some.is).0

pub returns-clause-frame : goal.returns-clause-frame
returns-clause-frame c =
    let utc = c.in-Some.utc in
    let options = c.args.options.now in
    let frame = c.frame_of_second-frame.result in
    let read = (c.read_text.ensures.exact utc).0 c.in-Some.is in
    let controlled =
    subst (λ (k : Control). IsFrameOfSecond options.parity utc (to_z w8 (of_z w8 options.local)) k frame) c.control_of-control.ensures.control c.frame_of_second-frame.ensures.frame in record {
      utc = utc;
      frame = frame;
      valid = read.0;
      named = read.1;
      codes = subst (λ (h : ℤ). IsFrameOfSecond options.parity utc h (control_with options) frame) (in_byte options.local c.requires.local) controlled;
      shown = c.text_of.ensures;
    }
