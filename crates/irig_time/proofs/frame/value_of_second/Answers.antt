use Rattle.std.proofs.Common.{not, slice_set, arith, subst, ℕ, ℤ, sym}
use Rattle.irig_frame.specs.declared.symbol.Symbol.TheVariants.{Zero}
use Rattle.irig_frame.specs.Decoder.{IsCoded}
use Rattle.irig_frame.specs.Encoder.{frame_of_coded}
use Rattle.irig_frame.proofs.EncodingLaws.{written_reads, written_spare}
use Rattle.irig_control.specs.Control.{word_of}
use Rattle.irig_control.specs.Parity.{has_parity, with_parity}
use Rattle.irig_control.proofs.ControlLaws.{in_byte, word_of-below}
use Rattle.irig_control.proofs.ParityLaws.{parity_given}
use Rattle.irig_time.specs.CodedTime.{IsCodedOf}
use Rattle.irig_time.specs.Frames.{IsFrameOfSecond}
use Rattle.irig_time.proofs.FrameLaws.{coded_fits, frame_is, frame_of_second_is, one_frame_of_second}
use Rattle.irig_time.proofs.frame.value_of_second.Goals as goal

pub returns-clause-in_range : goal.returns-clause-in_range
returns-clause-in_range c =
    let time = c.coded_of.result in
    let k = c.args.control.now in
    let h = c.args.half_hours in
    let coded = subst (λ (z : ℤ). IsCodedOf c.args.utc.now z time) (in_byte h c.requires.local) c.coded_of.ensures.time in
    subst (λ (w : ℕ). IsCoded (record time { control = w })) (sym c.pack.ensures.word) (coded_fits c.args.utc.now h k time c.requires.valid c.requires.control coded)

pub returns-clause-unused : goal.returns-clause-unused
returns-clause-unused c = omega (arith, c.pack.ensures.word, word_of-below c.args.control.now c.requires.control)

pub returns-clause-frame : goal.returns-clause-frame
returns-clause-frame c = λ parity.
    let time = c.coded_of.result in
    let u = c.args.utc.now in
    let k = c.args.control.now in
    let h = c.args.half_hours in
    let coded = subst (λ (z : ℤ). IsCodedOf u z time) (in_byte h c.requires.local) c.coded_of.ensures.time in
    let value = record time { control = word_of k } in
    let s = frame_of_coded value in
    let reads = written_reads value (coded_fits u h k time c.requires.valid c.requires.control coded) in
    subst (λ (w : ℕ). IsFrameOfSecond parity u h k (with_parity parity (frame_of_coded (record time { control = w })))) (sym c.pack.ensures.word)
    (frame_is parity u h k time s (not (has_parity parity (slice_set s 75 Zero))) c.requires.control coded reads (written_spare value) (parity_given parity s (omega (arith, reads.len))))

pub returns-clause-value : goal.returns-clause-value
returns-clause-value c = λ parity.
    let u = c.args.utc.now in
    let k = c.args.control.now in
    one_frame_of_second parity u c.args.half_hours k _ _ (returns-clause-frame c parity) (frame_of_second_is parity u c.args.half_hours k c.requires.valid c.requires.local c.requires.control)
