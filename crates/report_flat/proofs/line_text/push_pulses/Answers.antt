use Rattle.report_log.specs.Text.{texts_of}
use Rattle.report_flat.proofs.PushLaws.{pulses_added}
use Rattle.report_flat.proofs.line_text.push_pulses.Goals as goal

pub returns : goal.returns
returns c =
    pulses_added _ (texts_of c.args.names.now.keys) c.args.g c.args.r c.args.widths.now _ _ _ _ _ _ _ _ _ c.name_at.ensures c.in_ok-push_str.ensures.bytes (rw (← c.from.ensures) c.in_ok-push_number.ensures) c.in_ok-push_str-2.ensures.bytes c.in_ok-push_str-3.ensures.bytes
    c.in_ok-push_str-4.ensures.bytes c.in_ok-push_numbers.ensures c.push_str-5.ensures.bytes
