use Rattle.report_log.specs.Text.{texts_of}
use Rattle.report_flat.proofs.PushLaws.{tick_line}
use Rattle.report_flat.proofs.line_text.push_tick.Goals as goal

pub returns : goal.returns
returns c = rw (tick_line (texts_of c.args.names.now.keys) c.args.r) c.push_named.ensures
