use Rattle.report_log.specs.Text.{texts_of}
use Rattle.report_flat.proofs.PushLaws.{restart_line}
use Rattle.report_flat.proofs.line_text.push_restart.Goals as goal

pub returns : goal.returns
returns c = rw (restart_line (texts_of c.args.names.now.keys) c.args.r) c.push_named.ensures
