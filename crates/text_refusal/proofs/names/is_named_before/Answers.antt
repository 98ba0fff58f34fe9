use Rattle.std.proofs.Common.{◌∙◌}
use Rattle.text_refusal.proofs.PlaceLaws.{named_before}
use Rattle.text_refusal.proofs.names.is_named_before.Goals as goal

pub returns : goal.returns
returns c = c.has_name.ensures ∙ named_before c.args.name.now c.args.readers.now c.args.at
