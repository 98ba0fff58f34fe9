use Rattle.std.proofs.Common.{rules}
use Rattle.irig_time.proofs.TextValueLaws.{second_text_is}
use Rattle.irig_time.proofs.text.write_text.Goals as goal

pub returns-clause-text : goal.returns-clause-text
returns-clause-text c = search rules

pub returns-clause-value : goal.returns-clause-value
returns-clause-value c = second_text_is c.args.utc.now _ c.requires (returns-clause-text c)
