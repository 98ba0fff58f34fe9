use Rattle.record_lines.proofs.SeeLaws.{holds_none, holds_one}
use Rattle.record_lines.proofs.recording.Recording.hold.Goals as goal

pub returns-in-Some-clause-holds : goal.returns-in-Some-clause-holds
returns-in-Some-clause-holds g c = holds_one c.args.self.now.held c.push.new.self c.args.line c.in-Some.edge c.args.edge c.of.result c.in-Some.is c.of.ensures.line c.of.ensures.edge c.push.ensures.changes c.push.ensures.played c.push.ensures.room

pub returns-in_default-clause-holds : goal.returns-in_default-clause-holds
returns-in_default-clause-holds g c = holds_none c.args.self.now.held c.args.line c.args.edge c.in_default.is
