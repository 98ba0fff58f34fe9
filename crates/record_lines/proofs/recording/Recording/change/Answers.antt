use Rattle.record_lines.proofs.SeeLaws.{told_level}
use Rattle.record_lines.proofs.recording.Recording.change.Goals as goal

pub returns-clause-told : goal.returns-clause-told
returns-clause-told g c =
    told_level c.args.self.now c.hold.new.self c.hold-2.new.self c.ripen-ripe.new.self c.change-lasting.new.self c.args.line c.args.level c.ripen-ripe.result c.change-lasting.result
    c.ripen-ripe.ensures c.hold.ensures.channels c.hold.ensures.receiver c.hold.ensures.holds c.change-lasting.ensures c.hold-2.ensures.channels c.hold-2.ensures.receiver c.hold-2.ensures.holds
