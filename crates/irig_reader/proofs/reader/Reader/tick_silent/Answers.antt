use Rattle.std.proofs.Common.{refl, ◌∙◌}
use Rattle.irig_reader.proofs.SilentLaws.{silent_vote}
use Rattle.irig_reader.proofs.reader.Reader.tick_silent.Goals as goal

pub returns-clause-report : goal.returns-clause-report
returns-clause-report g c history s = c.go_on.ensures.report ∙ rw (s.reader_rules, s.table, s.state, silent_vote history (c.requires history s)) refl

pub returns-clause-after : goal.returns-clause-after
returns-clause-after g c history s =
    let empty = c.requires history s in
    rw (silent_vote history empty, ← empty) (c.go_on.ensures.votes history s)
