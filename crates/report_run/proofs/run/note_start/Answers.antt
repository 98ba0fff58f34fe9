use Rattle.std.proofs.Common.{◌≡◌, ◌∙◌, true, rules}
use Rattle.report_run.proofs.StartLaws.{counted, uncounted, noted}
use Rattle.report_run.proofs.run.note_start.Goals as goal
use Rattle.report_run.proofs.run.note_start.Goals.{in-Some, in-None}

pub returns-in-Ok-clause-noted : goal.returns-in-Ok-clause-noted
returns-in-Ok-clause-noted g c = λ asked at stands.
    let counts : g.T.Play.counts ≡ true = search rules in
    noted g.T.Play.entries g.T.Play.counts at c.match-player.count _ _ counts (elim c.match-player.branch [
      | in-Some w ↦ counted g.T.Play.entries (g.T.Play.stands_for asked) _ _ at _ w.in-Some.is stands (λ x here. w.count-is ∙ w.count-count.ensures asked x counts here)
      | in-None w ↦ uncounted g.T.Play.entries (g.T.Play.stands_for asked) _ at _ w.in-None.is stands w.count-is
    ]) (search rules)
