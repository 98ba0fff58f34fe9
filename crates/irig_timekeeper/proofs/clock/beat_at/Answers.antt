use Rattle.std.proofs.Common.{sym, subst}
use Rattle.irig_vote.specs.Vote.{AreOfUtc}
use Rattle.irig_timekeeper.proofs.UtcLaws.{told_of_utc}
use Rattle.irig_timekeeper.proofs.clock.beat_at.Goals as goal

pub returns-clause-told : goal.returns-clause-told
returns-clause-told g c =
    subst AreOfUtc (sym c.tells_of.ensures) (told_of_utc c.args.state.now.lines c.requires.lines)
