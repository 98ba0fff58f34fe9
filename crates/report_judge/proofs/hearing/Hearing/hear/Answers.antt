use Rattle.std.proofs.Common.{◌∙◌, refl, sym, subst}
use Rattle.std.proofs.lemmas.Option.{same_Some}
use Rattle.report_judge.specs.Hearings.{HearsOn}
use Rattle.report_judge.proofs.HearingLaws.{hears_levels}
use Rattle.report_judge.proofs.hearing.Hearing.hear.Goals as goal

pub returns-in-Some-clause-some : goal.returns-in-Some-clause-some
returns-in-Some-clause-some c heard is =
    subst (HearsOn c.args.self.now c.take_seconds.new.self) (same_Some c.in-Some.levels heard (sym c.in-Some.is ∙ is))
    (hears_levels c.args.self.now _ c.take_seconds.new.self c.in-Some.levels c.levels.ensures.told c.levels.ensures.end c.levels.ensures.time refl c.take_seconds.ensures.takes c.take_seconds.ensures.time c.take_seconds.ensures.end c.take_seconds.ensures.room)
