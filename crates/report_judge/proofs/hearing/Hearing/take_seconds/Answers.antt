use Rattle.std.proofs.Common.{◌∙◌, refl, subst}
use Rattle.record_lines.specs.Recordings.{IsPlayedOn}
use Rattle.report_judge.proofs.HearingLaws.{takes_none, takes_one, then_takes}
use Rattle.report_judge.proofs.hearing.Hearing.take_seconds.Goals as goal

pub loop-second-preserved : goal.loop-second-preserved
loop-second-preserved c =
    let played = subst (λ s. IsPlayedOn c.loop-second.self.recording c.next.new.self s) c.in-Some.is c.next.ensures.played in (
      then_takes c.args.self.now c.loop-second.self _ c.loop-second.invariant.0 (takes_one c.loop-second.self _ c.in-Some.second played c.next.ensures.time c.next.ensures.end c.take.ensures),
      c.next.ensures.time ∙ c.loop-second.invariant.1,
      c.next.ensures.end ∙ c.loop-second.invariant.2,
      c.loop-second.invariant.3,
    )

pub returns-clause-takes : goal.returns-clause-takes
returns-clause-takes c =
    let played = subst (λ s. IsPlayedOn c.loop-second.self.recording c.next.new.self s) c.in_default.is c.next.ensures.played in
    then_takes c.args.self.now c.loop-second.self _ c.loop-second.invariant.0 (takes_none c.loop-second.self _ played c.next.ensures.time c.next.ensures.end refl)

pub returns-clause-form : goal.returns-clause-form
returns-clause-form c = c.loop-second.invariant.3
