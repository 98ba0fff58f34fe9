use Rattle.record_pulses.proofs.ViewLaws.{same_step, same_track}
use Rattle.std.proofs.Common.{rules}
use Rattle.record_pulses.proofs.track.Track.step.Goals as goal

pub returns-clause-step : goal.returns-clause-step
returns-clause-step c pulses h after =
    same_step c.args.self.now c.args.pulse pulses _ _ _ h after c.gap_from-gap_us.ensures c.place-place.ensures.place (search rules)

pub returns-clause-new : goal.returns-clause-new
returns-clause-new c pulses h after =
    same_track c.args.self.now c.args.pulse pulses c.gap_from-gap_us.result _ c.place-place.result _ h after c.gap_from-gap_us.ensures c.place-place.ensures.place c.place-place.ensures.new (search rules)
