use Rattle.std.proofs.Common.{ap, ◌∙◌}
use Rattle.record_pulses.specs.declared.track.Step.{Step}
use Rattle.record_pulses.proofs.ViewLaws.{bare_more}
use Rattle.record_pulses.proofs.view.View.hear.Goals as goal

pub returns-clause-new : goal.returns-clause-new
returns-clause-new c pulses h after =
    let step = c.step-step.ensures.step pulses h.track after in
    let place = ap (λ (s : Step). s.place) step in
    let frames = c.keep.ensures pulses h.frames place in
    record {
      track = c.step-step.ensures.new pulses h.track after;
      seen = c.note.ensures pulses h.seen step (c.end_bare-is_bare.ensures ∙ bare_more _ c.args.pulse pulses _ frames place);
      frames = frames;
    }
