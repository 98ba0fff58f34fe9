use Rattle.std.proofs.Common.{◌≡◌, ◌∙◌, None, ap, sym}
use Rattle.irig_time.specs.Timelines.{truth_at}
use Rattle.irig_gen.specs.Sent.{frame_of}
use Rattle.irig_station.specs.SentSeconds.{frame_or_blank, harmless_of}
use Rattle.irig_station.proofs.HarmlessLaws.{frame_right}
use Rattle.irig_station.proofs.frames.plain_frame.Given.{Over}
use Rattle.irig_station.proofs.frames.plain_frame.Goals.{After-if_harmless}
use Rattle.irig_station.proofs.frames.plain_frame.Goals as goal

pub if_harmless-requires : goal.if_harmless-requires
if_harmless-requires g c = frame_right None c.args.generator.now c.args.timeline.now c.edge-edge.result c.frame_at-plain.result c.frame_at-plain.ensures.frame

plain_is : (g : Over) (c : After-if_harmless g) → c.if_harmless.result ≡ harmless_of c.args.rules c.args.timeline.now c.args.generator.now.edge (frame_of None c.args.generator.now c.args.timeline.now c.args.generator.now.edge)
plain_is g c =
    let t = c.args.timeline.now in
    let x = c.args.generator.now in
    c.if_harmless.ensures t x.edge (c.truth-truth.ensures.value ∙ ap (truth_at t) c.edge-edge.ensures)
    ∙ ap (harmless_of c.args.rules t x.edge) (c.frame_at-plain.ensures.value ∙ ap (frame_of None x t) c.edge-edge.ensures)

pub returns-in-Some : goal.returns-in-Some
returns-in-Some g c = ap frame_or_blank (sym c.in-Some.is ∙ plain_is g (goal.at.returns-in-Some g c).After-if_harmless)

pub returns-in-None : goal.returns-in-None
returns-in-None g c = c.blank.ensures ∙ ap frame_or_blank (sym c.in-None.is ∙ plain_is g (goal.at.returns-in-None g c).After-if_harmless)
