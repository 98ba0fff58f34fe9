use Rattle.std.proofs.Common.{rules, ◌≡◌, length}
use Rattle.record_pulses.proofs.ViewLaws.{keeps, keeps_whole}
use Rattle.record_pulses.proofs.frames.Frames.keep.Goals as goal

pub returns-then-place-eq100 : goal.returns-then-place-eq100
returns-then-place-eq100 c pulses h e =
    let from = c.from.ensures in let long : length c.args.self.now.heard ≡ 100 = search rules in
    rw from (keeps_whole c.args.self.now c.args.pulse pulses c.args.place long h e c.if-place-eq100.true)

pub returns-else-place-eq100 : goal.returns-else-place-eq100
returns-else-place-eq100 c pulses h e =
    let from = c.from.ensures in let long : length c.args.self.now.heard ≡ 100 = search rules in
    rw from (keeps c.args.self.now c.args.pulse pulses c.args.place long h e c.if-place-eq0.false c.if-place-eq100.false)
