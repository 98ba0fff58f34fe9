use Rattle.std.proofs.Common.{rules}
use Rattle.record_pulses.proofs.ViewLaws.{seen_more}
use Rattle.record_pulses.proofs.seen.Seen.note.Goals as goal

pub returns : goal.returns
returns c pulses h e same =
    seen_more c.args.self.now _ c.args.pulse pulses c.args.step c.args.is_bare h e same (search rules) (c.add.ensures pulses h.widths) (c.note.ensures _ h.gaps)
    (let g = c.gap_in_step.ensures in rw g at (c.note-2.ensures _ h.in_step)) (c.note-3.ensures _ h.seconds)
