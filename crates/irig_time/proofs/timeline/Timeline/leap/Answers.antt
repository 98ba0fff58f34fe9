use Rattle.irig_time.proofs.StretchLaws.{indexed_by, rising}
use Rattle.irig_time.proofs.timeline.Timeline.leap.Goals as goal

pub leap_in-requires : goal.leap_in-requires
leap_in-requires c =
    let t = c.args.self.now in
    let indexed = indexed_by _ t _ c.deref-else-day-self.result.now c.self.view_is c.deref-else-day-self.ensures.value c.self.invariant in
    rising t.leaps t.start.day c.deref-else-day-self.result.now indexed.index
