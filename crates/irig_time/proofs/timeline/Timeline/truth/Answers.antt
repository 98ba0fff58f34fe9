use Rattle.irig_time.proofs.timeline.Timeline.truth.Goals as goal

pub true_mark-mark-requires : goal.true_mark-mark-requires
true_mark-mark-requires c = ((c.at.ensures.second c.in_ok-at.at).0 c.in_ok-at.was).to
