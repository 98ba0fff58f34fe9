use Rattle.std.proofs.Common.{◌∷◌, ap}
use Rattle.report_lanes.specs.declared.reader.ReaderLanes.{ReaderLanes}
use Rattle.report_lanes.specs.Lanes.{stood_at, told_at}
use Rattle.report_lanes.proofs.LaneLaws.{lane_more, same_open}
use Rattle.report_lanes.proofs.reader.ReaderLanes.after.Goals as goal

pub returns : goal.returns
returns c = λ ts was.
    let t = c.args.tick.now in
    same_open _ _ _ _ _ _ (t ∷ ts)
    (lane_more stood_at t ts _ _ _ c.grown.ensures (ap (λ (x : ReaderLanes). x.stood) was) c.stood_at.ensures)
    (lane_more (told_at 0) t ts _ _ _ c.grown-2.ensures (ap (λ (x : ReaderLanes). x.a) was) c.told_at.ensures)
    (lane_more (told_at 1) t ts _ _ _ c.grown-3.ensures (ap (λ (x : ReaderLanes). x.b) was) c.told_at-2.ensures)
    (lane_more (told_at 2) t ts _ _ _ c.grown-4.ensures (ap (λ (x : ReaderLanes). x.c) was) c.told_at-3.ensures)
    (lane_more (told_at 3) t ts _ _ _ c.grown-5.ensures (ap (λ (x : ReaderLanes). x.d) was) c.told_at-4.ensures)
    (lane_more (told_at 4) t ts _ _ _ c.grown-6.ensures (ap (λ (x : ReaderLanes). x.e) was) c.told_at-5.ensures)
