use Rattle.std.proofs.Common.{◌≡◌, ◌++◌, [], slice_index_or}
use Rattle.report_found.specs.Findings.{lists_below}
use Rattle.report_lanes.specs.Lanes.{open_of, open_lanes}
use Rattle.report_lanes.proofs.drawer.Drawer.into_lanes.Given as goal

abbrev pub invariant-loop-reader : goal.invariant-loop-reader
invariant-loop-reader l =
    l.lanes.items ≡ l.initial.lanes.items ++ lists_below (λ r. open_lanes l.ports (slice_index_or l.fn.self.readers.items r (open_of []))) l.reader-index
