use Rattle.std.proofs.Common.{◌≡◌, ◌++◌}
use Rattle.report_found.specs.Findings.{lists_below}
use Rattle.report_lanes.specs.Lanes.{if_some, open_port}
use Rattle.report_lanes.proofs.gather.push_open.Given as goal

abbrev pub invariant-loop-port : goal.invariant-loop-port
invariant-loop-port l =
    l.lanes.items ≡ l.initial.lanes.items ++ lists_below (λ port. if_some (open_port port l.reader)) l.port
