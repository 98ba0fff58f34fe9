use Rattle.std.proofs.Common.{◌≡◌, ◌++◌}
use Rattle.report_found.specs.Findings.{lists_below}
use Rattle.report_lanes.specs.Lanes.{if_some, ended, open_port, told_at}
use Rattle.report_lanes.proofs.gather.push_ended.Given as goal

abbrev pub invariant-loop-port : goal.invariant-loop-port
invariant-loop-port l =
    l.lanes.items ≡ l.initial.lanes.items ++ lists_below (λ port. if_some (ended (open_port port l.reader) (told_at port l.tick))) l.port
