use Rattle.std.proofs.Common.{◌≡◌, take}
use Rattle.scenario_line.specs.PlainLine.{plain_widths}
use Rattle.scenario_line.proofs.RawLoops.{after}
use Rattle.scenario_line.proofs.widths.widths_in.Given as goal

abbrev pub invariant-loop-count : goal.invariant-loop-count
invariant-loop-count l = plain_widths l.initial.rest ≡ after (take l.count l.widths) (plain_widths l.rest)
