use Rattle.std.proofs.Common.{◌≡◌, ◌≤◌, ◌+◌, ◌*◌, drop}
use Rattle.record_comtrade.specs.Times.{time_fs}
use Rattle.record_comtrade.proofs.clock.time_fs.Given as goal

-- the time so far, and that at the rates that are left
abbrev pub invariant-loop-at : goal.invariant-loop-at
invariant-loop-at l = (l.time ≤ l.at * 4294967296000000000000000000000)
    × (l.time + time_fs (drop l.at l.rates) l.here l.to ≡ time_fs l.rates l.fn.from l.to)
