use Rattle.std.proofs.Common.{◌≡◌, ◌++◌, map, take}
use Rattle.irig_station.specs.declared.entry.Entry.TheVariants.{Told}
use Rattle.irig_station.proofs.seen.log_told.Given as goal

abbrev pub invariant-loop-told : goal.invariant-loop-told
invariant-loop-told l = l.log.items ≡ l.initial.log.items ++ map (λ told. Told l.r told) (take l.told-index l.seconds)
