use Rattle.std.proofs.Common.{◌≡◌, ◌-◌, ◌<◌, [], All, length}
use Rattle.report_judge.specs.Channels.{chosen, texts_of}
use Rattle.report_judge.proofs.channels.chosen.Given as goal

-- the names that are left choose
abbrev pub invariant-loop-at : goal.invariant-loop-at
invariant-loop-at l =
    (length l.places.items ≡ l.at)
    × All (λ place. place < length l.names) l.places.items
    × (chosen (texts_of l.names) l.asked (l.count - l.at) l.at l.places.items ≡ chosen (texts_of l.names) l.asked l.count 0 [])
