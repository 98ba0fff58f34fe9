use Rattle.std.proofs.Common.{◌+◌, leb, rules}
use Rattle.std.proofs.lemmas.List.Sorted.{IsNonDecreasingBy-drop, IsNonDecreasingBy-take, IsPartitionPoint-from_clause, IsPartitionedBy-leb}
use Rattle.irig_time.proofs.StretchLaws.{HasBegun, found_among}
use Rattle.irig_time.proofs.stretches.begun.Goals as goal

has_begun : (c : goal.After-partition_point) → HasBegun c.args.stretches.now c.args.total (c.window-low.result.0 + c.partition_point.result)
has_begun c =
    let window = c.window-low.ensures in
    let rising = IsNonDecreasingBy-take (λ s. s.seconds) _ _ (IsNonDecreasingBy-drop (λ s. s.seconds) c.window-low.result.0 c.args.stretches.now c.requires.rising) in
    let parted = IsPartitionedBy-leb (λ s. s.seconds) _ c.args.total rising in
    let point = IsPartitionPoint-from_clause (λ s. leb s.seconds c.args.total) _ _ c.partition_point.ensures.partitioned parted (λ a r q k. search rules) in
    found_among c.args.stretches.now c.window-low.result.0 c.window-low.result.1 c.partition_point.result c.args.total window.some window.within window.low window.high c.partition_point.ensures.bound point

pub returns-clause-some : goal.returns-clause-some
returns-clause-some c = (has_begun c).some

pub returns-clause-within : goal.returns-clause-within
returns-clause-within c = (has_begun c).within

pub returns-clause-last : goal.returns-clause-last
returns-clause-last c = (has_begun c).last

pub returns-clause-next : goal.returns-clause-next
returns-clause-next c = (has_begun c).next
