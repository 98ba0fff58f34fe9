use Rattle.std.proofs.Common.{◌-◌, leb, arith, rules, leb-true}
use Rattle.std.proofs.lemmas.Bool.{leb-false}
use Rattle.std.proofs.lemmas.List.Sorted.{IsNonDecreasingBy-from_all_adjacent, IsPartitionPoint-from_clause, IsPartitionedBy-leb}
use Rattle.irig_time.proofs.stretches.begun_on.Goals as goal

pub returns-clause-last : goal.returns-clause-last
returns-clause-last c d some =
    let days = IsNonDecreasingBy-from_all_adjacent (λ s. s.day) c.args.stretches.now (λ k e lt. omega (arith, c.requires.later k e lt)) in
    let parted = IsPartitionedBy-leb (λ s. s.day) c.args.stretches.now c.args.day days in
    let point = IsPartitionPoint-from_clause (λ s. leb s.day c.args.day) _ _ c.partition_point.ensures.partitioned parted (λ a r q k. search rules) in
    leb-true _ _ (point.0 (c.partition_point.result - 1) d (omega arith) (omega (arith, some)))

pub returns-clause-next : goal.returns-clause-next
returns-clause-next c d lt =
    let days = IsNonDecreasingBy-from_all_adjacent (λ s. s.day) c.args.stretches.now (λ k e there. omega (arith, c.requires.later k e there)) in
    let parted = IsPartitionedBy-leb (λ s. s.day) c.args.stretches.now c.args.day days in
    let point = IsPartitionPoint-from_clause (λ s. leb s.day c.args.day) _ _ c.partition_point.ensures.partitioned parted (λ a r q k. search rules) in
    leb-false _ _ (point.1 c.partition_point.result d (omega arith) lt)
