use Rattle.std.proofs.Common.{leb, rules, leb-true}
use Rattle.std.proofs.lemmas.Bool.{leb-false}
use Rattle.std.proofs.lemmas.List.Sorted.{IsPartitionPoint-from_clause, IsPartitionedBy-leb}
use Rattle.irig_time.specs.Seconds.{minute_number}
use Rattle.irig_gen.proofs.ZoneLaws.{rising}
use Rattle.irig_gen.proofs.zone.count_come.Goals as goal

pub returns-clause-point : goal.returns-clause-point
returns-clause-point c =
    let parted = IsPartitionedBy-leb (λ x. minute_number x.at) c.args.changes.now c.args.minute (rising 0 c.args.changes.now c.requires) in
    let point = IsPartitionPoint-from_clause (λ x. leb (minute_number x.at) c.args.minute) _ _ c.partition_point.ensures.partitioned parted (λ a r q k. search rules) in (
      λ k d low high. leb-true _ _ (point.0 k d low high),
      λ k d low high. leb-false _ _ (point.1 k d low high),
    )
