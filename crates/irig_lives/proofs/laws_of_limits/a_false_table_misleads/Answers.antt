use Rattle.std.proofs.Common.{refl}
use Rattle.irig_lives.proofs.SetupLaws.{setup_is}
use Rattle.irig_lives.proofs.MisledByTable.{truth, made, table_misleads}
use Rattle.irig_lives.proofs.laws_of_limits.a_false_table_misleads.Goals as goal

pub returns : goal.returns
returns _ = λ rules clock range plain sound long some late.
    let fits = setup_is clock.reader_rules clock.drift_us clock.wander_ppb sound in
    (truth rules clock range fits.0 plain long some late, made rules clock range fits.0 plain long some late, refl, refl, table_misleads rules clock range fits.0 plain long some late)
