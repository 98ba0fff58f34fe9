use Rattle.std.proofs.Common.{refl, inl}
use Rattle.irig_lives.proofs.SetupLaws.{setup_is}
use Rattle.irig_lives.proofs.MisledLaws.{truth, true_table, made, lines_mislead}
use Rattle.irig_lives.proofs.laws_of_limits.a_majority_misleads.Goals as goal

pub returns : goal.returns
returns _ = λ rules clock range sound some late.
    let fits = setup_is clock.reader_rules clock.drift_us clock.wander_ppb sound in
    (truth, made rules clock range fits.0 some late, refl, refl, inl (true_table 43201), lines_mislead rules clock range fits.0 some late)
