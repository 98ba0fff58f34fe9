use Rattle.std.proofs.Common.{All, sym, subst}
use Rattle.irig_simulated.specs.ToldSeconds.{IsToldOfUtc}
use Rattle.irig_simulated.proofs.UtcSeconds.{all_of_utc}
use Rattle.irig_simulated.proofs.simulated.Simulated.told.Goals as goal

pub returns-clause-valid : goal.returns-clause-valid
returns-clause-valid g c =
    subst (All IsToldOfUtc) (sym c.as_slice.ensures.value) (all_of_utc c.args.self.now.told.items c.args.self.now.valid)
