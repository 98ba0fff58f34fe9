use base.Logic.{mono_r, via, fst∗}
use contract.Monad.{fact}
use denote.Param.{param}
use Rattle.test_devices.specs.contracts.devices.Fuse.{the_row}
use Rattle.test_devices.proofs.RestsLaws.{rests_less, turns_by}
use Rattle.test_devices.proofs.devices.FuseBufRead.TheImpl.Goals as goal

-- the fuse counts, which the trait doesn't ask
pub fill_buf-meets : goal.fill_buf-meets
fill_buf-meets g c = turns_by g.world.𝓤 _ _ _ _ (λ r e.
    mono_r g.world.𝓤 (fact g.world.𝓤 _) (mono_r g.world.𝓤 (fact g.world.𝓤 _) (via g.world.𝓤 _ (fst∗ g.world.𝓤 _ (fact g.world.𝓤 _))
    (rests_less g.world.𝓛 (the_row (param 0 g.row.T)) (the_row (param 0 g.row.T)) _ _ _ _ _ _ (λ w v p. p) (λ v p. p.0)))))
