-- Known lines of entries, from the page on scenarios: a plant line, an empty line, two seconds of one
-- reader, a fault, and a tick.
use Rattle.std.proofs.Common.{◌≡◌, [], ◌∷◌, refl}
use Rattle.c_scenario.specs.Entries.{begun, lined, verdict_by}
use Rattle.irig_plant.specs.declared.audit.Audit.TheVariants.{Broken, FalseTable}

first_of_seconds : begun (0 ∷ 0 ∷ 0 ∷ 2 ∷ 2 ∷ []) 0 ≡ 3
unfolding begun
first_of_seconds = refl

second_of_seconds : begun (0 ∷ 0 ∷ 0 ∷ 2 ∷ 2 ∷ []) 1 ≡ 3
unfolding begun
second_of_seconds = refl

tick_after_a_fault : begun (0 ∷ 0 ∷ 0 ∷ 2 ∷ 2 ∷ []) 2 ≡ 5
unfolding begun
tick_after_a_fault = refl

broken_edge : verdict_by (Broken 1 7) ≡ record { edge = 7; kind = 2; reader = 1 }
broken_edge = refl

false_table : verdict_by (FalseTable 3) ≡ record { edge = 0; kind = 3; reader = 3 }
false_table = refl
