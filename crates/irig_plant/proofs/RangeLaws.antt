-- The readers of a plant have rules in range.
use Rattle.std.specs.Prelude.{All, ◌<◌, length}
use Rattle.std.proofs.Common.{◌≡◌, List, [], ◌∷◌, get_or, sym, ap, subst, arith}
use Rattle.std.proofs.lemmas.List.{get_or_default}
use Rattle.irig_port.specs.declared.port.Port.{Ghosts}
use Rattle.irig_reader.specs.declared.rules.ReaderRules.{ReaderRules}
use Rattle.irig_plant.specs.declared.setup.ReaderSetup.{ReaderSetup}
use Rattle.irig_plant.specs.declared.plant.TickedReader.{TickedReader}
use Rattle.irig_plant.specs.declared.plant.Plant.{Plant}
use Rattle.irig_plant.specs.Schedule.{no_reader, setup_at}
use Rattle.irig_plant.specs.History.{PlantHistory, HasPlantHistory, IsTickedReaderAt}
use Rattle.irig_plant.specs.Edges.{CanLock}

an_element : {X : Type 0} (xs : List X) → 0 < length xs → X
an_element [] some = absurd (omega arith)
an_element (x ∷ xs) some = x

pub all_can_lock : {P : Type 0} {g : Ghosts P} (p : Plant P g) (h : PlantHistory) → HasPlantHistory p h → All CanLock h.setup.readers
all_can_lock {P} {g} p h stands r d low =
    let any : TickedReader P g = an_element p.readers.items (omega (arith, low, stands.reader_count)) in
    let ticked_reader : TickedReader P g = get_or p.readers.items r any in
    let at : IsTickedReaderAt h.setup h.events r ticked_reader = stands.readers r any low in
    let reader_rules : ticked_reader.reader.reader_rules ≡ (setup_at h.setup.readers r).rules = at.reader.reader_rules in
    let locks : 0 < ticked_reader.reader.reader_rules.lock_after = omega (arith, ticked_reader.reader.counting) in
    let same : get_or h.setup.readers r d ≡ setup_at h.setup.readers r = get_or_default h.setup.readers r d no_reader low in
    subst (λ (x : ReaderSetup). CanLock x) (sym same) (omega (arith, locks, ap (λ (x : ReaderRules). x.lock_after) reader_rules))
