-- Entries of a station's log have seconds of UTC.
use Rattle.std.proofs.Common.{◌≡◌, ℕ, List, [], ◌∷◌, ◌++◌, All, map, Option, Some, None, sym, subst}
use Rattle.std.proofs.Math.Logic.{∥∥₁_map}
use Rattle.std.proofs.lemmas.List.Elements.{All-nil, All-cons, All-head, All-tail, All-append, All-map}
use Rattle.irig_time.proofs.ValidLaws.{still_valid}
use Rattle.irig_timekeeper.specs.Stamps.{StampsOfUtc}
use Rattle.irig_timekeeper.specs.declared.stamp.Stamp.{Stamp}
use Rattle.irig_simulated.specs.declared.told_second.ToldSecond.{ToldSecond}
use Rattle.irig_simulated.specs.ToldSeconds.{IsToldOfUtc}
use Rattle.irig_simulated.proofs.UtcSeconds.{still_of_utc}
use Rattle.irig_station.specs.declared.entry.Entry.{Entry}
use Rattle.irig_station.specs.declared.entry.Entry.TheVariants.{Told, Stamped}
use Rattle.irig_station.specs.ValidEntries.{IsValidEntry}

still_stamped : (stamp : Option Stamp) → ∥ StampsOfUtc stamp ∥₁ → StampsOfUtc stamp
still_stamped None k = tt
still_stamped (Some s) k = still_valid s.second k

still_entry : (e : Entry) → ∥ IsValidEntry e ∥₁ → IsValidEntry e
still_entry (Told r told) k = still_of_utc told k
still_entry (Stamped r time stamp) k = still_stamped stamp k

-- what is so by some proof is so
pub all_entries : (log : List Entry) → ∥ All IsValidEntry log ∥₁ → All IsValidEntry log
all_entries [] k = All-nil IsValidEntry
all_entries (e ∷ es) k =
    All-cons IsValidEntry e es
    (still_entry e (∥∥₁_map k (All-head IsValidEntry e es)))
    (all_entries es (∥∥₁_map k (All-tail IsValidEntry e es)))

-- what a device told, behind a log
pub entries_told : (r : ℕ) (log now : List Entry) (told : List ToldSecond)
    → now ≡ log ++ map (λ x. Told r x) told → All IsToldOfUtc told → All IsValidEntry log
    → All IsValidEntry now
entries_told r log now told is utc all =
    subst (All IsValidEntry) (sym is)
    (All-append IsValidEntry log (map (λ x. Told r x) told) all
    (All-map IsValidEntry (λ x. Told r x) told utc))

-- and a stamp
pub entries_stamped : (log now : List Entry) (e : Entry) → now ≡ log ++ e ∷ [] → IsValidEntry e
    → All IsValidEntry log → All IsValidEntry now
entries_stamped log now e is utc all =
    subst (All IsValidEntry) (sym is)
    (All-append IsValidEntry log (e ∷ []) all (All-cons IsValidEntry e [] utc (All-nil IsValidEntry)))
