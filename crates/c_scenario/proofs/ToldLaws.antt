-- What devices told is written as numbers, and is true if the verdict says so.
use Rattle.std.proofs.Common.{◌≡◌, ◌∙◌, ℕ, ◌+◌, ◌<◌, List, [], ◌∷◌, ◌++◌, All, length, get_or, map, take, Some, refl, sym, ap, append_assoc, arith}
use Rattle.std.proofs.lemmas.List.{take_more, map-append}
use Rattle.irig_station.specs.declared.audit.Audit.{Audit}
use Rattle.irig_station.specs.declared.audit.Audit.TheVariants.{Kept, FalseTable, Drift, Broken}
use Rattle.irig_station.specs.declared.entry.Entry.{Entry}
use Rattle.irig_station.specs.declared.event.Event.{Event}
use Rattle.irig_station.specs.StationPromise.{IsTrueEntry}
use Rattle.irig_station.proofs.PromiseLaws.{kept_true}
use Rattle.report_run.specs.Meanings.{meaning_of}
use Rattle.irig_station_scene.specs.StationScenes.{StationScene, event_in_scene, station_audit, station_log, station_scenario}
use Rattle.irig_station_scene.specs.StationListening.{entries_by}
use Rattle.irig_station_scene.proofs.EventLaws.{log_joins}
use Rattle.irig_scenario.proofs.DeviceLogLaws.{plan_sound}
use Rattle.c_scenario.specs.declared.entry.IrigVerdict.{IrigVerdict}
use Rattle.c_scenario.specs.declared.told.IrigDeviceEntry.{IrigDeviceEntry}
use Rattle.c_scenario.specs.Entries.{verdict_on_devices}
use Rattle.c_scenario.specs.Told.{device_entry_for}

-- one more entry
pub told_more : (es : List Entry) (i : ℕ) (d : Entry) (old now new : List IrigDeviceEntry) → i < length es → now ≡ old ++ map device_entry_for (take i es)
    → new ≡ now ++ device_entry_for (get_or es i d) ∷ [] → new ≡ old ++ map device_entry_for (take (i + 1) es)
told_more es i d old now new less is more =
    let one = device_entry_for (get_or es i d) ∷ [] in
    more ∙ ap (λ l. l ++ one) is ∙ append_assoc old (map device_entry_for (take i es)) one
    ∙ ap (λ l. old ++ l) (sym (ap (map device_entry_for) (take_more es i d less) ∙ map-append device_entry_for (take i es) (get_or es i d ∷ [])))

-- those of an event stand behind those before it
pub told_joins : (x : StationScene) (e : Event) (entries : List Entry) (old new : List IrigDeviceEntry) → old ≡ map device_entry_for (station_log x) → entries ≡ entries_by x e
    → new ≡ old ++ map device_entry_for entries → new ≡ map device_entry_for (station_log (event_in_scene x e).scene)
told_joins x e entries old new was logged pushed =
    pushed ∙ ap (λ l. l ++ map device_entry_for entries) was ∙ ap (λ es. map device_entry_for (station_log x) ++ map device_entry_for es) logged
    ∙ sym (map-append device_entry_for (station_log x) (entries_by x e)) ∙ ap (map device_entry_for) (sym (log_joins x e))

-- only an audit that is kept is told so
kept_by : (a : Audit) → (verdict_on_devices a).kind ≡ 1 → a ≡ Kept
kept_by Kept one = refl
kept_by (FalseTable r) one = absurd (omega (arith, one))
kept_by (Drift r) one = absurd (omega (arith, one))
kept_by (Broken r edge) one = absurd (omega (arith, one))

pub true_if_told_kept : (x : List ℕ) (verdict : IrigVerdict) (at : StationScene) → (meaning_of station_scenario x).scene ≡ Some at → verdict ≡ verdict_on_devices (station_audit at) → verdict.kind ≡ 1
    → All (IsTrueEntry at.plan.setup) (station_log at)
true_if_told_kept x verdict at is same one =
    kept_true at.plan.setup (plan_sound x at is).setup at.events (kept_by (station_audit at) (sym (ap (λ (v : IrigVerdict). v.kind) same) ∙ one))
