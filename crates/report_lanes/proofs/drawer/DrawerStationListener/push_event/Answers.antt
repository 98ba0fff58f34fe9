use Rattle.std.proofs.Common.{◌++◌, ◌∙◌, All, length, ap, sym, subst}
use Rattle.std.specs.Prelude.{reverse}
use Rattle.irig_station.specs.ValidEntries.{IsOfDevice}
use Rattle.irig_station_scene.specs.StationScenes.{newest_first}
use Rattle.irig_station_scene.proofs.EventLaws.{entries_known, newest_joins}
use Rattle.report_found.proofs.EventLaws.{on_one}
use Rattle.report_lanes.specs.DeviceRuns.{HasDrawnSoFar}
use Rattle.report_lanes.proofs.drawer.DrawerStationListener.push_event.Goals as goal

pub returns-clause-stands : goal.returns-clause-stands
returns-clause-stands g c =
    on_one c.take_all.result _ _ (λ took x e at happened.
    let s = x.plan.setup in
    subst (HasDrawnSoFar _ s) (ap (λ es. reverse es ++ newest_first x) happened.logged ∙ sym (newest_joins x e))
    (took s _ _ (newest_first x) happened.stands (subst (All (IsOfDevice (length s.devices))) (sym happened.logged) (entries_known x e)) at)) c.take_all.ensures
