-- What a drawer makes of entries of devices.
use Rattle.std.proofs.Common.{◌≡◌, ℕ, ◌<◌, List, [], ◌∷◌, ◌++◌, All, length, Option, Some, None, sym, ap, ◌∙◌, subst, arith, append-nil}
use Rattle.std.specs.Prelude.{slice_index_or, vec_len}
use Rattle.irig_station.specs.declared.entry.Entry.{Entry}
use Rattle.irig_station.specs.StationSetups.{StationSetup}
use Rattle.irig_station.specs.ValidEntries.{IsOfDevice}
use Rattle.irig_station_scene.specs.StationScenes.{StationScene, newest_first}
use Rattle.report_found.specs.declared.tick.Tick.{Tick}
use Rattle.report_found.specs.Books.{with_tick}
use Rattle.report_found.specs.DeviceTicks.{device_ticks, tick_of_told}
use Rattle.report_found.specs.Findings.{lists_below}
use Rattle.report_found.proofs.DeviceLaws.{tick_known, ticks_more, ticks_stay}
use Rattle.report_found.proofs.GrowLaws.{lists_alike}
use Rattle.report_lanes.specs.declared.drawer.Drawer.{Drawer}
use Rattle.report_lanes.specs.declared.reader.ReaderLanes.{ReaderLanes}
use Rattle.report_lanes.specs.DeviceRuns.{HasDrawnSoFar, IsDrawerAtStation}
use Rattle.report_lanes.specs.DeviceScenes.{ended_by_entries, ended_by_tick, open_of_devices}
use Rattle.report_lanes.specs.Lanes.{open_of, ended_lanes, open_lanes}
use Rattle.report_lanes.specs.OpenLanes.{AreOpen}
use Rattle.report_lanes.proofs.LaneLaws.{same_lanes}

-- ---- nothing has happened

pub begins_with : (d : Drawer) (x : StationScene) → x.events ≡ [] → vec_len d.readers ≡ length x.plan.setup.devices → All (λ (o : ReaderLanes). o ≡ open_of []) d.readers.items
    → d.ports ≡ length x.plan.setup.generators → d.lanes.items ≡ [] → IsDrawerAtStation d x
begins_with d x begun count new ports none =
    let nothing : newest_first x ≡ [] = ap (λ ev. newest_first (record { plan = x.plan; events = ev })) begun in
    subst (HasDrawnSoFar d x.plan.setup) (sym nothing) (record {
      readers = record { count = count; each = λ r o lt. new r o (omega (arith, lt, count, d.readers.ok.0)) };
      ports = ports;
      ended = none;
    })

-- ---- an entry

module _ (d : Drawer) (s : StationSetup) (e : Entry) (before : List Entry) (at : HasDrawnSoFar d s before) where
  -- a stamp
  pub goes_on_so : tick_of_told s e ≡ None → HasDrawnSoFar d s (e ∷ before)
  goes_on_so none = record {
    readers = same_lanes d (length s.devices) (λ r. device_ticks s r before) (λ r. device_ticks s r (e ∷ before)) (ticks_stay s e before none) at.readers;
    ports = at.ports;
    ended = at.ended ∙ sym (append-nil (ended_by_entries s before)) ∙ ap (λ o. ended_by_entries s before ++ ended_by_tick s before o) (sym none);
  }

  -- a told second
  pub goes_on_by : (q : Drawer) (t : Tick) → tick_of_told s e ≡ Some t → IsOfDevice (length s.devices) e → q.ports ≡ d.ports
      → ((n : ℕ) (ticks : ℕ → List Tick) → AreOpen d n ticks → t.entry.reader < n
      → q.lanes.items ≡ d.lanes.items ++ ended_lanes d.ports (open_of (ticks t.entry.reader)) t)
      → ((n : ℕ) (ticks : ℕ → List Tick) → AreOpen d n ticks → t.entry.reader < n → AreOpen q n (with_tick t ticks))
      → HasDrawnSoFar q s (e ∷ before)
  goes_on_by q t is known ports lanes stays =
      let n = length s.devices in
      let ticks : ℕ → List Tick = λ r. device_ticks s r before in
      let low = tick_known s e t is known in
      record {
        readers = same_lanes q n (with_tick t ticks) (λ r. device_ticks s r (e ∷ before)) (ticks_more s e before t is) (stays n ticks at.readers low);
        ports = ports ∙ at.ports;
        ended = lanes n ticks at.readers low
            ∙ ap (λ l. l ++ ended_lanes d.ports (open_of (ticks t.entry.reader)) t) at.ended
            ∙ ap (λ ports. ended_by_entries s before ++ ended_lanes ports (open_of (ticks t.entry.reader)) t) at.ports
            ∙ ap (λ o. ended_by_entries s before ++ ended_by_tick s before o) (sym is);
      }

-- ---- what is left

-- all that is open
pub open_is_of_devices : (d : Drawer) (s : StationSetup) (before : List Entry) → HasDrawnSoFar d s before
    → lists_below (λ r. open_lanes d.ports (slice_index_or d.readers.items r (open_of []))) (vec_len d.readers) ≡ open_of_devices s before
open_is_of_devices d s before at =
    ap (lists_below (λ r. open_lanes d.ports (slice_index_or d.readers.items r (open_of [])))) at.readers.count
    ∙ lists_alike (λ r. open_lanes d.ports (slice_index_or d.readers.items r (open_of [])))
    (λ r. open_lanes (length s.generators) (open_of (device_ticks s r before))) (length s.devices)
    (λ r lt.
    ap (λ ports. open_lanes ports (slice_index_or d.readers.items r (open_of []))) at.ports
    ∙ ap (λ (o : ReaderLanes). open_lanes (length s.generators) o) (at.readers.each r (open_of []) lt))
