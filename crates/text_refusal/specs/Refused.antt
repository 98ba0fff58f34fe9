-- What of the values of a plant line is refused at a place, by the tests that make the plant.
-- Source: docs/FAULTS.md; this project's profile.
use Rattle.std.specs.Prelude.{ℕ, ◌-◌, ◌==◌, ◌&&◌, nat_lt, if◌then◌else◌, List, length, take, Option, Some, None, option_and_then, option_map, unwrap_or}
use Rattle.std.specs.List.{slice_get}
use Rattle.irig_time.specs.declared.leap.Leap.{Leap as LeapKind}
use Rattle.irig_time.specs.declared.second.TheConstants.{LAST_DAY}
use Rattle.irig_time.specs.Seconds.{minute_number}
use Rattle.irig_time.specs.TimelineFaults.{leap_fault}
use Rattle.irig_time.specs.declared.table.TableFault.{TableFault}
use Rattle.irig_time.specs.Tables.{entry_fault}
use Rattle.irig_gen.specs.declared.zone.Zone.{Zone}
use Rattle.irig_gen.specs.declared.zone.Change.{Change as ZoneChange}
use Rattle.irig_gen.specs.Zones.{fits, is_change_time}
use Rattle.text_faults.specs.declared.refusal.Refusal.{Refusal}
use Rattle.text_faults.specs.declared.refusal.Refusal.TheVariants.{Offset, Changes, TableEnd, TableLong, Drift}
use Rattle.text_faults.specs.declared.refusal.LineFault.{LineFault}
use Rattle.text_faults.specs.declared.refusal.LineFault.TheVariants.{Refused, Memory}
use Rattle.text_faults.specs.Refusals.{of_timeline, of_table}
use Rattle.scenario_values.specs.PlantValues.{PlantValues, GeneratorValues, ReaderValues}
use Rattle.irig_lines.specs.Refusals.{clock_fault}
use Rattle.scenario_devices.specs.StationLine.{of_clock}
use Rattle.scenario_devices.specs.StationValues.{DeviceValues, StationValues}
use Rattle.text_words.specs.declared.path.JsonPath.{JsonPath}
use Rattle.text_words.specs.declared.path.JsonPath.TheVariants.{Line, Leap, Generator, Change, Reader, Table, TableLeap}

-- the refusal of a fault of a part, if it is one
abbrev pub refusal_in : LineFault → Option Refusal
refusal_in (Refused k) = Some k
refusal_in Memory = None

-- ---- the timeline

-- the leap at this place of the list, behind those before it
abbrev pub leap_refusal : List (ℕ × LeapKind) → ℕ → Option Refusal
leap_refusal leaps i =
    option_and_then (λ leap. option_and_then (λ fault. refusal_in (of_timeline fault))
    (leap_fault (take i leaps) leap.0)) (slice_get leaps i)

-- ---- the generators

-- a zone too far from UTC
abbrev pub zone_refusal : Zone → Option Refusal
zone_refusal zone = if fits zone then None else Some Offset

-- the minute of the change before this place, 0 for the first
abbrev pub minute_before : List ZoneChange → ℕ → ℕ
minute_before changes i =
    if i == 0 then 0 else unwrap_or (option_map (λ x. minute_number x.at) (slice_get changes (i - 1))) 0

-- a change to such a zone, inside a minute, or not later than the one before
abbrev pub change_refusal : List ZoneChange → ℕ → ZoneChange → Option Refusal
change_refusal changes i change =
    if fits change.zone
    then (if is_change_time change.at && nat_lt (minute_before changes i) (minute_number change.at)
    then None else Some Changes)
    else Some Offset

-- the change at this place of a generator
abbrev pub change_refusal_at : ℕ → GeneratorValues → Option Refusal
change_refusal_at i generator =
    option_and_then (change_refusal generator.changes i) (slice_get generator.changes i)

-- ---- the tables of the readers

-- a table that ends too late, or has too many leaps
abbrev pub table_refusal : ReaderValues → Option Refusal
table_refusal reader =
    if nat_lt LAST_DAY reader.until then Some TableEnd
    else (if nat_lt 64 (length reader.leaps) then Some TableLong else None)

-- the fault of the leap at this place, behind those before it
abbrev pub entry_fault_at : ℕ → List (ℕ × LeapKind) → ℕ → Option TableFault
entry_fault_at until leaps i =
    option_and_then (λ leap. entry_fault until (take i leaps) leap.0) (slice_get leaps i)

-- the leap at this place of a table that does not end too late
abbrev pub entry_refusal : ℕ → ReaderValues → Option Refusal
entry_refusal i reader =
    if nat_lt LAST_DAY reader.until then None
    else option_map of_table (entry_fault_at reader.until reader.leaps i)

-- ---- the devices

-- a counter that could not count to the end of the holdover
abbrev pub drift_refusal : DeviceValues → Option Refusal
drift_refusal device = option_map of_clock (clock_fault device.reader.rules device.drift 0)

-- the table of a device
abbrev pub device_table_refusal : DeviceValues → Option Refusal
device_table_refusal device = table_refusal device.reader

-- a leap of it
abbrev pub device_entry_refusal : ℕ → DeviceValues → Option Refusal
device_entry_refusal i device = entry_refusal i device.reader

-- ---- the places

-- as what the values are refused at a place, if they are
unfoldable pub refusal_at : PlantValues → JsonPath → Option Refusal
refusal_at v Line = None
refusal_at v (Leap i) = leap_refusal v.leaps i
refusal_at v (Generator g) =
    option_and_then (λ generator. zone_refusal generator.zone) (slice_get v.generators g)
refusal_at v (Change g i) = option_and_then (change_refusal_at i) (slice_get v.generators g)
refusal_at v (Reader r) = None
refusal_at v (Table r) = option_and_then table_refusal (slice_get v.readers r)
refusal_at v (TableLeap r i) = option_and_then (entry_refusal i) (slice_get v.readers r)

-- the same of a line with devices
unfoldable pub station_refusal_at : StationValues → JsonPath → Option Refusal
station_refusal_at v (Reader r) = option_and_then drift_refusal (slice_get v.devices r)
station_refusal_at v (Table r) = option_and_then device_table_refusal (slice_get v.devices r)
station_refusal_at v (TableLeap r i) =
    option_and_then (device_entry_refusal i) (slice_get v.devices r)
station_refusal_at v Line = None
station_refusal_at v (Leap i) = refusal_at v.plant (Leap i)
station_refusal_at v (Generator g) = refusal_at v.plant (Generator g)
station_refusal_at v (Change g i) = refusal_at v.plant (Change g i)
