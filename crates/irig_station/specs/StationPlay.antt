-- What events do with a station, and what is logged of them.
-- Source: docs/SCENARIOS.md, events; this project's profile.
use Rattle.std.specs.Prelude.{ℕ, ◌-◌, nat_lt, min, if◌then◌else◌, List, [], ◌∷◌, length, set, slice_index_or, take, drop}
use Rattle.irig_gen.specs.Frames.{GeneratorValue}
use Rattle.irig_plant.specs.Schedule.{generator_with_fault, generator_without_fault, no_generator}
use Rattle.irig_wires.specs.declared.wire.Wire.{Wire}
use Rattle.irig_wires.specs.Wires.{added, made_late, most_late_us, plugged, pulled}
use Rattle.irig_simulated.specs.Courses.{begun_anew, on_line, ticked}
use Rattle.irig_station.specs.declared.audit.Audit.{Audit}
use Rattle.irig_station.specs.declared.entry.Entry.{Entry}
use Rattle.irig_station.specs.declared.event.Event.{Event}
use Rattle.irig_station.specs.declared.event.Event.TheVariants.{Pass, Fault, Repair, Pull, Plug, Late, Pulse, Tick, Restart, Stamp}
use Rattle.irig_station.specs.declared.fault.StationFault.TheVariants.{BeforeStart, NoSuchDevice, NoSuchGenerator}
use Rattle.irig_station.specs.StationSetups.{StationSetup, kind_of_device}
use Rattle.irig_station.specs.StationStandings.{StationStanding, StationStep, at_course, first_part, followed, goes_to, has_gone, has_stamped, most_parts, refused_at, station_at_start, time_gone}

-- there is no device r, else what follows
abbrev pub unless_device : StationSetup → (r : ℕ) → StationStanding → StationStep → StationStep
unless_device s r x rest = if nat_lt r (length s.devices) then rest else refused_at x NoSuchDevice

-- there is no generator g, else what follows
abbrev pub unless_source : StationSetup → (g : ℕ) → StationStanding → StationStep → StationStep
unless_source s g x rest =
    if nat_lt g (length s.generators) then rest else refused_at x NoSuchGenerator

-- generator g is another
abbrev pub with_source : (g : ℕ) → (GeneratorValue → GeneratorValue) → StationStanding
    → StationStanding
with_source g change x = record x {
  generators = set x.generators g (change (slice_index_or x.generators g no_generator));
}

-- the line from generator g to device r is another
abbrev pub with_cable : (g r : ℕ) → (Wire → Wire) → StationStanding → StationStanding
with_cable g r change x = at_course r (on_line g change (x.courses r)) x

-- so it is if there are both
abbrev pub with_cable_if : StationSetup → (g r : ℕ) → (Wire → Wire) → StationStanding → StationStep
with_cable_if s g r change x =
    unless_device s r x (unless_source s g x (goes_to (with_cable g r change x)))

-- where an event leaves a station
abbrev pub play_event : StationSetup → Event → StationStanding → StationStep
play_event s (Pass us) x = time_gone s (most_parts us) us x
play_event s (Fault g kind) x =
    unless_source s g x (goes_to (with_source g (generator_with_fault kind) x))
play_event s (Repair g) x =
    unless_source s g x (goes_to (with_source g generator_without_fault x))
play_event s (Pull g r) x = with_cable_if s g r pulled x
play_event s (Plug g r) x = with_cable_if s g r plugged x
play_event s (Late g r us) x = with_cable_if s g r (made_late (min us most_late_us)) x
play_event s (Pulse g r width) x = with_cable_if s g r (added (x.courses r).now width) x
play_event s (Tick r) x =
    unless_device s r x
    (goes_to (has_gone s r (ticked (kind_of_device s r) (x.courses r)) x))
play_event s (Restart r) x =
    unless_device s r x
    (goes_to (at_course r (begun_anew (kind_of_device s r) (x.courses r)) x))
play_event s (Stamp r ago) x =
    unless_device s r x
    (if nat_lt x.now ago then refused_at x BeforeStart
    else goes_to (has_stamped s r (x.now - ago) x))

-- of a stretch of time the part in the present second passes, and then the rest
abbrev pub passed_in_turn : StationSetup → (us : ℕ) → StationStanding → StationStep
passed_in_turn s us x =
    followed (play_event s (Pass (first_part us x)) x)
    (play_event s (Pass (us - first_part us x)))

-- ---- a list of events, the newest first

-- where they leave a station; a refused one changes nothing, but that of a stretch of time what
-- passed before has happened
abbrev pub standing_after : StationSetup → List Event → StationStanding
standing_after s [] = station_at_start s
standing_after s (e ∷ ev) = (play_event s e (standing_after s ev)).standing

-- what is logged, the oldest entry first
abbrev pub log_of_station : StationSetup → List Event → List Entry
log_of_station s ev = (standing_after s ev).log

-- whether the premises were kept
abbrev pub audit_of_station : StationSetup → List Event → Audit
audit_of_station s ev = (standing_after s ev).audit

-- what was logged while they were
abbrev pub vouched_log : StationSetup → List Event → List Entry
vouched_log s ev = take (standing_after s ev).vouched (standing_after s ev).log

-- and what was logged behind that
abbrev pub doubtful_log : StationSetup → List Event → List Entry
doubtful_log s ev = drop (standing_after s ev).vouched (standing_after s ev).log
