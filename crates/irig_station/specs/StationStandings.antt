-- Where a station stands, and what becomes of it while true time passes.
-- Source: docs/SCENARIOS.md; this project's profile.
use Rattle.std.specs.Prelude.{ℕ, zero, suc, ◌+◌, ◌-◌, ◌*◌, ◌/◌, ◌%◌, ◌==◌, Bool, ◌&&◌, is_none, min, if◌then◌else◌, List, [], ◌∷◌, ◌++◌, length, map, Option, Some, None, slice_get}
use Rattle.irig_frame.specs.declared.symbol.Symbol.{Symbol}
use Rattle.irig_time.specs.Timelines.{second_at}
use Rattle.irig_gen.specs.Frames.{GeneratorValue}
use Rattle.irig_plant.specs.Schedule.{generator_at_next_edge}
use Rattle.irig_simulated.specs.Setups.{DevicePlan}
use Rattle.irig_simulated.specs.declared.heard.HeardPulse.{HeardPulse}
use Rattle.irig_simulated.specs.Heard.{heard_until}
use Rattle.irig_simulated.specs.Courses.{Course, begun_with, keeps_so_far, may_stamp, passed, stamp_said, told_taken}
use Rattle.irig_station.specs.declared.audit.Audit.{Audit}
use Rattle.irig_station.specs.declared.audit.Audit.TheVariants.{Kept, FalseTable, Drift, Broken}
use Rattle.irig_station.specs.declared.entry.Entry.{Entry}
use Rattle.irig_station.specs.declared.entry.Entry.TheVariants.{Told, Stamped}
use Rattle.irig_station.specs.declared.fault.StationFault.{StationFault}
use Rattle.irig_station.specs.declared.fault.StationFault.TheVariants.{EndOfYears}
use Rattle.irig_station.specs.StationSetups.{StationSetup, kind_of_device}
use Rattle.irig_station.specs.SentSeconds.{SentSecond, sent_second, signal_by, symbol_by}
use Rattle.irig_station.specs.StationAudits.{audit_at_start, audit_seen}

-- the present time, in true microseconds behind edge 0; the generators, each at the edge that
-- begins next; what they sent in the seconds that have begun, the newest first; the course of each
-- device; the log, the oldest entry first; the audit; how many entries, from the oldest on, were
-- logged while that was kept; and the pulses that devices heard, the oldest first
pub record StationStanding : Type 0 where
  pub now : ℕ
  pub generators : List GeneratorValue
  pub seconds : List (List SentSecond)
  pub courses : (r : ℕ) → Course
  pub log : List Entry
  pub audit : Audit
  pub vouched : ℕ
  pub heard : List HeardPulse

-- how late the lines of device r are at first
abbrev pub late_of : Option DevicePlan → List ℕ
late_of None = []
late_of (Some device) = device.late_us

-- nothing has happened
abbrev pub station_at_start : StationSetup → StationStanding
station_at_start s = record {
  now = 0;
  generators = s.generators;
  seconds = [];
  courses = λ r. begun_with (kind_of_device s r) (late_of (slice_get s.devices r));
  log = [];
  audit = audit_at_start s;
  vouched = 0;
  heard = [];
}

-- what true lines have, as far as seconds have begun
abbrev pub symbols_so_far : StationSetup → StationStanding → (line element : ℕ) → Symbol
symbols_so_far s x = symbol_by s.rules s.times x.seconds

-- ---- a device

-- the courses of devices, of which r has come to this
abbrev pub with_course : (r : ℕ) → Course → (ℕ → Course) → ℕ → Course
with_course r course courses q = if q == r then course else courses q

-- device r has come to this in its course
abbrev pub at_course : (r : ℕ) → Course → StationStanding → StationStanding
at_course r course x = record x { courses = with_course r course x.courses }

-- while the audit is kept each entry so far is vouched for
abbrev pub vouched_seen : Audit → (all before : ℕ) → ℕ
vouched_seen Kept all before = all
vouched_seen (FalseTable r) all before = before
vouched_seen (Drift r) all before = before
vouched_seen (Broken r edge) all before = before

-- these entries are logged, and the audit is then this
abbrev pub with_entries : List Entry → Audit → StationStanding → StationStanding
with_entries entries audit x = record x {
  log = x.log ++ entries;
  audit = audit;
  vouched = vouched_seen audit (length (x.log ++ entries)) x.vouched;
}

-- device r is seen: its premises are kept or not
abbrev pub audit_now : (r : ℕ) → (is_kept : Bool) → StationStanding → Audit
audit_now r is_kept x = audit_seen x.audit r (x.now / 1000000) is_kept

-- device r has come to this in its course: what it told is logged, and it is seen
abbrev pub has_gone : StationSetup → (r : ℕ) → Course → StationStanding → StationStanding
has_gone s r course x =
    with_entries (map (λ told. Told r told) course.told)
    (audit_now r (keeps_so_far (kind_of_device s r) (symbols_so_far s x) course) x)
    (at_course r (told_taken course) x)

-- device r gives the stamp of a time, and is seen
abbrev pub has_stamped : StationSetup → (r time : ℕ) → StationStanding → StationStanding
has_stamped s r time x =
    with_entries (Stamped r time (stamp_said (kind_of_device s r) (x.courses r) time) ∷ [])
    (audit_now r (may_stamp (kind_of_device s r) (symbols_so_far s x) (x.courses r) time) x) x

-- ---- time passes

-- one more second has begun: what generators send in it is settled, and each goes to its next edge
abbrev pub has_begun_second : StationSetup → StationStanding → StationStanding
has_begun_second s x = record x {
  generators = map generator_at_next_edge x.generators;
  seconds = map (sent_second s.times) x.generators ∷ x.seconds;
}

-- when the seconds that have begun are over
abbrev pub end_of_begun : StationStanding → ℕ
end_of_begun x = 1000000 * length x.seconds

-- so they are now: a second begins before anything else happens
abbrev pub is_at_edge : StationStanding → Bool
is_at_edge x = x.now == end_of_begun x

-- but the timeline has no second for that
abbrev pub lacks_second : StationSetup → StationStanding → Bool
lacks_second s x = is_at_edge x && is_none (second_at s.times (length x.seconds))

-- if it is time for one, it begins
abbrev pub has_begun_if_due : StationSetup → StationStanding → StationStanding
has_begun_if_due s x = if is_at_edge x then has_begun_second s x else x

-- devices have heard these pulses
abbrev pub with_heard : List HeardPulse → StationStanding → StationStanding
with_heard pulses x = record x { heard = x.heard ++ pulses }

-- device r passes on to a time: what it told is logged, it is seen, and it has heard pulses
abbrev pub device_gone : StationSetup → (stop r : ℕ) → StationStanding → StationStanding
device_gone s stop r x =
    with_heard (heard_until (kind_of_device s r) r (signal_by x.seconds) stop (x.courses r))
    (has_gone s r (passed (kind_of_device s r) (signal_by x.seconds) stop (x.courses r)) x)

-- the first so many devices pass on to a time, one after another
abbrev pub devices_gone : StationSetup → (stop : ℕ) → (devices : ℕ) → StationStanding
    → StationStanding
devices_gone s stop zero x = x
devices_gone s stop (suc r) x = device_gone s stop r (devices_gone s stop r x)

-- a part of a second has passed, up to a time
abbrev pub part_gone : StationSetup → (stop : ℕ) → StationStanding → StationStanding
part_gone s stop x = record (devices_gone s stop (length s.devices) x) { now = stop }

-- of so many microseconds those that are left of the present second
abbrev pub part_us : (us : ℕ) → StationStanding → ℕ
part_us us x = min us (end_of_begun x - x.now)

-- where a station stands behind an event, and why that was refused, if it was
pub record StationStep : Type 0 where
  pub standing : StationStanding
  pub refusal : Option StationFault

-- it was not
abbrev pub goes_to : StationStanding → StationStep
goes_to x = record { standing = x; refusal = None }

-- it was
abbrev pub refused_at : StationStanding → StationFault → StationStep
refused_at x fault = record { standing = x; refusal = Some fault }

-- what follows a step, if that was not refused
abbrev pub unless_refused : Option StationFault → (step rest : StationStep) → StationStep
unless_refused None step rest = rest
unless_refused (Some fault) step rest = step

-- a step, and what follows from where it leads
abbrev pub followed : StationStep → (StationStanding → StationStep) → StationStep
followed step next = unless_refused step.refusal step (next step.standing)

-- so many microseconds pass, in so many parts at most, each within a second
abbrev pub time_gone : StationSetup → (parts us : ℕ) → StationStanding → StationStep
time_gone s zero us x = goes_to x
time_gone s (suc parts) us x =
    if us == 0 then goes_to x
    else (if lacks_second s x then refused_at x EndOfYears
    else (let begun = has_begun_if_due s x in
    let part = part_us us begun in
    time_gone s parts (us - part) (part_gone s (begun.now + part) begun)))

-- how many microseconds are left of the present second; where one ends, a whole one
abbrev pub left_of_second : StationStanding → ℕ
left_of_second x = 1000000 - x.now % 1000000

-- of so many microseconds those that pass in the present second
abbrev pub first_part : (us : ℕ) → StationStanding → ℕ
first_part us x = min us (left_of_second x)

-- more parts than so many microseconds have
abbrev pub most_parts : (us : ℕ) → ℕ
most_parts us = us / 1000000 + 2
