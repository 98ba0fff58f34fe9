-- The text of the log of a station, and the last line of its run.
-- Source: docs/OUTPUT.md.
use Rattle.std.specs.Prelude.{ℕ, ◌-◌, ◌/◌, ◌%◌, Bool, ◌||◌, nat_lt, if◌then◌else◌, List, [], ◌++◌, codes, Option, Some, None, is_some}
use Rattle.std.specs.List.{flat_map}
use Rattle.std.specs.Fmt.{decimal}
use Rattle.irig_time.specs.declared.second.UtcSecond.{UtcSecond}
use Rattle.irig_time.specs.TextValues.{second_text}
use Rattle.irig_reader.specs.declared.report.Report.{Report}
use Rattle.irig_timekeeper.specs.declared.stamp.Stamp.{Stamp}
use Rattle.report_log.specs.Text.{cause_text, lock_text, name_at, time_shown_text}
use Rattle.text_frame.specs.Reading.{with_zeros}
use Rattle.irig_simulated.specs.declared.told_second.ToldSecond.{ToldSecond}
use Rattle.irig_station.specs.declared.entry.Entry.{Entry}
use Rattle.irig_station.specs.declared.entry.Entry.TheVariants.{Told, Stamped}
use Rattle.irig_station.specs.declared.audit.Audit.{Audit}
use Rattle.irig_station.specs.declared.audit.Audit.TheVariants.{Kept, FalseTable, Drift, Broken}

-- ---- a told second

-- how far a count lies behind another, with its sign: `+` for behind it, `-` for before it
abbrev pub off_text : (count other : ℕ) → List ℕ
off_text count other =
    if nat_lt count other then codes "-" ++ decimal (other - count)
    else codes "+" ++ decimal (count - other)

-- how far from its true edge it may begin, if it is announced, or a dash
abbrev pub bound_text : Option UtcSecond → (bound : ℕ) → List ℕ
bound_text None bound = codes "-"
bound_text (Some second) bound = decimal bound

-- TIME LOCK CAUSE
abbrev pub said_text : Report → List ℕ
said_text report =
    time_shown_text report.announce
    ++ (codes " " ++ (lock_text report.lock ++ (codes " " ++ cause_text report.cause)))

-- OFF BOUND, each after a blank
abbrev pub distance_text : ToldSecond → List ℕ
distance_text told =
    codes " " ++ (off_text told.told_count told.edge_count
    ++ (codes " " ++ bound_text told.beat.report.announce told.beat.bound_us))

-- the name of a device, between blanks
abbrev pub name_between : List ℕ → List ℕ
name_between name = codes " " ++ (name ++ codes " ")

-- EDGE DEVICE TIME LOCK CAUSE OFF BOUND
unfoldable pub told_text : List ℕ → ToldSecond → List ℕ
told_text name told =
    decimal told.edge
    ++ (name_between name ++ (said_text told.beat.report ++ (distance_text told ++ codes "\n")))

-- it is shown if it is announced, or all are
abbrev pub told_if_shown : Bool → List ℕ → ToldSecond → List ℕ
told_if_shown all name told =
    if all || is_some told.beat.report.announce then told_text name told else []

-- ---- a stamp

-- microseconds, as six digits
abbrev pub six_digits : ℕ → List ℕ
six_digits us = with_zeros 6 us

-- TIME OFFSET BOUND, or three dashes
abbrev pub stamp_text : Option Stamp → List ℕ
stamp_text None = codes "- - -"
stamp_text (Some stamp) =
    second_text stamp.second
    ++ (codes " " ++ (decimal stamp.offset_us ++ (codes " " ++ decimal stamp.bound_us)))

-- SECONDS.MICROSECONDS
abbrev pub instant_text : (time : ℕ) → List ℕ
instant_text time =
    decimal (time / 1000000) ++ (codes "." ++ six_digits (time % 1000000))

-- @SECONDS.MICROSECONDS DEVICE, and the stamp
unfoldable pub stamped_text : List ℕ → (time : ℕ) → Option Stamp → List ℕ
stamped_text name time stamp =
    codes "@" ++ (instant_text time ++ (name_between name ++ (stamp_text stamp ++ codes "\n")))

-- ---- the log

-- an entry, if it is shown
abbrev pub station_entry_text : List (List ℕ) → Bool → Entry → List ℕ
station_entry_text names all (Told r told) = told_if_shown all (name_at names r) told
station_entry_text names all (Stamped r time stamp) = stamped_text (name_at names r) time stamp

-- entries
unfoldable pub station_text : List (List ℕ) → Bool → List Entry → List ℕ
station_text names all entries = flat_map (station_entry_text names all) entries

-- ---- the last line

-- the leap table of a device is false
abbrev pub false_table_text : (name : List ℕ) → List ℕ
false_table_text name = codes "premises broken: table of device " ++ (name ++ codes "\n")

-- its counter gains or loses more than its setting says
abbrev pub drift_text : (name : List ℕ) → List ℕ
drift_text name = codes "premises broken: drift of device " ++ (name ++ codes "\n")

-- its calls broke the premises in the second of an edge
abbrev pub broken_text : (edge : ℕ) → (name : List ℕ) → List ℕ
broken_text edge name =
    codes "premises broken: edge " ++ (decimal edge
    ++ (codes " device " ++ (name ++ codes "\n")))

-- whether the premises were kept, and if not what broke them first
unfoldable pub station_audit_text : List (List ℕ) → Audit → List ℕ
station_audit_text names Kept = codes "premises kept\n"
station_audit_text names (FalseTable r) = false_table_text (name_at names r)
station_audit_text names (Drift r) = drift_text (name_at names r)
station_audit_text names (Broken r edge) = broken_text edge (name_at names r)
