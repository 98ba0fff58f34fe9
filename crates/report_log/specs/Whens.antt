-- The text of when something was, and of how far a second was from the true one.
-- Source: docs/OUTPUT.md.
use Rattle.std.specs.Prelude.{ℕ, ◌/◌, ◌%◌, Bool, ◌==◌, if◌then◌else◌, List, [], ◌++◌, codes, Option, Some, None}
use Rattle.std.specs.Fmt.{decimal}
use Rattle.irig_time.specs.declared.second.UtcSecond.{UtcSecond}
use Rattle.irig_time.specs.TextValues.{second_text}
use Rattle.report_log.specs.declared.offset.Offset.{Offset}

-- UTC of the first and of the last second, if they are known
abbrev pub seconds_from : Bool → Option UtcSecond → Option UtcSecond → List ℕ
seconds_from single (Some u) (Some v) =
    if single then second_text u ++ codes ", "
    else second_text u ++ (codes " to " ++ (second_text v ++ codes ", "))
seconds_from single (Some u) None = []
seconds_from single None v = []

-- the edges
unfoldable pub edges_text : ℕ → ℕ → List ℕ
edges_text first last =
    if first == last then codes "edge " ++ (decimal first ++ codes ": ")
    else codes "edges " ++ (decimal first ++ (codes " to " ++ (decimal last ++ codes ": ")))

-- UTC and edges, from a first tick to a last one
abbrev pub when_text : ℕ → ℕ → Option UtcSecond → Option UtcSecond → List ℕ
when_text first last from to = seconds_from (first == last) from to ++ edges_text first last

-- so many of a unit, unless there are none
unfoldable pub unit_text : ℕ → List ℕ → List ℕ
unit_text n unit = if n == 0 then [] else decimal n ++ (codes " " ++ (unit ++ codes " "))

-- seconds, as days, hours, minutes and seconds
unfoldable pub span_text : ℕ → List ℕ
span_text n =
    unit_text (n / 86400) (codes "d") ++ (unit_text ((n / 3600) % 24) (codes "h")
    ++ (unit_text ((n / 60) % 60) (codes "min") ++ unit_text (n % 60) (codes "s")))

-- how far a second is from the true one
abbrev pub offset_text : Offset → List ℕ
offset_text o =
    if o.behind == 0 then span_text o.ahead ++ codes "ahead"
    else span_text o.behind ++ codes "behind"

-- how far at all ticks, or at the first and at the last
abbrev pub offsets_text : Bool → Option Offset → Option Offset → List ℕ
offsets_text steady (Some a) (Some b) =
    if steady then codes ", " ++ offset_text a
    else codes ", " ++ (offset_text a ++ (codes " at first, " ++ (offset_text b ++ codes " at last")))
offsets_text steady (Some a) None = []
offsets_text steady None b = []
