-- What a row of a list says, and when its pulse was.
-- Source: this project's profile: times are those of a counter of 32 bits, which wraps, and a row stands within a
-- second behind one whose pulse rose later; or they are those of a counter that does not wrap.
use Rattle.std.specs.Prelude.{ℕ, ◌+◌, ◌-◌, ◌*◌, ◌/◌, ◌%◌, ◌^◌, if◌then◌else◌, List, [], ◌∷◌, length, Option, Some, None, Result, Ok, Err, nat_eq, nat_le, nat_lt}
use Rattle.record_levels.specs.declared.limits.TimeFault.TheVariants.{Back, Beyond}
use Rattle.record_text.specs.Fields.{field}
use Rattle.record_text.specs.Numbers.{number}
use Rattle.record_cells.specs.Cells.{columns_in}
use Rattle.record_list.specs.declared.now.Now.{Now}
use Rattle.record_list.specs.declared.row.Reason.{Reason}
use Rattle.record_list.specs.declared.row.Reason.TheVariants.{Columns, Long, Port, Rise, Time, Width}
use Rattle.record_list.specs.declared.row.Row.{Row}
use Rattle.record_list.specs.declared.row.Span.{Span}

-- the bit of a port, if it is one of these, the first of which stands at a place
abbrev pub bit_from : (at : ℕ) → (ports : List ℕ) → (port : ℕ) → ℕ
bit_from at [] port = 0
bit_from at (chosen ∷ others) port = if nat_eq chosen port then 2 ^ at else bit_from (at + 1) others port

-- the bit of a port among those that are chosen; 0 of another
abbrev pub bit_of : (ports : List ℕ) → (port : ℕ) → ℕ
bit_of ports port = bit_from 0 ports port

-- a number below 2^32
abbrev pub below_word : Option ℕ → Option ℕ
below_word None = None
below_word (Some n) = if nat_lt n 4294967296 then Some n else None

-- of three cells the first fault
abbrev pub row_by : (port rise width : Option ℕ) → Result Row Reason
row_by None rise width = Err Port
row_by (Some port) None width = Err Rise
row_by (Some port) (Some rise) None = Err Width
row_by (Some port) (Some rise) (Some width) = Ok (record { port = port; rise_us = rise; width_us = width })

-- what a line says: a port, when its pulse rose, and how long that lasted
abbrev pub row_of : (line : List ℕ) → Result Row Reason
row_of line =
    if nat_le 1024 (length line) then Err Long
    else (if nat_eq (columns_in line) 3
    then row_by (number (field 0 line)) (number (field 1 line)) (below_word (number (field 2 line)))
    else Err (Columns (columns_in line)))

-- a pulse that rose so many microseconds before a time, or before that part of them which lies behind 0, and that
-- ends before 1,000 hours
abbrev pub span_back : (time back width : ℕ) → Result Span Reason
span_back time back width =
    if nat_lt (time + width) 3600000000000
    then Ok (record { from_ns = (time - back) * 1000; to_ns = (time + width - back) * 1000 })
    else Err (Time Beyond)

-- a pulse that rose at a time
abbrev pub span_at : (time width : ℕ) → Result Span Reason
span_at time width = span_back time 0 width

-- by a counter of 32 bits a pulse rose so far ahead of another: up to 4,000 s ahead, or up to a second back
abbrev pub span_ahead : (newest ahead width : ℕ) → Result Span Reason
span_ahead newest ahead width =
    if nat_le ahead 4000000000 then span_at (newest + ahead) width
    else (if nat_le (4294967296 - ahead) 1000000 then span_back newest (4294967296 - ahead) width
    else Err (Time Back))

-- when the pulse of a row was, by when the newest one before it rose
abbrev pub span_by : (newest : ℕ) → Row → Result Span Reason
span_by newest row =
    if nat_lt row.rise_us 4294967296
    then span_ahead newest ((row.rise_us + (4294967296 - newest % 4294967296)) % 4294967296) row.width_us
    else (if nat_lt (row.rise_us + 1000000) newest then Err (Time Back) else span_at row.rise_us row.width_us)

-- when the pulse of a row was; the first row has its own time
abbrev pub span_of : Now → Row → Result Span Reason
span_of now row =
    if now.is_begun then span_by (now.newest_ns / 1000) row else span_at row.rise_us row.width_us
