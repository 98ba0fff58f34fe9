-- The word on a stamp as a text.
-- Source: docs/OUTPUT.md has times as RFC 3339 writes them; the words are this project's.
use Rattle.std.specs.Prelude.{ℕ, ◌+◌, ◌-◌, ◌/◌, ◌%◌, not, ◌&&◌, if◌then◌else◌, List, [], ◌∷◌, ◌++◌, take, codes, Option, Some, None, nat_eq, nat_lt, nat_le, ℤ, pos, int_lt, unsigned_abs}
use Rattle.std.specs.Fmt.{decimal}
use Rattle.irig_time.specs.TextValues.{second_text}
use Rattle.record_stamp.specs.declared.instant.StampFault.{StampFault}
use Rattle.record_stamp.specs.declared.instant.StampFault.TheVariants.{Date, Clock, NoSuchDay, NoSuchTime, OutOfYears, Second60}
use Rattle.record_stamp.specs.declared.late.Moment.{Moment}
use Rattle.record_stamp.specs.declared.word.Word.{Word}
use Rattle.record_stamp.specs.declared.word.ZoneReading.{ZoneReading}
use Rattle.record_stamp.specs.Word.{agrees}

-- ---- strangers' texts

-- a digit of sixteen: 0 to 9, a to f
abbrev pub hex : (digit : ℕ) → ℕ
hex digit = if nat_lt digit 10 then 48 + digit else 97 + (digit - 10)

-- a byte that shows as itself, but for a backslash (92), and else as \xNN
abbrev pub escaped_byte : (byte : ℕ) → List ℕ
escaped_byte b =
    if nat_le 32 b && nat_le b 126 && not (nat_eq b 92) then b ∷ []
    else codes "\\x" ++ hex (b / 16) ∷ hex (b % 16) ∷ []

-- a text, byte by byte
unfoldable pub escaped : (text : List ℕ) → List ℕ
escaped [] = []
escaped (b ∷ bs) = escaped_byte b ++ escaped bs

-- a date and a time as they stand in a record
unfoldable pub stamp_text : (date clock : List ℕ) → List ℕ
stamp_text date clock = escaped date ++ (codes "," ++ escaped clock)

-- ---- lengths of time

-- three digits
unfoldable pub three : ℕ → List ℕ
three n = (48 + n / 100) ∷ (48 + n / 10 % 10) ∷ (48 + n % 10) ∷ []

-- a count with its unit, unless it is 0
unfoldable pub unit_text : (count : ℕ) → (name : List ℕ) → List ℕ
unit_text count name = if nat_eq count 0 then [] else decimal count ++ name

-- the seconds of a length in milliseconds: whole ones from a minute on, if they are whole, and else with three decimals
unfoldable pub seconds_text : (ms : ℕ) → List ℕ
seconds_text ms =
    if nat_eq (ms % 1000) 0 && nat_le 60000 ms then unit_text (ms / 1000 % 60) (codes " s ")
    else decimal (ms / 1000 % 60) ++ (codes "." ++ (three (ms % 1000) ++ codes " s "))

-- a length in milliseconds: days, hours, minutes and seconds, each with a blank after it
unfoldable pub length_text : (ms : ℕ) → List ℕ
length_text ms =
    unit_text (ms / 86400000) (codes " d ") ++ (unit_text (ms / 3600000 % 24) (codes " h ")
    ++ (unit_text (ms / 60000 % 60) (codes " min ") ++ seconds_text ms))

-- nanoseconds, rounded to the nearest millisecond
unfoldable pub amount_text : (ns : ℕ) → List ℕ
amount_text ns = length_text (ns / 1000000 + ns % 1000000 / 500000)

-- nanoseconds as milliseconds with one decimal, rounded up
unfoldable pub within_text : (ns : ℕ) → List ℕ
within_text ns =
    decimal ((ns + 99999) / 100000 / 10) ++ (codes "." ++ ((48 + (ns + 99999) / 100000 % 10) ∷ [] ++ codes " ms"))

-- a stamp is early if it names an earlier time than the lines, and late if a later one
abbrev pub direction : (late : ℤ) → List ℕ
direction late = if int_lt late (pos 0) then codes "early" else codes "late"

-- by how much something is off, or that it agrees
unfoldable pub off_text : (within : ℕ) → (late : ℤ) → List ℕ
off_text within late =
    if agrees within late then codes "agrees within " ++ within_text within
    else codes "is " ++ (amount_text (unsigned_abs late) ++ direction late)

-- ---- moments and zones

-- nanoseconds below a second as three, six or nine decimals, as many as count
unfoldable pub fraction_text : (ns : ℕ) → List ℕ
fraction_text ns =
    three (ns / 1000000) ++ (if nat_eq (ns % 1000000) 0 then []
    else three (ns / 1000 % 1000) ++ (if nat_eq (ns % 1000) 0 then [] else three (ns % 1000)))

-- a moment: YYYY-MM-DDTHH:MM:SS, which are 19 letters, the fraction, and Z
unfoldable pub moment_text : Moment → List ℕ
moment_text moment = take 19 (second_text moment.at) ++ (codes "." ++ (fraction_text moment.nanoseconds ++ codes "Z"))

-- a zone in minutes, as +5:30
unfoldable pub zone_text : (minutes : ℤ) → List ℕ
zone_text minutes =
    (if int_lt minutes (pos 0) then codes "-" else codes "+") ++ (decimal (unsigned_abs minutes / 60)
    ++ (codes ":" ++ ((48 + unsigned_abs minutes / 10 % 6) ∷ [] ++ (48 + unsigned_abs minutes % 10) ∷ [])))

-- ---- lines

-- how a stamp is with its day and month exchanged
unfoldable pub other_date_line : (within : ℕ) → (late : ℤ) → List ℕ
other_date_line within late = codes "with its day and month exchanged it " ++ (off_text within late ++ codes "\n")

-- what that would explain
unfoldable pub exchanged_line : (within : ℕ) → Option ℤ → List ℕ
exchanged_line within None = []
exchanged_line within (Some late) = other_date_line within late

-- a zone and by how much something is off, with words before them
abbrev pub reading_between : (front : List ℕ) → (minutes : ℤ) → (middle : List ℕ) → (within : ℕ) → (late : ℤ) → List ℕ
reading_between front minutes middle within late =
    front ++ (zone_text minutes ++ (middle ++ (off_text within late ++ codes "\n")))

-- how a stamp is as local time of a zone
unfoldable pub reading_line : (within : ℕ) → (minutes late : ℤ) → List ℕ
reading_line within minutes late = reading_between (codes "as local time of UTC") minutes (codes " it ") within late

-- what that would explain
unfoldable pub zone_line : (within : ℕ) → Option ZoneReading → List ℕ
zone_line within None = []
zone_line within (Some zone) = reading_line within zone.zone_minutes zone.late_ns

-- a stamp and a moment, with words between them
unfoldable pub stamp_of_text : (date clock : List ℕ) → (words : List ℕ) → Moment → List ℕ
stamp_of_text date clock words moment = stamp_text date clock ++ (words ++ (moment_text moment ++ codes "\n"))

-- the word on a stamp of sample 1, and a line for each explanation
unfoldable pub stamp_word_text : Word → (date clock : List ℕ) → (truth : Moment) → List ℕ
stamp_word_text word date clock truth =
    (codes "the stamp " ++ (off_text word.within_ns word.late_ns ++ codes ": "))
    ++ (stamp_of_text date clock (codes " for sample 1, which was ") truth
    ++ (exchanged_line word.within_ns word.exchanged_ns ++ zone_line word.within_ns word.zone))

-- why a stamp is no time
unfoldable pub fault_reason : StampFault → List ℕ
fault_reason Date = codes "its date is not three numbers, as dd/mm/yyyy"
fault_reason Clock = codes "its time is not three numbers, as hh:mm:ss, with up to nine decimals"
fault_reason NoSuchDay = codes "the years from 2000 to 2099 have no such day"
fault_reason NoSuchTime = codes "a day has no such time"
fault_reason OutOfYears = codes "it is not from 2000-01-02 to 2099-12-30 in UTC"
fault_reason Second60 = codes "no month of UTC ends with that second 60"

-- that a stamp is no time, and why
unfoldable pub stamp_fault_text : StampFault → (date clock : List ℕ) → List ℕ
stamp_fault_text fault date clock =
    (codes "the stamp " ++ (stamp_text date clock ++ codes " is no time: ")) ++ (fault_reason fault ++ codes "\n")
