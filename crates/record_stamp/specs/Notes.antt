-- What a record says of its own clock, beside its stamp, as lines of a verdict.
-- Source: IEEE C37.111-2013: the time code (UTC is the time less it), the code of the time's quality and that of leap
-- seconds stand below the stamps; the words are this project's.
use Rattle.std.specs.Prelude.{ℕ, ◌+◌, ◌-◌, ◌*◌, ◌/◌, ◌%◌, Bool, true, false, ◌||◌, List, [], ◌∷◌, ◌++◌, codes, Option, Some, None, Result, Ok, Err, nat_eq, nat_lt, if◌then◌else◌, ℤ, pos, negsuc, ◌+ℤ◌, unsigned_abs}
use Rattle.irig_time.specs.declared.leap.Leap.{Leap}
use Rattle.record_comtrade.specs.Configs.{ConfigValue}
use Rattle.record_stamp.specs.declared.code.LeapSaid.{LeapSaid}
use Rattle.record_stamp.specs.declared.code.LeapSaid.TheVariants.{NoLeap, Added, Deleted, Unknown}
use Rattle.record_stamp.specs.declared.instant.Stamp.{Stamp}
use Rattle.record_stamp.specs.declared.instant.StampFault.{StampFault}
use Rattle.record_stamp.specs.declared.late.Moment.{Moment}
use Rattle.record_stamp.specs.declared.word.Word.{Word}
use Rattle.record_stamp.specs.Codes.{leap_said, quality_of, zone_of}
use Rattle.record_stamp.specs.Late.{late_ns}
use Rattle.record_stamp.specs.Records.{below, stamp_of, word_of}
use Rattle.record_stamp.specs.Word.{moment_of}
use Rattle.record_stamp.specs.WordText.{escaped, moment_text, stamp_fault_text, stamp_word_text, zone_text}

-- ---- the zone

-- the stamp is read in this zone, for a reason
unfoldable pub zone_as : (minutes : ℤ) → (end : List ℕ) → List ℕ
zone_as minutes end = codes "the stamp is read as local time of UTC" ++ (zone_text minutes ++ end)

-- a stranger's text with words around it
unfoldable pub between_note : (front code end : List ℕ) → List ℕ
between_note front code end = front ++ (escaped code ++ end)

-- a time code says that there is no zone: it is empty, or an x
abbrev pub names_none : (code : List ℕ) → Bool
names_none [] = true
names_none (b ∷ []) = nat_eq b 120 || nat_eq b 88
names_none (b ∷ c ∷ more) = false

-- a time code that is no zone
abbrev pub no_zone_note : (code : List ℕ) → List ℕ
no_zone_note code =
    if names_none code then codes "the stamp is read as UTC, since the record names no zone\n"
    else between_note (codes "the stamp is read as UTC, since the record's time code, ") code (codes ", is no zone\n")

-- the record's own zone
abbrev pub own_zone : (minutes : ℤ) → List ℕ
own_zone minutes =
    if nat_eq (unsigned_abs minutes) 0 then codes "the stamp is read as UTC, as the record says\n"
    else zone_as minutes (codes ", as the record says\n")

-- a time code, and the zone that it is
abbrev pub code_note : (said : Option ℤ) → (code : List ℕ) → List ℕ
code_note (Some minutes) code = own_zone minutes
code_note None code = no_zone_note code

-- in which zone the stamp is read: the one that was asked for, or else that of the time code
abbrev pub zone_note : (asked : Option ℤ) → (code : List ℕ) → List ℕ
zone_note (Some minutes) code = zone_as minutes (codes ", as was asked for\n")
zone_note None code = code_note (zone_of code) code

-- ---- the trigger

-- so many nanoseconds after the beginning of a moment's day, if it is on that day
abbrev pub in_day : (of : Moment) → (since : ℤ) → Option Moment
in_day of (pos n) =
    if nat_lt n 86400000000000
    then Some (record { at = record { day = of.at.day; sod = n / 1000000000 }; nanoseconds = n % 1000000000 }) else None
in_day of (negsuc n) = None

-- how long a moment is after the beginning of its day, in nanoseconds
abbrev pub since_midnight : Moment → ℕ
since_midnight moment = 1000000000 * moment.at.sod + moment.nanoseconds

-- the moment that lies so long after another one, if it is another one of the same day
abbrev pub moment_after : (lag : ℤ) → Moment → Option Moment
moment_after lag moment =
    if nat_eq (unsigned_abs lag) 0 then None else in_day moment (pos (since_midnight moment) +ℤ lag)

-- when the trigger was: as long after the first sample as its stamp says
abbrev pub trigger_moment : (first trigger : Stamp) → (truth : Moment) → Option Moment
trigger_moment first trigger truth = moment_after (late_ns [] (moment_of trigger) (moment_of first)) truth

-- its line
unfoldable pub trigger_line : Option Moment → List ℕ
trigger_line (Some at) = codes "the trigger was at " ++ (moment_text at ++ codes "\n")
trigger_line None = []

-- the same, if both stamps are times
abbrev pub trigger_by : (first trigger : Result Stamp StampFault) → (truth : Moment) → List ℕ
trigger_by (Ok first) (Ok trigger) truth = trigger_line (trigger_moment first trigger truth)
trigger_by (Ok first) (Err fault) truth = []
trigger_by (Err fault) trigger truth = []

-- ---- the recorder's clock

-- 1, 10 or 100
abbrev pub power_word : ℕ → List ℕ
power_word n = if nat_eq n 0 then codes "1" else (if nat_eq n 1 then codes "10" else codes "100")

-- a unit, each a thousand times the one before
abbrev pub unit_word : ℕ → List ℕ
unit_word n =
    if nat_eq n 0 then codes " ns\n" else (if nat_eq n 1 then codes " us\n" else (if nat_eq n 2 then codes " ms\n" else codes " s\n"))

-- to how much a time is right, by a code from 1, which is 1 ns: each is ten times the one before
unfoldable pub unlocked_words : (code : ℕ) → List ℕ
unlocked_words code =
    codes "the record says that its clock was not locked, and right to "
    ++ (power_word ((code - 1) % 3) ++ unit_word ((code - 1) / 3))

-- how good its time was: 0 is locked, 1 to 11 are 1 ns to 10 s, and 15 is out of order
abbrev pub quality_words : (code : ℕ) → List ℕ
quality_words code =
    if nat_eq code 0 then codes "the record says that its clock was locked\n"
    else (if nat_lt code 12 then unlocked_words code else codes "the record says that its clock was out of order\n")

-- the same, if the record says it
abbrev pub quality_note : Option ℕ → List ℕ
quality_note (Some code) = quality_words code
quality_note None = []

-- what the record says of leap seconds, unless it says that there is none
unfoldable pub leap_words : LeapSaid → List ℕ
leap_words NoLeap = []
leap_words Added = codes "the record says that a leap second is added in it\n"
leap_words Deleted = codes "the record says that a leap second is deleted in it\n"
leap_words Unknown = codes "the record says that its clock does not know of leap seconds\n"

-- the same, if it says anything
abbrev pub leap_note : Option LeapSaid → List ℕ
leap_note (Some leap) = leap_words leap
leap_note None = []

-- ---- all

-- the lines beside the word on the stamp of a record
abbrev pub notes_text : ConfigValue → (zone : Option ℤ) → (truth : Moment) → List ℕ
notes_text config zone truth =
    zone_note zone (below config 4 0) ++ (trigger_by (stamp_of config 0 zone) (stamp_of config 1 zone) truth
    ++ (quality_note (quality_of (below config 5 0)) ++ leap_note (leap_said (below config 5 1))))

-- the lines of a word on a stamp that stands so in a record, with these beside it; or why the stamp is no time
abbrev pub word_text : Result Word StampFault → (date clock : List ℕ) → (truth : Moment) → (notes : List ℕ) → List ℕ
word_text (Ok word) date clock truth notes = stamp_word_text word date clock truth ++ notes
word_text (Err fault) date clock truth notes = stamp_fault_text fault date clock

-- the lines of the word on the stamp of a record, where the lines tell when its first sample was, by the leaps that are
-- known
abbrev pub record_word_text : ConfigValue → Option ℤ → List (ℕ × Leap) → (truth : Moment) → List ℕ
record_word_text config zone leaps truth =
    word_text (word_of config zone leaps truth) (below config 0 0) (below config 0 1) truth (notes_text config zone truth)
