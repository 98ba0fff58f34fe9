-- What is said of the stamp of a record beside the verdict on its lines.
-- Source: docs/CAPTURE.md; the words are those of record_stamp, RFC 8259 for JSON.
use Rattle.std.specs.Prelude.{ℕ, ◌/◌, ◌*◌, ◌&&◌, Bool, if◌then◌else◌, List, [], ◌++◌, codes, Option, Some, None, Result, Ok, Err, nat_lt, ℤ, pos, neg_ℤ, int_lt, unsigned_abs}
use Rattle.std.specs.Fmt.{decimal}
use Rattle.irig_time.specs.Seconds.{is_valid}
use Rattle.record_comtrade.specs.Configs.{ConfigValue}
use Rattle.record_stamp.specs.declared.instant.Stamp.{Stamp}
use Rattle.record_stamp.specs.declared.instant.StampFault.{StampFault}
use Rattle.record_stamp.specs.declared.late.Moment.{Moment}
use Rattle.record_stamp.specs.declared.word.Word.{Word}
use Rattle.record_stamp.specs.Notes.{record_word_text}
use Rattle.record_stamp.specs.Records.{below, stamp_of, unjudged_text, word_of}
use Rattle.record_stamp.specs.Word.{agrees, moment_of as moment_said}
use Rattle.record_stamp.specs.WordText.{moment_text}
use Rattle.record_verdict.specs.declared.zero.Zero.{Zero}
use Rattle.record_verdict.specs.declared.zero.Zero.TheVariants.{At, Undecided, OutOfYears}
use Rattle.report_verdict.specs.JsonText.{json_name}

-- the moment at which a recording begins, if that is known
abbrev pub moment_of : Option Zero → Option Moment
moment_of (Some (At second since)) =
    if is_valid second && nat_lt since 1000000
    then Some (record { at = second; nanoseconds = since * 1000 }) else None
moment_of (Some (Undecided day)) = None
moment_of (Some OutOfYears) = None
moment_of None = None

-- ---- lines

-- the word on the stamp, if that moment is known; no leap second is known but from frames
abbrev pub stamp_lines : ConfigValue → (zone : Option ℤ) → (truth : Option Moment) → List ℕ
stamp_lines config hours (Some truth) = record_word_text config hours [] truth
stamp_lines config hours None = unjudged_text config

-- ---- a key of an object

-- the stamp as it stands
unfoldable pub json_stamp_text : (date clock : List ℕ) → List ℕ
json_stamp_text date clock =
    codes ",\"stamp\":{\"text\":\"" ++ (json_name date ++ (codes "," ++ (json_name clock ++ codes "\"")))

-- a time in UTC
unfoldable pub json_utc : Moment → List ℕ
json_utc moment = codes ",\"utc\":\"" ++ (moment_text moment ++ codes "\"")

-- the time that the stamp says, if it is one
abbrev pub json_utc_of : Result Stamp StampFault → List ℕ
json_utc_of (Ok stamp) = json_utc (moment_said stamp)
json_utc_of (Err fault) = codes ",\"utc\":null"

-- the sign of what is early
unfoldable pub sign_text : (is_early : Bool) → List ℕ
sign_text is_early = if is_early then codes "-" else []

-- whether it agrees, and the end of the object
unfoldable pub agrees_text : Bool → List ℕ
agrees_text agrees = if agrees then codes ",\"agrees\":true}" else codes ",\"agrees\":false}"

-- by how many microseconds it is early or late, and whether it agrees
unfoldable pub json_late : (is_early : Bool) → (us : ℕ) → (agrees : Bool) → List ℕ
json_late is_early us agrees =
    codes ",\"late_us\":" ++ (sign_text is_early ++ (decimal us ++ agrees_text agrees))

-- the same of a word, if there is one: whole microseconds, rounded towards 0
abbrev pub json_word : Option Word → List ℕ
json_word (Some word) =
    json_late (int_lt word.late_ns (neg_ℤ (pos 999))) (unsigned_abs word.late_ns / 1000)
    (agrees word.within_ns word.late_ns)
json_word None = codes ",\"late_us\":null,\"agrees\":null}"

-- a word, if there is one
abbrev pub word_if : Result Word StampFault → Option Word
word_if (Ok word) = Some word
word_if (Err fault) = None

-- the word on the stamp, if it is a time and the lines tell one
abbrev pub word_known : ConfigValue → (zone : Option ℤ) → (truth : Option Moment) → Option Word
word_known config hours (Some truth) = word_if (word_of config hours [] truth)
word_known config hours None = None

-- the key
unfoldable pub json_stamp : ConfigValue → (zone : Option ℤ) → (truth : Option Moment) → List ℕ
json_stamp config zone truth =
    json_stamp_text (below config 0 0) (below config 0 1) ++ (json_utc_of (stamp_of config 0 zone) ++ json_word (word_known config zone truth))

-- ---- either

-- what is said of the stamp, where the recording begins so
abbrev pub said_of_stamp : (as_json : Bool) → ConfigValue → (zone : Option ℤ) → Option Zero → List ℕ
said_of_stamp as_json config zone zero =
    if as_json then json_stamp config zone (moment_of zero) else stamp_lines config zone (moment_of zero)
