-- A verdict as an object of JSON, on one line. Times are whole microseconds.
-- Source: RFC 8259 for JSON; this project's profile, docs/CAPTURE.md, for its keys.
use Rattle.std.specs.Prelude.{ℕ, ◌/◌, ◌%◌, ◌==◌, ◌&&◌, Bool, true, false, is_some, not, if◌then◌else◌, List, [], ◌∷◌, ◌++◌, codes, Option, Some, None}
use Rattle.std.specs.Fmt.{decimal}
use Rattle.std.specs.List.{flat_map}
use Rattle.irig_time.specs.declared.second.UtcSecond.{UtcSecond}
use Rattle.irig_port.specs.declared.told.PortFault.{PortFault}
use Rattle.report_log.specs.declared.offset.Offset.{Offset}
use Rattle.text_faults.specs.PortFaults.{number_of}
use Rattle.record_pulses.specs.declared.seen.Counts.{Counts}
use Rattle.record_verdict.specs.declared.ended.Unended.{Unended}
use Rattle.report_verdict.specs.declared.line_seen.LineSeen.{LineSeen}
use Rattle.record_verdict.specs.declared.stretch.AgreedSecond.{AgreedSecond}
use Rattle.record_verdict.specs.declared.stretch.Stretch.{Stretch}
use Rattle.record_verdict.specs.declared.tale.Kind.{Kind}
use Rattle.record_verdict.specs.declared.tale.Kind.TheVariants as kind
use Rattle.record_verdict.specs.declared.tale.Tale.{Tale}
use Rattle.record_verdict.specs.declared.tale.Tale.TheVariants.{Agreed, AnotherSecond, AnotherMark, Late, Early, Faulty, Poor, Silent}
use Rattle.record_verdict.specs.declared.verdict.Verdict.{Verdict}
use Rattle.record_verdict.specs.declared.zero.Zero.{Zero}
use Rattle.record_verdict.specs.declared.zero.Zero.TheVariants.{At, Undecided, OutOfYears}
use Rattle.report_verdict.specs.LineText.{hex_digit, is_plain}
use Rattle.report_verdict.specs.NumberText.{instant_text, utc_text}
use Rattle.record_verdict.specs.Tales.{kind_of}
use Rattle.record_verdict.specs.Zeros.{zero_of}

-- ---- values

-- the character of a byte, by its number
abbrev pub json_code : ℕ → List ℕ
json_code b = codes "\\u00" ++ (hex_digit (b / 16) ∷ (hex_digit (b % 16) ∷ []))

-- a byte of a name: plain ASCII but for the quotation mark (34) as it is, and any other so
abbrev pub json_byte : ℕ → List ℕ
json_byte b = if is_plain b && not (b == 34) then b ∷ [] else json_code b

-- a name of any bytes
abbrev pub json_name : List ℕ → List ℕ
json_name name = flat_map json_byte name

-- whether something is so
unfoldable pub json_bool : Bool → List ℕ
json_bool true = codes "true"
json_bool false = codes "false"

-- an agreed second, and when it ends
unfoldable pub json_moment : AgreedSecond → List ℕ
json_moment s =
    codes "{\"utc\":\"" ++ (utc_text s.claim.at ++ (codes "\",\"edge_us\":"
    ++ (decimal s.edge_us ++ codes "}")))

-- if there is one
abbrev pub json_agreed : Option AgreedSecond → List ℕ
json_agreed None = codes "null"
json_agreed (Some s) = json_moment s

-- when the recording begins
unfoldable pub json_instant : UtcSecond → (since : ℕ) → List ℕ
json_instant u since = codes "\"" ++ (instant_text u since ++ codes "\"")

-- if that is known
abbrev pub json_zero : Option Zero → List ℕ
json_zero None = codes "null"
json_zero (Some (At u since)) = json_instant u since
json_zero (Some (Undecided day)) = codes "null"
json_zero (Some OutOfYears) = codes "null"

-- ---- a stretch

-- the word for a kind
abbrev pub kind_word : Kind → List ℕ
kind_word kind.Agreed = codes "agreed"
kind_word kind.AnotherSecond = codes "another_second"
kind_word kind.AnotherMark = codes "another_mark"
kind_word kind.Late = codes "late"
kind_word kind.Early = codes "early"
kind_word kind.Faulty = codes "faulty"
kind_word kind.Poor = codes "poor"
kind_word kind.Silent = codes "silent"

-- how far another second is
unfoldable pub json_offset : Offset → List ℕ
json_offset o =
    codes ",\"ahead_s\":" ++ (decimal o.ahead ++ (codes ",\"behind_s\":" ++ decimal o.behind))

-- how late or early frames are
unfoldable pub json_off : Stretch → List ℕ
json_off s =
    codes ",\"least_us\":" ++ (decimal s.least_us ++ (codes ",\"most_us\":" ++ decimal s.most_us))

-- the number of the first fault
unfoldable pub json_fault : PortFault → List ℕ
json_fault fault = codes ",\"fault\":" ++ decimal (number_of fault)

-- the first time quality
unfoldable pub json_quality : ℕ → List ℕ
json_quality quality = codes ",\"quality\":" ++ decimal quality

-- what else is said of a kind
abbrev pub json_detail : Tale → Stretch → List ℕ
json_detail Agreed s = []
json_detail (AnotherSecond offset) s = json_offset offset
json_detail AnotherMark s = []
json_detail (Late late) s = json_off s
json_detail (Early early) s = json_off s
json_detail (Faulty fault) s = json_fault fault
json_detail (Poor quality) s = json_quality quality
json_detail Silent s = []

-- of which line and of which kind it is
unfoldable pub json_kind : Stretch → List ℕ
json_kind s =
    codes "{\"line\":" ++ (decimal s.line ++ (codes ",\"kind\":\"" ++ (kind_word (kind_of s.tale)
    ++ codes "\"")))

-- how many seconds it has
unfoldable pub json_seconds : ℕ → List ℕ
json_seconds seconds = codes ",\"seconds\":" ++ decimal seconds

-- from the first to the last
unfoldable pub json_span : Stretch → List ℕ
json_span s =
    codes ",\"first\":" ++ (json_moment s.first ++ (codes ",\"last\":" ++ (json_moment s.last
    ++ codes "}")))

-- a stretch
abbrev pub json_stretch : Stretch → List ℕ
json_stretch s = json_kind s ++ (json_detail s.tale s ++ (json_seconds s.seconds ++ json_span s))

-- an open one, if there is one
abbrev pub json_open : Option Stretch → List ℕ
json_open None = codes "null"
json_open (Some s) = json_stretch s

-- ---- lists

-- after a comma
abbrev pub behind_comma : {A : Type 0} → (A → List ℕ) → A → List ℕ
behind_comma item x = codes "," ++ item x

-- the open stretches of all lines, by line
abbrev pub json_unended : Unended → List ℕ
json_unended u =
    json_open u.a ++ (behind_comma json_open u.b ++ (behind_comma json_open u.c
    ++ (behind_comma json_open u.d ++ behind_comma json_open u.e)))

-- values with a comma between them
abbrev pub joined : {A : Type 0} → (A → List ℕ) → List A → List ℕ
joined item [] = []
joined item (x ∷ xs) = item x ++ flat_map (behind_comma item) xs

-- the name of a line
unfoldable pub json_named : List ℕ → List ℕ
json_named name = codes "{\"name\":\"" ++ (json_name name ++ codes "\"")

-- whether its pulses are low
unfoldable pub json_inverted : Bool → List ℕ
json_inverted is_inverted = codes ",\"inverted\":" ++ json_bool is_inverted

-- how many pulses and frames it has
unfoldable pub json_counts : Counts → List ℕ
json_counts n =
    codes ",\"pulses\":" ++ (decimal n.pulses ++ (codes ",\"frames\":" ++ (decimal n.frames
    ++ (codes ",\"out_of_step\":" ++ (decimal n.out_of_step ++ codes "}")))))

-- what was seen on a line
abbrev pub json_line : LineSeen → List ℕ
json_line l =
    json_named l.name.now ++ (json_inverted l.is_inverted ++ json_counts l.seen.now.counts)

-- ---- the whole

-- whether most lines agree on any second
unfoldable pub json_decided : Bool → List ℕ
json_decided true = codes "{\"decided\":true"
json_decided false = codes "{\"decided\":false"

-- how many seconds they do not agree on, how often they contradict themselves, and how far apart lines are that agree
unfoldable pub json_others : Verdict → List ℕ
json_others v =
    codes ",\"without_vote\":" ++ (decimal v.without_vote ++ (codes ",\"jumps\":"
    ++ (decimal v.jumps.count ++ (codes ",\"apart_us\":" ++ decimal v.apart_us))))

-- the first and the last, and when the recording begins
unfoldable pub json_times : Verdict → List ℕ
json_times v =
    codes ",\"first\":" ++ (json_agreed v.first ++ (codes ",\"last\":" ++ (json_agreed v.last
    ++ (codes ",\"zero\":" ++ json_zero (zero_of v.first)))))

-- the stretches that ended, how many more did, and those that are open
unfoldable pub json_stretches : Verdict → List ℕ
json_stretches v =
    codes ",\"stretches\":[" ++ (joined json_stretch v.ended.kept.items ++ (codes "],\"more\":"
    ++ (decimal v.ended.more ++ (codes ",\"open\":[" ++ (json_unended v.unended ++ codes "]")))))

-- what was seen on lines
unfoldable pub json_lines : List LineSeen → List ℕ
json_lines lines = codes ",\"lines\":[" ++ (joined json_line lines ++ codes "]")

-- its keys
abbrev pub json_keys : Verdict → List LineSeen → List ℕ
json_keys v lines =
    json_decided (is_some v.first) ++ (json_seconds v.agreed ++ (json_others v ++ (json_times v
    ++ (json_stretches v ++ json_lines lines))))

-- further keys, each behind a comma, and its end
unfoldable pub json_end : (further : List ℕ) → List ℕ
json_end further = further ++ codes "}\n"

-- the object
abbrev pub json_text : Verdict → List LineSeen → (further : List ℕ) → List ℕ
json_text v lines further = json_keys v lines ++ json_end further
