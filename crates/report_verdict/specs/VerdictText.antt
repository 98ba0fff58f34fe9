-- The text of a verdict.
-- Source: this project's profile, docs/CAPTURE.md.
use Rattle.std.specs.Prelude.{ℕ, ◌==◌, ◌||◌, Bool, is_some, not, if◌then◌else◌, List, [], ◌++◌, codes, length, Option, Some, None}
use Rattle.std.specs.Fmt.{decimal}
use Rattle.std.specs.List.{flat_map}
use Rattle.irig_port.specs.declared.told.PortFault.{PortFault}
use Rattle.irig_time.specs.declared.second.UtcSecond.{UtcSecond}
use Rattle.report_log.specs.declared.offset.Offset.{Offset}
use Rattle.report_log.specs.Whens.{offset_text}
use Rattle.text_faults.specs.PortFaults.{fault_text}
use Rattle.record_verdict.specs.declared.ended.Unended.{Unended}
use Rattle.record_verdict.specs.declared.jump.Jump.{Jump}
use Rattle.record_verdict.specs.declared.jump.Jumps.{Jumps}
use Rattle.report_verdict.specs.declared.line_seen.LineSeen.{LineSeen}
use Rattle.record_verdict.specs.declared.stretch.AgreedSecond.{AgreedSecond}
use Rattle.record_verdict.specs.declared.stretch.Stretch.{Stretch}
use Rattle.record_verdict.specs.declared.tale.Tale.{Tale}
use Rattle.record_verdict.specs.declared.tale.Tale.TheVariants.{Agreed, AnotherSecond, AnotherMark, Late, Early, Faulty, Poor, Silent}
use Rattle.record_verdict.specs.declared.verdict.Verdict.{Verdict}
use Rattle.record_verdict.specs.declared.zero.Zero.{Zero}
use Rattle.record_verdict.specs.declared.zero.Zero.TheVariants.{At, Undecided, OutOfYears}
use Rattle.report_verdict.specs.LineText.{line_name, line_text}
use Rattle.report_verdict.specs.NumberText.{instant_text, moment_text, nearest, seconds_text, thousandths_text, utc_text}
use Rattle.record_verdict.specs.Zeros.{zero_at}

-- ---- where most lines contradict themselves

-- as many lines as there are
abbrev pub contradict_words : ℕ → List ℕ
contradict_words lines =
    if lines == 1 then codes "the line contradicts itself: " else codes "most lines contradict themselves: "

-- how many jumps there are, where the first was said
unfoldable pub jumps_more : ℕ → List ℕ
jumps_more count =
    if count == 1 then codes "\n" else codes ", the first of " ++ (decimal count ++ codes " jumps\n")

-- an agreed second behind some words
unfoldable pub moment_after : (words : List ℕ) → AgreedSecond → List ℕ
moment_after words second = words ++ moment_text second

-- the first of so many jumps
abbrev pub jump_line : (lines : ℕ) → Jump → (count : ℕ) → List ℕ
jump_line lines jump count =
    moment_after (contradict_words lines) jump.before
    ++ (moment_after (codes " is followed by ") jump.after ++ jumps_more count)

-- the same, if there is one
abbrev pub jumps_by : (lines count : ℕ) → Option Jump → List ℕ
jumps_by lines count None = []
jumps_by lines count (Some jump) = jump_line lines jump count

-- the same of all jumps
abbrev pub jumps_line : (lines : ℕ) → Jumps → List ℕ
jumps_line lines jumps = jumps_by lines jumps.count jumps.first

-- ---- what is wrong

-- another second
unfoldable pub differs_text : Offset → List ℕ
differs_text offset = codes " differs: " ++ offset_text offset

-- the least and the most, if these are not the same, in milliseconds
abbrev pub range_text : (least most : ℕ) → List ℕ
range_text least most =
    if least == most then thousandths_text least
    else thousandths_text least ++ (codes " to " ++ thousandths_text most)

-- how late or early frames are
unfoldable pub off_text : Stretch → List ℕ → List ℕ
off_text s way = codes " is " ++ (range_text s.least_us s.most_us ++ way)

-- the first fault of what is no right frame
unfoldable pub fault_part : PortFault → List ℕ
fault_part fault = codes " sends frames of fault " ++ fault_text (codes " ") fault

-- the first time quality
unfoldable pub quality_part : ℕ → List ℕ
quality_part quality = codes " says a time quality of " ++ decimal quality

-- what is wrong in a stretch that begins with this
abbrev pub tale_text : Tale → Stretch → List ℕ
tale_text Agreed s = codes " agrees"
tale_text (AnotherSecond offset) s = differs_text offset
tale_text AnotherMark s = codes " differs: another word on a leap second"
tale_text (Late late) s = off_text s (codes " ms late")
tale_text (Early early) s = off_text s (codes " ms early")
tale_text (Faulty fault) s = fault_part fault
tale_text (Poor quality) s = quality_part quality
tale_text Silent s = codes " is silent"

-- the line of a stretch
unfoldable pub stretch_line : List LineSeen → Stretch → List ℕ
stretch_line lines s =
    line_name lines s.line ++ (tale_text s.tale s
    ++ (codes " in " ++ (seconds_text s.seconds s.first s.last ++ codes "\n")))

-- those of some stretches
abbrev pub stretches_text : List LineSeen → List Stretch → List ℕ
stretches_text lines stretches = flat_map (stretch_line lines) stretches

-- how many more there were
unfoldable pub more_line : ℕ → List ℕ
more_line more = if more == 0 then [] else codes ".. and " ++ (decimal more ++ codes " more\n")

-- that of an open stretch, if there is one
abbrev pub open_line : List LineSeen → Option Stretch → List ℕ
open_line lines None = []
open_line lines (Some s) = stretch_line lines s

-- those of all open ones, by line
abbrev pub unended_text : List LineSeen → Unended → List ℕ
unended_text lines u =
    open_line lines u.a ++ (open_line lines u.b ++ (open_line lines u.c
    ++ (open_line lines u.d ++ open_line lines u.e)))

-- whether any line is wrong
abbrev pub differs : Verdict → Bool
differs v =
    not (length v.ended.kept.items == 0)
    || (is_some v.unended.a || (is_some v.unended.b || (is_some v.unended.c
    || (is_some v.unended.d || is_some v.unended.e))))

-- no line is
abbrev pub same_line : ℕ → List ℕ
same_line lines =
    if lines == 1 then codes "one line alone: no other can outvote it\n"
    else codes "no line differs\n"

-- what is wrong: what ended, what more did, and what is open
abbrev pub wrong_text : Verdict → List LineSeen → List ℕ
wrong_text v lines =
    if differs v
    then stretches_text lines v.ended.kept.items
    ++ (more_line v.ended.more ++ unended_text lines v.unended)
    else same_line v.lines

-- ---- what most lines agree on

-- as many lines as there are
abbrev pub agreed_words : ℕ → List ℕ
agreed_words lines = if lines == 1 then codes "the line claims " else codes "most lines agree on "

-- the agreed seconds
unfoldable pub agreed_line : Verdict → AgreedSecond → AgreedSecond → List ℕ
agreed_line v first last =
    agreed_words v.lines ++ (seconds_text v.agreed first last ++ codes "\n")

-- how many other seconds there are
unfoldable pub others_words : (seconds : ℕ) → List ℕ
others_words n =
    if n == 1 then codes "1 more second has no vote, at "
    else decimal n ++ codes " more seconds have no vote, the first at "

-- the same, and where the first of them ends
abbrev pub others_from : (seconds first : ℕ) → List ℕ
others_from n first = others_words n ++ (thousandths_text (nearest first) ++ codes " s\n")

-- the same, if there are some
abbrev pub others_line : (seconds : ℕ) → (first : Option ℕ) → List ℕ
others_line n None = []
others_line n (Some first) = others_from n first

-- how far apart lines are that agree, if there are several
unfoldable pub apart_line : Verdict → List ℕ
apart_line v =
    if v.lines == 1 then []
    else codes "the lines that agree are at most " ++ (decimal v.apart_us ++ codes " us apart\n")

-- the recording begins then
unfoldable pub begins_line : UtcSecond → (since : ℕ) → List ℕ
begins_line second since =
    codes "0.000 s of the recording is " ++ (instant_text second since ++ codes "\n")

-- nobody knows how a month ends
unfoldable pub month_words : List ℕ
month_words =
    codes "undecided when the recording begins: no frame says if a leap second follows "

-- the recording begins before the end of a month, after this second
unfoldable pub month_line : UtcSecond → List ℕ
month_line second = month_words ++ (utc_text second ++ codes "\n")

-- when the recording begins
abbrev pub zero_line : Zero → List ℕ
zero_line (At second since) = begins_line second since
zero_line (Undecided day) = month_line (record { day = day; sod = 86399 })
zero_line OutOfYears = codes "the recording does not begin between 2000-01-02 and 2099-12-30\n"

-- no second is agreed on
abbrev pub undecided_line : ℕ → List ℕ
undecided_line lines =
    if lines == 1 then codes "undecided: the line has no whole frame that claims a second\n"
    else codes "undecided: most lines never claim one second in frames that end near one another\n"

-- ---- the whole

-- by the first and the last second on which most lines agree, if they do
abbrev pub decided_by : Verdict → List LineSeen → Option AgreedSecond → Option AgreedSecond → List ℕ
decided_by v lines (Some first) (Some last) =
    jumps_line v.lines v.jumps ++ (wrong_text v lines ++ (agreed_line v first last ++ (others_line v.without_vote v.first_without_us
    ++ (apart_line v ++ zero_line (zero_at first)))))
decided_by v lines (Some first) None = undecided_line v.lines
decided_by v lines None last = undecided_line v.lines

-- what is said of all lines together
abbrev pub decided_text : Verdict → List LineSeen → List ℕ
decided_text v lines = decided_by v lines v.first v.last

-- what was seen on each
abbrev pub lines_text : List LineSeen → List ℕ
lines_text lines = flat_map line_text lines

-- the text of a verdict
abbrev pub verdict_text : Verdict → List LineSeen → List ℕ
verdict_text v lines = decided_text v lines ++ lines_text lines
