-- The texts of times and seconds.
-- Source: this project's profile, docs/CAPTURE.md.
use Rattle.std.specs.Prelude.{ℕ, ◌+◌, ◌/◌, ◌%◌, ◌==◌, if◌then◌else◌, List, ◌++◌, codes, take}
use Rattle.std.specs.Fmt.{decimal}
use Rattle.irig_time.specs.declared.second.UtcSecond.{UtcSecond}
use Rattle.irig_time.specs.Seconds.{is_valid}
use Rattle.irig_time.specs.TextValues.{second_text}
use Rattle.text_frame.specs.Reading.{with_zeros}
use Rattle.report_verdict.specs.declared.stretch.AgreedSecond.{AgreedSecond}

-- thousandths, as a number with three decimals
unfoldable pub thousandths_text : ℕ → List ℕ
thousandths_text n = decimal (n / 1000) ++ (codes "." ++ with_zeros 3 (n % 1000))

-- to the nearest thousand; half of one goes up
abbrev pub nearest : ℕ → ℕ
nearest n = (n + 500) / 1000

-- a second, or a dash for what is none
abbrev pub utc_text : UtcSecond → List ℕ
utc_text u = if is_valid u then second_text u else codes "-"

-- a second with its microseconds: YYYY-MM-DDTHH:MM:SS, 19 letters, and six decimals
abbrev pub instant_text : UtcSecond → (since : ℕ) → List ℕ
instant_text u since =
    if is_valid u
    then take 19 (second_text u) ++ (codes "." ++ (with_zeros 6 since ++ codes "Z"))
    else codes "-"

-- an agreed second, and when it ends, in seconds of the recording
abbrev pub moment_text : AgreedSecond → List ℕ
moment_text s =
    utc_text s.claim.at ++ (codes " at " ++ (thousandths_text (nearest s.edge_us) ++ codes " s"))

-- so many of them, from the first to the last
unfoldable pub seconds_text : ℕ → AgreedSecond → AgreedSecond → List ℕ
seconds_text count first last =
    if count == 1 then codes "1 second, " ++ moment_text first
    else decimal count ++ (codes " seconds, " ++ (moment_text first
    ++ (codes " to " ++ moment_text last)))
