-- The text of what was seen on a line.
-- Source: this project's profile, docs/CAPTURE.md.
use Rattle.std.specs.Prelude.{ℕ, ◌+◌, ◌-◌, ◌*◌, ◌/◌, ◌%◌, ◌^◌, ◌==◌, ◌&&◌, Bool, true, false, not, min, nat_lt, nat_le, if◌then◌else◌, List, [], ◌∷◌, ◌++◌, codes, slice_get, Option, Some, None}
use Rattle.std.specs.Fmt.{decimal}
use Rattle.std.specs.List.{flat_map}
use Rattle.record_pulses.specs.declared.oddity.Oddity.{Oddity}
use Rattle.record_pulses.specs.declared.oddity.Oddity.TheVariants as odd
use Rattle.record_pulses.specs.declared.seen.Seen.{Seen}
use Rattle.record_pulses.specs.declared.seen.Widths.{Widths}
use Rattle.record_pulses.specs.declared.spread.Spread.{Spread}
use Rattle.record_pulses.specs.Oddities.{oddity_of}
use Rattle.record_pulses.specs.Spreads.{counted}
use Rattle.report_verdict.specs.declared.line_seen.LineSeen.{LineSeen}
use Rattle.report_verdict.specs.NumberText.{thousandths_text}

-- ---- names

-- ASCII from the blank (32) to the tilde (126), but for the backslash (92)
abbrev pub is_plain : ℕ → Bool
is_plain b = nat_le 32 b && nat_lt b 127 && not (b == 92)

-- a hexadecimal digit: 0 to 9 (48 ..), a to f (97 ..)
abbrev pub hex_digit : ℕ → ℕ
hex_digit n = if nat_lt n 10 then 48 + n else 87 + n

-- \x and the two hexadecimal digits of a byte
abbrev pub code_text : ℕ → List ℕ
code_text b = codes "\\x" ++ (hex_digit (b / 16) ∷ (hex_digit (b % 16) ∷ []))

-- a byte: itself, or that
abbrev pub byte_text : ℕ → List ℕ
byte_text b = if is_plain b then b ∷ [] else code_text b

-- a name of any bytes
abbrev pub name_text : List ℕ → List ℕ
name_text name = flat_map byte_text name

-- the name of a line, if it is known
abbrev pub known_name : ℕ → Option LineSeen → List ℕ
known_name line None = codes "line " ++ decimal line
known_name line (Some seen) = name_text seen.name.now

-- the name of a line, by its number
abbrev pub line_name : List LineSeen → ℕ → List ℕ
line_name lines line = known_name line (slice_get lines line)

-- ---- counts and times

-- the end of the line
abbrev pub inverted_text : Bool → List ℕ
inverted_text true = codes ", inverted\n"
inverted_text false = codes "\n"

-- how many pulses there are
unfoldable pub count_line : LineSeen → List ℕ
count_line l =
    name_text l.name.now ++ (codes ": " ++ (decimal l.seen.now.counts.pulses
    ++ (codes " pulses, " ++ (decimal l.seen.now.counts.frames
    ++ (codes " frames, " ++ (decimal l.seen.now.counts.out_of_step
    ++ (codes " out of step" ++ inverted_text l.is_inverted)))))))

-- the mean to the nearest microsecond; of no times 0
abbrev pub mean_us : Spread → ℕ
mean_us s = if s.count == 0 then 0 else counted (s.sum_us + s.count / 2) / s.count

-- the least, the most and the mean of some times, in milliseconds
unfoldable pub times_text : Spread → List ℕ
times_text s =
    thousandths_text s.least_us ++ (codes " to " ++ (thousandths_text s.most_us
    ++ (codes " ms, mean " ++ thousandths_text (mean_us s))))

-- how many times there are, and these, if there are any
unfoldable pub spread_line : List ℕ → Spread → List ℕ
spread_line label s =
    if s.count == 0 then []
    else codes "    " ++ (label ++ (decimal s.count ++ (codes "  " ++ (times_text s ++ codes "\n"))))

-- how wide its pulses are, by their symbols
unfoldable pub widths_text : Widths → List ℕ
widths_text w =
    spread_line (codes "0   ") w.zero ++ (spread_line (codes "1   ") w.one
    ++ (spread_line (codes "P   ") w.marker ++ spread_line (codes "?   ") w.bad))

-- ---- how long its second is

-- how far apart two numbers are
abbrev pub apart : ℕ → ℕ → ℕ
apart a b = (a - b) + (b - a)

-- how far so many seconds that are so long are off, in tenths of a part in a million
abbrev pub tenths_ppm : (sum count : ℕ) → ℕ
tenths_ppm sum count =
    min ((10 * apart sum (count * 1000000) + count / 2) / count) (2 ^ 64 - 1)

-- which way
abbrev pub drift_word : Bool → List ℕ
drift_word true = codes "shorter"
drift_word false = codes "longer"

-- whether so many seconds are shorter than those of the recorder
abbrev pub is_shorter : (sum count : ℕ) → Bool
is_shorter sum count = nat_lt 0 (tenths_ppm sum count) && nat_lt sum (count * 1000000)

-- so many tenths, and which way
unfoldable pub tenths_line : ℕ → List ℕ → List ℕ
tenths_line tenths word =
    codes "    a second is " ++ (decimal (tenths / 10) ++ (codes "." ++ (decimal (tenths % 10)
    ++ (codes " ppm " ++ (word ++ codes " than one of the recorder\n")))))

-- of so many seconds that are together so long
abbrev pub drift_line : (sum count : ℕ) → List ℕ
drift_line sum count =
    if count == 0 then []
    else tenths_line (tenths_ppm sum count) (drift_word (is_shorter sum count))

-- from frame to frame, or where no frame follows another by the pulses in step
abbrev pub drift_text : Seen → List ℕ
drift_text s =
    if s.counts.frames == 0 then []
    else (if s.seconds.count == 0
    then drift_line (100 * s.gaps_in_step.sum_us) s.gaps_in_step.count
    else drift_line s.seconds.sum_us s.seconds.count)

-- ---- what is odd

-- what it looks like
abbrev pub oddity_words : Oddity → List ℕ
oddity_words odd.Silent = codes "nothing is on it"
oddity_words odd.Single = codes "one pulse alone is on it"
oddity_words odd.Filtered = codes "no pulse of 2 ms is on it: a filter of its input, of milliseconds, takes them away"
oddity_words odd.Uneven = codes "its pulses are not 10 ms apart: another code, or a modulated one"
oddity_words odd.NeverBegins = codes "no frame begins: never do two markers follow each other"
oddity_words odd.NeverWhole = codes "frames begin, and none has a hundred pulses, each 10 ms after the one before"
oddity_words odd.Bare = codes "its year and control bits are all 0, as of a clock without those of IEEE 1344"

-- words in a line of their own, below a line's first
unfoldable pub label_text : List ℕ → List ℕ
label_text words = codes "    " ++ (words ++ codes "\n")

-- if something is odd
abbrev pub oddity_line : Option Oddity → List ℕ
oddity_line None = []
oddity_line (Some oddity) = label_text (oddity_words oddity)

-- what was seen on a line
abbrev pub line_text : LineSeen → List ℕ
line_text l =
    count_line l ++ (widths_text l.seen.now.widths
    ++ (spread_line (codes "gap ") l.seen.now.gaps_in_step ++ (drift_text l.seen.now
    ++ oddity_line (oddity_of l.seen.now))))
