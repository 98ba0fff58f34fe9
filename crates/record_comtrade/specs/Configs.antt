-- What a configuration says, line by line.
-- Source: IEEE C37.111-1991, -1999 and -2013, 5.3 (the configuration file): line 1 has the station, the device and
-- the edition (none in 1991), line 2 the numbers of channels; then a line for each channel, analog ones first; the
-- line frequency; the number of rates, and a line for each; the stamps of the first sample and of the trigger; how
-- samples are stored; since 1999 the multiple of times, and since 2013 two lines of codes.
-- That a number of 0 rates may have a line or none, and which numbers are too large, is this project's profile.
use Rattle.std.specs.Prelude.{ℕ, zero, suc, ◌+◌, Bool, true, false, ◌||◌, if◌then◌else◌, List, [], ◌∷◌, ◌++◌, length, take, drop, codes, slice_get, slice_index_or, Option, Some, None, Result, Ok, Err, nat_eq, nat_le}
use Rattle.std.specs.Str.{str_eq_ignore_ascii_case}
use Rattle.record_text.specs.Numbers.{is_digit, number}
use Rattle.record_text.specs.Decimals.{millionths}
use Rattle.record_text.specs.Fields.{field}
use Rattle.record_comtrade.specs.declared.fault.Fault.{Fault}
use Rattle.record_comtrade.specs.declared.fault.Field.{Field}
use Rattle.record_comtrade.specs.declared.fault.Field.TheVariants.{Line, Edition, AnalogCount, DigitalCount, RateCount, Rate, LastSample, Samples, Multiple, Missing}
use Rattle.record_comtrade.specs.declared.parts.Counts.{Counts}
use Rattle.record_comtrade.specs.declared.parts.Rate.{Rate as RateOf}
use Rattle.record_comtrade.specs.declared.parts.Form.{Form}
use Rattle.record_comtrade.specs.declared.parts.Form.TheVariants.{Ascii, Binary, Binary32, Float32}
use Rattle.record_comtrade.specs.declared.parts.Tail.{Tail}

-- ---- what is refused

-- a fault of the line at a place, from 0
abbrev pub fault_at : (place : ℕ) → Field → Fault
fault_at place field = record { line = place + 1; field = field }

-- what is said, and what is read after it, or the first fault
abbrev pub with_ok : {A B F : Type 0} → Result A F → (A → Result B F) → Result B F
with_ok (Ok a) next = next a
with_ok (Err fault) next = Err fault

-- what a field has to say
abbrev pub needed : {A : Type 0} → Option A → (place : ℕ) → Field → Result A Fault
needed (Some a) place field = Ok a
needed None place field = Err (fault_at place field)

-- the line at a place; the text may end before it
abbrev pub line_at : (lines : List (List ℕ)) → (place : ℕ) → Result (List ℕ) Fault
line_at lines place = needed (slice_get lines place) (length lines) Missing

-- ---- the first two lines

-- a number, if there is one that is no more than the most
abbrev pub at_most : (most : ℕ) → Option ℕ → Option ℕ
at_most most None = None
at_most most (Some n) = if nat_le n most then Some n else None

-- the year of the edition; 1991 had no field for it
abbrev pub edition_of : (text : List ℕ) → Option ℕ
edition_of [] = Some 1991
edition_of (b ∷ bs) = at_most 9999 (number (b ∷ bs))

-- how many digits a text begins with
abbrev pub digits_in : List ℕ → ℕ
digits_in [] = 0
digits_in (b ∷ bs) = if is_digit b then digits_in bs + 1 else 0

-- the letter A or D, or none
abbrev pub is_letter : (text : List ℕ) → Bool
is_letter [] = true
is_letter (b ∷ []) = nat_eq b 65 || nat_eq b 97 || nat_eq b 68 || nat_eq b 100
is_letter (b ∷ c ∷ rest) = false

-- a number of channels, as 4A or 2D, up to 999,999
abbrev pub count_of : (text : List ℕ) → Option ℕ
count_of text =
    if is_letter (drop (digits_in text) text) then at_most 999999 (number (take (digits_in text) text)) else None

-- the edition and the numbers of channels
abbrev pub counts_of : (lines : List (List ℕ)) → Result Counts Fault
counts_of lines =
    with_ok (line_at lines 0) (λ station.
    with_ok (needed (edition_of (field 2 station)) 0 Edition) (λ edition.
    with_ok (line_at lines 1) (λ channels.
    with_ok (needed (count_of (field 1 channels)) 1 AnalogCount) (λ analogs.
    with_ok (needed (count_of (field 2 channels)) 1 DigitalCount) (λ digitals.
    Ok (record { edition = edition; analogs = analogs; digitals = digitals }))))))

-- ---- rates

-- a text has a slash, as a date has
abbrev pub has_slash : (text : List ℕ) → Bool
has_slash [] = false
has_slash (b ∷ bs) = nat_eq b 47 || has_slash bs

-- how many lines of rates follow, if their number is so many: of 0 one, if it does not begin with a date
abbrev pub rate_lines_by : (count : ℕ) → (line : List ℕ) → ℕ
rate_lines_by zero line = if has_slash (field 0 line) then 0 else 1
rate_lines_by (suc n) line = suc n

-- how many lines of rates follow the line at a place, which has their number, up to 999
abbrev pub rate_lines : (lines : List (List ℕ)) → (place : ℕ) → Result ℕ Fault
rate_lines lines place =
    with_ok (line_at lines place) (λ line.
    with_ok (needed (at_most 999 (number (field 0 line))) place RateCount) (λ count.
    with_ok (line_at lines (place + 1)) (λ next.
    Ok (rate_lines_by count next))))

-- a number, if there is one that is no less than the least
abbrev pub at_least : (least : ℕ) → Option ℕ → Option ℕ
at_least least None = None
at_least least (Some n) = if nat_le least n then Some n else None

-- the number of a sample, of up to ten digits, that is not below the least
abbrev pub sample_of : (least : ℕ) → (text : List ℕ) → Option ℕ
sample_of least text = at_least least (at_most 9999999999 (number text))

-- the rate of the line at a place, whose last sample is not below the least
abbrev pub rate_at : (lines : List (List ℕ)) → (place least : ℕ) → Result RateOf Fault
rate_at lines place least =
    with_ok (line_at lines place) (λ line.
    with_ok (needed (millionths (field 0 line)) place Rate) (λ rate.
    with_ok (needed (sample_of least (field 1 line)) place LastSample) (λ last.
    Ok (record { last = last; millionths = rate }))))

-- so many rates from the line at a place on, after those so far: each is for samples after the last one of the
-- rate before
abbrev pub rates_from : (lines : List (List ℕ)) → (place least : ℕ) → (rates : List RateOf) → (count : ℕ)
    → Result (List RateOf) Fault
rates_from lines place least rates zero = Ok rates
rates_from lines place least rates (suc n) =
    with_ok (rate_at lines place least) (λ rate. rates_from lines (place + 1) (rate.last + 1) (rates ++ rate ∷ []) n)

-- ---- what stands below them

-- how samples are stored, in letters of either case
abbrev pub form_of : (text : List ℕ) → Option Form
form_of text =
    if str_eq_ignore_ascii_case text (codes "ASCII") then Some Ascii
    else (if str_eq_ignore_ascii_case text (codes "BINARY") then Some Binary
    else (if str_eq_ignore_ascii_case text (codes "BINARY32") then Some Binary32
    else (if str_eq_ignore_ascii_case text (codes "FLOAT32") then Some Float32 else None)))

-- the multiple of times, in millionths; 1 if there is none
abbrev pub multiple_of : (text : List ℕ) → Option ℕ
multiple_of [] = Some 1000000
multiple_of (b ∷ bs) = millionths (b ∷ bs)

-- the line at a place, or an empty one
abbrev pub text_at : (lines : List (List ℕ)) → (place : ℕ) → List ℕ
text_at lines place = slice_index_or lines place []

-- the form and the multiple, if the first stamp has the line at that place
abbrev pub tail_of : (lines : List (List ℕ)) → (place : ℕ) → Result Tail Fault
tail_of lines place =
    with_ok (line_at lines (place + 2)) (λ line.
    with_ok (needed (form_of (field 0 line)) (place + 2) Samples) (λ form.
    with_ok (needed (multiple_of (field 0 (text_at lines (place + 3)))) (place + 3) Multiple) (λ multiple.
    Ok (record { form = form; multiple = multiple }))))

-- ---- the whole

-- the place of the first line that is too long, of 1,021 bytes or more, counted from n: 1,024 are kept, and the
-- mark may have been three of them
abbrev pub long_from : (n : ℕ) → (lines : List (List ℕ)) → Option ℕ
long_from n [] = None
long_from n (line ∷ lines) = if nat_le 1021 (length line) then Some n else long_from (n + 1) lines

-- what a configuration says, and the place of the line of its first stamp
pub record ConfigValue : Type 0 where
  pub lines : List (List ℕ)
  pub counts : Counts
  pub rates : List RateOf
  pub stamps : ℕ
  pub tail : Tail

-- the place of the line that has the number of rates
abbrev pub rates_place : Counts → ℕ
rates_place counts = 3 + (counts.analogs + counts.digitals)

-- with rates of so many lines
abbrev pub config_by : (lines : List (List ℕ)) → Counts → (count : ℕ) → Result ConfigValue Fault
config_by lines counts count =
    with_ok (rates_from lines (rates_place counts + 1) 0 [] count) (λ rates.
    with_ok (tail_of lines (rates_place counts + 1 + count)) (λ tail.
    Ok (record { lines = lines; counts = counts; rates = rates; stamps = rates_place counts + 1 + count; tail = tail })))

-- what lines say, unless one is too long: the counts, then the rates, then the rest
abbrev pub config_unless : (long : Option ℕ) → (lines : List (List ℕ)) → Result ConfigValue Fault
config_unless (Some place) lines = Err (fault_at place Line)
config_unless None lines =
    with_ok (counts_of lines) (λ counts.
    with_ok (rate_lines lines (rates_place counts)) (λ count.
    config_by lines counts count))

-- what the lines of a configuration say, or its first fault: a line that is too long is refused before others
abbrev pub config_of : (lines : List (List ℕ)) → Result ConfigValue Fault
config_of lines = config_unless (long_from 0 lines) lines
