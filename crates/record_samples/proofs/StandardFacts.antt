-- What rows say, at known values.
use Rattle.std.proofs.Common.{◌≡◌, ℕ, false, Option, Result, List, [], ◌∷◌, ◌++◌, Ok, Err, Some, None, refl}
use Rattle.std.specs.Prelude.{codes}
use Rattle.record_comtrade.specs.declared.clock.Reason.{Reason}
use Rattle.record_comtrade.specs.declared.clock.Reason.TheVariants.{Last, NoTime, Row}
use Rattle.record_comtrade.specs.declared.clock.RowField.{RowField}
use Rattle.record_comtrade.specs.declared.clock.RowField.TheVariants.{Number, Time, Few, Level, Value}
use Rattle.record_comtrade.specs.Samples.{Plan, Said}
use Rattle.record_comtrade.specs.Samples.Said.{Change, Ends, Refused}
use Rattle.record_cells.specs.declared.volts.Threshold.{Threshold}
use Rattle.record_cells.specs.Volts.{threshold_of}
use Rattle.record_comtrade.specs.declared.fault.Fault.{Fault}
use Rattle.record_comtrade.specs.declared.fault.Field.TheVariants.{Factor}
use Rattle.record_comtrade.specs.Configs.{ConfigValue, config_of}
use Rattle.record_comtrade.specs.Texts.{config_lines}
use Rattle.record_samples.specs.declared.lines.Lines.{Lines}
use Rattle.record_samples.specs.declared.lines.LineFault.{LineFault}
use Rattle.record_samples.specs.declared.lines.LineFault.TheVariants.{NoThreshold, Config}
use Rattle.record_text.specs.Lines.{Line}
use Rattle.record_samples.specs.Lines.{level_of, lines_of}
use Rattle.record_samples.specs.Rows.{fields_in, number_by, row_of, rows_from, time_by}
use Rattle.record_samples.specs.Records.{Chosen, record_of, samples_say}
use Rattle.record_samples.specs.Records.Chosen.{OfDigitals, OfLines}

-- ---- a row: the example of IEEE C37.111-1999 has six analog channels and six digital ones

abbrev plan : (chosen : List ℕ) → Plan
plan chosen = record { rates = []; clock = record { multiple = 1000000; is_fine = false }; offset = 8; chosen = chosen }

abbrev example : List ℕ
example = codes "5, 667, -760, 1274, 72, 61, -140, -502,0,0,0,0,1,1"

pub known_row : (row_of (plan (4 ∷ 5 ∷ 0 ∷ [])) 14 1 None example ≡ Ok (record { mark = record { number = 5; time = 667 }; high = 3 }))
    × (row_of (plan (3 ∷ 4 ∷ [])) 14 1 None example ≡ Ok (record { mark = record { number = 5; time = 667 }; high = 2 }))
    × (row_of (plan []) 15 1 None example ≡ Err Few) × (fields_in example ≡ 14)
known_row = (refl, refl, refl, refl)

pub known_fields : (number_by 7 (codes "4294967295") ≡ Some 4294967295) × (number_by 7 (codes "4294967296") ≡ None) × (number_by 7 [] ≡ Some 7)
    × (number_by 4294967296 [] ≡ None) × (time_by (codes "4294967294") ≡ Some 4294967294) × (time_by (codes "4294967295") ≡ None)
    × (time_by [] ≡ Some 4294967295) × (time_by (codes "1.5") ≡ None) × (time_by (codes "-1") ≡ None)
    × (level_of (codes "0") ≡ Some 0) × (level_of (codes "1") ≡ Some 1) × (level_of (codes "2") ≡ None) × (level_of (codes "01") ≡ None) × (level_of [] ≡ None)
known_fields = (refl, refl, refl, refl, refl, refl, refl, refl, refl, refl, refl, refl, refl, refl)

-- ---- lines: ends of four kinds, an empty line, and one that the text ends

abbrev line : (number : ℕ) → (text : List ℕ) → Line
line number text = record { text = text; number = number }

pub known_lines : rows_from false 1 [] (codes "a" ++ 13 ∷ 10 ∷ codes "b" ++ 13 ∷ codes "c" ++ 10 ∷ 10 ∷ codes "d" ++ 26 ∷ codes "e")
    ≡ line 1 (codes "a") ∷ line 2 (codes "b") ∷ line 3 (codes "c") ∷ line 4 [] ∷ line 5 (codes "d") ∷ line 6 (codes "e") ∷ []
known_lines = refl

-- ---- a record

abbrev ended : (text : List ℕ) → List ℕ
ended text = text ++ 13 ∷ 10 ∷ []

-- one analog channel and two digital ones, with a factor, at a rate, stored in a form
abbrev config_as : (factor rate form : List ℕ) → List ℕ
config_as factor rate form = ended (codes "Station,1,1999") ++ ended (codes "3,1A,2D") ++ ended (codes "1,U,A,,V," ++ factor ++ codes ",0,0,-9,9,1,1,P")
    ++ ended (codes "1,clock,,,0") ++ ended (codes "2,relay,,,0") ++ ended (codes "50") ++ ended (codes "1") ++ ended rate
    ++ ended (codes "24/11/2026,09:30:00.25") ++ ended (codes "24/11/2026,09:30:00.25") ++ ended form

-- stored as text
abbrev config_text : (rate : List ℕ) → List ℕ
config_text rate = config_as (codes "0.1") rate (codes "ascii")

abbrev levels : (time high : ℕ) → Said
levels time high = Change (record { time_ns = time; high = high })

abbrev refused : (sample : ℕ) → Reason → Said
refused sample reason = Refused (record { sample = sample; reason = reason })

abbrev row : (line : ℕ) → RowField → Reason
row line field = Row (record { line = line; field = field })

-- the first channel is high, the first still, and then the second
abbrev three : List ℕ
three = ended (codes "1,0,7,1,0") ++ ended (codes " 2 , 208 , 99999 , 1 , 0 ") ++ ended (codes "3,416,,0,1")

pub known_record : record_of (OfDigitals (0 ∷ 1 ∷ [])) (config_text (codes "4800,3")) three ≡ Ok (levels 0 1 ∷ levels 416666 2 ∷ Ends 416666 ∷ [])
known_record = refl

-- by the samples' own times; with an empty line, and a 1A in place of the last end; and with neither
pub known_ends : (record_of (OfDigitals (1 ∷ [])) (config_text (codes "0,3")) three ≡ Ok (levels 0 0 ∷ levels 416000 1 ∷ Ends 416000 ∷ []))
    × (record_of (OfDigitals (1 ∷ [])) (config_text (codes "0,2")) (ended (codes "1,10,7,1,0") ++ ended (codes " ") ++ codes "2,13,7,1,1" ++ 26 ∷ []) ≡ Ok (levels 0 0 ∷ levels 3000 1 ∷ Ends 3000 ∷ []))
    × (record_of (OfDigitals (1 ∷ [])) (config_text (codes "0,2")) (ended (codes "1,10,7,1,0") ++ codes "2,13,7,1,1") ≡ Ok (levels 0 0 ∷ levels 3000 1 ∷ Ends 3000 ∷ []))
known_ends = (refl, refl, refl)

-- numbers that are missing are those of the samples, of which the third is missing; and a time that is missing
pub known_missing : (record_of (OfDigitals (1 ∷ [])) (config_text (codes "1000,3")) (ended (codes ",,7,1,0") ++ ended [] ++ ended (codes ",,7,1,1")) ≡ Ok (levels 0 0 ∷ levels 1000000 1 ∷ refused 2 Last ∷ []))
    × (record_of (OfDigitals (1 ∷ [])) (config_text (codes "0,2")) (ended (codes "1,5,7,1,0") ++ ended (codes "2,,7,1,1")) ≡ Ok (levels 0 0 ∷ refused 2 NoTime ∷ []))
known_missing = (refl, refl)

-- ---- refusals, on line 3 of sample 2

abbrev after_one : (row : List ℕ) → List ℕ
after_one row = ended (codes "1,0,7,0,1") ++ ended [] ++ ended row

pub known_faults : (record_of (OfDigitals (1 ∷ [])) (config_text (codes "0,1")) (after_one (codes "x,208,7,0,1")) ≡ Ok (levels 0 1 ∷ refused 2 (row 3 Number) ∷ []))
    × (record_of (OfDigitals (1 ∷ [])) (config_text (codes "0,1")) (after_one (codes "2,208.5,7,0,1")) ≡ Ok (levels 0 1 ∷ refused 2 (row 3 Time) ∷ []))
    × (record_of (OfDigitals (1 ∷ [])) (config_text (codes "0,1")) (after_one (codes "2,208,7,1")) ≡ Ok (levels 0 1 ∷ refused 2 (row 3 Few) ∷ []))
    × (record_of (OfDigitals (1 ∷ [])) (config_text (codes "0,1")) (after_one (codes "2,208,7,2,1")) ≡ Ok (levels 0 1 ∷ Ends 208000 ∷ []))
    × (record_of (OfDigitals (1 ∷ [])) (config_text (codes "0,1")) (after_one (codes "2,208,7,0,2")) ≡ Ok (levels 0 1 ∷ refused 2 (row 3 (Level 1)) ∷ []))
known_faults = (refl, refl, refl, refl, refl)

-- ---- analog channels, of a threshold of 2.5 V

-- what is said of the analog channel and the second digital one, or why they are no lines
abbrev lines_say : (samples : List ℕ) → ConfigValue → Result Lines LineFault → Result (List Said) LineFault
lines_say samples config (Ok lines) = Ok (samples_say (OfLines lines) samples config)
lines_say samples config (Err fault) = Err fault

abbrev config_says : Option Threshold → (samples : List ℕ) → Result ConfigValue Fault → Result (List Said) LineFault
config_says threshold samples (Ok config) = lines_say samples config (lines_of config threshold (2 ∷ 1 ∷ []))
config_says threshold samples (Err fault) = Err (Config fault)

abbrev said_on : (configuration samples : List ℕ) → Result (List Said) LineFault
said_on configuration samples = config_says (threshold_of (codes "2.5")) samples (config_of (config_lines configuration))

-- 25 is 2.5 V: 24 is within a tenth of the 75 that 100 is off it, and 10 is not; then one is missing
pub known_rows : said_on (config_text (codes "4800,5"))
    (ended (codes "1,0,0,1,0") ++ ended (codes "2,208,100,1,0") ++ ended (codes "3,416,24,0,1") ++ ended (codes "4,625,10,0,1") ++ ended (codes "5,833,99999,0,0"))
    ≡ Ok (levels 0 0 ∷ levels 208333 1 ∷ levels 416666 3 ∷ levels 625000 2 ∷ levels 833333 0 ∷ Ends 833333 ∷ [])
known_rows = refl

-- by a factor below 0, -100 is 10 V; then one is missing, and then it is 0
pub known_numbers : said_on (config_as (codes "-1E-1") (codes "4800,4") (codes "BINARY"))
    (1 ∷ 0 ∷ 0 ∷ 0 ∷ 0 ∷ 0 ∷ 0 ∷ 0 ∷ 0 ∷ 0 ∷ 0 ∷ 0 ∷ 2 ∷ 0 ∷ 0 ∷ 0 ∷ 0 ∷ 0 ∷ 0 ∷ 0 ∷ 156 ∷ 255 ∷ 2 ∷ 0
    ∷ 3 ∷ 0 ∷ 0 ∷ 0 ∷ 0 ∷ 0 ∷ 0 ∷ 0 ∷ 0 ∷ 128 ∷ 0 ∷ 0 ∷ 4 ∷ 0 ∷ 0 ∷ 0 ∷ 0 ∷ 0 ∷ 0 ∷ 0 ∷ 0 ∷ 0 ∷ 0 ∷ 0 ∷ [])
    ≡ Ok (levels 0 0 ∷ levels 208333 3 ∷ levels 416666 1 ∷ levels 625000 0 ∷ Ends 625000 ∷ [])
known_numbers = refl

-- a row whose analog channel is no number, a channel without a threshold, and one whose factor is 0
pub known_refusals : (said_on (config_text (codes "4800,1")) (ended (codes "1,0,x,1,0")) ≡ Ok (refused 1 (row 1 (Value 0)) ∷ []))
    × (config_says None [] (config_of (config_lines (config_text (codes "4800,1")))) ≡ Err (NoThreshold 0))
    × (said_on (config_as (codes "0") (codes "4800,1") (codes "ascii")) [] ≡ Err (Config (record { line = 3; field = Factor })))
known_refusals = (refl, refl, refl)
