-- What tables say, at known values.
use Rattle.std.proofs.Common.{◌≡◌, ℕ, ap, arith, List, [], ◌∷◌, ◌++◌, Option, Some, None, refl}
use Rattle.std.specs.Prelude.{codes, Ok, Err}
use Rattle.std.proofs.lemmas.Fmt.{decimal_digit}
use Rattle.record_levels.specs.declared.limits.TimeFault.TheVariants.{Beyond, Back, Gap}
use Rattle.record_text.specs.Lines.{lines_of}
use Rattle.record_table.specs.declared.clock.Clock.TheVariants.{Times}
use Rattle.record_table.specs.declared.head.Stage.TheVariants.{Above, Below}
use Rattle.record_table.specs.declared.row.Reason.{Reason}
use Rattle.record_table.specs.declared.row.Reason.TheVariants.{BadTime, Columns, Level, NoRow, NoStep, Time}
use Rattle.record_table.specs.declared.title.HeadReason.TheVariants.{NoChannel, NoTimes}
use Rattle.record_table.specs.declared.title.HeadReason.TheVariants.{Rate as NoRate}
use Rattle.record_table.specs.declared.title.HeadReason.TheVariants.{Unit as NoUnit}
use Rattle.record_cells.specs.declared.unit.Unit.TheVariants.{Second, Millisecond, Microsecond, Picosecond}
use Rattle.record_table.specs.declared.when.When.TheVariants.{After, Before}
use Rattle.record_table.specs.Titles.{numbered}
use Rattle.record_table.specs.Whens.{row_ns, when_of}
use Rattle.record_cells.specs.Volts.{threshold_of}
use Rattle.record_table.specs.Heads.{head_from, refused, top}
use Rattle.record_table.specs.Changes.{Said}
use Rattle.record_table.specs.Changes.Said.{Change, Refused, Ends}
use Rattle.record_table.specs.Tables.{table_of}

-- a line and its end
abbrev line : (text : List ℕ) → List ℕ
line text = text ++ 10 ∷ []

-- "1" in quotes
abbrev quoted_one : List ℕ
quoted_one = 34 ∷ codes "1" ++ 34 ∷ []

-- ---- times

-- 12.3456 us, of which a part of a nanosecond is left out; before the trigger; with an exponent
pub known_times : (when_of Second (codes "0.0000123456") ≡ Ok (After 12345)) × (when_of Second (codes "-0.000012") ≡ Ok (Before 12000))
    × (when_of Second (codes "1.5e-05") ≡ Ok (After 15000)) × (when_of Second (codes "+2.5E3") ≡ Ok (After 2500000000000))
    × (when_of Millisecond (codes ".25") ≡ Ok (After 250000)) × (when_of Picosecond (codes "2999") ≡ Ok (After 2))
    × (when_of Second (codes "3599999.999999999") ≡ Ok (After 3599999999999999))
known_times = (refl, refl, refl, refl, refl, refl, refl)

pub known_no_times : (when_of Second (codes "3600000") ≡ Err (Time Beyond)) × (when_of Second (codes "-3.6e6") ≡ Err (Time Beyond)) × (when_of Second (codes "1e99") ≡ Err (Time Beyond))
    × (when_of Second (codes "1e100") ≡ Err BadTime) × (when_of Second (codes "1,5") ≡ Err BadTime) × (when_of Second (codes "1.2.3") ≡ Err BadTime) × (when_of Second (codes "--1") ≡ Err BadTime)
    × (when_of Second (codes ".") ≡ Err BadTime) × (when_of Second (codes "1e") ≡ Err BadTime) × (when_of Second [] ≡ Err BadTime)
    × (when_of Second (codes "18446744073709551616") ≡ Err BadTime)
known_no_times = (refl, refl, refl, refl, refl, refl, refl, refl, refl, refl, refl)

-- at 3 kHz the samples are a third of a millisecond apart
pub known_samples : (row_ns 1 3000000000 ≡ Some 333333) × (row_ns 3 3000000000 ≡ Some 1000000) × (row_ns 3600 1000000 ≡ Some 3600000000000) × (row_ns 3600000 1000000 ≡ None)
known_samples = (refl, refl, refl, refl)

-- ---- a table

abbrev levels : (time high : ℕ) → Said
levels time high = Change (record { time_ns = time; high = high })

abbrev denied : (number : ℕ) → Reason → Said
denied number reason = Refused (record { line = number; reason = reason })

-- remarks above, a mark, an empty line, quotes and blanks
abbrev head_text : List ℕ
head_text = 239 ∷ 187 ∷ 191 ∷ line (codes "; made by hand") ++ line [] ++ line (codes "META nothing") ++ line (codes "Time [us] , " ++ 34 ∷ codes "port 0" ++ 34 ∷ codes ",port 1,spare")

pub known_head : ((head_from top (lines_of head_text)).head.names ≡ codes "port 0" ∷ codes "port 1" ∷ codes "spare" ∷ [])
    × ((head_from top (lines_of head_text)).head.stage ≡ Below (Times Microsecond)) × ((head_from top (lines_of head_text)).head.above ≡ 4)
known_head = (refl, refl, refl)

-- the second row says the same as the first; two rows are at 2.5 us, of which the last counts; the last line has no
-- end. What is not chosen may be no level
abbrev table_text : List ℕ
table_text = head_text ++ line (codes "1,1,0,x") ++ line (codes "1.5,1,0,") ++ line (codes "# 9,0,0,0") ++ line (codes "2.5," ++ quoted_one ++ codes ", 1 ,0")
    ++ line (codes "2.5,0,1,0") ++ line (codes "4,0,1,0") ++ codes "5,1,1,0"

pub known_table : table_of None (0 ∷ 1 ∷ []) table_text ≡ Some (levels 1000 1 ∷ levels 2500 2 ∷ levels 5000 3 ∷ Ends 5000 ∷ [])
known_table = refl

-- the other channel is the first of two
pub known_choice : table_of None (1 ∷ 0 ∷ []) table_text ≡ Some (levels 1000 2 ∷ levels 2500 1 ∷ levels 5000 3 ∷ Ends 5000 ∷ [])
known_choice = refl

-- the first row is 12 us before the trigger: times are counted from there
pub known_before : table_of None (0 ∷ []) (line (codes "Time,a") ++ line (codes "-0.000012,0") ++ line (codes "0,1") ++ line (codes "0.5,1"))
    ≡ Some (levels 0 0 ∷ levels 12000 1 ∷ Ends 500012000 ∷ [])
known_before = refl

-- a row a sample, at 1 kHz
pub known_rows : table_of None (0 ∷ 1 ∷ []) (line (codes "; Samplerate: 1 kHz") ++ line (codes "a,b") ++ line (codes "0,1") ++ line (codes "0,1") ++ line (codes "1,1") ++ line (codes "1,1"))
    ≡ Some (levels 0 2 ∷ levels 2000000 3 ∷ Ends 3000000 ∷ [])
known_rows = refl

pub known_number : numbered 7 ≡ codes "D7"
known_number = ap (λ d. 68 ∷ d) (decimal_digit 7 (omega arith))

-- the names of two channels that sigrok calls logic stand in a remark, or are numbered
abbrev logic_text : (remark : List ℕ) → List ℕ
logic_text remark = line (codes "; Samplerate: 1 MHz") ++ line remark ++ line (codes "logic,logic")

abbrev names_in_text : (text : List ℕ) → List (List ℕ)
names_in_text text = (head_from top (lines_of text)).head.names

pub known_names : (names_in_text (logic_text (codes "; Channels (2/8): left, right (B)")) ≡ codes "left" ∷ codes "right (B)" ∷ [])
    × (names_in_text (logic_text (codes "; Channels (3/8): a, b, c")) ≡ numbered 0 ∷ numbered 1 ∷ [])
    × (names_in_text (logic_text [] ++ line (codes "0,1")) ≡ numbered 0 ∷ numbered 1 ∷ [])
    × (names_in_text (line (codes "# samplerate: 2 kHz") ++ line (codes "Time,")) ≡ numbered 0 ∷ [])
    × (names_in_text (line (codes "Time,logic,other")) ≡ codes "logic" ∷ codes "other" ∷ [])
known_names = (refl, refl, refl, refl, refl)

-- sigrok counts the whole time of one sample from 1 on: 333 ns for a sample of a third of a microsecond
pub known_steps : table_of None (0 ∷ []) (line (codes "; Samplerate: 3 MHz") ++ line (codes "Time,a") ++ line (codes "333,0") ++ line (codes "666,1") ++ line (codes "1332,0"))
    ≡ Some (levels 0 0 ∷ levels 333 1 ∷ levels 1000 0 ∷ Ends 1000 ∷ [])
known_steps = refl

-- ---- voltages

-- the threshold is 1.5 V
abbrev volts : (table : List ℕ) → Option (List Said)
volts table = table_of (threshold_of (codes "1.5")) (0 ∷ []) table

-- 3.5 V is 2 V off, so within 0.2 V of the threshold the level stays; -1 V is 2.5 V off
pub known_volts : volts (line (codes "Time (ms),A,B") ++ line (codes "0,3.5,x") ++ line (codes "1,1.4,") ++ line (codes "2,1.29,") ++ line (codes "3,1.7,") ++ line (codes "4,17.1e-1,") ++ line (codes "5,-1,") ++ line (codes "6,1.75,") ++ line (codes "7,1.751,"))
    ≡ Some (levels 0 1 ∷ levels 2000000 0 ∷ levels 4000000 1 ∷ levels 5000000 0 ∷ levels 7000000 1 ∷ Ends 7000000 ∷ [])
known_volts = refl

-- at the threshold a line is low at first
pub known_low : volts (line (codes "Time,A") ++ line (codes "0,1.5") ++ line (codes "1,1.500000001")) ≡ Some (levels 0 0 ∷ levels 1000000000 1 ∷ Ends 1000000000 ∷ [])
known_low = refl

pub known_no_volts : volts (line (codes "Time,A") ++ line (codes "0,high")) ≡ Some (denied 2 (Level 0) ∷ [])
known_no_volts = refl

-- ---- refusals

-- what was said before stays
pub known_back : table_of None (0 ∷ []) (head_text ++ line (codes "1,1,0,0") ++ line (codes "3,0,0,0") ++ line (codes "2.9,x,0,0") ++ line (codes "2.9,0,0,0"))
    ≡ Some (levels 1000 1 ∷ denied 7 (Level 0) ∷ [])
known_back = refl

pub known_refusals : (table_of None (0 ∷ []) (head_text ++ line (codes "3,0,0,0") ++ codes "2.9,0,0,0") ≡ Some (denied 6 (Time Back) ∷ []))
    × (table_of None (1 ∷ []) (head_text ++ codes "3,0,0") ≡ Some (denied 5 (Columns 2) ∷ []))
    × (table_of None (1 ∷ []) (head_text ++ codes "3,0,2,0") ≡ Some (denied 5 (Level 1) ∷ []))
    × (table_of None (1 ∷ []) (head_text ++ codes "3 us,0,0,0") ≡ Some (denied 5 BadTime ∷ []))
    × (table_of None (1 ∷ []) (head_text ++ codes "3600000000000,0,0,0") ≡ Some (denied 5 (Time Beyond) ∷ []))
    × (table_of None (1 ∷ []) (head_text ++ line (codes "0,0,0,0") ++ codes "86400000001,0,0,0") ≡ Some (denied 6 (Time Gap) ∷ []))
    × (table_of None (1 ∷ []) (head_text ++ line (codes "0,0,0,0") ++ codes "-1,0,0,0") ≡ Some (denied 6 (Time Back) ∷ []))
    × (table_of None (0 ∷ []) (line (codes "; samplerate: 1 GHz") ++ line (codes "Time,a") ++ codes "0,1") ≡ Some (denied 3 NoStep ∷ []))
    × (table_of None (0 ∷ []) (line (codes "; samplerate: 1 kHz") ++ line (codes "Time,a") ++ line (codes "10,1") ++ codes "9,1") ≡ Some (denied 4 (Time Back) ∷ []))
    × (table_of None (1 ∷ []) (head_text ++ line (codes "# no row")) ≡ Some (denied 4 NoRow ∷ []))
known_refusals = (refl, refl, refl, refl, refl, refl, refl, refl, refl, refl)

-- a table that ends above its names says nothing, nor one that is refused there
pub known_heads : ((head_from top (lines_of (line (codes "; nothing")))).head.stage ≡ Above)
    × ((head_from top (lines_of (line (codes "a,b")))).head.stage ≡ refused 1 NoTimes)
    × ((head_from top (lines_of (line (codes "Time")))).head.stage ≡ refused 1 NoChannel)
    × ((head_from top (lines_of (line (codes "Time (h),a")))).head.stage ≡ refused 1 NoUnit)
    × ((head_from top (lines_of (line [] ++ line (codes "# samplerate: x") ++ line (codes "Time (h),a")))).head.stage ≡ refused 2 NoRate)
    × (table_of None (0 ∷ []) (line (codes "a,b") ++ codes "0,0") ≡ None)
known_heads = (refl, refl, refl, refl, refl, refl)
