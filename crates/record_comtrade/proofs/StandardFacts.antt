-- What records say, at known values.
use Rattle.std.proofs.Common.{◌≡◌, ℕ, true, false, List, [], ◌∷◌, ◌++◌, Ok, Err, refl}
use Rattle.std.specs.Prelude.{codes}
use Rattle.record_levels.specs.declared.limits.TimeFault.TheVariants.{Back}
use Rattle.record_comtrade.specs.declared.fault.Field.TheVariants.{AnalogCount, LastSample, Missing}
use Rattle.record_comtrade.specs.declared.fault.Field.TheVariants.{Rate as BadRate}
use Rattle.record_comtrade.specs.declared.parts.Rate.{Rate}
use Rattle.record_comtrade.specs.declared.clock.Reason.TheVariants.{Last, NoTime, Time}
use Rattle.record_comtrade.specs.Configs.{fault_at}
use Rattle.record_comtrade.specs.Times.{time_by_own, time_by_rates}
use Rattle.record_comtrade.specs.Samples.{Said, bit_in}
use Rattle.record_comtrade.specs.Samples.Said.{Change, Ends, Refused}
use Rattle.record_comtrade.specs.Records.{record_of}

-- ---- times

abbrev rate : (last millionths : ℕ) → Rate
rate last millionths = record { last = last; millionths = millionths }

-- 1,000 samples a second up to sample 3, and 500 from there on: two steps of 1 ms, and two of 2 ms
pub known_rates : (time_by_rates (rate 3 1000000000 ∷ rate 4 500000000 ∷ []) 1 5 ≡ Ok 6000000) × (time_by_rates (rate 3 4800000000 ∷ []) 1 3 ≡ Ok 416666)
    × (time_by_rates (rate 3 4800000000 ∷ []) 0 4800 ≡ Ok 1000000000) × (time_by_rates (rate 3 4800000000 ∷ []) 2 1 ≡ Err (Time Back))
known_rates = (refl, refl, refl, refl)

-- a multiple of 0.5 of microseconds and of nanoseconds
pub known_own : (time_by_own (record { multiple = 500000; is_fine = false }) 10 13 ≡ Ok 1500) × (time_by_own (record { multiple = 500000; is_fine = true }) 10 13 ≡ Ok 1)
    × (time_by_own (record { multiple = 1000000; is_fine = false }) 0 4294967295 ≡ Err NoTime)
known_own = (refl, refl, refl)

-- ---- channels: the sixteenth is the highest bit of the first word, and the next one the lowest of the second

pub known_bits : (bit_in (0 ∷ 128 ∷ 1 ∷ 0 ∷ []) 14 ≡ 0) × (bit_in (0 ∷ 128 ∷ 1 ∷ 0 ∷ []) 15 ≡ 1) × (bit_in (0 ∷ 128 ∷ 1 ∷ 0 ∷ []) 16 ≡ 1) × (bit_in (4 ∷ 0 ∷ []) 2 ≡ 1)
known_bits = (refl, refl, refl, refl)

-- ---- a record

abbrev line : (text : List ℕ) → List ℕ
line text = text ++ 13 ∷ 10 ∷ []

-- one analog channel and two digital ones, at a rate, stored in that form
abbrev config_text : (counts rate form : List ℕ) → List ℕ
config_text counts rate form = 239 ∷ 187 ∷ 191 ∷ line (codes "Station,1,1999") ++ line counts ++ line (codes "1,U,A,,V,0.1,0,0,-9,9,1,1,P")
    ++ line (codes "1, clock ,,,0") ++ line (codes "2,relay,,,0") ++ line (codes "50") ++ line (codes "1") ++ line rate
    ++ line (codes "24/11/2026,09:30:00.25") ++ line (codes "24/11/2026,09:30:00.25") ++ line form

-- of two bytes an analog number: the first channel is high, the first still, and then the second
abbrev three : List ℕ
three = 1 ∷ 0 ∷ 0 ∷ 0 ∷ 0 ∷ 0 ∷ 0 ∷ 0 ∷ 7 ∷ 0 ∷ 1 ∷ 0 ∷ 2 ∷ 0 ∷ 0 ∷ 0 ∷ 208 ∷ 0 ∷ 0 ∷ 0 ∷ 9 ∷ 1 ∷ 1 ∷ 0 ∷ 3 ∷ 0 ∷ 0 ∷ 0 ∷ 160 ∷ 1 ∷ 0 ∷ 0 ∷ 7 ∷ 0 ∷ 2 ∷ 0 ∷ []

abbrev levels : (time high : ℕ) → Said
levels time high = Change (record { time_ns = time; high = high })

pub known_record : record_of (0 ∷ 1 ∷ []) (config_text (codes "3,1A,2D") (codes "4800,3") (codes "binary")) three ≡ Ok (levels 0 1 ∷ levels 416666 2 ∷ Ends 416666 ∷ [])
known_record = refl

-- by the samples' own times, in microseconds; and of four samples, of which one is missing
pub known_times : (record_of (1 ∷ []) (config_text (codes "3,1A,2D") (codes "0,3") (codes "BINARY")) three ≡ Ok (levels 0 0 ∷ levels 416000 1 ∷ Ends 416000 ∷ []))
    × (record_of (1 ∷ []) (config_text (codes "3,1A,2D") (codes "4800,4") (codes "BINARY")) three ≡ Ok (levels 0 0 ∷ levels 416666 1 ∷ Refused (record { sample = 3; reason = Last }) ∷ []))
known_times = (refl, refl)

-- of four bytes an analog number
pub known_wide : record_of (0 ∷ []) (config_text (codes "3,1A,2D") (codes "4800,1") (codes "FLOAT32")) (1 ∷ 0 ∷ 0 ∷ 0 ∷ 0 ∷ 0 ∷ 0 ∷ 0 ∷ 0 ∷ 0 ∷ 128 ∷ 63 ∷ 3 ∷ 0 ∷ []) ≡ Ok (levels 0 1 ∷ Ends 0 ∷ [])
known_wide = refl

-- ---- refusals of a configuration, on lines 2, 8 and 12

pub known_faults : (record_of [] (config_text (codes "3,A,2D") (codes "4800,3") (codes "BINARY")) [] ≡ Err (fault_at 1 AnalogCount))
    × (record_of [] (config_text (codes "3,1A,2D") (codes "1e3,3") (codes "BINARY")) [] ≡ Err (fault_at 7 BadRate))
    × (record_of [] (config_text (codes "3,1A,2D") (codes "4800,x") (codes "BINARY")) [] ≡ Err (fault_at 7 LastSample))
    × (record_of [] (line (codes "Station,1,1999")) [] ≡ Err (fault_at 1 Missing))
known_faults = (refl, refl, refl, refl)
