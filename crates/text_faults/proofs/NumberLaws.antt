-- Refusals of one number are one.
use Rattle.std.proofs.Common.{◌≡◌, ℕ, ◌==◌, if◌then◌else◌, Option, Some, None, ap, sym, ◌∙◌, rules}
use Rattle.std.proofs.lemmas.Option.{same_Some}
use Rattle.text_faults.specs.declared.refusal.Refusal.{Refusal}
use Rattle.text_faults.specs.declared.refusal.Refusal.TheVariants.{BadStart, LeapNotMonthEnd, LeapTwice, OutOfYears, Offset, Changes, NoSuchReader, NoSuchGenerator, FutureReplay, EndOfYears, TooLong, Json, Shape, Value, Version, Names, NoPlant, TooManyLines, TableEnd, TableLong, TableDay, TableTwice, Drift, BeforeStart}
use Rattle.text_faults.specs.Refusals.{number_of}

-- the refusal of a number
abbrev numbered : ℕ → Option Refusal
numbered n =
    if n == 11 then Some BadStart
    else (if n == 12 then Some LeapNotMonthEnd
    else (if n == 13 then Some LeapTwice
    else (if n == 14 then Some OutOfYears
    else (if n == 15 then Some Offset
    else (if n == 16 then Some Changes
    else (if n == 19 then Some NoSuchReader
    else (if n == 20 then Some NoSuchGenerator
    else (if n == 21 then Some FutureReplay
    else (if n == 22 then Some EndOfYears
    else (if n == 23 then Some TooLong
    else (if n == 24 then Some Json
    else (if n == 25 then Some Shape
    else (if n == 26 then Some Value
    else (if n == 27 then Some Version
    else (if n == 28 then Some Names
    else (if n == 29 then Some NoPlant
    else (if n == 30 then Some TooManyLines
    else (if n == 31 then Some TableEnd
    else (if n == 32 then Some TableLong
    else (if n == 33 then Some TableDay
    else (if n == 34 then Some TableTwice
    else (if n == 35 then Some Drift
    else (if n == 37 then Some BeforeStart
    else None)))))))))))))))))))))))

back : (k : Refusal) → numbered (number_of k) ≡ Some k
back k = search rules

pub alone : (k other : Refusal) → number_of other ≡ number_of k → other ≡ k
alone k other same = same_Some other k (sym (back other) ∙ ap numbered same ∙ back k)
