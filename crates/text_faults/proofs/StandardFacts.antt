-- The known numbers of refusals, so that a wrong definition does not check.
use Rattle.std.proofs.Common.{◌≡◌, List, [], ◌∷◌, map, refl}
use Rattle.text_faults.specs.declared.refusal.Refusal.{Refusal}
use Rattle.text_faults.specs.declared.refusal.Refusal.TheVariants as refusal
use Rattle.text_faults.specs.Refusals.{number_of}

-- all names by their numbers, from 11 to 16, from 19 to 35, and 37
abbrev refusals : List Refusal
refusals =
    refusal.BadStart ∷ refusal.LeapNotMonthEnd ∷ refusal.LeapTwice ∷ refusal.OutOfYears ∷ refusal.Offset ∷ refusal.Changes
    ∷ refusal.NoSuchReader ∷ refusal.NoSuchGenerator ∷ refusal.FutureReplay ∷ refusal.EndOfYears ∷ refusal.TooLong ∷ refusal.Json ∷ refusal.Shape ∷ refusal.Value
    ∷ refusal.Version ∷ refusal.Names ∷ refusal.NoPlant ∷ refusal.TooManyLines ∷ refusal.TableEnd ∷ refusal.TableLong ∷ refusal.TableDay ∷ refusal.TableTwice
    ∷ refusal.Drift ∷ refusal.BeforeStart ∷ []

pub known_numbers : map number_of refusals
    ≡ 11 ∷ 12 ∷ 13 ∷ 14 ∷ 15 ∷ 16 ∷ 19 ∷ 20 ∷ 21 ∷ 22 ∷ 23 ∷ 24 ∷ 25 ∷ 26 ∷ 27 ∷ 28 ∷ 29 ∷ 30 ∷ 31 ∷ 32 ∷ 33 ∷ 34 ∷ 35 ∷ 37 ∷ []
known_numbers = refl
