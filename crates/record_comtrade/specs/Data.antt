-- What a reader of samples still has to say.
-- Source: this project's profile.
use Rattle.std.specs.Prelude.{◌≡◌, ℕ, List, [], ◌∷◌, ◌++◌, Option, Some, None, ⊤}
use Rattle.record_levels.specs.declared.levels.Levels.{Levels}
use Rattle.record_comtrade.specs.declared.now.SampleFault.{SampleFault}
use Rattle.record_comtrade.specs.declared.reader.DataFault.{DataFault}
use Rattle.record_comtrade.specs.declared.reader.DataFault.TheVariants.{Memory}
use Rattle.record_comtrade.specs.declared.reader.DataFault.TheVariants.{Refused as IsRefused}
use Rattle.record_comtrade.specs.declared.data.Data.{Data}
use Rattle.record_comtrade.specs.Samples.{Plan, Said, said_from, samples_from}
use Rattle.record_comtrade.specs.Samples.Said.{Change, Refused}

-- what a reader reads of samples
abbrev pub plan_of : Data → Plan
plan_of reader = record { rates = reader.rates.items; clock = reader.clock; offset = reader.offset; chosen = reader.chosen.items }

-- what was refused stays so
abbrev pub unless_refused : Option SampleFault → List Said → List Said
unless_refused None said = said
unless_refused (Some fault) said = Refused fault ∷ []

-- what these samples say to a reader as it stands
abbrev pub said_of : Data → (samples : List (List ℕ)) → List Said
said_of reader samples = unless_refused reader.refusal (said_from (plan_of reader) reader.here reader.digital.items samples)

-- what it has to say yet, if these are the bytes that follow, up to the end of the samples
abbrev pub to_come : Data → (more : List ℕ) → List Said
to_come reader more = said_of reader (samples_from reader.size reader.begun.items more)

-- levels, if there are some
abbrev pub said : Option Levels → List Said
said None = []
said (Some levels) = Change levels ∷ []

-- a reader that takes these bytes says these levels, if any, and is then the next one: so whatever follows
abbrev pub Leads : Data → (taken : List ℕ) → Option Levels → Data → Type 0
Leads reader taken levels next = (more : List ℕ) → to_come reader (taken ++ more) ≡ said levels ++ to_come next more

-- what is refused is all that is said, unless there was no memory
abbrev pub FaultSays : DataFault → List Said → Type 0
FaultSays Memory said = ⊤
FaultSays (IsRefused fault) said = said ≡ Refused fault ∷ []
