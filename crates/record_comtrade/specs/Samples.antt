-- What samples of digital channels say, one after another.
-- Source: IEEE C37.111-2013, 6.4 to 6.6 (binary data): a sample has its number and its time, four bytes each, the
-- analog channels, and a word of two bytes for each 16 digital channels, the first channel by its lowest bit; of all
-- numbers the lowest byte stands first. That there are levels where a channel that was chosen changes is this
-- project's profile.
use Rattle.std.specs.Prelude.{ℕ, ◌+◌, ◌-◌, ◌*◌, ◌/◌, ◌%◌, ◌^◌, Bool, true, false, ◌&&◌, not, if◌then◌else◌, List, [], ◌∷◌, ◌++◌, length, drop, slice_get, slice_index_or, Option, Some, None, Result, Ok, Err, max, nat_eq, nat_lt}
use Rattle.std.specs.Int.{from_le_bytes, w32}
use Rattle.record_levels.specs.declared.levels.Levels.{Levels}
use Rattle.record_levels.specs.declared.limits.TimeFault.{TimeFault}
use Rattle.record_levels.specs.Limits.{time_fault}
use Rattle.record_comtrade.specs.declared.parts.Rate.{Rate}
use Rattle.record_comtrade.specs.declared.clock.Clock.{Clock}
use Rattle.record_comtrade.specs.declared.clock.Mark.{Mark}
use Rattle.record_comtrade.specs.declared.clock.Reason.{Reason}
use Rattle.record_comtrade.specs.declared.clock.Reason.TheVariants.{Time, Last}
use Rattle.record_comtrade.specs.declared.now.SampleFault.{SampleFault}
use Rattle.record_comtrade.specs.declared.now.Now.{Now}
use Rattle.record_comtrade.specs.declared.now.Step.{Step}
use Rattle.record_comtrade.specs.declared.now.Step.TheVariants.{Goes, Says, Refuses}
use Rattle.record_comtrade.specs.Times.{time_of}

-- what is read of samples: by which rates and which unit they have their times, where their digital channels begin,
-- and which channels are chosen, by their places among the digital ones
pub record Plan : Type 0 where
  pub rates : List Rate
  pub clock : Clock
  pub offset : ℕ
  pub chosen : List ℕ

-- what a sample says: levels, why it is refused, or the time at which the recording ends
pub data Said : Type 0 where
  Change : Levels → Said
  Refused : SampleFault → Said
  Ends : ℕ → Said

-- ---- a sample

-- the byte of a sample at a place
abbrev pub byte_at : (sample : List ℕ) → (place : ℕ) → ℕ
byte_at sample place = slice_index_or sample place 0

-- a number of four bytes, the lowest first
abbrev pub number_at : (sample : List ℕ) → (place : ℕ) → ℕ
number_at sample place = from_le_bytes w32
    (byte_at sample place ∷ byte_at sample (place + 1) ∷ byte_at sample (place + 2) ∷ byte_at sample (place + 3) ∷ [])

-- its number and its time
abbrev pub mark_of : (sample : List ℕ) → Mark
mark_of sample = record { number = number_at sample 0; time = number_at sample 4 }

-- the level of a digital channel: 16 channels are a word, and 8 a byte, as the lower byte stands first
abbrev pub bit_in : (digital : List ℕ) → (place : ℕ) → ℕ
bit_in digital place = byte_at digital (place / 8) / 2 ^ (place % 8) % 2

-- of the k-th that was chosen, or 0
abbrev pub bit_by : (digital : List ℕ) → (place : Option ℕ) → ℕ
bit_by digital None = 0
bit_by digital (Some place) = bit_in digital place

-- the levels of up to five, the first by the bit of 1
abbrev pub high_of : (chosen : List ℕ) → (digital : List ℕ) → ℕ
high_of chosen digital =
    bit_by digital (slice_get chosen 0) + 2 * bit_by digital (slice_get chosen 1) + 4 * bit_by digital (slice_get chosen 2)
    + 8 * bit_by digital (slice_get chosen 3) + 16 * bit_by digital (slice_get chosen 4)

-- ---- one after another

-- how many samples there are with one more, up to 2^64 - 1
abbrev pub next_count : Now → ℕ
next_count now = if nat_lt now.count (2 ^ 64 - 1) then now.count + 1 else now.count

-- the sample is counted; the first one is kept
abbrev pub counted : Now → Mark → Now
counted now here = record now {
  count = next_count now;
  first = if nat_eq now.count 0 then here else now.first;
  here = here;
}

-- the sample at which the record is refused, and why
abbrev pub refused : Now → Reason → SampleFault
refused now reason = record { sample = now.count; reason = reason }

-- the time to which the recording had come
abbrev pub come_to : (levels_ns : Option ℕ) → ℕ
come_to None = 0
come_to (Some time) = time

-- levels at a time, if a recording goes on with it
abbrev pub said_at : Now → (high time : ℕ) → Option TimeFault → Step
said_at now high time (Some fault) = Refuses (refused now (Time fault))
said_at now high time None =
    Says (record { time_ns = time; high = high }) (record now { levels_ns = Some time })

-- the fault of a time for levels, if it has one
abbrev pub fault_of : Now → (time : ℕ) → Option TimeFault
fault_of now time = time_fault (come_to now.levels_ns) now.levels_ns time

-- levels, if there is a time for them
abbrev pub said_by_time : Now → (high : ℕ) → Result ℕ Reason → Step
said_by_time now high (Err reason) = Refuses (refused now reason)
said_by_time now high (Ok time) = said_at now high time (fault_of now time)

-- the levels stay: it is not the first sample, and they are those of the one before
abbrev pub stays : (count before high : ℕ) → Bool
stays count before high = not (nat_eq count 0) && nat_eq before high

-- the levels of a sample that was counted, unless they stay
abbrev pub step_by : (stays : Bool) → Plan → Now → (high : ℕ) → Step
step_by true plan now high = Goes now
step_by false plan now high = said_by_time now high (time_of plan.rates plan.clock now.first now.here)

-- what a sample makes of the levels, after one with these digital channels
abbrev pub step : Plan → Now → (digital : List ℕ) → (sample : List ℕ) → Step
step plan now digital sample =
    step_by (stays now.count (high_of plan.chosen digital) (high_of plan.chosen (drop plan.offset sample)))
    plan (counted now (mark_of sample)) (high_of plan.chosen (drop plan.offset sample))

-- ---- the end

-- the last sample of the last rate
abbrev pub last_from : (last : ℕ) → (rates : List Rate) → ℕ
last_from last [] = last
last_from last (rate ∷ rates) = last_from rate.last rates

-- the last sample of the last rate, or 0
abbrev pub last_of : (rates : List Rate) → ℕ
last_of rates = last_from 0 rates

-- there are fewer samples, and none with that number
abbrev pub is_before : Now → (last : ℕ) → Bool
is_before now last = nat_lt (max now.count now.here.number) (max last 1)

-- a record ends at a time, unless that has a fault
abbrev pub ended_at : Now → (time : ℕ) → Option TimeFault → Said
ended_at now time (Some fault) = Refused (refused now (Time fault))
ended_at now time None = Ends time

-- so if the time is known
abbrev pub ended_by : Now → Result ℕ Reason → Said
ended_by now (Err reason) = Refused (refused now reason)
ended_by now (Ok time) = ended_at now time (fault_of now time)

-- a recording ends with its last sample, if that is not before the last one by the rates, nor before the first
abbrev pub ended : Plan → Now → Said
ended plan now =
    if is_before now (last_of plan.rates) then Refused (refused now Last)
    else ended_by now (time_of plan.rates plan.clock now.first now.here)

-- ---- the whole

-- what a step says, and then what is said from there on, unless it refuses
abbrev pub said_by : Step → (others : Now → List Said) → List Said
said_by (Goes now) others = others now
said_by (Says levels now) others = Change levels ∷ others now
said_by (Refuses fault) others = Refused fault ∷ []

-- what samples say, after one with these digital channels
abbrev pub said_from : Plan → Now → (digital : List ℕ) → (samples : List (List ℕ)) → List Said
said_from plan now digital [] = ended plan now ∷ []
said_from plan now digital (sample ∷ samples) =
    said_by (step plan now digital sample) (λ next. said_from plan next (drop plan.offset sample) samples)

-- before the first one
abbrev pub start : Now
start = record {
  count = 0;
  first = record { number = 0; time = 0 };
  here = record { number = 0; time = 0 };
  levels_ns = None;
}

-- bytes are a sample where they are so many, and else the beginning of one; the others are the samples from there on
abbrev pub samples_by : (is_whole : Bool) → (begun : List ℕ) → (others : (begun : List ℕ) → List (List ℕ)) → List (List ℕ)
samples_by true begun others = begun ∷ others []
samples_by false begun others = others begun

-- the samples of that size in bytes that go on after the beginning of one
abbrev pub samples_from : (size : ℕ) → (begun : List ℕ) → (bytes : List ℕ) → List (List ℕ)
samples_from size begun [] = []
samples_from size begun (b ∷ bs) =
    samples_by (nat_eq (length begun + 1) size) (begun ++ b ∷ []) (λ next. samples_from size next bs)

-- what the bytes of samples say
abbrev pub changes_of : Plan → (size : ℕ) → (bytes : List ℕ) → List Said
changes_of plan size bytes = said_from plan start [] (samples_from size [] bytes)
