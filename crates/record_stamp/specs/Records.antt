-- The stamps of a record, by its configuration.
-- Source: IEEE C37.111-2013: below the rates stand the lines of the first sample, of the trigger, of how samples are
-- stored, of the multiple, of the time code, and of quality and leap second.
use Rattle.std.specs.Prelude.{ℕ, ◌+◌, List, ◌++◌, codes, Option, Some, None, Result, Ok, Err, ℤ}
use Rattle.record_text.specs.Fields.{field}
use Rattle.record_comtrade.specs.Configs.{ConfigValue, text_at}
use Rattle.irig_time.specs.declared.leap.Leap.{Leap}
use Rattle.record_stamp.specs.declared.instant.Stamp.{Stamp}
use Rattle.record_stamp.specs.declared.instant.StampFault.{StampFault}
use Rattle.record_stamp.specs.declared.late.Moment.{Moment}
use Rattle.record_stamp.specs.declared.word.Word.{Word}
use Rattle.record_stamp.specs.Codes.{zone_of}
use Rattle.record_stamp.specs.Stamps.{exchanged, meaning}
use Rattle.record_stamp.specs.Word.{step_ns, word_on}
use Rattle.record_stamp.specs.WordText.{stamp_text}

-- a field of a line from the first stamp on, by their places from 0
abbrev pub below : ConfigValue → (line at : ℕ) → List ℕ
below config line at = field at (text_at config.lines (config.stamps + line))

-- the zone that is given, or else that of the time code
abbrev pub zone_in : ConfigValue → Option ℤ → Option ℤ
zone_in config (Some zone) = Some zone
zone_in config None = zone_of (below config 4 0)

-- the time of a line: 0 is that of the first sample, and 1 of the trigger
abbrev pub stamp_of : ConfigValue → (line : ℕ) → Option ℤ → Result Stamp StampFault
stamp_of config line zone =
    meaning config.counts.edition (zone_in config zone) (below config line 0) (below config line 1)

-- that of the first sample with its day and month exchanged, if that is another one
abbrev pub exchanged_of : ConfigValue → Option ℤ → Option Stamp
exchanged_of config zone =
    exchanged config.counts.edition (zone_in config zone) (below config 0 0) (below config 0 1)

-- the word on a stamp, if that is a time
abbrev pub word_if : Result Stamp StampFault → (word : Stamp → Word) → Result Word StampFault
word_if (Ok stamp) word = Ok (word stamp)
word_if (Err fault) word = Err fault

-- the word on the stamp of a record, where the lines tell when its first sample was, by the leaps that are known
abbrev pub word_of : ConfigValue → Option ℤ → List (ℕ × Leap) → (truth : Moment) → Result Word StampFault
word_of config zone leaps truth =
    word_if (stamp_of config 0 zone) (λ stamp. word_on leaps stamp (exchanged_of config zone) truth (step_ns config.rates))

-- the line that the stamp of a record is not judged
unfoldable pub unjudged_text : ConfigValue → List ℕ
unjudged_text config =
    codes "the stamp " ++ (stamp_text (below config 0 0) (below config 0 1)
    ++ codes " is not judged: the lines do not tell when sample 1 was\n")
