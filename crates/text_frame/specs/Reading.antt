-- What `read` prints.
-- Source: docs/FRAME.md, as text; docs/FAULTS.md, the numbers and names.
use Rattle.std.specs.Prelude.{◌≡◌, ℕ, ◌+◌, ◌-◌, List, [], ◌++◌, length, replicate, codes, Result, Ok, Err}
use Rattle.std.specs.Fmt.{decimal}
use Rattle.irig_frame.specs.declared.symbol.Symbol.{Symbol}
use Rattle.irig_frame.specs.declared.coded.Coded.{Coded}
use Rattle.irig_frame.specs.declared.fault.FrameFault.{FrameFault}
use Rattle.irig_frame.specs.Faults.{decode_result}
use Rattle.irig_time.specs.declared.rules.Rules.{Rules}
use Rattle.irig_time.specs.TextValues.{second_text}
use Rattle.irig_port.specs.declared.told.Told.{Told}
use Rattle.irig_port.specs.declared.told.Told.TheVariants.{Silence, Fault, Poor, Claim}
use Rattle.irig_port.specs.Told.{told_of}
use Rattle.irig_time.specs.MarkWords.{mark_word}
use Rattle.text_faults.specs.PortFaults.{fault_text}
use Rattle.text_frame.specs.Letters.{Shows}

-- ---- the coded time

-- in decimal, with zeros (48) in front up to so many digits
abbrev pub with_zeros : ℕ → ℕ → List ℕ
with_zeros digits n = replicate (digits - length (decimal n)) 48 ++ decimal n

-- HH:MM:SS
unfoldable pub clock_text : Coded → List ℕ
clock_text coded =
    with_zeros 2 coded.hour ++ (codes ":" ++ (with_zeros 2 coded.minute
    ++ (codes ":" ++ with_zeros 2 coded.second)))

-- coded YYYY-DDD HH:MM:SS control W sbs S
unfoldable pub coded_line : Coded → List ℕ
coded_line coded =
    codes "coded " ++ (decimal (2000 + coded.year) ++ (codes "-" ++ (with_zeros 3 coded.day
    ++ (codes " " ++ (clock_text coded ++ (codes " control " ++ (decimal coded.control
    ++ (codes " sbs " ++ (decimal coded.sbs ++ codes "\n")))))))))

-- the line of a frame that can be decoded, and nothing for another
abbrev pub decoded_text : Result Coded FrameFault → List ℕ
decoded_text (Ok coded) = coded_line coded
decoded_text (Err fault) = []

-- ---- what a port tells

-- the line of what a port tells
unfoldable pub told_line : Told → List ℕ
told_line Silence = codes "silence\n"
told_line (Fault f) = codes "fault " ++ (fault_text (codes " ") f ++ codes "\n")
told_line (Poor quality) = codes "poor " ++ (decimal quality ++ codes "\n")
told_line (Claim claim) =
    codes "claim " ++ (second_text claim.at
    ++ (codes " " ++ (mark_word claim.mark ++ codes "\n")))

-- ---- both

-- all that is printed of some symbols, of which a port of these rules tells the last line
abbrev pub reading_text : Rules → List Symbol → List ℕ
reading_text rules symbols =
    decoded_text (decode_result symbols) ++ told_line (told_of rules symbols)

-- the lines are what is printed, by these rules, of the symbols that the text shows
pub record IsReadingOf (rules : Rules) (text lines : List ℕ) : Type 0 where
  pub symbols : List Symbol
  pub shown : Shows text symbols
  pub said : lines ≡ reading_text rules symbols
