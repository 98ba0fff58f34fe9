-- What dumps say, at known values.
use Rattle.std.proofs.Common.{◌≡◌, ℕ, List, [], ◌∷◌, ◌++◌, Some, None, refl}
use Rattle.std.specs.Prelude.{codes}
use Rattle.record_levels.specs.declared.limits.TimeFault.TheVariants.{Beyond, Back, Gap}
use Rattle.record_text.specs.Words.{words_of}
use Rattle.record_vcd.specs.declared.now.Reason.{Reason}
use Rattle.record_vcd.specs.declared.now.Reason.TheVariants.{BadTime, Time}
use Rattle.record_vcd.specs.declared.unit.Part.TheVariants.{Whole, Thousandth, Millionth}
use Rattle.record_vcd.specs.Units.{time_of}
use Rattle.record_vcd.specs.Sections.{WireValue, unit, unit_of}
use Rattle.record_vcd.specs.Heads.{head_from, top}
use Rattle.record_vcd.specs.Changes.{Said}
use Rattle.record_vcd.specs.Changes.Said.{Change, Refused, Ends}
use Rattle.record_vcd.specs.Dumps.{dump_of}

-- ---- a head

-- its unit, a wire whose name has two words, a bus, another wire, and one whose name is there already
abbrev head_text : List ℕ
head_text = codes "$date today $end $timescale 1 ps $end" ++ 10 ∷ codes "$var wire 1 ! clock [0] $end $var wire 8 # all $end"
    ++ 10 ∷ codes "$var reg 1 & relay $end $var wire 1 % relay $end $comment $var wire 1 ! spare $end $enddefinitions $end" ++ 10 ∷ []

abbrev wire : (name code : List ℕ) → WireValue
wire name code = record { name = name; code = code }

pub known_head : ((head_from top (words_of head_text)).head.wires ≡ wire (codes "clock [0]") (codes "!") ∷ wire (codes "relay") (codes "&") ∷ [])
    × ((head_from top (words_of head_text)).head.unit ≡ unit 1 Thousandth)
known_head = (refl, refl)

pub known_units : (unit_of (codes "10" ∷ codes "us" ∷ []) ≡ unit 10000 Whole) × (unit_of (codes "100fs" ∷ []) ≡ unit 100 Millionth)
    × (unit_of (codes "1" ∷ codes "min" ∷ []) ≡ None) × (unit_of (codes "0" ∷ codes "s" ∷ []) ≡ None) × (unit_of (codes "18446744074" ∷ codes "s" ∷ []) ≡ None) × (unit_of (codes "s" ∷ []) ≡ None)
known_units = (refl, refl, refl, refl, refl, refl)

pub known_times : (time_of (record { times = 1; part = Thousandth }) 2999 ≡ Some 2) × (time_of (record { times = 10000; part = Whole }) 12 ≡ Some 120000)
    × (time_of (record { times = 1000000000; part = Whole }) 18446744074 ≡ None)
known_times = (refl, refl, refl)

-- ---- a dump

abbrev levels : (time high : ℕ) → Said
levels time high = Change (record { time_ns = time; high = high })

-- what stands before the first time is said of 0. The value of the bus is 8 bits and a #; a remark has words
-- that look like levels. 2.5 and 2.6 ns are one time, and the last word stands at the end of the text
abbrev dump_text : List ℕ
dump_text = head_text ++ codes "$dumpvars 1! x& bxxxxxxxx # $end" ++ 10 ∷ codes "#1000 1& 0! 1! 0& b10101010 #"
    ++ 10 ∷ codes "$comment 0! #9 $end #2500 z! 1& r1.5 # #2600 X! 1% #3999"

pub known_dump : dump_of (0 ∷ 1 ∷ []) dump_text ≡ Some (levels 0 1 ∷ levels 1 1 ∷ levels 2 2 ∷ Ends 3 ∷ [])
known_dump = refl

-- the other wire is the first of two
pub known_choice : dump_of (1 ∷ 0 ∷ []) dump_text ≡ Some (levels 0 2 ∷ levels 1 2 ∷ levels 2 1 ∷ Ends 3 ∷ [])
known_choice = refl

-- the levels of the last time are said at the end
pub known_end : dump_of (0 ∷ []) (head_text ++ codes "#5000 1!") ≡ Some (levels 5 1 ∷ Ends 5 ∷ [])
known_end = refl

-- ---- refusals

abbrev refused : (line : ℕ) → Reason → Said
refused line reason = Refused (record { line = line; reason = reason })

-- what was said before stays
pub known_back : dump_of (0 ∷ []) (head_text ++ codes "#1000 1! #3000" ++ 10 ∷ codes "#2999 #x") ≡ Some (levels 1 1 ∷ refused 5 (Time Back) ∷ [])
known_back = refl

pub known_bad : (dump_of (0 ∷ []) (head_text ++ codes "#") ≡ Some (refused 4 BadTime ∷ []))
    × (dump_of (0 ∷ []) (head_text ++ codes "#18446744073709551616 ") ≡ Some (refused 4 BadTime ∷ []))
    × (dump_of (0 ∷ []) (head_text ++ codes "#3600000000000000000") ≡ Some (refused 4 (Time Beyond) ∷ []))
    × (dump_of (0 ∷ []) (head_text ++ codes "1! #86400000001000000") ≡ Some (refused 4 (Time Gap) ∷ []))
known_bad = (refl, refl, refl, refl)

-- a dump that ends within its head says nothing, nor one without a unit
pub known_heads : (dump_of (0 ∷ []) (codes "$timescale 1 ns $end $enddefinitions 1!") ≡ None) × (dump_of (0 ∷ []) (codes "$enddefinitions $end 1! ") ≡ None)
known_heads = (refl, refl)
