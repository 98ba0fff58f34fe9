-- What a word below the head of a value change dump says.
-- Source: IEEE 1364-2005, 18.2.1 and 18.2.2; that only wires of one bit are read, and what is not known is low,
-- is this project's profile.
use Rattle.std.specs.Prelude.{ℕ, ◌+◌, Bool, true, false, ◌||◌, if◌then◌else◌, List, [], ◌∷◌, length, map, codes, slice_index_or, Option, Some, None, nat_eq, nat_lt, ◌<◌, ⊤}
use Rattle.std.specs.Str.{bytes_eq}
use Rattle.record_text.specs.Numbers.{number}
use Rattle.record_text.specs.Words.{Word}
use Rattle.record_vcd.specs.declared.unit.Unit.{Unit}
use Rattle.record_vcd.specs.declared.wire.Wire.{Wire}
use Rattle.record_vcd.specs.declared.meaning.Meaning.{Meaning}
use Rattle.record_vcd.specs.declared.meaning.Meaning.TheVariants.{Time, BadTime, Level, Nothing}
use Rattle.record_vcd.specs.declared.meaning.Skip.{Skip}
use Rattle.record_vcd.specs.declared.meaning.Skip.TheVariants.{Code, Remark}
use Rattle.record_vcd.specs.declared.meaning.Skip.TheVariants.{Nothing as NoSkip}
use Rattle.record_vcd.specs.Units.{time_of}

-- the codes of wires
abbrev pub codes_of : List Wire → List (List ℕ)
codes_of wires = map (λ wire. wire.code.items) wires

-- the codes of the wires at these places
abbrev pub codes_at : List Wire → (places : List ℕ) → List (List ℕ)
codes_at wires places = map (λ place. slice_index_or (codes_of wires) place []) places

-- the place of the first of these codes that is that one, counted from n
abbrev pub place_from : (n : ℕ) → (chosen : List (List ℕ)) → (code : List ℕ) → Option ℕ
place_from n [] code = None
place_from n (c ∷ cs) code = if bytes_eq c code then Some n else place_from (n + 1) cs code

-- the place of the first of the chosen codes that is this one
abbrev pub place_of : (chosen : List (List ℕ)) → (code : List ℕ) → Option ℕ
place_of chosen code = place_from 0 chosen code

-- the level that a letter says: 1 is high; 0, x and z are low
abbrev pub level_at : (letter : ℕ) → Option Bool
level_at b =
    if nat_eq b 49 then Some true
    else (if nat_eq b 48 || nat_eq b 120 || nat_eq b 88 || nat_eq b 122 || nat_eq b 90 then Some false else None)

-- the number after a #; a word of 256 bytes may have been longer, and is none
abbrev pub ticks_of : (digits : List ℕ) → Option ℕ
ticks_of digits = if nat_lt (length digits) 255 then number digits else None

-- a time, if it is one
abbrev pub time_at : Option ℕ → Meaning
time_at (Some time) = Time time
time_at None = BadTime

-- what a # and such a number say
abbrev pub time_word : Unit → Option ℕ → Meaning
time_word unit (Some ticks) = time_at (time_of unit ticks)
time_word unit None = BadTime

-- what a level says of the wire at a place
abbrev pub level_word : Option ℕ → (high : Bool) → Meaning
level_word (Some place) high = Level place high
level_word None high = Nothing

-- what a letter and a code say
abbrev pub level_by : Option Bool → (chosen : List (List ℕ)) → (code : List ℕ) → Meaning
level_by (Some high) chosen code = level_word (place_of chosen code) high
level_by None chosen code = Nothing

-- what a word says of wires that have these codes: # and digits a time; 1, 0, x or z and a code a level;
-- all else nothing
abbrev pub meaning : (chosen : List (List ℕ)) → Unit → (word : List ℕ) → Meaning
meaning chosen unit [] = Nothing
meaning chosen unit (b ∷ rest) =
    if nat_eq b 35 then time_word unit (ticks_of rest) else level_by (level_at b) chosen rest

-- the place of a wire is one of five
abbrev pub HasPlace : Meaning → Type 0
HasPlace (Level place high) = place < 5
HasPlace (Time time) = ⊤
HasPlace BadTime = ⊤
HasPlace Nothing = ⊤

-- the first letter of a value of several bits (b, B), or of a real one (r, R)
abbrev pub is_vector : (letter : ℕ) → Bool
is_vector b = nat_eq b 98 || nat_eq b 66 || nat_eq b 114 || nat_eq b 82

-- what is left out after a word: the code after such a value, and what a remark says
abbrev pub skip_after : (word : List ℕ) → Skip
skip_after [] = NoSkip
skip_after (b ∷ rest) =
    if is_vector b then Code else (if bytes_eq (b ∷ rest) (codes "$comment") then Remark else NoSkip)

-- a remark goes on up to $end
abbrev pub skip_in_remark : (word : List ℕ) → Skip
skip_in_remark word = if bytes_eq word (codes "$end") then NoSkip else Remark

-- a word that is read or left out, and then the others
abbrev pub outside_by : Skip → Word → (others : Skip → List Word) → List Word
outside_by NoSkip word others = word ∷ others (skip_after word.text)
outside_by Code word others = others NoSkip
outside_by Remark word others = others (skip_in_remark word.text)

-- the words that are read
abbrev pub outside : Skip → List Word → List Word
outside skip [] = []
outside skip (word ∷ words) = outside_by skip word (λ next. outside next words)
