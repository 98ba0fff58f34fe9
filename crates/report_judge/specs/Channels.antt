-- Which channels of a recording are judged: the wires of a dump, or the digital channels of a record.
-- Source: docs/irig.1, judge; this project's profile.
use Rattle.std.specs.Prelude.{ℕ, zero, suc, ◌+◌, ◌==◌, Bool, false, ◌||◌, if◌then◌else◌, List, [], ◌∷◌, ◌++◌, length, map, Option, Some, None, Result, Ok, Err, option_map}
use Rattle.std.specs.Borrow.{Bor}
use Rattle.std.specs.Global.{Vec}
use Rattle.std.specs.Str.{bytes_eq}
use Rattle.irig_vote.specs.declared.redundancy.Redundancy.{Redundancy}
use Rattle.irig_vote.specs.declared.redundancy.Redundancy.TheVariants.{One, Three, Five}
use Rattle.record_text.specs.Fields.{field}
use Rattle.record_vcd.specs.Sections.{WireValue}
use Rattle.report_judge.specs.declared.channels.ChannelFault.{ChannelFault}
use Rattle.report_judge.specs.declared.channels.ChannelFault.TheVariants.{Count, Unknown, Twice}

-- the bytes of some names
abbrev pub texts_of : List (Vec ℕ) → List (List ℕ)
texts_of names = map (λ name. name.items) names

-- the names that are asked for, if any are
abbrev pub channel_bytes : Option (Bor (List ℕ)) → Option (List ℕ)
channel_bytes names = option_map (λ text. text.now) names

-- one line is judged, or as many as outvote one of them or two
abbrev pub redundancy_of : (count : ℕ) → Option Redundancy
redundancy_of n =
    if n == 1 then Some One else (if n == 3 then Some Three else (if n == 5 then Some Five else None))

-- the names of a text are one more than its commas
abbrev pub names_in : (text : List ℕ) → ℕ
names_in [] = 1
names_in (b ∷ bs) = if b == 44 then names_in bs + 1 else names_in bs

-- the first numbers, from 0
abbrev pub upto : ℕ → List ℕ
upto zero = []
upto (suc n) = upto n ++ n ∷ []

-- the place of the first channel that has this name, counted from n
abbrev pub place_from : (n : ℕ) → (channels : List (List ℕ)) → (name : List ℕ) → Option ℕ
place_from n [] name = None
place_from n (channel ∷ channels) name =
    if bytes_eq channel name then Some n else place_from (n + 1) channels name

-- the place of the first channel that has this name
abbrev pub place_of : (channels : List (List ℕ)) → (name : List ℕ) → Option ℕ
place_of channels name = place_from 0 channels name

-- one of these places is that one
abbrev pub is_in : (places : List ℕ) → (place : ℕ) → Bool
is_in [] place = false
is_in (other ∷ others) place = other == place || is_in others place

-- a channel is chosen by a name, after others, if there is one and it is none of them
abbrev pub chosen_next : Option ℕ → (at : ℕ) → (places : List ℕ)
    → (others : List ℕ → Result (List ℕ) ChannelFault) → Result (List ℕ) ChannelFault
chosen_next None at places others = Err (Unknown at)
chosen_next (Some place) at places others =
    if is_in places place then Err (Twice at) else others (places ++ place ∷ [])

-- the channels that so many more names choose, the first of which stands at a place, after others
abbrev pub chosen : (channels : List (List ℕ)) → (names : List ℕ) → (left at : ℕ) → (places : List ℕ)
    → Result (List ℕ) ChannelFault
chosen channels names zero at places = Ok places
chosen channels names (suc left) at places = chosen_next (place_of channels (field at names)) at places
    (λ more. chosen channels names left (at + 1) more)

-- what is chosen, if it may be judged that so many are
abbrev pub if_judged : Option Redundancy → (count : ℕ) → Result (List ℕ) ChannelFault
    → Result (List ℕ) ChannelFault
if_judged None count places = Err (Count count)
if_judged (Some redundancy) count places = places

-- the places of the channels that are judged, of which these are the names: those with the names
-- that are asked for, or all
abbrev pub places_named : (channels : List (List ℕ)) → (names : Option (List ℕ)) → Result (List ℕ) ChannelFault
places_named channels None =
    if_judged (redundancy_of (length channels)) (length channels) (Ok (upto (length channels)))
places_named channels (Some names) =
    if_judged (redundancy_of (names_in names)) (names_in names) (chosen channels names (names_in names) 0 [])

-- the name of a wire
abbrev pub name_of : WireValue → List ℕ
name_of wire = wire.name

-- the names of wires
abbrev pub names_of : List WireValue → List (List ℕ)
names_of wires = map name_of wires

-- the places of the wires that are judged: those with the names that are asked for, or all
abbrev pub places_of : List WireValue → (names : Option (List ℕ)) → Result (List ℕ) ChannelFault
places_of wires names = places_named (names_of wires) names
