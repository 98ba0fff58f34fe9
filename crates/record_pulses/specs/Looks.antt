-- A line's polarity: that of its first frame, unless it is given. The line's changes, without glitches,
-- are listed the newest first.
-- Source: this project's profile; IRIG Standard 200-16, format B, whose pulses rise each 10 ms.
use Rattle.std.specs.Prelude.{◌≡◌, ℕ, Bool, true, false, nat_eq, nat_le, if◌then◌else◌, List, [], ◌∷◌, Option, Some, None}
use Rattle.record_pulses.specs.declared.edge.Edge.{Edge}
use Rattle.record_pulses.specs.declared.edge.Pulse.{Pulse}
use Rattle.record_pulses.specs.declared.looks.Heard.{Heard}
use Rattle.record_pulses.specs.declared.looks.Look.{Look}
use Rattle.record_pulses.specs.declared.looks.Looks.{Looks}
use Rattle.record_pulses.specs.Glitches.{same_level}
use Rattle.record_pulses.specs.Pulses.{ArePulsesOf, pulse_ended, pulses_of}
use Rattle.record_pulses.specs.Spreads.{counted}
use Rattle.record_pulses.specs.Views.{IsViewOf, count_of, gap_of, is_on, place_now}

-- a pulse with its place after others
abbrev pub heard_after : Option Pulse → List Pulse → Option Heard
heard_after None pulses = None
heard_after (Some p) pulses = Some (record { pulse = p; place = place_now (p ∷ pulses) })

-- the pulse that ends with a change by a polarity, and its place by that
abbrev pub heard_of : Bool → Edge → List Edge → Option Heard
heard_of polarity d before = heard_after (pulse_ended polarity d before) (pulses_of polarity before)

-- a frame ends with it
abbrev pub ends_frame : Option Heard → Bool
ends_frame None = false
ends_frame (Some h) = nat_eq h.place 100

-- the polarity, by what ends with a change by either: once it is known it stays
abbrev pub polarity_by : Option Bool → (upright inverted : Option Heard) → Option Bool
polarity_by (Some known) upright inverted = Some known
polarity_by None upright inverted =
    if ends_frame upright then Some true
    else (if ends_frame inverted then Some false else None)

-- a line is looked at by a polarity if that may be its own
abbrev pub is_looked_at : Option Bool → Bool → Bool
is_looked_at None polarity = true
is_looked_at (Some known) polarity = same_level known polarity

-- what ends with a change by a polarity, if the line is looked at by that
abbrev pub heard_if : Bool → Bool → Edge → List Edge → Option Heard
heard_if looked_at polarity d before = if looked_at then heard_of polarity d before else None

-- the line's polarity, if it is given or a frame has ended
abbrev pub polarity_of : Option Bool → List Edge → Option Bool
polarity_of given [] = given
polarity_of given (d ∷ before) =
    polarity_by (polarity_of given before) (heard_of true d before) (heard_of false d before)

-- the first of two, if there is one
abbrev pub first_of : Option Heard → Option Heard → Option Heard
first_of None inverted = inverted
first_of (Some h) inverted = Some h

-- what ends with a change of a line: by its polarity, or by either if it is not known
abbrev pub told_by : Option Bool → Edge → List Edge → Option Heard
told_by None d before = first_of (heard_of true d before) (heard_of false d before)
told_by (Some known) d before = heard_of known d before

-- what is told with a change of a line, by all before it
abbrev pub told_of : Option Bool → Edge → List Edge → Option Heard
told_of given d before = told_by (polarity_of given before) d before

-- how many pulses are on time by a polarity
abbrev pub on_time_by : Bool → List Edge → ℕ
on_time_by polarity edges =
    counted (count_of (λ p before. is_on (gap_of p before)) (pulses_of polarity edges))

-- the polarity that is shown: the line's, or the one with more pulses on time, of equals high
abbrev pub shown_by : Option Bool → List Edge → Bool
shown_by None edges = nat_le (on_time_by false edges) (on_time_by true edges)
shown_by (Some known) edges = known

-- the polarity that is shown of a line is the one whose pulses are high
abbrev pub is_shown_high : Option Bool → List Edge → Bool
is_shown_high given edges = shown_by (polarity_of given edges) edges

-- ---- what is kept

-- a line as it is looked at by a polarity
pub record IsLookOf (look : Look) (polarity : Bool) (edges : List Edge) : Type 0 where
  pub high : look.pulses.is_high ≡ polarity
  pub pulses : ArePulsesOf look.pulses edges
  pub view : IsViewOf look.view (pulses_of polarity edges)

-- a line to which these changes came
pub record IsLooksOf (looks : Looks) (given : Option Bool) (edges : List Edge) : Type 0 where
  pub polarity : looks.polarity ≡ polarity_of given edges
  pub upright : is_looked_at looks.polarity true ≡ true → IsLookOf looks.upright true edges
  pub inverted : is_looked_at looks.polarity false ≡ true → IsLookOf looks.inverted false edges
