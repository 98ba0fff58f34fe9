-- What generators send in each second, and what true lines of them have.
-- Source: docs/SCENARIOS.md; this project's profile.
use Rattle.std.specs.Prelude.{◌≡◌, ℕ, Bool, true, ◌/◌, ◌%◌, ◌==◌, if◌then◌else◌, List, [], ◌∷◌, ◌++◌, length, slice_get, Option, Some, None, option_and_then, option_to_list}
use Rattle.std.specs.Option.{option_map}
use Rattle.irig_frame.specs.declared.symbol.Symbol.{Symbol}
use Rattle.irig_time.specs.declared.rules.Rules.{Rules}
use Rattle.irig_time.specs.Timelines.{TimelineValue}
use Rattle.irig_gen.specs.Frames.{GeneratorValue}
use Rattle.irig_gen.specs.Sent.{frame_of, sent_of}
use Rattle.irig_witness.specs.TrueFrames.{blank, first_harmless, is_harmless, true_symbol}
use Rattle.irig_simulated.specs.declared.second.LineSecond.{LineSecond}
use Rattle.irig_simulated.specs.Seconds.{symbol_at}

-- the frame that a generator sends in a second, if it sends one, and the one that it would send
-- without a fault
pub record SentSecond : Type 0 where
  pub sent : Option (List Symbol)
  pub plain : Option (List Symbol)

-- those of the second that begins at the edge at which a generator stands
abbrev pub sent_second : TimelineValue → GeneratorValue → SentSecond
sent_second t g = record { sent = sent_of g t; plain = frame_of None g t g.edge }

-- what each generator sends in the n-th second, of those that have begun, the newest first: one
-- more second changes no earlier one
abbrev pub second_sent : List (List SentSecond) → (n : ℕ) → List SentSecond
second_sent [] n = []
second_sent (newest ∷ seconds) n = if n == length seconds then newest else second_sent seconds n

-- the symbol that is sent at a place, if a frame is sent
abbrev pub symbol_of_sent : (place : ℕ) → SentSecond → Option Symbol
symbol_of_sent place x = option_map (λ frame. symbol_at frame place) x.sent

-- what the generator of a line sends at an element, if it sends
abbrev pub signal_by : List (List SentSecond) → (line element : ℕ) → Option Symbol
signal_by seconds line element =
    option_and_then (symbol_of_sent (element % 100))
    (slice_get (second_sent seconds (element / 100)) line)

-- the frames that a line may carry in a second: first the one that is sent, then the one without
-- fault
abbrev pub frames_of_sent : Option SentSecond → List (List Symbol)
frames_of_sent None = []
frames_of_sent (Some x) = option_to_list x.sent ++ option_to_list x.plain

-- so of a line in the n-th second; none if that has not begun
abbrev pub frames_by : List (List SentSecond) → (line n : ℕ) → List (List Symbol)
frames_by seconds line n = frames_of_sent (slice_get (second_sent seconds n) line)

-- what a true line has at an element: of those frames the first that does no harm
abbrev pub symbol_by : Rules → TimelineValue → List (List SentSecond) → (line element : ℕ) → Symbol
symbol_by rules t seconds line element = true_symbol rules t (frames_by seconds line) element

-- ---- one generator in the second at whose edge it stands

-- a frame, if there is one and it does no harm
abbrev pub harmless_of : Rules → TimelineValue → (n : ℕ) → Option (List Symbol)
    → Option (List Symbol)
harmless_of rules t n None = None
harmless_of rules t n (Some frame) = if is_harmless rules t n frame then Some frame else None

-- a frame, a blank one if there is none
abbrev pub frame_or_blank : Option (List Symbol) → List Symbol
frame_or_blank None = blank
frame_or_blank (Some frame) = frame

-- the frame of a true line whose generator sends none that does no harm: the one that it would send
-- without a fault
abbrev pub plain_frame_of : Rules → TimelineValue → GeneratorValue → List Symbol
plain_frame_of rules t g = frame_or_blank (harmless_of rules t g.edge (frame_of None g t g.edge))

-- the frame of a true line
abbrev pub true_frame_of : Rules → TimelineValue → GeneratorValue → List Symbol
true_frame_of rules t g =
    first_harmless rules t g.edge (frames_of_sent (Some (sent_second t g)))

-- both, as a device is told them
abbrev pub line_of_generator : Rules → TimelineValue → GeneratorValue → LineSecond
line_of_generator rules t g = record { sent = sent_of g t; truth = true_frame_of rules t g }

-- this is what a device is told of a generator; and if it is said to do no harm, the frame that is sent does
-- none
pub record IsJudged (rules : Rules) (t : TimelineValue) (g : GeneratorValue) (line : LineSecond)
    (is_harmless : Bool) : Type 0 where
  pub line_is : line ≡ line_of_generator rules t g
  pub harmless : is_harmless ≡ true
      → (frame : List Symbol) × (harmless_of rules t g.edge (sent_of g t) ≡ Some frame)
