-- The pulses of a frame that is sent, by their widths in microseconds.
-- Source: IRIG Standard 200-16, format B: the nominal widths.
use Rattle.std.specs.Prelude.{ℕ, List, [], Option, Some, None, map, slice_set}
use Rattle.irig_frame.specs.declared.symbol.Symbol.{Symbol}
use Rattle.irig_frame.specs.Symbols.{width_of}

-- the pulses of a frame, if there is one
abbrev pub widths_of : Option (List Symbol) → List ℕ
widths_of None = []
widths_of (Some frame) = map width_of frame

-- with the pulse of one element of another width; an element that isn't there changes nothing
abbrev pub with_damage : ℕ → ℕ → List ℕ → List ℕ
with_damage at width widths = slice_set widths at width
