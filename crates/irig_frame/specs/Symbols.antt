-- The symbols of a frame: the widths of their pulses in microseconds, and their letters in a text.
-- Source: this project's profile, round the nominal widths of IRIG Standard 200-16, format B.
use Rattle.std.specs.Prelude.{ℕ, nat_lt, if◌then◌else◌}
use Rattle.irig_frame.specs.declared.symbol.Symbol.{Symbol}
use Rattle.irig_frame.specs.declared.symbol.Symbol.TheVariants.{Zero, One, Marker, Bad}

-- 500 to 3499 is a 0, 3500 to 6499 a 1, 6500 to 9499 a marker, and any other width a bad pulse
abbrev pub symbol_of : ℕ → Symbol
symbol_of width =
    if nat_lt width 500 then Bad
    else (if nat_lt width 3500 then Zero
    else (if nat_lt width 6500 then One
    else (if nat_lt width 9500 then Marker else Bad)))

-- the nominal widths of IRIG Standard 200-16, format B, round which the bounds above are this
-- project's profile; a bad pulse has none and is never sent
abbrev pub width_of : Symbol → ℕ
width_of Zero = 2000
width_of One = 5000
width_of Marker = 8000
width_of Bad = 0

-- '0', '1', 'P' and '?'
abbrev pub letter_of : Symbol → ℕ
letter_of Zero = 48
letter_of One = 49
letter_of Marker = 80
letter_of Bad = 63
