-- What is weighed of lines and of seconds that were announced.
-- Source: this library's own.
use Rattle.std.specs.Prelude.{ℕ, ◌+◌, ◌*◌, List, [], ◌∷◌, ◌++◌}
use Rattle.c_numbers.specs.CheckWord.{tally_numbers}
use Rattle.c_lines.specs.declared.announced.IrigAnnounced.{IrigAnnounced}
use Rattle.c_lines.specs.declared.line.IrigLine.{IrigLine}
use Rattle.c_lines.specs.declared.line.IrigLines.{IrigLines}

-- the numbers of a second that was announced
abbrev pub announced_numbers : IrigAnnounced → List ℕ
announced_numbers a = a.day ∷ a.sod ∷ a.edge_us ∷ a.bound_us ∷ a.is_told ∷ []

-- four bytes of a line as one number
abbrev pub flags_of : IrigLine → ℕ
flags_of l = l.is_uneven + 256 * l.has_frame + 65536 * l.is_seen + 16777216 * l.is_heard

-- the numbers of a line
abbrev pub line_numbers : IrigLine → List ℕ
line_numbers l =
    l.sync.rise_us ∷ l.sync.place ∷ l.sync.was_marker
    ∷ tally_numbers l.port ++ (tally_numbers l.frame
    ++ l.begin_us ∷ l.end_us ∷ flags_of l ∷ [])

-- the numbers of five lines
abbrev pub lines_numbers : IrigLines → List ℕ
lines_numbers ls =
    line_numbers ls.a ++ (line_numbers ls.b ++ (line_numbers ls.c
    ++ (line_numbers ls.d ++ line_numbers ls.e)))
