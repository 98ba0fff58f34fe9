-- Lines of which a tick changes nothing.
use Rattle.std.specs.Prelude.{ℕ, ◌==◌, ◌&&◌, ◌||◌, Bool, not}
use Rattle.irig_sync.specs.Sync.{clock_gap, is_idle}
use Rattle.irig_lines.specs.Counting.{is_gone}
use Rattle.c_lines.specs.declared.line.IrigLine.{IrigLine}
use Rattle.c_lines.specs.declared.line.IrigLines.{IrigLines}

-- a line keeps no frame, what is seen of it is not gone, and it is not idle, or is known to be
abbrev pub is_quiet_line : ℕ → IrigLine → Bool
is_quiet_line now l =
    l.has_frame == 0
    && ((l.is_seen == 0 || not (is_gone l.end_us now))
    && (not (is_idle (clock_gap l.sync.rise_us now))
    || (l.is_heard == 0 && (l.sync.place == 0 && l.sync.was_marker == 1))))

-- so are five
abbrev pub are_quiet : ℕ → IrigLines → Bool
are_quiet now ls =
    is_quiet_line now ls.a
    && (is_quiet_line now ls.b
    && (is_quiet_line now ls.c && (is_quiet_line now ls.d && is_quiet_line now ls.e)))
