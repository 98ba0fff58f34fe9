-- The time of the lines by that of a recorder, in microseconds.
-- Source: this project's profile.
use Rattle.std.specs.Prelude.{ℕ, ◌+◌, ◌-◌, ◌*◌, ◌/◌, min, nat_le, if◌then◌else◌}
use Rattle.record_lines.specs.declared.pace.LinesTime.{LinesTime}

-- 1,000 hours: all times of a recording lie before
abbrev pub end_us : ℕ
end_us = 3600000000000

-- a time, or the end of all times
abbrev pub within_end : ℕ → ℕ
within_end time = min time end_us

-- so many microseconds of the recorder in those of the lines, whose second is so long by it
abbrev pub in_lines : (time second : ℕ) → ℕ
in_lines time second = time * 1000000 / second

-- so many microseconds of the lines in those of the recorder
abbrev pub in_recorder : (lines second : ℕ) → ℕ
in_recorder lines second = lines * second / 1000000

-- the lines' time at one of the recorder, not beyond the end
abbrev pub lines_by : LinesTime → (time : ℕ) → ℕ
lines_by t time =
    if nat_le t.base_us time then t.lines_us + in_lines (time - t.base_us) t.second_us
    else t.lines_us - in_lines (t.base_us - time) t.second_us

-- the lines' time at one of the recorder
abbrev pub lines_at : LinesTime → (time : ℕ) → ℕ
lines_at t time = lines_by t (within_end time)

-- the recorder's time at one of the lines, not beyond the end
abbrev pub recorder_by : LinesTime → (lines : ℕ) → ℕ
recorder_by t lines =
    if nat_le t.lines_us lines then t.base_us + in_recorder (lines - t.lines_us) t.second_us
    else t.base_us - in_recorder (t.lines_us - lines) t.second_us

-- the recorder's time at one of the lines
abbrev pub recorder_at : LinesTime → (lines : ℕ) → ℕ
recorder_at t lines = recorder_by t (min lines (2 * end_us))
