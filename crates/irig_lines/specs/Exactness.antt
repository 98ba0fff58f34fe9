-- How exact the lines and the counter of a device are, and how exact it is by them, in microseconds.
-- Source: this project's profile.
use Rattle.std.specs.Prelude.{ℕ, ◌+◌, ◌-◌, ◌*◌, min}
use Rattle.irig_sync.specs.Edges.{element_drift}

-- the most that a setup may say of its lines: a pulse of a true line rises less than this from its
-- place
abbrev pub most_within_us : ℕ
most_within_us = 450

-- a counter runs at most this wrong in a second
abbrev pub most_drift_us : ℕ
most_drift_us = 100

-- a frame votes only if its clock says of itself that it is no further off than this
abbrev pub most_quality_us : ℕ
most_quality_us = 1000

-- the frames of two lines whose clocks are right end no further apart than this, by lines that are so
-- exact
abbrev pub window_us : ℕ → ℕ
window_us within = 2 * (within - 1)

-- the frame of a true line ends at most this far from its edge, by a counter that runs d us a second
-- wrong: its end is 10 ms behind its last pulse, and the last element may be longer or shorter
abbrev pub end_off_us : ℕ → ℕ → ℕ
end_off_us within d = within - 1 + element_drift d

-- the last pulse of a frame rises 990 ms behind its first one, but for this: each of them may be so far
-- from its place, and the second may be longer or shorter by d us
abbrev pub uneven_us : ℕ → ℕ → ℕ
uneven_us within d = window_us within + d

-- a frame of which one pulse is at fault ends at most so much further before its edge: if that is its
-- last one, its first one is true, and the frame is even
abbrev pub fault_early_us : ℕ → ℕ → ℕ
fault_early_us within d = window_us within + 2 * d - element_drift d

-- and at most so much further behind its edge: its last pulse also rises less than 11 ms behind the one
-- before
abbrev pub fault_late_us : ℕ → ℕ → ℕ
fault_late_us within d =
    min (fault_early_us within d) (999 + element_drift (2 * d) - element_drift d)

-- the edge on which lines agree lies at most this far from the true one, whatever the setup
abbrev pub most_vote_us : ℕ
most_vote_us = 2 * (most_within_us - 1 + most_quality_us) + element_drift most_drift_us

-- the drift of a holdover and of two seconds more comes to no more than this
abbrev pub most_held_us : ℕ
most_held_us = 490000
