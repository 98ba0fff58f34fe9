-- How far from the end of its frame the edge of a line may lie: by how exact lines are, and by how far
-- off its clock says of itself that it may be.
-- Source: IEEE 1344-1995, annex on IRIG-B, time quality, as IEEE C37.118 takes it over: 0 says that a
-- clock is locked to its source, 1 that it is right within 1 ns, and each code more ten times that: 4
-- within 1 us, 5 within 10 us, 6 within 100 us, 7 within 1 ms. What is less than 1 us counts as 1 us.
-- That frames of a worse quality have no vote is this project's profile.
use Rattle.std.specs.Prelude.{ℕ, ◌+◌, ◌-◌, ◌*◌, ◌==◌, min, nat_le, if◌then◌else◌}
use Rattle.irig_sync.specs.Edges.{element_drift}
use Rattle.irig_lines.specs.declared.setup.ClockRules.{ClockRules}
use Rattle.irig_lines.specs.Exactness.{most_quality_us}

-- how far off a clock of such a quality may be, in microseconds
abbrev pub quality_us : ℕ → ℕ
quality_us quality =
    if quality == 0 then 0
    else (if nat_le quality 4 then 1
    else (if nat_le quality 5 then 10
    else (if nat_le quality 6 then 100
    else most_quality_us)))

-- the worst quality of a frame that has a vote
abbrev pub worst_of : ClockRules → ℕ
worst_of c = c.limits.limits.poor_from - 1

-- the edge of a frame of such a quality lies at most this far from its end, if its line is true, but for
-- the drift of an element
abbrev pub half_us : ClockRules → (quality : ℕ) → ℕ
half_us c quality = c.within.us - 1 + quality_us (min quality (worst_of c))

-- that of any frame that has a vote
abbrev pub widest_us : ClockRules → ℕ
widest_us c = c.within.us - 1 + quality_us (worst_of c)

-- an edge that may be that of a frame lies at most this far from any other one that may be
abbrev pub reach_us : ClockRules → ℕ
reach_us c = 2 * widest_us c

-- the edge on which lines agree lies at most this far from the true one: what they leave reaches no
-- further than the interval of one frame to either side, and its middle is told
abbrev pub vote_us : ClockRules → (d : ℕ) → ℕ
vote_us c d = reach_us c + element_drift d
