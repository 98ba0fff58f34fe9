-- The time quality that a device may send on, by how far off its seconds may lie.
-- Source: IEEE 1344-1995, annex on IRIG-B, time quality, as IEEE C37.118 takes it over: 0 says that a
-- clock is locked to its source, 1 that it is within 1 ns, each code more ten times that, up to 10,
-- within 1 s, and 15 that it has failed. That a device which goes by lines says 4 at least, and 15
-- beyond 1 s, is this project's profile.
use Rattle.std.specs.Prelude.{ℕ, nat_le, if◌then◌else◌}

-- by a bound in microseconds
abbrev pub quality_of : ℕ → ℕ
quality_of bound =
    if nat_le bound 1 then 4
    else (if nat_le bound 10 then 5
    else (if nat_le bound 100 then 6
    else (if nat_le bound 1000 then 7
    else (if nat_le bound 10000 then 8
    else (if nat_le bound 100000 then 9
    else (if nat_le bound 1000000 then 10
    else 15))))))
