-- What lists say, at known values.
use Rattle.std.proofs.Common.{◌≡◌, ℕ, List, [], ◌∷◌, Some, None, true, refl}
use Rattle.std.specs.Prelude.{codes, Ok, Err}
use Rattle.record_levels.specs.declared.limits.TimeFault.TheVariants.{Back, Beyond}
use Rattle.record_list.specs.declared.now.Now.{Now}
use Rattle.record_list.specs.declared.pulse.Pulse.{Pulse}
use Rattle.record_list.specs.declared.row.Reason.TheVariants.{Columns, NoRow, Port, Rise, Time, Width}
use Rattle.record_list.specs.declared.row.Row.{Row}
use Rattle.record_list.specs.Pulses.{high_at, unended}
use Rattle.record_list.specs.Rows.{bit_of, row_of, span_by, span_of}
use Rattle.record_list.specs.Changes.{Said, changes_of, said_while, start, step, until}
use Rattle.record_list.specs.Changes.Said.{Change, Ends, Refused}
use Rattle.record_list.specs.Changes.Step.{Goes, Refuses}

-- ---- rows

abbrev row : (port rise width : ℕ) → Row
row port rise width = record { port = port; rise_us = rise; width_us = width }

pub known_rows : (row_of (codes "0,50000,8000") ≡ Ok (row 0 50000 8000)) × (row_of (codes " 2, 4294967295 ,0") ≡ Ok (row 2 4294967295 0))
    × (row_of (codes "1,18446744073709551615,4294967295") ≡ Ok (row 1 18446744073709551615 4294967295))
known_rows = (refl, refl, refl)

pub known_no_rows : (row_of (codes "0,50000") ≡ Err (Columns 2)) × (row_of (codes "relay,0,50000,8000") ≡ Err (Columns 4)) × (row_of (codes "-1,5e4,x") ≡ Err Port)
    × (row_of (codes "0,5e4,x") ≡ Err Rise) × (row_of (codes "0,18446744073709551616,8000") ≡ Err Rise) × (row_of (codes "0,50000,8.0") ≡ Err Width)
    × (row_of (codes "0,50000,4294967296") ≡ Err Width) × (row_of (codes "0,,8000") ≡ Err Rise)
known_no_rows = (refl, refl, refl, refl, refl, refl, refl, refl)

pub known_bits : (bit_of (0 ∷ 1 ∷ 2 ∷ []) 0 ≡ 1) × (bit_of (0 ∷ 1 ∷ 2 ∷ []) 2 ≡ 4) × (bit_of (9 ∷ 7 ∷ []) 7 ≡ 2) × (bit_of (0 ∷ 1 ∷ 2 ∷ []) 3 ≡ 0)
known_bits = (refl, refl, refl, refl)

-- ---- times

-- the counter wraps at 2^32 us: 10 us pass from 4294967290 to 4
pub known_wraps : (span_by 4294967290 (row 0 4 2000) ≡ Ok (record { from_ns = 4294967300000; to_ns = 4294969300000 }))
    × (span_by 4294967300 (row 0 4294967290 2000) ≡ Ok (record { from_ns = 4294967290000; to_ns = 4294969290000 }))
known_wraps = (refl, refl)

-- up to 1 s back and 4,000 s ahead, and no microsecond more
pub known_ways : (span_by 5000000 (row 0 4000000 1) ≡ Ok (record { from_ns = 4000000000; to_ns = 4000001000 })) × (span_by 5000000 (row 0 3999999 1) ≡ Err (Time Back))
    × (span_by 5000000 (row 0 4005000000 1) ≡ Ok (record { from_ns = 4005000000000; to_ns = 4005000001000 })) × (span_by 5000000 (row 0 4005000001 1) ≡ Err (Time Back))
known_ways = (refl, refl, refl, refl)

-- 300 us before the counter's 0: the part of the pulse behind it is left
pub known_front : span_by 500 (row 1 4294966996 8000) ≡ Ok (record { from_ns = 0; to_ns = 7700000 })
known_front = refl

-- a counter that does not wrap may go on after two hours
pub known_long : (span_by 4300000000 (row 0 11500000000 1) ≡ Ok (record { from_ns = 11500000000000; to_ns = 11500000001000 })) × (span_by 5300000001 (row 0 4300000000 1) ≡ Err (Time Back))
known_long = (refl, refl)

-- all times lie before 1,000 hours
pub known_ends : (span_of start (row 0 3599999999998 1) ≡ Ok (record { from_ns = 3599999999998000; to_ns = 3599999999999000 })) × (span_of start (row 0 3599999999999 1) ≡ Err (Time Beyond))
known_ends = (refl, refl)

-- ---- levels

abbrev pulse : (bit from to : ℕ) → Pulse
pulse bit from to = record { bit = bit; from_ns = from; to_ns = to }

-- two lines, of which the second has two pulses that overlap, and one of no length
abbrev pulses : List Pulse
pulses = pulse 1 2 4 ∷ pulse 2 3 5 ∷ pulse 2 4 7 ∷ pulse 1 6 6 ∷ []

pub known_levels : (high_at pulses 1 ≡ 0) × (high_at pulses 2 ≡ 1) × (high_at pulses 3 ≡ 3) × (high_at pulses 4 ≡ 2) × (high_at pulses 6 ≡ 2) × (high_at pulses 7 ≡ 0)
    × (unended pulses 5 ≡ pulse 2 4 7 ∷ pulse 1 6 6 ∷ [])
known_levels = (refl, refl, refl, refl, refl, refl, refl)

abbrev levels : (time high : ℕ) → Said
levels time high = Change (record { time_ns = time; high = high })

pub known_changes : said_while 9 pulses start (λ next. Ends next.at_ns ∷ [])
    ≡ levels 0 0 ∷ levels 2 1 ∷ levels 3 3 ∷ levels 4 2 ∷ levels 7 0 ∷ Ends 9 ∷ []
known_changes = refl

-- ---- steps

-- where the first pulse rose at 5 s, and the levels before 4.5 s were said
abbrev here : Now
here = record { is_begun = true; at_ns = 4500000000; high = Some 0; newest_ns = 5500000000; end_ns = 5508000000 }

abbrev newer : Now
newer = record { is_begun = true; at_ns = 4500000000; high = Some 0; newest_ns = 5600000000; end_ns = 5602000000 }

-- a row more lets a pulse go that has ended; of a port that is not chosen none is kept; a remark does nothing
pub known_steps : (step (0 ∷ 1 ∷ []) (pulse 1 4000000000 4500000000 ∷ pulse 1 4400000000 4500000001 ∷ []) here (record { text = codes "1,5600000,2000"; number = 7 })
    ≡ Goes (pulse 1 4400000000 4500000001 ∷ pulse 2 5600000000 5602000000 ∷ []) newer)
    × (step (0 ∷ []) [] here (record { text = codes "1,5600000,2000"; number = 7 }) ≡ Goes [] newer)
    × (step (0 ∷ []) [] here (record { text = codes "# 1,5600000,2000"; number = 7 }) ≡ Goes [] here)
    × (step (0 ∷ []) [] here (record { text = codes "0,4499999,2000"; number = 7 }) ≡ Refuses (record { line = 7; reason = Time Back }))
known_steps = (refl, refl, refl, refl)

-- the first row begins the recording a second before its pulse, or at the counter's 0; what is sure then is nothing
pub known_first : (step (0 ∷ []) [] start (record { text = codes "0,5000000,8000"; number = 2 })
    ≡ Goes (pulse 1 5000000000 5008000000 ∷ []) (record { is_begun = true; at_ns = 4000000000; high = None; newest_ns = 5000000000; end_ns = 5008000000 }))
    × (step (0 ∷ []) [] start (record { text = codes "0,50000,8000"; number = 2 })
    ≡ Goes (pulse 1 50000000 58000000 ∷ []) (record { is_begun = true; at_ns = 0; high = None; newest_ns = 50000000; end_ns = 58000000 }))
    × (until here ≡ 4500000000)
known_first = (refl, refl, refl)

-- no row stands below the names on line 3
pub known_none : changes_of (record { above = 3; ports = 0 ∷ [] }) [] ≡ Refused (record { line = 3; reason = NoRow }) ∷ []
known_none = refl
