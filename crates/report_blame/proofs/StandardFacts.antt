-- Known values of the definitions, worked by hand.
use Rattle.std.proofs.Common.{◌≡◌, ℕ, true, List, [], ◌∷◌, Some, None, refl}
use Rattle.std.specs.Prelude.{codes, is_some, max}
use Rattle.std.specs.Fmt.{digits}
use Rattle.irig_time.specs.declared.second.UtcSecond.{UtcSecond}
use Rattle.report_log.specs.Offsets.{offset_from}
use Rattle.report_log.specs.Whens.{edges_text, unit_text, span_text, offset_text}
use Rattle.irig_timekeeper.specs.declared.clock.Beat.{Beat}
use Rattle.irig_station.specs.declared.entry.Entry.{Entry}
use Rattle.irig_station.specs.declared.entry.Entry.TheVariants.{Told}
use Rattle.report_blame.specs.declared.reach.Off.{Off}
use Rattle.report_blame.specs.Reaches.{reach_of}
use Rattle.report_blame.specs.Text.{edges_line, port_text, reach_text, seconds_text}

pub known_edges : edges_text 3 8 ≡ codes "edges 3 to 8: "
unfolding edges_text digits
known_edges = refl

pub known_edge : edges_text 12 12 ≡ codes "edge 12: "
unfolding edges_text digits
known_edge = refl

pub none_announced : seconds_text [] 0 0 ≡ codes "nothing\n"
unfolding seconds_text digits
none_announced = refl

pub one_untrue : seconds_text [] 1 1 ≡ codes "1 second, untrue\n"
unfolding seconds_text digits
one_untrue = refl

pub some_true : seconds_text [] 6 0 ≡ codes "6 seconds\n"
unfolding seconds_text digits
some_true = refl

pub some_untrue : seconds_text [] 2 1 ≡ codes "2 seconds, 1 of them untrue\n"
unfolding seconds_text digits
some_untrue = refl

-- of a recording of the lines IRIG1, IRIG2 and IRIG3
abbrev recorded : List ℕ
recorded = codes "IRIG1,IRIG2,IRIG3"

pub unlike_most : seconds_text recorded 2 1 ≡ codes "2 seconds, 1 of them unlike most lines\n"
unfolding seconds_text digits
unlike_most = refl

pub named : port_text recorded 1 ≡ codes "IRIG2"
named = refl

pub numbered_port : port_text [] 1 ≡ codes "port 1"
unfolding digits
numbered_port = refl

-- ---- offsets

abbrev leap_second : UtcSecond
leap_second = record { day = 6209; sod = 86400 }

abbrev new_year : ℕ → UtcSecond
new_year sod = record { day = 6210; sod = sod }

-- a clock that sends 00:00:00 instead of 23:59:60 is a second ahead, and one that sends 23:59:60 at
-- 00:00:00 a second behind
pub leap_ignored : offset_from leap_second (new_year 0) ≡ record { ahead = 1; behind = 0 }
leap_ignored = refl

pub leap_late : offset_from (new_year 0) leap_second ≡ record { ahead = 0; behind = 1 }
leap_late = refl

-- GPS time was 17 s ahead of UTC before the leap second of 2016, and 18 s after it
pub gps_before : offset_from (record { day = 6209; sod = 86390 }) (new_year 7) ≡ record { ahead = 17; behind = 0 }
gps_before = refl

pub gps_at_leap : offset_from leap_second (new_year 17) ≡ record { ahead = 18; behind = 0 }
gps_at_leap = refl

pub gps_after : offset_from (new_year 0) (new_year 18) ≡ record { ahead = 18; behind = 0 }
gps_after = refl

pub known_hours : offset_text (record { ahead = 0; behind = 36000 }) ≡ codes "10 h behind"
unfolding span_text unit_text digits
known_hours = refl

pub known_parts : offset_text (record { ahead = 93784; behind = 0 }) ≡ codes "1 d 2 h 3 min 4 s ahead"
unfolding span_text unit_text digits
known_parts = refl

-- ---- how far off the seconds of a device lay

abbrev pub off : ℕ → ℕ → Off
off before behind = record { before_us = before; behind_us = behind }

-- the line of docs/OUTPUT.md's numbers: the told edges lay from 81 us before the true ones to 99 us
-- behind them
pub known_reach : edges_line (codes "relay") (record { least = off 81 0; greatest = off 0 99; bound_us = 690 }) ≡ codes "edges of relay: -81 to +99 us off, bound at most 690 us\n"
unfolding edges_line digits
known_reach = refl

-- none off is no distance behind
pub known_none : edges_line (codes "meter") (record { least = off 0 0; greatest = off 0 0; bound_us = 450 }) ≡ codes "edges of meter: +0 to +0 us off, bound at most 450 us\n"
unfolding edges_line digits
known_none = refl

pub nothing_announced : reach_text (codes "relay") None ≡ []
nothing_announced = refl

-- told edges at 199, 201 and 205 of a counter that shows 200 at the true ones: 1 us before, 1 us and
-- 5 us behind
module _ (beat : Beat) (said : is_some beat.report.announce ≡ true) where
  abbrev pub told_at : ℕ → Entry
  told_at count = Told 0 (record { edge = 7; edge_count = 200; told_count = count; beat = beat })

  pub all_behind : reach_of 0 (told_at 201 ∷ (told_at 205 ∷ [])) ≡ Some (record { least = off 0 1; greatest = off 0 5; bound_us = max beat.bound_us beat.bound_us })
  all_behind = rw said refl

  pub around : reach_of 0 (told_at 201 ∷ (told_at 199 ∷ (told_at 205 ∷ []))) ≡ Some (record { least = off 1 0; greatest = off 0 5; bound_us = max (max beat.bound_us beat.bound_us) beat.bound_us })
  around = rw said refl

  -- another device has none of these
  pub of_another : reach_of 1 (told_at 201 ∷ []) ≡ None
  of_another = refl
