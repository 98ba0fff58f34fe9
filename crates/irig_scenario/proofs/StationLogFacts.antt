-- Lines of the log that README shows, from 2016-12-31T23:59:54Z on, with a leap second at the end of that
-- day: what they show, and that it is true; and lines that show something else, or what is untrue.
use Rattle.std.proofs.Common.{◌≡◌, ◌≢◌, ℕ, ◌+◌, List, [], ◌∷◌, Some, None, pos, negsuc, refl, ap, arith, codes, inl, inr}
use Rattle.std.specs.Fmt.{digits}
use Rattle.std.proofs.lemmas.List.Elements.{All-from_recursion}
use Rattle.irig_time.specs.declared.leap.Leap.TheVariants.{Insert}
use Rattle.irig_time.specs.declared.second.UtcSecond.{UtcSecond}
use Rattle.irig_time.specs.Tables.{table}
use Rattle.irig_time.specs.Timelines.{TimelineValue, second_at, times}
use Rattle.irig_time.specs.TextValues.{second_text}
use Rattle.irig_time.proofs.StandardFacts.{known_dates, month_end_6209}
use Rattle.irig_time.proofs.TextValueLaws.{second_text_is}
use Rattle.irig_simulated.specs.declared.setup.Ticking.TheVariants.{ByWait, Each}
use Rattle.irig_simulated.specs.Setups.{DevicePlan}
use Rattle.scenario_values.specs.Names.{are_names, is_name}
use Rattle.report_log.proofs.LogLaws.{word_no_blank}
use Rattle.report_log.proofs.WordLaws.{AreNames, IsWord, word_by_test}
use Rattle.irig_station_scene.specs.StationLines.{HasNoBlank, ShowsStamp, ShowsTold, StampLine, ToldLine}
use Rattle.irig_station_scene.proofs.StationReadLaws.{none_is_shown, stamp_once, told_no_stamp, told_once}
use Rattle.irig_scene.specs.LogLines.{IsTimeOf}
use Rattle.irig_scene.proofs.NameLaws.{are_names_named}
use Rattle.irig_scenario.specs.StationLogs.{AreStampsTogether, IsFromBefore, IsTrueStamp, IsTrueTold, most_off}

-- ---- the plant

abbrev names : List (List ℕ)
names = codes "relay" ∷ codes "recorder" ∷ []

abbrev leap : TimelineValue
leap = times (record { day = 6209; sod = 86394 }) ((6209, Insert) ∷ [])

abbrev relay : DevicePlan
relay = record { rules = record { lock_after = 2; holdover = 3600 }; table = table 0 []; drift_us = 40; gain_us = pos 20; counter = 4290000000; late_us = 0 ∷ 350 ∷ 700 ∷ []; ticking = ByWait }

abbrev recorder : DevicePlan
recorder = record { rules = record { lock_after = 2; holdover = 3600 }; table = table 0 []; drift_us = 40; gain_us = negsuc 19; counter = 0; late_us = 0 ∷ 350 ∷ 700 ∷ []; ticking = Each 95000 }

abbrev devices : List DevicePlan
devices = relay ∷ recorder ∷ []

abbrev word : List ℕ
word = codes "2016-12-31T23:59:60Z"

no_blank : (text : List ℕ) → IsWord text → HasNoBlank text
no_blank text is = All-from_recursion (λ b. b ≢ 32) text (word_no_blank text is)

-- ---- a told second

abbrev told : ToldLine
told = record { device = 0; edge = 6; time = word; lock = codes "locked"; cause = codes "voted"; off = pos 349; bound = Some 450 }

told_shows : ShowsTold names (codes "6 relay 2016-12-31T23:59:60Z locked voted +349 450") told
unfolding digits
told_shows = record {
  named = omega arith;
  edge = omega arith;
  time = no_blank word (word_by_test word refl);
  lock = no_blank (codes "locked") (word_by_test (codes "locked") refl);
  cause = no_blank (codes "voted") (word_by_test (codes "voted") refl);
  off = omega arith;
  bound = omega arith;
  is = refl;
}

-- one that is not announced, before its edge
silent_shows : ShowsTold names (codes "1 recorder - acquiring:1 acquiring -12 -")
    (record { device = 1; edge = 1; time = codes "-"; lock = codes "acquiring:1"; cause = codes "acquiring"; off = negsuc 11; bound = None })
unfolding digits
silent_shows = record {
  named = omega arith;
  edge = omega arith;
  time = no_blank (codes "-") (word_by_test (codes "-") refl);
  lock = no_blank (codes "acquiring:1") (word_by_test (codes "acquiring:1") refl);
  cause = no_blank (codes "acquiring") (word_by_test (codes "acquiring") refl);
  off = omega arith;
  bound = tt;
  is = refl;
}

abbrev second : UtcSecond
second = record { day = 6209; sod = 86400 }

text : word ≡ second_text second
text =
    second_text_is second word (record { day = (omega arith, omega arith); sod = inr (refl, month_end_6209) })
    (record { year = 2016; month = 12; day_of_month = 31; date = (((omega arith, omega arith), (omega arith, omega arith), (omega arith, omega arith)), known_dates.1); text = refl })

time_of_6 : IsTimeOf leap 6 word
unfolding second_at
time_of_6 = record { second = second; is_true = refl; written = text }

told_is_true : IsTrueTold leap told
told_is_true = record { time = time_of_6; near = omega arith }

-- 451 us is too far off, and a second without a bound is never true
not_so_far : ¬ IsTrueTold leap (record told { off = negsuc 450 })
not_so_far h = omega (arith, h.near)

not_without_bound : ¬ IsTrueTold leap (record told { bound = None })
not_without_bound h = absurd h.near

-- ---- stamps

abbrev first : StampLine
first = record { device = 0; instant = 6300000; time = word; offset = 299657; bound = 450 }

abbrev other : StampLine
other = record { device = 1; instant = 6300000; time = word; offset = 299644; bound = 450 }

first_shows : ShowsStamp names (codes "@6.300000 relay 2016-12-31T23:59:60Z 299657 450") first
unfolding digits
first_shows = record { named = omega arith; instant = omega arith; time = no_blank word (word_by_test word refl); offset = omega arith; bound = omega arith; is = refl }

-- six digits, whatever the instant
early_shows : ShowsStamp names (codes "@12.000042 recorder 2016-12-31T23:59:60Z 7 450") (record other { instant = 12000042; offset = 7 })
unfolding digits
early_shows = record { named = omega arith; instant = omega arith; time = no_blank word (word_by_test word refl); offset = omega arith; bound = omega arith; is = refl }

first_is_true : IsTrueStamp leap (most_off devices first) first
first_is_true = record { m = 6; time = time_of_6; early = omega arith; late = omega arith }

other_is_true : IsTrueStamp leap (most_off devices other) other
other_is_true = record { m = 6; time = time_of_6; early = omega arith; late = omega arith }

together : AreStampsTogether leap (most_off devices first + most_off devices other) first other
together = record { m = 6; n = 6; one = time_of_6; two = time_of_6; least = omega arith; most = omega arith }

-- no stamp was given
named : AreNames names
unfolding are_names is_name
named = are_names_named names refl

no_stamp : (x : StampLine) → ¬ ShowsStamp names (codes "@6.300000 relay - - -") x
unfolding digits
no_stamp x = none_is_shown names 0 6300000 x named

-- a told second is no stamp
told_is_no_stamp : (x : StampLine) → ¬ ShowsStamp names (codes "6 relay 2016-12-31T23:59:60Z locked voted +349 450") x
told_is_no_stamp x = told_no_stamp names (codes "6 relay 2016-12-31T23:59:60Z locked voted +349 450") told x told_shows

-- ---- a log that broke

-- a line of edge 6 was logged before the second of edge 8; of one that broke in that of edge 7 it does not
-- say so
line_before_8 : IsFromBefore names 8 (codes "6 relay 2016-12-31T23:59:60Z locked voted +349 450")
line_before_8 = inl (told, told_shows, omega arith)

no_line_before_7 : ¬ IsFromBefore names 7 (codes "6 relay 2016-12-31T23:59:60Z locked voted +349 450")
no_line_before_7 (inl x) = omega (arith, ap (λ (y : ToldLine). y.edge) (told_once names (codes "6 relay 2016-12-31T23:59:60Z locked voted +349 450") x.0 told named x.1 told_shows), x.2)
no_line_before_7 (inr x) = told_is_no_stamp x.0 x.1

-- nor does a stamp of 6.3 s of one that broke in the second of edge 10, but of edge 11
stamp_before_11 : IsFromBefore names 11 (codes "@6.300000 relay 2016-12-31T23:59:60Z 299657 450")
stamp_before_11 = inr (first, first_shows, omega arith)

no_stamp_before_10 : ¬ IsFromBefore names 10 (codes "@6.300000 relay 2016-12-31T23:59:60Z 299657 450")
no_stamp_before_10 (inl x) = told_no_stamp names (codes "@6.300000 relay 2016-12-31T23:59:60Z 299657 450") x.0 first x.1 first_shows
no_stamp_before_10 (inr x) = omega (arith, ap (λ (y : StampLine). y.instant) (stamp_once names (codes "@6.300000 relay 2016-12-31T23:59:60Z 299657 450") x.0 first named x.1 first_shows), x.2)
