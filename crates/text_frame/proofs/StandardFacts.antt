-- Known lines, so that a wrong definition does not check: those of the worked examples, and each
-- number and name of docs/FAULTS.md.
use Rattle.std.proofs.Common.{◌≡◌, ℕ, pos, true, List, [], ◌∷◌, Some, map, refl, sym}
use Rattle.std.specs.Prelude.{codes}
use Rattle.std.specs.Fmt.{digits}
use Rattle.irig_frame.specs.declared.coded.Coded.{Coded}
use Rattle.irig_frame.specs.declared.layout.Field.TheVariants.{Second, Minute, Hour, Day, Year}
use Rattle.irig_frame.specs.declared.fault.FrameFault.TheVariants.{Short, Long, Pulse, Marker, Digit, Range}
use Rattle.irig_control.specs.declared.parity.Parity.TheVariants.{Odd}
use Rattle.irig_control.specs.Control.{word_of}
use Rattle.irig_time.specs.declared.leap.Leap.TheVariants as leap
use Rattle.irig_time.specs.declared.rules.Sense.{Sense}
use Rattle.irig_time.specs.declared.rules.Sense.TheVariants.{Add, Subtract}
use Rattle.irig_time.specs.declared.mark.Mark.{Mark}
use Rattle.irig_time.specs.declared.mark.Mark.TheVariants.{Unspoken, NoLeap, Insert, Delete}
use Rattle.irig_time.specs.declared.claim.TimeFault.TheVariants.{NoSuchDay, OutOfYears, Second60, DeletedSecond}
use Rattle.irig_time.proofs.TextValueLaws.{known_second_text}
use Rattle.irig_port.specs.declared.told.PortFault.{PortFault}
use Rattle.irig_port.specs.declared.told.PortFault.TheVariants as fault
use Rattle.irig_port.specs.declared.told.Told.TheVariants.{Silence, Fault, Poor, Claim}
use Rattle.text_frame.specs.declared.frame.FrameOptions.{FrameOptions}
use Rattle.text_frame.specs.Frame.{control_with}
use Rattle.text_frame.specs.Reading.{clock_text, coded_line, told_line, with_zeros}

pub known_zeros : map (with_zeros 3) (1 ∷ 31 ∷ 366 ∷ []) ≡ codes "001" ∷ codes "031" ∷ codes "366" ∷ []
unfolding digits
known_zeros = refl

abbrev coded : ℕ → ℕ → ℕ → ℕ → ℕ → ℕ → ℕ → Coded
coded year day hour minute second control sbs = record { second = second; minute = minute; hour = hour; day = day; year = year; control = control; sbs = sbs }

pub known_coded_lines : (coded_line (coded 17 1 5 29 59 17073 19799) ≡ codes "coded 2017-001 05:29:59 control 17073 sbs 19799\n")
    × (coded_line (coded 0 3 0 0 0 0 0) ≡ codes "coded 2000-003 00:00:00 control 0 sbs 0\n")
    × (coded_line (coded 16 365 23 59 60 0 86400) ≡ codes "coded 2016-365 23:59:60 control 0 sbs 86400\n")
unfolding coded_line clock_text digits
known_coded_lines = (refl, refl, refl)

abbrev faulty : PortFault → List ℕ
faulty f = told_line (Fault f)

pub known_faults : (faulty (fault.Frame (Short 99)) ≡ codes "fault 1 Short 99\n") × (faulty (fault.Frame Long) ≡ codes "fault 2 Long\n")
    × (faulty (fault.Frame (Pulse 12)) ≡ codes "fault 3 Pulse 12\n") × (faulty (fault.Frame (Marker 9)) ≡ codes "fault 4 Marker 9\n")
    × (faulty (fault.Frame (Digit Second)) ≡ codes "fault 5 Digit second\n") × (faulty (fault.Frame (Range Minute)) ≡ codes "fault 6 Range minute\n")
    × (faulty (fault.Frame (Range Hour)) ≡ codes "fault 6 Range hour\n") × (faulty (fault.Frame (Digit Day)) ≡ codes "fault 5 Digit day\n")
    × (faulty (fault.Frame (Digit Year)) ≡ codes "fault 5 Digit year\n")
    × (faulty (fault.Time NoSuchDay) ≡ codes "fault 7 NoSuchDay\n") × (faulty (fault.Time OutOfYears) ≡ codes "fault 8 OutOfYears\n")
    × (faulty (fault.Time Second60) ≡ codes "fault 9 Second60\n") × (faulty (fault.Time DeletedSecond) ≡ codes "fault 10 DeletedSecond\n")
    × (faulty fault.Parity ≡ codes "fault 17 Parity\n") × (faulty fault.Sbs ≡ codes "fault 18 Sbs\n")
unfolding told_line digits
known_faults = (refl, refl, refl, refl, refl, refl, refl, refl, refl, refl, refl, refl, refl, refl, refl)

abbrev claimed : Mark → List ℕ
claimed mark = told_line (Claim (record { at = record { day = 6209; sod = 86400 }; mark = mark }))

pub known_claims : (claimed Unspoken ≡ codes "claim 2016-12-31T23:59:60Z unspoken\n") × (claimed NoLeap ≡ codes "claim 2016-12-31T23:59:60Z no-leap\n")
    × (claimed Insert ≡ codes "claim 2016-12-31T23:59:60Z insert\n") × (claimed Delete ≡ codes "claim 2016-12-31T23:59:60Z delete\n")
unfolding told_line
known_claims = (rw (sym known_second_text) refl, rw (sym known_second_text) refl, rw (sym known_second_text) refl, rw (sym known_second_text) refl)

pub known_others : (told_line Silence ≡ codes "silence\n") × (told_line (Poor 10) ≡ codes "poor 10\n")
unfolding told_line digits
known_others = (refl, refl)

abbrev asked : Sense → FrameOptions
asked sense = record { local = pos 11; pending = Some leap.Delete; dst = true; quality = 9; parity = Odd; sense = sense }

-- leap pending 1 and its kind 2, daylight saving 8, five hours 160 and a half 512, quality 9216; the
-- sign 16
pub known_control_words : (word_of (control_with (asked Subtract)) ≡ 9899) × (word_of (control_with (asked Add)) ≡ 9915)
unfolding word_of
known_control_words = (refl, refl)
