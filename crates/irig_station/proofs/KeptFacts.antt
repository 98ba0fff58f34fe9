-- A station that computes: one device hears three clocks from 2016-12-31T12:00:00Z on for 1.05 s, is then
-- ticked by hand, announces 12:00:01, and stamps the instant 10 ms behind that. The frames are those of
-- tests/model.
use Rattle.std.specs.Prelude.{All, nat_lt, if◌then◌else◌, slice_get, ◌&&◌}
use Rattle.std.proofs.Common.{◌≡◌, ◌∙◌, ℕ, zero, suc, ◌+◌, ◌-◌, ◌/◌, ◌%◌, ◌≤◌, ◌==◌, Bool, false, true, List, [], ◌∷◌, ◌++◌, length, map, Option, Some, None, pos, refl, sym, ap, subst, arith, inl, inr, get_or}
use Rattle.std.proofs.Math.Path.{fun_ext}
use Rattle.std.proofs.lemmas.List.{map-append}
use Rattle.std.proofs.lemmas.List.Elements.{All-cons, All-from_recursion, All-nil}
use Rattle.std.proofs.lemmas.Bool.{cases_Bool, eqb-true}
use Rattle.irig_frame.specs.declared.symbol.Symbol.{Symbol}
use Rattle.irig_frame.specs.declared.symbol.Symbol.TheVariants.{Zero, One, Marker}
use Rattle.irig_frame.specs.Encoder.{frame_of_coded}
use Rattle.irig_frame.specs.Faults.{field_at, values_of}
use Rattle.irig_control.specs.Control.{control_of, offset_in, word_of}
use Rattle.irig_control.specs.Parity.{ones}
use Rattle.irig_time.specs.Claims.{utc_minute}
use Rattle.irig_time.specs.CodedTime.{time_shown}
use Rattle.irig_time.specs.Days.{four_years, is_month_end}
use Rattle.irig_time.specs.Frames.{frame_of_second}
use Rattle.irig_time.specs.Timelines.{second_at}
use Rattle.irig_time.specs.declared.second.UtcSecond.{UtcSecond}
use Rattle.irig_gen.specs.Frames.{GeneratorValue, gen}
use Rattle.irig_gen.specs.Sent.{frame_of, sent_of}
use Rattle.irig_lives.specs.Decided.{have_risen, in_order, is_after, is_pulse_of, is_same}
use Rattle.irig_lives.proofs.LifeFacts.{no_table, noon, rules}
use Rattle.irig_port.specs.Told.{coded_told, frame_told, told_of}
use Rattle.irig_wires.specs.Wires.{most_late_us}
use Rattle.irig_simulated.specs.declared.setup.Ticking.TheVariants.{ByHand}
use Rattle.irig_simulated.specs.declared.heard.HeardPulse.{HeardPulse}
use Rattle.irig_simulated.specs.Heard.{heard_until}
use Rattle.irig_simulated.specs.Setups.{DevicePlan}
use Rattle.irig_simulated.specs.Kinds.{IsDevicePlan, Kind}
use Rattle.irig_simulated.specs.Courses.{Course, keeps_so_far, may_stamp, passed, stamp_said, ticked}
use Rattle.irig_reader.specs.Rule.{step_of}
use Rattle.irig_timekeeper.specs.Rule.{goes_against, step_checked}
use Rattle.irig_witness.specs.TrueFrames.{blank, first_harmless}
use Rattle.irig_station.specs.declared.audit.Audit.TheVariants.{Kept}
use Rattle.irig_station.specs.declared.entry.Entry.{Entry}
use Rattle.irig_station.specs.declared.entry.Entry.TheVariants.{Told, Stamped}
use Rattle.irig_station.specs.declared.event.Event.TheVariants.{Pass, Stamp, Tick}
use Rattle.irig_station.specs.StationPlay.{audit_of_station, log_of_station, play_event, standing_after}
use Rattle.irig_station.specs.StationSetups.{IsStationSetup, StationSetup, kind_of_device, station_setup}
use Rattle.irig_station.specs.SentSeconds.{SentSecond, frames_by, frames_of_sent, sent_second, signal_by}
use Rattle.irig_station.specs.StationAudits.{audit_seen}
use Rattle.irig_station.specs.StationStandings.{StationStanding, StationStep, at_course, goes_to, has_begun_if_due, has_stamped, symbols_so_far, with_course, with_entries, has_gone, lacks_second, most_parts, part_gone, part_us, station_at_start, time_gone}
use Rattle.irig_station.specs.StationPromise.{IsTrueEntry}
use Rattle.irig_station.proofs.PromiseLaws.{kept_true}
use Rattle.irig_station.proofs.PassLaws.{time_over, time_step}
use Rattle.irig_station.proofs.LightCourses.{light, passes_to}

-- ---- a station of one device

-- what device 0 heard up to a time, which is not counted out
abbrev heard_to : StationSetup → (stop : ℕ) → StationStanding → List HeardPulse
heard_to s stop x = x.heard ++ heard_until (kind_of_device s 0) 0 (signal_by x.seconds) stop (x.courses 0)

part_by : (s : StationSetup) (x : StationStanding) (stop : ℕ) (c : Course) → length s.devices ≡ 1 → passed (kind_of_device s 0) (signal_by x.seconds) stop (x.courses 0) ≡ c
    → part_gone s stop x ≡ record (has_gone s 0 c x) { now = stop; heard = heard_to s stop x }
part_by s x stop c one e = rw one (ap (λ (y : Course). record (has_gone s 0 y x) { now = stop; heard = heard_to s stop x }) e)

-- what a tick by hand does, and a stamp
tick_by : (s : StationSetup) (x y : StationStanding) → length s.devices ≡ 1 → has_gone s 0 (ticked (kind_of_device s 0) (x.courses 0)) x ≡ y → (play_event s (Tick 0) x).standing ≡ y
tick_by s x y one e = rw one e

stamp_by : (s : StationSetup) (us : ℕ) (x y : StationStanding) → length s.devices ≡ 1 → nat_lt x.now us ≡ false → has_stamped s 0 (x.now - us) x ≡ y → (play_event s (Stamp 0 us) x).standing ≡ y
stamp_by s us x y one past e = rw (one, past) e

stamped_by : (s : StationSetup) (time : ℕ) (x : StationStanding) → x.audit ≡ Kept → may_stamp (kind_of_device s 0) (symbols_so_far s x) (x.courses 0) time ≡ true
    → has_stamped s 0 time x ≡ with_entries (Stamped 0 time (stamp_said (kind_of_device s 0) (x.courses 0) time) ∷ []) Kept x
stamped_by s time x kept may = rw (kept, may) refl

all_by : (s : StationSetup) (us ago : ℕ) (x y z : StationStanding) → (play_event s (Pass us) (station_at_start s)).standing ≡ x → (play_event s (Tick 0) x).standing ≡ y → (play_event s (Stamp 0 ago) y).standing ≡ z
    → standing_after s (Stamp 0 ago ∷ Tick 0 ∷ Pass us ∷ []) ≡ z
all_by s us ago x y z first second third =
    ap (λ (w : StationStanding). (play_event s (Stamp 0 ago) (play_event s (Tick 0) w).standing).standing) first
    ∙ ap (λ (w : StationStanding). (play_event s (Stamp 0 ago) w).standing) second ∙ third

-- what an entry shows: its device, edge or instant, distance or offset, and bound, behind the second
abbrev pub shown_by : Option UtcSecond → List ℕ → List ℕ
shown_by None numbers = numbers
shown_by (Some u) numbers = u.day ∷ u.sod ∷ numbers

abbrev pub shown : Entry → List ℕ
shown (Told r told) = shown_by told.beat.report.announce (r ∷ told.edge ∷ (told.told_count - told.edge_count) ∷ told.beat.bound_us ∷ [])
shown (Stamped r time None) = r ∷ time ∷ []
shown (Stamped r time (Some s)) = shown_by (Some s.second) (r ∷ time ∷ s.offset_us ∷ s.bound_us ∷ [])

joined : (x : StationStanding) (es : List Entry) (l m : List (List ℕ)) → map shown x.log ≡ l → map shown es ≡ m → map shown (with_entries es Kept x).log ≡ l ++ m
joined x es l m first second = map-append shown x.log es ∙ ap (λ (y : List (List ℕ)). y ++ map shown es) first ∙ ap (λ (y : List (List ℕ)). l ++ y) second

-- ---- the station

abbrev pub source : ℕ → GeneratorValue
source edge = gen (record { half_hours = pos 0; dst = false }) [] rules edge None 0

abbrev pub device : DevicePlan
device = record { rules = record { lock_after = 1; holdover = 57 }; table = no_table; drift_us = 20; gain_us = pos 0; counter = 0; late_us = 0 ∷ 0 ∷ 0 ∷ []; ticking = ByHand }

abbrev pub station : StationSetup
station = station_setup noon (source 0 ∷ source 0 ∷ source 0 ∷ []) rules (device ∷ [])

abbrev frame : List Symbol
frame = Marker ∷ Zero ∷ Zero ∷ Zero ∷ Zero ∷ Zero ∷ Zero ∷ Zero ∷ Zero ∷ Marker ∷ Zero ∷ Zero ∷ Zero ∷ Zero ∷ Zero ∷ Zero ∷ Zero ∷ Zero ∷ Zero ∷ Marker ∷ Zero ∷ One ∷ Zero ∷ Zero ∷ Zero ∷ One ∷ Zero ∷ Zero ∷ Zero ∷ Marker ∷ Zero ∷ One ∷ One ∷ Zero ∷ Zero ∷ Zero ∷ One ∷ One ∷ Zero ∷ Marker ∷ One ∷ One ∷ Zero ∷ Zero ∷ Zero ∷ Zero ∷ Zero ∷ Zero ∷ Zero ∷ Marker ∷ Zero ∷ One ∷ One ∷ Zero ∷ Zero ∷ One ∷ Zero ∷ Zero ∷ Zero ∷ Marker ∷ Zero ∷ Zero ∷ Zero ∷ Zero ∷ Zero ∷ Zero ∷ Zero ∷ Zero ∷ Zero ∷ Marker ∷ Zero ∷ Zero ∷ Zero ∷ Zero ∷ Zero ∷ One ∷ Zero ∷ Zero ∷ Zero ∷ Marker ∷ Zero ∷ Zero ∷ Zero ∷ Zero ∷ Zero ∷ Zero ∷ One ∷ One ∷ Zero ∷ Marker ∷ Zero ∷ Zero ∷ One ∷ Zero ∷ One ∷ Zero ∷ One ∷ Zero ∷ Zero ∷ Marker ∷ []

abbrev next_frame : List Symbol
next_frame = Marker ∷ One ∷ Zero ∷ Zero ∷ Zero ∷ Zero ∷ Zero ∷ Zero ∷ Zero ∷ Marker ∷ Zero ∷ Zero ∷ Zero ∷ Zero ∷ Zero ∷ Zero ∷ Zero ∷ Zero ∷ Zero ∷ Marker ∷ Zero ∷ One ∷ Zero ∷ Zero ∷ Zero ∷ One ∷ Zero ∷ Zero ∷ Zero ∷ Marker ∷ Zero ∷ One ∷ One ∷ Zero ∷ Zero ∷ Zero ∷ One ∷ One ∷ Zero ∷ Marker ∷ One ∷ One ∷ Zero ∷ Zero ∷ Zero ∷ Zero ∷ Zero ∷ Zero ∷ Zero ∷ Marker ∷ Zero ∷ One ∷ One ∷ Zero ∷ Zero ∷ One ∷ Zero ∷ Zero ∷ Zero ∷ Marker ∷ Zero ∷ Zero ∷ Zero ∷ Zero ∷ Zero ∷ Zero ∷ Zero ∷ Zero ∷ Zero ∷ Marker ∷ Zero ∷ Zero ∷ Zero ∷ Zero ∷ Zero ∷ Zero ∷ Zero ∷ Zero ∷ Zero ∷ Marker ∷ One ∷ Zero ∷ Zero ∷ Zero ∷ Zero ∷ Zero ∷ One ∷ One ∷ Zero ∷ Marker ∷ Zero ∷ Zero ∷ One ∷ Zero ∷ One ∷ Zero ∷ One ∷ Zero ∷ Zero ∷ Marker ∷ []

sent_first : sent_second noon (source 0) ≡ record { sent = Some frame; plain = Some frame }
unfolding sent_of frame_of second_at frame_of_second frame_of_coded time_shown word_of ones is_month_end four_years
sent_first = refl

sent_next : sent_second noon (source 1) ≡ record { sent = Some next_frame; plain = Some next_frame }
unfolding sent_of frame_of second_at frame_of_second frame_of_coded time_shown word_of ones is_month_end four_years
sent_next = refl

-- devices have heard these pulses too
abbrev hearing_also : List HeardPulse → StationStanding → StationStanding
hearing_also h x = record x { heard = h }

-- ---- the first second

abbrev kind : Kind
kind = kind_of_device station 0

abbrev sent_thrice : List Symbol → List SentSecond
sent_thrice f = record { sent = Some f; plain = Some f } ∷ record { sent = Some f; plain = Some f } ∷ record { sent = Some f; plain = Some f } ∷ []

abbrev begun : StationStanding
begun = record (station_at_start station) { generators = source 1 ∷ source 1 ∷ source 1 ∷ []; seconds = sent_thrice frame ∷ [] }

begins : has_begun_if_due station (station_at_start station) ≡ begun
begins = ap (λ (x : SentSecond). record (station_at_start station) { generators = source 1 ∷ source 1 ∷ source 1 ∷ []; seconds = (x ∷ x ∷ x ∷ []) ∷ [] }) sent_first

abbrev heard_first : Course
heard_first = light kind (signal_by begun.seconds) 1000000 430 (begun.courses 0)

abbrev course_first : Course
course_first = record heard_first { now = 1000000 }

keeps_first : keeps_so_far kind (symbols_so_far station begun) course_first ≡ true
unfolding in_order is_after have_risen is_pulse_of is_same
keeps_first = refl

abbrev after_first : StationStanding
after_first = record { now = 1000000; generators = source 1 ∷ source 1 ∷ source 1 ∷ []; seconds = sent_thrice frame ∷ []; courses = with_course 0 course_first begun.courses; log = []; audit = Kept; vouched = 0; heard = [] }

first_part : (stop : ℕ) → stop ≡ 1000000 → part_gone station stop begun ≡ hearing_also (heard_to station stop begun) after_first
first_part stop same =
    part_by station begun stop course_first refl
    (passes_to kind (λ e. cc) (signal_by begun.seconds) stop 1000000 430 (begun.courses 0) heard_first same (omega (arith, same)) refl refl)
    ∙ ap (λ (n : ℕ). record (has_gone station 0 course_first begun) { now = n; heard = heard_to station stop begun }) same
    ∙ ap (λ (b : Bool). record (with_entries [] (audit_seen Kept 0 0 b) (at_course 0 course_first begun)) { now = 1000000; heard = heard_to station stop begun }) keeps_first

-- ---- the next one, of which 50 ms pass

abbrev begun_next : StationStanding
begun_next = record after_first { generators = source 2 ∷ source 2 ∷ source 2 ∷ []; seconds = sent_thrice next_frame ∷ sent_thrice frame ∷ [] }

begins_next : (h : List HeardPulse) → has_begun_if_due station (hearing_also h after_first) ≡ hearing_also h begun_next
begins_next h = ap (λ (x : SentSecond). record (hearing_also h after_first) { generators = source 2 ∷ source 2 ∷ source 2 ∷ []; seconds = (x ∷ x ∷ x ∷ []) ∷ sent_thrice frame ∷ [] }) sent_next

abbrev heard_next : Course
heard_next = light kind (signal_by begun_next.seconds) 1050000 40 (begun_next.courses 0)

abbrev course_next : Course
course_next = record heard_next { now = 1050000 }

keeps_next : keeps_so_far kind (symbols_so_far station begun_next) course_next ≡ true
unfolding in_order is_after have_risen is_pulse_of is_same
keeps_next = refl

abbrev after_next : StationStanding
after_next = record { now = 1050000; generators = begun_next.generators; seconds = begun_next.seconds; courses = with_course 0 course_next begun_next.courses; log = []; audit = Kept; vouched = 0; heard = [] }

next_part : (h : List HeardPulse) (stop : ℕ) → stop ≡ 1050000 → part_gone station stop (hearing_also h begun_next) ≡ hearing_also (heard_to station stop (hearing_also h begun_next)) after_next
next_part h stop same =
    let heard = heard_to station stop (hearing_also h begun_next) in
    part_by station (hearing_also h begun_next) stop course_next refl
    (passes_to kind (λ e. cc) (signal_by begun_next.seconds) stop 1050000 40 (begun_next.courses 0) heard_next same (omega (arith, same)) refl refl)
    ∙ ap (λ (n : ℕ). record (has_gone station 0 course_next begun_next) { now = n; heard = heard }) same
    ∙ ap (λ (b : Bool). record (with_entries [] (audit_seen Kept 0 1 b) (at_course 0 course_next begun_next)) { now = 1050000; heard = heard }) keeps_next

-- ---- both

has_first : lacks_second station (station_at_start station) ≡ false
unfolding second_at
has_first = refl

has_next : lacks_second station after_first ≡ false
unfolding second_at
has_next = refl

-- it leads there, and the device has heard some pulses
abbrev LeadsTo : StationStep → StationStanding → Type 0
LeadsTo step x = (h : List HeardPulse) × (step ≡ goes_to (hearing_also h x))

next_passes : (h : List HeardPulse) (us : ℕ) → us ≡ 50000 → LeadsTo (time_gone station 2 us (hearing_also h after_first)) after_next
next_passes h us same =
    let part = part_us us begun_next in
    let size : part ≡ 50000 = ap (λ (u : ℕ). part_us u begun_next) same in
    let stop = begun_next.now + part in
    let heard = heard_to station stop (hearing_also h begun_next) in (
      heard,
      time_step station 1 us (hearing_also h after_first) (hearing_also h begun_next) part (λ e. omega (arith, same, e)) has_next (sym (begins_next h)) refl
          ∙ ap (time_gone station 1 (us - part)) (next_part h stop (omega (arith, size)))
          ∙ time_over station 1 (us - part) (hearing_also heard after_next) (omega (arith, same, size)),
    )

passes : (us : ℕ) → us ≡ 1050000 → LeadsTo (time_gone station (most_parts us) us (station_at_start station)) after_next
passes us same =
    let part = part_us us begun in
    let size : part ≡ 1000000 = ap (λ (u : ℕ). part_us u begun) same in
    let count : most_parts us ≡ 3 = ap (λ (u : ℕ). most_parts u) same in
    let stop = begun.now + part in
    let rest = next_passes (heard_to station stop begun) (us - part) (omega (arith, same, size)) in (
      rest.0,
      ap (λ (parts : ℕ). time_gone station parts us (station_at_start station)) count
          ∙ time_step station 2 us (station_at_start station) begun part (λ e. omega (arith, same, e)) has_first (sym begins) refl
          ∙ ap (time_gone station 2 (us - part)) (first_part stop (omega (arith, size)))
          ∙ rest.1,
    )

-- ---- a tick, and a stamp

abbrev course_ticked : Course
course_ticked = ticked kind (after_next.courses 0)

-- each frame does no harm in its second
first_harms_none : first_harmless rules noon 0 (frame ∷ frame ∷ []) ≡ frame
unfolding second_at told_of frame_told ones values_of field_at coded_told utc_minute control_of offset_in is_month_end four_years
first_harms_none = refl

next_harms_none : first_harmless rules noon 1 (next_frame ∷ next_frame ∷ []) ≡ next_frame
unfolding second_at told_of frame_told ones values_of field_at coded_told utc_minute control_of offset_in is_month_end four_years
next_harms_none = refl

-- so what true lines have is known without reading frames again
abbrev frame_if : List Symbol → Option SentSecond → List Symbol
frame_if f None = blank
frame_if f (Some x) = f

abbrev frame_on : (n line : ℕ) → List Symbol
frame_on n line =
    if n == 1 then frame_if next_frame (slice_get (sent_thrice next_frame) line)
    else (if n == 0 then frame_if frame (slice_get (sent_thrice frame) line) else blank)

of_thrice : (f : List Symbol) (n line : ℕ) → first_harmless rules noon n (f ∷ f ∷ []) ≡ f → first_harmless rules noon n (frames_of_sent (slice_get (sent_thrice f) line)) ≡ frame_if f (slice_get (sent_thrice f) line)
of_thrice f n zero e = e
of_thrice f n (suc zero) e = e
of_thrice f n (suc (suc zero)) e = e
of_thrice f n (suc (suc (suc m))) e = refl

frame_is : (n line : ℕ) → first_harmless rules noon n (frames_by (sent_thrice next_frame ∷ sent_thrice frame ∷ []) line n) ≡ frame_on n line
frame_is n line = elim (cases_Bool (n == 1)) [
  | inl one ↦ rw one (of_thrice next_frame n line (subst (λ (m : ℕ). first_harmless rules noon m (next_frame ∷ next_frame ∷ []) ≡ next_frame) (sym (eqb-true n 1 one)) next_harms_none))
  | inr other ↦ rw other (elim (cases_Bool (n == 0)) [
    | inl none ↦ rw none (of_thrice frame n line (subst (λ (m : ℕ). first_harmless rules noon m (frame ∷ frame ∷ []) ≡ frame) (sym (eqb-true n 0 none)) first_harms_none))
    | inr later ↦ rw later refl
  ])
]

symbols_are : symbols_so_far station after_next ≡ (λ line element. get_or (frame_on (element / 100) line) (element % 100) Zero)
symbols_are = fun_ext (λ line. fun_ext (λ element. ap (λ (f : List Symbol). get_or f (element % 100) Zero) (frame_is (element / 100) line)))

plainly_kept : keeps_so_far kind (λ line element. get_or (frame_on (element / 100) line) (element % 100) Zero) course_ticked ≡ true
unfolding in_order is_after have_risen is_pulse_of is_same
plainly_kept = refl

keeps_ticked : keeps_so_far kind (symbols_so_far station after_next) course_ticked ≡ true
keeps_ticked = ap (λ (symbol : ℕ → ℕ → Symbol). keeps_so_far kind symbol course_ticked) symbols_are ∙ plainly_kept

abbrev after_tick : StationStanding
after_tick = with_entries (map (λ told. Told 0 told) course_ticked.told) Kept (at_course 0 (record course_ticked { told = [] }) after_next)

tick_gone : (h : List HeardPulse) → has_gone station 0 course_ticked (hearing_also h after_next) ≡ hearing_also h after_tick
tick_gone h = ap (λ (b : Bool). hearing_also h (with_entries (map (λ told. Told 0 told) course_ticked.told) (audit_seen Kept 0 1 b) (at_course 0 (record course_ticked { told = [] }) after_next))) keeps_ticked

told_is : map shown after_tick.log ≡ (6209 ∷ 43201 ∷ 0 ∷ 1 ∷ 0 ∷ 450 ∷ []) ∷ []
unfolding step_checked goes_against step_of second_at told_of frame_told ones values_of field_at coded_told utc_minute control_of offset_in is_month_end four_years
told_is = refl

may_be_stamped : may_stamp (kind_of_device station 0) (symbols_so_far station after_tick) (after_tick.courses 0) 1010000 ≡ true
unfolding in_order is_after have_risen is_pulse_of is_same
may_be_stamped = ap (λ (b : Bool). b && true) keeps_ticked

abbrev after_stamp : StationStanding
after_stamp = with_entries (Stamped 0 1010000 (stamp_said (kind_of_device station 0) (after_tick.courses 0) 1010000) ∷ []) Kept after_tick

stamp_gone : (h : List HeardPulse) → has_stamped station 0 1010000 (hearing_also h after_tick) ≡ hearing_also h after_stamp
stamp_gone h = ap (hearing_also h) (stamped_by station 1010000 after_tick refl may_be_stamped)

stamp_is : map shown (Stamped 0 1010000 (stamp_said (kind_of_device station 0) (after_tick.courses 0) 1010000) ∷ []) ≡ (6209 ∷ 43201 ∷ 0 ∷ 1010000 ∷ 10000 ∷ 450 ∷ []) ∷ []
unfolding step_checked goes_against step_of second_at told_of frame_told ones values_of field_at coded_told utc_minute control_of offset_in is_month_end four_years
stamp_is = refl

logged : map shown after_stamp.log ≡ (6209 ∷ 43201 ∷ 0 ∷ 1 ∷ 0 ∷ 450 ∷ []) ∷ (6209 ∷ 43201 ∷ 0 ∷ 1010000 ∷ 10000 ∷ 450 ∷ []) ∷ []
logged = joined after_tick _ _ _ told_is stamp_is

-- ---- all of it: these microseconds are a variable, since else time would be counted out

ends_there : (us : ℕ) → us ≡ 1050000 → (h : List HeardPulse) × (standing_after station (Stamp 0 40000 ∷ Tick 0 ∷ Pass us ∷ []) ≡ hearing_also h after_stamp)
ends_there us same =
    let there = passes us same in
    let h = there.0 in (
      h,
      all_by station us 40000 (hearing_also h after_next) (hearing_also h after_tick) (hearing_also h after_stamp) (ap (λ (x : StationStep). x.standing) there.1)
          (tick_by station (hearing_also h after_next) (hearing_also h after_tick) refl (tick_gone h))
          (stamp_by station 40000 (hearing_also h after_tick) (hearing_also h after_stamp) refl refl (stamp_gone h)),
    )

pub kept_instance : (us : ℕ) → us ≡ 1050000
    → (audit_of_station station (Stamp 0 40000 ∷ Tick 0 ∷ Pass us ∷ []) ≡ Kept)
    × (map shown (log_of_station station (Stamp 0 40000 ∷ Tick 0 ∷ Pass us ∷ [])) ≡ (6209 ∷ 43201 ∷ 0 ∷ 1 ∷ 0 ∷ 450 ∷ []) ∷ (6209 ∷ 43201 ∷ 0 ∷ 1010000 ∷ 10000 ∷ 450 ∷ []) ∷ [])
kept_instance us same = (
  ap (λ (x : StationStanding). x.audit) (ends_there us same).1,
  ap (λ (x : StationStanding). map shown x.log) (ends_there us same).1 ∙ logged,
)

-- of such a setup the laws of a log speak
pub is_station : IsStationSetup station
is_station = record {
  times = record { sound = refl };
  devices = All-cons IsDevicePlan device []
      (record {
        rules = record { lock_after = (omega arith, omega arith); holdover = omega arith };
        gain = omega arith;
        late = All-from_recursion (λ us. us ≤ most_late_us) (0 ∷ 0 ∷ 0 ∷ []) (omega arith, (omega arith, (omega arith, tt)));
        clock = refl;
      })
      (All-nil IsDevicePlan);
}

-- so what was told and stamped is true, as the law says
pub all_true : (us : ℕ) → us ≡ 1050000 → All (IsTrueEntry station) (log_of_station station (Stamp 0 40000 ∷ Tick 0 ∷ Pass us ∷ []))
all_true us same = kept_true station is_station (Stamp 0 40000 ∷ Tick 0 ∷ Pass us ∷ []) (kept_instance us same).0
