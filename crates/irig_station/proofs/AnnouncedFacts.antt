-- A station that announces: an instance of the law `a_station_announces`. It begins at 2016-12-31T12:00:00Z.
-- Three generators send to its one device, and the third lies: in each second it sends the frame of the next.
-- Cables are 0, 200 and 400 us late. The device's counter gains 20 us a second, and it is ticked each 90 ms.
-- Three frames come whole in 3.07 s, so it announces 12:00:03.
use Rattle.std.specs.Prelude.{nat_le, nat_lt, if◌then◌else◌, option_and_then, slice_get, ◌&&◌, is_none, count_by}
use Rattle.std.specs.List.{range_with_len}
use Rattle.std.proofs.Common.{◌≡◌, ◌∙◌, ℕ, zero, suc, ◌+◌, ◌-◌, ◌*◌, ◌/◌, ◌%◌, ◌^◌, ◌<◌, ◌≤◌, ◌⊎◌, ◌==◌, Bool, false, true, List, [], ◌∷◌, length, map, Option, Some, None, pos, refl, sym, ap, subst, arith, inl, inr, get_or}
use Rattle.std.proofs.Math.Path.{fun_ext}
use Rattle.std.proofs.lemmas.List.Elements.{All-cons, All-from_recursion, All-nil}
use Rattle.std.proofs.lemmas.Bool.{cases_Bool, eq-eqb, eqb-true, leb-true, ltb-true}
use Rattle.irig_frame.specs.declared.symbol.Symbol.{Symbol}
use Rattle.irig_frame.specs.declared.symbol.Symbol.TheVariants.{Zero, One, Marker}
use Rattle.irig_frame.specs.Encoder.{frame_of_coded}
use Rattle.irig_frame.specs.Faults.{field_at, values_of}
use Rattle.irig_control.specs.Control.{control_of, offset_in, word_of}
use Rattle.irig_control.specs.Parity.{ones}
use Rattle.irig_time.specs.Claims.{utc_minute}
use Rattle.irig_time.specs.CodedTime.{time_shown}
use Rattle.irig_time.specs.Days.{four_years, is_month_end}
use Rattle.irig_time.specs.Frames.{frame_of_second}
use Rattle.irig_time.specs.Timelines.{IsSecond, second_at}
use Rattle.irig_gen.specs.declared.fault.GenFault.{GenFault}
use Rattle.irig_gen.specs.declared.fault.GenFault.TheVariants.{Skew}
use Rattle.irig_gen.specs.Frames.{GeneratorValue, gen}
use Rattle.irig_gen.specs.Sent.{frame_of, sent_of}
use Rattle.irig_port.specs.Limits.{told_within}
use Rattle.irig_port.specs.Told.{coded_told, frame_told, told_of}
use Rattle.irig_port.specs.declared.told.Told.TheVariants as tells
use Rattle.irig_plant.specs.Schedule.{generator_at_next_edge}
use Rattle.irig_timekeeper.specs.Life.{Call, last_tick}
use Rattle.irig_timekeeper.specs.Life.Call.{Hear, Tick}
use Rattle.irig_lives.specs.Decided.{have_risen, in_order, is_after, is_pulse_of, is_same}
use Rattle.irig_lives.proofs.LifeFacts.{at, claim_of, no_table, noon, rules, true_table}
use Rattle.irig_lives.proofs.AnnounceFacts.{frames}
use Rattle.irig_wires.specs.Wires.{late_at, most_late_us}
use Rattle.irig_witness.specs.TrueFrames.{blank, first_harmless}
use Rattle.irig_simulated.specs.declared.setup.Ticking.TheVariants.{Each}
use Rattle.irig_simulated.specs.Setups.{DevicePlan}
use Rattle.irig_simulated.specs.Kinds.{IsDevicePlan, Kind, edges_by_kind}
use Rattle.irig_simulated.specs.Courses.{Course, coming, keeps_so_far, passed, told_taken}
use Rattle.irig_simulated.specs.Doings.{AreCounted, IsTickedInTime}
use Rattle.irig_simulated.specs.QuietLines.{IsAboutRight, latest_us}
use Rattle.irig_station.specs.declared.audit.Audit.{Audit}
use Rattle.irig_station.specs.declared.audit.Audit.TheVariants.{Kept}
use Rattle.irig_station.specs.declared.event.Event.TheVariants.{Pass}
use Rattle.irig_station.specs.StationSetups.{IsStationSetup, StationSetup, kind_of_device, station_setup}
use Rattle.irig_station.specs.SentSeconds.{SentSecond, frames_by, frames_of_sent, second_sent, sent_second, signal_by, symbol_by, symbol_of_sent}
use Rattle.irig_station.specs.StationAudits.{audit_seen}
use Rattle.irig_station.specs.StationStandings.{StationStanding, StationStep, goes_to, has_begun_if_due, is_at_edge, most_parts, part_gone, part_us, station_at_start, time_gone}
use Rattle.irig_station.specs.StationPlay.{audit_of_station, standing_after}
use Rattle.irig_station.specs.StationPromise.{IsAnnounced}
use Rattle.irig_station.proofs.LightCourses.{light, passes_to}
use Rattle.irig_station.proofs.PassLaws.{lacks, time_over, time_step}
use Rattle.irig_station.proofs.WholeLaws.{symbols_from}
use Rattle.irig_station.proofs.WholeStations.{SendsWhole, true_announces}

-- ---- the station

abbrev source : Option GenFault → ℕ → GeneratorValue
source fault edge = gen (record { half_hours = pos 0; dst = false }) [] rules edge fault 0

-- a second ahead
abbrev lies : Option GenFault
lies = Some (Skew (pos 1))

abbrev device : DevicePlan
device = record { rules = record { lock_after = 1; holdover = 57 }; table = no_table; drift_us = 40; gain_us = pos 20; counter = 0; late_us = 0 ∷ 200 ∷ 400 ∷ []; ticking = Each 90000 }

abbrev sources : ℕ → List GeneratorValue
sources n = source None n ∷ source None n ∷ source lies n ∷ []

abbrev pub station : StationSetup
station = station_setup noon (sources 0) rules (device ∷ [])

abbrev kind : Kind
kind = kind_of_device station 0

is_station : IsStationSetup station
is_station = record {
  times = record { sound = refl };
  devices = All-cons IsDevicePlan device []
      (record {
        rules = record { lock_after = (omega arith, omega arith); holdover = omega arith };
        gain = omega arith;
        late = All-from_recursion (λ us. us ≤ most_late_us) (0 ∷ 200 ∷ 400 ∷ []) (omega arith, (omega arith, (omega arith, tt)));
        clock = refl;
      })
      (All-nil IsDevicePlan);
}

-- ---- what generators send in four seconds. The frames are those of tests/model

abbrev frame_4 : List Symbol
frame_4 = Marker ∷ Zero ∷ Zero ∷ One ∷ Zero ∷ Zero ∷ Zero ∷ Zero ∷ Zero ∷ Marker ∷ Zero ∷ Zero ∷ Zero ∷ Zero ∷ Zero ∷ Zero ∷ Zero ∷ Zero ∷ Zero ∷ Marker ∷ Zero ∷ One ∷ Zero ∷ Zero ∷ Zero ∷ One ∷ Zero ∷ Zero ∷ Zero ∷ Marker ∷ Zero ∷ One ∷ One ∷ Zero ∷ Zero ∷ Zero ∷ One ∷ One ∷ Zero ∷ Marker ∷ One ∷ One ∷ Zero ∷ Zero ∷ Zero ∷ Zero ∷ Zero ∷ Zero ∷ Zero ∷ Marker ∷ Zero ∷ One ∷ One ∷ Zero ∷ Zero ∷ One ∷ Zero ∷ Zero ∷ Zero ∷ Marker ∷ Zero ∷ Zero ∷ Zero ∷ Zero ∷ Zero ∷ Zero ∷ Zero ∷ Zero ∷ Zero ∷ Marker ∷ Zero ∷ Zero ∷ Zero ∷ Zero ∷ Zero ∷ Zero ∷ Zero ∷ Zero ∷ Zero ∷ Marker ∷ Zero ∷ Zero ∷ One ∷ Zero ∷ Zero ∷ Zero ∷ One ∷ One ∷ Zero ∷ Marker ∷ Zero ∷ Zero ∷ One ∷ Zero ∷ One ∷ Zero ∷ One ∷ Zero ∷ Zero ∷ Marker ∷ []

unfoldable ahead : ℕ → List Symbol
ahead n = if n == 3 then frame_4 else frames (suc n)

abbrev sent_true : ℕ → SentSecond
sent_true n = record { sent = Some (frames n); plain = Some (frames n) }

abbrev sent_ahead : ℕ → SentSecond
sent_ahead n = record { sent = Some (ahead n); plain = Some (frames n) }

sends : (n : ℕ) → n < 4 → sent_second noon (source None n) ≡ sent_true n
unfolding frames sent_of frame_of second_at frame_of_second frame_of_coded time_shown word_of ones is_month_end four_years
sends zero low = refl
sends (suc zero) low = refl
sends (suc (suc zero)) low = refl
sends (suc (suc (suc zero))) low = refl
sends (suc (suc (suc (suc n)))) low = absurd (omega (arith, low))

sends_ahead : (n : ℕ) → n < 4 → sent_second noon (source lies n) ≡ sent_ahead n
unfolding frames ahead sent_of frame_of second_at frame_of_second frame_of_coded time_shown word_of ones is_month_end four_years
sends_ahead zero low = refl
sends_ahead (suc zero) low = refl
sends_ahead (suc (suc zero)) low = refl
sends_ahead (suc (suc (suc zero))) low = refl
sends_ahead (suc (suc (suc (suc n)))) low = absurd (omega (arith, low))

abbrev sent_in : ℕ → List SentSecond
sent_in n = sent_true n ∷ sent_true n ∷ sent_ahead n ∷ []

-- of the seconds that have begun
abbrev seconds : ℕ → List (List SentSecond)
seconds zero = []
seconds (suc n) = sent_in n ∷ seconds n

so_many : (n : ℕ) → length (seconds n) ≡ n
so_many zero = refl
so_many (suc n) = (let rest = so_many n in omega (arith, rest))

-- ---- what true lines have: of the third the frames that its generator would send without fault

harms_none : (n : ℕ) → n < 4 → first_harmless rules noon n (frames n ∷ frames n ∷ []) ≡ frames n
unfolding frames second_at told_of frame_told ones values_of field_at coded_told utc_minute control_of offset_in is_month_end four_years
harms_none zero low = refl
harms_none (suc zero) low = refl
harms_none (suc (suc zero)) low = refl
harms_none (suc (suc (suc zero))) low = refl
harms_none (suc (suc (suc (suc n)))) low = absurd (omega (arith, low))

harms : (n : ℕ) → n < 4 → first_harmless rules noon n (ahead n ∷ frames n ∷ []) ≡ frames n
unfolding frames ahead second_at told_of frame_told ones values_of field_at coded_told utc_minute control_of offset_in is_month_end four_years
harms zero low = refl
harms (suc zero) low = refl
harms (suc (suc zero)) low = refl
harms (suc (suc (suc zero))) low = refl
harms (suc (suc (suc (suc n)))) low = absurd (omega (arith, low))

abbrev frame_if : List Symbol → Option SentSecond → List Symbol
frame_if f None = blank
frame_if f (Some x) = f

-- when so many seconds have begun
abbrev frame_on : (begun n line : ℕ) → List Symbol
frame_on zero n line = blank
frame_on (suc c) n line = if n == c then frame_if (frames c) (slice_get (sent_in c) line) else frame_on c n line

abbrev symbols : (begun line element : ℕ) → Symbol
symbols c line element = get_or (frame_on c (element / 100) line) (element % 100) Zero

of_line : (n line : ℕ) → n < 4 → first_harmless rules noon n (frames_of_sent (slice_get (sent_in n) line)) ≡ frame_if (frames n) (slice_get (sent_in n) line)
of_line n zero low = harms_none n low
of_line n (suc zero) low = harms_none n low
of_line n (suc (suc zero)) low = harms n low
of_line n (suc (suc (suc m))) low = refl

frame_is : (c n line : ℕ) → c ≤ 4 → first_harmless rules noon n (frames_by (seconds c) line n) ≡ frame_on c n line
frame_is zero n line few = refl
frame_is (suc c) n line few = elim (cases_Bool (n == c)) [
  | inl newest ↦ rw (so_many c, newest) (subst (λ (m : ℕ). first_harmless rules noon m (frames_of_sent (slice_get (sent_in c) line)) ≡ frame_if (frames c) (slice_get (sent_in c) line)) (sym (eqb-true n c newest)) (of_line c line (omega (arith, few))))
  | inr older ↦ rw (so_many c, older) (frame_is c n line (omega (arith, few)))
]

symbols_are : (c : ℕ) → c ≤ 4 → symbol_by rules noon (seconds c) ≡ symbols c
symbols_are c few = fun_ext (λ line. fun_ext (λ element. ap (λ (f : List Symbol). get_or f (element % 100) Zero) (frame_is c (element / 100) line few)))

both_are : (a b : Bool) → (a && b) ≡ true → (a ≡ true) × (b ≡ true)
both_are true b e = (refl, e)
both_are false b e = absurd cc

-- ---- the course of the device

abbrev began : Course
began = (station_at_start station).courses 0

-- what it heard from the begin of a second up to a time
abbrev heard_from : (n stop : ℕ) → Course → Course
heard_from n stop x = light kind (signal_by (seconds (suc n))) stop 430 x

abbrev upto : (stop : ℕ) → Course → Course
upto stop x = record x { now = stop }

-- after so many whole seconds
abbrev course : ℕ → Course
course zero = began
course (suc n) = told_taken (upto (1000000 * suc n) (heard_from n (1000000 * suc n) (course n)))

abbrev went : (n stop : ℕ) → Course
went n stop = upto stop (heard_from n stop (course n))

now_is : (n : ℕ) → (course n).now ≡ 1000000 * n
now_is zero = refl
now_is (suc n) = refl

-- nothing more comes before the end of each second, or before the end
over : (n : ℕ) → n < 3 → nat_lt (coming (heard_from n (1000000 * suc n) (course n))).time_us (1000000 * suc n) ≡ false
unfolding frames ahead
over zero low = refl
over (suc zero) low = refl
over (suc (suc zero)) low = refl
over (suc (suc (suc n))) low = absurd (omega (arith, low))

over_last : nat_lt (coming (heard_from 3 3070000 (course 3))).time_us 3070000 ≡ false
unfolding frames ahead
over_last = refl

keeps : (n : ℕ) → n < 3 → keeps_so_far kind (symbols (suc n)) (went n (1000000 * suc n)) ≡ true
unfolding frames ahead in_order is_after have_risen is_pulse_of is_same
keeps zero low = refl
keeps (suc zero) low = refl
keeps (suc (suc zero)) low = refl
keeps (suc (suc (suc n))) low = absurd (omega (arith, low))

keeps_last : keeps_so_far kind (symbols 4) (went 3 3070000) ≡ true
unfolding frames ahead in_order is_after have_risen is_pulse_of is_same
keeps_last = refl

-- ---- where the station stands

-- so many seconds have begun, and its audit is kept
record Stands (n now : ℕ) (c : Course) (x : StationStanding) : Type 0 where
  now_is : x.now ≡ now
  generators : x.generators ≡ sources n
  seconds_are : x.seconds ≡ seconds n
  course_is : x.courses 0 ≡ c
  audit : x.audit ≡ Kept

at_first : Stands 0 0 began (station_at_start station)
at_first = record { now_is = refl; generators = refl; seconds_are = refl; course_is = refl; audit = refl }

next_sources : (n : ℕ) → map generator_at_next_edge (sources n) ≡ sources (suc n)
next_sources n = (let next : n + 1 ≡ suc n = omega arith in ap sources next)

all_send : (n : ℕ) → n < 4 → map (sent_second noon) (sources n) ≡ sent_in n
all_send n low =
    ap (λ (x : SentSecond). let xs : List SentSecond = x ∷ x ∷ sent_second noon (source lies n) ∷ [] in xs) (sends n low)
    ∙ ap (λ (x : SentSecond). let xs : List SentSecond = sent_true n ∷ sent_true n ∷ x ∷ [] in xs) (sends_ahead n low)

due : (n : ℕ) (x : StationStanding) → Stands n (1000000 * n) (course n) x → is_at_edge x ≡ true
due n x h =
    let count = ap (λ (l : List (List SentSecond)). length l) h.seconds_are ∙ so_many n in
    let now = h.now_is in
    eq-eqb x.now (1000000 * length x.seconds) (omega (arith, now, count))

begins : (n : ℕ) (x : StationStanding) → n < 4 → Stands n (1000000 * n) (course n) x → Stands (suc n) (1000000 * n) (course n) (has_begun_if_due station x)
begins n x low h =
    let at_edge = due n x h in
    rw at_edge (record {
      now_is = h.now_is;
      generators = ap (map generator_at_next_edge) h.generators ∙ next_sources n;
      seconds_are = ap (λ (gs : List GeneratorValue). map (sent_second noon) gs ∷ x.seconds) h.generators ∙ ap (λ (s : List SentSecond). s ∷ x.seconds) (all_send n low) ∙ ap (λ (l : List (List SentSecond)). sent_in n ∷ l) h.seconds_are;
      course_is = h.course_is;
      audit = h.audit;
    })

-- it passes up to a time of that second
goes : (n stop : ℕ) (c : Course) (x : StationStanding) → n < 4 → passed kind (signal_by (seconds (suc n))) stop (course n) ≡ c → keeps_so_far kind (symbols (suc n)) c ≡ true → Stands (suc n) (1000000 * n) (course n) x → Stands (suc n) stop (told_taken c) (part_gone station stop x)
goes n stop c x low is kept h =
    let edge = x.now / 1000000 in
    let gone = passed kind (signal_by x.seconds) stop (x.courses 0) in
    let own = ap (λ (l : List (List SentSecond)). passed kind (signal_by l) stop (x.courses 0)) h.seconds_are ∙ ap (passed kind (signal_by (seconds (suc n))) stop) h.course_is ∙ is in
    let true_lines = ap (symbol_by rules noon) h.seconds_are ∙ symbols_are (suc n) (omega (arith, low)) in
    record {
      now_is = refl;
      generators = h.generators;
      seconds_are = h.seconds_are;
      course_is = ap told_taken own;
      audit = ap (λ (a : Audit). audit_seen a 0 edge (keeps_so_far kind (symbol_by rules noon x.seconds) gone)) h.audit
          ∙ ap (λ (symbol : ℕ → ℕ → Symbol). audit_seen Kept 0 edge (keeps_so_far kind symbol gone)) true_lines
          ∙ ap (λ (y : Course). audit_seen Kept 0 edge (keeps_so_far kind (symbols (suc n)) y)) own
          ∙ ap (audit_seen Kept 0 edge) kept;
    }

has_second : (n : ℕ) → n < 4 → is_none (second_at noon n) ≡ false
unfolding second_at
has_second zero low = refl
has_second (suc zero) low = refl
has_second (suc (suc zero)) low = refl
has_second (suc (suc (suc zero))) low = refl
has_second (suc (suc (suc (suc n)))) low = absurd (omega (arith, low))

-- a step leads to where four seconds have begun
abbrev LeadsThere : StationStep → Type 0
LeadsThere step = (x : StationStanding) × (step ≡ goes_to x) × Stands 4 3070000 (told_taken (went 3 3070000)) x

-- of so many microseconds a part passes, up to a time within the second that begins, and then the rest
passes : (parts us n part time : ℕ) (x : StationStanding) → n < 4 → part ≤ us → (part ≡ 1000000) ⊎ ((part ≡ us) × (part ≤ 1000000)) → 18 ≤ part → 1000000 * n + part ≡ time
    → nat_lt (coming (heard_from n time (course n))).time_us time ≡ false → keeps_so_far kind (symbols (suc n)) (went n time) ≡ true → Stands n (1000000 * n) (course n) x
    → ((y : StationStanding) → Stands (suc n) time (told_taken (went n time)) y → LeadsThere (time_gone station parts (us - part) y)) → LeadsThere (time_gone station (suc parts) us x)
passes parts us n part time x low within size some there over_then kept h rest =
    let begun = has_begun_if_due station x in
    let b = begins n x low h in
    let count = ap (λ (l : List (List SentSecond)). length l) b.seconds_are ∙ so_many (suc n) in
    let now = b.now_is in
    let room : 1000000 * length begun.seconds - begun.now ≡ 1000000 = omega (arith, now, count) in
    let is_part : part ≡ part_us us begun = omega (arith, room, within, size) in
    let stop = begun.now + part in
    let same : stop ≡ time = omega (arith, now, there) in
    let at = now_is n in
    let own = passes_to kind (λ e. cc) (signal_by (seconds (suc n))) stop time 430 (course n) (heard_from n time (course n)) same (omega (arith, same, at, there, some)) refl over_then in
    let second = ap (second_at noon) (ap (λ (l : List (List SentSecond)). length l) h.seconds_are ∙ so_many n) in
    let goes_on = lacks station x (second_at noon n) false (due n x h) (sym second) (has_second n low) in
    let y = part_gone station stop begun in
    let stands : Stands (suc n) time (told_taken (went n time)) y = subst (λ (t : ℕ). Stands (suc n) t (told_taken (went n time)) y) same (goes n stop (went n time) begun low own kept b) in
    subst LeadsThere (sym (time_step station parts us x begun part (λ e. omega (arith, e, within, some)) goes_on refl is_part)) (rest y stands)

-- all of it. These microseconds are a variable, since else time would be counted out
passes_last : (us : ℕ) (x : StationStanding) → us ≡ 70000 → Stands 3 3000000 (course 3) x → LeadsThere (time_gone station 2 us x)
passes_last us x same h =
    passes 1 us 3 70000 3070000 x (omega arith) (omega (arith, same)) (inr (sym same, omega arith)) (omega arith) refl over_last keeps_last h
    (λ y stands. (y, time_over station 1 (us - 70000) y (omega (arith, same)), stands))

passes_third : (us : ℕ) (x : StationStanding) → us ≡ 1070000 → Stands 2 2000000 (course 2) x → LeadsThere (time_gone station 3 us x)
passes_third us x same h =
    passes 2 us 2 1000000 3000000 x (omega arith) (omega (arith, same)) (inl refl) (omega arith) refl (over 2 (omega arith)) (keeps 2 (omega arith)) h
    (λ y stands. passes_last (us - 1000000) y (omega (arith, same)) stands)

passes_next : (us : ℕ) (x : StationStanding) → us ≡ 2070000 → Stands 1 1000000 (course 1) x → LeadsThere (time_gone station 4 us x)
passes_next us x same h =
    passes 3 us 1 1000000 2000000 x (omega arith) (omega (arith, same)) (inl refl) (omega arith) refl (over 1 (omega arith)) (keeps 1 (omega arith)) h
    (λ y stands. passes_third (us - 1000000) y (omega (arith, same)) stands)

passes_first : (us : ℕ) (x : StationStanding) → us ≡ 3070000 → Stands 0 0 began x → LeadsThere (time_gone station 5 us x)
passes_first us x same h =
    passes 4 us 0 1000000 1000000 x (omega arith) (omega (arith, same)) (inl refl) (omega arith) refl (over 0 (omega arith)) (keeps 0 (omega arith)) h
    (λ y stands. passes_next (us - 1000000) y (omega (arith, same)) stands)

ends_there : (us : ℕ) → us ≡ 3070000 → LeadsThere (time_gone station (most_parts us) us (station_at_start station))
ends_there us same =
    subst (λ (parts : ℕ). LeadsThere (time_gone station parts us (station_at_start station))) (sym (ap most_parts same)) (passes_first us (station_at_start station) same at_first)

-- so the station stands there after this one event
stands_last : (us : ℕ) → us ≡ 3070000 → Stands 4 3070000 (told_taken (went 3 3070000)) (standing_after station (Pass us ∷ []))
stands_last us same = (let there = ends_there us same in subst (Stands 4 3070000 (told_taken (went 3 3070000))) (sym (ap (λ (x : StationStep). x.standing) there.1)) there.2)

-- ---- three seconds come whole on two lines

in_second : (g n place : ℕ) → g < 2 → n < 4 → option_and_then (symbol_of_sent place) (slice_get (second_sent (seconds 4) n) g) ≡ Some (get_or (frame_on 4 n g) place Zero)
in_second zero zero place low less = refl
in_second zero (suc zero) place low less = refl
in_second zero (suc (suc zero)) place low less = refl
in_second zero (suc (suc (suc zero))) place low less = refl
in_second (suc zero) zero place low less = refl
in_second (suc zero) (suc zero) place low less = refl
in_second (suc zero) (suc (suc zero)) place low less = refl
in_second (suc zero) (suc (suc (suc zero))) place low less = refl
in_second (suc (suc g)) n place low less = absurd (omega (arith, low))
in_second g (suc (suc (suc (suc n)))) place low less = absurd (omega (arith, less))

has_sent : (g e : ℕ) → g < 2 → e / 100 < 4 → signal_by (seconds 4) g e ≡ Some (symbols 4 g e)
has_sent g e low less = in_second g (e / 100) (e % 100) low less

tell : (g f : ℕ) → g < 2 → f < 3 → told_within (Some kind.made.clock.limits.limits) rules (symbols_from (symbols 4 g) (100 * f) 100) ≡ tells.Claim (claim_of (43200 + f))
unfolding frames told_of frame_told coded_told ones values_of field_at control_of offset_in utc_minute is_month_end four_years
tell zero zero low few = refl
tell zero (suc zero) low few = refl
tell zero (suc (suc zero)) low few = refl
tell (suc zero) zero low few = refl
tell (suc zero) (suc zero) low few = refl
tell (suc zero) (suc (suc zero)) low few = refl
tell (suc (suc g)) f low few = absurd (omega (arith, low))
tell g (suc (suc (suc f))) low few = absurd (omega (arith, few))

late : (g : ℕ) → g < 2 → late_at device.late_us g ≤ latest_us
late zero low = omega arith
late (suc zero) low = omega arith
late (suc (suc g)) low = absurd (omega (arith, low))

-- ---- what is asked of its calls

counted : List Call → Bool
counted [] = true
counted (Hear port rise width ∷ calls) = nat_lt width (2 ^ 32 - 1) && counted calls
counted (Tick now ∷ calls) = counted calls

counted_is : (calls : List Call) → counted calls ≡ true → AreCounted calls
unfolding counted
counted_is [] e = tt
counted_is (Hear port rise width ∷ calls) e = (let both = both_are (nat_lt width (2 ^ 32 - 1)) (counted calls) e in (ltb-true width (2 ^ 32 - 1) both.0, counted_is calls both.1))
counted_is (Tick now ∷ calls) e = counted_is calls e

are_counted : counted (went 3 3070000).calls ≡ true
unfolding frames ahead counted
are_counted = refl

start_is : (went 3 3070000).start ≡ 4294967296
unfolding frames ahead
start_is = refl

ticked_late : nat_le (edges_by_kind kind 3 + 3000) (last_tick 4294967296 (went 3 3070000).calls) ≡ true
unfolding frames ahead
ticked_late = refl

-- what it told is no part of these
record HaveCome (c d : Course) : Type 0 where
  now_is : c.now ≡ d.now
  start_is : c.start ≡ d.start
  calls_are : c.calls ≡ d.calls

have_come : (c d : Course) → c ≡ told_taken d → HaveCome c d
have_come c d is = record { now_is = ap (λ (x : Course). x.now) is; start_is = ap (λ (x : Course). x.start) is; calls_are = ap (λ (x : Course). x.calls) is }

about_right : IsAboutRight kind.rate
about_right = record { least = omega arith; most = omega arith }

is_ticked : IsTickedInTime kind
is_ticked = inr (90000, refl, omega arith, omega arith)

-- ---- so the law speaks of it

module _ (us : ℕ) (same : us ≡ 3070000) where
  abbrev then_at : StationStanding
  then_at = standing_after station (Pass us ∷ [])

  stands : Stands 4 3070000 (told_taken (went 3 3070000)) then_at
  stands = stands_last us same

  came : HaveCome (then_at.courses 0) (went 3 3070000)
  came = have_come (then_at.courses 0) (went 3 3070000) stands.course_is

  true_is : (g : ℕ) → symbol_by rules noon then_at.seconds g ≡ symbols 4 g
  true_is g = ap (λ (s : ℕ → ℕ → Symbol). s g) (ap (symbol_by rules noon) stands.seconds_are ∙ symbols_are 4 (omega arith))

  sent_is : (g e : ℕ) → g < 2 → e / 100 < 4 → signal_by then_at.seconds g e ≡ Some (symbols 4 g e)
  sent_is g e low less = ap (λ (l : List (List SentSecond)). signal_by l g e) stands.seconds_are ∙ has_sent g e low less

  brings : (f g : ℕ) → f < 3 → g < 2 → SendsWhole station (Pass us ∷ []) 0 f g
  brings f g few low = record {
    late = late g low;
    left = (tt, tt);
    sends = λ j less. sent_is g (100 * f + j) low (omega (arith, few, less)) ∙ ap (λ (line : ℕ → Symbol). Some (line (100 * f + j))) (sym (true_is g));
    claim = claim_of (43200 + f);
    tells = ap (λ (line : ℕ → Symbol). told_within (Some kind.made.clock.limits.limits) rules (symbols_from line (100 * f) 100)) (true_is g) ∙ tell g f low few;
  }

  tick : edges_by_kind kind 3 + 3000 ≤ last_tick (then_at.courses 0).start (then_at.courses 0).calls
  tick =
      let same_tick = ap (λ (time : ℕ). last_tick time (then_at.courses 0).calls) (came.start_is ∙ start_is) ∙ ap (last_tick 4294967296) came.calls_are in
      let least = leb-true (edges_by_kind kind 3 + 3000) (last_tick 4294967296 (went 3 3070000).calls) ticked_late in
      omega (arith, same_tick, least)

  second : IsSecond noon 3 (at 43203)
  second = record { from = omega arith; to = omega arith; sod = omega arith; sum = refl }

  -- the audit is kept, and the second that begins at edge 3 is announced
  pub kept : audit_of_station station (Pass us ∷ []) ≡ Kept
  kept = stands.audit

  pub announced : IsAnnounced station 0 3 (at 43203) then_at
  announced =
      true_announces station (Pass us ∷ []) 0 is_station is_ticked about_right (λ f g. nat_lt g 2)
      (λ f few. (let two : count_by (λ (g : ℕ). nat_lt g 2) (range_with_len 0 5) ≡ 2 = refl in omega (arith, two)))
      (λ f g few low on. brings f g few (ltb-true g 2 on)) (0, omega arith, refl) tick
      (at 43203) kept (subst AreCounted (sym came.calls_are) (counted_is (went 3 3070000).calls are_counted)) (inr true_table) second

-- of this number itself too
pub announces : IsAnnounced station 0 3 (at 43203) (standing_after station (Pass 3070000 ∷ []))
announces = announced 3070000 refl
