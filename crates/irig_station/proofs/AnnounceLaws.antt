-- A device of a station announces, and its log shows it.
use Rattle.std.proofs.Common.{◌≡◌, ◌∙◌, ℕ, zero, suc, ◌+◌, ◌-◌, ◌<◌, ◌≤◌, ◌==◌, false, List, [], ◌∷◌, ◌++◌, append-nil, length, Option, Some, None, refl, sym, ap, arith, inl, inr, subst}
use Rattle.std.specs.Prelude.{All, map, min, nat_lt, slice_get, ⊤}
use Rattle.std.specs.List.{Contains}
use Rattle.std.proofs.lemmas.Bool.{cases_Bool, eqb-true}
use Rattle.std.proofs.lemmas.Option.{get_or_from_slice_get, slice_get_within}
use Rattle.std.proofs.lemmas.List.Elements.{All-cons, All-contains, All-nil, Contains-append_left, Contains-append_right, Contains-push}
use Rattle.irig_time.specs.declared.second.UtcSecond.{UtcSecond}
use Rattle.irig_time.specs.Timelines.{IsSecond}
use Rattle.irig_lines.specs.Lines.{IsTrueLately}
use Rattle.irig_lines.specs.Steps.{AreNewLines, no_lines}
use Rattle.irig_reader.specs.declared.report.Report.{Report}
use Rattle.irig_timekeeper.specs.Life.{Call}
use Rattle.irig_timekeeper.specs.Lived.{made_with}
use Rattle.irig_timekeeper.specs.Loops.{ComeInARow}
use Rattle.irig_timekeeper.specs.Truth.{FollowsTruth}
use Rattle.irig_wires.specs.declared.wire.Wire.{Wire}
use Rattle.irig_wires.specs.Wires.{added, made_late, most_late_us, plugged, pulled}
use Rattle.irig_simulated.specs.declared.told_second.ToldSecond.{ToldSecond}
use Rattle.irig_simulated.specs.Kinds.{Kind, MovesOn, edges_by_kind}
use Rattle.irig_simulated.specs.Courses.{Course, passed, ticked, told_taken}
use Rattle.irig_simulated.specs.Doings.{AreCounted, Doing, IsTickedInTime, behind, course_behind, told_by}
use Rattle.irig_simulated.specs.Doings.Doing.{TakeTold, TickByHand}
use Rattle.irig_simulated.specs.Doings.Doing.{BeLate as IsLate, Pass as Passes, Plug as IsPlugged, Pull as IsPulled, Pulse as HasPulse, Restart as IsRestarted}
use Rattle.irig_simulated.specs.Announced.{HasTold}
use Rattle.irig_simulated.proofs.AnnounceCourses.{course_announces, told_passed, told_ticked}
use Rattle.irig_station.specs.declared.entry.Entry.{Entry}
use Rattle.irig_station.specs.declared.entry.Entry.TheVariants.{Told}
use Rattle.irig_station.specs.declared.event.Event.{Event}
use Rattle.irig_station.specs.declared.event.Event.TheVariants.{Pass, Fault, Repair, Pull, Plug, Late, Pulse, Tick, Restart, Stamp}
use Rattle.irig_simulated.specs.declared.setup.Ticking.TheVariants.{ByWait, Each}
use Rattle.irig_simulated.specs.Kinds.{IsDevicePlan}
use Rattle.irig_simulated.specs.Setups.{DevicePlan}
use Rattle.irig_reader.specs.Locking.{voted_report}
use Rattle.irig_wires.proofs.OscillatorLaws.{rate_near}
use Rattle.irig_station.specs.StationSetups.{IsStationSetup, StationSetup, kind_if, kind_of_device, redundancy_of_station}
use Rattle.irig_station.specs.SentSeconds.{signal_by}
use Rattle.irig_station.specs.StationStandings.{StationStanding, StationStep, at_course, devices_gone, has_begun_if_due, has_gone, has_stamped, is_at_edge, lacks_second, late_of, part_gone, part_us, time_gone, with_course}
use Rattle.irig_station.specs.StationPlay.{play_event, standing_after, unless_device, unless_source, with_cable, with_cable_if}
use Rattle.irig_station.specs.StationPromise.{IsAnnounced, IsTrueEntry}
use Rattle.irig_station.proofs.PromiseLaws.{kept_true}
use Rattle.irig_station.proofs.StationLaws.{course_here}

-- ---- told seconds of a device that a log has

abbrev AreLogged : (r : ℕ) → List Entry → List ToldSecond → Type 0
AreLogged r log [] = ⊤
AreLogged r log (told ∷ seconds) = Contains log (Told r told) × AreLogged r log seconds

logged_on : (r : ℕ) (log more : List Entry) (seconds : List ToldSecond) → AreLogged r log seconds → AreLogged r (log ++ more) seconds
logged_on r log more [] are = tt
logged_on r log more (told ∷ seconds) are = (Contains-append_left log more (Told r told) are.0, logged_on r log more seconds are.1)

logged_behind : (r : ℕ) (log before : List Entry) (seconds : List ToldSecond) → AreLogged r log seconds → AreLogged r (before ++ log) seconds
logged_behind r log before [] are = tt
logged_behind r log before (told ∷ seconds) are = (Contains-append_right before log (Told r told) are.0, logged_behind r log before seconds are.1)

both_logged : (r : ℕ) (log : List Entry) (seconds more : List ToldSecond) → AreLogged r log seconds → AreLogged r log more → AreLogged r log (seconds ++ more)
both_logged r log [] more are also = also
both_logged r log (told ∷ seconds) more are also = (are.0, both_logged r log seconds more are.1 also)

newer_logged : (r : ℕ) (log : List Entry) (seconds more : List ToldSecond) → AreLogged r log (seconds ++ more) → AreLogged r log more
newer_logged r log [] more are = are
newer_logged r log (told ∷ seconds) more are = newer_logged r log seconds more are.1

as_entries : (r : ℕ) (seconds : List ToldSecond) → AreLogged r (map (λ told. Told r told) seconds) seconds
as_entries r [] = tt
as_entries r (told ∷ seconds) =
    let rest : List Entry = map (λ told. Told r told) seconds in
    (Contains-append_left (Told r told ∷ []) rest (Told r told) (Contains-push [] (Told r told)), logged_behind r rest (Told r told ∷ []) seconds (as_entries r seconds))

all_logged : (r : ℕ) (log : List Entry) (seconds : List ToldSecond) → AreLogged r log seconds → All (λ (told : ToldSecond). Contains log (Told r told)) seconds
all_logged r log [] are = All-nil (λ (told : ToldSecond). Contains log (Told r told))
all_logged r log (told ∷ seconds) are = All-cons (λ (told : ToldSecond). Contains log (Told r told)) told seconds are.0 (all_logged r log seconds are.1)

-- ---- one device of a station

module _ (s : StationSetup) (r : ℕ) where
  abbrev kind : Kind
  kind = kind_of_device s r

  abbrev late : List ℕ
  late = late_of (slice_get s.devices r)

  -- it is on its course, up to a time at most, and what its calls told since it was made or restarted is
  -- logged
  pub record IsOnCourse (top : ℕ) (x : StationStanding) : Type 0 where
    pub doings : List Doing
    pub course : x.courses r ≡ course_behind kind late doings
    pub now : (x.courses r).now ≤ top
    pub logged : AreLogged r x.log (told_by kind (x.courses r).calls)

  -- it is there as before, and the log is longer at most
  as_it_was : (top now : ℕ) (x y : StationStanding) (more : List Entry) → y.courses r ≡ x.courses r → y.log ≡ x.log ++ more → top ≤ now → IsOnCourse top x → IsOnCourse now y
  as_it_was top now x y more same log later h = record {
    doings = h.doings;
    course = same ∙ h.course;
    now = (let at = ap (λ (c : Course). c.now) same in omega (arith, at, h.now, later));
    logged =
        subst (λ (c : Course). AreLogged r y.log (told_by kind c.calls)) (sym same)
        (subst (λ (l : List Entry). AreLogged r l (told_by kind (x.courses r).calls)) (sym log) (logged_on r x.log more (told_by kind (x.courses r).calls) h.logged));
  }

  -- something is done with it that tells nothing
  quiet : (top : ℕ) (d : Doing) (x y : StationStanding) → y.courses r ≡ behind kind d (x.courses r) → y.log ≡ x.log → (behind kind d (x.courses r)).now ≤ top → AreLogged r x.log (told_by kind (behind kind d (x.courses r)).calls) → IsOnCourse top x → IsOnCourse top y
  quiet top d x y same log by logged h = record {
    doings = d ∷ h.doings;
    course = same ∙ ap (behind kind d) h.course;
    now = subst (λ (c : Course). c.now ≤ top) (sym same) by;
    logged =
        subst (λ (c : Course). AreLogged r y.log (told_by kind c.calls)) (sym same)
        (subst (λ (l : List Entry). AreLogged r l (told_by kind (behind kind d (x.courses r)).calls)) (sym log) logged);
  }

  -- it goes on, and what it told is logged
  goes : (top now : ℕ) (d : Doing) (course : Course) (x : StationStanding) → course ≡ behind kind d (x.courses r) → HasTold kind (x.courses r) course → course.now ≤ now → IsOnCourse top x → IsOnCourse now (has_gone s r course x)
  goes top now d course x is told by h =
      let here : with_course r (told_taken course) x.courses r ≡ told_taken course = course_here r (told_taken course) x.courses in
      let entries : List Entry = map (λ told. Told r told) course.told in
      let all : AreLogged r (x.log ++ entries) course.told = logged_behind r entries x.log course.told (as_entries r course.told) in
      let new : AreLogged r (x.log ++ entries) told.more = newer_logged r (x.log ++ entries) (x.courses r).told told.more (subst (AreLogged r (x.log ++ entries)) told.told all) in
      let old : AreLogged r (x.log ++ entries) (told_by kind (x.courses r).calls) = logged_on r x.log entries (told_by kind (x.courses r).calls) h.logged in
      let both : AreLogged r (x.log ++ entries) (told_by kind course.calls) = subst (AreLogged r (x.log ++ entries)) (sym told.calls) (both_logged r (x.log ++ entries) (told_by kind (x.courses r).calls) told.more old new) in
      record {
        doings = TakeTold ∷ (d ∷ h.doings);
        course = here ∙ ap told_taken (is ∙ ap (behind kind d) h.course);
        now = subst (λ (c : Course). c.now ≤ now) (sym here) by;
        logged = subst (λ (c : Course). AreLogged r (x.log ++ entries) (told_by kind c.calls)) (sym here) both;
      }

  -- another device does not touch it
  elsewhere : (q : ℕ) (course : Course) (x : StationStanding) → (r == q) ≡ false → with_course q course x.courses r ≡ x.courses r
  elsewhere q course x other = rw other refl

  -- ---- time passes

  passes : (stop q : ℕ) (x : StationStanding) → IsOnCourse stop x → IsOnCourse stop (has_gone s q (passed (kind_of_device s q) (signal_by x.seconds) stop (x.courses q)) x)
  passes stop q x h = elim (cases_Bool (r == q)) [
    | inr other ↦
        let course = passed (kind_of_device s q) (signal_by x.seconds) stop (x.courses q) in
        as_it_was stop stop x (has_gone s q course x) (map (λ told. Told q told) course.told) (elsewhere q (told_taken course) x other) refl (omega arith) h
    | inl same ↦
        subst (λ (i : ℕ). IsOnCourse stop (has_gone s i (passed (kind_of_device s i) (signal_by x.seconds) stop (x.courses i)) x)) (eqb-true r q same)
        (goes stop stop (Passes (signal_by x.seconds) (stop - (x.courses r).now)) (passed kind (signal_by x.seconds) stop (x.courses r)) x
        (let at : stop ≡ (x.courses r).now + (stop - (x.courses r).now) = (let by = h.now in omega (arith, by)) in ap (λ (n : ℕ). passed kind (signal_by x.seconds) n (x.courses r)) at)
        (told_passed kind (signal_by x.seconds) stop (x.courses r)) (omega arith) h)
  ]

  devices_pass : (stop devices : ℕ) (x : StationStanding) → IsOnCourse stop x → IsOnCourse stop (devices_gone s stop devices x)
  devices_pass stop zero x h = h
  devices_pass stop (suc q) x h =
      let gone = passes stop q (devices_gone s stop q x) (devices_pass stop q x h) in
      record { doings = gone.doings; course = gone.course; now = gone.now; logged = gone.logged }

  -- so between events, at the present time
  abbrev Stands : StationStanding → Type 0
  Stands x = IsOnCourse x.now x

  again : (x y : StationStanding) → y.courses r ≡ x.courses r → y.log ≡ x.log → x.now ≤ y.now → Stands x → Stands y
  again x y same log later h = as_it_was x.now y.now x y [] same (log ∙ sym (append-nil x.log)) later h

  pub part_passes : (stop : ℕ) (x : StationStanding) → x.now ≤ stop → Stands x → Stands (part_gone s stop x)
  part_passes stop x later h =
      let d = devices_pass stop (length s.devices) x (as_it_was x.now stop x x [] refl (sym (append-nil x.log)) later h) in
      as_it_was stop stop (devices_gone s stop (length s.devices) x) (part_gone s stop x) [] refl (sym (append-nil (devices_gone s stop (length s.devices) x).log)) (omega arith) d

  pub second_begins : (x : StationStanding) → Stands x → Stands (has_begun_if_due s x)
  second_begins x h = elim (cases_Bool (is_at_edge x)) [
    | inl due ↦ rw due (record { doings = h.doings; course = h.course; now = h.now; logged = h.logged })
    | inr not_yet ↦ rw not_yet h
  ]

  time_passes : (parts us : ℕ) (x : StationStanding) → Stands x → Stands (time_gone s parts us x).standing
  time_passes zero us x h = h
  time_passes (suc parts) us x h = elim (cases_Bool (us == 0)) [
    | inl over ↦ rw over h
    | inr more ↦ elim (cases_Bool (lacks_second s x)) [
      | inl end ↦ rw (more, end) h
      | inr goes ↦
          let begun = has_begun_if_due s x in
          let part = part_us us begun in
          rw (more, goes) (time_passes parts (us - part) (part_gone s (begun.now + part) begun) (part_passes (begun.now + part) begun (omega arith) (second_begins x h)))
    ]
  ]

  -- ---- events

  if_device : (q : ℕ) (x : StationStanding) (rest : StationStep) → Stands x → Stands rest.standing → Stands (unless_device s q x rest).standing
  if_device q x rest h go = elim (cases_Bool (nat_lt q (length s.devices))) [
    | inl there ↦ rw there go
    | inr none ↦ rw none h
  ]

  if_source : (g : ℕ) (x : StationStanding) (rest : StationStep) → Stands x → Stands rest.standing → Stands (unless_source s g x rest).standing
  if_source g x rest h go = elim (cases_Bool (nat_lt g (length s.generators))) [
    | inl there ↦ rw there go
    | inr none ↦ rw none h
  ]

  -- a device is another by something that tells nothing
  changes : (q : ℕ) (d : Doing) (x : StationStanding) → (behind kind d (x.courses r)).now ≤ x.now → (AreLogged r x.log (told_by kind (x.courses r).calls) → AreLogged r x.log (told_by kind (behind kind d (x.courses r)).calls)) → Stands x → Stands (at_course q (behind (kind_of_device s q) d (x.courses q)) x)
  changes q d x by still h = elim (cases_Bool (r == q)) [
    | inr other ↦ again x (at_course q (behind (kind_of_device s q) d (x.courses q)) x) (elsewhere q (behind (kind_of_device s q) d (x.courses q)) x other) refl (omega arith) h
    | inl same ↦
        subst (λ (i : ℕ). Stands (at_course i (behind (kind_of_device s i) d (x.courses i)) x)) (eqb-true r q same)
        (quiet x.now d x (at_course r (behind kind d (x.courses r)) x) (course_here r (behind kind d (x.courses r)) x.courses) refl by (still h.logged) h)
  ]

  line_changes : (g q : ℕ) (change : Wire → Wire) (x : StationStanding) → Stands x → Stands (with_cable g q change x) → Stands (with_cable_if s g q change x).standing
  line_changes g q change x h go = if_device q x _ h (if_source g x _ h go)

  ticks : (q : ℕ) (x : StationStanding) → Stands x → Stands (has_gone s q (ticked (kind_of_device s q) (x.courses q)) x)
  ticks q x h = elim (cases_Bool (r == q)) [
    | inr other ↦
        let course = ticked (kind_of_device s q) (x.courses q) in
        as_it_was x.now x.now x (has_gone s q course x) (map (λ told. Told q told) course.told) (elsewhere q (told_taken course) x other) refl (omega arith) h
    | inl same ↦
        subst (λ (i : ℕ). Stands (has_gone s i (ticked (kind_of_device s i) (x.courses i)) x)) (eqb-true r q same)
        (goes x.now x.now TickByHand (ticked kind (x.courses r)) x refl (told_ticked kind (x.courses r)) h.now h)
  ]

  stamps : (q time : ℕ) (x : StationStanding) → Stands x → Stands (has_stamped s q time x)
  stamps q time x h = as_it_was x.now x.now x (has_stamped s q time x) _ refl refl (omega arith) h

  plays : (e : Event) (x : StationStanding) → Stands x → Stands (play_event s e x).standing
  plays (Pass us) x h = time_passes _ us x h
  plays (Fault g kind) x h = if_source g x _ h (record { doings = h.doings; course = h.course; now = h.now; logged = h.logged })
  plays (Repair g) x h = if_source g x _ h (record { doings = h.doings; course = h.course; now = h.now; logged = h.logged })
  plays (Pull g q) x h = line_changes g q pulled x h (changes q (IsPulled g) x h.now (λ logged. logged) h)
  plays (Plug g q) x h = line_changes g q plugged x h (changes q (IsPlugged g) x h.now (λ logged. logged) h)
  plays (Late g q us) x h = line_changes g q (made_late (min us most_late_us)) x h (changes q (IsLate g (min us most_late_us)) x h.now (λ logged. logged) h)
  plays (Pulse g q width) x h = line_changes g q (added (x.courses q).now width) x h (changes q (HasPulse g width) x h.now (λ logged. logged) h)
  plays (Tick q) x h = if_device q x _ h (ticks q x h)
  plays (Restart q) x h = if_device q x _ h (changes q IsRestarted x h.now (λ logged. tt) h)
  plays (Stamp q ago) x h = if_device q x _ h (elim (cases_Bool (nat_lt x.now ago)) [
    | inl early ↦ rw early h
    | inr past ↦ rw past (stamps q (x.now - ago) x h)
  ])

  pub stands : (ev : List Event) → Stands (standing_after s ev)
  stands [] = record { doings = []; course = refl; now = omega arith; logged = tt }
  stands (e ∷ ev) = plays e (standing_after s ev) (stands ev)

-- ---- its kind

same_kind : (s : StationSetup) (is : IsStationSetup s) (r : ℕ) (o : Option DevicePlan) → slice_get s.devices r ≡ o → (999000 ≤ (kind_if s.rules (redundancy_of_station s) o).rate) × ((kind_if s.rules (redundancy_of_station s) o).rate ≤ 1001000)
same_kind s is r None at = (omega arith, omega arith)
same_kind s is r (Some d) at =
    let own : IsDevicePlan d = subst IsDevicePlan (get_or_from_slice_get s.devices r d d at) (is.devices r d (slice_get_within s.devices r d at)) in
    let near = rate_near d.gain_us 1000 own.gain in
    (let low = near.0 in omega (arith, low), near.1)

later_tick : (k : Kind) → IsTickedInTime k → (us : ℕ) → k.ticking ≡ Each us → 0 < us
later_tick k (inl by_wait) us is = absurd (let both : ByWait ≡ Each us = sym by_wait ∙ is in cc)
later_tick k (inr each) us is = (let both : Each each.0 ≡ Each us = sym each.1 ∙ is in let same : each.0 ≡ us = cc in let some = each.2 in omega (arith, some, same))

pub moves_in_time : (s : StationSetup) → IsStationSetup s → (r : ℕ) → IsTickedInTime (kind_of_device s r) → MovesOn (kind_of_device s r) × ((kind_of_device s r).rate ≤ 1001000)
moves_in_time s is r in_time =
    let rate = same_kind s is r (slice_get s.devices r) refl in
    (record { counts = (let least = rate.0 in omega (arith, least)); later = later_tick (kind_of_device s r) in_time }, rate.1)

-- ---- it announces

-- the edge of a second that is true
its_edge : (s : StationSetup) (r n : ℕ) (u : UtcSecond) (log : List Entry) (told : ToldSecond) → All (IsTrueEntry s) log → Contains log (Told r told) → told.beat.report ≡ voted_report u → IsSecond s.times n u → told.edge ≡ n
its_edge s r n u log told all among says second =
    let true_of = All-contains (IsTrueEntry s) log (Told r told) all among in
    let here = (true_of u (ap (λ (r : Report). r.announce) says)).0 in
    omega (arith, here.sum, second.sum)

pub station_announces : (s : StationSetup) (ev : List Event) (r m : ℕ) (calls before : List Call) (u : UtcSecond) (fresh : AreNewLines no_lines) → IsStationSetup s → IsTickedInTime (kind_of_device s r)
    → ((standing_after s ev).courses r).calls ≡ calls ++ before → AreCounted calls
    → ComeInARow (IsTrueLately (kind_of_device s r).made.clock.within.us) s.times (edges_by_kind (kind_of_device s r)) (made_with (kind_of_device s r).made no_lines fresh) ((standing_after s ev).courses r).start m calls before
    → FollowsTruth s.times (kind_of_device s r).made.clock.prefers_frames (kind_of_device s r).made.table
    → IsSecond s.times (m + 1 + (kind_of_device s r).made.clock.reader_rules.lock_after) u
    → IsAnnounced s r (m + 1 + (kind_of_device s r).made.clock.reader_rules.lock_after) u (standing_after s ev)
station_announces s ev r m calls before u fresh is in_time are counted come follows second =
    let k = kind_of_device s r in
    let x = standing_after s ev in
    let n = m + 1 + k.made.clock.reader_rules.lock_after in
    let h = stands s r ev in
    let moves = moves_in_time s is r in_time in
    let c = course_behind k (late_of (slice_get s.devices r)) h.doings in
    let calls_are : c.calls ≡ calls ++ before = ap (λ (y : Course). y.calls) (sym h.course) ∙ are in
    let row = subst (λ (y : Course). ComeInARow (IsTrueLately k.made.clock.within.us) s.times (edges_by_kind k) (made_with k.made no_lines fresh) y.start m calls before) h.course come in
    let announced = course_announces s.times k (late_of (slice_get s.devices r)) h.doings m calls before u moves.0 moves.1 in_time calls_are counted fresh row follows second in
    let found = subst (λ (y : Course). Contains (told_by k y.calls) announced.told) (sym h.course) announced.among in
    let logged = All-contains (λ (told : ToldSecond). Contains x.log (Told r told)) (told_by k (x.courses r).calls) announced.told (all_logged r x.log (told_by k (x.courses r).calls) h.logged) found in
    record {
      told = announced.told;
      among = logged;
      soon = announced.soon;
      says = announced.says;
      edge = λ kept. its_edge s r n u x.log announced.told (kept_true s is ev kept) logged announced.says second;
    }
