-- Each entry that was logged while the audit was kept is true.
use Rattle.std.proofs.Common.{◌≡◌, ℕ, zero, suc, ◌+◌, ◌-◌, ◌/◌, ◌<◌, ◌≤◌, ◌==◌, Bool, true, false, List, [], ◌∷◌, ◌++◌, length, take, refl, sym, arith, inl, inr, subst}
use Rattle.std.specs.Prelude.{All, map, min, nat_lt}
use Rattle.std.proofs.lemmas.Bool.{cases_Bool, ltb-true}
use Rattle.std.proofs.lemmas.List.{length-append, take_all, take-append-le}
use Rattle.std.proofs.lemmas.List.Elements.{All-append, All-map, All-nil, All-push}
use Rattle.irig_wires.specs.declared.wire.Wire.{Wire}
use Rattle.irig_wires.specs.Wires.{added, made_late, most_late_us, plugged, pulled}
use Rattle.irig_simulated.specs.declared.told_second.ToldSecond.{ToldSecond}
use Rattle.irig_simulated.specs.Courses.{Course, begun_anew, keeps_so_far, may_stamp, on_line, passed, stamp_said, ticked}
use Rattle.irig_simulated.specs.Truth.{IsToldOfItsEdge}
use Rattle.irig_station.specs.declared.audit.Audit.{Audit}
use Rattle.irig_station.specs.declared.audit.Audit.TheVariants.{Kept, FalseTable, Drift, Broken}
use Rattle.irig_station.specs.declared.entry.Entry.{Entry}
use Rattle.irig_station.specs.declared.entry.Entry.TheVariants.{Told, Stamped}
use Rattle.irig_station.specs.declared.event.Event.{Event}
use Rattle.irig_station.specs.declared.event.Event.TheVariants.{Pass, Fault, Repair, Pull, Plug, Late, Pulse, Tick, Restart, Stamp}
use Rattle.irig_station.specs.StationSetups.{IsStationSetup, StationSetup, kind_of_device}
use Rattle.irig_station.specs.SentSeconds.{signal_by}
use Rattle.irig_station.specs.StationAudits.{audit_at_start, audit_seen}
use Rattle.irig_station.specs.StationStandings.{StationStanding, StationStep, at_course, devices_gone, has_begun_if_due, has_gone, has_stamped, is_at_edge, lacks_second, part_gone, part_us, station_at_start, symbols_so_far, time_gone, with_course, with_entries}
use Rattle.irig_station.specs.StationPlay.{audit_of_station, log_of_station, play_event, standing_after, unless_device, unless_source, vouched_log, with_cable_if}
use Rattle.irig_station.specs.StationPromise.{IsTrueEntry}
use Rattle.irig_station.proofs.SetupLaws.{true_kind}
use Rattle.irig_station.proofs.CourseTruth.{passed_true, stamp_true, ticked_true}

-- what stands of a station's log: what is vouched for is true; that is all while the audit is kept, which
-- it then was at the start; and between events nothing is told that is not logged
pub record IsVouched (s : StationSetup) (x : StationStanding) : Type 0 where
  pub entries : All (IsTrueEntry s) (take x.vouched x.log)
  pub few : x.vouched ≤ length x.log
  pub all : x.audit ≡ Kept → x.vouched ≡ length x.log
  pub start : x.audit ≡ Kept → audit_at_start s ≡ Kept
  pub none : (r : ℕ) → (x.courses r).told ≡ []

pub seen_kept : (audit : Audit) (r edge : ℕ) (is_kept : Bool) → audit_seen audit r edge is_kept ≡ Kept → (audit ≡ Kept) × (is_kept ≡ true)
seen_kept Kept r edge true e = (refl, refl)
seen_kept Kept r edge false e = absurd cc
seen_kept (FalseTable q) r edge is_kept e = absurd cc
seen_kept (Drift q) r edge is_kept e = absurd cc
seen_kept (Broken q n) r edge is_kept e = absurd cc

module _ (s : StationSetup) (is : IsStationSetup s) where
  abbrev IsTrue : Entry → Type 0
  IsTrue = IsTrueEntry s

  -- ---- entries are logged

  -- those of before stay as they were
  as_before : (entries : List Entry) (x : StationStanding) → IsVouched s x → All IsTrue (take x.vouched (x.log ++ entries))
  as_before entries x h = subst (λ (l : List Entry). All IsTrue l) (sym (take-append-le x.vouched x.log entries h.few)) h.entries

  still_few : (entries : List Entry) (x : StationStanding) → IsVouched s x → x.vouched ≤ length (x.log ++ entries)
  still_few entries x h = omega (arith, h.few, length-append x.log entries)

  all_logged : (entries : List Entry) (x : StationStanding) → IsVouched s x → x.audit ≡ Kept → All IsTrue entries → All IsTrue (take (length (x.log ++ entries)) (x.log ++ entries))
  all_logged entries x h kept more =
      let whole : take x.vouched x.log ≡ x.log = take_all x.vouched x.log (omega (arith, h.all kept)) in
      let old : All IsTrue x.log = subst (λ (l : List Entry). All IsTrue l) whole h.entries in
      subst (λ (l : List Entry). All IsTrue l) (sym (take_all (length (x.log ++ entries)) (x.log ++ entries) (omega arith))) (All-append IsTrue x.log entries old more)

  entries_vouched : (entries : List Entry) (audit : Audit) (x : StationStanding) → IsVouched s x → (audit ≡ Kept → (x.audit ≡ Kept) × All IsTrue entries) → IsVouched s (with_entries entries audit x)
  entries_vouched entries Kept x h from =
      let now = from refl in
      record { entries = all_logged entries x h now.0 now.1; few = omega arith; all = λ _. refl; start = λ _. h.start now.0; none = h.none }
  entries_vouched entries (FalseTable r) x h from = record { entries = as_before entries x h; few = still_few entries x h; all = λ e. absurd cc; start = λ e. absurd cc; none = h.none }
  entries_vouched entries (Drift r) x h from = record { entries = as_before entries x h; few = still_few entries x h; all = λ e. absurd cc; start = λ e. absurd cc; none = h.none }
  entries_vouched entries (Broken r n) x h from = record { entries = as_before entries x h; few = still_few entries x h; all = λ e. absurd cc; start = λ e. absurd cc; none = h.none }

  -- ---- a device

  none_at : (r : ℕ) (course : Course) (x : StationStanding) → IsVouched s x → course.told ≡ [] → (q : ℕ) → (with_course r course x.courses q).told ≡ []
  none_at r course x h none q = elim (cases_Bool (q == r)) [
    | inl here ↦ rw here none
    | inr other ↦ rw other (h.none q)
  ]

  course_vouched : (r : ℕ) (course : Course) (x : StationStanding) → IsVouched s x → course.told ≡ [] → IsVouched s (at_course r course x)
  course_vouched r course x h none = record { entries = h.entries; few = h.few; all = h.all; start = h.start; none = none_at r course x h none }

  gone_vouched : (r : ℕ) (course : Course) (x : StationStanding) → IsVouched s x
      → (audit_at_start s ≡ Kept → keeps_so_far (kind_of_device s r) (symbols_so_far s x) course ≡ true → All (IsToldOfItsEdge s.times) course.told)
      → IsVouched s (has_gone s r course x)
  gone_vouched r course x h from =
      entries_vouched (map (λ told. Told r told) course.told) _ (at_course r (record course { told = [] }) x) (course_vouched r (record course { told = [] }) x h refl)
      (λ e. let seen = seen_kept x.audit r (x.now / 1000000) (keeps_so_far (kind_of_device s r) (symbols_so_far s x) course) e in
      (seen.0, All-map IsTrue (λ (told : ToldSecond). Told r told) course.told (from (h.start seen.0) seen.1)))

  device_vouched : (stop r : ℕ) → r < length s.devices → (x : StationStanding) → IsVouched s x → IsVouched s (has_gone s r (passed (kind_of_device s r) (signal_by x.seconds) stop (x.courses r)) x)
  device_vouched stop r less x h = gone_vouched r (passed (kind_of_device s r) (signal_by x.seconds) stop (x.courses r)) x h
      (λ start kept. passed_true s.times s.rules (kind_of_device s r) (true_kind s is start r less) x.seconds (signal_by x.seconds) stop (x.courses r) (h.none r) kept)

  tick_vouched : (r : ℕ) → r < length s.devices → (x : StationStanding) → IsVouched s x → IsVouched s (has_gone s r (ticked (kind_of_device s r) (x.courses r)) x)
  tick_vouched r less x h = gone_vouched r (ticked (kind_of_device s r) (x.courses r)) x h
      (λ start kept. ticked_true s.times s.rules (kind_of_device s r) (true_kind s is start r less) x.seconds (x.courses r) (h.none r) kept)

  stamp_vouched : (r : ℕ) → r < length s.devices → (time : ℕ) (x : StationStanding) → IsVouched s x → IsVouched s (has_stamped s r time x)
  stamp_vouched r less time x h =
      let said = stamp_said (kind_of_device s r) (x.courses r) time in
      entries_vouched (Stamped r time said ∷ []) _ x h
      (λ e. let seen = seen_kept x.audit r (x.now / 1000000) (may_stamp (kind_of_device s r) (symbols_so_far s x) (x.courses r) time) e in (
        seen.0,
        All-push IsTrue [] (Stamped r time said) (All-nil IsTrue)
            (stamp_true s.times s.rules (kind_of_device s r) (true_kind s is (h.start seen.0) r less) x.seconds (x.courses r) time said seen.1 refl),
      ))

  -- ---- time

  devices_vouched : (stop devices : ℕ) → devices ≤ length s.devices → (x : StationStanding) → IsVouched s x → IsVouched s (devices_gone s stop devices x)
  devices_vouched stop zero few x h = h
  devices_vouched stop (suc r) few x h =
      let gone = device_vouched stop r few (devices_gone s stop r x) (devices_vouched stop r (omega (arith, few)) x h) in
      record { entries = gone.entries; few = gone.few; all = gone.all; start = gone.start; none = gone.none }

  part_vouched : (stop : ℕ) (x : StationStanding) → IsVouched s x → IsVouched s (part_gone s stop x)
  part_vouched stop x h = (let d = devices_vouched stop (length s.devices) (omega arith) x h in record { entries = d.entries; few = d.few; all = d.all; start = d.start; none = d.none })

  begun_vouched : (x : StationStanding) → IsVouched s x → IsVouched s (has_begun_if_due s x)
  begun_vouched x h = elim (cases_Bool (is_at_edge x)) [
    | inl due ↦ rw due (record { entries = h.entries; few = h.few; all = h.all; start = h.start; none = h.none })
    | inr not_yet ↦ rw not_yet h
  ]

  time_vouched : (parts us : ℕ) (x : StationStanding) → IsVouched s x → IsVouched s (time_gone s parts us x).standing
  time_vouched zero us x h = h
  time_vouched (suc parts) us x h = elim (cases_Bool (us == 0)) [
    | inl over ↦ rw over h
    | inr more ↦ elim (cases_Bool (lacks_second s x)) [
      | inl end ↦ rw (more, end) h
      | inr goes ↦
          let begun = has_begun_if_due s x in
          let part = part_us us begun in
          rw (more, goes) (time_vouched parts (us - part) (part_gone s (begun.now + part) begun) (part_vouched (begun.now + part) begun (begun_vouched x h)))
    ]
  ]

  -- ---- events

  if_device : (r : ℕ) (x : StationStanding) (rest : StationStep) → IsVouched s x → (r < length s.devices → IsVouched s rest.standing) → IsVouched s (unless_device s r x rest).standing
  if_device r x rest h go = elim (cases_Bool (nat_lt r (length s.devices))) [
    | inl there ↦ rw there (go (ltb-true r (length s.devices) there))
    | inr none ↦ rw none h
  ]

  if_source : (g : ℕ) (x : StationStanding) (rest : StationStep) → IsVouched s x → IsVouched s rest.standing → IsVouched s (unless_source s g x rest).standing
  if_source g x rest h go = elim (cases_Bool (nat_lt g (length s.generators))) [
    | inl there ↦ rw there go
    | inr none ↦ rw none h
  ]

  line_vouched : (g r : ℕ) (change : Wire → Wire) (x : StationStanding) → IsVouched s x → IsVouched s (with_cable_if s g r change x).standing
  line_vouched g r change x h = if_device r x _ h (λ _. if_source g x _ h (course_vouched r (on_line g change (x.courses r)) x h (h.none r)))

  pub event_vouched : (e : Event) (x : StationStanding) → IsVouched s x → IsVouched s (play_event s e x).standing
  event_vouched (Pass us) x h = time_vouched _ us x h
  event_vouched (Fault g kind) x h = if_source g x _ h (record { entries = h.entries; few = h.few; all = h.all; start = h.start; none = h.none })
  event_vouched (Repair g) x h = if_source g x _ h (record { entries = h.entries; few = h.few; all = h.all; start = h.start; none = h.none })
  event_vouched (Pull g r) x h = line_vouched g r pulled x h
  event_vouched (Plug g r) x h = line_vouched g r plugged x h
  event_vouched (Late g r us) x h = line_vouched g r (made_late (min us most_late_us)) x h
  event_vouched (Pulse g r width) x h = line_vouched g r (added (x.courses r).now width) x h
  event_vouched (Tick r) x h = if_device r x _ h (λ less. tick_vouched r less x h)
  event_vouched (Restart r) x h = if_device r x _ h (λ _. course_vouched r (begun_anew (kind_of_device s r) (x.courses r)) x h (h.none r))
  event_vouched (Stamp r ago) x h = if_device r x _ h (λ less. elim (cases_Bool (nat_lt x.now ago)) [
    | inl early ↦ rw early h
    | inr past ↦ rw past (stamp_vouched r less (x.now - ago) x h)
  ])

  start_vouched : IsVouched s (station_at_start s)
  start_vouched = record { entries = All-nil IsTrue; few = omega arith; all = λ _. refl; start = λ kept. kept; none = λ _. refl }

  pub vouched : (ev : List Event) → IsVouched s (standing_after s ev)
  vouched [] = start_vouched
  vouched (e ∷ ev) = event_vouched e (standing_after s ev) (vouched ev)

  pub vouched_true : (ev : List Event) → All IsTrue (vouched_log s ev)
  vouched_true ev = (vouched ev).entries

  pub kept_true : (ev : List Event) → audit_of_station s ev ≡ Kept → All IsTrue (log_of_station s ev)
  kept_true ev kept =
      let v = vouched ev in
      subst (λ (l : List Entry). All IsTrue l) (take_all (standing_after s ev).vouched (log_of_station s ev) (omega (arith, v.all kept))) v.entries
