-- A log grows at its end, and so do the pulses that devices heard; and an audit that is broken stays so.
use Rattle.std.proofs.Common.{◌≡◌, ◌∙◌, ℕ, zero, suc, ◌+◌, ◌-◌, ◌/◌, ◌==◌, List, [], ◌∷◌, ◌++◌, append_assoc, append-nil, length, refl, sym, ap, inl, inr}
use Rattle.std.specs.Prelude.{map, min, nat_lt}
use Rattle.std.proofs.lemmas.Bool.{cases_Bool}
use Rattle.irig_wires.specs.declared.wire.Wire.{Wire}
use Rattle.irig_wires.specs.Wires.{added, made_late, most_late_us, plugged, pulled}
use Rattle.irig_simulated.specs.declared.heard.HeardPulse.{HeardPulse}
use Rattle.irig_simulated.specs.Heard.{heard_until}
use Rattle.irig_simulated.specs.Courses.{Course, keeps_so_far, may_stamp, passed, stamp_said, ticked, told_taken}
use Rattle.irig_station.specs.declared.audit.Audit.{Audit}
use Rattle.irig_station.specs.declared.audit.Audit.TheVariants.{Kept}
use Rattle.irig_station.specs.declared.entry.Entry.{Entry}
use Rattle.irig_station.specs.declared.entry.Entry.TheVariants.{Told, Stamped}
use Rattle.irig_station.specs.declared.event.Event.{Event}
use Rattle.irig_station.specs.declared.event.Event.TheVariants.{Pass, Fault, Repair, Pull, Plug, Late, Pulse, Tick, Restart, Stamp}
use Rattle.irig_station.specs.StationSetups.{StationSetup, kind_of_device}
use Rattle.irig_station.specs.SentSeconds.{signal_by}
use Rattle.irig_station.specs.StationAudits.{audit_at_start}
use Rattle.irig_station.specs.StationStandings.{StationStanding, StationStep, at_course, devices_gone, has_begun_if_due, has_gone, has_stamped, is_at_edge, lacks_second, part_gone, part_us, symbols_so_far, time_gone, with_entries}
use Rattle.irig_station.specs.StationPlay.{audit_of_station, play_event, standing_after, unless_device, unless_source, with_cable_if}
use Rattle.irig_station.specs.StationPromise.{LogHasGrown}
use Rattle.irig_station.proofs.PromiseLaws.{seen_kept}

module _ (s : StationSetup) (x : StationStanding) where
  entries_grown : (entries : List Entry) (audit : Audit) (y : StationStanding) → LogHasGrown x y → (audit ≡ Kept → y.audit ≡ Kept) → LogHasGrown x (with_entries entries audit y)
  entries_grown entries audit y h from = record {
    more = h.more ++ entries;
    log = ap (λ (l : List Entry). l ++ entries) h.log ∙ (let e : (x.log ++ h.more) ++ entries ≡ x.log ++ (h.more ++ entries) = rw append_assoc refl in e);
    pulses = h.pulses;
    heard = h.heard;
    kept = λ kept. h.kept (from kept);
  }

  gone_grown : (r : ℕ) (course : Course) (y : StationStanding) → LogHasGrown x y → LogHasGrown x (has_gone s r course y)
  gone_grown r course y h =
      entries_grown (map (λ told. Told r told) course.told) _ (at_course r (told_taken course) y) (record { more = h.more; log = h.log; pulses = h.pulses; heard = h.heard; kept = h.kept })
      (λ kept. (seen_kept y.audit r (y.now / 1000000) (keeps_so_far (kind_of_device s r) (symbols_so_far s y) course) kept).0)

  stamp_grown : (r time : ℕ) (y : StationStanding) → LogHasGrown x y → LogHasGrown x (has_stamped s r time y)
  stamp_grown r time y h =
      entries_grown (Stamped r time (stamp_said (kind_of_device s r) (y.courses r) time) ∷ []) _ y h
      (λ kept. (seen_kept y.audit r (y.now / 1000000) (may_stamp (kind_of_device s r) (symbols_so_far s y) (y.courses r) time) kept).0)

  devices_grown : (stop devices : ℕ) (y : StationStanding) → LogHasGrown x y → LogHasGrown x (devices_gone s stop devices y)
  devices_grown stop zero y h = h
  devices_grown stop (suc r) y h =
      let before = devices_gone s stop r y in
      let gone = gone_grown r (passed (kind_of_device s r) (signal_by before.seconds) stop (before.courses r)) before (devices_grown stop r y h) in
      let new = heard_until (kind_of_device s r) r (signal_by before.seconds) stop (before.courses r) in
      record {
        more = gone.more;
        log = gone.log;
        pulses = gone.pulses ++ new;
        heard = ap (λ (l : List HeardPulse). l ++ new) gone.heard ∙ append_assoc x.heard gone.pulses new;
        kept = gone.kept;
      }

  part_grown : (stop : ℕ) (y : StationStanding) → LogHasGrown x y → LogHasGrown x (part_gone s stop y)
  part_grown stop y h = (let d = devices_grown stop (length s.devices) y h in record { more = d.more; log = d.log; pulses = d.pulses; heard = d.heard; kept = d.kept })

  begun_grown : (y : StationStanding) → LogHasGrown x y → LogHasGrown x (has_begun_if_due s y)
  begun_grown y h = elim (cases_Bool (is_at_edge y)) [
    | inl due ↦ rw due (record { more = h.more; log = h.log; pulses = h.pulses; heard = h.heard; kept = h.kept })
    | inr not_yet ↦ rw not_yet h
  ]

  time_grown : (parts us : ℕ) (y : StationStanding) → LogHasGrown x y → LogHasGrown x (time_gone s parts us y).standing
  time_grown zero us y h = h
  time_grown (suc parts) us y h = elim (cases_Bool (us == 0)) [
    | inl over ↦ rw over h
    | inr more ↦ elim (cases_Bool (lacks_second s y)) [
      | inl end ↦ rw (more, end) h
      | inr goes ↦
          let begun = has_begun_if_due s y in
          let part = part_us us begun in
          rw (more, goes) (time_grown parts (us - part) (part_gone s (begun.now + part) begun) (part_grown (begun.now + part) begun (begun_grown y h)))
    ]
  ]

  if_device : (r : ℕ) (y : StationStanding) (rest : StationStep) → LogHasGrown x y → LogHasGrown x rest.standing → LogHasGrown x (unless_device s r y rest).standing
  if_device r y rest h go = elim (cases_Bool (nat_lt r (length s.devices))) [
    | inl there ↦ rw there go
    | inr none ↦ rw none h
  ]

  if_source : (g : ℕ) (y : StationStanding) (rest : StationStep) → LogHasGrown x y → LogHasGrown x rest.standing → LogHasGrown x (unless_source s g y rest).standing
  if_source g y rest h go = elim (cases_Bool (nat_lt g (length s.generators))) [
    | inl there ↦ rw there go
    | inr none ↦ rw none h
  ]

  line_grown : (g r : ℕ) (change : Wire → Wire) (y : StationStanding) → LogHasGrown x y → LogHasGrown x (with_cable_if s g r change y).standing
  line_grown g r change y h = if_device r y _ h (if_source g y _ h (record { more = h.more; log = h.log; pulses = h.pulses; heard = h.heard; kept = h.kept }))

  event_grown : (e : Event) (y : StationStanding) → LogHasGrown x y → LogHasGrown x (play_event s e y).standing
  event_grown (Pass us) y h = time_grown _ us y h
  event_grown (Fault g kind) y h = if_source g y _ h (record { more = h.more; log = h.log; pulses = h.pulses; heard = h.heard; kept = h.kept })
  event_grown (Repair g) y h = if_source g y _ h (record { more = h.more; log = h.log; pulses = h.pulses; heard = h.heard; kept = h.kept })
  event_grown (Pull g r) y h = line_grown g r pulled y h
  event_grown (Plug g r) y h = line_grown g r plugged y h
  event_grown (Late g r us) y h = line_grown g r (made_late (min us most_late_us)) y h
  event_grown (Pulse g r width) y h = line_grown g r (added (y.courses r).now width) y h
  event_grown (Tick r) y h = if_device r y _ h (gone_grown r (ticked (kind_of_device s r) (y.courses r)) y h)
  event_grown (Restart r) y h = if_device r y _ h (record { more = h.more; log = h.log; pulses = h.pulses; heard = h.heard; kept = h.kept })
  event_grown (Stamp r ago) y h = if_device r y _ h (elim (cases_Bool (nat_lt y.now ago)) [
    | inl early ↦ rw early h
    | inr past ↦ rw past (stamp_grown r (y.now - ago) y h)
  ])

  itself : LogHasGrown x x
  itself = record { more = []; log = sym (append-nil x.log); pulses = []; heard = sym (append-nil x.heard); kept = λ kept. kept }

  pub grows : (e : Event) → LogHasGrown x (play_event s e x).standing
  grows e = event_grown e x itself

pub kept_at_start : (s : StationSetup) (ev : List Event) → audit_of_station s ev ≡ Kept → audit_at_start s ≡ Kept
kept_at_start s [] kept = kept
kept_at_start s (e ∷ ev) kept = kept_at_start s ev ((grows s (standing_after s ev) e).kept kept)
