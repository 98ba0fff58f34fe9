-- Each entry of a station's log is of one of its devices.
use Rattle.std.proofs.Common.{◌≡◌, ℕ, zero, suc, ◌+◌, ◌-◌, ◌<◌, ◌==◌, List, [], ◌∷◌, ◌++◌, All, length, arith, inl, inr}
use Rattle.std.specs.Prelude.{map, min, nat_lt}
use Rattle.std.proofs.lemmas.Bool.{cases_Bool, ltb-true}
use Rattle.std.proofs.lemmas.List.Elements.{All-nil, All-cons, All-append}
use Rattle.irig_wires.specs.declared.wire.Wire.{Wire}
use Rattle.irig_wires.specs.Wires.{added, made_late, most_late_us, plugged, pulled}
use Rattle.irig_simulated.specs.declared.told_second.ToldSecond.{ToldSecond}
use Rattle.irig_simulated.specs.Courses.{Course, passed, stamp_said, ticked}
use Rattle.irig_station.specs.declared.entry.Entry.{Entry}
use Rattle.irig_station.specs.declared.entry.Entry.TheVariants.{Told, Stamped}
use Rattle.irig_station.specs.declared.event.Event.{Event}
use Rattle.irig_station.specs.declared.event.Event.TheVariants.{Pass, Fault, Repair, Pull, Plug, Late, Pulse, Tick, Restart, Stamp}
use Rattle.irig_station.specs.StationSetups.{StationSetup, kind_of_device}
use Rattle.irig_station.specs.SentSeconds.{signal_by}
use Rattle.irig_station.specs.StationStandings.{StationStanding, StationStep, devices_gone, has_begun_if_due, has_gone, has_stamped, is_at_edge, lacks_second, part_gone, part_us, time_gone}
use Rattle.irig_station.specs.StationPlay.{log_of_station, play_event, standing_after, unless_device, unless_source, with_cable_if}
use Rattle.irig_station.specs.ValidEntries.{IsOfDevice}

module _ (s : StationSetup) where
  -- so far it is so
  abbrev AreKnown : StationStanding → Type 0
  AreKnown x = All (IsOfDevice (length s.devices)) x.log

  all_told : (r : ℕ) → r < length s.devices → (told : List ToldSecond) → All (IsOfDevice (length s.devices)) (map (λ t. Told r t) told)
  all_told r less [] = All-nil (IsOfDevice (length s.devices))
  all_told r less (t ∷ told) = All-cons (IsOfDevice (length s.devices)) (Told r t) (map (λ t. Told r t) told) less (all_told r less told)

  gone_known : (r : ℕ) → r < length s.devices → (course : Course) (x : StationStanding) → AreKnown x → AreKnown (has_gone s r course x)
  gone_known r less course x h = All-append (IsOfDevice (length s.devices)) x.log (map (λ t. Told r t) course.told) h (all_told r less course.told)

  stamp_known : (r time : ℕ) → r < length s.devices → (x : StationStanding) → AreKnown x → AreKnown (has_stamped s r time x)
  stamp_known r time less x h =
      let entry = Stamped r time (stamp_said (kind_of_device s r) (x.courses r) time) in
      All-append (IsOfDevice (length s.devices)) x.log (entry ∷ []) h (All-cons (IsOfDevice (length s.devices)) entry [] less (All-nil (IsOfDevice (length s.devices))))

  devices_known : (stop devices : ℕ) → devices < suc (length s.devices) → (x : StationStanding) → AreKnown x → AreKnown (devices_gone s stop devices x)
  devices_known stop zero few x h = h
  devices_known stop (suc r) few x h =
      let before = devices_gone s stop r x in
      gone_known r (omega (arith, few)) (passed (kind_of_device s r) (signal_by before.seconds) stop (before.courses r)) before
      (devices_known stop r (omega (arith, few)) x h)

  part_known : (stop : ℕ) (x : StationStanding) → AreKnown x → AreKnown (part_gone s stop x)
  part_known stop x h = devices_known stop (length s.devices) (omega arith) x h

  begun_known : (x : StationStanding) → AreKnown x → AreKnown (has_begun_if_due s x)
  begun_known x h = elim (cases_Bool (is_at_edge x)) [
    | inl due ↦ rw due h
    | inr not_yet ↦ rw not_yet h
  ]

  time_known : (parts us : ℕ) (x : StationStanding) → AreKnown x → AreKnown (time_gone s parts us x).standing
  time_known zero us x h = h
  time_known (suc parts) us x h = elim (cases_Bool (us == 0)) [
    | inl over ↦ rw over h
    | inr more ↦ elim (cases_Bool (lacks_second s x)) [
      | inl end ↦ rw (more, end) h
      | inr goes ↦
          let begun = has_begun_if_due s x in
          let part = part_us us begun in
          rw (more, goes) (time_known parts (us - part) (part_gone s (begun.now + part) begun) (part_known (begun.now + part) begun (begun_known x h)))
    ]
  ]

  if_device : (r : ℕ) (x : StationStanding) (rest : StationStep) → AreKnown x → (r < length s.devices → AreKnown rest.standing) → AreKnown (unless_device s r x rest).standing
  if_device r x rest h go = elim (cases_Bool (nat_lt r (length s.devices))) [
    | inl there ↦ rw there (go (ltb-true r (length s.devices) there))
    | inr none ↦ rw none h
  ]

  if_source : (g : ℕ) (x : StationStanding) (rest : StationStep) → AreKnown x → AreKnown rest.standing → AreKnown (unless_source s g x rest).standing
  if_source g x rest h go = elim (cases_Bool (nat_lt g (length s.generators))) [
    | inl there ↦ rw there go
    | inr none ↦ rw none h
  ]

  line_known : (g r : ℕ) (change : Wire → Wire) (x : StationStanding) → AreKnown x → AreKnown (with_cable_if s g r change x).standing
  line_known g r change x h = if_device r x _ h (λ less. if_source g x _ h h)

  event_known : (e : Event) (x : StationStanding) → AreKnown x → AreKnown (play_event s e x).standing
  event_known (Pass us) x h = time_known _ us x h
  event_known (Fault g kind) x h = if_source g x _ h h
  event_known (Repair g) x h = if_source g x _ h h
  event_known (Pull g r) x h = line_known g r pulled x h
  event_known (Plug g r) x h = line_known g r plugged x h
  event_known (Late g r us) x h = line_known g r (made_late (min us most_late_us)) x h
  event_known (Pulse g r width) x h = line_known g r (added (x.courses r).now width) x h
  event_known (Tick r) x h = if_device r x _ h (λ less. gone_known r less (ticked (kind_of_device s r) (x.courses r)) x h)
  event_known (Restart r) x h = if_device r x _ h (λ less. h)
  event_known (Stamp r ago) x h = if_device r x _ h (λ less. elim (cases_Bool (nat_lt x.now ago)) [
    | inl early ↦ rw early h
    | inr past ↦ rw past (stamp_known r (x.now - ago) less x h)
  ])

  pub each_is_of_a_device : (ev : List Event) → All (IsOfDevice (length s.devices)) (log_of_station s ev)
  each_is_of_a_device [] = All-nil (IsOfDevice (length s.devices))
  each_is_of_a_device (e ∷ ev) = event_known e (standing_after s ev) (each_is_of_a_device ev)
