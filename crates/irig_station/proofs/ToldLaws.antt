-- A device of a station is told the pulses that it heard, and no others.
use Rattle.std.proofs.Common.{◌≡◌, ◌≢◌, ◌∙◌, ℕ, zero, suc, ◌+◌, ◌-◌, ◌==◌, true, false, List, [], ◌∷◌, ◌++◌, append_assoc, append-nil, length, Option, refl, sym, ap, subst, arith, inl, inr}
use Rattle.std.specs.Prelude.{◌⊎◌, map, min, nat_lt, reverse}
use Rattle.std.proofs.lemmas.Bool.{cases_Bool, eq-eqb, eqb-false, eqb-true}
use Rattle.std.proofs.lemmas.List.{map-append, reverse-append}
use Rattle.irig_frame.specs.declared.symbol.Symbol.{Symbol}
use Rattle.irig_timekeeper.specs.Life.{Call}
use Rattle.irig_wires.specs.declared.wire.Wire.{Wire}
use Rattle.irig_wires.specs.Wires.{added, made_late, most_late_us, plugged, pulled}
use Rattle.irig_wires.specs.declared.wires.Happening.{Happening}
use Rattle.irig_wires.specs.declared.wires.Happening.TheVariants as happens
use Rattle.irig_plant.proofs.ListLaws.{apart}
use Rattle.irig_simulated.specs.declared.heard.HeardPulse.{HeardPulse}
use Rattle.irig_simulated.specs.Kinds.{Kind}
use Rattle.irig_simulated.specs.Courses.{Course, begun_anew, coming, most_in, on_line, passed, stepped, ticked, told_taken}
use Rattle.irig_simulated.specs.Heard.{call_of, heard_by, heard_of_most, heard_until, pulses_told}
use Rattle.irig_simulated.proofs.HeardLaws.{told_until}
use Rattle.irig_station.specs.declared.event.Event.{Event}
use Rattle.irig_station.specs.declared.event.Event.TheVariants.{Pass, Fault, Repair, Pull, Plug, Late, Pulse, Tick, Restart, Stamp}
use Rattle.irig_station.specs.StationSetups.{StationSetup, kind_of_device}
use Rattle.irig_station.specs.SentSeconds.{signal_by}
use Rattle.irig_station.specs.StationStandings.{StationStanding, StationStep, at_course, device_gone, devices_gone, has_begun_if_due, has_gone, has_stamped, is_at_edge, lacks_second, part_gone, part_us, station_at_start, time_gone, with_course}
use Rattle.irig_station.specs.StationPlay.{play_event, standing_after, unless_device, unless_source, with_cable_if}
use Rattle.irig_station.specs.StationHeard.{IsNotRestarted, IsToldSince, IsToldWhatItHeard, pulses_of}

-- ---- whose pulses they are

pulses_append : (r : ℕ) (one two : List HeardPulse) → pulses_of r (one ++ two) ≡ pulses_of r one ++ pulses_of r two
pulses_append r [] two = refl
pulses_append r (p ∷ one) two = elim (cases_Bool (p.device == r)) [
  | inl own ↦ rw own (ap (λ (l : List HeardPulse). p ∷ l) (pulses_append r one two))
  | inr other ↦ rw other (pulses_append r one two)
]

module _ (k : Kind) (q : ℕ) (signal : (line element : ℕ) → Option Symbol) (stop : ℕ) where
  -- a device hears its own
  own_by : (now : ℕ) (what : Happening) → pulses_of q (heard_by q now what) ≡ heard_by q now what
  own_by now (happens.End e) = (let own : (q == q) ≡ true = eq-eqb q q refl in rw own refl)
  own_by now happens.Tick = refl
  own_by now happens.Send = refl

  own : (most : ℕ) (x : Course) → pulses_of q (heard_of_most k q signal stop most x) ≡ heard_of_most k q signal stop most x
  own zero x = refl
  own (suc most) x = elim (cases_Bool (nat_lt (coming x).time_us stop)) [
    | inr done ↦ rw done refl
    | inl less ↦
        let here = heard_by q (coming x).time_us (coming x).what in
        let rest = heard_of_most k q signal stop most (stepped k signal x) in
        rw less (pulses_append q here rest ∙ ap (λ (l : List HeardPulse). l ++ pulses_of q rest) (own_by (coming x).time_us (coming x).what) ∙ ap (λ (l : List HeardPulse). here ++ l) (own most (stepped k signal x)))
  ]

  -- and of another device none
  others_by : (r now : ℕ) (what : Happening) → (q == r) ≡ false → pulses_of r (heard_by q now what) ≡ []
  others_by r now (happens.End e) other = rw other refl
  others_by r now happens.Tick other = refl
  others_by r now happens.Send other = refl

  others : (r most : ℕ) (x : Course) → (q == r) ≡ false → pulses_of r (heard_of_most k q signal stop most x) ≡ []
  others r zero x other = refl
  others r (suc most) x other = elim (cases_Bool (nat_lt (coming x).time_us stop)) [
    | inr done ↦ rw done refl
    | inl less ↦
        let here = heard_by q (coming x).time_us (coming x).what in
        let rest = heard_of_most k q signal stop most (stepped k signal x) in
        rw less (pulses_append r here rest ∙ ap (λ (l : List HeardPulse). l ++ pulses_of r rest) (others_by r (coming x).time_us (coming x).what other) ∙ others r most (stepped k signal x) other)
  ]

-- ---- one device of a station

module _ (s : StationSetup) (r : ℕ) (before : List HeardPulse) where
  abbrev kind : Kind
  kind = kind_of_device s r

  abbrev Told : StationStanding → Type 0
  Told x = IsToldSince s r before x

  abbrev calls_of : List HeardPulse → List Call
  calls_of pulses = reverse (map (call_of kind) pulses)

  -- it was told nothing more, and nothing more was heard
  as_it_was : (x y : StationStanding) → pulses_told (y.courses r).calls ≡ pulses_told (x.courses r).calls → y.heard ≡ x.heard → Told x → Told y
  as_it_was x y calls heard h = record { since = h.since; heard = heard ∙ h.heard; calls = calls ∙ h.calls }

  -- pulses were heard, of which it was told its own
  told_more : (x y : StationStanding) (new : List HeardPulse) → y.heard ≡ x.heard ++ new → pulses_told (y.courses r).calls ≡ calls_of (pulses_of r new) ++ pulses_told (x.courses r).calls → Told x → Told y
  told_more x y new heard calls h = record {
    since = h.since ++ new;
    heard = heard ∙ ap (λ (l : List HeardPulse). l ++ new) h.heard ∙ append_assoc before h.since new;
    calls =
        calls ∙ ap (λ (l : List Call). calls_of (pulses_of r new) ++ l) h.calls
        ∙ sym (reverse-append (map (call_of kind) (pulses_of r h.since)) (map (call_of kind) (pulses_of r new)))
        ∙ ap (λ (l : List Call). reverse l) (sym (map-append (call_of kind) (pulses_of r h.since) (pulses_of r new)))
        ∙ ap (λ (l : List HeardPulse). calls_of l) (sym (pulses_append r h.since new));
  }

  elsewhere : (q : ℕ) (course : Course) (x : StationStanding) → (r == q) ≡ false → with_course q course x.courses r ≡ x.courses r
  elsewhere q course x other = rw other refl

  here : (course : Course) (x : StationStanding) → with_course r course x.courses r ≡ course
  here course x = (let own : (r == r) ≡ true = eq-eqb r r refl in rw own refl)

  -- ---- time passes

  device_told : (stop q : ℕ) (x : StationStanding) → Told x → Told (device_gone s stop q x)
  device_told stop q x h = elim (cases_Bool (r == q)) [
    | inr other ↦
        let new = heard_until (kind_of_device s q) q (signal_by x.seconds) stop (x.courses q) in
        let course = passed (kind_of_device s q) (signal_by x.seconds) stop (x.courses q) in
        let same = elsewhere q (told_taken course) x other in
        let none : pulses_of r new ≡ [] = others (kind_of_device s q) q (signal_by x.seconds) stop r (most_in (stop - (x.courses q).now)) (x.courses q) (apart q r (λ e. eqb-false r q other (sym e))) in
        told_more x (device_gone s stop q x) new refl (ap (λ (c : Course). pulses_told c.calls) same ∙ ap (λ (l : List HeardPulse). calls_of l ++ pulses_told (x.courses r).calls) (sym none)) h
    | inl same ↦ subst (λ (i : ℕ). Told (device_gone s stop i x)) (eqb-true r q same)
        (let new = heard_until kind r (signal_by x.seconds) stop (x.courses r) in
        let course = passed kind (signal_by x.seconds) stop (x.courses r) in
        let all : pulses_of r new ≡ new = own kind r (signal_by x.seconds) stop (most_in (stop - (x.courses r).now)) (x.courses r) in
        told_more x (device_gone s stop r x) new refl
        (ap (λ (c : Course). pulses_told c.calls) (here (told_taken course) x) ∙ told_until kind r (signal_by x.seconds) stop (x.courses r)
        ∙ ap (λ (l : List HeardPulse). calls_of l ++ pulses_told (x.courses r).calls) (sym all)) h)
  ]

  devices_told : (stop devices : ℕ) (x : StationStanding) → Told x → Told (devices_gone s stop devices x)
  devices_told stop zero x h = h
  devices_told stop (suc q) x h = device_told stop q (devices_gone s stop q x) (devices_told stop q x h)

  part_told : (stop : ℕ) (x : StationStanding) → Told x → Told (part_gone s stop x)
  part_told stop x h = as_it_was (devices_gone s stop (length s.devices) x) (part_gone s stop x) refl refl (devices_told stop (length s.devices) x h)

  begun_told : (x : StationStanding) → Told x → Told (has_begun_if_due s x)
  begun_told x h = elim (cases_Bool (is_at_edge x)) [
    | inl due ↦ rw due (record { since = h.since; heard = h.heard; calls = h.calls })
    | inr not_yet ↦ rw not_yet h
  ]

  time_told : (parts us : ℕ) (x : StationStanding) → Told x → Told (time_gone s parts us x).standing
  time_told zero us x h = h
  time_told (suc parts) us x h = elim (cases_Bool (us == 0)) [
    | inl over ↦ rw over h
    | inr more ↦ elim (cases_Bool (lacks_second s x)) [
      | inl end ↦ rw (more, end) h
      | inr goes ↦
          let begun = has_begun_if_due s x in
          let part = part_us us begun in
          rw (more, goes) (time_told parts (us - part) (part_gone s (begun.now + part) begun) (part_told (begun.now + part) begun (begun_told x h)))
    ]
  ]

  -- ---- events

  if_device : (q : ℕ) (x : StationStanding) (rest : StationStep) → Told x → Told rest.standing → Told (unless_device s q x rest).standing
  if_device q x rest h go = elim (cases_Bool (nat_lt q (length s.devices))) [
    | inl there ↦ rw there go
    | inr none ↦ rw none h
  ]

  if_source : (g : ℕ) (x : StationStanding) (rest : StationStep) → Told x → Told rest.standing → Told (unless_source s g x rest).standing
  if_source g x rest h go = elim (cases_Bool (nat_lt g (length s.generators))) [
    | inl there ↦ rw there go
    | inr none ↦ rw none h
  ]

  -- a device is another that was told the same
  changes : (q : ℕ) (course : Course) (x : StationStanding) → pulses_told course.calls ≡ pulses_told (x.courses q).calls → pulses_told (with_course q course x.courses r).calls ≡ pulses_told (x.courses r).calls
  changes q course x still = elim (cases_Bool (r == q)) [
    | inr other ↦ ap (λ (c : Course). pulses_told c.calls) (elsewhere q course x other)
    | inl same ↦ rw same (still ∙ ap (λ (i : ℕ). pulses_told (x.courses i).calls) (sym (eqb-true r q same)))
  ]

  line_told : (g q : ℕ) (change : Wire → Wire) (x : StationStanding) → Told x → Told (with_cable_if s g q change x).standing
  line_told g q change x h =
      let course = on_line g change (x.courses q) in
      if_device q x _ h (if_source g x _ h (as_it_was x (at_course q course x) (changes q course x refl) refl h))

  event_told : (e : Event) (x : StationStanding) → ¬ (e ≡ Restart r) → Told x → Told (play_event s e x).standing
  event_told (Pass us) x other h = time_told _ us x h
  event_told (Fault g kind) x other h = if_source g x _ h (record { since = h.since; heard = h.heard; calls = h.calls })
  event_told (Repair g) x other h = if_source g x _ h (record { since = h.since; heard = h.heard; calls = h.calls })
  event_told (Pull g q) x other h = line_told g q pulled x h
  event_told (Plug g q) x other h = line_told g q plugged x h
  event_told (Late g q us) x other h = line_told g q (made_late (min us most_late_us)) x h
  event_told (Pulse g q width) x other h = line_told g q (added (x.courses q).now width) x h
  event_told (Tick q) x other h =
      let course = ticked (kind_of_device s q) (x.courses q) in
      if_device q x _ h (as_it_was x (has_gone s q course x) (changes q (told_taken course) x refl) refl h)
  event_told (Restart q) x other h =
      let course = begun_anew (kind_of_device s q) (x.courses q) in
      if_device q x _ h (as_it_was x (at_course q course x) (ap (λ (c : Course). pulses_told c.calls) (elsewhere q course x (apart r q (λ same. other (ap (λ (i : ℕ). Restart i) (sym same)))))) refl h)
  event_told (Stamp q ago) x other h = if_device q x _ h (elim (cases_Bool (nat_lt x.now ago)) [
    | inl early ↦ rw early h
    | inr past ↦ rw past (as_it_was x (has_stamped s q (x.now - ago) x) refl refl h)
  ])

-- ---- since it was made or restarted

-- where it is restarted nothing was told it
restarted : (s : StationSetup) (r : ℕ) (x : StationStanding) → nat_lt r (length s.devices) ≡ true → IsToldSince s r x.heard (play_event s (Restart r) x).standing
restarted s r x there =
    let course = begun_anew (kind_of_device s r) (x.courses r) in
    rw there (record { since = []; heard = sym (append-nil x.heard); calls = ap (λ (c : Course). pulses_told c.calls) (here s r [] course x) })

-- it stands so
record IsToldSoFar (s : StationSetup) (r : ℕ) (x : StationStanding) : Type 0 where
  before : List HeardPulse
  told : IsToldSince s r before x

is_restart : (e : Event) (r : ℕ) → (e ≡ Restart r) ⊎ ¬ (e ≡ Restart r)
is_restart (Restart q) r = elim (cases_Bool (q == r)) [
  | inl same ↦ inl (ap (λ (i : ℕ). Restart i) (eqb-true q r same))
  | inr other ↦ inr (λ e. (let same : q ≡ r = cc in eqb-false q r other same))
]
is_restart (Pass us) r = inr (λ e. absurd cc)
is_restart (Fault g kind) r = inr (λ e. absurd cc)
is_restart (Repair g) r = inr (λ e. absurd cc)
is_restart (Pull g q) r = inr (λ e. absurd cc)
is_restart (Plug g q) r = inr (λ e. absurd cc)
is_restart (Late g q us) r = inr (λ e. absurd cc)
is_restart (Pulse g q width) r = inr (λ e. absurd cc)
is_restart (Tick q) r = inr (λ e. absurd cc)
is_restart (Stamp q ago) r = inr (λ e. absurd cc)

module _ (s : StationSetup) (r : ℕ) where
  at_restart : (x : StationStanding) → IsToldSoFar s r x → IsToldSoFar s r (play_event s (Restart r) x).standing
  at_restart x h = elim (cases_Bool (nat_lt r (length s.devices))) [
    | inl there ↦ record { before = x.heard; told = restarted s r x there }
    | inr none ↦ rw none h
  ]

  pub is_told : (ev : List Event) → IsToldWhatItHeard s r ev
  is_told [] = record { before = []; told = record { since = []; heard = refl; calls = refl }; whole = λ never. refl }
  is_told (e ∷ ev) = elim (is_restart e r) [
    | inr other ↦
        let h = is_told ev in
        record { before = h.before; told = event_told s r h.before e (standing_after s ev) other h.told; whole = λ never. h.whole never.1 }
    | inl restart ↦
        let h = is_told ev in
        let so = at_restart (standing_after s ev) (record { before = h.before; told = h.told }) in
        let there = subst (λ (d : Event). IsToldSoFar s r (play_event s d (standing_after s ev)).standing) (sym restart) so in
        record { before = there.before; told = there.told; whole = λ never. absurd (never.0 restart) }
  ]
