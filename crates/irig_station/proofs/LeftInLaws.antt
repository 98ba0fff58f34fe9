-- A cable of a station that is left in brings its device just what its generator sent, whatever else happens.
use Rattle.std.proofs.Common.{◌≡◌, ◌∙◌, ℕ, zero, suc, ◌+◌, ◌-◌, ◌*◌, ◌/◌, ◌%◌, ◌<◌, ◌≤◌, ◌==◌, false, List, [], ◌∷◌, length, Option, refl, sym, ap, arith, inl, inr, subst}
use Rattle.std.specs.Prelude.{map, min, nat_lt, option_and_then, slice_get, ⊤}
use Rattle.std.proofs.lemmas.Bool.{cases_Bool, eqb-true, ne_eqb}
use Rattle.irig_frame.specs.declared.symbol.Symbol.{Symbol}
use Rattle.irig_wires.specs.Calls.{Call as WireCall, called, IsNotBack}
use Rattle.irig_wires.specs.Calls.Call.{Pull as IsPulled, Plug as IsPlugged, BeLate as IsLate, Add as HasPulse}
use Rattle.irig_wires.specs.Wires.{late_at, most_late_us, wire_at}
use Rattle.irig_wires.proofs.OrderLaws.{kept, other_wire}
use Rattle.irig_simulated.specs.Kinds.{Kind, MovesOn}
use Rattle.irig_simulated.specs.Courses.{Course, begun_anew, on_line, passed, ticked, told_taken}
use Rattle.irig_simulated.specs.QuietLines.{latest_us}
use Rattle.irig_station.specs.declared.event.Event.{Event}
use Rattle.irig_station.specs.declared.event.Event.TheVariants.{Pass, Fault, Repair, Pull, Plug, Late, Pulse, Tick, Restart, Stamp}
use Rattle.irig_station.specs.StationSetups.{StationSetup, kind_of_device}
use Rattle.irig_station.specs.SentSeconds.{SentSecond, second_sent, sent_second, signal_by, symbol_of_sent}
use Rattle.irig_station.specs.StationStandings.{StationStanding, StationStep, at_course, device_gone, devices_gone, has_begun_if_due, is_at_edge, lacks_second, late_of, part_gone, part_us, time_gone, with_course}
use Rattle.irig_station.specs.StationPlay.{play_event, standing_after, unless_device, unless_source, with_cable_if}
use Rattle.irig_station.proofs.AnnounceLaws.{IsOnCourse, part_passes, second_begins, stands}
use Rattle.irig_station.proofs.CarriedLaws.{Brings, begun_brings, passed_brings, taken_brings}

-- an event that touches a cable of a device is of another line than this, and none makes the device forget
abbrev pub LeavesIn : (line r : ℕ) → Event → Type 0
LeavesIn g r (Pull h q) = q ≡ r → (h < 5) × ¬ (g ≡ h)
LeavesIn g r (Plug h q) = q ≡ r → (h < 5) × ¬ (g ≡ h)
LeavesIn g r (Late h q us) = q ≡ r → (h < 5) × ¬ (g ≡ h)
LeavesIn g r (Pulse h q width) = q ≡ r → (h < 5) × ¬ (g ≡ h)
LeavesIn g r (Restart q) = ¬ (q ≡ r)
LeavesIn g r e = ⊤

abbrev pub AllLeaveIn : (line r : ℕ) → List Event → Type 0
AllLeaveIn g r [] = ⊤
AllLeaveIn g r (e ∷ ev) = LeavesIn g r e × AllLeaveIn g r ev

-- in each second that has begun a generator sent this
abbrev pub HasSent : (line : ℕ) → (was_sent : (element : ℕ) → Option Symbol) → List (List SentSecond) → Type 0
HasSent g was_sent seconds = (e : ℕ) → e / 100 < length seconds → signal_by seconds g e ≡ was_sent e

-- so it did before the newest second began
sent_before : (g : ℕ) (was_sent : ℕ → Option Symbol) (newest : List SentSecond) (seconds : List (List SentSecond)) → HasSent g was_sent (newest ∷ seconds) → HasSent g was_sent seconds
sent_before g was_sent newest seconds all e less =
    let other : (e / 100 == length seconds) ≡ false = ne_eqb (e / 100) (length seconds) (λ same. omega (arith, less, same)) in
    let same : second_sent (newest ∷ seconds) (e / 100) ≡ second_sent seconds (e / 100) = rw other refl in
    ap (λ (xs : List SentSecond). option_and_then (symbol_of_sent (e % 100)) (slice_get xs g)) (sym same) ∙ all e (omega (arith, less))

module _ (s : StationSetup) (r g : ℕ) (low : g < 5) (few : late_at (late_of (slice_get s.devices r)) g ≤ latest_us) (was_sent : ℕ → Option Symbol) (moves : MovesOn (kind_of_device s r)) (slow : (kind_of_device s r).rate ≤ 1001000) where
  abbrev kind : Kind
  kind = kind_of_device s r

  abbrev late : ℕ
  late = late_at (late_of (slice_get s.devices r)) g

  abbrev pub BringsSo : Course → Type 0
  BringsSo = Brings kind slow g low late few was_sent

  -- the seconds that have begun are not over
  abbrev InTime : StationStanding → Type 0
  InTime x = x.now ≤ 1000000 * length x.seconds

  abbrev IfSent : StationStanding → Type 0
  IfSent x = HasSent g was_sent x.seconds → BringsSo (x.courses r)

  abbrev Stands : StationStanding → Type 0
  Stands x = IsOnCourse s r x.now x

  -- ---- time passes

  -- the course stands no later than a time of these seconds
  record Goes (stop : ℕ) (x : StationStanding) : Type 0 where
    within : stop ≤ 1000000 * length x.seconds
    sent : HasSent g was_sent x.seconds
    now : (x.courses r).now ≤ stop
    brings : BringsSo (x.courses r)

  goes_by : (stop : ℕ) (x : StationStanding) (courses : ℕ → Course) → Goes stop x → ((courses r).now ≤ stop) × BringsSo (courses r) → Goes stop (record x { courses = courses })
  goes_by stop x courses h is = record { within = h.within; sent = h.sent; now = is.0; brings = is.1 }

  passes : (stop : ℕ) (x : StationStanding) → Goes stop x → BringsSo (told_taken (passed kind (signal_by x.seconds) stop (x.courses r)))
  passes stop x h =
      let sent = h.sent in
      let within = h.within in
      let y = passed kind (signal_by x.seconds) stop (x.courses r) in
      taken_brings kind slow g low late few was_sent y
      (passed_brings kind slow g low late few was_sent (signal_by x.seconds) moves stop 0 (x.courses r) h.brings h.now (omega arith) (λ e from before. sent e (omega (arith, before, within)))).0

  device_goes : (stop q : ℕ) (x : StationStanding) → Goes stop x → Goes stop (device_gone s stop q x)
  device_goes stop q x h =
      let courses = with_course q (told_taken (passed (kind_of_device s q) (signal_by x.seconds) stop (x.courses q))) x.courses in
      let is : ((courses r).now ≤ stop) × BringsSo (courses r) = elim (cases_Bool (r == q)) [
        | inr other ↦ rw other (h.now, h.brings)
        | inl same ↦ rw same (subst (λ (i : ℕ). let c : Course = told_taken (passed (kind_of_device s i) (signal_by x.seconds) stop (x.courses i)) in (c.now ≤ stop) × BringsSo c) (eqb-true r q same) (omega arith, passes stop x h))
      ] in
      record { within = h.within; sent = h.sent; now = is.0; brings = is.1 }

  devices_go : (stop devices : ℕ) (x : StationStanding) → Goes stop x → Goes stop (devices_gone s stop devices x)
  devices_go stop zero x h = h
  devices_go stop (suc q) x h = device_goes stop q (devices_gone s stop q x) (devices_go stop q x h)

  same_seconds : (stop devices : ℕ) (x : StationStanding) → (devices_gone s stop devices x).seconds ≡ x.seconds
  same_seconds stop zero x = refl
  same_seconds stop (suc q) x = same_seconds stop q x

  -- a part of a second
  part_left : (x : StationStanding) (stop : ℕ) → Stands x → IfSent x → x.now ≤ stop → stop ≤ 1000000 * length x.seconds → InTime (part_gone s stop x) × IfSent (part_gone s stop x)
  part_left x stop on left later within =
      let same = same_seconds stop (length s.devices) x in
      let count = ap (λ (l : List (List SentSecond)). length l) same in (
        omega (arith, within, count),
        λ sent.
            (let was = subst (HasSent g was_sent) same sent in
            let now = on.now in
            let h = devices_go stop (length s.devices) x (record { within = within; sent = was; now = omega (arith, now, later); brings = left was }) in
            h.brings),
      )

  begun_left : (x : StationStanding) → InTime x × IfSent x → InTime (has_begun_if_due s x) × IfSent (has_begun_if_due s x)
  begun_left x h = elim (cases_Bool (is_at_edge x)) [
    | inr not_yet ↦ rw not_yet h
    | inl due ↦ rw due ((let time = h.0 in omega (arith, time)), λ sent. h.1 (sent_before g was_sent (map (sent_second s.times) x.generators) x.seconds sent))
  ]

  time_left : (parts us : ℕ) (x : StationStanding) → Stands x → InTime x × IfSent x → InTime (time_gone s parts us x).standing × IfSent (time_gone s parts us x).standing
  time_left zero us x on h = h
  time_left (suc parts) us x on h = elim (cases_Bool (us == 0)) [
    | inl over ↦ rw over h
    | inr more ↦ elim (cases_Bool (lacks_second s x)) [
      | inl end ↦ rw (more, end) h
      | inr goes ↦
          let begun = has_begun_if_due s x in
          let part = part_us us begun in
          let then_on = second_begins s r x on in
          let b = begun_left x h in
          let time = b.0 in
          rw (more, goes) (time_left parts (us - part) (part_gone s (begun.now + part) begun) (part_passes s r (begun.now + part) begun (omega arith) then_on) (part_left begun (begun.now + part) then_on b.1 (omega arith) (omega (arith, time))))
    ]
  ]

  -- ---- events

  abbrev Left : StationStanding → Type 0
  Left x = InTime x × IfSent x

  if_device : (q : ℕ) (x : StationStanding) (rest : StationStep) → Left x → Left rest.standing → Left (unless_device s q x rest).standing
  if_device q x rest h go = elim (cases_Bool (nat_lt q (length s.devices))) [
    | inl there ↦ rw there go
    | inr none ↦ rw none h
  ]

  if_source : (i : ℕ) (x : StationStanding) (rest : StationStep) → Left x → Left rest.standing → Left (unless_source s i x rest).standing
  if_source i x rest h go = elim (cases_Bool (nat_lt i (length s.generators))) [
    | inl there ↦ rw there go
    | inr none ↦ rw none h
  ]

  -- a device has come to something in its course
  comes_to : (q : ℕ) (course : Course) (x : StationStanding) → (q ≡ r → BringsSo (x.courses r) → BringsSo course) → Left x → Left (at_course q course x)
  comes_to q course x still h = (
    h.0,
    λ sent.
        elim (cases_Bool (r == q)) [
          | inr other ↦ rw other (h.1 sent)
          | inl same ↦ rw same (still (sym (eqb-true r q same)) (h.1 sent))
        ],
  )

  ticks : (y : Course) → BringsSo y → BringsSo (told_taken (ticked kind y))
  ticks y b = record { sent_count = b.sent_count; start = b.start; send = b.send; early = b.early; ahead = b.ahead; line_is = b.line_is }

  -- another line is changed
  other_line : (i : ℕ) (call : WireCall) (y : Course) → (i < 5) × ¬ (g ≡ i) → IsNotBack y.now call → BringsSo y → BringsSo (on_line i (called call) y)
  other_line i call y other back b =
      let wire = other_wire y.wires i (called call (wire_at y.wires i)) g other.0 low other.1 in
      record {
        sent_count = b.sent_count;
        start = b.start;
        send = b.send;
        early = b.early;
        ahead = kept y.wires (record { line = i; call = call }) y.now other.0 back b.ahead;
        line_is = elim b.line_is [
          | inl all ↦ inl (wire ∙ all.0, all.1)
          | inr way ↦ inr (record { i = way.i; symbol = way.symbol; next = way.next; sends = way.sends; wire_is = wire ∙ way.wire_is; told = way.told })
        ];
      }

  line_left : (i q : ℕ) (call : WireCall) (x : StationStanding) → (q ≡ r → (i < 5) × ¬ (g ≡ i)) → IsNotBack (x.courses q).now call → Left x → Left (with_cable_if s i q (called call) x).standing
  line_left i q call x other back h =
      if_device q x _ h
      (if_source i x _ h
      (comes_to q (on_line i (called call) (x.courses q)) x
      (λ same b. subst (λ (p : ℕ). IsNotBack (x.courses p).now call → BringsSo (on_line i (called call) (x.courses p))) (sym same) (λ back. other_line i call (x.courses r) (other same) back b) back) h))

  plays : (e : Event) (x : StationStanding) → LeavesIn g r e → Stands x → Left x → Left (play_event s e x).standing
  plays (Pass us) x leaves on h = time_left _ us x on h
  plays (Fault i kind) x leaves on h = if_source i x _ h h
  plays (Repair i) x leaves on h = if_source i x _ h h
  plays (Pull i q) x leaves on h = line_left i q IsPulled x leaves tt h
  plays (Plug i q) x leaves on h = line_left i q IsPlugged x leaves tt h
  plays (Late i q us) x leaves on h = line_left i q (IsLate (min us most_late_us)) x leaves tt h
  plays (Pulse i q width) x leaves on h = line_left i q (HasPulse (x.courses q).now width) x leaves (omega arith) h
  plays (Tick q) x leaves on h =
      if_device q x _ h
      (comes_to q (told_taken (ticked (kind_of_device s q) (x.courses q))) x (λ same b. subst (λ (p : ℕ). BringsSo (told_taken (ticked (kind_of_device s p) (x.courses p)))) (sym same) (ticks (x.courses r) b)) h)
  plays (Restart q) x leaves on h = if_device q x _ h (comes_to q (begun_anew (kind_of_device s q) (x.courses q)) x (λ same b. absurd (leaves same)) h)
  plays (Stamp q ago) x leaves on h = if_device q x _ h (elim (cases_Bool (nat_lt x.now ago)) [
    | inl early ↦ rw early h
    | inr past ↦ rw past h
  ])

  left : (ev : List Event) → AllLeaveIn g r ev → Left (standing_after s ev)
  left [] leave = (omega arith, λ sent. begun_brings kind slow g low (late_of (slice_get s.devices r)) few was_sent)
  left (e ∷ ev) leave = plays e (standing_after s ev) leave.0 (stands s r ev) (left ev leave.1)

  -- so it was told that, but for what may be on its way
  pub left_in : (ev : List Event) → AllLeaveIn g r ev → HasSent g was_sent (standing_after s ev).seconds → BringsSo ((standing_after s ev).courses r)
  left_in ev leave sent = (left ev leave).1 sent
