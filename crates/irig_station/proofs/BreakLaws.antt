-- What was logged in the second in which an audit broke, or later, shows that it was.
use Rattle.std.proofs.Common.{◌≡◌, ℕ, zero, suc, ◌+◌, ◌-◌, ◌*◌, ◌/◌, ◌<◌, ◌≤◌, ◌==◌, Bool, true, false, pos, List, [], ◌∷◌, ◌++◌, length, drop, Option, Some, None, refl, sym, arith, inl, inr, subst}
use Rattle.std.specs.Prelude.{All, int_lt, map, min, nat_lt, slice_get}
use Rattle.std.proofs.lemmas.Bool.{cases_Bool, eqb-false, ltb-true}
use Rattle.std.proofs.lemmas.List.{length-append}
use Rattle.std.proofs.lemmas.Option.{get_or_from_slice_get}
use Rattle.std.proofs.lemmas.List.Elements.{All-append, All-cons, All-head, All-map, All-nil, All-tail}
use Rattle.irig_wires.specs.declared.wire.Wire.{Wire}
use Rattle.irig_wires.specs.Oscillator.{rate_of}
use Rattle.irig_wires.specs.Wires.{added, made_late, most_late_us, plugged, pulled}
use Rattle.irig_simulated.specs.declared.told_second.ToldSecond.{ToldSecond}
use Rattle.irig_simulated.specs.Setups.{DevicePlan}
use Rattle.irig_simulated.specs.Kinds.{IsDevicePlan, Kind}
use Rattle.irig_simulated.specs.Courses.{Course, begun_anew, keeps_so_far, may_stamp, on_line, passed, stamp_said, ticked, told_taken}
use Rattle.irig_station.specs.declared.audit.Audit.{Audit}
use Rattle.irig_station.specs.declared.audit.Audit.TheVariants.{Kept, FalseTable, Drift, Broken}
use Rattle.irig_station.specs.declared.entry.Entry.{Entry}
use Rattle.irig_station.specs.declared.entry.Entry.TheVariants.{Told, Stamped}
use Rattle.irig_station.specs.declared.event.Event.{Event}
use Rattle.irig_station.specs.declared.event.Event.TheVariants.{Pass, Fault, Repair, Pull, Plug, Late, Pulse, Tick, Restart, Stamp}
use Rattle.irig_station.specs.StationSetups.{IsStationSetup, StationSetup, kind_if, kind_of_device, redundancy_of_station}
use Rattle.irig_station.specs.SentSeconds.{signal_by}
use Rattle.irig_station.specs.StationAudits.{audit_by_setup, audit_seen, drifts_beyond, first_device, is_misled_by_table}
use Rattle.irig_station.specs.StationStandings.{StationStanding, StationStep, at_course, devices_gone, has_begun_if_due, has_gone, has_stamped, is_at_edge, lacks_second, part_gone, part_us, station_at_start, symbols_so_far, time_gone, with_entries}
use Rattle.irig_station.specs.StationPlay.{audit_of_station, doubtful_log, play_event, standing_after, unless_device, unless_source, with_cable_if}
use Rattle.irig_station.specs.StationPromise.{IsAskedWithin, IsLoggedFrom}
use Rattle.irig_station.proofs.StationLaws.{drop_more}
use Rattle.irig_station.proofs.SoonLaws.{GoesFrom, IsToldFrom, passed_from, ticked_from}

-- ---- devices

-- its counter is no more than a thousandth slow, and it learns nothing of that
record IsSlow (k : Kind) : Type 0 where
  learns : k.made.clock.wander_ppb ≡ 0
  rate : 999000 ≤ k.rate

rate_slow : (d : DevicePlan) → IsDevicePlan d → 999000 ≤ rate_of d.gain_us
rate_slow d is = elim (cases_Bool (int_lt d.gain_us (pos 0))) [
  | inl loses ↦ rw loses (omega (arith, is.gain))
  | inr gains ↦ rw gains (omega (arith, is.gain))
]

kind_slow : (s : StationSetup) → IsStationSetup s → (r : ℕ) → (o : Option DevicePlan) → slice_get s.devices r ≡ o → r < length s.devices → IsSlow (kind_if s.rules (redundancy_of_station s) o)
kind_slow s is r None at less = record { learns = refl; rate = omega arith }
kind_slow s is r (Some d) at less = record { learns = refl; rate = rate_slow d (subst IsDevicePlan (get_or_from_slice_get s.devices r d d at) (is.devices r d less)) }

not_broken_at_start : (table drift : Option ℕ) (r n : ℕ) → ¬ (audit_by_setup table drift ≡ Broken r n)
not_broken_at_start (Some q) drift r n e = absurd cc
not_broken_at_start None (Some q) r n e = absurd cc
not_broken_at_start None None r n e = absurd cc

-- ---- a log

-- devices stand at the present or ahead of it, and nothing is told that is not logged; and what was logged
-- behind the entries that are vouched for shows that it was logged in the second in which the audit broke
pub record IsCut (s : StationSetup) (ago : ℕ) (x : StationStanding) : Type 0 where
  pub near : (r : ℕ) → r < length s.devices → x.now ≤ (x.courses r).now
  pub none : (r : ℕ) → (x.courses r).told ≡ []
  pub few : x.vouched ≤ length x.log
  pub kept : x.audit ≡ Kept → x.vouched ≡ length x.log
  pub broken : (r n : ℕ) → x.audit ≡ Broken r n → (n * 1000000 ≤ x.now) × All (IsLoggedFrom ago n) (drop x.vouched x.log)

module _ (s : StationSetup) (ago : ℕ) (is : IsStationSetup s) where
  abbrev Cut : StationStanding → Type 0
  Cut x = IsCut s ago x

  -- all of them are behind the entries of before
  drop_whole : (k : ℕ) (xs ys : List Entry) → k ≡ length xs → drop k (xs ++ ys) ≡ ys
  drop_whole zero [] ys h = refl
  drop_whole zero (x ∷ xs) ys h = absurd (omega (arith, h))
  drop_whole (suc k) [] ys h = absurd (omega (arith, h))
  drop_whole (suc k) (x ∷ xs) ys h = drop_whole k xs ys (omega (arith, h))

  still_few : (entries : List Entry) (x : StationStanding) → Cut x → x.vouched ≤ length (x.log ++ entries)
  still_few entries x h = omega (arith, h.few, length-append x.log entries)

  -- entries that are logged now, when device r is seen
  logged : (entries : List Entry) (r : ℕ) (x : StationStanding) → Cut x → ((n : ℕ) → n * 1000000 ≤ x.now → All (IsLoggedFrom ago n) entries)
      → (a : Audit) → x.audit ≡ a → (is_kept : Bool) → Cut (with_entries entries (audit_seen a r (x.now / 1000000) is_kept) x)
  logged entries r x h late Kept at true = record { near = h.near; none = h.none; few = omega arith; kept = λ _. refl; broken = λ q n e. absurd cc }
  logged entries r x h late Kept at false = record {
    near = h.near;
    none = h.none;
    few = still_few entries x h;
    kept = λ e. absurd cc;
    broken = λ q n e.
        let edge : x.now / 1000000 ≡ n = cc in
        let begun : n * 1000000 ≤ x.now = omega (arith, edge) in
        (begun, subst (λ (l : List Entry). All (IsLoggedFrom ago n) l) (sym (drop_whole x.vouched x.log entries (h.kept at))) (late n begun));
  }
  logged entries r x h late (FalseTable p) at is_kept = record { near = h.near; none = h.none; few = still_few entries x h; kept = λ e. absurd cc; broken = λ q n e. absurd cc }
  logged entries r x h late (Drift p) at is_kept = record { near = h.near; none = h.none; few = still_few entries x h; kept = λ e. absurd cc; broken = λ q n e. absurd cc }
  logged entries r x h late (Broken p m) at is_kept = record {
    near = h.near;
    none = h.none;
    few = still_few entries x h;
    kept = λ e. absurd cc;
    broken = λ q n e.
        let edge : m ≡ n = cc in
        let before = h.broken p m at in
        let begun : n * 1000000 ≤ x.now = subst (λ (k : ℕ). k * 1000000 ≤ x.now) edge before.0 in (
          begun,
          subst (λ (l : List Entry). All (IsLoggedFrom ago n) l) (sym (drop_more x.vouched x.log entries h.few))
              (All-append (IsLoggedFrom ago n) (drop x.vouched x.log) entries (subst (λ (k : ℕ). All (IsLoggedFrom ago k) (drop x.vouched x.log)) edge before.1) (late n begun)),
        );
  }

  -- ---- a device

  gone_on : (r : ℕ) (course : Course) (x : StationStanding) → Cut x → x.now ≤ course.now → course.told ≡ [] → Cut (at_course r course x)
  gone_on r course x h later nothing = record {
    near = λ q less. elim (cases_Bool (q == r)) [
      | inl here ↦ rw here later
      | inr other ↦ rw other (h.near q less)
    ];
    none = λ q. elim (cases_Bool (q == r)) [
      | inl here ↦ rw here nothing
      | inr other ↦ rw other (h.none q)
    ];
    few = h.few;
    kept = h.kept;
    broken = h.broken;
  }

  gone_cut : (r : ℕ) (course : Course) (x : StationStanding) → Cut x → x.now ≤ course.now → ((n : ℕ) → n * 1000000 ≤ x.now → All (IsToldFrom n) course.told) → Cut (has_gone s r course x)
  gone_cut r course x h later late =
      logged (map (λ told. Told r told) course.told) r (at_course r (told_taken course) x) (gone_on r (told_taken course) x h later refl)
      (λ n begun. All-map (IsLoggedFrom ago n) (λ (told : ToldSecond). Told r told) course.told (late n begun)) x.audit refl
      (keeps_so_far (kind_of_device s r) (symbols_so_far s x) course)

  -- where a device stands, that is there
  slow : (r : ℕ) → r < length s.devices → IsSlow (kind_of_device s r)
  slow r less = kind_slow s is r (slice_get s.devices r) refl less

  from_here : (r n : ℕ) (less : r < length s.devices) (x : StationStanding) → Cut x → n * 1000000 ≤ x.now → GoesFrom (kind_of_device s r) (slow r less).learns (slow r less).rate n (x.courses r)
  from_here r n less x h begun = record {
    now = omega (arith, begun, h.near r less);
    told = subst (λ (l : List ToldSecond). All (IsToldFrom n) l) (sym (h.none r)) (All-nil (IsToldFrom n));
  }

  device_cut : (stop r : ℕ) → r < length s.devices → (x : StationStanding) → x.now ≤ stop → Cut x → Cut (has_gone s r (passed (kind_of_device s r) (signal_by x.seconds) stop (x.courses r)) x)
  device_cut stop r less x later h = gone_cut r (passed (kind_of_device s r) (signal_by x.seconds) stop (x.courses r)) x h later
      (λ n begun. passed_from (kind_of_device s r) (slow r less).learns (slow r less).rate n (signal_by x.seconds) stop (x.courses r) (from_here r n less x h begun))

  tick_cut : (r : ℕ) → r < length s.devices → (x : StationStanding) → Cut x → Cut (has_gone s r (ticked (kind_of_device s r) (x.courses r)) x)
  tick_cut r less x h = gone_cut r (ticked (kind_of_device s r) (x.courses r)) x h (h.near r less)
      (λ n begun. (ticked_from (kind_of_device s r) (slow r less).learns (slow r less).rate n (x.courses r) (from_here r n less x h begun)).told)

  stamp_cut : (r us : ℕ) (x : StationStanding) → us ≤ ago → Cut x → Cut (has_stamped s r (x.now - us) x)
  stamp_cut r us x soon h =
      let time = x.now - us in
      logged (Stamped r time (stamp_said (kind_of_device s r) (x.courses r) time) ∷ []) r x h
      (λ n begun. All-cons (IsLoggedFrom ago n) _ [] (omega (arith, begun, soon)) (All-nil (IsLoggedFrom ago n))) x.audit refl
      (may_stamp (kind_of_device s r) (symbols_so_far s x) (x.courses r) time)

  -- ---- time

  -- while devices pass on, the present stays
  stays_now : (stop devices : ℕ) (x : StationStanding) → (devices_gone s stop devices x).now ≡ x.now
  stays_now stop zero x = refl
  stays_now stop (suc r) x = stays_now stop r x

  devices_cut : (stop devices : ℕ) → devices ≤ length s.devices → (x : StationStanding) → x.now ≤ stop → Cut x → Cut (devices_gone s stop devices x)
  devices_cut stop zero few x later h = h
  devices_cut stop (suc r) few x later h =
      let gone = device_cut stop r few (devices_gone s stop r x) (omega (arith, later, stays_now stop r x)) (devices_cut stop r (omega (arith, few)) x later h) in
      record { near = gone.near; none = gone.none; few = gone.few; kept = gone.kept; broken = gone.broken }

  -- and each that has passed on stands there
  passed_to : (stop devices : ℕ) (x : StationStanding) (q : ℕ) → q < devices → ((devices_gone s stop devices x).courses q).now ≡ stop
  passed_to stop zero x q less = absurd (omega (arith, less))
  passed_to stop (suc r) x q less = elim (cases_Bool (q == r)) [
    | inl here ↦ rw here refl
    | inr other ↦ rw other (passed_to stop r x q (omega (arith, less, eqb-false q r other)))
  ]

  part_cut : (stop : ℕ) (x : StationStanding) → x.now ≤ stop → Cut x → Cut (part_gone s stop x)
  part_cut stop x later h =
      let gone = devices_cut stop (length s.devices) (omega arith) x later h in
      let now = stays_now stop (length s.devices) x in
      record {
        near = λ r less. omega (arith, passed_to stop (length s.devices) x r less);
        none = gone.none;
        few = gone.few;
        kept = gone.kept;
        broken = λ r n e. let before = gone.broken r n e in (omega (arith, before.0, now, later), before.1);
      }

  begun_cut : (x : StationStanding) → Cut x → Cut (has_begun_if_due s x)
  begun_cut x h = elim (cases_Bool (is_at_edge x)) [
    | inl due ↦ rw due (record { near = h.near; none = h.none; few = h.few; kept = h.kept; broken = h.broken })
    | inr not_yet ↦ rw not_yet h
  ]

  time_cut : (parts us : ℕ) (x : StationStanding) → Cut x → Cut (time_gone s parts us x).standing
  time_cut zero us x h = h
  time_cut (suc parts) us x h = elim (cases_Bool (us == 0)) [
    | inl over ↦ rw over h
    | inr more ↦ elim (cases_Bool (lacks_second s x)) [
      | inl end ↦ rw (more, end) h
      | inr goes ↦
          let begun = has_begun_if_due s x in
          let part = part_us us begun in
          rw (more, goes) (time_cut parts (us - part) (part_gone s (begun.now + part) begun) (part_cut (begun.now + part) begun (omega arith) (begun_cut x h)))
    ]
  ]

  -- ---- events

  if_device : (r : ℕ) (x : StationStanding) (rest : StationStep) → Cut x → (r < length s.devices → Cut rest.standing) → Cut (unless_device s r x rest).standing
  if_device r x rest h go = elim (cases_Bool (nat_lt r (length s.devices))) [
    | inl there ↦ rw there (go (ltb-true r (length s.devices) there))
    | inr none ↦ rw none h
  ]

  if_source : (g : ℕ) (x : StationStanding) (rest : StationStep) → Cut x → Cut rest.standing → Cut (unless_source s g x rest).standing
  if_source g x rest h go = elim (cases_Bool (nat_lt g (length s.generators))) [
    | inl there ↦ rw there go
    | inr none ↦ rw none h
  ]

  line_cut : (g r : ℕ) (change : Wire → Wire) (x : StationStanding) → Cut x → Cut (with_cable_if s g r change x).standing
  line_cut g r change x h = if_device r x _ h (λ less. if_source g x _ h (gone_on r (on_line g change (x.courses r)) x h (h.near r less) (h.none r)))

  event_cut : (e : Event) (x : StationStanding) → IsAskedWithin ago e → Cut x → Cut (play_event s e x).standing
  event_cut (Pass us) x asked h = time_cut _ us x h
  event_cut (Fault g kind) x asked h = if_source g x _ h (record { near = h.near; none = h.none; few = h.few; kept = h.kept; broken = h.broken })
  event_cut (Repair g) x asked h = if_source g x _ h (record { near = h.near; none = h.none; few = h.few; kept = h.kept; broken = h.broken })
  event_cut (Pull g r) x asked h = line_cut g r pulled x h
  event_cut (Plug g r) x asked h = line_cut g r plugged x h
  event_cut (Late g r us) x asked h = line_cut g r (made_late (min us most_late_us)) x h
  event_cut (Pulse g r width) x asked h = line_cut g r (added (x.courses r).now width) x h
  event_cut (Tick r) x asked h = if_device r x _ h (λ less. tick_cut r less x h)
  event_cut (Restart r) x asked h = if_device r x _ h (λ less. gone_on r (begun_anew (kind_of_device s r) (x.courses r)) x h (h.near r less) (h.none r))
  event_cut (Stamp r us) x asked h = if_device r x _ h (λ less. elim (cases_Bool (nat_lt x.now us)) [
    | inl early ↦ rw early h
    | inr past ↦ rw past (stamp_cut r us x asked h)
  ])

  start_cut : Cut (station_at_start s)
  start_cut = record {
    near = λ r less. omega arith;
    none = λ r. refl;
    few = omega arith;
    kept = λ _. refl;
    broken = λ r n e. absurd (not_broken_at_start (first_device (is_misled_by_table s.times) 0 s.devices) (first_device drifts_beyond 0 s.devices) r n e);
  }

  pub cut : (ev : List Event) → All (IsAskedWithin ago) ev → Cut (standing_after s ev)
  cut [] asked = start_cut
  cut (e ∷ ev) asked = event_cut e (standing_after s ev) (All-head (IsAskedWithin ago) e ev asked) (cut ev (All-tail (IsAskedWithin ago) e ev asked))

  pub logged_late : (ev : List Event) (r n : ℕ) → All (IsAskedWithin ago) ev → audit_of_station s ev ≡ Broken r n → All (IsLoggedFrom ago n) (doubtful_log s ev)
  logged_late ev r n asked broke = ((cut ev asked).broken r n broke).1
