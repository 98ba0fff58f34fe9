-- A stretch of time passes second by second: its part in the present second first, and then the rest.
use Rattle.std.proofs.Common.{◌≡◌, ◌≢◌, ◌∙◌, ℕ, zero, suc, ◌+◌, ◌-◌, ◌*◌, ◌/◌, ◌%◌, ◌<◌, ◌≤◌, ◌==◌, true, false, List, [], ◌∷◌, length, None, refl, sym, ap, subst, arith, inl, inr}
use Rattle.std.specs.Prelude.{◌⊎◌, min, nat_lt}
use Rattle.std.proofs.lemmas.Bool.{cases_Bool, cases_eq, eqb-false, eqb-true}
use Rattle.irig_wires.specs.declared.wire.Wire.{Wire}
use Rattle.irig_wires.specs.Wires.{added, made_late, most_late_us, plugged, pulled}
use Rattle.irig_station.specs.declared.event.Event.{Event}
use Rattle.irig_station.specs.declared.event.Event.TheVariants.{Pass, Fault, Repair, Pull, Plug, Late, Pulse, Tick, Restart, Stamp}
use Rattle.irig_station.specs.declared.fault.StationFault.TheVariants.{EndOfYears}
use Rattle.irig_station.specs.StationSetups.{StationSetup}
use Rattle.irig_station.specs.SentSeconds.{SentSecond}
use Rattle.irig_station.specs.StationStandings.{StationStanding, StationStep, devices_gone, end_of_begun, first_part, followed, goes_to, has_begun_if_due, is_at_edge, lacks_second, most_parts, part_gone, part_us, refused_at, time_gone}
use Rattle.irig_station.specs.StationPlay.{passed_in_turn, play_event, standing_after, unless_device, unless_source, with_cable_if}
use Rattle.irig_station.proofs.PassLaws.{time_ends, time_over, time_step}

-- the seconds that have begun end now or later, and the last of them began now or before
record IsInSecond (x : StationStanding) : Type 0 where
  least : x.now ≤ end_of_begun x
  most : end_of_begun x ≤ x.now + 1000000

-- they end later
record IsBegun (x : StationStanding) : Type 0 where
  least : x.now < end_of_begun x
  most : end_of_begun x ≤ x.now + 1000000

-- so many parts are enough for so many microseconds
abbrev Suffice : (parts us : ℕ) → StationStanding → Type 0
Suffice parts us x = us ≤ parts * 1000000 - x.now % 1000000

module _ (s : StationSetup) where
  -- ---- where a station stands in its second

  -- while devices pass on, no second begins
  same_seconds : (stop devices : ℕ) (x : StationStanding) → (devices_gone s stop devices x).seconds ≡ x.seconds
  same_seconds stop zero x = refl
  same_seconds stop (suc r) x = same_seconds stop r x

  begun_now : (x : StationStanding) → (has_begun_if_due s x).now ≡ x.now
  begun_now x = elim (cases_Bool (is_at_edge x)) [ inl due ↦ rw due refl | inr not_yet ↦ rw not_yet refl ]

  begun_in : (x : StationStanding) → IsInSecond x → IsBegun (has_begun_if_due s x)
  begun_in x h = elim (cases_Bool (is_at_edge x)) [
    | inl due ↦
        let at : x.now ≡ end_of_begun x = eqb-true x.now (end_of_begun x) due in
        rw due (record { least = omega (arith, at); most = omega (arith, at) })
    | inr not_yet ↦
        let before : x.now ≢ end_of_begun x = eqb-false x.now (end_of_begun x) not_yet in
        rw not_yet (record { least = omega (arith, h.least, before); most = h.most })
  ]

  part_in : (us : ℕ) (x : StationStanding) → IsBegun x → IsInSecond (part_gone s (x.now + part_us us x) x)
  part_in us x h =
      let stop = x.now + part_us us x in
      let same : length (devices_gone s stop (length s.devices) x).seconds ≡ length x.seconds = ap (λ (l : List (List SentSecond)). length l) (same_seconds stop (length s.devices) x) in
      record { least = omega (arith, same, h.least, h.most); most = omega (arith, same, h.least, h.most) }

  time_in : (parts us : ℕ) (x : StationStanding) → IsInSecond x → IsInSecond (time_gone s parts us x).standing
  time_in zero us x h = h
  time_in (suc parts) us x h = elim (cases_Bool (us == 0)) [
    | inl over ↦ rw over h
    | inr more ↦ elim (cases_Bool (lacks_second s x)) [
      | inl end ↦ rw (more, end) h
      | inr goes ↦
          let begun = has_begun_if_due s x in
          rw (more, goes) (time_in parts (us - part_us us begun) (part_gone s (begun.now + part_us us begun) begun) (part_in us begun (begun_in x h)))
    ]
  ]

  -- ---- whatever happens

  if_device : (r : ℕ) (x : StationStanding) (rest : StationStep) → IsInSecond x → IsInSecond rest.standing → IsInSecond (unless_device s r x rest).standing
  if_device r x rest h go = elim (cases_Bool (nat_lt r (length s.devices))) [
    | inl there ↦ rw there go
    | inr none ↦ rw none h
  ]

  if_source : (g : ℕ) (x : StationStanding) (rest : StationStep) → IsInSecond x → IsInSecond rest.standing → IsInSecond (unless_source s g x rest).standing
  if_source g x rest h go = elim (cases_Bool (nat_lt g (length s.generators))) [
    | inl there ↦ rw there go
    | inr none ↦ rw none h
  ]

  line_in : (g r : ℕ) (change : Wire → Wire) (x : StationStanding) → IsInSecond x → IsInSecond (with_cable_if s g r change x).standing
  line_in g r change x h = if_device r x _ h (if_source g x _ h (record { least = h.least; most = h.most }))

  event_in : (e : Event) (x : StationStanding) → IsInSecond x → IsInSecond (play_event s e x).standing
  event_in (Pass us) x h = time_in _ us x h
  event_in (Fault g kind) x h = if_source g x _ h (record { least = h.least; most = h.most })
  event_in (Repair g) x h = if_source g x _ h (record { least = h.least; most = h.most })
  event_in (Pull g r) x h = line_in g r pulled x h
  event_in (Plug g r) x h = line_in g r plugged x h
  event_in (Late g r us) x h = line_in g r (made_late (min us most_late_us)) x h
  event_in (Pulse g r width) x h = line_in g r (added (x.courses r).now width) x h
  event_in (Tick r) x h = if_device r x _ h (record { least = h.least; most = h.most })
  event_in (Restart r) x h = if_device r x _ h (record { least = h.least; most = h.most })
  event_in (Stamp r ago) x h = if_device r x _ h (elim (cases_Bool (nat_lt x.now ago)) [
    | inl early ↦ rw early h
    | inr past ↦ rw past (record { least = h.least; most = h.most })
  ])

  in_second : (ev : List Event) → IsInSecond (standing_after s ev)
  in_second [] = record { least = omega arith; most = omega arith }
  in_second (e ∷ ev) = event_in e (standing_after s ev) (in_second ev)

  -- ---- how many parts there are makes no difference, if they are enough

  rest_suffices : (parts us : ℕ) (x begun : StationStanding) → begun.now ≡ x.now → IsBegun begun → Suffice (suc parts) us x → Suffice parts (us - part_us us begun) (part_gone s (begun.now + part_us us begun) begun)
  rest_suffices parts us x begun now h enough = omega (arith, now, h.least, h.most, enough)

  same_time : (a b us : ℕ) (x : StationStanding) → IsInSecond x → Suffice a us x → Suffice b us x → time_gone s a us x ≡ time_gone s b us x
  same_time zero b us x h one two = sym (time_over s b us x (omega (arith, one)))
  same_time (suc a) zero us x h one two = time_over s (suc a) us x (omega (arith, two))
  same_time (suc a) (suc b) us x h one two = elim (cases_eq us 0) [
    | inl none ↦ time_over s (suc a) us x none ∙ sym (time_over s (suc b) us x none)
    | inr some ↦ elim (cases_Bool (lacks_second s x)) [
      | inl end ↦ time_ends s a us x some end ∙ sym (time_ends s b us x some end)
      | inr goes ↦
          let begun = has_begun_if_due s x in
          let is = begun_in x h in
          let part = part_us us begun in
          time_step s a us x begun part some goes refl refl
          ∙ same_time a b (us - part) (part_gone s (begun.now + part) begun) (part_in us begun is) (rest_suffices a us x begun (begun_now x) is one) (rest_suffices b us x begun (begun_now x) is two)
          ∙ sym (time_step s b us x begun part some goes refl refl)
    ]
  ]

  -- ---- the first part

  two_at_least : (us : ℕ) → most_parts us ≡ suc (us / 1000000 + 1)
  two_at_least us = omega arith

  most_suffice : (us : ℕ) (x : StationStanding) → Suffice (suc (us / 1000000 + 1)) us x
  most_suffice us x = omega arith

  whole_begins : (us : ℕ) (x : StationStanding) → us ≢ 0 → lacks_second s x ≡ false
      → play_event s (Pass us) x
      ≡ time_gone s (us / 1000000 + 1) (us - part_us us (has_begun_if_due s x)) (part_gone s ((has_begun_if_due s x).now + part_us us (has_begun_if_due s x)) (has_begun_if_due s x))
  whole_begins us x some goes = ap (λ (n : ℕ). time_gone s n us x) (two_at_least us) ∙ time_step s (us / 1000000 + 1) us x _ _ some goes refl refl

  whole_ends : (us : ℕ) (x : StationStanding) → us ≢ 0 → lacks_second s x ≡ true → play_event s (Pass us) x ≡ refused_at x EndOfYears
  whole_ends us x some end = ap (λ (n : ℕ). time_gone s n us x) (two_at_least us) ∙ time_ends s (us / 1000000 + 1) us x some end

  -- it is what is left of the second that has begun
  part_is : (us : ℕ) (x : StationStanding) → IsInSecond x → part_us us (has_begun_if_due s x) ≡ first_part us x
  part_is us x h = (let is = begun_in x h in let now = begun_now x in omega (arith, is.least, is.most, now))

  -- a part within a second goes there at once
  part_alone : (part : ℕ) (x begun : StationStanding) → begun ≡ has_begun_if_due s x → part ≡ part_us part begun → part ≢ 0 → lacks_second s x ≡ false
      → play_event s (Pass part) x ≡ goes_to (part_gone s (begun.now + part) begun)
  part_alone part x begun is fits some goes =
      ap (λ (n : ℕ). time_gone s n part x) (two_at_least part)
      ∙ time_step s (part / 1000000 + 1) part x begun part some goes is fits
      ∙ time_over s (part / 1000000 + 1) (part - part) (part_gone s (begun.now + part) begun) (omega arith)

-- a stretch of time is refused at once, and so is its first part
pub record EndsAtOnce (s : StationSetup) (us part : ℕ) (x : StationStanding) : Type 0 where
  pub whole : play_event s (Pass us) x ≡ refused_at x EndOfYears
  pub start : play_event s (Pass part) x ≡ refused_at x EndOfYears

-- or that part passes, and then the rest
pub record GoesOn (s : StationSetup) (us part : ℕ) (x : StationStanding) : Type 0 where
  pub accepted : (play_event s (Pass part) x).refusal ≡ None
  pub rest : play_event s (Pass us) x ≡ play_event s (Pass (us - part)) (play_event s (Pass part) x).standing

module _ (s : StationSetup) (us part : ℕ) (some : 0 < us) (x : StationStanding) (h : IsInSecond x) (first : part ≡ first_part us x) where
  is_some : us ≢ 0
  is_some none = omega (arith, none, some)

  part_some : part ≢ 0
  part_some none = omega (arith, none, some, first)

  goes_on : lacks_second s x ≡ false → GoesOn s us part x
  goes_on goes =
      let begun = has_begun_if_due s x in
      let is = begun_in s x h in
      let size : part_us us begun ≡ part = part_is s us x h ∙ sym first in
      let fits : part ≡ part_us part begun = omega (arith, size) in
      let alone = part_alone s part x begun refl fits part_some goes in
      let stop = begun.now + part in
      let there = part_gone s stop begun in
      let in_there : IsInSecond there = subst (λ (n : ℕ). IsInSecond (part_gone s (begun.now + n) begun)) size (part_in s us begun is) in
      let enough : Suffice (us / 1000000 + 1) (us - part) there =
      subst (λ (n : ℕ). Suffice (us / 1000000 + 1) (us - n) (part_gone s (begun.now + n) begun)) size (rest_suffices s (us / 1000000 + 1) us x begun (begun_now s x) is (most_suffice s us x)) in
      record {
        accepted = ap (λ (y : StationStep). y.refusal) alone;
        rest =
            whole_begins s us x is_some goes
            ∙ ap (λ (n : ℕ). time_gone s (us / 1000000 + 1) (us - n) (part_gone s (begun.now + n) begun)) size
            ∙ same_time s (us / 1000000 + 1) (suc ((us - part) / 1000000 + 1)) (us - part) there in_there enough (most_suffice s (us - part) there)
            ∙ ap (λ (n : ℕ). time_gone s n (us - part) there) (sym (two_at_least s (us - part)))
            ∙ ap (λ (y : StationStep). play_event s (Pass (us - part)) y.standing) (sym alone);
      }

  begins : EndsAtOnce s us part x ⊎ GoesOn s us part x
  begins = elim (cases_Bool (lacks_second s x)) [
    | inl end ↦ inl (record { whole = whole_ends s us x is_some end; start = whole_ends s part x part_some end })
    | inr goes ↦ inr (goes_on goes)
  ]

-- so of each station
pub cut : (s : StationSetup) (ev : List Event) (us part : ℕ) → 0 < us → part ≡ first_part us (standing_after s ev) → EndsAtOnce s us part (standing_after s ev) ⊎ GoesOn s us part (standing_after s ev)
cut s ev us part some first = begins s us part some (standing_after s ev) (in_second s ev) first

-- ---- in one equation

in_turn : (s : StationSetup) (us : ℕ) (x : StationStanding) → EndsAtOnce s us (first_part us x) x ⊎ GoesOn s us (first_part us x) x → play_event s (Pass us) x ≡ passed_in_turn s us x
in_turn s us x (inl h) = h.whole ∙ ap (λ (y : StationStep). followed y (play_event s (Pass (us - first_part us x)))) (sym h.start)
in_turn s us x (inr h) = h.rest ∙ rw h.accepted refl

pub passes_in_turn : (s : StationSetup) (ev : List Event) (us : ℕ) → play_event s (Pass us) (standing_after s ev) ≡ passed_in_turn s us (standing_after s ev)
passes_in_turn s ev zero =
    let x = standing_after s ev in
    let none : first_part 0 x ≡ 0 = omega arith in
    sym (ap (λ (n : ℕ). followed (play_event s (Pass n) x) (play_event s (Pass (0 - n)))) none)
passes_in_turn s ev (suc n) = in_turn s (suc n) (standing_after s ev) (cut s ev (suc n) _ (omega arith) refl)
