-- What a receiver's timekeeper was told is in order after one call more.
use Rattle.std.specs.Prelude.{◌==◌, ◌&&◌, nat_le}
use Rattle.std.proofs.Common.{◌≡◌, ◌∙◌, ℕ, ◌+◌, ◌<◌, ◌≤◌, Bool, true, false, cond, List, ◌∷◌, sym, ap, subst, refl, arith, inl, inr}
use Rattle.std.proofs.lemmas.Bool.{cases_Bool, leb-true}
use Rattle.irig_port.specs.declared.port.Port.{Ghosts}
use Rattle.irig_sync.specs.Lines.{Pulse, pulse_at, IsAfter}
use Rattle.irig_vote.specs.Vote.{ports_in}
use Rattle.irig_lines.specs.declared.setup.ClockRules.{ClockRules}
use Rattle.irig_lines.specs.Steps.{is_pulse}
use Rattle.irig_timekeeper.specs.Life.{Call, AreInOrder, HaveRisen, pulses_on}
use Rattle.irig_timekeeper.specs.Life.Call.{Hear, Tick}
use Rattle.irig_timekeeper.specs.Lived.{MadeOf, HasLived}
use Rattle.irig_timekeeper.proofs.OrderLaws.{five}
use Rattle.record_lines.specs.declared.receiver.Receiver.{Receiver}
use Rattle.record_lines.specs.declared.rises.Rises.{Rises}
use Rattle.record_lines.specs.Rises.{last_rise, rise_at, with_rise}
use Rattle.record_lines.specs.Receivers.{IsReceiverOf, may_hear}
use Rattle.record_lines.proofs.RiseLaws.{at_with, later_after, after_last}

-- what a test of three says
record AreThree (a b c : Bool) : Type 0 where
  one : a ≡ true
  two : b ≡ true
  three : c ≡ true

three_of : (a b c : Bool) → (a && (b && c)) ≡ true → AreThree a b c
three_of true true true e = record { one = refl; two = refl; three = refl }
three_of true true false e = absurd cc
three_of true false c e = absurd cc
three_of false b c e = absurd cc

-- ---- the pulses of lines after one pulse more

-- on its own line, or another one
pub pulses_then : (line port rise width : ℕ) (calls : List Call) → is_pulse width ≡ true
    → pulses_on line (Hear port rise width ∷ calls) ≡ cond (line == port) (pulse_at rise width ∷ pulses_on line calls) (pulses_on line calls)
pulses_then line port rise width calls narrow = rw narrow (elim (cases_Bool (line == port)) [
  | inl same ↦ rw same refl
  | inr other ↦ rw other refl
])

risen_then : (time port rise width : ℕ) (calls : List Call) → is_pulse width ≡ true → rise ≤ time → HaveRisen time calls → HaveRisen time (Hear port rise width ∷ calls)
risen_then time port rise width calls narrow low risen line =
    subst (λ (pulses : List Pulse). IsAfter pulses time) (sym (pulses_then line port rise width calls narrow)) (elim (cases_Bool (line == port)) [
      | inl same ↦ rw same low
      | inr other ↦ rw other (risen line)
    ])

rises_then : (r : Rises) (line port rise width : ℕ) (calls : List Call) → is_pulse width ≡ true → line < 5 → port < 5 → rise_at r line ≡ last_rise (pulses_on line calls)
    → rise_at (with_rise r port rise) line ≡ last_rise (pulses_on line (Hear port rise width ∷ calls))
rises_then r line port rise width calls narrow small low before =
    at_with r rise port line low small
    ∙ (split ∙ ap last_rise (sym (pulses_then line port rise width calls narrow)))
  where
    split : cond (line == port) rise (rise_at r line) ≡ last_rise (cond (line == port) (pulse_at rise width ∷ pulses_on line calls) (pulses_on line calls))
    split = elim (cases_Bool (line == port)) [
      | inl same ↦ rw same refl
      | inr other ↦ rw other before
    ]

-- ---- a receiver after one call more

module _ {P : Type 0} {g : Ghosts P} (old new : Receiver P g) (made : MadeOf) (start : ℕ) (calls : List Call) (is : IsReceiverOf old made start calls) where
  -- a pulse that may be told
  pub hear_in_order : (line rise width : ℕ) → line < ports_in old.clock.redundancy → may_hear old line rise ≡ true
      → AreInOrder start made.clock.redundancy (Hear line rise width ∷ calls) × (rise ≤ old.now_us + 4000)
  hear_in_order line rise width there may =
      let are = three_of (nat_le rise (old.now_us + 4000)) (nat_le (rise_at old.rises line) rise) (nat_le old.ticked_us (rise + 500000)) may in
      let after : rise_at old.rises line ≤ rise = leb-true (rise_at old.rises line) rise are.two in
      let soon : old.ticked_us ≤ rise + 500000 = leb-true old.ticked_us (rise + 500000) are.three in
      let last = is.rises line (omega (arith, there, five old.clock.redundancy)) in
      let on : line < ports_in made.clock.redundancy = subst (λ (c : ClockRules). line < ports_in c.redundancy) is.clock there in
      let tick = is.ticked in (
        (on, (λ _. (after_last (pulses_on line calls) rise (omega (arith, after, last)), omega (arith, soon, tick))), is.order),
        leb-true rise (old.now_us + 4000) are.one,
      )

  pub hears : (line rise width : ℕ) → line < ports_in old.clock.redundancy → is_pulse width ≡ true → may_hear old line rise ≡ true → HasLived new.keeper made (Hear line rise width ∷ calls)
      → new.clock ≡ old.clock → new.ticked_us ≡ old.ticked_us → new.now_us ≡ old.now_us → new.rises ≡ with_rise old.rises line rise → IsReceiverOf new made start (Hear line rise width ∷ calls)
  hears line rise width there narrow may lived clock ticked now rises =
      let order = hear_in_order line rise width there may in
      let small : line < 5 = omega (arith, there, five old.clock.redundancy) in
      record {
        lived = lived;
        order = order.0;
        clock = clock ∙ is.clock;
        ticked = ticked ∙ is.ticked;
        rises = λ other less. ap (λ (r : Rises). rise_at r other) rises ∙ rises_then old.rises other line rise width calls narrow less small (is.rises other less);
        risen = subst (λ (n : ℕ). HaveRisen (n + 4000) (Hear line rise width ∷ calls)) (sym now) (risen_then (old.now_us + 4000) line rise width calls narrow order.1 is.risen);
      }

  -- a tick that is due
  pub due_in_order : old.ticked_us ≤ old.now_us → old.now_us ≤ old.due_us → old.due_us ≤ old.ticked_us + 2000000 → AreInOrder start made.clock.redundancy (Tick old.due_us ∷ calls)
  due_in_order gone due latest =
      let tick = is.ticked in (
        omega (arith, gone, due, tick),
        omega (arith, latest, tick),
        λ line. later_after (pulses_on line calls) (old.now_us + 4000) (old.due_us + 4000) (omega (arith, due)) (is.risen line),
        is.order,
      )

  pub ticks : AreInOrder start made.clock.redundancy (Tick old.due_us ∷ calls) → HasLived new.keeper made (Tick old.due_us ∷ calls)
      → new.clock ≡ old.clock → new.ticked_us ≡ old.due_us → new.now_us ≡ old.due_us → new.rises ≡ old.rises → IsReceiverOf new made start (Tick old.due_us ∷ calls)
  ticks order lived clock ticked now rises = record {
    lived = lived;
    order = order;
    clock = clock ∙ is.clock;
    ticked = ticked;
    rises = λ line small. ap (λ (r : Rises). rise_at r line) rises ∙ is.rises line small;
    risen = subst (λ (n : ℕ). HaveRisen (n + 4000) calls) (sym now) order.2;
  }

  -- time that passes
  pub stands : old.now_us ≤ new.now_us → new.keeper ≡ old.keeper → new.clock ≡ old.clock → new.ticked_us ≡ old.ticked_us → new.rises ≡ old.rises → IsReceiverOf new made start calls
  stands forward keeper clock ticked rises = record {
    lived = subst (λ k. HasLived k made calls) (sym keeper) is.lived;
    order = is.order;
    clock = clock ∙ is.clock;
    ticked = ticked ∙ is.ticked;
    rises = λ line small. ap (λ (r : Rises). rise_at r line) rises ∙ is.rises line small;
    risen = λ line. later_after (pulses_on line calls) (old.now_us + 4000) (new.now_us + 4000) (omega (arith, forward)) (is.risen line);
  }
