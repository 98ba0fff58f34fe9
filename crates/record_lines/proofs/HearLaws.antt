-- A pulse that is told.
use Rattle.std.specs.Prelude.{◌==◌, ◌&&◌, nat_le, nat_lt, if◌then◌else◌}
use Rattle.std.proofs.Common.{◌≡◌, ◌≢◌, ◌∙◌, ◌↔◌, ℕ, ◌+◌, ◌%◌, ◌^◌, ◌<◌, ◌≤◌, Bool, true, false, List, ◌∷◌, Option, Some, None, refl, sym, ap, subst, arith}
use Rattle.std.proofs.lemmas.Bool.{ltb-true, leb-true, le-leb, lt-ltb, ne_eqb}
use Rattle.std.proofs.lemmas.Option.{same_Some}
use Rattle.irig_port.specs.declared.port.Port.{Ghosts}
use Rattle.irig_vote.specs.Vote.{ports_in}
use Rattle.irig_lines.specs.declared.setup.ClockRules.{ClockRules}
use Rattle.irig_lines.specs.Delays.{corrected, delay_at}
use Rattle.irig_lines.specs.Steps.{is_pulse}
use Rattle.irig_timekeeper.specs.Keepers.{ForKeeping}
use Rattle.irig_timekeeper.specs.Keeping.{place_told}
use Rattle.irig_timekeeper.specs.Life.{Call, pulses_on}
use Rattle.irig_timekeeper.specs.Life.Call.{Hear}
use Rattle.irig_timekeeper.specs.Lived.{MadeOf, HasLived, keeping_after}
use Rattle.irig_timekeeper.proofs.OrderLaws.{five}
use Rattle.record_lines.specs.declared.receiver.Receiver.{Receiver}
use Rattle.record_lines.specs.Passing.{HearsIf, HearsOn}
use Rattle.record_lines.specs.Receivers.{IsInOrder, IsReceiverOf, heard_rise, may_hear, told_rise}
use Rattle.record_lines.specs.Rises.{last_rise, rise_at, with_rise}
use Rattle.record_lines.specs.Times.{asked_at, risen_at}
use Rattle.record_lines.proofs.CallLaws.{hear_in_order, hears}
use Rattle.record_lines.proofs.RiseLaws.{last_after}
use Rattle.record_lines.proofs.ToldLaws.{keeping_is}

-- ---- what may be told

of_if : {A : Type 0} (b : Bool) (o : Option A) (x : A) → (if b then o else None) ≡ Some x → (b ≡ true) × (o ≡ Some x)
of_if true o x e = (refl, e)
of_if false o x e = absurd cc

both_of : (a b : Bool) → (a && b) ≡ true → (a ≡ true) × (b ≡ true)
both_of true true e = (refl, refl)
both_of true false e = absurd cc
both_of false b e = absurd cc

module _ {P : Type 0} {g : Ghosts P} (r : Receiver P g) (line : ℕ) where
  heard_some : (o : Option ℕ) (risen : ℕ) → heard_rise r line o ≡ Some risen → (o ≡ Some risen) × (may_hear r line risen ≡ true)
  heard_some None risen e = absurd cc
  heard_some (Some x) risen e =
      let is = of_if (may_hear r line x) (Some x) risen e in
      (is.1, subst (λ (n : ℕ). may_hear r line n ≡ true) (same_Some x risen is.1) is.0)

  -- its line is there, it is narrow enough, and it comes in order
  pub record MayBeTold (rise width risen : ℕ) : Type 0 where
    pub there : line < ports_in r.clock.redundancy
    pub narrow : is_pulse width ≡ true
    pub early : nat_le rise (r.now_us + 4000) ≡ true
    pub at : risen_at rise (delay_at r.clock.delays line) ≡ Some risen
    pub may : may_hear r line risen ≡ true

  pub may_be_told : (rise width risen : ℕ) → told_rise r line rise width ≡ Some risen → MayBeTold rise width risen
  may_be_told rise width risen e =
      let there = nat_lt line (ports_in r.clock.redundancy) in
      let early = nat_le rise (r.now_us + 4000) in
      let is = of_if ((there && is_pulse width) && early) (heard_rise r line (risen_at rise (delay_at r.clock.delays line))) risen e in
      let tests = both_of (there && is_pulse width) early is.0 in
      let first = both_of there (is_pulse width) tests.0 in
      let heard = heard_some (risen_at rise (delay_at r.clock.delays line)) risen is.1 in
      record {
        there = ltb-true line (ports_in r.clock.redundancy) first.0;
        narrow = first.1;
        early = tests.1;
        at = heard.0;
        may = heard.1;
      }

-- ---- when the next tick is due

pub due_then : (place due asked before : ℕ) → place ≡ 100 → due ≡ asked → due ≡ (if place == 100 then asked else before)
due_then place due asked before is e = rw is e

pub due_else : (place asked before : ℕ) → place ≢ 100 → before ≡ (if place == 100 then asked else before)
due_else place asked before other = rw (ne_eqb place 100 other) refl

-- ---- what is told

-- by the delays of the same rules
low_is : (rise line low risen : ℕ) (c k : ClockRules) → low ≡ rise % 2 ^ 32 → k ≡ c → corrected (rise % 2 ^ 32) (delay_at c.delays line) ≡ risen % 2 ^ 32 → corrected low (delay_at k.delays line) ≡ risen % 2 ^ 32
low_is rise line low risen c k is same e =
    ap (λ (n : ℕ). corrected n (delay_at k.delays line)) is ∙ ap (λ (r : ClockRules). corrected (rise % 2 ^ 32) (delay_at r.delays line)) same ∙ e

module _ {P : Type 0} {g : Ghosts P} (old new : Receiver P g) (line rise width place risen low : ℕ) where
  pub hears_on : told_rise old line rise width ≡ Some risen → new.clock ≡ old.clock → new.ticked_us ≡ old.ticked_us → new.now_us ≡ old.now_us → new.rises ≡ with_rise old.rises line risen
      → low ≡ rise % 2 ^ 32 → corrected (rise % 2 ^ 32) (delay_at old.clock.delays line) ≡ risen % 2 ^ 32
      → ForKeeping old.keeper (λ k. place ≡ place_told k line (corrected low (delay_at k.clock.delays line)) width)
      → ((made : MadeOf) (calls : List Call) (at : ℕ) → HasLived old.keeper made calls → corrected low (delay_at made.clock.delays line) ≡ at % 2 ^ 32 → HasLived new.keeper made (Hear line at width ∷ calls))
      → ((made : MadeOf) (start : ℕ) (calls : List Call) → IsReceiverOf old made start calls → HasLived new.keeper made (Hear line risen width ∷ calls)
      → new.due_us ≡ (if place == 100 then asked_at made start (Hear line risen width ∷ calls) old.now_us else old.due_us))
      → HearsOn old new line rise width place
  hears_on told clock ticked now rises is_low at_low placed lives due =
      let may = may_be_told old line rise width risen told in
      subst (λ (o : Option ℕ). HearsIf old new o line width place) (sym told) (λ made start calls is.
      let at = low_is rise line low risen old.clock made.clock is_low (sym is.clock) at_low in
      let k = keeping_after made calls in
      let keeping = keeping_is old.keeper made calls is.lived in
      let at_keeper = low_is rise line low risen old.clock k.clock is_low (sym keeping.clock ∙ old.same) at_low in
      let lived = lives made calls risen is.lived at in
      record {
        is = hears old new made start calls is line risen width may.there may.narrow may.may lived clock ticked now rises;
        place = ◌∙◌ {b = place_told k line (corrected low (delay_at k.clock.delays line)) width} (placed k keeping) (ap (λ (n : ℕ). place_told k line n width) at_keeper);
        due = due made start calls is lived;
        now = now;
      })

-- ---- just what is in order is told

module _ {P : Type 0} {g : Ghosts P} (r : Receiver P g) (made : MadeOf) (start : ℕ) (calls : List Call) (is : IsReceiverOf r made start calls) (line rise width risen : ℕ) where
  in_order : told_rise r line rise width ≡ Some risen → IsInOrder r made start calls line rise width risen
  in_order told =
      let may = may_be_told r line rise width risen told in
      record {
        at = subst (λ (c : ClockRules). risen_at rise (delay_at c.delays line) ≡ Some risen) is.clock may.at;
        narrow = may.narrow;
        order = (hear_in_order r r made start calls is line risen width may.there may.may).0;
        early = leb-true rise (r.now_us + 4000) may.early;
        early_at = (hear_in_order r r made start calls is line risen width may.there may.may).1;
      }

  is_told : IsInOrder r made start calls line rise width risen → told_rise r line rise width ≡ Some risen
  is_told h =
      let there : line < ports_in r.clock.redundancy = subst (λ (c : ClockRules). line < ports_in c.redundancy) (sym is.clock) h.order.0 in
      let small : line < 5 = omega (arith, there, five r.clock.redundancy) in
      let at : risen_at rise (delay_at r.clock.delays line) ≡ Some risen = subst (λ (c : ClockRules). risen_at rise (delay_at c.delays line) ≡ Some risen) (sym is.clock) h.at in
      let told = h.order.1 h.narrow in
      let last : last_rise (pulses_on line calls) ≤ risen = last_after (pulses_on line calls) risen told.0 in
      let same = is.rises line small in
      let tick = is.ticked in
      let after : rise_at r.rises line ≤ risen = omega (arith, last, same) in
      let soon : r.ticked_us ≤ risen + 500000 = omega (arith, told.1, tick) in
      rw (lt-ltb line (ports_in r.clock.redundancy) there, h.narrow, le-leb rise (r.now_us + 4000) h.early, at, le-leb risen (r.now_us + 4000) h.early_at, le-leb (rise_at r.rises line) risen after, le-leb r.ticked_us (risen + 500000) soon) refl

  pub told_exactly : (told_rise r line rise width ≡ Some risen) ↔ IsInOrder r made start calls line rise width risen
  told_exactly = (in_order, is_told)
