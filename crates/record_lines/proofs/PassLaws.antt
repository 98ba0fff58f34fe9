-- Ticks one after another.
use Rattle.std.specs.Prelude.{is_some}
use Rattle.std.proofs.Common.{◌≡◌, ◌∙◌, ℕ, ◌≤◌, false, List, [], ◌∷◌, Option, Some, None, sym, ap, subst, refl, ◌<◌, arith}
use Rattle.irig_port.specs.declared.port.Port.{Ghosts}
use Rattle.irig_timekeeper.specs.Life.{Call}
use Rattle.irig_timekeeper.specs.Life.Call.{Tick}
use Rattle.irig_timekeeper.specs.Lived.{MadeOf}
use Rattle.record_lines.specs.declared.receiver.Receiver.{Receiver}
use Rattle.record_lines.specs.declared.told.ToldSecond.{ToldSecond}
use Rattle.record_lines.specs.Receivers.{IsReceiverOf}
use Rattle.record_lines.specs.Times.{asked_at}
use Rattle.record_lines.proofs.CallLaws.{stands}
use Rattle.record_lines.specs.Passing.{HasTicked, IsTickOn, IsTickedLater, TellsAtLast, TicksUntil, ticks_after}

pub none_of : {A : Type 0} (o : Option A) → is_some o ≡ false → o ≡ None
none_of None e = refl
none_of (Some x) e = absurd cc

module _ {P : Type 0} {g : Ghosts P} (old : Receiver P g) (made : MadeOf) (start : ℕ) (calls : List Call) where
  pub none_yet : IsReceiverOf old made start calls → HasTicked old old made start calls []
  none_yet is = record { is = is; silent = tt; due = refl }

  pub one_more : (mid new : Receiver P g) (times : List ℕ) → HasTicked old mid made start calls times → IsTickOn mid new None made start (ticks_after times calls) → HasTicked old new made start calls (mid.due_us ∷ times)
  one_more mid new times had tick = record {
    is = tick.is;
    silent = (had.due, tick.none refl, had.silent);
    due = tick.due;
  }

  pub tells_at_last : (mid new : Receiver P g) (second : ToldSecond) (times : List ℕ) → HasTicked old mid made start calls times → IsTickOn mid new (Some second) made start (ticks_after times calls) → TellsAtLast old new made start calls second
  tells_at_last mid new second times had tick =
      let some = tick.some second refl in
      record {
        times = times;
        silent = had.silent;
        at = some.0 ∙ had.due;
        told = some.1;
        is = subst (λ (now : ℕ). IsReceiverOf new made start (Tick now ∷ ticks_after times calls)) (sym some.0) tick.is;
        due = tick.due ∙ ap (λ (now : ℕ). asked_at made start (Tick now ∷ ticks_after times calls) now) (sym some.0);
      }

  -- once time stands later, with no tick more
  pub none_till : (mid new : Receiver P g) (times : List ℕ) → HasTicked old mid made start calls times → mid.now_us ≤ new.now_us → new.keeper ≡ mid.keeper → new.clock ≡ mid.clock → new.ticked_us ≡ mid.ticked_us → new.rises ≡ mid.rises → new.due_us ≡ mid.due_us
      → HasTicked old new made start calls times
  none_till mid new times had forward keeper clock ticked rises due = record {
    is = stands mid new made start (ticks_after times calls) had.is forward keeper clock ticked rises;
    silent = had.silent;
    due = due ∙ had.due;
  }

pub passes_on : {P : Type 0} {g : Ghosts P} (old mid new : Receiver P g) (told : Option ToldSecond) → is_some told ≡ false → TicksUntil old mid told → mid.now_us ≤ new.now_us → new.keeper ≡ mid.keeper → new.clock ≡ mid.clock → new.ticked_us ≡ mid.ticked_us → new.rises ≡ mid.rises → new.due_us ≡ mid.due_us
    → TicksUntil old new told
passes_on old mid new None none ticked forward keeper clock last rises due = λ made start calls is.
    let had = ticked made start calls is in
    (had.0, none_till old made start calls mid new had.0 had.1 forward keeper clock last rises due)
passes_on old mid new (Some second) none ticked forward keeper clock last rises due = absurd cc

-- it was ticked since, whether it told a second or not
pub told_later : {P : Type 0} {g : Ghosts P} (old new : Receiver P g) (told : Option ToldSecond) → old.ticked_us < new.ticked_us → IsTickedLater old new told
told_later old new None later = omega (arith, later)
told_later old new (Some second) later = later

pub not_sooner : {P : Type 0} {g : Ghosts P} (old new : Receiver P g) (told : Option ToldSecond) → IsTickedLater old new told → old.ticked_us ≤ new.ticked_us
not_sooner old new None later = later
not_sooner old new (Some second) later = omega (arith, later)

-- so after it was ticked before
pub later_on : {P : Type 0} {g : Ghosts P} (old mid new : Receiver P g) (told : Option ToldSecond) → old.ticked_us ≤ mid.ticked_us → IsTickedLater mid new told → IsTickedLater old new told
later_on old mid new None before later = omega (arith, before, later)
later_on old mid new (Some second) before later = omega (arith, before, later)
