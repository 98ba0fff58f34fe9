-- What becomes of a receiver by a call.
-- Source: this project's profile.
use Rattle.std.specs.Prelude.{◌≡◌, ℕ, ◌%◌, ◌^◌, ◌<◌, ◌≤◌, ◌==◌, max, if◌then◌else◌, List, [], ◌∷◌, Option, Some, None, ⊤}
use Rattle.irig_port.specs.declared.port.Port.{Ghosts}
use Rattle.irig_timekeeper.specs.Keeping.{answer_at, place_told}
use Rattle.irig_timekeeper.specs.Life.{Call}
use Rattle.irig_timekeeper.specs.Life.Call.{Hear, Tick}
use Rattle.irig_timekeeper.specs.Lived.{MadeOf, keeping_after}
use Rattle.record_lines.specs.declared.receiver.Receiver.{Receiver}
use Rattle.record_lines.specs.declared.told.ToldSecond.{ToldSecond}
use Rattle.record_lines.specs.Receivers.{IsReceiverOf, told_rise}
use Rattle.record_lines.specs.Times.{asked_at}
use Rattle.record_lines.specs.ToldSeconds.{IsToldAfter}

-- ---- ticks

-- ticks at these times after those calls, each the newest first
abbrev pub ticks_after : List ℕ → List Call → List Call
ticks_after [] calls = calls
ticks_after (now ∷ times) calls = Tick now ∷ ticks_after times calls

-- when the next tick is due after these, of which the first was due then: as the timekeeper asks at the
-- last of them
abbrev pub due_after : MadeOf → (start due : ℕ) → List ℕ → List Call → ℕ
due_after made start due [] calls = due
due_after made start due (now ∷ times) calls = asked_at made start (ticks_after (now ∷ times) calls) now

-- each of these ticks came when it was due, and told no second
abbrev pub AreSilentTicks : MadeOf → (start due : ℕ) → List ℕ → List Call → Type 0
AreSilentTicks made start due [] calls = ⊤
AreSilentTicks made start due (now ∷ times) calls =
    (now ≡ due_after made start due times calls)
    × (answer_at (keeping_after made (ticks_after times calls)) (now % 2 ^ 32) ≡ None)
    × AreSilentTicks made start due times calls

-- it was ticked at these times as it was due, and told no second
pub record HasTicked {P : Type 0} {g : Ghosts P} (old new : Receiver P g) (made : MadeOf) (start : ℕ)
    (calls : List Call) (times : List ℕ)
    : Type 0 where
  pub is : IsReceiverOf new made start (ticks_after times calls)
  pub silent : AreSilentTicks made start old.due_us times calls
  pub due : new.due_us ≡ due_after made start old.due_us times calls

-- it was ticked once, when it was due, and is due again as it then asks; what it told is this second, or
-- none
pub record IsTickOn {P : Type 0} {g : Ghosts P} (old new : Receiver P g) (told : Option ToldSecond)
    (made : MadeOf) (start : ℕ) (calls : List Call)
    : Type 0 where
  pub is : IsReceiverOf new made start (Tick old.due_us ∷ calls)
  pub due : new.due_us ≡ asked_at made start (Tick old.due_us ∷ calls) old.due_us
  pub none : told ≡ None → answer_at (keeping_after made calls) (old.due_us % 2 ^ 32) ≡ None
  pub some : (second : ToldSecond) → told ≡ Some second
      → (second.at_us ≡ old.due_us) × IsToldAfter made calls second

-- so whatever it was told before
abbrev pub TicksOn : {P : Type 0} {g : Ghosts P} → (old new : Receiver P g) → Option ToldSecond
    → Type 0
TicksOn old new told =
    (made : MadeOf) (start : ℕ) (calls : List Call) → IsReceiverOf old made start calls
    → IsTickOn old new told made start calls

-- the last tick of some told this second: those before it told none, and it came when it was due
pub record TellsAtLast {P : Type 0} {g : Ghosts P} (old new : Receiver P g) (made : MadeOf)
    (start : ℕ) (calls : List Call) (second : ToldSecond)
    : Type 0 where
  pub times : List ℕ
  pub silent : AreSilentTicks made start old.due_us times calls
  pub at : second.at_us ≡ due_after made start old.due_us times calls
  pub told : IsToldAfter made (ticks_after times calls) second
  pub is : IsReceiverOf new made start (ticks_after (second.at_us ∷ times) calls)
  pub due : new.due_us ≡ due_after made start old.due_us (second.at_us ∷ times) calls

-- ticks came, of which none told a second, or the last one this second
abbrev pub TicksUntil : {P : Type 0} {g : Ghosts P} → (old new : Receiver P g) → Option ToldSecond
    → Type 0
TicksUntil old new None =
    (made : MadeOf) (start : ℕ) (calls : List Call) → IsReceiverOf old made start calls
    → (times : List ℕ) × HasTicked old new made start calls times
TicksUntil old new (Some second) =
    (made : MadeOf) (start : ℕ) (calls : List Call) → IsReceiverOf old made start calls
    → TellsAtLast old new made start calls second

-- time passes to another: ticks came as they were due, of which none told a second. Then time stands
-- there, if it did not stand later, and no tick is due by then. Else time stands at the last of them, by
-- then, which told it
abbrev pub StandsAt : {P : Type 0} {g : Ghosts P} → (old new : Receiver P g) → (time : ℕ)
    → Option ToldSecond → Type 0
StandsAt old new time None = (new.now_us ≡ max old.now_us time) × (time < new.due_us)
StandsAt old new time (Some second) = (new.now_us ≡ second.at_us) × (second.at_us ≤ time)

-- ---- pulses

-- one pulse more was told, which rose then by its clock; behind the last pulse of a frame it is due as the
-- timekeeper then asks
pub record IsPulseOn {P : Type 0} {g : Ghosts P} (old new : Receiver P g)
    (made : MadeOf) (start : ℕ) (calls : List Call) (line rise width told : ℕ)
    : Type 0 where
  pub is : IsReceiverOf new made start (Hear line rise width ∷ calls)
  pub place : told ≡ place_told (keeping_after made calls) line (rise % 2 ^ 32) width
  pub due : new.due_us ≡ (if told == 100
      then asked_at made start (Hear line rise width ∷ calls) old.now_us else old.due_us)
  pub now : new.now_us ≡ old.now_us

-- a pulse is told if it may be, and else nothing changes
abbrev pub HearsIf : {P : Type 0} {g : Ghosts P} → (old new : Receiver P g) → (risen : Option ℕ)
    → (line width place : ℕ) → Type 0
HearsIf old new None line width place = (place ≡ 0) × (new ≡ old)
HearsIf old new (Some rise) line width place =
    (made : MadeOf) (start : ℕ) (calls : List Call) → IsReceiverOf old made start calls
    → IsPulseOn old new made start calls line rise width place

-- so a pulse that rose then on a line
abbrev pub HearsOn : {P : Type 0} {g : Ghosts P} → (old new : Receiver P g) → (line rise width place : ℕ)
    → Type 0
HearsOn old new line rise width place =
    HearsIf old new (told_rise old line rise width) line width place

-- it was ticked since, if it told a second, and else perhaps
abbrev pub IsTickedLater : {P : Type 0} {g : Ghosts P} → (old new : Receiver P g) → Option ToldSecond
    → Type 0
IsTickedLater old new None = old.ticked_us ≤ new.ticked_us
IsTickedLater old new (Some second) = old.ticked_us < new.ticked_us
