-- A receiver, by what its timekeeper was told.
-- Source: this project's profile.
use Rattle.std.specs.Prelude.{◌≡◌, ℕ, ◌+◌, ◌<◌, ◌≤◌, Bool, true, ◌&&◌, nat_lt, nat_le, if◌then◌else◌, List, [], ◌∷◌, Option, Some, None}
use Rattle.irig_port.specs.declared.port.Port.{Ghosts}
use Rattle.irig_vote.specs.Vote.{ports_in}
use Rattle.irig_lines.specs.Delays.{delay_at}
use Rattle.irig_lines.specs.Steps.{is_pulse}
use Rattle.irig_timekeeper.specs.Life.{Call, AreInOrder, HaveRisen, last_tick, pulses_on}
use Rattle.irig_timekeeper.specs.Life.Call.{Hear}
use Rattle.irig_timekeeper.specs.Lived.{MadeOf, HasLived}
use Rattle.record_lines.specs.declared.receiver.Receiver.{Receiver}
use Rattle.record_lines.specs.Rises.{last_rise, rise_at}
use Rattle.record_lines.specs.Times.{asked_at, risen_at}

-- the timekeeper of a receiver was made of this, and these calls came since, the newest first, of a life
-- that began at a time; they are in order
pub record IsReceiverOf {P : Type 0} {g : Ghosts P} (receiver : Receiver P g) (made : MadeOf)
    (start : ℕ) (calls : List Call)
    : Type 0 where
  pub lived : HasLived receiver.keeper made calls
  pub order : AreInOrder start made.clock.redundancy calls
  pub clock : receiver.clock ≡ made.clock
  pub ticked : receiver.ticked_us ≡ last_tick start calls
  pub rises : (line : ℕ) → line < 5 → rise_at receiver.rises line ≡ last_rise (pulses_on line calls)
  pub risen : HaveRisen (receiver.now_us + 4000) calls

-- nothing was told to it, time stands where its life begins, and it is ticked as it asks there
pub record IsNewReceiver {P : Type 0} {g : Ghosts P} (receiver : Receiver P g) (made : MadeOf)
    (start : ℕ)
    : Type 0 where
  pub is : IsReceiverOf receiver made start []
  pub now : receiver.now_us ≡ start
  pub due : receiver.due_us ≡ asked_at made start [] start

-- what rose then, by its clock, may be told of a line: it rose at most 4 ms ahead of where time stands, not
-- before the pulse that was told last of its line, and at most half a second before the last tick
abbrev pub may_hear : {P : Type 0} {g : Ghosts P} → Receiver P g → (line rise : ℕ) → Bool
may_hear r line rise =
    nat_le rise (r.now_us + 4000)
    && (nat_le (rise_at r.rises line) rise && nat_le r.ticked_us (rise + 500000))

-- the same of what may have no such time
abbrev pub heard_rise : {P : Type 0} {g : Ghosts P} → Receiver P g → (line : ℕ) → Option ℕ → Option ℕ
heard_rise r line None = None
heard_rise r line (Some rise) = if may_hear r line rise then Some rise else None

-- when a pulse on a line rose at its clock, if it may be told: the line is there, it is no half second
-- wide, and it rose at most 4 ms ahead of where time stands
abbrev pub told_rise : {P : Type 0} {g : Ghosts P} → Receiver P g → (line rise width : ℕ) → Option ℕ
told_rise r line rise width =
    if (nat_lt line (ports_in r.clock.redundancy) && is_pulse width) && nat_le rise (r.now_us + 4000)
    then heard_rise r line (risen_at rise (delay_at r.clock.delays line)) else None

-- a pulse on a line that rose then, by its clock at `risen`, is in order: so is it as the next call of the
-- timekeeper, and it rose at most 4 ms ahead of where time stands
pub record IsInOrder {P : Type 0} {g : Ghosts P} (receiver : Receiver P g) (made : MadeOf) (start : ℕ)
    (calls : List Call) (line rise width risen : ℕ)
    : Type 0 where
  pub at : risen_at rise (delay_at made.clock.delays line) ≡ Some risen
  pub narrow : is_pulse width ≡ true
  pub order : AreInOrder start made.clock.redundancy (Hear line risen width ∷ calls)
  pub early : rise ≤ receiver.now_us + 4000
  pub early_at : risen ≤ receiver.now_us + 4000
