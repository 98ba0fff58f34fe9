-- The ticks of the readers of a plant, by its events.
use Rattle.std.specs.Prelude.{◌≡◌, ℕ, ◌<◌, ◌==◌, if◌then◌else◌, List, [], ◌∷◌, length, slice_index_or, vec_len, Option, Some, None}
use Rattle.irig_plant.specs.declared.entry.Entry.{Entry}
use Rattle.irig_plant.specs.declared.event.Event.{Event}
use Rattle.irig_plant.specs.declared.event.Event.TheVariants as event
use Rattle.irig_plant.specs.Schedule.{Setup, entry_of}
use Rattle.report_found.specs.declared.account.Account.{Account}
use Rattle.report_found.specs.declared.book.Book.{Book}
use Rattle.report_found.specs.declared.tick.Tick.{Tick}
use Rattle.report_found.specs.Accounts.{account_of}

-- by an entry of the log
abbrev pub tick : Entry → Tick
tick entry = record { entry = entry }

-- a tick of reader r that comes now
abbrev pub tick_of : Setup → ℕ → List Event → Tick
tick_of s r ev = tick (entry_of s r ev)

-- the ticks of reader r, the newest first
abbrev pub ticks_at : Setup → ℕ → List Event → List Tick
ticks_at s r [] = []
ticks_at s r (event.Tick x ∷ ev) =
    if x == r then tick_of s r ev ∷ ticks_at s r ev else ticks_at s r ev
ticks_at s r (_ ∷ ev) = ticks_at s r ev

-- what they come to
abbrev pub account_at : Setup → List Event → ℕ → Account
account_at s ev r = account_of (ticks_at s r ev)

-- what each reader had of ticks, with one more
abbrev pub with_tick : Tick → ((r : ℕ) → List Tick) → (r : ℕ) → List Tick
with_tick t ticks r = if t.entry.reader == r then t ∷ ticks r else ticks r

-- the book has the account of each of so many readers, which had these ticks
pub record HasTicks (book : Book) (readers : ℕ) (ticks : (r : ℕ) → List Tick) : Type 0 where
  pub count : vec_len book.accounts ≡ readers
  pub each : (r : ℕ) (d : Account) → r < readers
      → slice_index_or book.accounts.items r d ≡ account_of (ticks r)

-- so of the readers of a plant
abbrev pub IsBookOf : Book → Setup → List Event → Type 0
IsBookOf book s ev = HasTicks book (length s.readers) (λ r. ticks_at s r ev)

-- by the first of some entries
abbrev pub first_tick : List Entry → Option Tick
first_tick [] = None
first_tick (e ∷ es) = Some (tick e)
