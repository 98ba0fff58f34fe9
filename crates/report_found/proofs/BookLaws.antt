-- The ticks of readers, and their accounts.
use Rattle.std.proofs.Common.{◌≡◌, ◌≢◌, ℕ, ◌<◌, Bool, true, false, cond, List, [], ◌∷◌, length, get_or, set, Option, Some, None, refl, sym, ap, ◌∙◌, arith, inl, inr}
use Rattle.std.specs.Prelude.{◌==◌}
use Rattle.std.proofs.lemmas.Option.{same_Some, none-some}
use Rattle.std.proofs.lemmas.Bool.{eq-eqb, eqb-true, cases_lt}
use Rattle.irig_plant.specs.declared.event.Event.{Event}
use Rattle.irig_plant.specs.declared.event.Event.TheVariants.{GenEdge, Tick, Carry, Damage, Replay, Raw, Fault, Repair, Restart}
use Rattle.irig_plant.specs.declared.fault.PlantFault.{PlantFault}
use Rattle.irig_plant.specs.declared.fault.PlantFault.TheVariants.{NoSuchReader}
use Rattle.irig_plant.specs.Refusals.{unless_second, refusal}
use Rattle.irig_plant.specs.Schedule.{Setup, ticks_of}
use Rattle.irig_plant.proofs.ListLaws.{apart, each_set}
use Rattle.irig_plant.proofs.StepLaws.{no_reader}
use Rattle.irig_scene.specs.Listening.{entries_by}
use Rattle.report_found.specs.declared.account.Account.{Account}
use Rattle.report_found.specs.declared.book.Book.{Book}
use Rattle.report_found.specs.declared.tick.Tick.{Tick as TickOf}
use Rattle.report_found.specs.Accounts.{account_of}
use Rattle.report_found.specs.Books.{HasTicks, tick_of, ticks_at, with_tick, first_tick}

-- ---- the ticks of readers

-- a tick of a reader that comes now is one more of its ticks
pub one_more : (s : Setup) (x : ℕ) (ev : List Event) (r : ℕ) → with_tick (tick_of s x ev) (λ r. ticks_at s r ev) r ≡ ticks_at s r (Tick x ∷ ev)
one_more s x ev r = by_test (x == r) refl
  where
    by_test : (b : Bool) → (x == r) ≡ b → cond b (tick_of s x ev ∷ ticks_at s r ev) (ticks_at s r ev) ≡ cond b (tick_of s r ev ∷ ticks_at s r ev) (ticks_at s r ev)
    by_test true is = ap (λ k. tick_of s k ev ∷ ticks_at s r ev) (eqb-true x r is)
    by_test false is = refl

-- a book of some ticks is one of the same ticks
pub same_ticks : (b : Book) (n : ℕ) (f g : ℕ → List TickOf) → ((r : ℕ) → f r ≡ g r) → HasTicks b n f → HasTicks b n g
same_ticks b n f g same h = record { count = h.count; each = λ r d lt. h.each r d lt ∙ ap account_of (same r) }

pub other_ticks : (t : TickOf) (ticks : ℕ → List TickOf) (r : ℕ) → r ≢ t.entry.reader → with_tick t ticks r ≡ ticks r
other_ticks t ticks r q = rw (apart t.entry.reader r (λ e. q (sym e))) refl

pub own_ticks : (t : TickOf) (ticks : ℕ → List TickOf) → with_tick t ticks t.entry.reader ≡ t ∷ ticks t.entry.reader
own_ticks t ticks = rw (eq-eqb t.entry.reader t.entry.reader refl) refl

-- one account is another
pub each_added : (n : ℕ) (ticks : ℕ → List TickOf) (t : TickOf) (xs : List Account) (x y : Account) → length xs ≡ n → t.entry.reader < n
    → ((k : ℕ) (d : Account) → k < n → get_or xs k d ≡ account_of (ticks k)) → x ≡ get_or xs t.entry.reader x
    → (x ≡ account_of (ticks t.entry.reader) → y ≡ account_of (t ∷ ticks t.entry.reader))
    → (k : ℕ) (d : Account) → k < n → get_or (set xs t.entry.reader y) k d ≡ account_of (with_tick t ticks k)
each_added n ticks t xs x y size low h is exact =
    let r = t.entry.reader in
    each_set (λ k z. z ≡ account_of (ticks k)) (λ k z. z ≡ account_of (with_tick t ticks k)) n xs r y (omega (arith, size, low)) h
    (λ k z q e. e ∙ sym (ap account_of (other_ticks t ticks k q)))
    (exact (is ∙ h r x low) ∙ sym (ap account_of (own_ticks t ticks)))

-- ---- the tick that an event is

pub known_reader : (s : Setup) (r : ℕ) (ev : List Event) → refusal s (Tick r) ev ≡ None → r < length s.readers
known_reader s r ev h =
    elim (cases_lt r (length s.readers)) [
      | inl lt ↦ lt
      | inr ge ↦ let none : ◌≡◌ {A = Option PlantFault} (Some NoSuchReader) None = sym (no_reader s r (unless_second s (ticks_of r ev)) ge) ∙ h in absurd cc
    ]

-- the tick of an event
abbrev pub latest : Setup → Event → List Event → Option TickOf
latest s e ev = first_tick (entries_by s e ev)

-- an event is a tick, or changes no reader's ticks
pub record IsTick (s : Setup) (e : Event) (ev : List Event) (t : TickOf) : Type 0 where
  pub reader : ℕ
  pub is : e ≡ Tick reader
  pub same : t ≡ tick_of s reader ev

no_tick_given : (s : Setup) (e : Event) (ev : List Event) (t : TickOf) → Some t ≡ None → IsTick s e ev t
no_tick_given s e ev t h = absurd (none-some t (sym h))

pub the_tick : (s : Setup) (e : Event) (ev : List Event) (t : TickOf) → Some t ≡ latest s e ev → IsTick s e ev t
the_tick s (Tick r) ev t h = record { reader = r; is = refl; same = same_Some t (tick_of s r ev) h }
the_tick s (GenEdge g) ev t h = no_tick_given s (GenEdge g) ev t h
the_tick s (Carry g r) ev t h = no_tick_given s (Carry g r) ev t h
the_tick s (Damage g r at width) ev t h = no_tick_given s (Damage g r at width) ev t h
the_tick s (Replay g r edge) ev t h = no_tick_given s (Replay g r edge) ev t h
the_tick s (Raw g r widths) ev t h = no_tick_given s (Raw g r widths) ev t h
the_tick s (Fault g kind) ev t h = no_tick_given s (Fault g kind) ev t h
the_tick s (Repair g) ev t h = no_tick_given s (Repair g) ev t h
the_tick s (Restart r) ev t h = no_tick_given s (Restart r) ev t h

pub no_tick : (s : Setup) (r : ℕ) (ev : List Event) → None ≡ latest s (Tick r) ev → ⊥
no_tick s r ev h = none-some (tick_of s r ev) h
