-- The audit says that the premises of the headline were kept exactly if they were.
use Rattle.std.proofs.Common.{◌≡◌, ◌↔◌, ℕ, ◌+◌, Bool, true, false, cond, List, [], ◌∷◌, ◌++◌, Option, Some, None, refl, subst, arith, inl, inr}
use Rattle.std.specs.Prelude.{All}
use Rattle.std.proofs.lemmas.Bool.{cases_Bool}
use Rattle.std.proofs.lemmas.List.Elements.{All-cons, All-nil, All-head, All-tail}
use Rattle.irig_time.specs.Timelines.{TimelineValue}
use Rattle.irig_time.proofs.TimeLaws.{neither}
use Rattle.irig_plant.specs.declared.event.Event.{Event}
use Rattle.irig_plant.specs.declared.event.Event.TheVariants.{Tick}
use Rattle.irig_plant.specs.declared.audit.Audit.TheVariants.{Kept}
use Rattle.irig_plant.specs.declared.setup.ReaderSetup.{ReaderSetup}
use Rattle.irig_plant.specs.Schedule.{Setup, ticks_of}
use Rattle.irig_plant.specs.Audits.{is_true_table, first_false, is_broken_now, TickOfReader, tick_of_reader, first_broken, verdict, audit_of}
use Rattle.irig_plant.specs.Premises.{IsKeptUpTo, HasTrueTable, IsKept}
use Rattle.irig_plant.proofs.Headline.{kept_before, kept_now}

-- ---- tables

true_tables : (t : TimelineValue) (r : ℕ) (xs : List ReaderSetup) → first_false t r xs ≡ None → All (HasTrueTable t) xs
true_tables t r [] e = All-nil (HasTrueTable t)
true_tables t r (x ∷ xs) e =
    elim (cases_Bool (is_true_table t x.table)) [
      | inl good ↦ All-cons (HasTrueTable t) x xs good (true_tables t (r + 1) xs (rw good at e))
      | inr bad ↦ absurd (let found : Some r ≡ None = rw bad at e in cc)
    ]

none_false : (t : TimelineValue) (r : ℕ) (xs : List ReaderSetup) → All (HasTrueTable t) xs → first_false t r xs ≡ None
none_false t r [] h = refl
none_false t r (x ∷ xs) h = rw (All-head (HasTrueTable t) x xs h) (none_false t (r + 1) xs (All-tail (HasTrueTable t) x xs h))

-- ---- ticks

unbroken : (b : Bool) (at : TickOfReader) → ◌≡◌ {A = Option TickOfReader} (cond b (Some at) None) None → b ≡ false
unbroken true at e = absurd cc
unbroken false at e = refl

earlier_unbroken : (s : Setup) (r : ℕ) (later earlier : List Event) → first_broken s (later ++ (Tick r ∷ earlier)) ≡ None → is_broken_now s r earlier ≡ false
earlier_unbroken s r [] earlier e = unbroken (is_broken_now s r earlier) (tick_of_reader r (ticks_of r earlier + 1)) (neither (first_broken s earlier) _ e).1
earlier_unbroken s r (Tick x ∷ later) earlier e = earlier_unbroken s r later earlier (neither (first_broken s (later ++ (Tick r ∷ earlier))) _ e).0
earlier_unbroken s r (_ ∷ later) earlier e = earlier_unbroken s r later earlier e

all_kept : (s : Setup) (ev : List Event) → first_broken s ev ≡ None → (r n : ℕ) → IsKeptUpTo s r n ev
all_kept s ev e r n = record {
  ticks = λ later earlier is low. earlier_unbroken s r later earlier (subst (λ (es : List Event). first_broken s es ≡ None) is e);
}

none_broken : (s : Setup) (ev : List Event) → ((r n : ℕ) → IsKeptUpTo s r n ev) → first_broken s ev ≡ None
none_broken s [] kept = refl
none_broken s (Tick r ∷ ev) kept =
    rw (none_broken s ev (λ x n. kept_before s x n (Tick r) ev (kept x n)), kept_now s r (ticks_of r ev + 1) ev (kept r (ticks_of r ev + 1)) (omega arith)) refl
none_broken s (e ∷ ev) kept = none_broken s ev (λ x n. kept_before s x n e ev (kept x n))

-- ---- both

both_none : (table : Option ℕ) (at : Option TickOfReader) → verdict table at ≡ Kept → (table ≡ None) × (at ≡ None)
both_none (Some r) at e = absurd cc
both_none None (Some at) e = absurd cc
both_none None None e = (refl, refl)

pub kept_is : (s : Setup) (ev : List Event) → (audit_of s ev ≡ Kept) ↔ IsKept s ev
kept_is s ev = (
  λ e. let none = both_none (first_false s.times 0 s.readers) (first_broken s ev) e in record { tables = true_tables s.times 0 s.readers none.0; ticks = all_kept s ev none.1 },
  λ kept. rw (none_false s.times 0 s.readers kept.tables, none_broken s ev kept.ticks) refl,
)
