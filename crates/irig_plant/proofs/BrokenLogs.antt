-- What stands in a log whose premises first break at some tick: what comes before it is kept, and
-- comes first in the log.
use Rattle.std.proofs.Common.{◌≡◌, ℕ, ◌+◌, ◌<◌, ◌≤◌, ◌==◌, Bool, true, false, cond, List, [], ◌∷◌, ◌++◌, Option, Some, None, refl, ap, sym, subst, ◌∙◌, append_assoc, append-nil, arith, inl, inr}
use Rattle.std.specs.List.{AllByRecursion}
use Rattle.std.specs.Option.{option_or}
use Rattle.std.proofs.lemmas.Bool.{cases_Bool}
use Rattle.std.proofs.lemmas.List.Elements.{recursion_from_All}
use Rattle.irig_time.specs.declared.second.UtcSecond.{UtcSecond}
use Rattle.irig_time.specs.Timelines.{second_at}
use Rattle.irig_time.specs.TimelineFaults.{IsTimeline}
use Rattle.irig_plant.specs.declared.audit.Audit.TheVariants.{Kept, Broken}
use Rattle.irig_plant.specs.declared.entry.Entry.{Entry}
use Rattle.irig_plant.specs.declared.event.Event.{Event}
use Rattle.irig_plant.specs.declared.event.Event.TheVariants.{GenEdge, Tick, Carry, Damage, Replay, Raw, Fault, Repair, Restart}
use Rattle.irig_plant.specs.Schedule.{Setup, ticks_of, log_of, entry_of}
use Rattle.irig_plant.specs.Audits.{first_false, is_broken_now, TickOfReader, tick_of_reader, first_broken, verdict, audit_of}
use Rattle.irig_plant.specs.Premises.{IsKeptUpTo, IsKept}
use Rattle.irig_plant.specs.Truth.{AnnouncesTruth, IsTruthful}
use Rattle.irig_plant.proofs.AuditLaws.{kept_is}
use Rattle.irig_plant.proofs.CourseLaws.{ticks_grow}
use Rattle.irig_plant.proofs.Headline.{harmless}
use Rattle.irig_plant.proofs.KeptLaws.{starts_late, table_true, kept_log_is_true}

-- ---- where the premises first break

-- tick n of r comes after these events, which keep the premises
pub record BreaksFirst (s : Setup) (ev : List Event) (r n : ℕ) : Type 0 where
  pub later : List Event
  pub earlier : List Event
  pub is : ev ≡ later ++ (Tick r ∷ earlier)
  pub edge : ticks_of r earlier + 1 ≡ n
  pub kept : IsKept s earlier

abbrev BreaksFirstAt : Setup → List Event → TickOfReader → Type 0
BreaksFirstAt s ev at = BreaksFirst s ev at.reader at.edge

one_later : (s : Setup) (e : Event) (ev : List Event) (at : TickOfReader) → BreaksFirstAt s ev at → BreaksFirstAt s (e ∷ ev) at
one_later s e ev at h = record { later = e ∷ h.later; earlier = h.earlier; is = ap (λ es. e ∷ es) h.is; edge = h.edge; kept = h.kept }

here_if : (s : Setup) (r : ℕ) (ev : List Event) (at : TickOfReader) (b : Bool) → audit_of s ev ≡ Kept → ◌≡◌ {A = Option TickOfReader} (cond b (Some (tick_of_reader r (ticks_of r ev + 1))) None) (Some at) → BreaksFirstAt s (Tick r ∷ ev) at
here_if s r ev at false kept e = absurd cc
here_if s r ev at true kept e =
    let same : tick_of_reader r (ticks_of r ev + 1) ≡ at = cc in
    subst (BreaksFirstAt s (Tick r ∷ ev)) same (record { later = []; earlier = ev; is = refl; edge = refl; kept = (kept_is s ev).0 kept })

module _ (s : Setup) (tables : first_false s.times 0 s.readers ≡ None) where
  tick_breaks : (r : ℕ) (ev : List Event) (at : TickOfReader) (o : Option TickOfReader) → first_broken s ev ≡ o → (first_broken s ev ≡ Some at → BreaksFirstAt s ev at)
      → option_or o (cond (is_broken_now s r ev) (Some (tick_of_reader r (ticks_of r ev + 1))) None) ≡ Some at → BreaksFirstAt s (Tick r ∷ ev) at
  tick_breaks r ev at (Some x) is before e = one_later s (Tick r) ev at (before (is ∙ e))
  tick_breaks r ev at None is before e = here_if s r ev at (is_broken_now s r ev) (rw (tables, is) refl) e

  breaks_first : (ev : List Event) (at : TickOfReader) → first_broken s ev ≡ Some at → BreaksFirstAt s ev at
  breaks_first [] at e = absurd cc
  breaks_first (Tick r ∷ ev) at e = tick_breaks r ev at (first_broken s ev) refl (breaks_first ev at) e
  breaks_first (GenEdge g ∷ ev) at e = one_later s (GenEdge g) ev at (breaks_first ev at e)
  breaks_first (Carry g r ∷ ev) at e = one_later s (Carry g r) ev at (breaks_first ev at e)
  breaks_first (Damage g r i width ∷ ev) at e = one_later s (Damage g r i width) ev at (breaks_first ev at e)
  breaks_first (Replay g r edge ∷ ev) at e = one_later s (Replay g r edge) ev at (breaks_first ev at e)
  breaks_first (Raw g r widths ∷ ev) at e = one_later s (Raw g r widths) ev at (breaks_first ev at e)
  breaks_first (Fault g kind ∷ ev) at e = one_later s (Fault g kind) ev at (breaks_first ev at e)
  breaks_first (Repair g ∷ ev) at e = one_later s (Repair g) ev at (breaks_first ev at e)
  breaks_first (Restart r ∷ ev) at e = one_later s (Restart r) ev at (breaks_first ev at e)

broken_place : (table : Option ℕ) (at : Option TickOfReader) (r n : ℕ) → verdict table at ≡ Broken r n → (table ≡ None) × (at ≡ Some (tick_of_reader r n))
broken_place (Some x) at r n e = absurd cc
broken_place None None r n e = absurd cc
broken_place None (Some at) r n e =
    let reader : at.reader ≡ r = cc in
    let edge : at.edge ≡ n = cc in
    (refl, ap (λ r. Some (tick_of_reader r at.edge)) reader ∙ ap (λ n. Some (tick_of_reader r n)) edge)

pub breaks_at : (s : Setup) (ev : List Event) (r n : ℕ) → audit_of s ev ≡ Broken r n → BreaksFirst s ev r n
breaks_at s ev r n e =
    let place = broken_place (first_false s.times 0 s.readers) (first_broken s ev) r n e in
    breaks_first s place.0 ev (tick_of_reader r n) place.1

-- ---- how a log grows

ticks_more : (r x : ℕ) (ev : List Event) → ticks_of r ev ≤ ticks_of r (Tick x ∷ ev)
ticks_more r x ev = elim (cases_Bool (x == r)) [
  | inl here ↦ rw here (omega arith)
  | inr other ↦ rw other (omega arith)
]

-- the log of these events is the one of fewer, and entries of later edges
pub record Grows (s : Setup) (fewer ev : List Event) : Type 0 where
  pub entries : List Entry
  pub log : log_of s ev ≡ log_of s fewer ++ entries
  pub late : AllByRecursion (λ (e : Entry). ticks_of e.reader fewer < e.edge) entries

one_pushed : {X : Type 0} (P : X → Type 0) (xs : List X) (x : X) → AllByRecursion P xs → P x → AllByRecursion P (xs ++ x ∷ [])
one_pushed P [] x h p = (p, tt)
one_pushed P (y ∷ ys) x h p = (h.0, one_pushed P ys x h.1 p)

tick_grows : (s : Setup) (fewer later : List Event) (x : ℕ) → Grows s fewer (later ++ fewer) → Grows s fewer (Tick x ∷ (later ++ fewer))
tick_grows s fewer later x h =
    let ev = later ++ fewer in
    record {
      entries = h.entries ++ entry_of s x ev ∷ [];
      log = ap (λ es. es ++ entry_of s x ev ∷ []) h.log ∙ append_assoc (log_of s fewer) h.entries (entry_of s x ev ∷ []);
      late = one_pushed (λ (e : Entry). ticks_of e.reader fewer < e.edge) h.entries (entry_of s x ev) h.late (omega (arith, ticks_grow x later fewer));
    }

silent_grows : (s : Setup) (fewer : List Event) (e : Event) (ev : List Event) → log_of s (e ∷ ev) ≡ log_of s ev → Grows s fewer ev → Grows s fewer (e ∷ ev)
silent_grows s fewer e ev log h = record { entries = h.entries; log = log ∙ h.log; late = h.late }

pub log_grows : (s : Setup) (later fewer : List Event) → Grows s fewer (later ++ fewer)
log_grows s [] fewer = record { entries = []; log = sym (append-nil (log_of s fewer)); late = tt }
log_grows s (Tick x ∷ later) fewer = tick_grows s fewer later x (log_grows s later fewer)
log_grows s (GenEdge g ∷ later) fewer = silent_grows s fewer (GenEdge g) (later ++ fewer) refl (log_grows s later fewer)
log_grows s (Carry g x ∷ later) fewer = silent_grows s fewer (Carry g x) (later ++ fewer) refl (log_grows s later fewer)
log_grows s (Damage g x i width ∷ later) fewer = silent_grows s fewer (Damage g x i width) (later ++ fewer) refl (log_grows s later fewer)
log_grows s (Replay g x edge ∷ later) fewer = silent_grows s fewer (Replay g x edge) (later ++ fewer) refl (log_grows s later fewer)
log_grows s (Raw g x widths ∷ later) fewer = silent_grows s fewer (Raw g x widths) (later ++ fewer) refl (log_grows s later fewer)
log_grows s (Fault g kind ∷ later) fewer = silent_grows s fewer (Fault g kind) (later ++ fewer) refl (log_grows s later fewer)
log_grows s (Repair g ∷ later) fewer = silent_grows s fewer (Repair g) (later ++ fewer) refl (log_grows s later fewer)
log_grows s (Restart x ∷ later) fewer = silent_grows s fewer (Restart x) (later ++ fewer) refl (log_grows s later fewer)

-- no entry is of an edge to come
early : (s : Setup) (ev more : List Event) → ((r : ℕ) → ticks_of r ev ≤ ticks_of r more) → AllByRecursion (λ (e : Entry). e.edge ≤ ticks_of e.reader ev) (log_of s ev) → AllByRecursion (λ (e : Entry). e.edge ≤ ticks_of e.reader more) (log_of s ev)
early s ev more few h = go (log_of s ev) h
  where
    go : (es : List Entry) → AllByRecursion (λ (e : Entry). e.edge ≤ ticks_of e.reader ev) es → AllByRecursion (λ (e : Entry). e.edge ≤ ticks_of e.reader more) es
    go [] h = tt
    go (e ∷ es) h = (omega (arith, h.0, few e.reader), go es h.1)

ticks_next : (r : ℕ) (ev : List Event) → ticks_of r ev + 1 ≤ ticks_of r (Tick r ∷ ev)
ticks_next r ev = search arith

pub edges_early : (s : Setup) (ev : List Event) → AllByRecursion (λ (e : Entry). e.edge ≤ ticks_of e.reader ev) (log_of s ev)
edges_early s [] = tt
edges_early s (Tick x ∷ ev) =
    one_pushed (λ (e : Entry). e.edge ≤ ticks_of e.reader (Tick x ∷ ev)) (log_of s ev) (entry_of s x ev) (early s ev (Tick x ∷ ev) (λ r. ticks_more r x ev) (edges_early s ev)) (ticks_next x ev)
edges_early s (GenEdge g ∷ ev) = edges_early s ev
edges_early s (Carry g r ∷ ev) = edges_early s ev
edges_early s (Damage g r i width ∷ ev) = edges_early s ev
edges_early s (Replay g r edge ∷ ev) = edges_early s ev
edges_early s (Raw g r widths ∷ ev) = edges_early s ev
edges_early s (Fault g kind ∷ ev) = edges_early s ev
edges_early s (Repair g ∷ ev) = edges_early s ev
edges_early s (Restart r ∷ ev) = edges_early s ev

-- ---- the reader's own premise, before its first broken tick

kept_along : (s : Setup) (r m : ℕ) (later earlier : List Event) → m ≤ ticks_of r earlier → IsKeptUpTo s r m earlier → IsKeptUpTo s r m (later ++ earlier)
kept_along s r m [] earlier low kept = kept
kept_along s r m (e ∷ later) earlier low kept =
    (harmless s r m e (later ++ earlier) (λ is. omega (arith, low, ticks_grow r later earlier))).1 (kept_along s r m later earlier low kept)

-- below the edge n of r an entry of r is true
pub record IsTrueBelow (s : Setup) (r n : ℕ) (e : Entry) : Type 0 where
  pub second : e.reader ≡ r → e.edge < n → (u : UtcSecond) → e.report.announce ≡ Some u → second_at s.times e.edge ≡ Some u

pub true_below : (s : Setup) (ev : List Event) (r n : ℕ) (e : Entry) → IsTimeline s.times → BreaksFirst s ev r n → AnnouncesTruth s ev e → IsTrueBelow s r n e
true_below s ev r n e sound h truth = record {
  second = λ same low u announces.
      let below : e.edge ≤ ticks_of r h.earlier = omega (arith, low, h.edge) in
      let kept : IsKeptUpTo s r e.edge (h.later ++ (Tick r ∷ h.earlier)) =
      kept_along s r e.edge h.later (Tick r ∷ h.earlier) (omega (arith, below, ticks_more r r h.earlier)) (kept_along s r e.edge (Tick r ∷ []) h.earlier below (h.kept.ticks r e.edge)) in
      truth.second (record {
        true_table = table_true s.times s.readers e.reader (starts_late s.times sound) h.kept.tables;
        kept = subst (λ r. IsKeptUpTo s r e.edge ev) (sym same) (subst (IsKeptUpTo s r e.edge) (sym h.is) kept);
      }) u announces;
}

-- ---- the log before and after that tick

-- the entries before it are true, of r only those before it are of an earlier edge, and only those
-- after it of a later one
pub record SplitsLog (s : Setup) (ev : List Event) (r n : ℕ) : Type 0 where
  pub first : List Entry
  pub entry : Entry
  pub rest : List Entry
  pub log : log_of s ev ≡ first ++ entry ∷ rest
  pub edge : entry.edge ≡ n
  pub true_first : AllByRecursion (IsTruthful s.times) first
  pub early : AllByRecursion (λ (e : Entry). e.reader ≡ r → e.edge < n) first
  pub late : AllByRecursion (λ (e : Entry). e.reader ≡ r → n < e.edge) rest

pub each_by : {X : Type 0} (P Q : X → Type 0) → ((x : X) → P x → Q x) → (xs : List X) → AllByRecursion P xs → AllByRecursion Q xs
each_by P Q f [] h = tt
each_by P Q f (x ∷ xs) h = (f x h.0, each_by P Q f xs h.1)

pub splits_log : (s : Setup) (ev : List Event) (r n : ℕ) → IsTimeline s.times → BreaksFirst s ev r n → SplitsLog s ev r n
splits_log s ev r n sound h =
    let before = h.earlier in
    let grown = log_grows s h.later (Tick r ∷ before) in
    record {
      first = log_of s before;
      entry = entry_of s r before;
      rest = grown.entries;
      log = ap (log_of s) h.is ∙ grown.log ∙ append_assoc (log_of s before) (entry_of s r before ∷ []) grown.entries;
      edge = h.edge;
      true_first = recursion_from_All (IsTruthful s.times) (log_of s before) (kept_log_is_true s before sound h.kept);
      early = each_by (λ (e : Entry). e.edge ≤ ticks_of e.reader before) (λ (e : Entry). e.reader ≡ r → e.edge < n)
          (λ e low same. omega (arith, low, ap (λ r. ticks_of r before) same, h.edge)) (log_of s before) (edges_early s before);
      late = each_by (λ (e : Entry). ticks_of e.reader (Tick r ∷ before) < e.edge) (λ (e : Entry). e.reader ≡ r → n < e.edge)
          (λ e high same. omega (arith, high, ap (λ r'. ticks_of r' (Tick r ∷ before)) same, ticks_next r before, h.edge)) grown.entries grown.late;
    }
