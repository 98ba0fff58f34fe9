-- Levels are said in the order of their times.
use Rattle.std.proofs.Common.{◌≡◌, ℕ, ◌<◌, ◌≤◌, Bool, true, false, List, [], ◌∷◌, ◌++◌, Option, Some, None, refl, ap, subst, ◌∙◌, arith}
use Rattle.std.specs.Prelude.{if◌then◌else◌, ◌&&◌, nat_lt, ⊤}
use Rattle.std.proofs.Math.Nat.{le_antisymm}
use Rattle.std.proofs.lemmas.Bool.{ltb-false, ltb-true}
use Rattle.record_levels.specs.declared.limits.TimeFault.{TimeFault}
use Rattle.record_levels.specs.Limits.{EndsAt, Follows, IsWithinDay, end_ns, time_fault}
use Rattle.record_levels.proofs.LimitLaws.{allowed}
use Rattle.record_text.specs.Words.{Word}
use Rattle.record_vcd.specs.declared.unit.Unit.{Unit}
use Rattle.record_vcd.specs.declared.meaning.Meaning.{Meaning}
use Rattle.record_vcd.specs.declared.meaning.Meaning.TheVariants.{Time, BadTime, Level, Nothing}
use Rattle.record_vcd.specs.declared.now.Now.{Now}
use Rattle.record_vcd.specs.declared.now.Step.{Step}
use Rattle.record_vcd.specs.declared.now.Step.TheVariants.{Goes, Says, Refuses}
use Rattle.record_vcd.specs.declared.meaning.Skip.TheVariants.{Nothing as NoSkip}
use Rattle.record_vcd.specs.Meanings.{meaning, outside}
use Rattle.record_vcd.specs.Changes.{Said, changes_of, due, heard, said, said_by, said_from, start, time_by}
use Rattle.record_vcd.specs.Changes.Said.{Ends}
use Rattle.record_vcd.specs.Order.{AreInOrder}

-- the time may have levels, and the last ones were said at it, or at the last time that had some
abbrev Stands : (last : Option ℕ) → Now → Type 0
Stands last now = Follows last now.time_ns × (now.levels_ns ≡ (if now.is_due then Some now.time_ns else last))

-- a step says levels that follow, and leaves the levels so
abbrev StepFits : (last : Option ℕ) → Step → Type 0
StepFits last (Goes now) = Stands last now
StepFits last (Says levels now) = Follows last levels.time_ns × Stands (Some levels.time_ns) now
StepFits last (Refuses fault) = ⊤

ends : (last : Option ℕ) (time : ℕ) → Follows last time → EndsAt last time
ends None time h = h
ends (Some last) time h = (omega (arith, h.0), h.1, h.2)

below-end : (last : Option ℕ) (time : ℕ) → Follows last time → time < end_ns
below-end None time h = h
below-end (Some last) time h = h.2

ends-in-order : (last : Option ℕ) (now : Now) → Follows last now.time_ns → AreInOrder last (said (due now) ++ Ends now.time_ns ∷ [])
ends-in-order last now h =
    elim (now.is_due) as (λ b. AreInOrder last (said (if b then Some (record { time_ns = now.time_ns; high = now.high }) else None) ++ Ends now.time_ns ∷ []))
    [ true ↦ (h, (omega arith, omega arith, below-end last now.time_ns h)) | false ↦ ends last now.time_ns h ]

-- a later time follows too, if it is within a day of the last levels
follows-later : (last : Option ℕ) (time next : ℕ) → Follows last time → time ≤ next → next < end_ns → IsWithinDay last next → Follows last next
follows-later None time next h le below near = below
follows-later (Some last) time next h le below near = (omega (arith, h.0, le), near, below)

goes-by : (is_due is_later : Bool) (last : Option ℕ) (time high next : ℕ) (levels : Option ℕ) → nat_lt time next ≡ is_later
    → Follows last time → levels ≡ (if is_due then Some time else last) → time ≤ next → next < end_ns → IsWithinDay levels next
    → StepFits last (if is_due && is_later then Says (record { time_ns = time; high = high }) (record { time_ns = next; high = high; is_due = false; levels_ns = levels })
    else Goes (record { time_ns = next; high = high; is_due = is_due; levels_ns = levels }))
goes-by true true last time high next levels later h is le below near =
    let P : Option ℕ → Type 0 = λ l. IsWithinDay l next in
    (h, ((ltb-true time next later, subst P is near, below), is))
goes-by true false last time high next levels later h is le below near =
    let same : time ≡ next = le_antisymm le (ltb-false time next later) in
    let P : ℕ → Type 0 = λ t. Follows last t in
    (subst P same h, is ∙ ap Some same)
goes-by false true last time high next levels later h is le below near =
    let P : Option ℕ → Type 0 = λ l. IsWithinDay l next in
    (follows-later last time next h le below (subst P is near), is)
goes-by false false last time high next levels later h is le below near =
    let P : Option ℕ → Type 0 = λ l. IsWithinDay l next in
    (follows-later last time next h le below (subst P is near), is)

time-fits : (last : Option ℕ) (now : Now) (line next : ℕ) (fault : Option TimeFault) → time_fault now.time_ns now.levels_ns next ≡ fault
    → Stands last now → StepFits last (time_by now line fault next)
time-fits last now line next (Some fault) e h = tt
time-fits last now line next None e h =
    let a = allowed now.time_ns now.levels_ns next e in
    goes-by now.is_due (nat_lt now.time_ns next) last now.time_ns now.high next now.levels_ns refl h.0 h.1 a.0 a.1 a.2

heard-fits : (last : Option ℕ) (now : Now) (line : ℕ) (said : Meaning) → Stands last now → StepFits last (heard now line said)
heard-fits last now line (Time next) h = time-fits last now line next (time_fault now.time_ns now.levels_ns next) refl h
heard-fits last now line BadTime h = tt
heard-fits last now line (Level place high) h = (h.0, refl)
heard-fits last now line Nothing h = h

by-step : (last : Option ℕ) (step : Step) (others : Now → List Said) → StepFits last step
    → ((next : Now) (newest : Option ℕ) → Stands newest next → AreInOrder newest (others next)) → AreInOrder last (said_by step others)
by-step last (Goes now) others h next = next now last h
by-step last (Says levels now) others h next = (h.0, next now (Some levels.time_ns) h.1)
by-step last (Refuses fault) others h next = tt

from-in-order : (chosen : List (List ℕ)) (unit : Unit) (now : Now) (words : List Word) (last : Option ℕ) → Stands last now
    → AreInOrder last (said_from chosen unit now words)
from-in-order chosen unit now [] last h = ends-in-order last now h.0
from-in-order chosen unit now (word ∷ words) last h =
    by-step last (heard now word.line (meaning chosen unit word.text)) (λ next. said_from chosen unit next words)
    (heard-fits last now word.line (meaning chosen unit word.text) h)
    (λ next newest fits. from-in-order chosen unit next words newest fits)

pub in-order : (chosen : List (List ℕ)) (unit : Unit) (words : List Word) → AreInOrder None (changes_of chosen unit words)
in-order chosen unit words = from-in-order chosen unit start (outside NoSkip words) None (omega arith, refl)
