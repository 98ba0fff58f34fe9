-- Levels are said in the order of their times.
use Rattle.std.proofs.Common.{◌≡◌, ℕ, ◌<◌, ◌≤◌, Bool, true, false, List, [], ◌∷◌, ◌++◌, Option, Some, None, refl, ap, subst, ◌∙◌, arith}
use Rattle.std.specs.Prelude.{if◌then◌else◌, ◌&&◌, nat_eq, nat_lt, ⊤, Result, Ok, Err}
use Rattle.std.specs.Option.{is_some}
use Rattle.std.proofs.Math.Nat.{le_antisymm}
use Rattle.std.proofs.lemmas.Bool.{ltb-false, ltb-true}
use Rattle.record_levels.specs.declared.limits.TimeFault.{TimeFault}
use Rattle.record_levels.specs.Limits.{EndsAt, Follows, IsWithinDay, end_ns, time_fault}
use Rattle.record_levels.proofs.LimitLaws.{allowed}
use Rattle.record_text.specs.Lines.{Line}
use Rattle.record_table.specs.declared.row.Reason.{Reason}
use Rattle.record_table.specs.declared.row.Reason.TheVariants.{NoRow}
use Rattle.record_table.specs.declared.row.Row.{Row}
use Rattle.record_table.specs.declared.row.Stand.{Stand}
use Rattle.record_table.specs.declared.now.Now.{Now}
use Rattle.record_table.specs.declared.now.Step.{Step}
use Rattle.record_table.specs.declared.now.Step.TheVariants.{Goes, Says, Refuses}
use Rattle.record_cells.specs.Remarks.{is_remark}
use Rattle.record_table.specs.Rows.{row_of}
use Rattle.record_table.specs.Changes.{Reading, Said, changes_of, counted, due, ended, heard, heard_at, heard_since, refusal, said, said_by, said_from, since, start, step, with_high}
use Rattle.record_table.specs.Changes.Said.{Ends, Refused}
use Rattle.record_table.specs.Order.{AreInOrder}

-- the time may have levels, and the last ones were said at it, or at the last time that had some
abbrev Stands : (last : Option ℕ) → Now → Type 0
Stands last now = Follows last now.time_ns × (now.levels_ns ≡ (if now.is_due then Some now.time_ns else last))

-- a step says levels that follow, and leaves the levels so
abbrev StepFits : (last : Option ℕ) → Step → Type 0
StepFits last (Goes now) = Stands last now
StepFits last (Says levels now) = Follows last levels.time_ns × Stands (Some levels.time_ns) now
StepFits last (Refuses fault) = ⊤

ends : (last : Option ℕ) (time : ℕ) → Follows last time → EndsAt last time
ends None time h = h
ends (Some last) time h = (omega (arith, h.0), h.1, h.2)

below-end : (last : Option ℕ) (time : ℕ) → Follows last time → time < end_ns
below-end None time h = h
below-end (Some last) time h = h.2

ends-in-order : (last : Option ℕ) (now : Now) → Follows last now.time_ns → AreInOrder last (said (due now) ++ Ends now.time_ns ∷ [])
ends-in-order last now h =
    elim (now.is_due) as (λ b. AreInOrder last (said (if b then Some (record { time_ns = now.time_ns; high = now.high }) else None) ++ Ends now.time_ns ∷ []))
    [ true ↦ (h, (omega arith, omega arith, below-end last now.time_ns h)) | false ↦ ends last now.time_ns h ]

ended-in-order : (last : Option ℕ) (above : ℕ) (now : Now) → Follows last now.time_ns → AreInOrder last (ended above now)
ended-in-order last above now h =
    elim (is_some now.levels_ns) as (λ b. AreInOrder last (if b then said (due now) ++ Ends now.time_ns ∷ [] else Refused (refusal above NoRow) ∷ []))
    [ true ↦ ends-in-order last now h | false ↦ tt ]

-- a later time follows too, if it is within a day of the last levels
follows-later : (last : Option ℕ) (time next : ℕ) → Follows last time → time ≤ next → next < end_ns → IsWithinDay last next → Follows last next
follows-later None time next h le below near = below
follows-later (Some last) time next h le below near = (omega (arith, h.0, le), near, below)

-- levels of this time stand so too
with-stands : (last : Option ℕ) (now : Now) (high : ℕ) → Stands last now → Stands last (with_high now high)
with-stands last now high h =
    elim (is_some now.levels_ns && nat_eq now.high high) as (λ b. Stands last (if b then now else record now { high = high; is_due = true; levels_ns = Some now.time_ns }))
    [ true ↦ h | false ↦ (h.0, refl) ]

-- the levels as they stand at another time
abbrev moved : (is_due : Bool) → (rows step start high next : ℕ) → Stand → (levels : Option ℕ) → Now
moved is_due rows step start high next stand levels = record { rows = rows; step = step; start_ns = start; stand = stand; time_ns = next; high = high; is_due = is_due; levels_ns = levels }

goes-by : (is_due is_later : Bool) (last : Option ℕ) (rows step start time high new next : ℕ) (stand : Stand) (levels : Option ℕ) → nat_lt time next ≡ is_later
    → Follows last time → levels ≡ (if is_due then Some time else last) → time ≤ next → next < end_ns → IsWithinDay levels next
    → StepFits last (if is_due && is_later then Says (record { time_ns = time; high = high }) (with_high (moved false rows step start high next stand levels) new)
    else Goes (with_high (moved is_due rows step start high next stand levels) new))
goes-by true true last rows step start time high new next stand levels later h is le below near =
    let P : Option ℕ → Type 0 = λ l. IsWithinDay l next in
    (h, with-stands (Some time) (moved false rows step start high next stand levels) new ((ltb-true time next later, subst P is near, below), is))
goes-by true false last rows step start time high new next stand levels later h is le below near =
    let same : time ≡ next = le_antisymm le (ltb-false time next later) in
    let P : ℕ → Type 0 = λ t. Follows last t in
    with-stands last (moved true rows step start high next stand levels) new (subst P same h, is ∙ ap Some same)
goes-by false true last rows step start time high new next stand levels later h is le below near =
    let P : Option ℕ → Type 0 = λ l. IsWithinDay l next in
    with-stands last (moved false rows step start high next stand levels) new (follows-later last time next h le below (subst P is near), is)
goes-by false false last rows step start time high new next stand levels later h is le below near =
    let P : Option ℕ → Type 0 = λ l. IsWithinDay l next in
    with-stands last (moved false rows step start high next stand levels) new (follows-later last time next h le below (subst P is near), is)

at-fits : (last : Option ℕ) (now : Now) (line high next : ℕ) (fault : Option TimeFault) → time_fault now.time_ns now.levels_ns next ≡ fault
    → Stands last now → StepFits last (heard_at now line high next fault)
at-fits last now line high next (Some fault) e h = tt
at-fits last now line high next None e h =
    let a = allowed now.time_ns now.levels_ns next e in
    goes-by now.is_due (nat_lt now.time_ns next) last now.rows now.step now.start_ns now.time_ns now.high high next now.stand now.levels_ns refl h.0 h.1 a.0 a.1 a.2

since-fits : (last : Option ℕ) (now : Now) (line high : ℕ) (time : Result ℕ TimeFault) → Stands last now → StepFits last (heard_since now line high time)
since-fits last now line high (Err fault) h = tt
since-fits last now line high (Ok next) h = at-fits last now line high next (time_fault now.time_ns now.levels_ns next) refl h

heard-fits : (last : Option ℕ) (now : Now) (line : ℕ) (row : Result Row Reason) → Stands last now → StepFits last (heard now line row)
heard-fits last now line (Err reason) h = tt
heard-fits last now line (Ok row) h = since-fits last (counted now row) line row.stand.high (since (counted now row).start_ns row.when) h

step-fits : (last : Option ℕ) (reading : Reading) (now : Now) (line : Line) → Stands last now → StepFits last (step reading now line)
step-fits last reading now line h =
    elim (is_remark line.text) as (λ b. StepFits last (if b then Goes now else heard now line.number (row_of reading.plan reading.chosen now line.text)))
    [ true ↦ h | false ↦ heard-fits last now line.number (row_of reading.plan reading.chosen now line.text) h ]

by-step : (last : Option ℕ) (step : Step) (others : Now → List Said) → StepFits last step
    → ((next : Now) (newest : Option ℕ) → Stands newest next → AreInOrder newest (others next)) → AreInOrder last (said_by step others)
by-step last (Goes now) others h next = next now last h
by-step last (Says levels now) others h next = (h.0, next now (Some levels.time_ns) h.1)
by-step last (Refuses fault) others h next = tt

from-in-order : (reading : Reading) (now : Now) (lines : List Line) (last : Option ℕ) → Stands last now → AreInOrder last (said_from reading now lines)
from-in-order reading now [] last h = ended-in-order last reading.above now h.0
from-in-order reading now (line ∷ lines) last h =
    by-step last (step reading now line) (λ next. said_from reading next lines) (step-fits last reading now line h)
    (λ next newest fits. from-in-order reading next lines newest fits)

pub in-order : (reading : Reading) (lines : List Line) → AreInOrder None (changes_of reading lines)
in-order reading lines = from-in-order reading start lines None (omega arith, refl)
