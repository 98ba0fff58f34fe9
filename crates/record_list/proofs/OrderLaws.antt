-- Levels are said in the order of their times.
use Rattle.std.proofs.Common.{◌≡◌, ℕ, zero, suc, ◌+◌, ◌-◌, ◌≤◌, Bool, true, false, List, [], ◌∷◌, ◌++◌, Option, Some, None, refl, arith, length}
use Rattle.std.specs.Prelude.{if◌then◌else◌, ⊤, Result, Ok, Err, nat_eq, nat_lt, nat_le}
use Rattle.std.proofs.lemmas.Bool.{leb-true}
use Rattle.record_text.specs.Lines.{Line}
use Rattle.record_cells.specs.Remarks.{is_remark}
use Rattle.record_list.specs.declared.now.Now.{Now}
use Rattle.record_list.specs.declared.pulse.Pulse.{Pulse}
use Rattle.record_list.specs.declared.row.Reason.{Reason}
use Rattle.record_list.specs.declared.row.Reason.TheVariants.{Many, NoRow}
use Rattle.record_list.specs.declared.row.Row.{Row}
use Rattle.record_list.specs.declared.row.Span.{Span}
use Rattle.record_list.specs.Pulses.{high_at, unended}
use Rattle.record_list.specs.Rows.{bit_of, row_of, span_of}
use Rattle.record_list.specs.Changes.{Reading, Said, Step, changes_of, ended, greater, heard, is_last, kept, kept_by, placed, placed_at, refusal, said, said_from, said_until, said_while, start, step, unless_refuses, until}
use Rattle.record_list.specs.Changes.Said.{Ends, Refused}
use Rattle.record_list.specs.Changes.Step.{Goes, Refuses}
use Rattle.record_list.specs.Order.{AreInOrder, IsAfter}

-- what is said from here on is in order after levels that were said before here
abbrev GoesOn : (Now → List Said) → Type 0
GoesOn others = (next : Now) (last : Option ℕ) → IsAfter last next.at_ns → AreInOrder last (others next)

by-test : (b : Bool) (last : Option ℕ) (at high : ℕ) (others : List Said) → IsAfter last at
    → ((newest : Option ℕ) → IsAfter newest (at + 1) → AreInOrder newest others)
    → AreInOrder last (said (if b then None else Some (record { time_ns = at; high = high })) ++ others)
by-test true None at high others h goes = goes None tt
by-test true (Some last) at high others h goes = goes (Some last) (omega (arith, h))
by-test false last at high others h goes = (h, goes (Some at) (omega arith))

while-in-order : (count : ℕ) (pulses : List Pulse) (now : Now) (last : Option ℕ) (others : Now → List Said)
    → IsAfter last now.at_ns → GoesOn others → AreInOrder last (said_while count pulses now others)
while-in-order zero pulses now last others h goes = goes now last h
while-in-order (suc n) pulses now last others h goes =
    let high = high_at pulses now.at_ns in
    by-test (is_last now.high high) last now.at_ns high
    (said_while n pulses (record now { at_ns = now.at_ns + 1; high = Some high }) others) h
    (λ newest after. while-in-order n pulses (record now { at_ns = now.at_ns + 1; high = Some high }) newest others after goes)

-- a step does not go back
abbrev StepFits : (at : ℕ) → Step → Type 0
StepFits at (Goes pulses now) = at ≤ now.at_ns
StepFits at (Refuses fault) = ⊤

le-greater : (a b : ℕ) → a ≤ greater a b
le-greater a b = elim (nat_le a b) as (λ t. nat_le a b ≡ t → a ≤ (if t then b else a)) [ true ↦ λ e. leb-true a b e | false ↦ λ e. omega arith ] refl

heard-fits : (now : Now) (span : Span) → now.at_ns ≤ (heard now span).at_ns
heard-fits now span = elim (now.is_begun) as (λ b. now.at_ns ≤ (if b then now.at_ns else greater now.at_ns (span.from_ns - 1000000000)))
    [ true ↦ omega arith | false ↦ le-greater now.at_ns (span.from_ns - 1000000000) ]

kept-fits : (at : ℕ) (pulses : List Pulse) (now : Now) (line : ℕ) (pulse : Pulse) → at ≤ now.at_ns → StepFits at (kept pulses now line pulse)
kept-fits at pulses now line pulse h =
    elim (nat_eq pulse.bit 0) as (λ b. StepFits at (if b then Goes pulses now else (if nat_lt (length pulses) 2048 then Goes (pulses ++ pulse ∷ []) now else Refuses (refusal line Many))))
    [ true ↦ h | false ↦ elim (nat_lt (length pulses) 2048) as (λ c. StepFits at (if c then Goes (pulses ++ pulse ∷ []) now else Refuses (refusal line Many))) [ true ↦ h | false ↦ tt ] ]

span-fits : (pulses : List Pulse) (now : Now) (line bit : ℕ) (span : Result Span Reason) → StepFits now.at_ns (kept_by pulses line (placed_at now bit span))
span-fits pulses now line bit (Err reason) = tt
span-fits pulses now line bit (Ok span) =
    kept-fits now.at_ns pulses (heard now span) line (record { bit = bit; from_ns = span.from_ns; to_ns = span.to_ns }) (heard-fits now span)

row-fits : (ports : List ℕ) (pulses : List Pulse) (now : Now) (line : ℕ) (row : Result Row Reason) → StepFits now.at_ns (kept_by pulses line (placed ports now row))
row-fits ports pulses now line (Err reason) = tt
row-fits ports pulses now line (Ok row) = span-fits pulses now line (bit_of ports row.port) (span_of now row)

step-fits : (ports : List ℕ) (pulses : List Pulse) (now : Now) (line : Line) → StepFits now.at_ns (step ports pulses now line)
step-fits ports pulses now line =
    elim (is_remark line.text) as (λ b. StepFits now.at_ns (if b then Goes pulses now else kept_by (unended pulses now.at_ns) line.number (placed ports now (row_of line.text))))
    [ true ↦ omega arith | false ↦ row-fits ports (unended pulses now.at_ns) now line.number (row_of line.text) ]

after-on : (last : Option ℕ) (at next : ℕ) → IsAfter last at → at ≤ next → IsAfter last next
after-on None at next h le = tt
after-on (Some last) at next h le = omega (arith, h, le)

by-step : (last : Option ℕ) (at : ℕ) (step : Step) (others : List Pulse → Now → List Said) → IsAfter last at → StepFits at step
    → ((pulses : List Pulse) → GoesOn (others pulses)) → AreInOrder last (unless_refuses step others)
by-step last at (Goes pulses now) others h fits goes = goes pulses now last (after-on last at now.at_ns h fits)
by-step last at (Refuses fault) others h fits goes = tt

ended-in-order : (above : ℕ) (pulses : List Pulse) → GoesOn (ended above pulses)
ended-in-order above pulses next last h =
    elim (next.is_begun) as (λ b. AreInOrder last (if b then said_until 3600000000000000 pulses next (λ n. Ends n.end_ns ∷ []) else Refused (refusal above NoRow) ∷ []))
    [ true ↦ while-in-order (3600000000000000 - next.at_ns) pulses next last (λ n. Ends n.end_ns ∷ []) h (λ n newest after. tt) | false ↦ tt ]

from-in-order : (reading : Reading) (lines : List Line) (pulses : List Pulse) → GoesOn (λ now. said_from reading pulses now lines)
from-in-order reading [] pulses now last h =
    while-in-order (until now - now.at_ns) pulses now last (ended reading.above pulses) h (ended-in-order reading.above pulses)
from-in-order reading (line ∷ lines) pulses now last h =
    let others : Now → List Said = λ next. unless_refuses (step reading.ports pulses next line) (λ more later. said_from reading more later lines) in
    while-in-order (until now - now.at_ns) pulses now last others h
    (λ next newest after. by-step newest next.at_ns (step reading.ports pulses next line) (λ more later. said_from reading more later lines) after (step-fits reading.ports pulses next line)
    (λ more. from-in-order reading lines more))

pub in-order : (reading : Reading) (lines : List Line) → AreInOrder None (changes_of reading lines)
in-order reading lines = from-in-order reading lines [] start None tt
