-- What a tick tells of a second.
use Rattle.std.proofs.Common.{◌≡◌, ◌∙◌, ℕ, ◌%◌, ◌^◌, List, ◌∷◌, Option, Some, None, refl, sym, ap, subst}
use Rattle.irig_port.specs.declared.port.Port.{Ghosts}
use Rattle.irig_time.specs.declared.claim.Claim.{Claim}
use Rattle.irig_lines.specs.declared.lines.Lines.{Lines}
use Rattle.irig_timekeeper.specs.declared.clock.Beat.{Beat}
use Rattle.irig_timekeeper.specs.declared.keeper.Timekeeper.{Timekeeper}
use Rattle.irig_timekeeper.specs.Carried.{IsCarried}
use Rattle.irig_timekeeper.specs.Clock.{claim_voted}
use Rattle.irig_timekeeper.specs.Keepers.{ForKeeping, IsKeeping}
use Rattle.irig_timekeeper.specs.Keeping.{answer_at, new_keeping, vote_at, wait_at}
use Rattle.irig_timekeeper.specs.Life.{Call, AreInOrder, after_calls, pulses_on}
use Rattle.irig_timekeeper.specs.Life.Call.{Tick}
use Rattle.irig_timekeeper.specs.Lived.{MadeOf, HasLived, keeping_after}
use Rattle.record_lines.specs.declared.told.ToldSecond.{ToldSecond}
use Rattle.record_lines.specs.ToldSeconds.{IsToldAfter, edge_by, told_by}
use Rattle.record_lines.proofs.EdgeLaws.{edge_told}

-- a timekeeper is what its calls make of a new one
pub keeping_is : {P : Type 0} {g : Ghosts P} (keeper : Timekeeper P g) (made : MadeOf) (calls : List Call) → HasLived keeper made calls → IsKeeping keeper (keeping_after made calls)
keeping_is keeper made calls lived =
    subst (λ (lines : Lines). IsKeeping keeper (after_calls (new_keeping made.rules made.clock made.table lines) calls)) lived.none lived.is

-- so is how long it waits
pub asks : {P : Type 0} {g : Ghosts P} (keeper : Timekeeper P g) (made : MadeOf) (calls : List Call) → HasLived keeper made calls → (wait low now : ℕ) → ForKeeping keeper (λ k. wait ≡ wait_at k low) → low ≡ now % 2 ^ 32
    → wait ≡ wait_at (keeping_after made calls) (now % 2 ^ 32)
asks keeper made calls lived wait low now value is =
    value (keeping_after made calls) (keeping_is keeper made calls lived) ∙ ap (wait_at (keeping_after made calls)) is

pub told_none : (at : ℕ) (beat : Option Beat) (vote : Option Claim) → told_by at beat vote ≡ None → beat ≡ None
told_none at None vote e = refl
told_none at (Some beat) vote e = absurd cc

pub told_second : {P : Type 0} {g : Ghosts P} (keeper : Timekeeper P g) (made : MadeOf) (start at : ℕ) (calls : List Call) → HasLived keeper made calls → AreInOrder start made.clock.redundancy (Tick at ∷ calls)
    → (beat : Option Beat) (vote : Option Claim) → beat ≡ answer_at (keeping_after made calls) (at % 2 ^ 32) → vote ≡ claim_voted (vote_at (keeping_after made calls) (at % 2 ^ 32))
    → ((claim : Claim) → vote ≡ Some claim → IsCarried made.clock made.rules claim at (λ line. pulses_on line calls))
    → (second : ToldSecond) → told_by at beat vote ≡ Some second → (second.at_us ≡ at) × IsToldAfter made calls second
told_second keeper made start at calls lived order None vote answer votes carried second e = absurd cc
told_second keeper made start at calls lived order (Some beat) vote answer votes carried second e =
    let told : ToldSecond = record { at_us = at; edge_us = edge_by at beat.edge_us; beat = beat; vote = vote } in
    let is : told ≡ second = cc in
    subst (λ (x : ToldSecond). (x.at_us ≡ at) × IsToldAfter made calls x) is (
      refl,
      record {
        beat = sym answer;
        vote = votes;
        edge = edge_told made lived.lines lived.fresh lived.none start at calls beat order (sym answer);
        carried = carried;
      },
    )
