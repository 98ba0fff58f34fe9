-- The edge that a tick tells.
use Rattle.std.specs.Prelude.{◌-◌}
use Rattle.std.proofs.Common.{◌≡◌, ℕ, ◌+◌, ◌%◌, ◌^◌, ◌<◌, ◌≤◌, List, [], ◌++◌, ◌∷◌, Some, refl, sym, subst, arith, append-nil}
use Rattle.irig_lines.specs.declared.lines.Lines.{Lines}
use Rattle.irig_lines.specs.Steps.{AreNewLines, no_lines}
use Rattle.irig_timekeeper.specs.declared.clock.Beat.{Beat}
use Rattle.irig_timekeeper.specs.Keeping.{Keeping, answer_at, new_keeping}
use Rattle.irig_timekeeper.specs.Life.{Call, AreInOrder, after_calls}
use Rattle.irig_timekeeper.specs.Life.Call.{Tick}
use Rattle.irig_timekeeper.specs.Lived.{MadeOf, keeping_after}
use Rattle.irig_timekeeper.specs.Truth.{IsEdgeAt}
use Rattle.irig_timekeeper.proofs.LifeLaws.{begins}
use Rattle.irig_timekeeper.proofs.OrderLaws.{IsPaced, paced_on, paced_tick}
use Rattle.record_lines.specs.ToldSeconds.{edge_by}

-- it has come, and not long ago
edge_of : (made : MadeOf) → AreNewLines no_lines → (start now : ℕ) (calls : List Call) (beat : Beat) → AreInOrder start made.clock.redundancy (Tick now ∷ calls) → answer_at (keeping_after made calls) (now % 2 ^ 32) ≡ Some beat
    → (edge : ℕ) × IsEdgeAt beat.edge_us edge now
edge_of made fresh start now calls beat order answer =
    let new : Keeping = new_keeping made.rules made.clock made.table no_lines in
    let lines = begins made.rules made.clock made.table no_lines start fresh in
    let none : calls ++ [] ≡ calls = append-nil calls in
    let first = paced_on new start lines 0 [] refl calls (subst (AreInOrder start made.clock.redundancy) (sym none) order.3) in
    let paced = subst (λ (x : List Call). IsPaced new start lines 0 x (after_calls new x).state.edge_us) none first in
    let told = (paced_tick new start lines 0 calls now order paced).told beat answer in
    (told.edge, told.at)

-- the time that shows it
ago : (at e edge : ℕ) → e ≡ edge % 2 ^ 32 → edge ≤ at → at < edge + 1006000 → at - (at % 2 ^ 32 + (2 ^ 32 - e)) % 2 ^ 32 ≡ edge
ago at e edge is come soon = omega (arith, is, come, soon)

pub edge_told : (made : MadeOf) (lines : Lines) → AreNewLines lines → lines ≡ no_lines → (start now : ℕ) (calls : List Call) (beat : Beat) → AreInOrder start made.clock.redundancy (Tick now ∷ calls)
    → answer_at (keeping_after made calls) (now % 2 ^ 32) ≡ Some beat → IsEdgeAt beat.edge_us (edge_by now beat.edge_us) now
edge_told made lines fresh none start now calls beat order answer =
    let found = edge_of made (subst AreNewLines none fresh) start now calls beat order answer in
    subst (λ (edge : ℕ). IsEdgeAt beat.edge_us edge now) (sym (ago now beat.edge_us found.0 found.1.clock found.1.come found.1.soon)) found.1
