-- A timekeeper is set up in all its life as it was made.
use Rattle.std.proofs.Common.{◌∷◌, [], List, refl, inl, inr}
use Rattle.std.proofs.lemmas.Bool.{cases_Bool}
use Rattle.irig_lines.specs.Steps.{is_pulse}
use Rattle.irig_timekeeper.specs.Keeping.{Keeping}
use Rattle.irig_timekeeper.specs.Life.{Call, after_calls}
use Rattle.irig_timekeeper.specs.Life.Call.{Hear, Tick}
use Rattle.irig_timekeeper.proofs.LifeLaws.{IsSameSetup}

pub as_made : (new : Keeping) (calls : List Call) → IsSameSetup new (after_calls new calls)
as_made new [] = record { rules = refl; clock = refl; table = refl }
as_made new (Hear port rise width ∷ calls) =
    let s = as_made new calls in
    elim (cases_Bool (is_pulse width)) [
      | inl narrow ↦ rw narrow (record { rules = s.rules; clock = s.clock; table = s.table })
      | inr wide ↦ rw wide s
    ]
as_made new (Tick now ∷ calls) =
    let s = as_made new calls in
    record { rules = s.rules; clock = s.clock; table = s.table }
