-- What either of two plays said stays. It is a proof, not a definition: that of a trait's law has
-- to stand here.
use Rattle.std.specs.Prelude.{ℕ, Bool, List}
use mathlib.Core.Logic.{inl, inr}
use Rattle.report_run.specs.Meanings.{Language}
use Rattle.report_run.specs.Texts.{Texts, Stays}
use Rattle.report_run.specs.Choice.{either_of, either_texts}

-- by that of the scene's own side
pub either_stays : {S T : Type 0} (chosen : List ℕ → Bool) (a : Language S) (b : Language T)
    (t : Texts S) (u : Texts T) → Stays a t → Stays b u
    → Stays (either_of chosen a b) (either_texts chosen t u)
either_stays chosen a b t u first second (inl x) line = first x line
either_stays chosen a b t u first second (inr y) line = second y line
