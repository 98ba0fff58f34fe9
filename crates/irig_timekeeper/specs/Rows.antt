-- The two seconds that a device told last, in a row.
-- Source: this project's profile.
use Rattle.std.specs.Prelude.{◌≡◌, ℕ, ◌%◌, ◌^◌, List, [], ◌∷◌, ◌++◌, Some, None, ⊤}
use Rattle.irig_timekeeper.specs.declared.clock.Beat.{Beat}
use Rattle.irig_timekeeper.specs.Keeping.{Keeping, answer_at}
use Rattle.irig_timekeeper.specs.Life.{Call, after_calls}
use Rattle.irig_timekeeper.specs.Life.Call.{Hear, Tick}
use Rattle.irig_timekeeper.specs.Truth.{IsEdgeAt}

-- no tick of these calls, which came behind those, tells a second
abbrev pub TellNothing : Keeping → List Call → List Call → Type 0
TellNothing new [] before = ⊤
TellNothing new (Hear port rise width ∷ calls) before = TellNothing new calls before
TellNothing new (Tick now ∷ calls) before =
    (answer_at (after_calls new (calls ++ before)) (now % 2 ^ 32) ≡ None)
    × TellNothing new calls before

-- a tick told this, at this edge, and the next one that told a second told that, at the next edge; no
-- tick since told another
pub record AreToldLast (new : Keeping) (calls : List Call) (beat then : Beat) (edge next : ℕ)
    : Type 0 where
  pub later : List Call
  pub now : ℕ
  pub between : List Call
  pub before : ℕ
  pub earlier : List Call
  pub are : calls ≡ later ++ (Tick now ∷ (between ++ (Tick before ∷ earlier)))
  pub told : answer_at (after_calls new earlier) (before % 2 ^ 32) ≡ Some beat
  pub silent : TellNothing new between (Tick before ∷ earlier)
  pub told_then : answer_at (after_calls new (between ++ (Tick before ∷ earlier))) (now % 2 ^ 32)
      ≡ Some then
  pub silent_since : TellNothing new later (Tick now ∷ (between ++ (Tick before ∷ earlier)))
  pub at : IsEdgeAt beat.edge_us edge before
  pub at_then : IsEdgeAt then.edge_us next now
