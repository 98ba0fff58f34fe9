-- The two seconds that a timekeeper told last, in a row, by what its ticks gave.
-- Source: this library's own.
use Rattle.std.specs.Prelude.{◌≡◌, ℕ, List, [], ◌∷◌, ◌++◌, ⊤}
use Rattle.irig_timekeeper.specs.Truth.{IsEdgeAt}
use Rattle.c_keeper.specs.declared.second.IrigSecond.{IrigSecond}
use Rattle.c_keeper.specs.Lives.{Moment}
use Rattle.c_keeper.specs.Lives.Moment.{Pulsed, Ticked, Waited}

-- no tick of these moments gave a second
abbrev pub GiveNothing : List Moment → Type 0
GiveNothing [] = ⊤
GiveNothing (Pulsed line rise width place ∷ past) = GiveNothing past
GiveNothing (Waited now wait ∷ past) = GiveNothing past
GiveNothing (Ticked now second ∷ past) = (second.is_told ≡ 0) × GiveNothing past

-- a tick gave the one, at this edge, and the next one that gave a second the other, at the next edge; no
-- tick since gave another
pub record AreGivenLast (past : List Moment) (one then : IrigSecond) (edge next : ℕ) : Type 0 where
  pub later : List Moment
  pub now : ℕ
  pub between : List Moment
  pub before : ℕ
  pub earlier : List Moment
  pub are : past ≡ later ++ (Ticked now then ∷ (between ++ (Ticked before one ∷ earlier)))
  pub silent : GiveNothing between
  pub silent_since : GiveNothing later
  pub at : IsEdgeAt one.edge_us edge before
  pub at_then : IsEdgeAt then.edge_us next now
