-- What the entries of a run vouch for whose premises broke: all before the one that broke them.
-- Source: docs/OUTPUT.md, docs/HEADLINE.md.
use Rattle.std.specs.Prelude.{All, ◌≡◌, ℕ, List, ◌∷◌, ◌++◌}
use Rattle.irig_plant.specs.declared.entry.Entry.{Entry}
use Rattle.irig_plant.specs.Schedule.{log_of}
use Rattle.irig_plant.specs.Truth.{IsTruthful}
use Rattle.irig_scene.specs.Scene.{Scene}

-- each entry of the log that stands before the one of this edge of this reader shows the true second
-- of its edge, or none
pub record AreTrueBefore (at : Scene) (reader edge : ℕ) : Type 0 where
  pub before : List Entry
  pub entry : Entry
  pub later : List Entry
  pub log : log_of at.plan.setup at.events ≡ before ++ entry ∷ later
  pub of_reader : entry.reader ≡ reader
  pub of_edge : entry.edge ≡ edge
  pub are_true : All (IsTruthful at.plan.setup.times) before
