-- The ranges of a reader's rules; they are this project's profile.
use Rattle.std.specs.Prelude.{◌≤◌}
use Rattle.irig_reader.specs.declared.rules.ReaderRules.{ReaderRules}

-- the votes before the lock, and the edges of a holdover
pub record IsReaderRules (reader_rules : ReaderRules) : Type 0 where
  pub lock_after : (1 ≤ reader_rules.lock_after) × (reader_rules.lock_after ≤ 60)
  pub holdover : reader_rules.holdover ≤ 1000000
