-- The life of a timekeeper as its caller knows it: what it was made of, and its calls.
-- Source: this project's profile.
use Rattle.std.specs.Prelude.{◌≡◌, ℕ, List}
use Rattle.irig_sync.specs.Lines.{Pulse}
use Rattle.irig_time.specs.declared.rules.Rules.{Rules}
use Rattle.irig_time.specs.Tables.{TableValue}
use Rattle.irig_time.specs.Timelines.{TimelineValue}
use Rattle.irig_port.specs.declared.port.Port.{Ghosts}
use Rattle.irig_vote.specs.Vote.{f_of}
use Rattle.irig_lines.specs.Paces.{WandersAsSet}
use Rattle.irig_lines.specs.declared.setup.ClockRules.{ClockRules}
use Rattle.irig_timekeeper.specs.declared.keeper.Timekeeper.{Timekeeper}
use Rattle.irig_lines.specs.declared.lines.Lines.{Lines}
use Rattle.irig_lines.specs.Steps.{AreNewLines, no_lines}
use Rattle.irig_timekeeper.specs.Keepers.{IsKeeping}
use Rattle.irig_timekeeper.specs.Keeping.{Keeping, new_keeping}
use Rattle.irig_timekeeper.specs.Life.{Call, Made, AreInOrder, AreTrueAtTicks, after_calls, life_of}
use Rattle.irig_timekeeper.specs.Truth.{IsDevice}

-- what a timekeeper was made of
pub record MadeOf : Type 0 where
  pub rules : Rules
  pub clock : ClockRules
  pub table : TableValue

-- the same, and the lines that it had then
abbrev pub made_with : MadeOf → (lines : Lines) → AreNewLines lines → Made
made_with made lines fresh = record {
  rules = made.rules;
  clock = made.clock;
  table = made.table;
  lines = lines;
  fresh = fresh;
}

-- what a timekeeper is that was made of this, after these calls, the newest first
abbrev pub keeping_after : MadeOf → List Call → Keeping
keeping_after made calls =
    after_calls (new_keeping made.rules made.clock made.table no_lines) calls

-- it was made of this, and these calls came since it was made or restarted, the newest first
pub record HasLived {P : Type 0} {g : Ghosts P} (keeper : Timekeeper P g) (made : MadeOf)
    (calls : List Call)
    : Type 0 where
  pub lines : Lines
  pub fresh : AreNewLines lines
  pub none : lines ≡ no_lines
  pub is : IsKeeping keeper (life_of (made_with made lines fresh) calls)

-- a device is what its setup says, its counter wanders no more than that if it is to learn from votes,
-- its calls are in order, and at each tick all but at most f lines are such true lines
pub record LivesWell
    (IsTrue : Rules → TimelineValue → (ℕ → ℕ) → ℕ → List Pulse → Type 0) (t : TimelineValue)
    (edges : ℕ → ℕ) (made : MadeOf) (start : ℕ) (calls : List Call)
    : Type 0 where
  pub is : IsDevice t made.clock.drift_us edges made.clock.reader_rules made.table
  pub order : AreInOrder start made.clock.redundancy calls
  pub learns : WandersAsSet made.clock edges
  pub truth : AreTrueAtTicks (IsTrue made.rules t edges) (f_of made.clock.redundancy) calls
