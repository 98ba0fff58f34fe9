-- What it is for a timekeeper to be such a value.
use Rattle.std.specs.Prelude.{◌≡◌}
use Rattle.irig_time.specs.declared.rules.Rules.{Rules}
use Rattle.irig_time.specs.Tables.{TableValue}
use Rattle.irig_port.specs.declared.port.Port.{Ghosts}
use Rattle.irig_lines.specs.declared.setup.ClockRules.{ClockRules}
use Rattle.irig_timekeeper.specs.declared.keeper.Timekeeper.{Timekeeper}
use Rattle.irig_lines.specs.Steps.{AreNewLines}
use Rattle.irig_timekeeper.specs.Keeping.{Keeping, new_keeping}

-- the timekeeper has these rules, clock, table and state, and its ports stand for what was heard
pub record IsKeeping {P : Type 0} {g : Ghosts P} (keeper : Timekeeper P g) (k : Keeping)
    : Type 0 where
  pub a : g.stands_for keeper.a k.rules k.heard.a
  pub b : g.stands_for keeper.b k.rules k.heard.b
  pub c : g.stands_for keeper.c k.rules k.heard.c
  pub d : g.stands_for keeper.d k.rules k.heard.d
  pub e : g.stands_for keeper.e k.rules k.heard.e
  pub rules : keeper.rules ≡ k.rules
  pub clock : keeper.clock ≡ k.clock
  pub table : keeper.table ≡ k.table
  pub state : keeper.state ≡ k.state

-- it was made of these, and nothing has happened to it
abbrev pub IsNew : {P : Type 0} {g : Ghosts P} → Timekeeper P g → Rules → ClockRules
    → TableValue → Type 0
IsNew keeper rules clock table =
    IsKeeping keeper (new_keeping rules clock table keeper.state.lines)
    × AreNewLines keeper.state.lines

-- a fact of each value that the timekeeper may be
abbrev pub ForKeeping : {P : Type 0} {g : Ghosts P} → Timekeeper P g → (Keeping → Type 0) → Type 0
ForKeeping keeper fact = (k : Keeping) → IsKeeping keeper k → fact k

-- the timekeeper then is what this makes of it
abbrev pub Goes : {P : Type 0} {g : Ghosts P} → Timekeeper P g → Timekeeper P g
    → (Keeping → Keeping) → Type 0
Goes old new next = ForKeeping old (λ k. IsKeeping new (next k))
