use Rattle.std.proofs.Common.{false, refl}
use Rattle.irig_timekeeper.proofs.CheckedSteps.{passes, stops}
use Rattle.irig_timekeeper.proofs.GuardedTicks.{told_of_vote, tick_guards_vote, tick_guards_hold, never_against}
use Rattle.irig_lives.proofs.laws_of_leaps.a_right_table_guards_its_leaps.Goals as goal

pub returns-clause-voted : goal.returns-clause-voted
returns-clause-voted _ t k clock n vote beat u sound guards voted at knows answer says = tick_guards_vote k clock beat answer t sound guards n u says vote voted at knows

pub returns-clause-held : goal.returns-clause-held
returns-clause-held _ t k clock n h beat u sound guards alone is at answer knows says = tick_guards_hold k clock beat answer t sound guards n u says h alone is at knows

pub returns-clause-stops : goal.returns-clause-stops
returns-clause-stops _ rules table state vote against = stops false rules table state vote refl against

pub returns-clause-passes : goal.returns-clause-passes
returns-clause-passes _ prefers rules table state vote with = passes prefers rules table state vote with

pub returns-clause-told : goal.returns-clause-told
returns-clause-told _ k clock beat answer = told_of_vote k clock beat answer

pub returns-clause-agreed : goal.returns-clause-agreed
returns-clause-agreed _ t edges made start now calls beat right lives answer = never_against t edges made start now calls beat right lives answer
