use Rattle.std.proofs.Common.{◌%◌, ◌^◌, refl}
use Rattle.irig_timekeeper.specs.Life.{device_of, life_of}
use Rattle.irig_timekeeper.proofs.StrayLaws.{never_doubts, never_unsteady}
use Rattle.irig_timekeeper.proofs.DoubtLaws.{says_rule, says_voted, not_held, held_again}
use Rattle.irig_lives.proofs.laws.what_strays_is_not_held.Goals as goal

pub returns-clause-held : goal.returns-clause-held
returns-clause-held _ made before now earlier later beat strays few alone answer = not_held (device_of made) before now earlier later beat strays few alone answer

pub returns-clause-over : goal.returns-clause-over
returns-clause-over _ made now earlier later beat none enough steady answer = held_again (device_of made) refl now later earlier beat none enough steady answer

pub returns-clause-voted : goal.returns-clause-voted
returns-clause-voted _ made now calls vote beat voted answer = says_voted (life_of made calls) (now % 2 ^ 32) vote beat voted answer

pub returns-clause-none : goal.returns-clause-none
returns-clause-none _ t edges made start now calls beat lives answer =
    let certain = never_doubts t edges made start calls (record { is = lives.is; learns = lives.learns; order = lives.order.3; truth = lives.truth.1 }) in
    says_rule (life_of made calls) (now % 2 ^ 32) beat certain (never_unsteady t edges made start calls now lives) answer
