use Rattle.std.proofs.Common.{sym, ◌∙◌, arith, refl}
use Rattle.std.proofs.lemmas.Bool.{eq-eqb}
use Rattle.irig_hold.proofs.Stepping.{next_valid, next_early}
use Rattle.irig_hold.proofs.hold.step.Goals as goal

pub invariant_of-result : goal.invariant_of-result
invariant_of-result g c = next_valid c.args.from _ c.args.heard c.requires (next_early c.args.from c.args.heard (omega arith))

pub returns-then-from-lt86398 : goal.returns-then-from-lt86398
returns-then-from-lt86398 g c = rw (next_early c.args.from _ (omega arith), eq-eqb c.args.from.day c.args.from.day refl) refl

pub invariant_of-result-in-Some : goal.invariant_of-result-in-Some
invariant_of-result-in-Some g c = next_valid c.args.from c.in-Some.last c.spoken.result c.requires (sym c.next.ensures ∙ c.in-Some.is)
