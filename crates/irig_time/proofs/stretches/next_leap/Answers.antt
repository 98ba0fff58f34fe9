use Rattle.std.proofs.Common.{◌≡◌, ℕ, length, subst, arith}
use Rattle.irig_time.proofs.StretchLaws.{IsFirstOf, first_found}
use Rattle.irig_time.proofs.stretches.next_leap.Goals as goal

pub returns : goal.returns
returns c =
    let all : c.loop-leap.leap-index ≡ length c.args.leaps.now = omega arith in
    first_found c.args.leaps.now c.args.from c.loop-leap.next c.requires (subst (λ (i : ℕ). IsFirstOf c.args.leaps.now c.args.from i c.loop-leap.next) all c.loop-leap.invariant)
