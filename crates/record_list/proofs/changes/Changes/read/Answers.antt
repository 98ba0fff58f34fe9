use Rattle.std.proofs.Common.{◌∙◌, ◌+◌, sym, arith, subst}
use Rattle.std.proofs.lemmas.Result.{err_from_is_err_and}
use Rattle.record_list.specs.Lists.{FaultSays}
use Rattle.record_list.proofs.ReadLaws.{leads-on, of-all, rests-on}
use Rattle.record_list.proofs.changes.Changes.read.Goals as goal

pub returns-in_err-hear-clause-refuses : goal.returns-in_err-hear-clause-refuses
returns-in_err-hear-clause-refuses c =
    let p = err_from_is_err_and c.from_residual.result c.from_residual.ensures.1 in
    let on = rests-on c.args.self.now c.loop-count.self c.next-levels.new.self c.args.bytes.now c.loop-count.count c.next-levels.result (sym c.if-is_some.ensures) c.loop-count.invariant.3 c.next-levels.ensures.says in
    let led = leads-on c.args.self.now c.next-levels.new.self c.next-next.new.self c.args.bytes.now c.split_at.result.1.now c.loop-count.count c.next-next.result.count c.next-next.result.ended c.in-Some-ended.number c.in-Some-ended.is on c.split_at.ensures.back c.next-next.ensures.lines in
    rw (p.1, p.2) (of-all c.args.self.now c.args.bytes.now (c.loop-count.count + c.next-next.result.count) c.in_err-hear.field-0.0
    (λ more. subst (FaultSays c.in_err-hear.field-0.0) (sym (led more)) (c.in_err-hear.ensures.refuses more)))

pub loop-count-preserved-in-Continue-1 : goal.loop-count-preserved-in-Continue-1
loop-count-preserved-in-Continue-1 c =
    let on = rests-on c.args.self.now c.loop-count.self c.next-levels.new.self c.args.bytes.now c.loop-count.count c.next-levels.result (sym c.if-is_some.ensures) c.loop-count.invariant.3 c.next-levels.ensures.says in
    let led = leads-on c.args.self.now c.next-levels.new.self c.next-next.new.self c.args.bytes.now c.split_at.result.1.now c.loop-count.count c.next-next.result.count c.next-next.result.ended c.in-Some-ended.number c.in-Some-ended.is on c.split_at.ensures.back c.next-next.ensures.lines in (
      omega (arith, c.next-next.ensures.within, c.split_at.ensures.back_len),
      c.in_ok-hear.ensures.goes,
      omega (arith, c.loop-count.invariant.2, c.next-levels.ensures.goes_on, c.hear.ensures.goes_on),
      λ more. led more ∙ c.in_ok-hear.ensures.says more,
    )
