use Rattle.std.proofs.Common.{◌++◌, ◌∙◌, ◌+◌, ap, sym, arith}
use Rattle.std.proofs.lemmas.Result.{err_from_is_err_and}
use Rattle.record_table.specs.Tables.{to_come}
use Rattle.record_table.proofs.TableLaws.{leads-on, nothing-said, of-all}
use Rattle.record_table.proofs.changes.Changes.read.Goals as goal

pub returns-in_err-levels-clause-refuses : goal.returns-in_err-levels-clause-refuses
returns-in_err-levels-clause-refuses c =
    let p = err_from_is_err_and c.from_residual.result c.from_residual.ensures.1 in
    let led = leads-on c.args.self.now c.loop-count.self c.next-next.new.self c.args.bytes.now c.split_at.result.1.now c.loop-count.count c.next-next.result.count c.next-next.result.ended c.in-Some-ended.number c.in-Some-ended.is c.loop-count.invariant.2 c.split_at.ensures.back c.next-next.ensures.lines in
    rw (p.1, p.2) (of-all c.args.self.now c.args.bytes.now (c.loop-count.count + c.next-next.result.count) _ (λ more. led more ∙ c.in_err-levels.ensures.refuses more))

pub returns-then-is_some-clause-says : goal.returns-then-is_some-clause-says
returns-then-is_some-clause-says c =
    let led = leads-on c.args.self.now c.loop-count.self c.next-next.new.self c.args.bytes.now c.split_at.result.1.now c.loop-count.count c.next-next.result.count c.next-next.result.ended c.in-Some-ended.number c.in-Some-ended.is c.loop-count.invariant.2 c.split_at.ensures.back c.next-next.ensures.lines in
    λ more. led more ∙ c.in_ok-levels.ensures.says more

pub loop-count-preserved-else-is_some : goal.loop-count-preserved-else-is_some
loop-count-preserved-else-is_some c =
    let led = leads-on c.args.self.now c.loop-count.self c.next-next.new.self c.args.bytes.now c.split_at.result.1.now c.loop-count.count c.next-next.result.count c.next-next.result.ended c.in-Some-ended.number c.in-Some-ended.is c.loop-count.invariant.2 c.split_at.ensures.back c.next-next.ensures.lines in
    (omega (arith, c.next-next.ensures.within, c.split_at.ensures.back_len), c.in_ok-levels.ensures.goes, λ more. led more ∙ c.in_ok-levels.ensures.says more ∙ ap (λ l. l ++ to_come c.hear.new.self more) (nothing-said c.in_ok-levels.levels (sym c.if-is_some.ensures)))
