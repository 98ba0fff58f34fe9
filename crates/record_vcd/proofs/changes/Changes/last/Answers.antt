use Rattle.std.proofs.Common.{[], ◌∷◌, ◌++◌, nat_eq, length, ◌∙◌, ap, sym}
use Rattle.std.proofs.lemmas.Result.{err_from_is_err_and}
use Rattle.record_vcd.specs.Changes.{said}
use Rattle.record_vcd.specs.Changes.Said.{Ends}
use Rattle.record_vcd.specs.Dumps.{to_come}
use Rattle.record_vcd.proofs.DumpLaws.{hears-last, none-due, nothing-said, rests}
use Rattle.record_vcd.proofs.changes.Changes.last.Goals as goal

pub returns-in_err-levels-clause-refuses : goal.returns-in_err-levels-clause-refuses
returns-in_err-levels-clause-refuses c =
    let p = err_from_is_err_and c.from_residual.result c.from_residual.ensures.1 in
    let hears = hears-last c.args.self.now c.line-line.result c.line-line.ensures (ap (λ w. nat_eq (length w) 0) (sym c.word.ensures.word) ∙ sym c.if-is_empty.ensures) in
    rw (p.1, p.2) (hears ∙ c.in_err-levels.ensures.refuses [])

pub returns-then-is_some-clause-says : goal.returns-then-is_some-clause-says
returns-then-is_some-clause-says c =
    let hears = hears-last c.args.self.now c.line-line.result c.line-line.ensures (ap (λ w. nat_eq (length w) 0) (sym c.word.ensures.word) ∙ sym c.if-is_empty.ensures) in
    let then = c.in_ok-levels.ensures in
    hears ∙ then.says [] ∙ ap (λ l. said c.in_ok-levels.levels ++ l)
    (rests c.hear.new.self then.cleared then.goes
    ∙ ap (λ l. l ++ Ends c.hear.new.self.here.time_ns ∷ []) (none-due c.in_ok-levels.levels c.hear.new.self.here (sym c.if-is_some.ensures) then.once))

pub returns-clause-says : goal.returns-clause-says
returns-clause-says c =
    let hears = hears-last c.args.self.now c.line-line.result c.line-line.ensures (ap (λ w. nat_eq (length w) 0) (sym c.word.ensures.word) ∙ sym c.if-is_empty.ensures) in
    let then = c.in_ok-levels.ensures in
    hears ∙ then.says [] ∙ ap (λ l. l ++ to_come c.hear.new.self []) (nothing-said c.in_ok-levels.levels (sym c.if-is_some.ensures))
    ∙ rests c.hear.new.self then.cleared then.goes
    ∙ ap (λ d. said d ++ Ends c.hear.new.self.here.time_ns ∷ []) (sym c.due-2.ensures)
