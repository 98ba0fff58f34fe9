use Rattle.std.proofs.Common.{◌≡◌, ℕ, List, [], ◌∷◌, length, take, refl, sym, subst, rules, arith}
use Rattle.std.proofs.lemmas.Result.{err_from_is_err_and}
use Rattle.report_judge.specs.Readings.{HasReadBelow}
use Rattle.report_judge.proofs.PartLaws.{IsPart, part-nothing, part-on, part-whole}
use Rattle.report_judge.proofs.ReadingLaws.{reads-below, refuses-below}
use Rattle.report_judge.proofs.reading.Below.read.Goals as goal

none : (rest : List ℕ) → length rest ≡ 0 → rest ≡ []
none [] e = refl
none (b ∷ bs) e = absurd (omega (arith, e))

pub loop-rest-init : goal.loop-rest-init
loop-rest-init c = part-nothing HasReadBelow c.args.self.now c.args.bytes.now

pub returns-in_err-taken-clause-refuses : goal.returns-in_err-taken-clause-refuses
returns-in_err-taken-clause-refuses c =
    let p = err_from_is_err_and c.from_residual.result c.from_residual.ensures.1 in
    rw (p.1, p.2) (λ asked text h. refuses-below asked text c.args.self.now c.loop-rest.self c.args.bytes.now c.loop-rest.rest.now _ h c.loop-rest.invariant c.in_err-taken.ensures.refuses)

pub loop-rest-preserved : goal.loop-rest-preserved
loop-rest-preserved c =
    subst (IsPart HasReadBelow c.args.self.now _ c.args.bytes.now) (sym c.split_at.ensures.back)
    (part-on HasReadBelow c.args.self.now c.loop-rest.self _ c.args.bytes.now c.loop-rest.rest.now c.in_ok-taken.taken.count c.loop-rest.invariant
    (λ asked text h. reads-below asked text (take c.in_ok-taken.taken.count c.loop-rest.rest.now) c.loop-rest.self _ c.in_ok-taken.taken.levels h c.in_ok-taken.ensures.says c.hear.ensures.some c.hear.ensures.none c.hear.ensures.form))

pub returns-clause-reads : goal.returns-clause-reads
returns-clause-reads c = λ asked text h.
    part-whole HasReadBelow asked text c.args.self.now c.loop-rest.self c.args.bytes.now h
    (subst (IsPart HasReadBelow c.args.self.now c.loop-rest.self c.args.bytes.now) (none c.loop-rest.rest.now (search rules)) c.loop-rest.invariant)
