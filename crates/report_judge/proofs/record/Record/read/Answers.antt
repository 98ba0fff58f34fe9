use Rattle.std.proofs.Common.{◌≡◌, ℕ, List, [], ◌∷◌, length, refl, sym, subst, rules, arith}
use Rattle.std.proofs.lemmas.Result.{err_from_is_err_and}
use Rattle.report_judge.proofs.RecordLaws.{ReadsPart, no-device-samples, no-read-samples, part-nothing, part-on, part-refuses, part-whole}
use Rattle.report_judge.proofs.record.Record.read.Goals as goal

none : (rest : List ℕ) → length rest ≡ 0 → rest ≡ []
none [] e = refl
none (b ∷ bs) e = absurd (omega (arith, e))

pub loop-rest-init : goal.loop-rest-init
loop-rest-init c = part-nothing c.args.self.now c.args.bytes.now

pub returns-in_err-taken-clause-refuses : goal.returns-in_err-taken-clause-refuses
returns-in_err-taken-clause-refuses c =
    let p = err_from_is_err_and c.from_residual.result c.from_residual.ensures.1 in
    rw (p.1, p.2) (λ asked config before h. part-refuses asked config before c.args.self.now c.loop-rest.self c.args.bytes.now c.loop-rest.rest.now _ h c.loop-rest.invariant c.in_err-taken.ensures.refuses)

pub returns-in_err-taken-clause-config_device : goal.returns-in_err-taken-clause-config_device
returns-in_err-taken-clause-config_device c =
    let p = err_from_is_err_and c.from_residual.result c.from_residual.ensures.1 in
    rw (p.1, p.2) (no-read-samples c.in_err-taken.field-0.0)

pub returns-in_err-taken-clause-data_device : goal.returns-in_err-taken-clause-data_device
returns-in_err-taken-clause-data_device c =
    let p = err_from_is_err_and c.from_residual.result c.from_residual.ensures.1 in
    rw (p.1, p.2) (no-device-samples c.in_err-taken.field-0.0)

pub loop-rest-preserved : goal.loop-rest-preserved
loop-rest-preserved c =
    subst (ReadsPart c.args.self.now _ c.args.bytes.now) (sym c.split_at.ensures.back)
    (part-on c.args.self.now c.loop-rest.self _ c.args.bytes.now c.loop-rest.rest.now c.in_ok-taken.taken.count c.in_ok-taken.taken.levels c.loop-rest.invariant c.in_ok-taken.ensures.says refl c.hear.ensures.some c.hear.ensures.none c.hear.ensures.form)

pub returns-clause-reads : goal.returns-clause-reads
returns-clause-reads c = λ asked config before h.
    part-whole asked config before c.args.self.now c.loop-rest.self c.args.bytes.now h
    (subst (ReadsPart c.args.self.now c.loop-rest.self c.args.bytes.now) (none c.loop-rest.rest.now (search rules)) c.loop-rest.invariant)
