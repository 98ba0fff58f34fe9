use Rattle.std.proofs.Common.{◌≡◌, ◌-◌, ◌+◌, ap, sym, take, ◌∙◌, arith}
use Rattle.record_text.specs.Fields.{field, trimmed}
use Rattle.record_text.proofs.FieldLaws.{field-step}
use Rattle.record_text.proofs.fields.field_of.Goals as goal

pub loop-passed-preserved : goal.loop-passed-preserved
loop-passed-preserved c =
    ap (field (c.args.place - (c.loop-passed._passed + 1))) c.after_comma-rest.ensures
    ∙ sym (field-step c.args.place c.loop-passed._passed c.loop-passed.rest.now c.loop-passed-test.true)
    ∙ c.loop-passed.invariant

pub returns : goal.returns
returns c =
    let e : 0 ≡ c.args.place - c.loop-passed._passed = omega (arith, c.loop-passed-test.false) in
    c.trimmed.ensures
    ∙ ap trimmed (c.split_at.ensures.front ∙ ap (λ n. take n c.loop-passed.rest.now) c.comma_in.ensures.count)
    ∙ ap (λ n. field n c.loop-passed.rest.now) e
    ∙ c.loop-passed.invariant
