use Rattle.std.proofs.Common.{sym, ◌∙◌, ap}
use Rattle.std.proofs.lemmas.Bool.{eqb-true, eqb-false}
use Rattle.irig_port.specs.Early.{early_part}
use Rattle.irig_port.specs.Told.{values_told}
use Rattle.irig_port.proofs.ToldLaws.{none_told, parity_told, fields_told}
use Rattle.irig_port.proofs.EarlyLaws.{early_told, right_frame}
use Rattle.irig_port.proofs.whole.tell.Goals as goal

pub returns-then-is_empty-clause-told : goal.returns-then-is_empty-clause-told
returns-then-is_empty-clause-told c = sym (none_told c.args.rules.now c.args.symbols.now (eqb-true _ _ (sym c.is_empty.ensures ∙ c.if-is_empty.true)))

pub returns-in-Some-clause-told : goal.returns-in-Some-clause-told
returns-in-Some-clause-told c =
    let some = eqb-false _ _ (sym c.is_empty.ensures ∙ c.if-is_empty.false) in
    sym (early_told c.args.rules.now c.args.symbols.now c.in-Some.fault some (ap early_part (sym c.decode-values.ensures.exact) ∙ sym c.early_fault.ensures ∙ c.in-Some.is))

pub has_right_parity-requires : goal.has_right_parity-requires
has_right_parity-requires c =
    (right_frame c.args.symbols.now (ap early_part (sym c.decode-values.ensures.exact) ∙ sym c.early_fault.ensures ∙ c.in_default.is)).len

pub returns-then-not-has_right_parity-clause-told : goal.returns-then-not-has_right_parity-clause-told
returns-then-not-has_right_parity-clause-told c =
    let frame = right_frame c.args.symbols.now (ap early_part (sym c.decode-values.ensures.exact) ∙ sym c.early_fault.ensures ∙ c.in_default.is) in
    sym (parity_told c.args.rules.now c.args.symbols.now frame.len frame.right (sym c.has_right_parity.ensures ∙ c.if-not-has_right_parity.true))

pub returns-clause-told : goal.returns-clause-told
returns-clause-told c =
    let frame = right_frame c.args.symbols.now (ap early_part (sym c.decode-values.ensures.exact) ∙ sym c.early_fault.ensures ∙ c.in_default.is) in
    c.tell_values.ensures.told ∙ ap (values_told c.args.rules.now) (c.decode-values.ensures.exact ∙ frame.values)
    ∙ sym (fields_told c.args.rules.now c.args.symbols.now frame.len frame.right (sym c.has_right_parity.ensures ∙ c.if-not-has_right_parity.false))
