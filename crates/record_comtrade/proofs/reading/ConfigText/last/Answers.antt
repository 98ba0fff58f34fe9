use Rattle.std.proofs.Common.{◌∙◌, nat_eq, length, ap, sym}
use Rattle.record_comtrade.proofs.ReadLaws.{keeps_last, none_open}
use Rattle.record_comtrade.proofs.reading.ConfigText.last.Goals as goal

pub returns-then-is_empty : goal.returns-then-is_empty
returns-then-is_empty c =
    none_open c.args.self.now (ap (λ w. nat_eq (length w) 0) (sym c.text.ensures.text) ∙ sym c.if-is_empty.ensures)

pub returns : goal.returns
returns c =
    keeps_last c.args.self.now c.keep.new.self c.number-number.result c.number-number.ensures
    (ap (λ w. nat_eq (length w) 0) (sym c.text.ensures.text) ∙ sym c.if-is_empty.ensures) c.in_ok-keep.ensures.lines c.in_ok-keep.ensures.cleared
