use Rattle.std.proofs.Common.{◌≡◌, ℕ, List, ◌++◌, OnOk, string_bytes, ap, subst, ◌∙◌}
use Rattle.std.specs.Fmt.{styled_decimal}
use Rattle.text_frame.proofs.ReadingLaws.{three_digits}
use Rattle.report_verdict.proofs.number_text.push_three_digits.Goals as goal

pub returns : goal.returns
returns c =
    subst (λ (written : List ℕ). OnOk c.write.result (string_bytes c.write.new.self ≡ string_bytes c.args.text.now ++ written))
    (ap (λ spec. styled_decimal spec c.args.number) c.laid_out.ensures ∙ three_digits c.args.number) c.write.ensures.bytes
