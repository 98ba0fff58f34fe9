use Rattle.std.proofs.Common.{◌≡◌, ◌∙◌, true, false, Ok, refl, sym}
use Rattle.record_comtrade.specs.Reads.{value_of}
use Rattle.record_samples.specs.Lines.{lines_of}
use Rattle.record_samples.specs.Records.Chosen.{OfDigitals, OfLines}
use Rattle.report_judge.specs.Records.{are_digital}
use Rattle.report_judge.proofs.record.samples_of.Goals as goal

pub returns-then-are_digital-clause-reads : goal.returns-then-are_digital-clause-reads
returns-then-are_digital-clause-reads c =
    let counts = c.counts.ensures in
    let digital = c.are_digital.ensures in
    let is : are_digital c.args.config.now.counts.digitals c.args.places.now ≡ true = rw counts at (sym digital ∙ c.if-are_digital.true) in
    (OfDigitals c.args.places.now, rw is refl, c.in_ok-samples.ensures)

pub returns-in_ok-samples-in-Ok-clause-reads : goal.returns-in_ok-samples-in-Ok-clause-reads
returns-in_ok-samples-in-Ok-clause-reads c =
    let counts = c.counts.ensures in
    let digital = c.are_digital.ensures in
    let is : are_digital c.args.config.now.counts.digitals c.args.places.now ≡ false = rw counts at (sym digital ∙ c.if-are_digital.false) in
    let lines : lines_of (value_of c.args.config.now) c.args.threshold c.args.places.now ≡ Ok c.in-Ok.lines = sym c.of.ensures ∙ c.in-Ok.is in
    (OfLines c.in-Ok.lines, rw (is, lines) refl, c.in_ok-samples-in-Ok.ensures)
