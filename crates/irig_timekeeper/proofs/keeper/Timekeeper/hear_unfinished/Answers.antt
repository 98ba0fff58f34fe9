use Rattle.std.proofs.Common.{◌∙◌, ◌<◌, ap, arith, w16, rules}
use mir.Val.{SFits}
use Rattle.std.proofs.lemmas.Int.{to_z-of_z}
use Rattle.irig_reader.proofs.FedLaws.{at_most_five}
use Rattle.irig_lines.specs.declared.setup.ClockRules.{ClockRules}
use Rattle.irig_lines.specs.Delays.{corrected, delay_at}
use Rattle.irig_timekeeper.specs.Life.{device_of}
use Rattle.irig_timekeeper.specs.Lived.{made_with}
use Rattle.irig_timekeeper.proofs.LivedLaws.{as_made}
use Rattle.irig_timekeeper.proofs.UnfinishedLaws.{lived_unfinished}
use Rattle.irig_timekeeper.proofs.keeper.Timekeeper.hear_unfinished.Goals as goal

pub returns-clause-lived : goal.returns-clause-lived
returns-clause-lived g c made calls rise width h frame shown begun ended may =
    let clock = h.is.clock ∙ (as_made (device_of (made_with made h.lines h.fresh)) calls).clock in
    let late = c.delay_at-delay_us.ensures ∙ ap (λ (rules : ClockRules). delay_at rules.delays c.args.line) clock in
    let fits : SFits w16 c.delay_at-delay_us.result = search rules in
    let delay = to_z-of_z w16 c.delay_at-delay_us.result fits ∙ late in
    let first = c.corrected-first_us.ensures ∙ ap (corrected c.args.first_us) delay ∙ begun in
    let last = c.corrected-last_us.ensures ∙ ap (corrected c.args.last_us) delay ∙ ended in
    let low : c.args.line < 5 = omega (arith, c.requires, at_most_five c.args.self.now.clock.redundancy) in
    lived_unfinished c.args.self.now c.pass_unfinished.new.self made calls h rise width c.args.line _ _ c.args.widths_us.now frame low shown first last may c.pass_unfinished.ensures.heard
