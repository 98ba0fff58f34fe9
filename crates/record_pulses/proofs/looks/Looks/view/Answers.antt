use Rattle.std.proofs.Common.{◌∙◌, sym}
use Rattle.record_pulses.proofs.LookLaws.{shown_inverted, shown_upright}
use Rattle.record_pulses.proofs.looks.Looks.view.Goals as goal

pub returns-then-is_shown_high : goal.returns-then-is_shown_high
returns-then-is_shown_high c given edges h =
    shown_upright c.args.self.now given edges h (sym (c.is_shown_high.ensures given edges h) ∙ c.if-is_shown_high.true)

pub returns-else-is_shown_high : goal.returns-else-is_shown_high
returns-else-is_shown_high c given edges h =
    shown_inverted c.args.self.now given edges h (sym (c.is_shown_high.ensures given edges h) ∙ c.if-is_shown_high.false)
