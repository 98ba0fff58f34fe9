use Rattle.std.proofs.Common.{◌≡◌, ◌∙◌, ◌-◌, ◌≤◌, sym, ap, subst}
use Rattle.irig_reader.specs.declared.rules.ReaderRules.{ReaderRules}
use Rattle.irig_reader.specs.declared.rule.Step.{Step}
use Rattle.irig_lines.specs.Paces.{grown_us}
use Rattle.irig_timekeeper.specs.Clock.{lasted}
use Rattle.irig_timekeeper.specs.Rule.{step_behind}
use Rattle.irig_timekeeper.proofs.SpentLaws.{held_small}
use Rattle.irig_timekeeper.proofs.clock.step_to.Goals as goal

pub returns-clause-held : goal.returns-clause-held
returns-clause-held g c =
    let says = g.T.Leaps.says c.args.table.now in
    let step = c.step_behind.ensures.step ∙ ap (λ (r : ReaderRules). step_behind c.args.rules.now.prefers_frames r says (c.args.edges - 1) c.args.reader c.args.vote) c.rules_on-reader_rules.ensures.value in
    subst (λ (x : Step). grown_us c.args.rules.now.drift_us c.args.pace (lasted x.report.lock) ≤ 490000) (sym step)
    (held_small c.args.rules.now c.args.pace c.args.reader c.args.edges c.args.rules.now.prefers_frames says c.args.vote c.requires.some)
