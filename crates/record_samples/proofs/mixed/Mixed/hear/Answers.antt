use Rattle.std.proofs.Common.{◌∙◌, ◌∷◌, ap, sym, arith}
use Rattle.record_comtrade.specs.declared.now.Step.TheVariants.{Goes, Says, Refuses}
use Rattle.record_comtrade.specs.Samples.Said.{Change}
use Rattle.record_samples.specs.Readers.{numbers_plan}
use Rattle.record_samples.proofs.MixedLaws.{goes_on, hears_sample}
use Rattle.record_samples.proofs.mixed.Mixed.hear.Goals as goal

pub returns-in-Goes-clause-says : goal.returns-in-Goes-clause-says
returns-in-Goes-clause-says c = λ more.
    let mixed = c.args.self.now in
    hears_sample mixed c.args.sample.now c.heard-lines.result (Goes c.in-Goes.now) more c.requires.goes c.requires.none c.requires.whole
    (omega (arith, mixed.is_begun)) c.heard-lines.ensures (sym c.in-Goes.is ∙ c.step_to-step.ensures)
    ∙ goes_on (numbers_plan mixed) mixed.form mixed.size mixed.refusal c.in-Goes.now c.heard-lines.result mixed.begun.items more c.requires.goes c.requires.none

pub returns-in-Says-clause-says : goal.returns-in-Says-clause-says
returns-in-Says-clause-says c = λ more.
    let mixed = c.args.self.now in
    hears_sample mixed c.args.sample.now c.heard-lines.result (Says c.in-Says.levels c.in-Says.now) more c.requires.goes c.requires.none c.requires.whole
    (omega (arith, mixed.is_begun)) c.heard-lines.ensures (sym c.in-Says.is ∙ c.step_to-step.ensures)
    ∙ ap (λ l. Change c.in-Says.levels ∷ l)
    (goes_on (numbers_plan mixed) mixed.form mixed.size mixed.refusal c.in-Says.now c.heard-lines.result mixed.begun.items more c.requires.goes c.requires.none)

pub returns-in-Refuses-clause-refuses : goal.returns-in-Refuses-clause-refuses
returns-in-Refuses-clause-refuses c = λ more.
    let mixed = c.args.self.now in
    hears_sample mixed c.args.sample.now c.heard-lines.result (Refuses c.in-Refuses.fault) more c.requires.goes c.requires.none c.requires.whole
    (omega (arith, mixed.is_begun)) c.heard-lines.ensures (sym c.in-Refuses.is ∙ c.step_to-step.ensures)
