use Rattle.std.proofs.Common.{◌∙◌, sym}
use Rattle.report_found.proofs.EventLaws.{on_all}
use Rattle.report_found.proofs.DeviceLaws.{goes_on_by, goes_on_so}
use Rattle.report_found.proofs.finder.Finder.take.Goals as goal

pub returns-in-Some : goal.returns-in-Some
returns-in-Some g c =
    on_all c.take_tick.result _ _ _ _ (λ ports found added s x shown before stands known at.
    goes_on_by c.args.self.now s c.args.entry.now before at _ c.in-Some.tick (sym (c.tick_of_told.ensures.exact s x shown stands) ∙ c.in-Some.is) known ports found added)
    c.take_tick.ensures.ports c.take_tick.ensures.found c.take_tick.ensures.added

pub returns-in-None : goal.returns-in-None
returns-in-None g c = λ s x shown before stands known at.
    goes_on_so c.args.self.now s c.args.entry.now before at (sym (c.tick_of_told.ensures.exact s x shown stands) ∙ c.in-None.is)
