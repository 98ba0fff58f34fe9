use Rattle.std.proofs.Common.{◌∙◌, sym}
use Rattle.report_found.proofs.EventLaws.{on_both}
use Rattle.report_lanes.proofs.DeviceLaws.{goes_on_by, goes_on_so}
use Rattle.report_lanes.proofs.drawer.Drawer.take_told.Goals as goal

pub returns-in-Some : goal.returns-in-Some
returns-in-Some g c =
    on_both c.take.result _ _ _ (λ lanes readers s x shown before stands known at.
    goes_on_by c.args.self.now s c.args.entry.now before at c.take.new.self c.in-Some.tick (sym (c.tick_of_told.ensures.exact s x shown stands) ∙ c.in-Some.is) known c.take.ensures.ports lanes readers)
    c.take.ensures.lanes c.take.ensures.readers

pub returns-in-None : goal.returns-in-None
returns-in-None g c = λ s x shown before stands known at.
    goes_on_so c.args.self.now s c.args.entry.now before at (sym (c.tick_of_told.ensures.exact s x shown stands) ∙ c.in-None.is)
