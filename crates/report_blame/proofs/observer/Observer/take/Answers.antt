use Rattle.std.proofs.Common.{◌++◌, ◌∙◌, length, refl, sym}
use Rattle.report_found.proofs.EventLaws.{on_all}
use Rattle.report_blame.proofs.DeviceLaws.{seen_by, seen_so}
use Rattle.report_blame.proofs.observer.Observer.take.Goals as goal

pub returns-in-Some-clause-seen : goal.returns-in-Some-clause-seen
returns-in-Some-clause-seen g c =
    on_all c.take_tick.result _ _ _ _ (λ ports found added s x shown before newest stands known at.
    seen_by c.args.self.now s c.args.entry.now before newest at _ c.in-Some.tick (sym (c.tick_of_told.ensures.exact s x shown stands) ∙ c.in-Some.is) known ports found added
    (c.take.ensures (length s.devices) (newest ++ before) known at.seen.reaches))
    c.take_tick.ensures.ports c.take_tick.ensures.found c.take_tick.ensures.added

pub returns-in-None-clause-seen : goal.returns-in-None-clause-seen
returns-in-None-clause-seen g c = λ s x shown before newest stands known at.
    seen_so c.args.self.now s c.args.entry.now before newest at _ (sym (c.tick_of_told.ensures.exact s x shown stands) ∙ c.in-None.is) refl refl
    (c.take.ensures (length s.devices) (newest ++ before) known at.seen.reaches)
