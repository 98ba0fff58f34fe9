use Rattle.std.proofs.Common.{◌∙◌, ap, sym}
use Rattle.report_found.specs.Books.{first_tick}
use Rattle.report_found.proofs.EventLaws.{on_both}
use Rattle.report_lanes.proofs.EventLaws.{stands_after}
use Rattle.report_lanes.proofs.drawer.DrawerListener.push_event.Goals as goal

pub returns-in-Some-clause-stands : goal.returns-in-Some-clause-stands
returns-in-Some-clause-stands g c = on_both c.take.result _ _ _ (λ lanes readers x at taken gave.
    let some = sym c.in-Some.is ∙ c.first_tick.ensures.exact ∙ ap first_tick gave in
    stands_after c.args.self.now x c.args._event.now at c.take.new.self c.in-Some.tick taken.accepted some c.take.ensures.ports lanes readers)
    c.take.ensures.lanes c.take.ensures.readers
