use Rattle.std.proofs.Common.{◌++◌, ◌∙◌, length, ap, sym}
use Rattle.report_found.specs.Books.{first_tick, ticks_at}
use Rattle.report_found.proofs.EventLaws.{on_one, on_both, goes_on, has_reader, ended_is, stands_after}
use Rattle.report_found.proofs.book.Book.take.Goals as goal

pub returns-in-Some-clause-found : goal.returns-in-Some-clause-found
returns-in-Some-clause-found c =
    on_one c.take_tick.result _ _ (λ found x e at accepted gave.
    let b = c.args.self.now in
    let t = c.in-Some.tick in
    let some = sym c.in-Some.is ∙ c.first_tick.ensures.exact ∙ ap first_tick gave in
    found (length x.plan.setup.readers) (λ r. ticks_at x.plan.setup r x.events) at.book (has_reader b x e at t accepted some)
    ∙ ap (λ l. c.args.findings.now.items ++ l) (ended_is b x e at t some)) c.take_tick.ensures.found

pub returns-in-Some-clause-stands : goal.returns-in-Some-clause-stands
returns-in-Some-clause-stands c =
    on_both c.take_tick.result _ _ _ (λ ports added x e at accepted gave.
    stands_after c.args.self.now x e at _ c.in-Some.tick accepted (sym c.in-Some.is ∙ c.first_tick.ensures.exact ∙ ap first_tick gave) ports added)
    c.take_tick.ensures.ports c.take_tick.ensures.added

pub returns-in-None-clause-stands : goal.returns-in-None-clause-stands
returns-in-None-clause-stands c = λ x e at accepted gave. goes_on c.args.self.now x e at (sym c.in-None.is ∙ c.first_tick.ensures.exact ∙ ap first_tick gave)
