use Rattle.std.proofs.Common.{◌∙◌, ◌∷◌, ◌%◌, ◌^◌, sym, refl, ap}
use Rattle.irig_timekeeper.specs.Keeping.{wait_at}
use Rattle.irig_timekeeper.specs.Life.Call.{Hear}
use Rattle.irig_timekeeper.specs.Lived.{keeping_after}
use Rattle.record_lines.specs.Times.{asked_at, next_tick}
use Rattle.record_lines.proofs.HearLaws.{due_else, due_then, hears_on}
use Rattle.record_lines.proofs.ToldLaws.{asks}
use Rattle.record_lines.proofs.receiver.Receiver.hear.Goals as goal

pub returns-then-place-eq100-clause-hears : goal.returns-then-place-eq100-clause-hears
returns-then-place-eq100-clause-hears g c =
    let old = c.args.self.now in
    let line = c.args.line in
    let width = c.args.width_us in
    let risen = c.in-Some.rise in
    hears_on old _ line c.args.rise_us width c.hear-place.result risen c.low.result (sym c.told_rise.ensures.value ∙ c.in-Some.is) refl refl refl c.set.ensures
    c.low.ensures c.in-Some.ensures.low c.hear-place.ensures.place (λ made calls at lived is. c.hear-place.ensures.lived made calls at lived is)
    (λ made start calls is lived.
    let then = Hear line risen width ∷ calls in
    due_then c.hear-place.result c.next_tick-self.result (asked_at made start then old.now_us) old.due_us c.if-place-eq100.true
    (c.next_tick-self.ensures ∙ ap (next_tick old.ticked_us old.now_us) (asks c.hear-place.new.self made then lived c.wait-wait_us.result c.low-then-place-eq100.result old.now_us c.wait-wait_us.ensures.value c.low-then-place-eq100.ensures)
    ∙ ap (λ n. next_tick n old.now_us (wait_at (keeping_after made then) (old.now_us % 2 ^ 32))) is.ticked))

pub returns-else-place-eq100-clause-hears : goal.returns-else-place-eq100-clause-hears
returns-else-place-eq100-clause-hears g c =
    let old = c.args.self.now in
    let line = c.args.line in
    let width = c.args.width_us in
    let risen = c.in-Some.rise in
    hears_on old _ line c.args.rise_us width c.hear-place.result risen c.low.result (sym c.told_rise.ensures.value ∙ c.in-Some.is) refl refl refl c.set.ensures
    c.low.ensures c.in-Some.ensures.low c.hear-place.ensures.place (λ made calls at lived is. c.hear-place.ensures.lived made calls at lived is)
    (λ made start calls is lived. due_else c.hear-place.result (asked_at made start (Hear line risen width ∷ calls) old.now_us) old.due_us c.if-place-eq100.false)
