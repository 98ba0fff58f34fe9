use Rattle.std.proofs.Common.{◌≡◌, ◌∙◌, ◌∷◌, None, sym, subst, arith}
use Rattle.record_lines.specs.Passing.{IsTickOn, ticks_after}
use Rattle.record_lines.proofs.PassLaws.{none_of, one_more, told_later}
use Rattle.record_lines.proofs.receiver.Receiver.tick_until.Goals as goal

pub loop-preserved : goal.loop-preserved
loop-preserved g c =
    let told = c.tick-told in
    let none : told.result ≡ None = none_of told.result (sym c.is_some.ensures ∙ c.if-is_some.false) in
    let kept = c.loop.invariant in
    let due = c.if-time_us-self.false in (
      omega (arith, kept.0, told.ensures.later),
      omega (arith, told.ensures.now, due),
      told.ensures.set ∙ kept.2,
      λ made start calls is.
          let had = kept.3 made start calls is in (
            c.loop.self.due_us ∷ had.0,
            one_more c.args.self.now made start calls c.loop.self told.new.self had.0 had.1
                (subst (λ o. IsTickOn c.loop.self told.new.self o made start (ticks_after had.0 calls)) none (told.ensures.ticks made start (ticks_after had.0 calls) had.1.is)),
          ),
      omega (arith, kept.4, told.ensures.ticked, c.loop.self.soonest),
    )

pub returns-then-time_us-self-clause-later : goal.returns-then-time_us-self-clause-later
returns-then-time_us-self-clause-later g c = c.loop.invariant.4

pub returns-then-is_some-clause-later : goal.returns-then-is_some-clause-later
returns-then-is_some-clause-later g c =
    told_later c.args.self.now c.tick-told.new.self c.tick-told.result (omega (arith, c.loop.invariant.4, c.tick-told.ensures.ticked, c.loop.self.soonest))

pub returns-clause-later : goal.returns-clause-later
returns-clause-later g c = c.loop.invariant.4
