use Rattle.std.proofs.Common.{take, subst}
use Rattle.std.specs.Prelude.{reverse}
use Rattle.std.proofs.lemmas.List.{take_all}
use Rattle.report_blame.proofs.DeviceLaws.{newest_more}
use Rattle.report_blame.specs.DeviceRuns.{HasSeenSince}
use Rattle.report_blame.proofs.observer.Observer.take_all.Goals as goal

pub loop-entry-preserved : goal.loop-entry-preserved
loop-entry-preserved g c = (
  λ s x shown before stands known at.
      let i = c.loop-entry.entry-index in
      let es = c.args.entries.now in
      subst (HasSeenSince c.take.new.self s before) (newest_more es i _ c.loop-entry-test.true)
      (c.in_ok-take.ensures.seen s x shown before (reverse (take i es)) stands (known i _ c.loop-entry-test.true) (c.loop-entry.invariant.0 s x shown before stands known at)),
  c.in_ok-take.ensures.sound c.loop-entry.invariant.1,
)

pub returns-clause-seen : goal.returns-clause-seen
returns-clause-seen g c = λ s x shown before stands known at.
    let es = c.args.entries.now in
    subst (λ l. HasSeenSince c.loop-entry.self s before (reverse l)) (take_all c.loop-entry.entry-index es c.loop-entry-test.false)
    (c.loop-entry.invariant.0 s x shown before stands known (record { book = at.book; reaches = at.reaches }))

pub returns-clause-sound : goal.returns-clause-sound
returns-clause-sound g c = c.loop-entry.invariant.1
