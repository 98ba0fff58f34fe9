use Rattle.std.proofs.Common.{◌∙◌, ℕ, refl, ap}
use Rattle.irig_witness.specs.Watches.{kept_at_tick}
use Rattle.irig_witness.proofs.WatchLaws.{ticks_on}
use Rattle.irig_witness.proofs.watch.Watch.tick.Goals as goal

pub returns : goal.returns
returns c x start calls is =
    ticks_on c.args.self.now c.args.clock.now x start calls is _ c.args.now (λ line. refl) refl
    (c.kept_at_tick-self.ensures ∙ ap (λ (f : ℕ). kept_at_tick c.args.self.now f c.args.now) c.f.ensures)
