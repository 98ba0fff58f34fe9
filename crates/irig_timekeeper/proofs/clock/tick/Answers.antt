use Rattle.std.specs.Prelude.{IfSome}
use Rattle.std.proofs.Common.{sym, ap, subst, Option}
use Rattle.irig_time.specs.Seconds.{IsValid}
use Rattle.irig_lines.specs.declared.lines.Vote.{Vote}
use Rattle.irig_timekeeper.specs.declared.clock.ClockState.{ClockState}
use Rattle.irig_lines.specs.Steps.{AreKeptOfUtc, settled}
use Rattle.irig_lines.proofs.ValidLines.{settled_valid, agreed_valid}
use Rattle.irig_timekeeper.proofs.clock.tick.Goals as goal

pub tick_by_vote-requires-clause-valid : goal.tick_by_vote-requires-clause-valid
tick_by_vote-requires-clause-valid g c =
    subst (λ (o : Option Vote). IfSome o (λ v. IsValid v.claim.at)) (sym c.in-Some.ensures.vote) (agreed_valid c.args.rules.now c.args.now_us (settled c.args.now_us c.args.state.now.lines) (settled_valid c.args.now_us c.args.state.now.lines c.requires.valid))

pub tick_alone-requires-clause-valid : goal.tick_alone-requires-clause-valid
tick_alone-requires-clause-valid g c = subst AreKeptOfUtc (sym (ap (λ (s : ClockState). s.lines) c.settle_clock.ensures.after)) (settled_valid c.args.now_us c.args.state.now.lines c.requires.valid)

pub tick_by_vote-requires-clause-lines : goal.tick_by_vote-requires-clause-lines
tick_by_vote-requires-clause-lines g c = subst AreKeptOfUtc (sym (ap (λ (s : ClockState). s.lines) c.settle_clock.ensures.after)) (settled_valid c.args.now_us c.args.state.now.lines c.requires.valid)
