use Rattle.record_pulses.proofs.GlitchLaws.{ripe_comes}
use Rattle.record_pulses.proofs.steady.Steady.let_out.Goals as goal
use Rattle.std.proofs.Common.{rules}

pub returns-clause-ripe : goal.returns-clause-ripe
returns-clause-ripe c now rest =
    ripe_comes c.args.self.now c.in_ok-first.first now rest (search rules)
