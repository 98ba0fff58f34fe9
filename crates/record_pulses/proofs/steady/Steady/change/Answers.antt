use Rattle.record_pulses.proofs.GlitchLaws.{begins_anew, comes_out, is_left_out}
use Rattle.record_pulses.proofs.steady.Steady.change.Goals as goal
use Rattle.record_pulses.proofs.steady.Steady.change.Goals.{then-self, else-self}
use Rattle.std.proofs.Common.{rules}

pub returns-in-Some : goal.returns-in-Some
returns-in-Some c rest =
    comes_out c.args.self.now c.in-Some.first c.args.edge rest (search rules) (search rules) (search rules)

pub returns-after-self : goal.returns-after-self
returns-after-self c rest = elim c.if-self.branch [
  | then-self w ↦ rw w.self-is (is_left_out c.args.self.now c.in-Some.first c.args.edge rest (search rules) (search rules) (search rules) (search rules))
  | else-self w ↦ rw w.self-is (begins_anew c.args.self.now c.in-Some.first c.args.edge rest (search rules) (search rules) (search rules) (search rules))
]
