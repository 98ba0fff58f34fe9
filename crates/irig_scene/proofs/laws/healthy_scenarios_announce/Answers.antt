use Rattle.irig_scene.proofs.HealthyRuns.{means_seconds, is_taken, is_announced, writes_healthy_log, has_line}
use Rattle.irig_scene.proofs.laws.healthy_scenarios_announce.Goals as goal

pub returns-clause-meaning : goal.returns-clause-meaning
returns-clause-meaning _ = λ x plan n bytes second. means_seconds plan x n bytes (is_taken plan x n bytes second)

pub returns-clause-log : goal.returns-clause-log
returns-clause-log _ = λ x all plan n run. writes_healthy_log plan x all n run.bytes (is_announced plan x n run)

pub returns-clause-lines : goal.returns-clause-lines
returns-clause-lines _ = λ x all plan n r k run known late to. has_line plan x all n r k run.bytes (is_announced plan x n run) run.second known late to
