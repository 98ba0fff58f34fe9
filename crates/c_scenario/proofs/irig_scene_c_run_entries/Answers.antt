use Rattle.std.proofs.Common.{◌≡◌, rules}
use Rattle.irig_scene.specs.Scene.{audit_in}
use Rattle.c_scenario.specs.Entries.{verdict_by}
use Rattle.c_scenario.proofs.TrueEntryLaws.{true_if_kept, true_until_broken}
use Rattle.c_scenario.proofs.irig_scene_c_run_entries.Goals as goal

pub returns-clause-truth : goal.returns-clause-truth
returns-clause-truth c = λ done one at is.
    let same : c.verdict_for_c.result ≡ verdict_by (audit_in at) = search rules in
    true_if_kept c.args.text.now c.verdict_for_c.result at is same one

pub returns-clause-truth_until_broken : goal.returns-clause-truth_until_broken
returns-clause-truth_until_broken c = λ done two at is.
    let same : c.verdict_for_c.result ≡ verdict_by (audit_in at) = search rules in
    true_until_broken c.args.text.now c.verdict_for_c.result at is same two
