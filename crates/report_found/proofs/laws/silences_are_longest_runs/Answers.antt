use Rattle.report_found.proofs.SilenceLaws.{silence_is_longest}
use Rattle.report_found.proofs.laws.silences_are_longest_runs.Goals as goal

pub returns : goal.returns
returns _ = silence_is_longest
