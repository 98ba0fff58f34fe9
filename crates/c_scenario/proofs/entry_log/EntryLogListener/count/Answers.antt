use Rattle.std.proofs.Common.{◌≡◌, ◌∙◌, length, rules}
use Rattle.c_scenario.proofs.EntryLaws.{count_kept}
use Rattle.c_scenario.proofs.entry_log.EntryLogListener.count.Goals as goal

pub returns : goal.returns
returns c = λ asked x counts at.
    let count : c.len.result ≡ length c.args.self.now.entries.items = search rules in
    count ∙ count_kept c.args.self.now.entries.items x at
