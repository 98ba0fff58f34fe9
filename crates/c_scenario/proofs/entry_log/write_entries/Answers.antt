use Rattle.std.proofs.Common.{◌≡◌, ◌∙◌, length, sym, ap, rules}
use Rattle.c_scenario.specs.Entries.{lined}
use Rattle.c_scenario.specs.Runs.{written_over}
use Rattle.c_scenario.proofs.EntryLaws.{kept_entries, kept_count, none_kept, none_over}
use Rattle.c_scenario.proofs.entry_log.write_entries.Goals as goal

pub returns-in-Some-clause-entries : goal.returns-in-Some-clause-entries
returns-in-Some-clause-entries c = λ text h whole.
    let log = c.in-Some.log in
    c.write_lined.ensures ∙ ap (written_over c.args.room.now)
    (ap (λ starts. lined starts 0 c.deref.result.now) c.deref-in-Some.ensures.value ∙ ap (lined c.args.run.now.starts.items 0) c.deref.ensures.value ∙ kept_entries text c.args.run.now h whole log c.in-Some.is)

pub returns-in-Some-clause-count : goal.returns-in-Some-clause-count
returns-in-Some-clause-count c = λ text h whole.
    let count : c.len.result ≡ length c.in-Some.log.entries.items = search rules in
    count ∙ kept_count text c.args.run.now h whole c.in-Some.log c.in-Some.is

pub returns-in-None-clause-entries : goal.returns-in-None-clause-entries
returns-in-None-clause-entries c = λ text h whole. none_over text c.args.run.now h whole c.args.room.now c.in-None.is

pub returns-in-None-clause-count : goal.returns-in-None-clause-count
returns-in-None-clause-count c = λ text h whole. sym (ap length (none_kept text c.args.run.now h whole c.in-None.is))
