use Rattle.std.proofs.Common.{rules, ◌≡◌, ◌+◌, ◌-◌, ◌∙◌, ap}
use Rattle.std.specs.List.{list_all, range_with_len}
use Rattle.irig_time.specs.declared.second.TheConstants.{LAST_DAY}
use Rattle.irig_plant.specs.Audits.{agrees_on, is_true_table}
use Rattle.irig_plant.proofs.audit.is_true_table.Goals as goal

pub returns-in-Some-clause-value : goal.returns-in-Some-clause-value
unfolding is_true_table
returns-in-Some-clause-value c =
    let t = c.args.timeline.now in
    let first : c.in-Some.start.day ≡ t.start.day = search rules in
    c.agrees_from.ensures ∙ ap (λ day. list_all (agrees_on t c.args.table.now) (range_with_len day (LAST_DAY + 1 - day))) first
