use Rattle.std.proofs.Common.{◌∙◌, Some, None, sym, append-nil}
use Rattle.c_scenario.proofs.EntryLaws.{kept_after}
use Rattle.c_scenario.proofs.entry_log.EntryLogListener.push_event.Goals as goal

pub returns-in_ok-push-clause-stands : goal.returns-in_ok-push-clause-stands
returns-in_ok-push-clause-stands g c = λ x at taken gave.
    kept_after c.args.self.now.entries.items c.push.new.self.items x c.args._event.now c.args.entries.now (Some c.in-Some.entry) at gave
    (sym c.in-Some.is ∙ c.first_entry.ensures) c.in_ok-push.ensures.items

pub returns-in_default-clause-stands : goal.returns-in_default-clause-stands
returns-in_default-clause-stands g c = λ x at taken gave.
    kept_after c.args.self.now.entries.items c.args.self.now.entries.items x c.args._event.now c.args.entries.now None at gave
    (sym c.in_default.is ∙ c.first_entry.ensures) (sym (append-nil c.args.self.now.entries.items))
