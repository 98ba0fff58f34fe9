use Rattle.std.proofs.Common.{◌≡◌, ◌∙◌, [], ◌∷◌, ◌++◌, ap, map, take}
use Rattle.std.proofs.lemmas.List.{take_all}
use Rattle.c_scenario.specs.Told.{device_entry_for}
use Rattle.c_scenario.proofs.ToldLaws.{told_more}
use Rattle.c_scenario.proofs.told_log.push_told.Goals as goal

pub loop-entry-preserved : goal.loop-entry-preserved
loop-entry-preserved c =
    told_more c.args.entries.now c.loop-entry.entry-index _ c.args.told.now.items c.loop-entry.told.items c.push.new.self.items c.loop-entry-test.true c.loop-entry.invariant
    (c.in_ok-push.ensures.items ∙ ap (λ e. c.loop-entry.told.items ++ e ∷ []) c.device_entry_for_c.ensures)

pub returns : goal.returns
returns c = c.loop-entry.invariant ∙ ap (λ es. c.args.told.now.items ++ map device_entry_for es) (take_all c.loop-entry.entry-index c.args.entries.now c.loop-entry-test.false)
