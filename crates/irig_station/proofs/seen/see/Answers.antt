use Rattle.std.proofs.Common.{◌∙◌, ◌++◌, List, ap, map}
use Rattle.irig_simulated.specs.declared.told_second.ToldSecond.{ToldSecond}
use Rattle.irig_station.specs.declared.entry.Entry.{Entry}
use Rattle.irig_station.specs.declared.entry.Entry.TheVariants.{Told}
use Rattle.irig_station.proofs.seen.see.Goals as goal

pub returns-clause-logged : goal.returns-clause-logged
returns-clause-logged g c k symbol x is =
    c.in_ok-log_told.ensures.logged ∙ ap (λ (l : List ToldSecond). c.args.log.now.items ++ map {B = Entry} (λ told. Told c.args.r told) l) (c.told.ensures.value k symbol x is)

pub returns-clause-valid : goal.returns-clause-valid
returns-clause-valid g c = c.log_told.ensures.valid
