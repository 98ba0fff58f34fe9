use Rattle.std.proofs.Common.{All, sym, subst}
use Rattle.irig_station.specs.ValidEntries.{IsValidEntry}
use Rattle.irig_station.proofs.UtcEntries.{all_entries}
use Rattle.irig_station.proofs.station.Station.log.Goals as goal

pub returns-clause-valid : goal.returns-clause-valid
returns-clause-valid g c =
    subst (All IsValidEntry) (sym c.as_slice.ensures.value) (all_entries c.args.self.now.log.items c.args.self.now.valid)
