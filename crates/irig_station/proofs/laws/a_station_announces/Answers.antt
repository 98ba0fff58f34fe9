use Rattle.irig_station.proofs.AnnounceLaws.{station_announces}
use Rattle.irig_station.proofs.KeptDevices.{kept_announces}
use Rattle.irig_station.proofs.laws.a_station_announces.Goals as goal

pub returns-clause-kept : goal.returns-clause-kept
returns-clause-kept _ s ev r m calls before u is kept in_time are counted whole follows second =
    kept_announces s ev r m calls before u is kept in_time are counted whole follows second

pub returns-clause-calls : goal.returns-clause-calls
returns-clause-calls _ s ev r m calls before u fresh is in_time are counted come follows second =
    station_announces s ev r m calls before u fresh is in_time are counted come follows second
