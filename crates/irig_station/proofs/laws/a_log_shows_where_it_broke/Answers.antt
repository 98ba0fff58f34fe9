use Rattle.irig_station.proofs.BreakLaws.{logged_late}
use Rattle.irig_station.proofs.laws.a_log_shows_where_it_broke.Goals as goal

pub returns : goal.returns
returns _ s ev ago r n is asked broke = logged_late s ago is ev r n asked broke
