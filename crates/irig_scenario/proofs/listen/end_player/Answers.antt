use Rattle.std.proofs.Common.{◌∙◌, Some, ap}
use Rattle.irig_scenario.proofs.ListenLaws.{of_devices, of_readers}
use Rattle.irig_scenario.proofs.listen.end_player.Goals as goal

pub returns-in-Some-First-clause-listener : goal.returns-in-Some-First-clause-listener
returns-in-Some-First-clause-listener g c = λ asked at stands.
    of_readers {g = g.P.Port} g.M.StationListener.hears (g.L.Listener.stands_for asked) (g.M.StationListener.stands_for asked) _ _ _ at (c.in-Some-First.is ∙ ap Some c.in-Some-First.field-0-is) c.end-listener.ensures.listener stands

pub returns-in-Some-Second-clause-listener : goal.returns-in-Some-Second-clause-listener
returns-in-Some-Second-clause-listener g c = λ asked at stands.
    of_devices {g = g.P.Port} g.M.StationListener.hears (g.L.Listener.stands_for asked) (g.M.StationListener.stands_for asked) _ _ _ at (c.in-Some-Second.is ∙ ap Some c.in-Some-Second.field-0-is) c.into_parts-listener.ensures stands
