use Rattle.std.proofs.Common.{List, ◌++◌, ◌∙◌, All, length, ap, sym, subst}
use Rattle.std.specs.Prelude.{reverse, string_bytes}
use Rattle.irig_station.specs.ValidEntries.{IsOfDevice}
use Rattle.irig_station_scene.specs.StationScenes.{newest_first}
use Rattle.irig_station_scene.proofs.EventLaws.{entries_known, newest_joins}
use Rattle.report_log.specs.Text.{texts_of}
use Rattle.report_found.specs.declared.finding.Finding.{Finding}
use Rattle.report_blame.specs.DeviceRuns.{HasSeen}
use Rattle.report_blame.specs.Text.{findings_text}
use Rattle.report_blame.proofs.DeviceLaws.{ends_say}
use Rattle.report_blame.proofs.observer.ObserverStationListener.push_event.Goals as goal

pub returns-clause-said : goal.returns-clause-said
returns-clause-said g c = λ x e at happened.
    let s = x.plan.setup in
    let seen = c.in_ok-take_all.ensures.seen s _ _ (newest_first x) happened.stands (subst (All (IsOfDevice (length s.devices))) (sym happened.logged) (entries_known x e)) at in
    ends_say c.args.asked.now _ x e _ _ _ _ happened.named happened.logged seen
    (c.in_ok-push_findings.ensures ∙ ap (λ (found : List Finding). string_bytes c.args.text.now ++ findings_text c.args.asked.now (texts_of c.args.names.now.keys) found) c.deref.ensures.value)

pub returns-clause-stands : goal.returns-clause-stands
returns-clause-stands g c = λ x e at happened.
    let s = x.plan.setup in
    let seen = c.in_ok-take_all.ensures.seen s _ _ (newest_first x) happened.stands (subst (All (IsOfDevice (length s.devices))) (sym happened.logged) (entries_known x e)) at in
    subst (HasSeen _ s) (ap (λ es. reverse es ++ newest_first x) happened.logged ∙ sym (newest_joins x e)) seen.seen
