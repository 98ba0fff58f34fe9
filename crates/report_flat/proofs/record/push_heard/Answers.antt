use Rattle.std.proofs.Common.{◌∷◌, ◌++◌, ◌∙◌, [], length, ap, sym, append-nil}
use Rattle.std.specs.Prelude.{string_bytes, unwrap_or}
use Rattle.report_log.specs.Text.{texts_of}
use Rattle.irig_plant.specs.Schedule.{log_of}
use Rattle.irig_scene.proofs.LogLaws.{on_ok}
use Rattle.report_flat.specs.FlatText.{heard_text}
use Rattle.report_flat.proofs.BroughtLaws.{brought}
use Rattle.report_flat.proofs.record.push_heard.Goals as goal

pub returns-in-Some : goal.returns-in-Some
returns-in-Some g c = on_ok c.push_some-in-Some.result _ _ (λ pushed x taken.
    let e = c.args.event.now in
    let names = texts_of c.args.names.now.keys in
    let text = brought names x.plan.setup e x.events c.in-Carry.g c.in-Carry.r c.in-Some.widths c.in-Carry.is taken.accepted
    (λ accepted. ap (λ o. unwrap_or o []) (sym c.in-Some.is)
    ∙ c.frame_brought.ensures (record { setup = x.plan.setup; events = e ∷ x.events; shown = length (log_of x.plan.setup x.events) }) taken.stands accepted) in
    pushed ∙ ap (λ t. string_bytes c.args.text.now ++ t) (text ∙ ap (λ names. heard_text names x.plan.setup e x.events) taken.named)) c.push_some-in-Some.ensures

pub returns-in-None : goal.returns-in-None
returns-in-None g c = λ x taken.
    let e = c.args.event.now in
    let names = texts_of c.args.names.now.keys in
    let text = brought names x.plan.setup e x.events c.in-Carry.g c.in-Carry.r [] c.in-Carry.is taken.accepted
    (λ accepted. ap (λ o. unwrap_or o []) (sym c.in-None.is)
    ∙ c.frame_brought.ensures (record { setup = x.plan.setup; events = e ∷ x.events; shown = length (log_of x.plan.setup x.events) }) taken.stands accepted) in
    sym (append-nil (string_bytes c.args.text.now)) ∙ ap (λ t. string_bytes c.args.text.now ++ t) (text ∙ ap (λ names. heard_text names x.plan.setup e x.events) taken.named)
