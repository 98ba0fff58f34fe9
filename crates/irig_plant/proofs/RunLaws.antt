-- A run, one event further.
use Rattle.std.proofs.Common.{◌≡◌, ℕ, ◌+◌, ◌<◌, List, [], ◌∷◌, ◌++◌, None, take, length, get_or, refl, sym, subst, ap, ◌∙◌}
use Rattle.std.specs.Prelude.{slice_get, IfSome}
use Rattle.std.proofs.lemmas.List.{take_more}
use Rattle.std.proofs.lemmas.Option.{slice_get-get_or}
use Rattle.irig_port.specs.declared.port.Port.{Ghosts}
use Rattle.irig_plant.specs.declared.event.Event.{Event}
use Rattle.irig_plant.specs.declared.fault.PlantFault.{PlantFault}
use Rattle.irig_plant.specs.declared.plant.Plant.{Plant}
use Rattle.irig_plant.specs.Schedule.{Setup}
use Rattle.irig_plant.specs.Refusals.{refusal}
use Rattle.irig_plant.specs.Runs.{events_after, AreAccepted, IsRefused}
use Rattle.irig_plant.specs.History.{HasPlantHistory, PlantHistory, with_event, with_events}

played-push : (es : List Event) (e : Event) (ev : List Event) → events_after (es ++ e ∷ []) ev ≡ e ∷ events_after es ev
played-push [] e ev = refl
played-push (x ∷ es) e ev = played-push es e (x ∷ ev)

AreAccepted-push : (s : Setup) (es : List Event) (e : Event) (ev : List Event) → AreAccepted s es ev → refusal s e (events_after es ev) ≡ None → AreAccepted s (es ++ e ∷ []) ev
AreAccepted-push s [] e ev h r = (r, tt)
AreAccepted-push s (x ∷ es) e ev h r = (h.0, AreAccepted-push s es e (x ∷ ev) h.1 r)

one_more : (events : List Event) (i : ℕ) (e : Event) → e ≡ get_or events i e → i < length events → take (i + 1) events ≡ take i events ++ e ∷ []
one_more events i e v l = take_more events i e l ∙ ap (λ x. take i events ++ x ∷ []) (sym v)

pub accepted_step : (h : PlantHistory) (events : List Event) (i : ℕ) (e : Event) → e ≡ get_or events i e → i < length events
    → AreAccepted h.setup (take i events) h.events → refusal h.setup e (events_after (take i events) h.events) ≡ None → AreAccepted h.setup (take (i + 1) events) h.events
accepted_step h events i e v l a r = rw (one_more events i e v l) (AreAccepted-push h.setup (take i events) e h.events a r)

pub stands_step : {P : Type 0} {g : Ghosts P} (p : Plant P g) (h : PlantHistory) (events : List Event) (i : ℕ) (e : Event) → e ≡ get_or events i e → i < length events
    → HasPlantHistory p (with_event e (with_events (take i events) h)) → HasPlantHistory p (with_events (take (i + 1) events) h)
stands_step p h events i e v l s =
    rw (one_more events i e v l) (subst (λ (ev : List Event). HasPlantHistory p (record h { events = ev })) (sym (played-push (take i events) e h.events)) s)

-- the event at which a run ends
pub refused_at : (s : Setup) (events : List Event) (i : ℕ) (e : Event) (ev : List Event) (f : PlantFault) → e ≡ get_or events i e → i < length events
    → IsRefused s e ev f → IfSome (slice_get events i) (λ x. IsRefused s x ev f)
refused_at s events i e ev f v l r = rw (slice_get-get_or events i e l, ← v) r
