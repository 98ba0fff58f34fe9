-- A stamp that a line asks for is of an instant at most four seconds ago.
use Rattle.std.proofs.Common.{◌≡◌, ◌≤◌, ℕ, List, Option, Some, None, Result, Ok, Err, refl, subst}
use Rattle.std.specs.Prelude.{⊤}
use Rattle.std.proofs.lemmas.Option.{option_and_then_some}
use Rattle.serde_json.specs.Data.{Data}
use Rattle.text_faults.specs.declared.refusal.Refusal.{Refusal}
use Rattle.text_faults.specs.declared.refusal.Refusal.TheVariants.{Json, Shape, Value}
use Rattle.text_faults.specs.Refusals.{or_else, holds_or, ◌>>=◌}
use Rattle.scenario_json.specs.Fields.{has_form, natural_at}
use Rattle.scenario_json.specs.Json.{json_of, natural_within, whole_at}
use Rattle.scenario_values.specs.Forms.{g, n, width}
use Rattle.scenario_values.proofs.ValueLaws.{within}
use Rattle.scenario_line.specs.EventLine.{fault_of_form, natural_or_refusal, reader_in}
use Rattle.irig_station.specs.declared.event.Event.{Event}
use Rattle.irig_station.specs.StationPromise.{IsAskedWithin}
use Rattle.scenario_devices.specs.declared.station_form.StationAction.{StationAction}
use Rattle.scenario_devices.specs.declared.station_form.StationAction.TheVariants as action
use Rattle.scenario_devices.specs.StationEvents.{event_in_station_line, event_in_station_object, station_event_of}
use Rattle.scenario_devices.specs.StationForms.{ago_key, lateness_us, passing_us, station_action_of, station_keys_of}

abbrev AskedIf : Result Event Refusal → Type 0
AskedIf (Ok e) = IsAskedWithin 4000000 e
AskedIf (Err k) = ⊤

next : {A : Type 0} (r : Result A Refusal) (f : A → Result Event Refusal) → ((x : A) → r ≡ Ok x → AskedIf (f x)) → AskedIf (r >>= f)
next (Ok x) f h = h x refl
next (Err k) f h = tt

found : (o : Option ℕ) (us : ℕ) → or_else Value o ≡ Ok us → o ≡ Some us
found None us e = absurd cc
found (Some x) us e = cc

ago_in_range : (d : Data) (us : ℕ) → natural_or_refusal ago_key d ≡ Ok us → us ≤ 4000000
ago_in_range d us e = option_and_then_some (natural_within 0 4000000) (whole_at _ d) us (found (natural_at ago_key d) us e) (λ z is inside. (within 0 4000000 z us inside).1)

of_form : (names : List (List ℕ)) (a : StationAction) (d : Data) → AskedIf (station_event_of names a d)
of_form names action.Pass d = next (natural_or_refusal passing_us d) _ (λ us e. tt)
of_form names action.Seconds d = next (natural_or_refusal n d) _ (λ count e. tt)
of_form names (action.Fault kind) d = next (natural_or_refusal g d) _ (λ generator e. next (fault_of_form kind d) _ (λ fault f. tt))
of_form names action.Repair d = next (natural_or_refusal g d) _ (λ generator e. tt)
of_form names action.Pull d = next (natural_or_refusal g d) _ (λ generator e. next (reader_in names d) _ (λ device f. tt))
of_form names action.Plug d = next (natural_or_refusal g d) _ (λ generator e. next (reader_in names d) _ (λ device f. tt))
of_form names action.Late d = next (natural_or_refusal g d) _ (λ generator e. next (natural_or_refusal lateness_us d) _ (λ us f. next (reader_in names d) _ (λ device h. tt)))
of_form names action.Pulse d = next (natural_or_refusal g d) _ (λ generator e. next (natural_or_refusal width d) _ (λ us f. next (reader_in names d) _ (λ device h. tt)))
of_form names action.Tick d = next (reader_in names d) _ (λ device e. tt)
of_form names action.Restart d = next (reader_in names d) _ (λ device e. tt)
of_form names action.Stamp d = next (natural_or_refusal ago_key d) _ (λ us e. next (reader_in names d) _ (λ device f. ago_in_range d us e))

in_object : (names : List (List ℕ)) (d : Data) → AskedIf (event_in_station_object names d)
unfolding event_in_station_object
in_object names d = next (or_else Shape (station_action_of d)) _ (λ a e. next (holds_or Shape (has_form (station_keys_of a) d)) _ (λ formed f. of_form names a d))

in_line : (names : List (List ℕ)) (line : List ℕ) → AskedIf (event_in_station_line names line)
unfolding event_in_station_line
in_line names line = next (or_else Json (json_of line)) _ (λ d e. in_object names d)

pub asked_in_line : (names : List (List ℕ)) (line : List ℕ) (e : Event) → event_in_station_line names line ≡ Ok e → IsAskedWithin 4000000 e
asked_in_line names line e h = subst AskedIf h (in_line names line)
