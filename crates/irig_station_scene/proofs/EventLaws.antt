-- What an event line gives, and what is said of it.
use Rattle.std.proofs.Common.{◌≡◌, ◌∙◌, ℕ, Bool, List, [], ◌∷◌, ◌++◌, All, length, Option, Some, None, Result, Ok, Err, refl, ap, sym, subst, inl, inr, append_assoc}
use Rattle.std.specs.Prelude.{OnOk, drop, option_and_then, reverse}
use Rattle.std.specs.Io.KnownBytes.{Appends}
use Rattle.std.proofs.KnownBytes.{Appends-nil}
use Rattle.std.proofs.Math.Seq.{drop-append_seam}
use Rattle.std.proofs.lemmas.Grind.{flat_map-append}
use Rattle.std.proofs.lemmas.List.{reverse-append}
use Rattle.std.proofs.lemmas.List.Elements.{All-drop}
use Rattle.irig_port.specs.declared.port.Port.{Ghosts}
use Rattle.irig_device.specs.Watched.{AppendsPart}
use Rattle.text_faults.specs.declared.refusal.LineFault.{LineFault}
use Rattle.text_faults.specs.declared.refusal.LineFault.TheVariants as line_fault
use Rattle.text_faults.specs.declared.refusal.Refusal.{Refusal}
use Rattle.text_faults.specs.Refusals.{IsUnlessMemory}
use Rattle.irig_station.specs.declared.entry.Entry.{Entry}
use Rattle.irig_station.specs.declared.event.Event.{Event}
use Rattle.irig_station.specs.declared.fault.StationFault.{StationFault}
use Rattle.irig_station.specs.declared.station.Station.{Station}
use Rattle.irig_station.specs.Stations.{HasPlayed, IsStationAt, LetGo}
use Rattle.irig_station.specs.ValidEntries.{IsOfDevice}
use Rattle.irig_station.proofs.DeviceEntries.{each_is_of_a_device}
use Rattle.irig_station.proofs.GrowthLaws.{grows}
use Rattle.scenario_devices.specs.StationEvents.{event_in_station_line}
use Rattle.scenario_devices.specs.StationLine.{StationPlan}
use Rattle.irig_station_scene.specs.StationText.{station_entry_text, station_text}
use Rattle.report_run.specs.declared.stop.Failure.{Failure}
use Rattle.report_run.specs.declared.stop.Stop.{Stop}
use Rattle.report_run.specs.declared.stop.Stop.TheVariants.{Refused, Failed}
use Rattle.report_run.specs.Faults.{stop_of}
use Rattle.report_run.specs.Meanings.{Next, step_of_next}
use Rattle.report_run.specs.Runs.{IsAt, Took}
use Rattle.report_run.specs.Texts.{Texts, text_of}
use Rattle.report_run.proofs.TakenLaws.{nothing_more}
use Rattle.irig_station_scene.specs.declared.player.StationPlayer.{StationPlayer}
use Rattle.irig_station_scene.specs.StationListening.{SaysMore, StaysBehind, entries_by}
use Rattle.irig_station_scene.specs.StationScenes.{StationScene, event_in_scene, newest_first, next_in_scene, refusal_of_fault, standing_in, station_log, station_scene, station_step}
use Rattle.irig_station_scene.specs.StationStays.{stays_in_lines}
use Rattle.irig_station_scene.specs.StationTexts.{log_in_scene, station_texts}
use Rattle.irig_station_scene.specs.StationRuns.{IsStationPlayerAt}

-- ---- a refused event

-- by the fault of the station
pub refused_by : {P : Type 0} {g : Ghosts P} (p : Station P g) (x : StationScene) (e : Event) (shown : LetGo) (fault : StationFault) (k : Refusal) → refusal_of_fault fault ≡ Some k
    → HasPlayed p x.plan.setup (station_step x e) shown (Err fault) → ((event_in_scene x e).refusal ≡ Some k) × IsStationAt p x.plan.setup (station_step x e).standing shown
refused_by p x e shown fault k named (inl memory) = let none : None ≡ Some k = sym (ap refusal_of_fault memory) ∙ named in absurd cc
refused_by p x e shown fault k named (inr (refused, stands)) = (ap (option_and_then refusal_of_fault) refused ∙ named, stands)

pub on_ok : {A E : Type 0} (r : Result A E) (P Q : Type 0) → (P → Q) → OnOk r P → OnOk r Q
on_ok (Ok a) P Q f h = f h
on_ok (Err e) P Q f h = tt

-- ---- the log

-- before the first event it is empty
pub nothing_said : (all : Bool) (plan : StationPlan) → log_in_scene all (station_scene plan []) ≡ []
unfolding station_text
nothing_said all plan = refl

-- the entries of an event stand behind those before it
pub log_joins : (x : StationScene) (e : Event) → station_log (event_in_scene x e).scene ≡ station_log x ++ entries_by x e
log_joins x e =
    let grown = grows x.plan.setup (standing_in x) e in
    let behind : entries_by x e ≡ grown.more = ap (drop (length (station_log x))) grown.log ∙ drop-append_seam (station_log x) grown.more in
    grown.log ∙ ap (λ l. station_log x ++ l) (sym behind)

-- the newest first, they stand before those
pub newest_joins : (x : StationScene) (e : Event) → newest_first (event_in_scene x e).scene ≡ reverse (entries_by x e) ++ newest_first x
newest_joins x e = ap reverse (log_joins x e) ∙ reverse-append (station_log x) (entries_by x e)

-- each is of a device
pub entries_known : (x : StationScene) (e : Event) → All (IsOfDevice (length x.plan.setup.devices)) (entries_by x e)
entries_known x e =
    All-drop (IsOfDevice (length x.plan.setup.devices)) (length (station_log x)) (station_log (event_in_scene x e).scene)
    (each_is_of_a_device x.plan.setup (e ∷ x.events))

text_joins : (all : Bool) (x : StationScene) (e : Event) → log_in_scene all (event_in_scene x e).scene ≡ log_in_scene all x ++ station_text x.plan.names all (entries_by x e)
unfolding station_text
text_joins all x e =
    let names = x.plan.names in
    ap (station_text names all) (log_joins x e) ∙ flat_map-append (station_entry_text names all) (station_log x) (entries_by x e)

-- what was added to a text is what the log has more
pub log_says : (all : Bool) (x : StationScene) (e : Event) (names : List (List ℕ)) (entries : List Entry) (old new : List ℕ) → names ≡ x.plan.names → entries ≡ entries_by x e
    → new ≡ old ++ station_text names all entries → SaysMore (station_texts all) x (event_in_scene x e).scene old new
log_says all x e names entries old new named logged added = record {
  more = station_text x.plan.names all (entries_by x e);
  said = text_joins all x e;
  added = added ∙ ap (λ (names : List (List ℕ)). old ++ station_text names all entries) named ∙ ap (λ (entries : List Entry). old ++ station_text x.plan.names all entries) logged;
}

-- ---- what an event adds to a text that was empty

pub added_alone : (t : Texts StationScene) (from to : StationScene) (old new : List ℕ) → old ≡ [] → SaysMore t from to old new → t.said to ≡ t.said from ++ new
added_alone t from to old new empty h =
    let same : new ≡ h.more = h.added ∙ ap (λ l. l ++ h.more) empty in
    h.said ∙ ap (λ l. t.said from ++ l) (sym same)

-- ---- a line

-- what is said of a scene, with what is said of the first line before it
joined : (t : Texts StationScene) (first : List ℕ) (x to : StationScene) (more : List ℕ) → t.said to ≡ t.said x ++ more → text_of t first (Some to) ≡ text_of t first (Some x) ++ more
joined t first x to more said = ap (λ l. t.first first ++ l) said ∙ sym (append_assoc (t.first first) (t.said x) more)

module _ {L P : Type 0} {g : Ghosts P} (hears : Bool) (stands_for : L → StationScene → Type 0) (t : Texts StationScene) (stays : StaysBehind t.said) (x : StationScene) (first : List ℕ) where
  -- this was taken so
  abbrev pub Takes : Next StationScene → Result (Unit {0}) Stop → StationPlayer L P g → Option (List ℕ) → Option (List ℕ) → Type 0
  Takes next r p old new = Took (IsStationPlayerAt {L = L} {P = P} {g = g} hears stands_for) t r (step_of_next next) first (Some x) (Some p) old new

  module _ (e : Event) where
    -- nothing was written
    pub event_fails : (f : Failure) (p : StationPlayer L P g) (out : Option (List ℕ)) → Takes (event_in_scene x e) (Err (Failed f)) p out out
    event_fails f p out =
        let front = stays x e in
        record { text = front.0; more = joined t first x _ front.0 front.1; wrote = record { front = []; rest = front.0; whole = refl; wrote = Appends-nil out } }

    module _ (text : List ℕ) (said : t.said (event_in_scene x e).scene ≡ t.said x ++ text) where
      -- a part was written
      pub writing_fails : (f : Failure) (p : StationPlayer L P g) (old new : Option (List ℕ)) → AppendsPart old new text → Takes (event_in_scene x e) (Err (Failed f)) p old new
      writing_fails f p old new h = record { text = text; more = joined t first x _ text said; wrote = h }

      -- all was
      pub event_taken : (p : StationPlayer L P g) (old new : Option (List ℕ)) → (event_in_scene x e).refusal ≡ None → IsStationPlayerAt hears stands_for p (event_in_scene x e).scene
          → Appends old new text → Takes (event_in_scene x e) (Ok tt) p old new
      event_taken p old new accepted stands h = record { refused = accepted; stands = stands; grew = record { text = text; more = joined t first x _ text said; wrote = h } }

      pub event_refused : (k : Refusal) (p : StationPlayer L P g) (old new : Option (List ℕ)) → (event_in_scene x e).refusal ≡ Some k → IsStationPlayerAt hears stands_for p (event_in_scene x e).scene
          → Appends old new text → Takes (event_in_scene x e) (Err (Refused k)) p old new
      event_refused k p old new refused stands h = record { refused = refused; stands = stands; grew = record { text = text; more = joined t first x _ text said; wrote = h } }

  module _ (line : List ℕ) where
    -- it gives this event
    pub of_event : (e : Event) → event_in_station_line x.plan.names line ≡ Ok e → (r : Result (Unit {0}) Stop) (p : StationPlayer L P g) (old new : Option (List ℕ))
        → Takes (event_in_scene x e) r p old new → Takes (next_in_scene x (event_in_station_line x.plan.names line)) r p old new
    of_event e is r p old new h = subst (λ (o : Result Event Refusal). Takes (next_in_scene x o) r p old new) (sym is) h

    -- or none
    pub line_stops : (fault : LineFault) (p : StationPlayer L P g) (out : Option (List ℕ)) → IsUnlessMemory (λ (e : Event). e) (event_in_station_line x.plan.names line) (Err fault)
        → IsStationPlayerAt hears stands_for p x → Takes (next_in_scene x (event_in_station_line x.plan.names line)) (Err (stop_of fault)) p out out
    line_stops (line_fault.Refused k) p out is stands =
        subst (λ (o : Result Event Refusal). Takes (next_in_scene x o) (Err (Refused k)) p out out) (sym is) (record { refused = refl; stands = stands; grew = nothing_more t first (Some x) out })
    line_stops line_fault.Memory p out is stands =
        let front = stays_in_lines t stays x line in
        record { text = front.0; more = joined t first x _ front.0 front.1; wrote = record { front = []; rest = front.0; whole = refl; wrote = Appends-nil out } }

-- ---- a player

-- who listened to it stands as it
pub listener_stands : {L P : Type 0} {g : Ghosts P} (hears : Bool) (stands_for : L → StationScene → Type 0) (r : Option (StationPlayer L P g)) (p : StationPlayer L P g) (l : L) (at : Option StationScene)
    → r ≡ Some p → l ≡ p.listener → IsAt (IsStationPlayerAt {L = L} {P = P} {g = g} hears stands_for) r at → IsAt stands_for (Some l) at
listener_stands hears stands_for r p l None is same stands = absurd (subst (λ r. IsAt (IsStationPlayerAt hears stands_for) r None) is stands)
listener_stands hears stands_for r p l (Some x) is same stands =
    let at = subst (λ r. IsAt (IsStationPlayerAt hears stands_for) r (Some x)) is stands in
    subst (λ l. stands_for l x) (sym same) at.listener
