-- The log as what a listener says.
use Rattle.std.proofs.Common.{◌≡◌, ℕ, true, false, List, [], ◌∷◌, ◌++◌, length, drop, Option, Some, None, Result, Ok, Err, refl, ap, sym, subst, ◌∙◌, append-nil}
use Rattle.irig_plant.specs.declared.event.Event.{Event}
use Rattle.irig_plant.specs.declared.event.Event.TheVariants.{GenEdge, Tick, Carry, Damage, Replay, Raw, Fault, Repair, Restart}
use Rattle.irig_plant.specs.Schedule.{Setup, log_of}
use Rattle.scenario_line.specs.PlantLine.{Plan}
use Rattle.irig_device.specs.Watched.{AppendsPart}
use Rattle.std.specs.Io.KnownBytes.{Appends}
use Rattle.report_log.specs.declared.shown.Shown.{Shown}
use Rattle.report_log.specs.Text.{lines_text, entries_text, ticks_text}
use Rattle.irig_plant.specs.declared.entry.Entry.{Entry}
use Rattle.std.specs.Prelude.{OnOk}
use Rattle.std.proofs.Math.Seq.{drop-append_seam}
use Rattle.report_log.proofs.TextLaws.{no_lines}
use Rattle.irig_scene.specs.declared.outcome.Outcome.{Outcome}
use Rattle.report_run.specs.declared.fault.SceneFault.{SceneFault}
use Rattle.report_run.specs.declared.fault.SceneFault.TheVariants.{Refused, Read, Write, Memory}
use Rattle.report_run.specs.Lines.{lines, unlines}
use Rattle.irig_scene.specs.Scene.{Scene, scenario, scene, meaning_of, log_text, ending_text, text_of, output_shown}
use Rattle.report_run.specs.Meanings.{Refused as RefusedAt, Meaning}
use Rattle.irig_scene.specs.Run.{RanOn, RanShown}
use Rattle.irig_scene.specs.Run as run
use Rattle.irig_scene.proofs.PlayLaws.{lines_grow}
use Rattle.irig_scene.specs.Texts.{of_scenes, said, whole_text}
use Rattle.report_run.specs.Texts.{first_of, text_of as text_by, ending_of, meaning_text}
use Rattle.irig_scene.specs.Listening.{entries_by}
use Rattle.irig_scene.specs.LogTexts.{log_texts}
use Rattle.report_run.specs.Runs.{StoppedReading, StoppedInLine}
use Rattle.irig_scene.specs.ListenerRuns.{RunFor, RanFor}

-- ---- an entry more

pub grows : (s : Setup) (e : Event) (ev : List Event) → log_of s (e ∷ ev) ≡ log_of s ev ++ entries_by s e ev
grows s (Tick r) ev = refl
grows s (GenEdge g) ev = sym (append-nil (log_of s ev))
grows s (Carry g r) ev = sym (append-nil (log_of s ev))
grows s (Damage g r at width) ev = sym (append-nil (log_of s ev))
grows s (Replay g r edge) ev = sym (append-nil (log_of s ev))
grows s (Raw g r widths) ev = sym (append-nil (log_of s ev))
grows s (Fault g kind) ev = sym (append-nil (log_of s ev))
grows s (Repair g) ev = sym (append-nil (log_of s ev))
grows s (Restart r) ev = sym (append-nil (log_of s ev))

-- ---- what is said is the log

module _ (shown : Shown) where
  said_is_log : (plan : Plan) (ev : List Event) → said (log_texts shown) plan ev ≡ log_text shown (Some (scene plan ev))
  said_is_log plan [] = sym (no_lines plan.names shown)
  said_is_log plan (e ∷ ev) =
      let s = plan.setup in
      ap (λ t. t ++ lines_text plan.names shown (entries_by s e ev)) (said_is_log plan ev) ∙ sym (lines_grow (scene plan ev) (e ∷ ev) shown (entries_by s e ev) (grows s e ev))

  text_is : (first : List ℕ) (at : Option Scene) → text_by (of_scenes (log_texts shown)) first at ≡ log_text shown at
  text_is first None = refl
  text_is first (Some x) = said_is_log x.plan x.events

  ending_is : (k : Option RefusedAt) (at : Option Scene) → ending_of (of_scenes (log_texts shown)) k at ≡ ending_text k at
  ending_is (Some k) None = refl
  ending_is (Some k) (Some x) = refl
  ending_is None None = refl
  ending_is None (Some x) = refl

  meaning_is : (first : List ℕ) (m : Meaning Scene) → meaning_text (of_scenes (log_texts shown)) first m ≡ text_of shown m
  meaning_is first m = ap (λ t. t ++ ending_of (of_scenes (log_texts shown)) m.refused m.scene) (text_is first m.scene) ∙ ap (λ t. log_text shown m.scene ++ t) (ending_is m.refused m.scene)

  all_is : (x : List ℕ) → whole_text (log_texts shown) x ≡ output_shown x shown
  all_is x = meaning_is (first_of (lines x)) (meaning_of x)

  -- ---- so what a listener is promised is what a run of a scenario promises

  reading_is : (x : List ℕ) (was left old new : Option (List ℕ)) → StoppedReading scenario (of_scenes (log_texts shown)) x was left old new → run.StoppedReading x shown was left old new
  reading_is x was left old new h = record {
    whole = h.whole;
    part = h.part;
    rest = h.rest;
    lined = h.lined;
    taken = h.taken;
    unlined = h.unlined;
    of_bytes = h.of_bytes;
    read = h.read;
    wrote = subst (Appends old new) (text_is (first_of h.whole) (meaning_of (unlines h.whole)).scene) h.wrote;
  }

  in_line_is : (x : List ℕ) (was left old new : Option (List ℕ)) → StoppedInLine scenario (of_scenes (log_texts shown)) x was left old new → run.StoppedInLine x shown was left old new
  in_line_is x was left old new h = record {
    whole = h.whole;
    part = h.part;
    rest = h.rest;
    lined = h.lined;
    taken = h.taken;
    in_hand = h.in_hand;
    of_bytes = h.of_bytes;
    read = h.read;
    more = h.more;
    wrote = subst (λ t. Appends old new (t ++ h.more)) (text_is (first_of h.whole) (meaning_of (unlines h.whole)).scene) h.wrote;
  }

  pub log_ran_on : (r : Result Outcome SceneFault) (x : List ℕ) (was left old new : Option (List ℕ)) → RunFor (log_texts shown) r x was left old new → RanOn r x shown was left old new
  log_ran_on (Ok o) x was left old new h = (subst (Appends old new) (all_is x) h.0, h.1, h.2)
  log_ran_on (Err (Refused line refusal)) x was left old new h = (subst (Appends old new) (all_is x) h.0, h.1, h.2)
  log_ran_on (Err Read) x was left old new h = (subst (AppendsPart old new) (all_is x) h.0, reading_is x was left old new h.1)
  log_ran_on (Err Write) x was left old new h = (subst (AppendsPart old new) (all_is x) h.0, in_line_is x was left old new h.1)
  log_ran_on (Err Memory) x was left old new h = (subst (AppendsPart old new) (all_is x) h.0, in_line_is x was left old new h.1)

  pub log_ran : (r : Result Outcome SceneFault) (was left old new : Option (List ℕ)) → RanFor (log_texts shown) r was left old new → RanShown r shown was left old new
  log_ran r was left old new h = record { bytes = h.bytes; of_input = h.of_input; ran = log_ran_on r h.bytes was left old new h.ran }

-- ---- what is pushed of an event

left_is : {X : Type 0} (a b more : List X) → b ≡ a ++ more → drop (length a) b ≡ more
left_is a b more e = ap (drop (length a)) e ∙ drop-append_seam a more

-- the entries that stand in the log, if all before the event were let go
pub gave : (s : Setup) (e : Event) (ev : List Event) → drop (length (log_of s ev)) (log_of s (e ∷ ev)) ≡ entries_by s e ev
gave s e ev = left_is (log_of s ev) (log_of s (e ∷ ev)) (entries_by s e ev) (grows s e ev)

-- the entry of a tick, and what its ports told
pub tick_is_lines : (shown : Shown) (x : Scene) (e : Event) (names : List (List ℕ)) (entries : List Entry) → shown.ports ≡ true → names ≡ x.plan.names
    → entries ≡ entries_by x.plan.setup e x.events → ticks_text names shown.all entries ≡ (log_texts shown).event x.plan e x.events
tick_is_lines shown x e names entries ports named gave = rw (ports, named, gave) refl

-- the entry alone
pub entry_is_lines : (shown : Shown) (x : Scene) (e : Event) (names : List (List ℕ)) (entries : List Entry) → shown.ports ≡ false → names ≡ x.plan.names
    → entries ≡ entries_by x.plan.setup e x.events → entries_text names shown.all entries ≡ (log_texts shown).event x.plan e x.events
entry_is_lines shown x e names entries ports named gave = rw (ports, named, gave) refl

pub on_ok : {A E : Type 0} (r : Result A E) (P Q : Type 0) → (P → Q) → OnOk r P → OnOk r Q
on_ok (Ok a) P Q f h = f h
on_ok (Err e) P Q f h = tt

pub then_same : (old new a b : List ℕ) → new ≡ old ++ a → a ≡ b → new ≡ old ++ b
then_same old new a b h e = h ∙ ap (λ t. old ++ t) e
