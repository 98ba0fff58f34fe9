-- What an event line gives, and what is written of it.
use Rattle.std.proofs.Common.{◌≡◌, ℕ, Bool, cond, List, [], ◌∷◌, ◌++◌, Option, Some, Result, Ok, Err, refl, ap, sym, subst, ◌∙◌, append_assoc}
use Rattle.std.specs.Io.KnownBytes.{Appends}
use Rattle.std.proofs.KnownBytes.{Appends-nil, Appends-trans}
use Rattle.text_faults.specs.declared.refusal.LineFault.{LineFault}
use Rattle.text_faults.specs.declared.refusal.LineFault.TheVariants as line_fault
use Rattle.text_faults.specs.declared.refusal.Refusal.{Refusal}
use Rattle.text_faults.specs.Refusals.{IsUnlessMemory}
use Rattle.scenario_line.specs.declared.event_line.Command.{Command}
use Rattle.scenario_line.specs.EventLine.{command_in_line}
use Rattle.report_run.specs.declared.stop.Stop.{Stop}
use Rattle.report_run.specs.declared.stop.Stop.TheVariants.{Refused, Failed}
use Rattle.report_run.specs.declared.stop.Failure.{Failure}
use Rattle.report_run.specs.Faults.{WroteText, stop_of}
use Rattle.report_run.specs.Meanings.{step_of_next}
use Rattle.report_run.specs.Runs.{TextMore, TextPart, Took}
use Rattle.report_run.proofs.TakenLaws.{nothing_more}
use Rattle.irig_scene.specs.Scene.{Scene, events_of, next_of_command, after_events}
use Rattle.irig_scene.specs.Stays.{said_stays}
use Rattle.irig_scene.specs.Texts.{Texts, of_scenes, said_in}
use Rattle.irig_scene.specs.ListenerRuns.{SaidMore, SaidPart, Played}

module _ (texts : Texts) where
  of_said : (first : List ℕ) (x y : Scene) (text : List ℕ) → said_in texts y ≡ said_in texts x ++ text → texts.first first ++ said_in texts y ≡ (texts.first first ++ said_in texts x) ++ text
  of_said first x y text more = ap (λ t. texts.first first ++ t) more ∙ sym (append_assoc (texts.first first) (said_in texts x) text)

  text_more : (first : List ℕ) (x y : Scene) (old new : Option (List ℕ)) → SaidMore texts x y old new → TextMore (of_scenes texts) first (Some x) (Some y) old new
  text_more first x y old new h = record { text = h.text; more = of_said first x y h.text h.more; wrote = h.wrote }

  text_part : (first : List ℕ) (x y : Scene) (old new : Option (List ℕ)) → SaidPart texts x y old new → TextPart (of_scenes texts) first (Some x) (Some y) old new
  text_part first x y old new h = record { text = h.text; more = of_said first x y h.text h.more; wrote = h.wrote }

module _ {A : Type 0} (stands_for : A → Scene → Type 0) (texts : Texts) where
  played_takes : (r : Result (Unit {0}) Stop) (x : Scene) (c : Result Command Refusal) (command : Command) (first : List ℕ) (f : A) (old new : Option (List ℕ)) → c ≡ Ok command
      → Played stands_for texts r x (events_of x.plan command) f old new → Took stands_for (of_scenes texts) r (step_of_next (next_of_command x c)) first (Some x) (Some f) old new
  played_takes (Ok done) x c command first f old new is acted =
      subst (λ (c : Result Command Refusal). Took stands_for (of_scenes texts) (Ok done) (step_of_next (next_of_command x c)) first (Some x) (Some f) old new) (sym is)
      (record { refused = acted.refused; stands = acted.stands; grew = text_more texts first x (after_events x (events_of x.plan command)) old new acted.told })
  played_takes (Err (Refused k)) x c command first f old new is acted =
      subst (λ (c : Result Command Refusal). Took stands_for (of_scenes texts) (Err (Refused k)) (step_of_next (next_of_command x c)) first (Some x) (Some f) old new) (sym is)
      (record { refused = acted.refused; stands = acted.stands; grew = text_more texts first x (after_events x (events_of x.plan command)) old new acted.told })
  played_takes (Err (Failed e)) x c command first f old new is acted =
      subst (λ (c : Result Command Refusal). TextPart (of_scenes texts) first (Some x) (step_of_next (next_of_command x c)).scene old new) (sym is)
      (text_part texts first x (after_events x (events_of x.plan command)) old new acted)

  -- the names are those of the scene
  pub acted_takes : (r : Result (Unit {0}) Stop) (x : Scene) (line : List ℕ) (command : Command) (first : List ℕ) (f : A) (old new : Option (List ℕ)) → command_in_line x.plan.names line ≡ Ok command
      → Played stands_for texts r x (events_of x.plan command) f old new → Took stands_for (of_scenes texts) r (step_of_next (next_of_command x (command_in_line x.plan.names line))) first (Some x) (Some f) old new
  acted_takes r x line command first f old new is acted = played_takes r x (command_in_line x.plan.names line) command first f old new is acted

  -- an event line gives no command
  pub event_stops : (fault : LineFault) (x : Scene) (line first : List ℕ) (f : A) (out : Option (List ℕ))
      → IsUnlessMemory (λ (command : Command). command) (command_in_line x.plan.names line) (Err fault)
      → stands_for f x → Took stands_for (of_scenes texts) (Err (stop_of fault)) (step_of_next (next_of_command x (command_in_line x.plan.names line))) first (Some x) (Some f) out out
  event_stops (line_fault.Refused k) x line first f out is stands =
      subst (λ (c : Result Command Refusal). Took stands_for (of_scenes texts) (Err (Refused k)) (step_of_next (next_of_command x c)) first (Some x) (Some f) out out) (sym is)
      (record { refused = refl; stands = stands; grew = nothing_more (of_scenes texts) first (Some x) out })
  event_stops line_fault.Memory x line first f out is stands =
      let front = said_stays texts x line in
      record { text = front.0; more = of_said texts first x (next_of_command x (command_in_line x.plan.names line)).scene front.0 front.1; wrote = record { front = []; rest = front.0; whole = refl; wrote = Appends-nil out } }

-- ---- the plant line is written as it stands

pub then_newline : (r : Result (Unit {0}) Failure) (line : List ℕ) (o0 o1 o2 : Option (List ℕ)) → Appends o0 o1 line → WroteText r o1 o2 (10 ∷ []) → WroteText r o0 o2 (line ++ 10 ∷ [])
then_newline (Ok done) line o0 o1 o2 h k = Appends-trans o0 o1 o2 _ _ h k
then_newline (Err f) line o0 o1 o2 h k = record {
  front = line ++ k.front;
  rest = k.rest;
  whole = ap (λ t. line ++ t) k.whole ∙ sym (append_assoc line k.front k.rest);
  wrote = Appends-trans o0 o1 o2 _ _ h k.wrote;
}

-- what is said of it, by whether it is
pub echoed : (texts : Texts) (line : List ℕ) (echoes b : Bool) → texts.first line ≡ cond echoes (line ++ 10 ∷ []) [] → echoes ≡ b → texts.first line ≡ cond b (line ++ 10 ∷ []) []
echoed texts line echoes b is same = is ∙ ap (λ b. cond b (line ++ 10 ∷ []) []) same
