-- What a line says of an event is in range.
use Rattle.std.proofs.Common.{◌≡◌, ℕ, ◌<◌, ◌≤◌, Bool, true, false, cond, List, length, All, Some, None, Result, Ok, refl, subst, arith, codes}
use Rattle.std.specs.Prelude.{option_and_then, nat_le}
use Rattle.std.specs.List.{position}
use Rattle.std.specs.Str.{bytes_eq}
use Rattle.std.proofs.lemmas.Bool.{leb-true}
use Rattle.std.proofs.lemmas.Option.{option_and_then_some}
use Rattle.serde_json.specs.Data.{Data}
use Rattle.irig_plant.specs.declared.event.Event.{Event}
use Rattle.irig_plant.specs.declared.event.Event.TheVariants.{GenEdge, Tick, Carry, Damage, Replay, Raw, Fault, Repair, Restart}
use Rattle.text_faults.specs.declared.refusal.Refusal.{Refusal}
use Rattle.text_faults.specs.declared.refusal.Refusal.TheVariants as refusal
use Rattle.text_faults.specs.Refusals.{or_else, holds_or}
use Rattle.scenario_json.specs.Json.{json_of, whole_of, at_most, all_of, natural_within, whole_at, text_at, items_at}
use Rattle.scenario_json.specs.Fields.{has_form, natural_at, natural_in, naturals_at, reader_at}
use Rattle.scenario_values.specs.declared.form.Action.{Action}
use Rattle.scenario_values.specs.declared.form.Action.TheVariants as action
use Rattle.scenario_values.specs.Forms.{action_of, keys_of}
use Rattle.scenario_values.specs.Forms as keys
use Rattle.scenario_values.proofs.ValueLaws.{within, all_are_of}
use Rattle.scenario_line.specs.declared.event_line.Command.{Command}
use Rattle.scenario_line.specs.declared.event_line.Command.TheVariants as command
use Rattle.scenario_line.specs.EventLine.{natural_or_refusal, reader_in, fault_of_form, command_of_form, command_in_object, command_in_line}
use Rattle.scenario_line.proofs.NamesAndTimes.{step_of, found_is}
use Rattle.report_flat.specs.EventText.{IsInRange}
use Rattle.report_flat.proofs.NameLaws.{found_within}

-- ---- what stands at a key

generator_low : (d : Data) (n : ℕ) → natural_or_refusal keys.g d ≡ Ok n → n ≤ 255
generator_low d n e = option_and_then_some (natural_within 0 255) (whole_at (codes "g") d) n (found_is refusal.Value (natural_at keys.g d) n e) (λ z at inside. (within 0 255 z n inside).1)

width_low : (d : Data) (n : ℕ) → natural_or_refusal keys.width d ≡ Ok n → n ≤ 4294967295
width_low d n e =
    option_and_then_some (natural_within 0 4294967295) (whole_at (codes "width") d) n (found_is refusal.Value (natural_at keys.width d) n e) (λ z at inside. (within 0 4294967295 z n inside).1)

reader_known : (names : List (List ℕ)) (d : Data) (q : ℕ) → reader_in names d ≡ Ok q → q < length names
reader_known names d q e =
    option_and_then_some (λ name. position (λ n. bytes_eq name n) names) (text_at (codes "r") d) q (found_is refusal.NoSuchReader (reader_at names keys.r d) q e)
    (λ name at found. found_within (λ n. bytes_eq name n) names q found)

-- so few numbers, each so low
record AreFewAndLow (ws : List ℕ) : Type 0 where
  few : length ws ≤ 1000
  range : All (λ w. w ≤ 4294967295) ws

few_of : (ds few : List Data) (b : Bool) → nat_le (length ds) 1000 ≡ b → cond b (Some ds) None ≡ Some few → length few ≤ 1000
few_of ds few true test e = let same : ds ≡ few = cc in subst (λ (l : List Data). length l ≤ 1000) same (leb-true (length ds) 1000 test)
few_of ds few false test e = absurd cc

one_low : (d : Data) (n : ℕ) → natural_in 4294967295 d ≡ Some n → n ≤ 4294967295
one_low d n e = option_and_then_some (natural_within 0 4294967295) (whole_of d) n e (λ z at inside. (within 0 4294967295 z n inside).1)

numbers_low : (d : Data) (ws : List ℕ) → naturals_at keys.widths d ≡ Some ws → AreFewAndLow ws
unfolding naturals_at
numbers_low d ws e =
    option_and_then_some (λ ds. option_and_then (all_of (natural_in 4294967295)) (at_most 1000 ds)) (items_at (codes "widths") d) ws e (λ ds at e1.
    option_and_then_some (all_of (natural_in 4294967295)) (at_most 1000 ds) ws e1 (λ few is e2.
    let are = all_are_of (natural_in 4294967295) (λ n. n ≤ 4294967295) one_low few ws e2 in
    record { few = omega (arith, are.count, few_of ds few (nat_le (length ds) 1000) refl is); range = are.facts }))

widths_low : (d : Data) (ws : List ℕ) → or_else refusal.Value (naturals_at keys.widths d) ≡ Ok ws → AreFewAndLow ws
widths_low d ws e = numbers_low d ws (found_is refusal.Value (naturals_at keys.widths d) ws e)

-- ---- lines

same_event : (names : List (List ℕ)) (x e : Event) → ◌≡◌ {A = Result Command Refusal} (Ok (command.Event x)) (Ok (command.Event e)) → IsInRange names x → IsInRange names e
same_event names x e is h = let same : x ≡ e = cc in subst (IsInRange names) same h

form_in_range : (names : List (List ℕ)) (a : Action) (d : Data) (e : Event) → command_of_form names a d ≡ Ok (command.Event e) → IsInRange names e
form_in_range names action.Carry d e h =
    step_of _ (natural_or_refusal keys.g d) (command.Event e) h (λ g low h1.
    step_of _ (reader_in names d) (command.Event e) h1 (λ r known is.
    same_event names (Carry g r) e is (generator_low d g low, reader_known names d r known)))
form_in_range names action.Tick d e h = step_of _ (reader_in names d) (command.Event e) h (λ r known is. same_event names (Tick r) e is (reader_known names d r known))
form_in_range names action.Step d e h = step_of _ (natural_or_refusal keys.g d) (command.Event e) h (λ g low is. same_event names (GenEdge g) e is tt)
form_in_range names action.Seconds d e h = step_of _ (natural_or_refusal keys.n d) (command.Event e) h (λ n low is. absurd cc)
form_in_range names action.Damage d e h =
    step_of _ (natural_or_refusal keys.g d) (command.Event e) h (λ g low h1.
    step_of _ (natural_or_refusal keys.at d) (command.Event e) h1 (λ at placed h2.
    step_of _ (natural_or_refusal keys.width d) (command.Event e) h2 (λ width wide h3.
    step_of _ (reader_in names d) (command.Event e) h3 (λ r known is.
    same_event names (Damage g r at width) e is (generator_low d g low, reader_known names d r known, width_low d width wide)))))
form_in_range names action.Replay d e h =
    step_of _ (natural_or_refusal keys.g d) (command.Event e) h (λ g low h1.
    step_of _ (natural_or_refusal keys.edge d) (command.Event e) h1 (λ edge early h2.
    step_of _ (reader_in names d) (command.Event e) h2 (λ r known is.
    same_event names (Replay g r edge) e is (generator_low d g low, reader_known names d r known))))
form_in_range names action.Raw d e h =
    step_of _ (natural_or_refusal keys.g d) (command.Event e) h (λ g low h1.
    step_of _ (or_else refusal.Value (naturals_at keys.widths d)) (command.Event e) h1 (λ ws listed h2.
    step_of _ (reader_in names d) (command.Event e) h2 (λ r known is.
    let are = widths_low d ws listed in
    same_event names (Raw g r ws) e is (record { generator = generator_low d g low; reader = reader_known names d r known; few = are.few; range = are.range }))))
form_in_range names (action.Fault kind) d e h =
    step_of _ (natural_or_refusal keys.g d) (command.Event e) h (λ g low h1. step_of _ (fault_of_form kind d) (command.Event e) h1 (λ fault at is. same_event names (Fault g fault) e is tt))
form_in_range names action.Repair d e h = step_of _ (natural_or_refusal keys.g d) (command.Event e) h (λ g low is. same_event names (Repair g) e is tt)
form_in_range names action.Restart d e h = step_of _ (reader_in names d) (command.Event e) h (λ r known is. same_event names (Restart r) e is (reader_known names d r known))

object_in_range : (names : List (List ℕ)) (d : Data) (e : Event) → command_in_object names d ≡ Ok (command.Event e) → IsInRange names e
unfolding command_in_object
object_in_range names d e h =
    step_of _ (or_else refusal.Shape (action_of d)) (command.Event e) h (λ a asked h1.
    step_of _ (holds_or refusal.Shape (has_form (keys_of a) d)) (command.Event e) h1 (λ formed is h2. form_in_range names a d e h2))

-- the event that a line gives
pub line_in_range : (names : List (List ℕ)) (line : List ℕ) (e : Event) → command_in_line names line ≡ Ok (command.Event e) → IsInRange names e
unfolding command_in_line
line_in_range names line e h = step_of _ (or_else refusal.Json (json_of line)) (command.Event e) h (λ d read is. object_in_range names d e is)
