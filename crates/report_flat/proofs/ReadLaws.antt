-- The line of an event is read back: what its value says.
use Rattle.std.proofs.Common.{◌≡◌, ℕ, suc, pos, ◌<◌, ◌≤◌, true, cond, List, [], ◌∷◌, length, Some, None, Ok, refl, ap, ◌∙◌, codes, le-leb, arith}
use Rattle.std.specs.Prelude.{option_map, option_and_then, nat_le}
use Rattle.std.specs.List.{position}
use Rattle.std.specs.Str.{bytes_eq}
use Rattle.std.proofs.lemmas.Bool.{and_from}
use Rattle.std.proofs.lemmas.List.Elements.{recursion_from_All}
use Rattle.json.specs.Print.{escape}
use Rattle.serde_json.specs.Data.{Data}
use Rattle.serde_json.specs.Written.{compact_text}
use Rattle.irig_plant.specs.declared.event.Event.{Event}
use Rattle.irig_plant.specs.declared.event.Event.TheVariants.{Tick, Raw, Restart}
use Rattle.text_faults.specs.declared.refusal.Refusal.TheVariants as refusal
use Rattle.text_faults.specs.Refusals.{or_else, ◌>>=◌}
use Rattle.scenario_json.specs.Json.{list_of, all_of, natural_within, whole_at, text_at, items_at, has_only}
use Rattle.scenario_json.specs.Keys.{are_wholes}
use Rattle.scenario_json.specs.Fields.{has_form, natural_at, natural_in, naturals_at, reader_at}
use Rattle.scenario_json.proofs.JsonLaws.{json_of_text}
use Rattle.scenario_values.specs.declared.form.Action.TheVariants as action
use Rattle.scenario_values.specs.Forms.{action_of, keys_of}
use Rattle.scenario_values.specs.Forms as keys
use Rattle.scenario_values.specs.Names.{are_names}
use Rattle.report_log.specs.Text.{name_at}
use Rattle.scenario_line.specs.declared.event_line.Command.TheVariants as command
use Rattle.scenario_line.specs.EventLine.{command_in_object, command_in_line}
use Rattle.report_flat.specs.EventText.{event_line, ArePulses, IsWritten}
use Rattle.report_flat.proofs.NameLaws.{reader_name, without_escape, reader_found}
use Rattle.report_flat.proofs.LineLaws.{line_utf8}
use Rattle.report_flat.proofs.LineValues.{IsReadBack, reads_text, items_of, AreWidths, pulses, at_reader, pulses_read_back, at_reader_read_back, pulses_text, tick_text, restart_text}

-- ---- widths

wholes : (ns : List ℕ) → are_wholes (list_of (items_of ns)) ≡ true
wholes [] = refl
wholes (n ∷ ns) = wholes ns

list_length : (ns : List ℕ) → length (list_of (items_of ns)) ≡ length ns
list_length [] = refl
list_length (n ∷ ns) = ap suc (list_length ns)

in_range : (most n : ℕ) → n ≤ most → natural_within 0 most (pos n) ≡ Some n
in_range most n h = ap (λ b. cond b (Some n) None) (and_from (nat_le 0 n) (nat_le n most) (le-leb 0 n (omega arith)) (le-leb n most h))

all_in : (ns : List ℕ) → AreWidths ns → all_of (natural_in 4294967295) (list_of (items_of ns)) ≡ Some ns
all_in [] h = refl
all_in (n ∷ ns) h =
    ap (option_and_then (λ x. option_map (λ xs. x ∷ xs) (all_of (natural_in 4294967295) (list_of (items_of ns))))) (in_range 4294967295 n h.0) ∙ ap (option_map (λ xs. n ∷ xs)) (all_in ns h.1)

-- ---- what they say

reader_says : (names : List (List ℕ)) (at : ℕ) (d : Data) → are_names names ≡ true → at < length names → text_at (codes "r") d ≡ Some (name_at names at) → reader_at names keys.r d ≡ Some at
reader_says names at d named low stands = ap (option_and_then (λ name. position (λ n. bytes_eq name n) names)) stands ∙ reader_found names at named low

pulses_name : (g : ℕ) (name widths : List ℕ) → text_at (codes "r") (pulses g name widths) ≡ Some name
unfolding text_at
pulses_name g name widths = refl

pulses_action : (g : ℕ) (name widths : List ℕ) → action_of (pulses g name widths) ≡ Some action.Raw
unfolding action_of text_at
pulses_action g name widths = refl

pulses_form : (g : ℕ) (name widths : List ℕ) → has_form (keys_of action.Raw) (pulses g name widths) ≡ true
unfolding has_form has_only
pulses_form g name ws = rw (wholes ws) refl

pulses_g : (n : ℕ) (name widths : List ℕ) → n ≤ 255 → natural_at keys.g (pulses n name widths) ≡ Some n
unfolding whole_at
pulses_g n name widths low = in_range 255 n low

pulses_widths : (n : ℕ) (name ws : List ℕ) → length ws ≤ 1000 → AreWidths ws → naturals_at keys.widths (pulses n name ws) ≡ Some ws
unfolding naturals_at items_at
pulses_widths n name ws few range = rw (list_length ws, le-leb (length ws) 1000 few) (all_in ws range)

pulses_say : (names : List (List ℕ)) (n at : ℕ) (ws : List ℕ) → are_names names ≡ true → ArePulses names n at ws → command_in_object names (pulses n (name_at names at) ws) ≡ Ok (command.Event (Raw n at ws))
unfolding command_in_object
pulses_say names n at ws named h =
    let name = name_at names at in
    let reader = reader_says names at (pulses n name ws) named h.reader (pulses_name n name ws) in
    rw (pulses_action n name ws, pulses_form n name ws, pulses_g n name ws h.generator, pulses_widths n name ws h.few (recursion_from_All _ ws h.range), reader) refl

tick_says : (names : List (List ℕ)) (at : ℕ) → are_names names ≡ true → at < length names → command_in_object names (at_reader (codes "tick") (name_at names at)) ≡ Ok (command.Event (Tick at))
unfolding command_in_object action_of text_at has_form has_only
tick_says names at named low = rw (reader_found names at named low) refl

restart_says : (names : List (List ℕ)) (at : ℕ) → are_names names ≡ true → at < length names → command_in_object names (at_reader (codes "restart") (name_at names at)) ≡ Ok (command.Event (Restart at))
unfolding command_in_object action_of text_at has_form has_only
restart_says names at named low = rw (reader_found names at named low) refl

-- ---- the text of the line is that of the value

plain_name : (names : List (List ℕ)) (at : ℕ) → are_names names ≡ true → escape (name_at names at) ≡ name_at names at
plain_name names at named = without_escape (name_at names at) (reader_name names at named).plain

pulses_are : (names : List (List ℕ)) (g at : ℕ) (ws : List ℕ) → are_names names ≡ true → event_line names (Raw g at ws) ≡ compact_text (pulses g (name_at names at) ws)
unfolding event_line
pulses_are names g at ws named = pulses_text g (name_at names at) ws (plain_name names at named)

tick_is : (names : List (List ℕ)) (at : ℕ) → are_names names ≡ true → event_line names (Tick at) ≡ compact_text (at_reader (codes "tick") (name_at names at))
unfolding event_line
tick_is names at named = tick_text (name_at names at) (plain_name names at named)

restart_is : (names : List (List ℕ)) (at : ℕ) → are_names names ≡ true → event_line names (Restart at) ≡ compact_text (at_reader (codes "restart") (name_at names at))
unfolding event_line
restart_is names at named = restart_text (name_at names at) (plain_name names at named)

-- ---- lines

line_says : (names : List (List ℕ)) (e : Event) (d : Data) → are_names names ≡ true → IsWritten names e → IsReadBack d → event_line names e ≡ compact_text d
    → command_in_object names d ≡ Ok (command.Event e) → command_in_line names (event_line names e) ≡ Ok (command.Event e)
unfolding command_in_line
line_says names e d named h back text says =
    let line = event_line names e in
    ap (λ o. or_else refusal.Json o >>= command_in_object names) (json_of_text line (line_utf8 names e named h) ∙ reads_text d line back text) ∙ says

pub event_read : (names : List (List ℕ)) (e : Event) → are_names names ≡ true → IsWritten names e → command_in_line names (event_line names e) ≡ Ok (command.Event e)
event_read names (Raw g at ws) named h =
    let name = name_at names at in
    line_says names (Raw g at ws) (pulses g name ws) named h (pulses_read_back g name ws h.generator (recursion_from_All _ ws h.range)) (pulses_are names g at ws named) (pulses_say names g at ws named h)
event_read names (Tick at) named h =
    let word = codes "tick" in
    line_says names (Tick at) (at_reader word (name_at names at)) named h (at_reader_read_back word (name_at names at)) (tick_is names at named) (tick_says names at named h)
event_read names (Restart at) named h =
    let word = codes "restart" in
    line_says names (Restart at) (at_reader word (name_at names at)) named h (at_reader_read_back word (name_at names at)) (restart_is names at named) (restart_says names at named h)
event_read names _ named h = absurd h
