-- A plain scenario by its bytes, and all that is written for it; and instances that its definitions
-- refute.
use Rattle.std.proofs.Common.{◌≡◌, ◌≢◌, ℕ, ◌≤◌, true, false, List, [], ◌∷◌, ◌++◌, length, Some, Result, Ok, inl, inr, refl, sym, ap, subst, ◌∙◌, arith, codes}
use Rattle.std.specs.Fmt.{digits}
use Rattle.std.proofs.lemmas.List.Elements.{All-from_recursion, All-contains}
use Rattle.irig_time.specs.declared.second.UtcSecond.{UtcSecond}
use Rattle.irig_time.specs.TextValues.{second_text}
use Rattle.irig_time.specs.Timelines.{second_at}
use Rattle.irig_time.specs.Tables.{table}
use Rattle.irig_time.proofs.StandardFacts.{known_dates}
use Rattle.irig_time.proofs.TextValueLaws.{second_text_is}
use Rattle.irig_plant.specs.declared.event.Event.{Event}
use Rattle.irig_plant.specs.Premises.{HasTrueTable}
use Rattle.irig_plant.specs.Audits.{is_true_table}
use Rattle.irig_plant.specs.HealthyPlant.{healthy_log}
use Rattle.irig_plant.proofs.TableLaws.{test_by_true}
use Rattle.irig_plant.proofs.KeptLaws.{empty_true}
use Rattle.text_faults.specs.declared.refusal.Refusal.{Refusal}
use Rattle.scenario_line.specs.declared.event_line.Command.{Command}
use Rattle.scenario_line.specs.declared.event_line.Command.TheVariants as command
use Rattle.scenario_values.specs.Names.{is_name, are_names}
use Rattle.scenario_line.specs.EventLine.{command_in_line}
use Rattle.scenario_line.specs.PlantLine.{Plan, plan_in_line}
use Rattle.scenario_line.proofs.BlankLines.{command_not_blank}
use Rattle.scenario_line.proofs.PlainLines.{seconds_line, asks_two, plant_line, plan, makes_plan}
use Rattle.report_run.specs.Lines.{lines, is_blank, max_line}
use Rattle.irig_scene.specs.Scene.{output}
use Rattle.report_log.specs.Text.{entry_text, entries_text}
use Rattle.report_log.specs.LogLines.{Shows}
use Rattle.irig_scene.specs.HealthyRun.{AskSeconds, IsOfSeconds, IsHealthyRun, HasTimeLine}
use Rattle.report_log.proofs.WordLaws.{AreNames}
use Rattle.irig_scene.proofs.NameLaws.{are_names_named}
use Rattle.report_log.proofs.LogLaws.{shown_once}
use Rattle.irig_scene.proofs.HealthyRuns.{is_announced, writes_healthy_log}

-- ---- the plant line, a blank line, and two seconds

abbrev scenario : List ℕ
scenario = plant_line ++ (codes "\n \n" ++ (seconds_line ++ codes "\n"))

cut : lines scenario ≡ plant_line ∷ codes " " ∷ seconds_line ∷ []
unfolding lines
cut = refl

two_seconds : IsOfSeconds scenario plan 2
two_seconds = record {
  line = plant_line;
  more = codes " " ∷ seconds_line ∷ [];
  are = cut;
  few = omega arith;
  short = All-from_recursion (λ l. length l ≤ max_line) (plant_line ∷ codes " " ∷ seconds_line ∷ []) (omega arith, (omega arith, (omega arith, tt)));
  plant = makes_plan;
  seconds = inl (refl, inr (2, 0, asks_two, refl, refl));
}

true_table : is_true_table plan.setup.times (table 0 []) ≡ true
true_table = test_by_true plan.setup.times (table 0 []) (empty_true plan.setup.times (omega arith))

healthy : IsHealthyRun scenario plan 2
unfolding second_at
healthy = record { bytes = two_seconds; second = refl; tables = All-from_recursion (HasTrueTable plan.setup.times) plan.setup.readers (true_table, tt) }

-- T(2) of its timeline
abbrev pub at_2 : UtcSecond
at_2 = record { day = 6209; sod = 43202 }

pub text_2 : codes "2016-12-31T12:00:02Z" ≡ second_text at_2
text_2 =
    second_text_is at_2 (codes "2016-12-31T12:00:02Z") (record { day = (omega arith, omega arith); sod = inl (omega arith) })
    (record { year = 2016; month = 12; day_of_month = 31; date = (((omega arith, omega arith), (omega arith, omega arith), (omega arith, omega arith)), known_dates.1); text = refl })

known_log : entries_text plan.names true (healthy_log plan.setup 2) ≡ codes "1 r1 - acquiring:1 acquiring\n2 r1 2016-12-31T12:00:02Z locked voted\n"
unfolding entries_text entry_text digits second_at
known_log = rw (sym text_2) refl

pub known_output : output scenario true ≡ codes "1 r1 - acquiring:1 acquiring\n2 r1 2016-12-31T12:00:02Z locked voted\npremises kept\n"
known_output = writes_healthy_log plan scenario true 2 two_seconds (is_announced plan scenario 2 healthy) ∙ ap (λ text. text ++ codes "premises kept\n") known_log

-- ---- lines that ask for more, or for other things

same_count : (k n : ℕ) → ◌≡◌ {A = Result Command Refusal} (Ok (command.Seconds k)) (Ok (command.Seconds n)) → k ≡ n
same_count k n e = cc

-- the line asks for two seconds, and for no other number of them
asks_no_other : (n : ℕ) → AskSeconds plan.names (seconds_line ∷ []) n → n ≡ 2
asks_no_other n (inl h) = let blank : false ≡ true = h.0 in absurd cc
asks_no_other n (inr h) = omega (arith, same_count h.0 2 (sym h.2 ∙ asks_two), h.3, h.4)

-- no line asks for no second, and twice two are four
asks_none : AskSeconds plan.names [] 0 × AskSeconds plan.names (seconds_line ∷ seconds_line ∷ []) 4
asks_none = (refl, inr (2, 2, asks_two, inr (2, 0, asks_two, refl, refl), refl))

not_one : ¬ AskSeconds plan.names [] 1
not_one h = omega (arith, h)

-- nor does a line of another event
not_event : (l : List ℕ) (e : Event) (n : ℕ) → is_blank l ≡ false → command_in_line plan.names l ≡ Ok (command.Event e) → ¬ AskSeconds plan.names (l ∷ []) n
not_event l e n said is (inl h) = let apart : false ≡ true = sym said ∙ h.0 in absurd cc
not_event l e n said is (inr h) = let apart : ◌≡◌ {A = Result Command Refusal} (Ok (command.Event e)) (Ok (command.Seconds h.0)) = sym is ∙ h.2 in absurd cc

-- the bytes are of no other number of seconds, and of no other plan
one_line_of : (a b : List ℕ) (ls ks : List (List ℕ)) → ◌≡◌ {A = List (List ℕ)} (a ∷ ls) (b ∷ ks) → (a ≡ b) × (ls ≡ ks)
one_line_of a b ls ks e = (cc, cc)

same_plan : (one other : Plan) → ◌≡◌ {A = Result Plan Refusal} (Ok one) (Ok other) → one ≡ other
same_plan one other e = cc

not_other_plan : (other : Plan) (n : ℕ) → IsOfSeconds scenario other n → other ≡ plan
not_other_plan other n h =
    let first = (one_line_of h.line plant_line h.more (codes " " ∷ seconds_line ∷ []) (sym h.are ∙ cut)).0 in
    same_plan other plan (sym h.plant ∙ ap plan_in_line first ∙ makes_plan)

asks_past_blank : (n : ℕ) → AskSeconds plan.names (codes " " ∷ seconds_line ∷ []) n → n ≡ 2
asks_past_blank n (inl h) = asks_no_other n h.1
asks_past_blank n (inr h) = let said : true ≡ false = command_not_blank plan.names (codes " ") (command.Seconds h.0) h.2 in absurd cc

not_three : ¬ IsOfSeconds scenario plan 3
not_three h =
    let rest = (one_line_of h.line plant_line h.more (codes " " ∷ seconds_line ∷ []) (sym h.are ∙ cut)).1 in
    omega (arith, asks_past_blank 3 (subst (λ ls. AskSeconds plan.names ls 3) rest h.seconds))

-- without a line there is no plant
not_empty : (n : ℕ) → ¬ IsOfSeconds [] plan n
unfolding lines
not_empty n h = let apart : ◌≡◌ {A = List (List ℕ)} [] (h.line ∷ h.more) = h.are in absurd cc

-- ---- lines of a log

abbrev told : List ℕ
told = codes "2 r1 2016-12-31T12:00:02Z locked voted"

told_shows : Shows plan.names told 0 2 (codes "2016-12-31T12:00:02Z")
unfolding digits
told_shows = record { number = omega arith; named = omega arith; word = All-from_recursion (λ b. b ≢ 32) (codes "2016-12-31T12:00:02Z") (search arith); more = codes "locked voted"; is = refl }

has_told : HasTimeLine plan (codes "1 r1 - acquiring:1 acquiring" ∷ told ∷ []) 0 2
unfolding second_at
has_told = record {
  line = told;
  stands = (1, omega arith, refl);
  time = codes "2016-12-31T12:00:02Z";
  shows = told_shows;
  is_true = record { second = at_2; is_true = refl; written = text_2 };
}

-- of another edge it shows nothing
named : AreNames plan.names
unfolding are_names is_name
named = are_names_named plan.names refl

not_edge_3 : ¬ HasTimeLine plan (told ∷ []) 0 3
not_edge_3 h =
    let one : h.line ≡ told = All-contains (λ l. l ≡ told) (told ∷ []) h.line (All-from_recursion (λ l. l ≡ told) (told ∷ []) (refl, tt)) h.stands in
    omega (arith, (shown_once plan.names told 0 3 0 2 h.time (codes "2016-12-31T12:00:02Z") named (subst (λ l. Shows plan.names l 0 3 h.time) one h.shows) told_shows).edge)

-- a dash is no time
abbrev silent : List ℕ
silent = codes "2 r1 - unlocked no-vote"

silent_shows : Shows plan.names silent 0 2 (codes "-")
unfolding digits
silent_shows = record { number = omega arith; named = omega arith; word = All-from_recursion (λ b. b ≢ 32) (codes "-") (search arith); more = codes "unlocked no-vote"; is = refl }

no_dash : (u : UtcSecond) → second_at plan.setup.times 2 ≡ Some u → ¬ (codes "-" ≡ second_text u)
unfolding second_at
no_dash u is e =
    let same : ◌≡◌ {A = UtcSecond} at_2 u = cc in
    omega (arith, ap length (e ∙ ap second_text (sym same) ∙ sym text_2))

not_silent : ¬ HasTimeLine plan (silent ∷ []) 0 2
not_silent h =
    let one : h.line ≡ silent = All-contains (λ l. l ≡ silent) (silent ∷ []) h.line (All-from_recursion (λ l. l ≡ silent) (silent ∷ []) (refl, tt)) h.stands in
    let time : h.time ≡ codes "-" = (shown_once plan.names silent 0 2 0 2 h.time (codes "-") named (subst (λ l. Shows plan.names l 0 2 h.time) one h.shows) silent_shows).time_is in
    no_dash h.is_true.second h.is_true.is_true (sym time ∙ h.is_true.written)
