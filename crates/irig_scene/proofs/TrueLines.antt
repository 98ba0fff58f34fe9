-- What is written tells the truth, if the premises hold.
use Rattle.std.proofs.Common.{◌≡◌, ◌≢◌, ℕ, ◌+◌, ◌^◌, ◌<◌, Bool, true, false, cond, List, [], ◌∷◌, ◌++◌, length, All, Option, Some, None, Result, Ok, Err, refl, ap, sym, subst, ◌∙◌, append_assoc, nat_lt, arith, codes}
use Rattle.std.specs.Prelude.{⊤, option_and_then, is_some, slice_get}
use Rattle.std.specs.List.{AllByRecursion}
use Rattle.std.proofs.lemmas.List.Elements.{recursion_from_All, All-from_recursion}
use Rattle.irig_time.specs.declared.second.UtcSecond.{UtcSecond}
use Rattle.irig_time.specs.Timelines.{TimelineValue, second_at}
use Rattle.irig_time.proofs.TimeLaws.{few}
use Rattle.irig_time.proofs.SecondAt.{second_is}
use Rattle.text_faults.specs.declared.refusal.Refusal.{Refusal}
use Rattle.irig_plant.specs.declared.audit.Audit.TheVariants.{Kept}
use Rattle.irig_plant.specs.declared.entry.Entry.{Entry}
use Rattle.irig_plant.specs.declared.event.Event.{Event}
use Rattle.irig_plant.specs.declared.event.Event.TheVariants.{GenEdge, Tick, Carry, Damage, Replay, Raw, Fault, Repair, Restart}
use Rattle.irig_plant.specs.declared.fault.PlantFault.TheVariants as plant
use Rattle.irig_plant.specs.Refusals.{refusal}
use Rattle.irig_hold.specs.Truth.{IsTrueTable}
use Rattle.irig_plant.specs.Schedule.{Setup, setup_at, ticks_of, log_of}
use Rattle.irig_plant.specs.Premises.{IsKeptUpTo, IsKept}
use Rattle.irig_plant.specs.Truth.{AnnouncesTruth, IsTruthful}
use Rattle.scenario_line.specs.declared.event_line.Command.{Command}
use Rattle.text_faults.specs.declared.refusal.Refusal.TheVariants as refusal
use Rattle.scenario_line.specs.EventLine.{command_in_line}
use Rattle.report_log.specs.declared.shown.Shown.{Shown}
use Rattle.report_run.specs.Lines.{lines, is_blank, max_line, max_lines}
use Rattle.irig_scene.specs.Scene.{scenario, Scene, Play, play, unless_refused, refusal_as, events_of, begun, next_of_command, meaning_of, log_text, audit_in, ending_text, output_shown}
use Rattle.report_run.specs.Meanings.{step_to, step_of_first, step_of_next, step_of_line, step, Meaning, Refused, unless_stopped, meaning_at_end, meaning_from}
use Rattle.report_log.specs.Text.{time_shown_text, refusal_text}
use Rattle.report_log.specs.LogLines.{whole_lines, ShowsNothing}
use Rattle.irig_scene.specs.LogLines.{IsTimeOf, IsTrueLine, IsTrueLineIfKept, TellsTruth, IsTrueLog, VouchesForItself}
use Rattle.scenario_line.specs.PlantLine.{Plan, plan_in_line}
use Rattle.scenario_line.proofs.SoundPlans.{IsSound, plan_is_sound}
use Rattle.irig_plant.proofs.Headline.{log_is_true}
use Rattle.irig_plant.proofs.KeptLaws.{kept_log_is_true}
use Rattle.irig_plant.proofs.AuditLaws.{kept_is}
use Rattle.report_log.proofs.WordLaws.{AreNames}
use Rattle.irig_scene.proofs.NameLaws.{are_names_named}
use Rattle.report_log.proofs.LogLaws.{all_left, all_at, all_join, whole_front, entry_line, entry_shows, entry_digit}
use Rattle.report_log.proofs.RowLaws.{rows, lines_of_rows, each_row, port_row_shows_nothing}
use Rattle.report_log.proofs.LastLines.{IsLastLine, refusal_last, audit_last}

-- ---- events that were played

-- none of these events was refused
abbrev pub IsPlayed : Setup → List Event → Type 0
IsPlayed s [] = ⊤
IsPlayed s (e ∷ ev) = (option_and_then refusal_as (refusal s e ev) ≡ None) × IsPlayed s ev

unless_played : (s : Setup) (e : Event) (ev : List Event) (k : Option Refusal) (rest : Play) → option_and_then refusal_as (refusal s e ev) ≡ k → IsPlayed s ev → (IsPlayed s (e ∷ ev) → IsPlayed s rest.events)
    → IsPlayed s (unless_refused k ev rest).events
unless_played s e ev None rest is h more = more (is, h)
unless_played s e ev (Some k) rest is h more = h

play_played : (s : Setup) (es ev : List Event) → IsPlayed s ev → IsPlayed s (play s es ev).events
play_played s [] ev h = h
play_played s (e ∷ es) ev h = unless_played s e ev (option_and_then refusal_as (refusal s e ev)) (play s es (e ∷ ev)) refl h (play_played s es (e ∷ ev))

-- a tick that was played has a second before it
ticked : (b : Bool) (o : Option UtcSecond) → option_and_then refusal_as (cond b (cond (is_some o) None (Some plant.EndOfYears)) (Some plant.NoSuchReader)) ≡ None → is_some o ≡ true
ticked true None h = absurd cc
ticked true (Some u) h = refl
ticked false o h = absurd cc

second_few : (t : TimelineValue) (n : ℕ) (o : Option UtcSecond) → second_at t n ≡ o → is_some o ≡ true → n < 2 ^ 32
second_few t n None e h = absurd cc
second_few t n (Some u) e h = omega (arith, few t n u ((second_is t n u).0 e))

abbrev pub HasFewEdges : List Entry → Type 0
HasFewEdges entries = AllByRecursion (λ e. e.edge < 2 ^ 64) entries

pub edges_few : (s : Setup) (ev : List Event) → IsPlayed s ev → HasFewEdges (log_of s ev)
edges_few s [] h = tt
edges_few s (Tick r ∷ ev) h =
    let before : ticks_of r ev < 2 ^ 32 = second_few s.times (ticks_of r ev) (second_at s.times (ticks_of r ev)) refl (ticked (nat_lt r (length s.readers)) (second_at s.times (ticks_of r ev)) h.0) in
    all_join _ (log_of s ev) _ (edges_few s ev h.1) (omega (arith, before), tt)
edges_few s (GenEdge g ∷ ev) h = edges_few s ev h.1
edges_few s (Carry g r ∷ ev) h = edges_few s ev h.1
edges_few s (Damage g r at width ∷ ev) h = edges_few s ev h.1
edges_few s (Replay g r edge ∷ ev) h = edges_few s ev h.1
edges_few s (Raw g r widths ∷ ev) h = edges_few s ev h.1
edges_few s (Fault g kind ∷ ev) h = edges_few s ev h.1
edges_few s (Repair g ∷ ev) h = edges_few s ev h.1
edges_few s (Restart r ∷ ev) h = edges_few s ev h.1

-- ---- the scene that lines leave

-- the plant is that of a line that was not refused, and its events were played
pub record IsSoundAt (x : Scene) : Type 0 where
  pub plan : IsSound x.plan
  pub played : IsPlayed x.plan.setup x.events

abbrev IsSoundScene : Option Scene → Type 0
IsSoundScene None = ⊤
IsSoundScene (Some x) = IsSoundAt x

begun_sound : (o : Result Plan Refusal) → ((plan : Plan) → o ≡ Ok plan → IsSound plan) → IsSoundScene (step_of_first (begun o)).scene
begun_sound (Ok plan) h = record { plan = h plan refl; played = tt }
begun_sound (Err k) h = tt

commanded_sound : (x : Scene) (c : Result Command Refusal) → IsSoundAt x → IsSoundScene (step_of_next (next_of_command x c)).scene
commanded_sound x (Ok c) h = record { plan = h.plan; played = play_played x.plan.setup (events_of x.plan c) x.events h.played }
commanded_sound x (Err k) h = h

taken_sound : (at : Option Scene) (line : List ℕ) → IsSoundScene at → IsSoundScene (step_of_line scenario at line).scene
taken_sound None line h = begun_sound (plan_in_line line) (plan_is_sound line)
taken_sound (Some x) line h = commanded_sound x (command_in_line x.plan.names line) h

if_sound : (at : Option Scene) (line : List ℕ) (many long blank : Bool) → IsSoundScene at
    → IsSoundScene (cond many (step_to at (Some refusal.TooManyLines)) (cond long (step_to at (Some refusal.TooLong)) (cond blank (step_to at None) (step_of_line scenario at line)))).scene
if_sound at line true long blank h = h
if_sound at line false true blank h = h
if_sound at line false false true h = h
if_sound at line false false false h = taken_sound at line h

step_sound : (n : ℕ) (at : Option Scene) (line : List ℕ) → IsSoundScene at → IsSoundScene (step scenario n at line).scene
unfolding step
step_sound n at line h = if_sound at line (nat_lt max_lines n) (nat_lt max_line (length line)) (is_blank line) h

unless_sound : (n : ℕ) (at : Option Scene) (k : Option Refusal) (rest : Meaning Scene) → IsSoundScene at → IsSoundScene rest.scene → IsSoundScene (unless_stopped n at k rest).scene
unless_sound n at None rest h l = l
unless_sound n at (Some k) rest h l = h

ended_sound : (n : ℕ) (at : Option Scene) → IsSoundScene at → IsSoundScene (meaning_at_end n at).scene
ended_sound n None h = h
ended_sound n (Some x) h = h

meaning_sound : (ls : List (List ℕ)) (n : ℕ) (at : Option Scene) → IsSoundScene at → IsSoundScene (meaning_from scenario ls n at).scene
unfolding meaning_from
meaning_sound [] n at h = ended_sound n at h
meaning_sound (l ∷ ls) n at h =
    let next = step_sound n at l h in
    unless_sound n (step scenario n at l).scene (step scenario n at l).refusal (meaning_from scenario ls (n + 1) (step scenario n at l).scene) next (meaning_sound ls (n + 1) (step scenario n at l).scene next)

pub scene_sound : (x : List ℕ) (at : Scene) → (meaning_of x).scene ≡ Some at → IsSoundAt at
scene_sound x at e = subst IsSoundScene e (meaning_sound (lines x) 1 None tt)

pub lines_true : (x : List ℕ) (at : Scene) → (meaning_of x).scene ≡ Some at → IsKept at.plan.setup at.events → All (IsTruthful at.plan.setup.times) (log_of at.plan.setup at.events)
lines_true x at e kept = kept_log_is_true at.plan.setup at.events (scene_sound x at e).plan.timeline kept

-- ---- the lines of a log

-- a fact of the lines of a log's entries, and of its last lines
module _ (x : Scene) (names : AreNames x.plan.names) where
  abbrev log : List Entry
  log = log_of x.plan.setup x.events

  log_lines : (shown : Shown) (rest : List ℕ) → whole_lines (log_text shown (Some x) ++ rest) ≡ rows x.plan.names shown log ++ whole_lines rest
  log_lines shown rest = lines_of_rows x.plan.names shown log rest names

  last_is_last : (k : Option Refused) → AllByRecursion (IsLastLine x.plan.names (audit_in x ≡ Kept)) (whole_lines (ending_text k (Some x)))
  last_is_last (Some k) = refusal_last x.plan.names k.line k.refusal (audit_in x ≡ Kept)
  last_is_last None = audit_last x.plan.names (audit_in x) names

  pub each_line : (shown : Shown) (Fact : List ℕ → Type 0) (EntryFact : Entry → Type 0) (k : Option Refused) → ((e : Entry) → EntryFact e → Fact (entry_line x.plan.names e)) → ((l : List ℕ) → Fact (32 ∷ l))
      → ((l : List ℕ) → IsLastLine x.plan.names (audit_in x ≡ Kept) l → Fact l)
      → AllByRecursion EntryFact log → AllByRecursion Fact (whole_lines (log_text shown (Some x) ++ ending_text k (Some x)))
  each_line shown Fact EntryFact k entry port last h =
      subst (AllByRecursion Fact) (sym (log_lines shown (ending_text k (Some x))))
      (all_join Fact (rows x.plan.names shown log) (whole_lines (ending_text k (Some x)))
      (each_row x.plan.names shown Fact EntryFact entry port log h)
      (each_last (whole_lines (ending_text k (Some x))) (last_is_last k)))
    where
      each_last : (ls : List (List ℕ)) → AllByRecursion (IsLastLine x.plan.names (audit_in x ≡ Kept)) ls → AllByRecursion Fact ls
      each_last [] h = tt
      each_last (l ∷ ls) h = (last l h.0, each_last ls h.1)

  pub last_shows_nothing : (k : Option Refused) → All (ShowsNothing x.plan.names) (whole_lines (ending_text k (Some x)))
  last_shows_nothing k = All-from_recursion (ShowsNothing x.plan.names) (whole_lines (ending_text k (Some x))) (each (whole_lines (ending_text k (Some x))) (last_is_last k))
    where
      each : (ls : List (List ℕ)) → AllByRecursion (IsLastLine x.plan.names (audit_in x ≡ Kept)) ls → AllByRecursion (ShowsNothing x.plan.names) ls
      each [] h = tt
      each (l ∷ ls) h = (h.0.shows_nothing, each ls h.1)

  -- a fact of an entry, and that its edge is a number
  both : (EntryFact : Entry → Type 0) (es : List Entry) → AllByRecursion EntryFact es → HasFewEdges es → AllByRecursion (λ e. (e.edge < 2 ^ 64) × EntryFact e) es
  both EntryFact [] h few = tt
  both EntryFact (e ∷ es) h few = ((few.0, h.0), both EntryFact es h.1 few.1)

pub time_of : (t : TimelineValue) (n : ℕ) (o : Option UtcSecond) (time : List ℕ) → time ≡ time_shown_text o → time ≢ codes "-" → ((u : UtcSecond) → o ≡ Some u → second_at t n ≡ Some u) → IsTimeOf t n time
time_of t n None time same full h = absurd (full same)
time_of t n (Some u) time same full h = record { second = u; is_true = h u refl; written = same }

abbrev IsTrueTableAt : Scene → ℕ → Type 0
IsTrueTableAt x r = IsTrueTable x.plan.setup.times (setup_at x.plan.setup.readers r).table

-- ---- what was written

pub output_of : (shown : Shown) (x : List ℕ) (o : Option Scene) → (meaning_of x).scene ≡ o → output_shown x shown ≡ log_text shown o ++ ending_text (meaning_of x).refused o
output_of shown x o e = ap (λ o. log_text shown o ++ ending_text (meaning_of x).refused o) e

pub tells_truth : (shown : Shown) (x w rest : List ℕ) → output_shown x shown ≡ w ++ rest → TellsTruth x w
tells_truth shown x w rest is = λ at means.
    let sound = scene_sound x at means in
    let names = are_names_named at.plan.names sound.plan.names in
    let s = at.plan.setup in
    let true_entry : (e : Entry) → (e.edge < 2 ^ 64) × AnnouncesTruth s at.events e → IsTrueLineIfKept at (entry_line at.plan.names e) = λ e h r n time shows full table kept.
    let same = entry_shows at.plan.names e r n time names h.0 shows in
    time_of s.times n e.report.announce time same.time_is full
    (λ u announces. subst (λ n. second_at s.times n ≡ Some u) (sym same.edge) (h.1.second (record {
      true_table = subst (λ r. IsTrueTableAt at r) same.reader table;
      kept = subst (λ r. IsKeptUpTo s r e.edge at.events) same.reader (subst (λ n. IsKeptUpTo s r n at.events) same.edge kept);
    }) u announces)) in
    let facts = both at names (AnnouncesTruth s at.events) (log_of s at.events) (recursion_from_All _ _ (log_is_true s at.events sound.plan.timeline)) (edges_few s at.events sound.played) in
    let every : AllByRecursion (IsTrueLineIfKept at) (whole_lines (output_shown x shown)) = subst (λ t. AllByRecursion (IsTrueLineIfKept at) (whole_lines t)) (sym (output_of shown x (Some at) means))
    (each_line at names shown (IsTrueLineIfKept at) (λ e. (e.edge < 2 ^ 64) × AnnouncesTruth s at.events e) (meaning_of x).refused true_entry (λ l r n time shows full table kept. absurd (port_row_shows_nothing at.plan.names l r n time shows)) (λ l last r n time shows full table kept. absurd (last.shows_nothing r n time shows)) facts) in
    let front = whole_front w rest in
    All-from_recursion (IsTrueLineIfKept at) (whole_lines w) (all_left (IsTrueLineIfKept at) (whole_lines w) front.0 (subst (AllByRecursion (IsTrueLineIfKept at)) (ap whole_lines is ∙ front.1) every))

-- the last whole line says that the premises were kept
abbrev kept_line : List ℕ
kept_line = codes "premises kept"

no_entry_says : (names : List (List ℕ)) (e : Entry) → e.edge < 2 ^ 64 → entry_line names e ≢ codes "premises kept"
no_entry_says names e small is = omega (arith, entry_digit names e 112 _ small is)

no_port_row_says : (bs : List ℕ) → 32 ∷ bs ≢ codes "premises kept"
no_port_row_says bs is =
    let apart : Some 32 ≡ Some 112 = ap (λ (l : List ℕ). slice_get l 0) is in
    absurd cc

-- a log without a plant says no such thing
none_says : (k : Option Refused) → AllByRecursion (λ l. l ≢ codes "premises kept") (whole_lines (ending_text k None))
unfolding whole_lines
none_says (Some k) = never (whole_lines (refusal_text k.line k.refusal)) (refusal_last [] k.line k.refusal ⊥)
  where
    never : (ls : List (List ℕ)) → AllByRecursion (IsLastLine [] ⊥) ls → AllByRecursion (λ l. l ≢ codes "premises kept") ls
    never [] h = tt
    never (l ∷ ls) h = (h.0.says_kept, never ls h.1)
none_says None = tt

-- the lines of the whole output_shown, if those that were written end so
above_and_more : (shown : Shown) (x w rest : List ℕ) (above : List (List ℕ)) → output_shown x shown ≡ w ++ rest → whole_lines w ≡ above ++ kept_line ∷ [] → whole_lines (output_shown x shown) ≡ above ++ kept_line ∷ (whole_front w rest).0
above_and_more shown x w rest above is ends =
    ap whole_lines is ∙ (whole_front w rest).1 ∙ ap (λ ls. ls ++ (whole_front w rest).0) ends ∙ append_assoc above (kept_line ∷ []) (whole_front w rest).0

vouched : (shown : Shown) (x : List ℕ) (above more : List (List ℕ)) (o : Option Scene) → (meaning_of x).scene ≡ o → whole_lines (output_shown x shown) ≡ above ++ kept_line ∷ more → IsTrueLog x above
vouched shown x above more None means is =
    absurd (all_at (λ l. l ≢ codes "premises kept") above kept_line more (subst (AllByRecursion (λ l. l ≢ codes "premises kept")) (sym (ap whole_lines (output_of shown x None means)) ∙ is) (none_says (meaning_of x).refused)) refl)
vouched shown x above more (Some at) means is =
    let sound = scene_sound x at means in
    let names = are_names_named at.plan.names sound.plan.names in
    let s = at.plan.setup in
    let lines_are = sym (ap whole_lines (output_of shown x (Some at) means)) ∙ is in
    let few_edges = edges_few s at.events sound.played in
    let says : AllByRecursion (λ l. l ≡ kept_line → audit_in at ≡ Kept) (above ++ kept_line ∷ more) =
    subst (AllByRecursion (λ l. l ≡ kept_line → audit_in at ≡ Kept)) lines_are
    (each_line at names shown (λ l. l ≡ kept_line → audit_in at ≡ Kept) (λ e. e.edge < 2 ^ 64) (meaning_of x).refused (λ e small is. absurd (no_entry_says at.plan.names e small is)) (λ l is. absurd (no_port_row_says l is)) (λ l last. last.says_kept) few_edges) in
    let kept : IsKept s at.events = (kept_is s at.events).0 (all_at (λ l. l ≡ kept_line → audit_in at ≡ Kept) above kept_line more says refl) in
    let true_entry : (e : Entry) → (e.edge < 2 ^ 64) × IsTruthful s.times e → IsTrueLine at (entry_line at.plan.names e) = λ e h r n time shows full.
    let same = entry_shows at.plan.names e r n time names h.0 shows in
    time_of s.times n e.report.announce time same.time_is full (λ u announces. subst (λ n. second_at s.times n ≡ Some u) (sym same.edge) (h.1.second u announces)) in
    let facts = both at names (IsTruthful s.times) (log_of s at.events) (recursion_from_All _ _ (lines_true x at means kept)) few_edges in
    let every : AllByRecursion (IsTrueLine at) (above ++ kept_line ∷ more) = subst (AllByRecursion (IsTrueLine at)) lines_are
    (each_line at names shown (IsTrueLine at) (λ e. (e.edge < 2 ^ 64) × IsTruthful s.times e) (meaning_of x).refused true_entry (λ l r n time shows full. absurd (port_row_shows_nothing at.plan.names l r n time shows)) (λ l last r n time shows full. absurd (last.shows_nothing r n time shows)) facts) in
    record { scene = at; means = means; lines = All-from_recursion (IsTrueLine at) above (all_left (IsTrueLine at) above (kept_line ∷ more) every) }

pub vouches_for_itself : (shown : Shown) (x w rest : List ℕ) → output_shown x shown ≡ w ++ rest → VouchesForItself x w
vouches_for_itself shown x w rest is = λ above ends. vouched shown x above (whole_front w rest).0 (meaning_of x).scene refl (above_and_more shown x w rest above is ends)
