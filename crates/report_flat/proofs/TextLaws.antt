-- A scenario that is written out as what its readers hear means what they heard.
use Rattle.std.proofs.Common.{◌≡◌, ◌≢◌, ℕ, ◌+◌, ◌<◌, ◌≤◌, ◌==◌, Bool, true, false, not, cond, List, [], ◌∷◌, ◌++◌, length, Option, Some, None, Ok, refl, ap, sym, subst, ◌∙◌, append_assoc, append-nil, length-append, arith, rules, nat_lt, inl, inr}
use Rattle.std.specs.Prelude.{⊤, is_some, unwrap_or, option_and_then, option_map, option_to_list, slice_set, ◌⊎◌}
use Rattle.std.specs.List.{AllByRecursion, find}
use Rattle.std.proofs.lemmas.List.Elements.{recursion_from_All, All-from_recursion}
use Rattle.std.proofs.lemmas.Bool.Decides.{eqb_tells}
use Rattle.irig_device.specs.Lines.{HasNoNewline}
use Rattle.irig_plant.specs.declared.event.Event.{Event}
use Rattle.irig_plant.specs.declared.event.Event.TheVariants.{GenEdge, Tick, Carry, Damage, Replay, Raw, Fault, Repair, Restart}
use Rattle.irig_plant.specs.declared.fault.PlantFault.{PlantFault}
use Rattle.irig_plant.specs.declared.fault.PlantFault.TheVariants as plant
use Rattle.irig_plant.specs.Schedule.{Setup, ticks_of, log_of, pulses_sent, pulses_sent_at}
use Rattle.irig_plant.specs.Refusals.{unless_reader, unless_generator, unless_second, refusal}
use Rattle.report_log.specs.declared.shown.Shown.{Shown}
use Rattle.report_log.specs.Text.{lines_text, audit_text}
use Rattle.scenario_line.specs.declared.event_line.Command.TheVariants as command
use Rattle.scenario_line.specs.EventLine.{command_in_line}
use Rattle.scenario_line.specs.PlantLine.{Plan, plan_in_line}
use Rattle.scenario_line.proofs.BlankLines.{plant_not_blank, command_not_blank}
use Rattle.scenario_line.proofs.SoundPlans.{plan_is_sound}
use Rattle.scenario_values.specs.Names.{are_names}
use Rattle.report_run.specs.Lines.{lines, unlines, onto_first, is_blank, max_line, max_lines}
use Rattle.irig_scene.specs.Scene.{scenario, after_play, Scene, scene, refusal_as, play, unless_refused, begun, next_of_command, meaning_of, text_of, output_shown, audit_in}
use Rattle.report_run.specs.Meanings.{step_to, step_of_first, step_of_next, Step, step, Refused, Meaning, meaning, meaning_from}
use Rattle.report_run.proofs.LineLaws.{lines_after, no_line}
use Rattle.irig_scene.proofs.PlantLines.{IsPlannedBy, planned}
use Rattle.report_run.proofs.StepLaws.{step_taken, meaning_goes, meaning_ends}
use Rattle.report_flat.specs.EventText.{event_line, IsLine, IsWritten}
use Rattle.report_flat.proofs.LineLaws.{is_line}
use Rattle.report_flat.proofs.ReadLaws.{event_read}
use Rattle.report_run.specs.Texts.{first_of}
use Rattle.report_flat.specs.Recording.{pulses_at, heard_of, recorded, CanBeWritten, AreTaken}
use Rattle.report_flat.specs.FlatText.{heard_line, heard_lines, flat_of, flat_text}
use Rattle.report_flat.proofs.RecordingLaws.{same_ticks, same_log, same_audit}
use Rattle.report_flat.proofs.TakenLaws.{IsTaken, meaning_taken, leaves_scene}
use Rattle.report_flat.proofs.WidthLaws.{pulses_can, pulses_at_can, damaged_can}

-- ---- what an accepted event names

-- there is such a reader, or generator
accepts : (n count : ℕ) (fault : PlantFault) (rest : Option PlantFault) → cond (nat_lt n count) rest (Some fault) ≡ None → (n < count) × (rest ≡ None)
accepts n count fault rest = elim (nat_lt n count) as (λ b. nat_lt n count ≡ b → cond b rest (Some fault) ≡ None → (n < count) × (rest ≡ None)) [
  | true ↦ λ test h. (search rules, h)
  | false ↦ λ test h. absurd cc
] refl

takes : (n count : ℕ) (fault : PlantFault) (rest : Option PlantFault) → n < count → cond (nat_lt n count) rest (Some fault) ≡ rest
takes n count fault rest low = let test : nat_lt n count ≡ true = search rules in rw test refl

-- ---- an event that is recorded

-- of a plan whose readers are named, and which has few generators
record IsKnown (s : Setup) (names : List (List ℕ)) : Type 0 where
  pub are : are_names names ≡ true
  pub named : length names ≡ length s.readers
  pub few : length s.generators ≤ 255

-- it can be written, and is not refused after what was recorded
record IsRecorded (s : Setup) (names : List (List ℕ)) (ev : List Event) (e : Event) : Type 0 where
  pub written : IsWritten names e
  pub taken : refusal s e (recorded s ev) ≡ None

abbrev IsRecordedIf : Setup → List (List ℕ) → List Event → Option Event → Type 0
IsRecordedIf s names ev None = ⊤
IsRecordedIf s names ev (Some e) = IsRecorded s names ev e

ticks_recorded : (s : Setup) (names : List (List ℕ)) (r : ℕ) (ev : List Event) → IsKnown s names → refusal s (Tick r) ev ≡ None → IsRecorded s names ev (Tick r)
ticks_recorded s names r ev known h =
    let reader = accepts r (length s.readers) plant.NoSuchReader (unless_second s (ticks_of r ev)) h in
    record { written = omega (arith, reader.0, known.named); taken = ap (λ n. unless_reader s r (unless_second s n)) (same_ticks s r ev) ∙ h }

restart_recorded : (s : Setup) (names : List (List ℕ)) (r : ℕ) (ev : List Event) → IsKnown s names → refusal s (Restart r) ev ≡ None → IsRecorded s names ev (Restart r)
restart_recorded s names r ev known h = record { written = omega (arith, (accepts r (length s.readers) plant.NoSuchReader None h).0, known.named); taken = h }

raw_recorded : (s : Setup) (names : List (List ℕ)) (g r : ℕ) (ws : List ℕ) (ev : List Event) → IsKnown s names → r < length s.readers → g < length s.generators → CanBeWritten (Raw g r ws) → IsRecordedIf s names ev (pulses_at g r ws)
raw_recorded s names g r [] ev known reader generator can = tt
raw_recorded s names g r (w ∷ ws) ev known reader generator can = record {
  written = record { generator = omega (arith, generator, known.few); reader = omega (arith, reader, known.named); few = can.0; range = can.1 };
  taken = takes r (length s.readers) plant.NoSuchReader (unless_generator s g None) reader ∙ takes g (length s.generators) plant.NoSuchGenerator None generator;
}

heard_recorded : (s : Setup) (names : List (List ℕ)) (e : Event) (ev : List Event) → IsKnown s names → refusal s e ev ≡ None → CanBeWritten e → IsRecordedIf s names ev (heard_of s e ev)
heard_recorded s names (Tick r) ev known h can = ticks_recorded s names r ev known h
heard_recorded s names (Restart r) ev known h can = restart_recorded s names r ev known h
heard_recorded s names (GenEdge g) ev known h can = tt
heard_recorded s names (Fault g kind) ev known h can = tt
heard_recorded s names (Repair g) ev known h can = tt
heard_recorded s names (Raw g r ws) ev known h can =
    let reader = accepts r (length s.readers) plant.NoSuchReader (unless_generator s g None) h in
    raw_recorded s names g r ws ev known reader.0 (accepts g (length s.generators) plant.NoSuchGenerator None reader.1).0 can
heard_recorded s names (Carry g r) ev known h can =
    let reader = accepts r (length s.readers) plant.NoSuchReader (unless_generator s g None) h in
    raw_recorded s names g r (pulses_sent s g ev) ev known reader.0 (accepts g (length s.generators) plant.NoSuchGenerator None reader.1).0 (pulses_can s g ev)
heard_recorded s names (Damage g r at width) ev known h can =
    let reader = accepts r (length s.readers) plant.NoSuchReader (unless_generator s g None) h in
    raw_recorded s names g r (slice_set (pulses_sent s g ev) at width) ev known reader.0 (accepts g (length s.generators) plant.NoSuchGenerator None reader.1).0 (damaged_can at width (pulses_sent s g ev) can (pulses_can s g ev))
heard_recorded s names (Replay g r edge) ev known h can =
    let reader = accepts r (length s.readers) plant.NoSuchReader (unless_generator s g (Rattle.irig_plant.specs.Refusals.unless_past s g edge ev)) h in
    raw_recorded s names g r (pulses_sent_at s g edge ev) ev known reader.0 (accepts g (length s.generators) plant.NoSuchGenerator (Rattle.irig_plant.specs.Refusals.unless_past s g edge ev) reader.1).0 (pulses_at_can s g edge ev)

-- ---- a line that is read back

one_event : (plan : Plan) (n : ℕ) (e : Event) (ev : List Event) → IsKnown plan.setup plan.names → n ≤ max_lines → IsWritten plan.names e → refusal plan.setup e ev ≡ None
    → step scenario n (Some (scene plan ev)) (event_line plan.names e) ≡ step_to (Some (scene plan (e ∷ ev))) None
one_event plan n e ev known few written taken =
    let names = plan.names in
    let line = event_line names e in
    let is : IsLine line = is_line names e known.are written in
    let back : command_in_line names line ≡ Ok (command.Event e) = event_read names e known.are written in
    let full : is_blank line ≡ false = command_not_blank names line (command.Event e) back in
    step_taken scenario n (Some (scene plan ev)) line few is.short full
    ∙ ap (λ c. step_of_next (next_of_command (scene plan ev) c)) back
    ∙ ap (λ k. step_of_next (after_play plan (unless_refused (option_and_then refusal_as k) ev (play plan.setup [] (e ∷ ev))))) taken

-- ---- all lines

-- the plant line and what was heard
abbrev all_lines : List ℕ → Plan → List Event → List (List ℕ)
all_lines first plan ev = first ∷ heard_lines plan.names plan.setup ev

record IsPlanted (first : List ℕ) (plan : Plan) : Type 0 where
  pub planned : plan_in_line first ≡ Ok plan
  pub short : length first ≤ max_line
  pub whole : HasNoNewline first

module _ (first : List ℕ) (plan : Plan) (planted : IsPlanted first plan) where
  known : IsKnown plan.setup plan.names
  known =
      let sound = plan_is_sound first plan planted.planned in
      record { are = sound.names; named = sound.named; few = few_of sound.generators.new.count }
    where
      few_of : (length plan.setup.generators ≡ 3) ⊎ (length plan.setup.generators ≡ 5) → length plan.setup.generators ≤ 255
      few_of (inl e) = omega (arith, e)
      few_of (inr e) = omega (arith, e)

  begins : (rest : List (List ℕ)) → meaning_from scenario (first ∷ rest) 1 None ≡ meaning_from scenario rest 2 (Some (scene plan []))
  begins rest =
      let st : step scenario 1 None first ≡ step_to (Some (scene plan [])) None = step_taken scenario 1 None first (omega arith) planted.short (plant_not_blank first plan planted.planned) ∙ ap (λ p. step_of_first (begun p)) planted.planned in
      meaning_goes scenario first rest 1 None (ap (λ (s : Step Scene). s.refusal) st) ∙ ap (λ (s : Step Scene). meaning_from scenario rest 2 s.scene) st

  abbrev Means : List Event → Type 0
  Means ev = (rest : List (List ℕ)) → meaning_from scenario (all_lines first plan ev ++ rest) 1 None ≡ meaning_from scenario rest (length (all_lines first plan ev) + 1) (Some (scene plan (recorded plan.setup ev)))

  one_more : (ev : List Event) (heard : Option Event) → IsRecordedIf plan.setup plan.names ev heard → length (all_lines first plan ev ++ option_to_list (option_map (event_line plan.names) heard)) ≤ max_lines → Means ev
      → (rest : List (List ℕ)) → meaning_from scenario ((all_lines first plan ev ++ option_to_list (option_map (event_line plan.names) heard)) ++ rest) 1 None
      ≡ meaning_from scenario rest (length (all_lines first plan ev ++ option_to_list (option_map (event_line plan.names) heard)) + 1) (Some (scene plan (option_to_list heard ++ recorded plan.setup ev)))
  one_more ev None h few means rest =
      let same : all_lines first plan ev ++ [] ≡ all_lines first plan ev = append-nil (all_lines first plan ev) in
      ap (λ ls. meaning_from scenario (ls ++ rest) 1 None) same ∙ means rest ∙ ap (λ ls. meaning_from scenario rest (length ls + 1) (Some (scene plan (recorded plan.setup ev)))) (sym same)
  one_more ev (Some e) h few means rest =
      let ls = all_lines first plan ev in
      let line = event_line plan.names e in
      let count : length (ls ++ line ∷ []) ≡ length ls + 1 = length-append ls (line ∷ []) in
      let n = length ls + 1 in
      let st = one_event plan n e (recorded plan.setup ev) known (omega (arith, few, count)) h.written h.taken in
      ap (λ ls. meaning_from scenario ls 1 None) (append_assoc ls (line ∷ []) rest) ∙ means (line ∷ rest)
      ∙ meaning_goes scenario line rest n (Some (scene plan (recorded plan.setup ev))) (ap (λ (s : Step Scene). s.refusal) st)
      ∙ ap (λ (s : Step Scene). meaning_from scenario rest (n + 1) s.scene) st
      ∙ ap (λ k. meaning_from scenario rest (k + 1) (Some (scene plan (e ∷ recorded plan.setup ev)))) (sym count)

  means : (ev : List Event) → AreTaken plan.setup ev → length (all_lines first plan ev) ≤ max_lines → Means ev
  means [] taken few = λ rest. begins rest
  means (e ∷ ev) taken few =
      let more = option_to_list (heard_line plan.names plan.setup e ev) in
      let sum : length (all_lines first plan ev ++ more) ≡ length (all_lines first plan ev) + length more = length-append (all_lines first plan ev) more in
      one_more ev (heard_of plan.setup e ev) (heard_recorded plan.setup plan.names e ev known taken.0 taken.1) few (means ev taken.2 (omega (arith, few, sum)))

  -- each of the lines is one
  whole_more : (ev : List Event) (heard : Option Event) → IsRecordedIf plan.setup plan.names ev heard → AllByRecursion HasNoNewline (option_to_list (option_map (event_line plan.names) heard))
  whole_more ev None h = tt
  whole_more ev (Some e) h = ((is_line plan.names e known.are h.written).whole, tt)

  whole_heard : (ev : List Event) → AreTaken plan.setup ev → AllByRecursion HasNoNewline (heard_lines plan.names plan.setup ev)
  whole_heard [] taken = tt
  whole_heard (e ∷ ev) taken =
      Rattle.report_log.proofs.LogLaws.all_join HasNoNewline (heard_lines plan.names plan.setup ev) (option_to_list (heard_line plan.names plan.setup e ev)) (whole_heard ev taken.2)
      (whole_more ev (heard_of plan.setup e ev) (heard_recorded plan.setup plan.names e ev known taken.0 taken.1))

  lines_are : (ev : List Event) → AreTaken plan.setup ev → lines (unlines (all_lines first plan ev)) ≡ all_lines first plan ev
  lines_are ev taken =
      let ls = all_lines first plan ev in
      ap lines (sym (append-nil (unlines ls))) ∙ lines_after ls [] (All-from_recursion HasNoNewline ls (planted.whole, whole_heard ev taken)) ∙ ap (λ more. ls ++ more) no_line ∙ append-nil ls

  means_recorded : (ev : List Event) → AreTaken plan.setup ev → length (lines (unlines (all_lines first plan ev))) ≤ max_lines
      → meaning_of (unlines (all_lines first plan ev)) ≡ meaning (Some (scene plan (recorded plan.setup ev))) None
  means_recorded ev taken few =
      let ls = all_lines first plan ev in
      let same = lines_are ev taken in
      let count : length ls ≤ max_lines = omega (arith, few, ap length same) in
      ap (λ ls. meaning_from scenario ls 1 None) (same ∙ sym (append-nil ls)) ∙ means ev taken count [] ∙ meaning_ends scenario (length ls + 1) (Some (scene plan (recorded plan.setup ev)))

-- ---- the log

same_text : (plan : Plan) (ev : List Event) (shown : Shown) → text_of shown (meaning (Some (scene plan (recorded plan.setup ev))) None) ≡ text_of shown (meaning (Some (scene plan ev)) None)
same_text plan ev shown =
    let s = plan.setup in
    ap (λ l. lines_text plan.names shown l ++ audit_text plan.names (audit_in (scene plan (recorded s ev)))) (same_log s ev)
    ∙ ap (λ a. lines_text plan.names shown (log_of s ev) ++ audit_text plan.names a) (same_audit s ev)

-- ---- the plant line of some bytes

onto_whole : (b : ℕ) (ls : List (List ℕ)) → b ≢ 10 → AllByRecursion HasNoNewline ls → AllByRecursion HasNoNewline (onto_first b ls)
onto_whole b [] h all = (All-from_recursion (λ b. b ≢ 10) (b ∷ []) (h, tt), tt)
onto_whole b (l ∷ ls) h all = (All-from_recursion (λ b. b ≢ 10) (b ∷ l) (h, recursion_from_All (λ b. b ≢ 10) l all.0), all.1)

whole_at : (b : ℕ) (ls : List (List ℕ)) → AllByRecursion HasNoNewline ls → AllByRecursion HasNoNewline (cond (b == 10) ([] ∷ ls) (onto_first b ls))
whole_at b ls all = elim (eqb_tells b 10) [
  | inl e ↦ rw e.0 (All-from_recursion (λ b. b ≢ 10) [] tt, all)
  | inr e ↦ rw e.0 (onto_whole b ls e.1 all)
]

no_newlines : (x : List ℕ) → AllByRecursion HasNoNewline (lines x)
unfolding lines
no_newlines [] = tt
no_newlines (b ∷ bs) = whole_at b (lines bs) (no_newlines bs)

found_in : (P : List ℕ → Type 0) (test : List ℕ → Bool) (ls : List (List ℕ)) (l : List ℕ) → AllByRecursion P ls → find test ls ≡ Some l → P l
found_in P test [] l h e = absurd cc
found_in P test (a ∷ ls) l h e = elim (test a) as (λ b. cond b (Some a) (find test ls) ≡ Some l → P l) [
  | true ↦ λ e. let same : a ≡ l = cc in subst P same h.0
  | false ↦ λ e. found_in P test ls l h.1 e
] e

is_planted : (ls : List (List ℕ)) (plan : Plan) → AllByRecursion HasNoNewline ls → IsPlannedBy ls plan → IsPlanted (first_of ls) plan
is_planted ls plan whole h =
    let same : first_of ls ≡ h.line = ap (λ o. unwrap_or o []) h.first in
    subst (λ first. IsPlanted first plan) (sym same) (record {
      planned = h.planned;
      short = short_of h.short;
      whole = found_in HasNoNewline (λ line. not (is_blank line)) ls h.line whole h.first;
    })
  where
    short_of : nat_lt max_line (length h.line) ≡ false → length h.line ≤ max_line
    short_of test = search rules

-- ---- the law

of_scene : (x : List ℕ) (shown : Shown) (m : Meaning Scene) (y : Scene) → meaning_of x ≡ m → m ≡ meaning (Some y) None → length (lines (flat_text x)) ≤ max_lines → output_shown (flat_text x) shown ≡ output_shown x shown
of_scene x shown m y is ends few =
    let means : meaning_of x ≡ meaning (Some y) None = is ∙ ends in
    let at : (meaning_of x).scene ≡ Some y = ap (λ (m : Meaning Scene). m.scene) means in
    let first = first_of (lines x) in
    let planted = is_planted (lines x) y.plan (no_newlines x) (planned (lines x) 1 y at) in
    let taken : AreTaken y.plan.setup y.events = subst IsTaken at (meaning_taken (lines x) 1 None tt) in
    let text : flat_text x ≡ unlines (all_lines first y.plan y.events) = ap (λ (m : Meaning Scene). Rattle.report_flat.specs.FlatText.flat_meaning first m) means ∙ append-nil (flat_of first (Some y)) in
    let flat : meaning_of (flat_text x) ≡ meaning (Some (scene y.plan (recorded y.plan.setup y.events))) None = ap meaning_of text ∙ means_recorded first y.plan planted y.events taken (subst (λ t. length (lines t) ≤ max_lines) text few) in
    ap (text_of shown) flat ∙ same_text y.plan y.events shown ∙ ap (text_of shown) (sym means)

whole_meaning : (at : Option Scene) (k : Option Refused) → k ≡ None → is_some at ≡ true → (y : Scene) × (meaning at k ≡ meaning (Some y) None)
whole_meaning None k e some = absurd cc
whole_meaning (Some y) None e some = (y, refl)
whole_meaning (Some y) (Some k) e some = absurd cc

pub same_output : (x : List ℕ) (shown : Shown) → (meaning_of x).refused ≡ None → length (lines (flat_text x)) ≤ max_lines → output_shown (flat_text x) shown ≡ output_shown x shown
same_output x shown e few =
    let m = meaning_of x in
    let whole = whole_meaning m.scene m.refused e (leaves_scene (lines x) 1 None e) in
    of_scene x shown (meaning m.scene m.refused) whole.0 refl whole.1 few
