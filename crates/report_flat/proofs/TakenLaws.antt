-- The events of a scene: none was refused, and each pulse has a width that a line can carry.
use Rattle.std.proofs.Common.{◌≡◌, ℕ, zero, suc, ◌+◌, Bool, true, false, cond, List, [], ◌∷◌, ◌++◌, length, map, Option, Some, None, Result, Ok, Err, refl, nat_lt}
use Rattle.std.specs.Prelude.{⊤, is_some, option_and_then}
use Rattle.std.specs.List.{AllByRecursion, flat_map, range_with_len}
use Rattle.irig_plant.specs.declared.event.Event.{Event}
use Rattle.irig_plant.specs.declared.event.Event.TheVariants.{GenEdge, Tick, Carry, Damage, Replay, Raw, Fault, Repair, Restart}
use Rattle.irig_plant.specs.declared.fault.PlantFault.{PlantFault}
use Rattle.irig_plant.specs.declared.fault.PlantFault.TheVariants as plant
use Rattle.irig_plant.specs.Schedule.{Setup, generator_at, ticks_of}
use Rattle.irig_plant.specs.Refusals.{unless_reader, unless_generator, unless_past, unless_second, refusal}
use Rattle.irig_plant.specs.WholeSecond.{carries_to, carries, ticks, steps, second_of, times}
use Rattle.irig_time.specs.Timelines.{second_at}
use Rattle.text_faults.specs.declared.refusal.Refusal.{Refusal}
use Rattle.text_faults.specs.declared.refusal.Refusal.TheVariants.{TooManyLines, TooLong}
use Rattle.scenario_line.specs.declared.event_line.Command.{Command}
use Rattle.scenario_line.specs.declared.event_line.Command.TheVariants as command
use Rattle.scenario_line.specs.EventLine.{command_in_line}
use Rattle.scenario_line.specs.PlantLine.{Plan, plan_in_line}
use Rattle.report_run.specs.Lines.{is_blank, max_line, max_lines}
use Rattle.irig_scene.specs.Scene.{scenario, Scene, refusal_as, Play, play, unless_refused, begun, next_of_command}
use Rattle.report_run.specs.Meanings.{step_to, step_of_first, step_of_next, step_of_line, step, Meaning, unless_stopped, meaning_at_end, meaning_from}
use Rattle.report_flat.specs.EventText.{IsInRange}
use Rattle.report_flat.proofs.RangeLaws.{line_in_range}
use Rattle.report_log.proofs.LogLaws.{all_join}
use Rattle.report_flat.specs.Recording.{CanBeWritten, AreTaken}

-- ---- what is refused is no lack of memory

abbrev IsOwn : Option PlantFault → Type 0
IsOwn None = ⊤
IsOwn (Some plant.Memory) = ⊥
IsOwn (Some fault) = ⊤

own_reader : (s : Setup) (r : ℕ) (rest : Option PlantFault) → IsOwn rest → IsOwn (unless_reader s r rest)
own_reader s r rest h = elim (nat_lt r (length s.readers)) as (λ b. IsOwn (cond b rest (Some plant.NoSuchReader))) [ true ↦ h | false ↦ tt ]

own_generator : (s : Setup) (g : ℕ) (rest : Option PlantFault) → IsOwn rest → IsOwn (unless_generator s g rest)
own_generator s g rest h = elim (nat_lt g (length s.generators)) as (λ b. IsOwn (cond b rest (Some plant.NoSuchGenerator))) [ true ↦ h | false ↦ tt ]

own_past : (s : Setup) (g edge : ℕ) (ev : List Event) → IsOwn (unless_past s g edge ev)
own_past s g edge ev = elim (nat_lt (generator_at s g ev).edge edge) as (λ b. IsOwn (cond b (Some plant.FutureReplay) None)) [ true ↦ tt | false ↦ tt ]

own_second : (s : Setup) (n : ℕ) → IsOwn (unless_second s n)
own_second s n = elim (is_some (second_at s.times n)) as (λ b. IsOwn (cond b None (Some plant.EndOfYears))) [ true ↦ tt | false ↦ tt ]

own : (s : Setup) (e : Event) (ev : List Event) → IsOwn (refusal s e ev)
own s (GenEdge g) ev = own_generator s g (unless_second s ((generator_at s g ev).edge + 1)) (own_second s ((generator_at s g ev).edge + 1))
own s (Tick r) ev = own_reader s r (unless_second s (ticks_of r ev)) (own_second s (ticks_of r ev))
own s (Carry g r) ev = own_reader s r (unless_generator s g None) (own_generator s g None tt)
own s (Damage g r at width) ev = own_reader s r (unless_generator s g None) (own_generator s g None tt)
own s (Replay g r edge) ev = own_reader s r (unless_generator s g (unless_past s g edge ev)) (own_generator s g (unless_past s g edge ev) (own_past s g edge ev))
own s (Raw g r widths) ev = own_reader s r (unless_generator s g None) (own_generator s g None tt)
own s (Fault g kind) ev = own_generator s g None tt
own s (Repair g) ev = own_generator s g None tt
own s (Restart r) ev = own_reader s r None tt

none_of_own : (o : Option PlantFault) → IsOwn o → option_and_then refusal_as o ≡ None → o ≡ None
none_of_own None h e = refl
none_of_own (Some plant.NoSuchReader) h e = absurd cc
none_of_own (Some plant.NoSuchGenerator) h e = absurd cc
none_of_own (Some plant.FutureReplay) h e = absurd cc
none_of_own (Some plant.EndOfYears) h e = absurd cc
none_of_own (Some plant.Memory) h e = absurd h

-- ---- events that are played

abbrev AllCan : List Event → Type 0
AllCan es = AllByRecursion CanBeWritten es

taken_unless : (s : Setup) (e : Event) (ev : List Event) (k : Option Refusal) (rest : Play) → option_and_then refusal_as (refusal s e ev) ≡ k → CanBeWritten e → AreTaken s ev
    → (AreTaken s (e ∷ ev) → AreTaken s rest.events) → AreTaken s (unless_refused k ev rest).events
taken_unless s e ev None rest is can taken next = next (none_of_own (refusal s e ev) (own s e ev) is, can, taken)
taken_unless s e ev (Some k) rest is can taken next = taken

taken_by_play : (s : Setup) (es ev : List Event) → AllCan es → AreTaken s ev → AreTaken s (play s es ev).events
taken_by_play s [] ev can taken = taken
taken_by_play s (e ∷ es) ev can taken =
    taken_unless s e ev (option_and_then refusal_as (refusal s e ev)) (play s es (e ∷ ev)) refl can.0 taken (λ more. taken_by_play s es (e ∷ ev) can.1 more)

-- ---- whole seconds

each_of : (f : ℕ → Event) → ((n : ℕ) → CanBeWritten (f n)) → (ns : List ℕ) → AllCan (map f ns)
each_of f h [] = tt
each_of f h (n ∷ ns) = (h n, each_of f h ns)

lists_of : (f : ℕ → List Event) → ((n : ℕ) → AllCan (f n)) → (ns : List ℕ) → AllCan (flat_map f ns)
lists_of f h [] = tt
lists_of f h (n ∷ ns) = all_join CanBeWritten (f n) (flat_map f ns) (h n) (lists_of f h ns)

second_can : (generators readers : ℕ) → AllCan (second_of generators readers)
second_can generators readers =
    all_join CanBeWritten (carries generators readers) (ticks readers ++ steps generators)
    (lists_of (λ r. carries_to generators r) (λ r. each_of (λ g. Carry g r) (λ g. tt) (range_with_len 0 generators)) (range_with_len 0 readers))
    (all_join CanBeWritten (ticks readers) (steps generators) (each_of (λ r. Tick r) (λ r. tt) (range_with_len 0 readers)) (each_of (λ g. GenEdge g) (λ g. tt) (range_with_len 0 generators)))

times_can : (n : ℕ) (es : List Event) → AllCan es → AllCan (times n es)
times_can zero es h = tt
times_can (suc n) es h = all_join CanBeWritten es (times n es) h (times_can n es h)

-- ---- lines

can_of_range : (names : List (List ℕ)) (e : Event) → IsInRange names e → CanBeWritten e
can_of_range names (Raw g r widths) h = (h.few, h.range)
can_of_range names (Damage g r at width) h = h.2
can_of_range names (Carry g r) h = tt
can_of_range names (Replay g r edge) h = tt
can_of_range names (Tick r) h = tt
can_of_range names (Restart r) h = tt
can_of_range names (GenEdge g) h = tt
can_of_range names (Fault g kind) h = tt
can_of_range names (Repair g) h = tt

abbrev pub IsTaken : Option Scene → Type 0
IsTaken None = ⊤
IsTaken (Some x) = AreTaken x.plan.setup x.events

commanded_taken : (x : Scene) (line : List ℕ) (c : Result Command Refusal) → command_in_line x.plan.names line ≡ c → AreTaken x.plan.setup x.events → IsTaken (step_of_next (next_of_command x c)).scene
commanded_taken x line (Err k) is taken = taken
commanded_taken x line (Ok (command.Event e)) is taken =
    taken_by_play x.plan.setup (e ∷ []) x.events (can_of_range x.plan.names e (line_in_range x.plan.names line e is), tt) taken
commanded_taken x line (Ok (command.Seconds n)) is taken =
    let second = second_of (length x.plan.setup.generators) (length x.plan.setup.readers) in
    taken_by_play x.plan.setup (times n second) x.events (times_can n second (second_can (length x.plan.setup.generators) (length x.plan.setup.readers))) taken

planned_taken : (p : Result Plan Refusal) → IsTaken (step_of_first (begun p)).scene
planned_taken (Ok plan) = tt
planned_taken (Err k) = tt

line_taken : (at : Option Scene) (line : List ℕ) → IsTaken at → IsTaken (step_of_line scenario at line).scene
line_taken None line h = planned_taken (plan_in_line line)
line_taken (Some x) line h = commanded_taken x line (command_in_line x.plan.names line) refl h

step_taken : (n : ℕ) (at : Option Scene) (line : List ℕ) → IsTaken at → IsTaken (step scenario n at line).scene
unfolding step
step_taken n at line h = by_tests (nat_lt max_lines n) (nat_lt max_line (length line)) (is_blank line)
  where
    by_tests : (many long blank : Bool)
        → IsTaken (cond many (step_to at (Some TooManyLines)) (cond long (step_to at (Some TooLong)) (cond blank (step_to at None) (step_of_line scenario at line)))).scene
    by_tests true long blank = h
    by_tests false true blank = h
    by_tests false false true = h
    by_tests false false false = line_taken at line h

unless_taken : (n : ℕ) (at : Option Scene) (k : Option Refusal) (rest : Meaning Scene) → IsTaken at → IsTaken rest.scene → IsTaken (unless_stopped n at k rest).scene
unless_taken n at None rest h l = l
unless_taken n at (Some k) rest h l = h

end_taken : (n : ℕ) (at : Option Scene) → IsTaken at → IsTaken (meaning_at_end n at).scene
end_taken n None h = tt
end_taken n (Some x) h = h

pub meaning_taken : (ls : List (List ℕ)) (n : ℕ) (at : Option Scene) → IsTaken at → IsTaken (meaning_from scenario ls n at).scene
unfolding meaning_from
meaning_taken [] n at h = end_taken n at h
meaning_taken (l ∷ ls) n at h =
    unless_taken n (step scenario n at l).scene (step scenario n at l).refusal (meaning_from scenario ls (n + 1) (step scenario n at l).scene) (step_taken n at l h)
    (meaning_taken ls (n + 1) (step scenario n at l).scene (step_taken n at l h))

-- ---- lines that are not refused leave a scene

unless_scene : (n : ℕ) (at : Option Scene) (k : Option Refusal) (rest : Meaning Scene) → (unless_stopped n at k rest).refused ≡ None → (rest.refused ≡ None → is_some rest.scene ≡ true) → is_some (unless_stopped n at k rest).scene ≡ true
unless_scene n at None rest e h = h e
unless_scene n at (Some k) rest e h = absurd cc

end_scene : (n : ℕ) (at : Option Scene) → (meaning_at_end n at).refused ≡ None → is_some (meaning_at_end n at).scene ≡ true
end_scene n None e = absurd cc
end_scene n (Some x) e = refl

pub leaves_scene : (ls : List (List ℕ)) (n : ℕ) (at : Option Scene) → (meaning_from scenario ls n at).refused ≡ None → is_some (meaning_from scenario ls n at).scene ≡ true
unfolding meaning_from
leaves_scene [] n at e = end_scene n at e
leaves_scene (l ∷ ls) n at e =
    unless_scene n (step scenario n at l).scene (step scenario n at l).refusal (meaning_from scenario ls (n + 1) (step scenario n at l).scene) e (λ h. leaves_scene ls (n + 1) (step scenario n at l).scene h)
