-- What the plant line of some bytes says of the scene that they mean.
use Rattle.std.proofs.Common.{◌≡◌, ℕ, ◌+◌, Bool, true, false, not, cond, List, [], ◌∷◌, ◌++◌, length, map, Option, Some, None, Result, Ok, Err, refl, ap, sym, subst, ◌∙◌, nat_lt}
use Rattle.std.specs.Prelude.{⊤, is_some}
use Rattle.std.specs.List.{find}
use Rattle.text_faults.specs.declared.refusal.Refusal.{Refusal}
use Rattle.text_faults.specs.declared.refusal.Refusal.TheVariants as refusal
use Rattle.scenario_line.specs.declared.event_line.Command.{Command}
use Rattle.scenario_line.specs.EventLine.{command_in_line}
use Rattle.scenario_line.specs.PlantLine.{Plan, plan_in_line}
use Rattle.scenario_line.proofs.NamesAndTimes.{plan_has}
use Rattle.scenario_line.specs.NamesAndTimes.{HasNamesAndTimes}
use Rattle.scenario_json.specs.Json.{json_of}
use Rattle.scenario_values.specs.Names.{name_in}
use Rattle.scenario_values.specs.PlantValues.{start_of, leaps_of, readers_in}
use Rattle.irig_time.specs.Timelines.{TimelineValue, times}
use Rattle.report_run.specs.Lines.{lines, is_blank, max_line, max_lines}
use Rattle.irig_scene.specs.Scene.{scenario, Scene, scene, begun, next_of_command, meaning_of, output_shown}
use Rattle.report_run.specs.Meanings.{step, step_to, step_of_first, step_of_next, step_of_line, Meaning, unless_stopped, meaning_from}
use Rattle.report_log.specs.declared.shown.Shown.{Shown}
use Rattle.irig_scene.specs.LogLines.{IsTrueLog}
use Rattle.irig_scene.specs.VouchedLines.{plant_line_of, IsPlantLineOf, AreTrueOf, VouchesByPlantLine}
use Rattle.irig_scene.proofs.TrueLines.{vouches_for_itself}

-- ---- the line

-- a plan that a scene keeps
abbrev KeepsPlan : Plan → Option Scene → Type 0
KeepsPlan plan None = ⊤
KeepsPlan plan (Some x) = x.plan ≡ plan

commanded_keeps : (x : Scene) (c : Result Command Refusal) → KeepsPlan x.plan (step_of_next (next_of_command x c)).scene
commanded_keeps x (Ok c) = refl
commanded_keeps x (Err k) = refl

taken_some : (x : Scene) (c : Result Command Refusal) → is_some (step_of_next (next_of_command x c)).scene ≡ true
taken_some x (Ok c) = refl
taken_some x (Err k) = refl

taken_keeps : (plan : Plan) (x : Scene) (line : List ℕ) → x.plan ≡ plan → KeepsPlan plan (step_of_line scenario (Some x) line).scene
taken_keeps plan x line is = subst (λ plan. KeepsPlan plan (step_of_line scenario (Some x) line).scene) is (commanded_keeps x (command_in_line x.plan.names line))

step_keeps : (plan : Plan) (n : ℕ) (x : Scene) (line : List ℕ) → x.plan ≡ plan → KeepsPlan plan (step scenario n (Some x) line).scene
unfolding step
step_keeps plan n x line is = if_keeps (nat_lt max_lines n) (nat_lt max_line (length line)) (is_blank line)
  where
    if_keeps : (many long blank : Bool)
        → KeepsPlan plan (cond many (step_to (Some x) (Some refusal.TooManyLines)) (cond long (step_to (Some x) (Some refusal.TooLong)) (cond blank (step_to (Some x) None) (step_of_line scenario (Some x) line)))).scene
    if_keeps true long blank = is
    if_keeps false true blank = is
    if_keeps false false true = is
    if_keeps false false false = taken_keeps plan x line is

step_some : (n : ℕ) (x : Scene) (line : List ℕ) → is_some (step scenario n (Some x) line).scene ≡ true
unfolding step
step_some n x line = if_some (nat_lt max_lines n) (nat_lt max_line (length line)) (is_blank line)
  where
    if_some : (many long blank : Bool)
        → is_some (cond many (step_to (Some x) (Some refusal.TooManyLines)) (cond long (step_to (Some x) (Some refusal.TooLong)) (cond blank (step_to (Some x) None) (step_of_line scenario (Some x) line)))).scene ≡ true
    if_some true long blank = refl
    if_some false true blank = refl
    if_some false false true = refl
    if_some false false false = taken_some x (command_in_line x.plan.names line)

unless_keeps : (plan : Plan) (n : ℕ) (at : Option Scene) (k : Option Refusal) (rest : Meaning Scene) → KeepsPlan plan at → KeepsPlan plan rest.scene → KeepsPlan plan (unless_stopped n at k rest).scene
unless_keeps plan n at None rest is later = later
unless_keeps plan n at (Some k) rest is later = is

meaning_keeps : (plan : Plan) (ls : List (List ℕ)) (n : ℕ) (at : Option Scene) → is_some at ≡ true → KeepsPlan plan at → KeepsPlan plan (meaning_from scenario ls n at).scene
unfolding meaning_from
meaning_keeps plan ls n None some is = absurd cc
meaning_keeps plan [] n (Some x) some is = is
meaning_keeps plan (l ∷ ls) n (Some x) some is =
    unless_keeps plan n (step scenario n (Some x) l).scene (step scenario n (Some x) l).refusal (meaning_from scenario ls (n + 1) (step scenario n (Some x) l).scene) (step_keeps plan n x l is)
    (meaning_keeps plan ls (n + 1) (step scenario n (Some x) l).scene (step_some n x l) (step_keeps plan n x l is))

-- the plan of the first line that is not blank, which is not too long
pub record IsPlannedBy (ls : List (List ℕ)) (plan : Plan) : Type 0 where
  pub line : List ℕ
  pub short : nat_lt max_line (length line) ≡ false
  pub first : find (λ line. not (is_blank line)) ls ≡ Some line
  pub planned : plan_in_line line ≡ Ok plan

-- the first line, by its plan
first_planned : (l : List ℕ) (ls : List (List ℕ)) (n : ℕ) (x : Scene) (o : Result Plan Refusal) → plan_in_line l ≡ o → is_blank l ≡ false → nat_lt max_line (length l) ≡ false
    → (unless_stopped n (step_of_first (begun o)).scene (step_of_first (begun o)).refusal (meaning_from scenario ls (n + 1) (step_of_first (begun o)).scene)).scene ≡ Some x → IsPlannedBy (l ∷ ls) x.plan
first_planned l ls n x (Err k) is full short e = absurd cc
first_planned l ls n x (Ok plan) is full short e =
    let keeps : x.plan ≡ plan = subst (KeepsPlan plan) e (meaning_keeps plan ls (n + 1) (Some (scene plan [])) refl refl) in
    record { line = l; short = short; first = rw full refl; planned = is ∙ ap Ok (sym keeps) }

-- a line by what is tested of it
by_tests : (l : List ℕ) (ls : List (List ℕ)) (n : ℕ) (x : Scene) (many long blank : Bool) → is_blank l ≡ blank → nat_lt max_line (length l) ≡ long → ((m : ℕ) → (meaning_from scenario ls m None).scene ≡ Some x → IsPlannedBy ls x.plan)
    → (unless_stopped n (cond many (step_to None (Some refusal.TooManyLines)) (cond long (step_to None (Some refusal.TooLong)) (cond blank (step_to None None) (step_of_line scenario None l)))).scene
    (cond many (step_to None (Some refusal.TooManyLines)) (cond long (step_to None (Some refusal.TooLong)) (cond blank (step_to None None) (step_of_line scenario None l)))).refusal
    (meaning_from scenario ls (n + 1) (cond many (step_to None (Some refusal.TooManyLines)) (cond long (step_to None (Some refusal.TooLong)) (cond blank (step_to None None) (step_of_line scenario None l)))).scene)).scene ≡ Some x
    → IsPlannedBy (l ∷ ls) x.plan
by_tests l ls n x true long blank is size next e = absurd cc
by_tests l ls n x false true blank is size next e = absurd cc
by_tests l ls n x false false true is size next e =
    let later = next (n + 1) e in
    record { line = later.line; short = later.short; first = rw is later.first; planned = later.planned }
by_tests l ls n x false false false is size next e = first_planned l ls n x (plan_in_line l) refl is size e

pub planned : (ls : List (List ℕ)) (n : ℕ) (x : Scene) → (meaning_from scenario ls n None).scene ≡ Some x → IsPlannedBy ls x.plan
unfolding meaning_from step
planned [] n x e = absurd cc
planned (l ∷ ls) n x e = by_tests l ls n x (nat_lt max_lines n) (nat_lt max_line (length l)) (is_blank l) refl refl (λ m. planned ls m x) e

pub plant_line : (x : List ℕ) (at : Scene) → (meaning_of x).scene ≡ Some at → IsPlantLineOf x at.plan.names at.plan.setup.times
plant_line x at means =
    let is = planned (lines x) 1 at means in
    record { line = is.line; first = is.first; says = plan_has is.line at.plan is.planned }

-- two values of one thing
same_some : {A : Type 0} (a b : A) (o : Option A) → o ≡ Some a → o ≡ Some b → a ≡ b
same_some a b o is other = let both : Some a ≡ Some b = sym is ∙ other in cc

same_times : (t u : TimelineValue) → t.start ≡ u.start → t.leaps ≡ u.leaps → t ≡ u
same_times t u start leaps = ap (λ s. times s t.leaps) start ∙ ap (λ l. times u.start l) leaps

-- a line has one list of names and one timeline
one_of_line : (line other : List ℕ) (names more : List (List ℕ)) (t u : TimelineValue) → line ≡ other → HasNamesAndTimes line names t → HasNamesAndTimes other more u → (names ≡ more) × (t ≡ u)
one_of_line line other names more t u same h k =
    let value = same_some h.value k.value (json_of other) (ap json_of (sym same) ∙ h.read) k.read in (
      h.named ∙ ap (λ d. map name_in (readers_in d)) value ∙ sym k.named,
      same_times t u (same_some t.start u.start (start_of k.value) (ap start_of (sym value) ∙ h.start) k.start) (same_some t.leaps u.leaps (leaps_of k.value) (ap leaps_of (sym value) ∙ h.leaps) k.leaps),
    )

pub one_plant_line : (x : List ℕ) (names more : List (List ℕ)) (t u : TimelineValue) → IsPlantLineOf x names t → IsPlantLineOf x more u → (names ≡ more) × (t ≡ u)
one_plant_line x names more t u h k = one_of_line h.line k.line names more t u (same_some h.line k.line (plant_line_of x) h.first k.first) h.says k.says

-- ---- what is written

true_of : (x : List ℕ) (above : List (List ℕ)) → IsTrueLog x above → AreTrueOf x above
true_of x above log = record { names = log.scene.plan.names; times = log.scene.plan.setup.times; plant = plant_line x log.scene log.means; lines = log.lines }

pub vouches_by_plant_line : (shown : Shown) (x w rest : List ℕ) → output_shown x shown ≡ w ++ rest → VouchesByPlantLine x w
vouches_by_plant_line shown x w rest is = λ above ends. true_of x above (vouches_for_itself shown x w rest is above ends)
