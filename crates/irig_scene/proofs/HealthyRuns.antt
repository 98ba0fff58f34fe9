-- What bytes of whole seconds mean, and what the log of a healthy plant says.
use Rattle.std.specs.Prelude.{is_some, ◌||◌, filter}
use Rattle.std.specs.List.{Contains, AllByRecursion, flat_map, range_with_len}
use Rattle.std.proofs.Common.{◌≡◌, ℕ, zero, suc, ◌+◌, ◌-◌, ◌<◌, ◌≤◌, ◌⊎◌, Bool, true, false, cond, List, [], ◌∷◌, ◌++◌, length, map, Option, Some, None, Ok, inl, inr, refl, sym, ap, subst, ◌∙◌, arith, codes}
use Rattle.std.proofs.lemmas.Bool.{cases_eq, le-ltb}
use Rattle.std.proofs.lemmas.List.Elements.{recursion_from_All, All-weaker, Contains-append_left, Contains-append_right}
use Rattle.irig_time.specs.declared.second.UtcSecond.{UtcSecond}
use Rattle.irig_time.specs.Timelines.{second_at}
use Rattle.irig_time.proofs.TimeLaws.{few}
use Rattle.irig_time.proofs.SecondAt.{second_is}
use Rattle.irig_time.specs.TextValues.{second_text}
use Rattle.irig_reader.specs.declared.rules.ReaderRules.{ReaderRules}
use Rattle.irig_reader.specs.Rules.{IsReaderRules}
use Rattle.irig_plant.specs.declared.audit.Audit.TheVariants.{Kept}
use Rattle.irig_plant.specs.declared.event.Event.{Event}
use Rattle.irig_plant.specs.declared.entry.Entry.{Entry}
use Rattle.irig_plant.specs.Schedule.{Setup, setup_at, log_of}
use Rattle.irig_plant.specs.Audits.{audit_of}
use Rattle.irig_plant.specs.Runs.{events_after, AreAccepted}
use Rattle.irig_plant.specs.WholeSecond.{second_of}
use Rattle.irig_plant.specs.Edges.{CanLock}
use Rattle.irig_plant.proofs.Standing.{can_lock}
use Rattle.irig_plant.proofs.SecondEvents.{after_both}
use Rattle.irig_plant.proofs.HealthyLaws.{earlier_there, parts_accepted, takes_seconds_so_far, logs_health, keeps_health}
use Rattle.irig_plant.specs.HealthyPlant.{seconds_of, IsHealthyPlant, healthy_report, healthy_entry, healthy_log}
use Rattle.scenario_line.specs.declared.event_line.Command.TheVariants as command
use Rattle.scenario_line.specs.EventLine.{command_in_line}
use Rattle.scenario_values.specs.Names.{are_names}
use Rattle.scenario_line.specs.PlantLine.{Plan}
use Rattle.scenario_line.proofs.SoundPlans.{IsSound, plan_is_sound}
use Rattle.report_run.specs.Lines.{max_line, max_lines}
use Rattle.irig_scene.specs.Scene.{Scene, scenario, scene, after_play, begun, next_of_command, meaning_of, text_of, output}
use Rattle.report_run.specs.Meanings.{Step, step, step_to, step_of_first, step_of_next, meaning, meaning_from}
use Rattle.report_log.specs.Text.{time_shown_text, entries_text, entries_alone, audit_text}
use Rattle.report_log.specs.LogLines.{whole_lines, Shows}
use Rattle.irig_scene.specs.HealthyRun.{AskSeconds, IsOfSeconds, IsHealthyRun, HasTimeLine}
use Rattle.irig_scene.proofs.NameLaws.{are_names_named}
use Rattle.report_log.proofs.LogLaws.{entry_line, lines_of_entries, entry_line_shows}
use Rattle.irig_scene.proofs.PlayLaws.{play_all}
use Rattle.irig_scene.proofs.PlayLaws.{split_at}
use Rattle.report_run.proofs.StepLaws.{step_blank, step_taken, meaning_goes, meaning_ends}
use Rattle.scenario_line.proofs.BlankLines.{plant_not_blank, command_not_blank}

-- ---- elements of lists

-- x is one of them
abbrev Stands : {X : Type 0} → List X → X → Type 0
Stands [] x = ⊥
Stands (y ∷ ys) x = (y ≡ x) ⊎ Stands ys x

contains : {X : Type 0} (xs : List X) (x : X) → Stands xs x → Contains xs x
contains [] x h = absurd h
contains (y ∷ ys) x (inl e) = (0, omega arith, e)
contains (y ∷ ys) x (inr h) = Contains-append_right (y ∷ []) ys x (contains ys x h)

stands_left : {X : Type 0} (xs ys : List X) (x : X) → Stands xs x → Stands (xs ++ ys) x
stands_left [] ys x h = absurd h
stands_left (z ∷ zs) ys x (inl e) = inl e
stands_left (z ∷ zs) ys x (inr h) = inr (stands_left zs ys x h)

stands_right : {X : Type 0} (xs ys : List X) (x : X) → Stands ys x → Stands (xs ++ ys) x
stands_right [] ys x h = h
stands_right (z ∷ zs) ys x h = inr (stands_right zs ys x h)

stands_map : {X Y : Type 0} (f : X → Y) (xs : List X) (x : X) → Stands xs x → Stands (map f xs) (f x)
stands_map f [] x h = absurd h
stands_map f (y ∷ ys) x (inl e) = inl (ap f e)
stands_map f (y ∷ ys) x (inr h) = inr (stands_map f ys x h)

stands_flat : {X Y : Type 0} (f : X → List Y) (xs : List X) (x : X) (y : Y) → Stands xs x → Stands (f x) y → Stands (flat_map f xs) y
stands_flat f [] x y h k = absurd h
stands_flat f (z ∷ zs) x y (inl e) k = stands_left (f z) (flat_map f zs) y (subst (λ z. Stands (f z) y) (sym e) k)
stands_flat f (z ∷ zs) x y (inr h) k = stands_right (f z) (flat_map f zs) y (stands_flat f zs x y h k)

stands_filter : {X : Type 0} (p : X → Bool) (xs : List X) (x : X) → p x ≡ true → Stands xs x → Stands (filter p xs) x
stands_filter p [] x is h = absurd h
stands_filter p (y ∷ ys) x is (inl e) = let passes : p y ≡ true = ap p e ∙ is in rw passes (inl e)
stands_filter p (y ∷ ys) x is (inr h) = elim (p y) as (λ b. Stands (cond b (y ∷ filter p ys) (filter p ys)) x) [
  | true ↦ inr (stands_filter p ys x is h)
  | false ↦ stands_filter p ys x is h
]

stands_range : (a n k : ℕ) → a ≤ k → k < a + n → Stands (range_with_len a n) k
stands_range a zero k from to = absurd (omega (arith, from, to))
stands_range a (suc n) k from to = elim (cases_eq a k) [
  | inl same ↦ inl same
  | inr other ↦ inr (stands_range (a + 1) n k (omega (arith, from, other)) (omega (arith, to)))
]

-- ---- lines of whole seconds

module _ (plan : Plan) where
  abbrev s : Setup
  s = plan.setup

  -- what has come after so many seconds
  abbrev after : ℕ → List Event
  after n = events_after (seconds_of s n) []

  abbrev events : List Event
  events = second_of (length s.generators) (length s.readers)

  more_seconds : (done k : ℕ) → events_after (seconds_of s k) (after done) ≡ after (done + k)
  more_seconds done k = sym (ap (λ es. events_after es []) (split_at done k events) ∙ after_both (seconds_of s done) (seconds_of s k) [])

  accepted_part : (done k m : ℕ) → AreAccepted s (seconds_of s (done + (k + m))) [] → AreAccepted s (seconds_of s k) (after done)
  accepted_part done k m h =
      let parts : seconds_of s (done + (k + m)) ≡ seconds_of s done ++ (seconds_of s k ++ seconds_of s m) = split_at done (k + m) events ∙ ap (λ more. seconds_of s done ++ more) (split_at k m events) in
      let later = (parts_accepted s (seconds_of s done) (seconds_of s k ++ seconds_of s m) [] (subst (λ es. AreAccepted s es []) parts h)).1 in
      (parts_accepted s (seconds_of s k) (seconds_of s m) (after done) later).0

  seconds_step : (number done k : ℕ) (l : List ℕ) → number ≤ max_lines → length l ≤ max_line → command_in_line plan.names l ≡ Ok (command.Seconds k) → AreAccepted s (seconds_of s k) (after done)
      → step scenario number (Some (scene plan (after done))) l ≡ step_to (Some (scene plan (after (done + k)))) None
  seconds_step number done k l few short says accepted =
      step_taken scenario number (Some (scene plan (after done))) l few short (command_not_blank plan.names l (command.Seconds k) says)
      ∙ ap (λ c. step_of_next (next_of_command (scene plan (after done)) c)) says
      ∙ ap (λ p. step_of_next (after_play plan p)) (play_all s (seconds_of s k) (after done) accepted)
      ∙ ap (λ ev. step_to (Some (scene plan ev)) None) (more_seconds done k)

  asked : (ls : List (List ℕ)) (number done n : ℕ) → number + length ls ≤ max_lines + 1 → AllByRecursion (λ l. length l ≤ max_line) ls → AskSeconds plan.names ls n → AreAccepted s (seconds_of s (done + n)) []
      → meaning_from scenario ls number (Some (scene plan (after done))) ≡ meaning (Some (scene plan (after (done + n)))) None
  asked [] number done n few short h accepted =
      let same : done ≡ done + n = omega (arith, h) in
      meaning_ends scenario number (Some (scene plan (after done))) ∙ ap (λ k. meaning (Some (scene plan (after k))) None) same
  asked (l ∷ ls) number done n few short (inl h) accepted =
      let at = Some (scene plan (after done)) in
      let skipped = step_blank scenario number at l (omega (arith, few)) short.0 h.0 in
      meaning_goes scenario l ls number at (ap (λ (t : Step Scene). t.refusal) skipped)
      ∙ ap (λ (t : Step Scene). meaning_from scenario ls (number + 1) t.scene) skipped
      ∙ asked ls (number + 1) done n (omega (arith, few)) short.1 h.1 accepted
  asked (l ∷ ls) number done n few short (inr h) accepted =
      let k = h.0 in
      let m = h.1 in
      let sum : done + n ≡ done + (k + m) = omega (arith, h.4) in
      let total : done + n ≡ done + k + m = omega (arith, h.4) in
      let at = Some (scene plan (after done)) in
      let part = accepted_part done k m (subst (λ t. AreAccepted s (seconds_of s t) []) sum accepted) in
      let taken = seconds_step number done k l (omega (arith, few)) short.0 h.2 part in
      meaning_goes scenario l ls number at (ap (λ (t : Step Scene). t.refusal) taken)
      ∙ ap (λ (t : Step Scene). meaning_from scenario ls (number + 1) t.scene) taken
      ∙ asked ls (number + 1) (done + k) m (omega (arith, few)) short.1 h.3 (subst (λ t. AreAccepted s (seconds_of s t) []) total accepted)
      ∙ ap (λ t. meaning (Some (scene plan (after t))) None) (sym total)

  pub means_seconds : (x : List ℕ) (n : ℕ) → IsOfSeconds x plan n → AreAccepted s (seconds_of s n) [] → meaning_of x ≡ meaning (Some (scene plan (after n))) None
  means_seconds x n h accepted =
      let short = recursion_from_All (λ l. length l ≤ max_line) (h.line ∷ h.more) h.short in
      let first : step scenario 1 None h.line ≡ step_to (Some (scene plan [])) None = step_taken scenario 1 None h.line (omega arith) short.0 (plant_not_blank h.line plan h.plant) ∙ ap (λ p. step_of_first (begun p)) h.plant in
      let none : 0 + n ≡ n = omega arith in
      ap (λ ls. meaning_from scenario ls 1 None) h.are
      ∙ meaning_goes scenario h.line h.more 1 None (ap (λ (t : Step Scene). t.refusal) first)
      ∙ ap (λ (t : Step Scene). meaning_from scenario h.more 2 t.scene) first
      ∙ asked h.more 2 0 n (omega (arith, h.few)) short.1 h.seconds (subst (λ t. AreAccepted s (seconds_of s t) []) (sym none) accepted)
      ∙ ap (λ t. meaning (Some (scene plan (after t))) None) none

  -- ---- the log of a healthy plant

  -- what the plant says of so many seconds
  pub record IsAnnounced (n : ℕ) : Type 0 where
    pub accepted : AreAccepted s (seconds_of s n) []
    pub log : log_of s (after n) ≡ healthy_log s n
    pub kept : audit_of s (after n) ≡ Kept

  pub writes_healthy_log : (x : List ℕ) (all : Bool) (n : ℕ) → IsOfSeconds x plan n → IsAnnounced n → output x all ≡ entries_text plan.names all (healthy_log s n) ++ codes "premises kept\n"
  unfolding audit_text
  writes_healthy_log x all n h plant =
      ap (text_of (entries_alone all)) (means_seconds x n h plant.accepted)
      ∙ ap (λ es. entries_text plan.names all es ++ audit_text plan.names (audit_of s (after n))) plant.log
      ∙ ap (λ a. entries_text plan.names all (healthy_log s n) ++ audit_text plan.names a) plant.kept

  -- ---- its lines

  healthy_stands : (n r k : ℕ) → r < length s.readers → 1 ≤ k → k ≤ n → Stands (healthy_log s n) (healthy_entry s k r)
  healthy_stands n r k known from to =
      stands_flat (λ edge. map (healthy_entry s edge) (range_with_len 0 (length s.readers))) (range_with_len 1 n) k (healthy_entry s k r)
      (stands_range 1 n k from (omega (arith, to)))
      (stands_map (healthy_entry s k) (range_with_len 0 (length s.readers)) r (stands_range 0 (length s.readers) r (omega arith) (omega (arith, known))))

  -- from the lock on it tells T of its edge
  tells : (reader_rules : ReaderRules) (k : ℕ) → reader_rules.lock_after ≤ k → (healthy_report s.times reader_rules k).announce ≡ second_at s.times k
  tells reader_rules k late = rw (le-ltb k reader_rules.lock_after late) refl

  log_lines : (all : Bool) (text : List ℕ) (n : ℕ) → are_names plan.names ≡ true → text ≡ entries_text plan.names all (healthy_log s n) ++ codes "premises kept\n"
      → whole_lines text ≡ map (entry_line plan.names) (filter (λ e. all || is_some e.report.announce) (healthy_log s n)) ++ whole_lines (codes "premises kept\n")
  unfolding entries_text
  log_lines all text n named e = ap whole_lines e ∙ lines_of_entries plan.names (filter (λ e. all || is_some e.report.announce) (healthy_log s n)) (codes "premises kept\n") (are_names_named plan.names named)

  written : (all b : Bool) → b ≡ true → (all || b) ≡ true
  written true b h = refl
  written false b h = h

  one_line : (all : Bool) (text : List ℕ) (n r k : ℕ) (o : Option UtcSecond) → IsSound plan → text ≡ entries_text plan.names all (healthy_log s n) ++ codes "premises kept\n" → r < length s.readers
      → (setup_at s.readers r).rules.lock_after ≤ k → k ≤ n → second_at s.times k ≡ o → is_some o ≡ true → HasTimeLine plan (whole_lines text) r k
  one_line all text n r k None sound e known late to at some = absurd cc
  one_line all text n r k (Some u) sound e known late to at some =
      let entry = healthy_entry s k r in
      let names = plan.names in
      let reader_rules = (setup_at s.readers r).rules in
      let passes : Entry → Bool = λ e. all || is_some e.report.announce in
      let told : entry.report.announce ≡ Some u = tells reader_rules k late ∙ at in
      let locks = can_lock s r (All-weaker (λ x. IsReaderRules x.rules) CanLock (λ x h. h.lock_after.0) s.readers sound.readers.range) in
      let few_edges = few s.times k u ((second_is s.times k u).0 at) in
      let stands : Stands (map (entry_line names) (filter passes (healthy_log s n))) (entry_line names entry) =
      stands_map (entry_line names) (filter passes (healthy_log s n)) entry
      (stands_filter passes (healthy_log s n) entry (written all (is_some entry.report.announce) (ap is_some told)) (healthy_stands n r k known (omega (arith, locks, late)) to)) in
      record {
        line = entry_line names entry;
        stands = subst (λ ls. Contains ls (entry_line names entry)) (sym (log_lines all text n sound.names e))
            (Contains-append_left (map (entry_line names) (filter passes (healthy_log s n))) (whole_lines (codes "premises kept\n")) (entry_line names entry) (contains _ (entry_line names entry) stands));
        time = second_text u;
        shows = subst (λ t. Shows names (entry_line names entry) r k t) (ap time_shown_text told) (entry_line_shows names entry (omega (arith, few_edges)) (omega (arith, known, sound.named)));
        is_true = record { second = u; is_true = at; written = refl };
      }

  pub has_line : (x : List ℕ) (all : Bool) (n r k : ℕ) → IsOfSeconds x plan n → IsAnnounced n → is_some (second_at s.times n) ≡ true → r < length s.readers → (setup_at s.readers r).rules.lock_after ≤ k → k ≤ n
      → HasTimeLine plan (whole_lines (output x all)) r k
  has_line x all n r k h plant second known late to =
      let sum : k + (n - k) ≡ n = omega (arith, to) in
      one_line all (output x all) n r k (second_at s.times k) (plan_is_sound h.line plan h.plant) (writes_healthy_log x all n h plant) known late to refl (earlier_there s.times k (n - k) (ap (λ m. is_some (second_at s.times m)) sum ∙ second))

  -- ---- of a plan that a line gives

  pub is_taken : (x : List ℕ) (n : ℕ) → IsOfSeconds x plan n → is_some (second_at s.times n) ≡ true → AreAccepted s (seconds_of s n) []
  is_taken x n h second =
      let sound = plan_is_sound h.line plan h.plant in
      (takes_seconds_so_far s n sound.timeline sound.generators).1 second

  pub is_announced : (x : List ℕ) (n : ℕ) → IsHealthyRun x plan n → IsAnnounced n
  is_announced x n h =
      let sound = plan_is_sound h.bytes.line plan h.bytes.plant in
      let plant : IsHealthyPlant s = record { timeline = sound.timeline; generators = sound.generators; readers = sound.readers; tables = h.tables } in
      record { accepted = is_taken x n h.bytes h.second; log = logs_health s n plant h.second; kept = keeps_health s n plant h.second }
