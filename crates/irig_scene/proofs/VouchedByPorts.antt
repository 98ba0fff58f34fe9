-- The line of a vote is true by the port line behind it.
use Rattle.std.proofs.Common.{◌≡◌, ℕ, ◌^◌, ◌<◌, ◌||◌, Bool, true, false, cond, List, ◌∷◌, ◌++◌, Option, Some, None, refl, ap, sym, subst, ◌∙◌, append_assoc}
use Rattle.std.specs.Prelude.{is_some, filter}
use Rattle.std.specs.List.{AllByRecursion}
use Rattle.std.proofs.lemmas.Bool.{false≢true, both_ways}
use Rattle.std.proofs.lemmas.List.Elements.{recursion_from_All}
use Rattle.irig_time.specs.Timelines.{second_at}
use Rattle.irig_time.specs.TimelineFaults.{IsTimeline}
use Rattle.irig_plant.specs.declared.entry.Entry.{Entry}
use Rattle.irig_plant.specs.Schedule.{log_of}
use Rattle.report_log.specs.declared.shown.Shown.{Shown}
use Rattle.report_log.specs.Text.{time_shown_text}
use Rattle.report_log.specs.LogLines.{whole_lines}
use Rattle.report_log.specs.PortWords.{has_false_majority}
use Rattle.report_log.proofs.WordLaws.{AreNames}
use Rattle.report_log.proofs.LogLaws.{all_join, all_map, all_filter, whole_front, entry_line, entry_shows}
use Rattle.report_log.proofs.RowLaws.{port_row, entry_rows, tick_rows, rows, lines_of_rows, port_row_shows_nothing}
use Rattle.report_log.proofs.LastLines.{refusal_lines}
use Rattle.report_log.proofs.PortWordLaws.{row_words}
use Rattle.report_log.proofs.VotedTicks.{IsTrueByWords, log_true_by_words}
use Rattle.irig_scene.proofs.BrokenLogs.{each_both}
use Rattle.report_log.proofs.NextLines.{AllNext, next_at, next_by_second, next_of_ticks, line_voted}
use Rattle.irig_scene.specs.Scene.{Scene, meaning_of, ending_text, output_shown}
use Rattle.report_run.specs.Meanings.{Refused}
use Rattle.irig_scene.specs.PortLines.{is_port_line}
use Rattle.irig_scene.specs.VouchedByPorts.{ShowsTruthByPorts, IsTrueByPorts, VouchesByPorts}
use Rattle.irig_scene.proofs.NameLaws.{are_names_named}
use Rattle.irig_scene.proofs.TrueLines.{HasFewEdges, edges_few, scene_sound, output_of}
use Rattle.irig_scene.proofs.PlantLines.{plant_line}
use Rattle.irig_scene.proofs.PortLineLaws.{entry_is_none, refusal_is_none, last_is_none}

abbrev IsNone : List ℕ → Type 0
IsNone line = is_port_line line ≡ false

-- the lines of a scene
module _ (x : Scene) (named : AreNames x.plan.names) (sound : IsTimeline x.plan.setup.times) (few : HasFewEdges (log_of x.plan.setup x.events)) where
  abbrev ByPorts : List ℕ → List ℕ → Type 0
  ByPorts = ShowsTruthByPorts x.plan.names x.plan.setup.times

  after_port : (bs next : List ℕ) → ByPorts (32 ∷ bs) next
  after_port bs next r n time words line told none = absurd (port_row_shows_nothing x.plan.names bs r n time line.shows)

  before_none : (line next : List ℕ) → IsNone next → ByPorts line next
  before_none line next other r n time words voted told none = absurd (both_ways (is_port_line next) other (ap is_port_line told.is))

  entry_true : (e : Entry) → (e.edge < 2 ^ 64) × IsTrueByWords x.plan.setup.times e → ByPorts (entry_line x.plan.names e) (port_row x.plan.names e)
  entry_true e h r n time words line told none =
      let same = entry_shows x.plan.names e r n time named h.0 line.shows in
      let shown = row_words x.plan.names e r n words named h.0 told in
      let says = h.1 (line_voted x.plan.names e r n time named line) (subst (λ ws. has_false_majority ws ≡ false) shown.words_are none) in
      record {
        second = says.0;
        is_true = subst (λ m. second_at x.plan.setup.times m ≡ Some says.0) (sym same.edge) says.2;
        written = same.time_is ∙ ap time_shown_text says.1;
      }

  each_next : (shown : Shown) (k : Option Refused) → AllNext ByPorts (rows x.plan.names shown (log_of x.plan.setup x.events) ++ whole_lines (ending_text k (Some x)))
  each_next shown k =
      let s = x.plan.setup in
      let all = shown.all in
      let log = log_of s x.events in
      let last = whole_lines (ending_text k (Some x)) in
      let none : AllByRecursion IsNone last = recursion_from_All IsNone last (last_is_none x k named) in
      let passes : Entry → Bool = λ e. all || is_some e.report.announce in
      elim (shown.ports) as (λ p. AllNext ByPorts (cond p (tick_rows x.plan.names all log) (entry_rows x.plan.names all log) ++ last)) [
        | true ↦
            next_of_ticks x.plan.names all ByPorts (λ e. (e.edge < 2 ^ 64) × IsTrueByWords s.times e) after_port entry_true log last
            (each_both (λ e. e.edge < 2 ^ 64) (IsTrueByWords s.times) log few (log_true_by_words s x.events sound))
            (next_by_second IsNone ByPorts before_none last none)
        | false ↦
            next_by_second IsNone ByPorts before_none (entry_rows x.plan.names all log ++ last)
            (all_join IsNone (entry_rows x.plan.names all log) last
            (all_map (λ e. e.edge < 2 ^ 64) IsNone (entry_line x.plan.names) (entry_is_none x.plan.names) (filter passes log) (all_filter (λ e. e.edge < 2 ^ 64) passes log few)) none)
      ]

-- ---- what was written

-- without a plant there is no port line
no_plant_tells : (k : Option Refused) → AllByRecursion IsNone (whole_lines (ending_text k None))
unfolding whole_lines
no_plant_tells (Some k) = rw (refusal_lines k.line k.refusal) (refusal_is_none k.line k.refusal, tt)
no_plant_tells None = tt

vouched : (shown : Shown) (x : List ℕ) (above more : List (List ℕ)) (line words : List ℕ) (o : Option Scene) → (meaning_of x).scene ≡ o → whole_lines (output_shown x shown) ≡ above ++ line ∷ (32 ∷ words) ∷ more
    → IsTrueByPorts x line (32 ∷ words)
vouched shown x above more line words None means is =
    let second : List ℕ → List ℕ → Type 0 = λ a b. IsNone b in
    let none : AllNext second (above ++ line ∷ (32 ∷ words) ∷ more) =
    subst (AllNext second) (sym (ap whole_lines (output_of shown x None means)) ∙ is) (next_by_second IsNone second (λ a b h. h) _ (no_plant_tells (meaning_of x).refused)) in
    absurd (false≢true (sym (next_at second above line (32 ∷ words) more none)))
vouched shown x above more line words (Some at) means is =
    let sound = scene_sound x at means in
    let named = are_names_named at.plan.names sound.plan.names in
    let s = at.plan.setup in
    let k = (meaning_of x).refused in
    let By : List ℕ → List ℕ → Type 0 = ShowsTruthByPorts at.plan.names s.times in
    let lines_are = sym (lines_of_rows at.plan.names shown (log_of s at.events) (ending_text k (Some at)) named) ∙ sym (ap whole_lines (output_of shown x (Some at) means)) ∙ is in
    let every : AllNext By (above ++ line ∷ (32 ∷ words) ∷ more) = subst (AllNext By) lines_are (each_next at named sound.plan.timeline (edges_few s at.events sound.played) shown k) in
    record { names = at.plan.names; times = s.times; plant = plant_line x at means; shown = next_at By above line (32 ∷ words) more every }

pub vouches_by_ports : (shown : Shown) (x w rest : List ℕ) → output_shown x shown ≡ w ++ rest → VouchesByPorts x w
vouches_by_ports shown x w rest is = λ above later line words lines.
    let front = whole_front w rest in
    vouched shown x above (later ++ front.0) line words (meaning_of x).scene refl
    (ap whole_lines is ∙ front.1 ∙ ap (λ ls. ls ++ front.0) lines ∙ append_assoc above (line ∷ (32 ∷ words) ∷ later) front.0)
