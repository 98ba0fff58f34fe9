-- A log whose premises broke vouches for what stands before that.
use Rattle.std.proofs.Common.{◌≡◌, ◌≢◌, ℕ, ◌^◌, ◌<◌, Bool, true, false, cond, List, [], ◌∷◌, ◌++◌, length, Option, Some, None, refl, ap, sym, subst, ◌∙◌, append_assoc, nat_lt, arith, rules}
use Rattle.std.specs.Prelude.{is_some, option_and_then, slice_get, unwrap_or}
use Rattle.std.specs.List.{AllByRecursion}
use Rattle.std.proofs.lemmas.List.Elements.{recursion_from_All, All-from_recursion}
use Rattle.irig_time.specs.declared.second.UtcSecond.{UtcSecond}
use Rattle.irig_time.specs.Timelines.{second_at}
use Rattle.irig_plant.specs.declared.audit.Audit.{Audit}
use Rattle.irig_plant.specs.declared.audit.Audit.TheVariants.{Kept, Broken, FalseTable}
use Rattle.irig_plant.specs.declared.entry.Entry.{Entry}
use Rattle.irig_plant.specs.declared.event.Event.{Event}
use Rattle.irig_plant.specs.declared.event.Event.TheVariants.{Tick}
use Rattle.irig_plant.specs.declared.fault.PlantFault.TheVariants as plant
use Rattle.irig_plant.specs.Schedule.{Setup, ticks_of, log_of}
use Rattle.irig_plant.specs.Audits.{audit_of}
use Rattle.irig_time.specs.TimelineFaults.{IsTimeline}
use Rattle.irig_plant.specs.Truth.{AnnouncesTruth, IsTruthful}
use Rattle.irig_plant.proofs.BrokenLogs.{BreaksFirst, breaks_at, true_below, each_by, splits_log}
use Rattle.irig_plant.proofs.Headline.{log_is_true}
use Rattle.report_log.specs.declared.shown.Shown.{Shown}
use Rattle.report_log.specs.LogLines.{whole_lines, Shows, ShowsNothing, broken_line}
use Rattle.report_log.proofs.WordLaws.{AreNames}
use Rattle.report_log.proofs.LogLaws.{all_left, all_at, all_join, whole_front, entry_line, entry_shows, entry_digit}
use Rattle.report_log.proofs.RowLaws.{rows, lines_of_rows, each_row, port_row_shows_nothing}
use Rattle.report_log.proofs.LastLines.{refusal_lines, audit_lines}
use Rattle.report_log.proofs.BrokenLines.{HasFewEdge, IsBrokenBy, says_broken, refusal_not_broken, rows_join, AllAfterFirst, rows_after_first, front_has}
use Rattle.irig_scene.specs.Scene.{Scene, refusal_as, meaning_of, log_text, audit_in, ending_text, output_shown}
use Rattle.report_run.specs.Meanings.{Refused}
use Rattle.irig_scene.specs.VouchedLines.{ShowsTruth}
use Rattle.irig_scene.specs.BrokenLogs.{ShowsTruthBefore, AreTrueUntil, VouchesUntilBroken}
use Rattle.irig_scene.proofs.NameLaws.{are_names_named}
use Rattle.irig_scene.proofs.TrueLines.{IsPlayed, HasFewEdges, edges_few, scene_sound, output_of, last_shows_nothing, time_of}
use Rattle.irig_scene.proofs.PlantLines.{plant_line}

-- ---- the reader of a tick that was played

known_by : (b : Bool) (o : Option UtcSecond) → option_and_then refusal_as (cond b (cond (is_some o) None (Some plant.EndOfYears)) (Some plant.NoSuchReader)) ≡ None → b ≡ true
known_by true o h = refl
known_by false o h = absurd cc

known_reader : (s : Setup) (r : ℕ) (later earlier : List Event) → IsPlayed s (later ++ (Tick r ∷ earlier)) → r < length s.readers
known_reader s r [] earlier h =
    let known : nat_lt r (length s.readers) ≡ true = known_by (nat_lt r (length s.readers)) (second_at s.times (ticks_of r earlier)) h.0 in
    search rules
known_reader s r (e ∷ later) earlier h = known_reader s r later earlier h.1

-- ---- a fact of each line

module _ (x : Scene) (names : AreNames x.plan.names) where
  abbrev log : List Entry
  log = log_of x.plan.setup x.events

  -- of the entries' lines, of port lines and of the last
  pub each_line_and_last : (shown : Shown) (Fact : List ℕ → Type 0) (EntryFact : Entry → Type 0) (k : Option Refused) → ((e : Entry) → EntryFact e → Fact (entry_line x.plan.names e)) → ((l : List ℕ) → Fact (32 ∷ l))
      → AllByRecursion Fact (whole_lines (ending_text k (Some x))) → AllByRecursion EntryFact log → AllByRecursion Fact (whole_lines (log_text shown (Some x) ++ ending_text k (Some x)))
  each_line_and_last shown Fact EntryFact k entry port last h =
      subst (AllByRecursion Fact) (sym (lines_of_rows x.plan.names shown log (ending_text k (Some x)) names))
      (all_join Fact (rows x.plan.names shown log) (whole_lines (ending_text k (Some x))) (each_row x.plan.names shown Fact EntryFact entry port log h) last)

  -- a last line that names an edge is of an audit that does
  last_says : (edge : ℕ) (name : List ℕ) (k : Option Refused) → edge < 2 ^ 64 → HasFewEdge (audit_in x)
      → AllByRecursion (λ l. l ≡ broken_line edge name → IsBrokenBy x.plan.names (audit_in x) edge name) (whole_lines (ending_text k (Some x)))
  last_says edge name (Some k) few small = rw (refusal_lines k.line k.refusal) ((λ is. absurd (refusal_not_broken k.line k.refusal edge name is)), tt)
  last_says edge name None few small = rw (audit_lines x.plan.names (audit_in x) names) ((λ is. says_broken x.plan.names (audit_in x) edge name few small is), tt)

-- ---- what an audit says that names an edge

few_audit : (s : Setup) (ev : List Event) (a : Audit) → AllByRecursion (λ (e : Entry). e.edge < 2 ^ 64) (log_of s ev) → IsTimeline s.times → audit_of s ev ≡ a → HasFewEdge a
few_audit s ev Kept few sound is = tt
few_audit s ev (FalseTable r) few sound is = tt
few_audit s ev (Broken r n) few sound is =
    let cut = splits_log s ev r n sound (breaks_at s ev r n is) in
    subst (λ n. n < 2 ^ 64) cut.edge (all_at (λ (e : Entry). e.edge < 2 ^ 64) cut.first cut.entry cut.rest (subst (AllByRecursion (λ (e : Entry). e.edge < 2 ^ 64)) cut.log few))

all_right : {X : Type 0} (P : X → Type 0) (xs ys : List X) → AllByRecursion P (xs ++ ys) → AllByRecursion P ys
all_right P [] ys h = h
all_right P (x ∷ xs) ys h = all_right P xs ys h.1

after_first_join : {X : Type 0} (P : X → Type 0) (xs ys : List X) → AllAfterFirst P xs → AllByRecursion P ys → AllAfterFirst P (xs ++ ys)
after_first_join P [] [] h k = tt
after_first_join P [] (y ∷ ys) h k = k.1
after_first_join P (x ∷ xs) ys h k = all_join P xs ys h k

pub each_both : {X : Type 0} (P Q : X → Type 0) (xs : List X) → AllByRecursion P xs → AllByRecursion Q xs → AllByRecursion (λ x. P x × Q x) xs
each_both P Q [] h k = tt
each_both P Q (x ∷ xs) h k = ((h.0, k.0), each_both P Q xs h.1 k.1)

-- the lines of a scene whose audit names an edge
module _ (x : Scene) (names : AreNames x.plan.names) (r n : ℕ) (sound : IsTimeline x.plan.setup.times) (breaks : BreaksFirst x.plan.setup x.events r n) (few : HasFewEdges (log_of x.plan.setup x.events)) (known : r < length x.plan.names) where
  abbrev IsOther : List ℕ → Type 0
  IsOther line = (time : List ℕ) → ¬ Shows x.plan.names line r n time

  own_lines : (shown : Shown) (k : Option Refused) → AllByRecursion (ShowsTruthBefore x.plan.names x.plan.setup.times r n) (whole_lines (log_text shown (Some x) ++ ending_text k (Some x)))
  own_lines shown k =
      let s = x.plan.setup in
      let Own : List ℕ → Type 0 = ShowsTruthBefore x.plan.names s.times r n in
      let entry : (e : Entry) → (e.edge < 2 ^ 64) × AnnouncesTruth s x.events e → Own (entry_line x.plan.names e) = λ e h m time low shows full.
      let same = entry_shows x.plan.names e r m time names h.0 shows in
      time_of s.times m e.report.announce time same.time_is full
      (λ u announces. subst (λ m. second_at s.times m ≡ Some u) (sym same.edge) ((true_below s x.events r n e sound breaks h.1).second (sym same.reader) (omega (arith, low, same.edge)) u announces)) in
      each_line_and_last x names shown Own (λ e. (e.edge < 2 ^ 64) × AnnouncesTruth s x.events e) k entry (λ l m time low shows. absurd (port_row_shows_nothing x.plan.names l r m time shows))
      (each_by (ShowsNothing x.plan.names) Own (λ l nothing m time low shows. absurd (nothing r m time shows)) (whole_lines (ending_text k (Some x))) (recursion_from_All _ _ (last_shows_nothing x names k)))
      (each_both (λ e. e.edge < 2 ^ 64) (AnnouncesTruth s x.events) (log_of s x.events) few (recursion_from_All _ _ (log_is_true s x.events sound)))

  lines_before : (shown : Shown) (k : Option Refused) (earlier later : List (List ℕ)) (line time : List ℕ) → whole_lines (log_text shown (Some x) ++ ending_text k (Some x)) ≡ earlier ++ line ∷ later
      → Shows x.plan.names line r n time → AllByRecursion (ShowsTruth x.plan.names x.plan.setup.times) earlier
  lines_before shown k earlier later line time is shows =
      let s = x.plan.setup in
      let ns = x.plan.names in
      let cut = splits_log s x.events r n sound breaks in
      let last = whole_lines (ending_text k (Some x)) in
      let a = rows ns shown cut.first in
      let b = rows ns shown (cut.entry ∷ cut.rest) in
      let lines : a ++ (b ++ last) ≡ earlier ++ line ∷ later =
      sym (lines_of_rows ns shown (log_of s x.events) (ending_text k (Some x)) names
      ∙ ap (λ es. rows ns shown es ++ last) cut.log ∙ ap (λ ls. ls ++ last) (rows_join ns shown cut.first (cut.entry ∷ cut.rest)) ∙ append_assoc a b last) ∙ is in
      let few_cut : HasFewEdges (cut.first ++ cut.entry ∷ cut.rest) = subst HasFewEdges cut.log few in
      let few_rest : HasFewEdges cut.rest = (all_right (λ e. e.edge < 2 ^ 64) cut.first (cut.entry ∷ cut.rest) few_cut).1 in
      let few_first : HasFewEdges cut.first = all_left (λ e. e.edge < 2 ^ 64) cut.first (cut.entry ∷ cut.rest) few_cut in
      let other_port : (l : List ℕ) → IsOther (32 ∷ l) = λ l t s. port_row_shows_nothing ns l r n t s in
      let other_early : (e : Entry) → (e.edge < 2 ^ 64) × (e.reader ≡ r → e.edge < n) → IsOther (entry_line ns e) = λ e h t shows.
      let same = entry_shows ns e r n t names h.0 shows in
      omega (arith, h.1 (sym same.reader), same.edge) in
      let other_late : (e : Entry) → (e.edge < 2 ^ 64) × (e.reader ≡ r → n < e.edge) → IsOther (entry_line ns e) = λ e h t shows.
      let same = entry_shows ns e r n t names h.0 shows in
      omega (arith, h.1 (sym same.reader), same.edge) in
      let true_entry : (e : Entry) → (e.edge < 2 ^ 64) × IsTruthful s.times e → ShowsTruth ns s.times (entry_line ns e) = λ e h q m t shows full.
      let same = entry_shows ns e q m t names h.0 shows in
      time_of s.times m e.report.announce t same.time_is full (λ u announces. subst (λ m. second_at s.times m ≡ Some u) (sym same.edge) (h.1.second u announces)) in
      let true_rows : AllByRecursion (ShowsTruth ns s.times) a =
      each_row ns shown (ShowsTruth ns s.times) (λ e. (e.edge < 2 ^ 64) × IsTruthful s.times e) true_entry (λ l q m t shows. absurd (port_row_shows_nothing ns l q m t shows)) cut.first
      (each_both (λ e. e.edge < 2 ^ 64) (IsTruthful s.times) cut.first few_first cut.true_first) in
      let others : AllByRecursion IsOther a =
      each_row ns shown IsOther (λ e. (e.edge < 2 ^ 64) × (e.reader ≡ r → e.edge < n)) other_early other_port cut.first
      (each_both (λ e. e.edge < 2 ^ 64) (λ e. e.reader ≡ r → e.edge < n) cut.first few_first cut.early) in
      let others_later : AllAfterFirst IsOther b =
      rows_after_first ns shown IsOther (λ e. (e.edge < 2 ^ 64) × (e.reader ≡ r → n < e.edge)) other_late other_port cut.entry cut.rest
      (each_both (λ e. e.edge < 2 ^ 64) (λ e. e.reader ≡ r → n < e.edge) cut.rest few_rest cut.late) in
      let others_last : AllByRecursion IsOther last = each_by (ShowsNothing ns) IsOther (λ l nothing t shows. nothing r n t shows) last (recursion_from_All _ _ (last_shows_nothing x names k)) in
      front_has (ShowsTruth ns s.times) IsOther a (b ++ last) earlier later line true_rows others (after_first_join IsOther b last others_later others_last) lines (λ other. other time shows)

-- ---- what was written

-- without a plant no last line names an edge
none_says_broken : (edge : ℕ) (name : List ℕ) (k : Option Refused) → AllByRecursion (λ l. l ≢ broken_line edge name) (whole_lines (ending_text k None))
unfolding whole_lines
none_says_broken edge name (Some k) = rw (refusal_lines k.line k.refusal) (refusal_not_broken k.line k.refusal edge name, tt)
none_says_broken edge name None = tt

-- no row is such a line
entry_not_broken : (names : List (List ℕ)) (e : Entry) (edge : ℕ) (name : List ℕ) → e.edge < 2 ^ 64 → entry_line names e ≢ broken_line edge name
entry_not_broken names e edge name small is = omega (arith, entry_digit names e 112 _ small is)

port_not_broken : (bs : List ℕ) (edge : ℕ) (name : List ℕ) → 32 ∷ bs ≢ broken_line edge name
port_not_broken bs edge name is =
    let apart : 32 ≡ 112 = ap (λ (l : List ℕ). unwrap_or (slice_get l 0) 0) is in
    omega (arith, apart)

vouched : (shown : Shown) (x : List ℕ) (edge : ℕ) (name : List ℕ) (above more : List (List ℕ)) (o : Option Scene) → edge < 2 ^ 64 → (meaning_of x).scene ≡ o
    → whole_lines (output_shown x shown) ≡ above ++ broken_line edge name ∷ more → AreTrueUntil x edge name above
vouched shown x edge name above more None few means is =
    absurd (all_at (λ l. l ≢ broken_line edge name) above (broken_line edge name) more
    (subst (AllByRecursion (λ l. l ≢ broken_line edge name)) (sym (ap whole_lines (output_of shown x None means)) ∙ is) (none_says_broken edge name (meaning_of x).refused)) refl)
vouched shown x edge name above more (Some at) few means is =
    let sound = scene_sound x at means in
    let names = are_names_named at.plan.names sound.plan.names in
    let s = at.plan.setup in
    let k = (meaning_of x).refused in
    let lines_are = sym (ap whole_lines (output_of shown x (Some at) means)) ∙ is in
    let few_edges = edges_few s at.events sound.played in
    let Says : List ℕ → Type 0 = λ l. l ≡ broken_line edge name → IsBrokenBy at.plan.names (audit_in at) edge name in
    let says : AllByRecursion Says (above ++ broken_line edge name ∷ more) =
    subst (AllByRecursion Says) lines_are
    (each_line_and_last at names shown Says (λ e. e.edge < 2 ^ 64) k (λ e small is. absurd (entry_not_broken at.plan.names e edge name small is)) (λ l is. absurd (port_not_broken l edge name is))
    (last_says at names edge name k few (few_audit s at.events (audit_in at) few_edges sound.plan.timeline refl)) few_edges) in
    let broken = all_at Says above (broken_line edge name) more says refl in
    let r = broken.reader in
    let breaks = breaks_at s at.events r edge broken.is in
    let known : r < length at.plan.names = omega (arith, known_reader s r breaks.later breaks.earlier (subst (IsPlayed s) breaks.is sound.played), sound.plan.named) in
    record {
      names = at.plan.names;
      times = s.times;
      plant = plant_line x at means;
      reader = r;
      known = known;
      named = broken.named;
      own = All-from_recursion (ShowsTruthBefore at.plan.names s.times r edge) above
          (all_left (ShowsTruthBefore at.plan.names s.times r edge) above (broken_line edge name ∷ more)
          (subst (AllByRecursion (ShowsTruthBefore at.plan.names s.times r edge)) lines_are (own_lines at names r edge sound.plan.timeline breaks few_edges known shown k)));
      before = λ earlier later line time cut shows.
          All-from_recursion (ShowsTruth at.plan.names s.times) earlier
          (lines_before at names r edge sound.plan.timeline breaks few_edges known shown k earlier (later ++ broken_line edge name ∷ more) line time
          (lines_are ∙ ap (λ ls. ls ++ broken_line edge name ∷ more) cut ∙ append_assoc earlier (line ∷ later) (broken_line edge name ∷ more)) shows);
    }

pub vouches_until_broken : (shown : Shown) (x w rest : List ℕ) → output_shown x shown ≡ w ++ rest → VouchesUntilBroken x w
vouches_until_broken shown x w rest is = λ edge name above few ends.
    let front = whole_front w rest in
    vouched shown x edge name above front.0 (meaning_of x).scene few refl
    (ap whole_lines is ∙ front.1 ∙ ap (λ ls. ls ++ front.0) ends ∙ append_assoc above (broken_line edge name ∷ []) front.0)
