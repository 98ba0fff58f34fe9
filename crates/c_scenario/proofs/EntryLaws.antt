-- The entries that a run keeps are those of its log, and each has the line that asked for it.
use Rattle.std.proofs.Common.{All, ◌≡◌, ℕ, zero, suc, ◌+◌, ◌-◌, ◌<◌, ◌≤◌, Bool, true, false, cond, List, [], ◌∷◌, ◌++◌, map, length, take, drop, get_or, length-append, inl, inr, Option, Some, None, Result, Ok, Err, refl, ap, sym, subst, ◌∙◌, append_assoc, append-nil, arith, rules, nat_le, slice_set, slice_index_or, min}
use Rattle.std.specs.Prelude.{option_to_list, ◌⊎◌, ⊤}
use Rattle.std.proofs.lemmas.Bool.{cases_lt}
use Rattle.std.proofs.Math.Seq.{drop-cons, set-append_seam, take-append_seam}
use Rattle.std.proofs.Math.ListN.{drop_of_length-le}
use Rattle.std.proofs.lemmas.List.{take_all, length-take, length-map, map-append}
use Rattle.irig_plant.specs.declared.event.Event.{Event}
use Rattle.irig_plant.specs.declared.event.Event.TheVariants.{GenEdge, Tick, Carry, Damage, Replay, Raw, Fault, Repair, Restart}
use Rattle.irig_plant.specs.declared.entry.Entry.{Entry}
use Rattle.irig_plant.specs.Schedule.{Setup, log_of}
use Rattle.irig_scene.specs.declared.outcome.Outcome.{Outcome}
use Rattle.report_run.specs.declared.fault.SceneFault.{SceneFault}
use Rattle.report_run.specs.declared.fault.SceneFault.TheVariants.{Refused, Read, Write, Memory}
use Rattle.irig_scene.specs.declared.run.Run.{Run}
use Rattle.report_run.specs.Lines.{lines}
use Rattle.irig_scene.specs.Listening.{Gave, entries_by}
use Rattle.irig_scene.specs.Scene.{scenario, entries_in, Scene, scene, meaning_of}
use Rattle.report_run.specs.Meanings.{meaning_from}
use Rattle.report_run.specs.Starts.{entry_count, noted_at, starts_from}
use Rattle.report_run.specs.Runs.{IsAt, HasHeard, HeardFor}
use Rattle.irig_scene.proofs.LogLaws.{grows}
use Rattle.c_numbers.specs.Reports.{no_claim}
use Rattle.c_scenario.specs.declared.entry.IrigEntry.{IrigEntry}
use Rattle.c_scenario.specs.declared.entry_log.EntryLog.{EntryLog}
use Rattle.c_scenario.specs.Entries.{entry_for, heard_in, begun, lined, entries_of}
use Rattle.c_scenario.specs.EntryRuns.{first_of, HoldsEntries, HasHeardEntries}
use Rattle.c_scenario.specs.Runs.{HasWholeLog, status_of, written_over}

-- ---- an event more

one_at_most : (s : Setup) (e : Event) (ev : List Event) → map entry_for (entries_by s e ev) ≡ option_to_list (first_of (entries_by s e ev))
one_at_most s (Tick r) ev = refl
one_at_most s (GenEdge g) ev = refl
one_at_most s (Carry g r) ev = refl
one_at_most s (Damage g r at width) ev = refl
one_at_most s (Replay g r edge) ev = refl
one_at_most s (Raw g r widths) ev = refl
one_at_most s (Fault g kind) ev = refl
one_at_most s (Repair g) ev = refl
one_at_most s (Restart r) ev = refl

-- what is kept after an event
pub kept_after : (old new : List IrigEntry) (x : Scene) (e : Event) (entries : List Entry) (entry : Option IrigEntry) → old ≡ heard_in (Some x)
    → Gave e x entries → entry ≡ first_of entries → new ≡ old ++ option_to_list entry → new ≡ heard_in (Some (scene x.plan (e ∷ x.events)))
kept_after old new x e entries entry at gave is pushed =
    let log = log_of x.plan.setup x.events in
    let by = entries_by x.plan.setup e x.events in
    let one : option_to_list entry ≡ map entry_for by = ap option_to_list (is ∙ ap first_of gave) ∙ sym (one_at_most x.plan.setup e x.events) in
    pushed ∙ ap (λ l. l ++ option_to_list entry) at ∙ ap (λ l. map entry_for log ++ l) one
    ∙ sym (ap (map entry_for) (grows x.plan.setup e x.events) ∙ map-append entry_for log by)

pub count_kept : (items : List IrigEntry) (x : Scene) → items ≡ heard_in (Some x) → length items ≡ entry_count entries_in (Some x)
count_kept items x at = ap length at ∙ length-map (log_of x.plan.setup x.events) entry_for

count_in : (items : List IrigEntry) (at : Option Scene) → items ≡ heard_in at → length items ≡ entry_count entries_in at
count_in items None at = ap length at
count_in items (Some x) at = count_kept items x at

-- ---- lines

pub drop_at : {A : Type 0} (l : List A) (j : ℕ) (d : A) → j < length l → drop j l ≡ get_or l j d ∷ drop (j + 1) l
drop_at l j d there = let next : suc j ≡ j + 1 = omega arith in drop-cons l j d there ∙ ap (λ n. get_or l j d ∷ drop n l) next

-- one more that begins behind all entries counts for none
begun_more : (starts : List ℕ) (n i : ℕ) → i < n → begun (starts ++ n ∷ []) i ≡ begun starts i
unfolding begun
begun_more [] n i less = let late : nat_le n i ≡ false = search rules in rw late refl
begun_more (s ∷ ss) n i less = ap (λ k. cond (nat_le s i) (k + 1) 0) (begun_more ss n i less)

lined_more : (starts : List ℕ) (n i : ℕ) (es : List IrigEntry) → i + length es ≤ n → lined (starts ++ n ∷ []) i es ≡ lined starts i es
unfolding lined
lined_more starts n i [] few = refl
lined_more starts n i (e ∷ es) few =
    ap (λ k. record e { line = k } ∷ lined (starts ++ n ∷ []) (i + 1) es) (begun_more starts n i (omega (arith, few)))
    ∙ ap (λ l. record e { line = begun starts i } ∷ l) (lined_more starts n (i + 1) es (omega (arith, few)))

lined_length : (starts : List ℕ) (i : ℕ) (es : List IrigEntry) → length (lined starts i es) ≡ length es
unfolding lined
lined_length starts i [] = refl
lined_length starts i (e ∷ es) = ap suc (lined_length starts (i + 1) es)

none_lined : (starts : List ℕ) (i : ℕ) → lined starts i [] ≡ []
unfolding lined
none_lined starts i = refl

-- those that began before entry i, and before the next
pub begun_next : (starts : List ℕ) (i : ℕ) → begun starts (i + 1) ≡ begun starts i + begun (drop (begun starts i) starts) (i + 1)
unfolding begun
begun_next [] i = refl
begun_next (s ∷ ss) i = elim (nat_le s i) as (λ b. nat_le s i ≡ b → cond (nat_le s (i + 1)) (begun ss (i + 1) + 1) 0 ≡ cond b (begun ss i + 1) 0 + begun (drop (cond b (begun ss i + 1) 0) (s ∷ ss)) (i + 1)) [
  | true ↦ λ early.
      let later : nat_le s (i + 1) ≡ true = search rules in
      let more : begun ss i + 1 ≡ suc (begun ss i) = omega arith in
      let skip : begun (drop (begun ss i + 1) (s ∷ ss)) (i + 1) ≡ begun (drop (begun ss i) ss) (i + 1) = ap (λ n. begun (drop n (s ∷ ss)) (i + 1)) more in
      rw later (omega (arith, begun_next ss i, skip))
  | false ↦ λ late. omega arith
] refl

begun_most : (starts : List ℕ) (i : ℕ) → begun starts i ≤ length starts
unfolding begun
begun_most [] i = omega arith
begun_most (s ∷ ss) i = elim (nat_le s i) as (λ b. cond b (begun ss i + 1) 0 ≤ length (s ∷ ss)) [
  | true ↦ omega (arith, begun_most ss i)
  | false ↦ omega arith
]

-- line k begins with at most so many, or with more, or there is none
begun_early : (s : ℕ) (ss : List ℕ) (count : ℕ) → s ≤ count → begun (s ∷ ss) count ≡ begun ss count + 1
unfolding begun
begun_early s ss count early = let test : nat_le s count ≡ true = search rules in rw test refl

begun_late : (s : ℕ) (ss : List ℕ) (count : ℕ) → count < s → begun (s ∷ ss) count ≡ 0
unfolding begun
begun_late s ss count late = let test : nat_le s count ≡ false = search rules in rw test refl

none_begun : (count : ℕ) → begun [] count ≡ 0
unfolding begun
none_begun count = refl

pub one_begun : (starts : List ℕ) (k count : ℕ) → k < length starts → slice_index_or starts k 0 ≤ count → begun starts count ≡ k + begun (drop k starts) count → begun starts count ≡ (k + 1) + begun (drop (k + 1) starts) count
one_begun starts k count there early sum =
    let head : begun (drop k starts) count ≡ begun (drop (k + 1) starts) count + 1 = ap (λ l. begun l count) (drop_at starts k 0 there) ∙ begun_early (slice_index_or starts k 0) (drop (k + 1) starts) count early in
    omega (arith, sum, head)

pub begun_before : (starts : List ℕ) (k count : ℕ) → k < length starts → count < slice_index_or starts k 0 → begun starts count ≡ k + begun (drop k starts) count → k ≡ begun starts count
begun_before starts k count there late sum =
    let none : begun (drop k starts) count ≡ 0 = ap (λ l. begun l count) (drop_at starts k 0 there) ∙ begun_late (slice_index_or starts k 0) (drop (k + 1) starts) count late in
    omega (arith, sum, none)

pub all_begun : (starts : List ℕ) (k count : ℕ) → length starts ≤ k → begun starts count ≡ k + begun (drop k starts) count → k ≡ begun starts count
all_begun starts k count end sum =
    let none : begun (drop k starts) count ≡ 0 = ap (λ l. begun l count) (drop_of_length-le starts (omega (arith, end))) ∙ none_begun count in
    omega (arith, sum, none)

-- ---- entries that are written

-- what would stand beyond a list
abbrev no_entry : IrigEntry
no_entry = record {
  edge = 0;
  line = 0;
  truth = no_claim;
  told = [];
  lock_count = 0;
  day = 0;
  sod = 0;
  reader = 0;
  announces = 0;
  lock = 0;
  cause = 0;
  ports = 0;
  has_truth = 0;
}

-- so many entries stand at the beginning of the room, each with its line, and the others are as they
-- were; so many lines at least began before the next
pub record HasWritten (starts : List ℕ) (es old room : List IrigEntry) (i line : ℕ) : Type 0 where
  pub front : List IrigEntry
  pub count : length front ≡ i
  pub all : lined starts 0 es ≡ front ++ lined starts i (drop i es)
  pub over : room ≡ front ++ drop i old
  pub few : line ≤ length starts
  pub begun : begun starts i ≡ line + begun (drop line starts) i

pub none_written : (starts : List ℕ) (es old : List IrigEntry) → HasWritten starts es old old 0 0
none_written starts es old = record { front = []; count = refl; all = refl; over = refl; few = omega arith; begun = omega arith }

lined_next : (starts : List ℕ) (i : ℕ) (e : IrigEntry) (es : List IrigEntry) → lined starts i (e ∷ es) ≡ record e { line = begun starts i } ∷ lined starts (i + 1) es
unfolding lined
lined_next starts i e es = refl

pub one_written : (starts : List ℕ) (es old room : List IrigEntry) (i line k : ℕ) (e : IrigEntry) → HasWritten starts es old room i line → i < length es → i < length old → k ≡ begun starts i → e ≡ record (get_or es i no_entry) { line = k } → HasWritten starts es old (slice_set room i e) (i + 1) k
one_written starts es old room i line k e h there fits is made =
    let now = get_or es i no_entry in
    let mine : e ≡ record now { line = begun starts i } = made ∙ ap (λ k. record now { line = k }) is in
    let split : drop i es ≡ now ∷ drop (i + 1) es = drop_at es i no_entry there in
    let gone : drop i old ≡ get_or old i no_entry ∷ drop (i + 1) old = drop_at old i no_entry fits in
    record {
      front = h.front ++ e ∷ [];
      count = length-append h.front (e ∷ []) ∙ ap (λ n. n + 1) h.count;
      all = h.all ∙ ap (λ l. h.front ++ lined starts i l) split ∙ ap (λ l. h.front ++ l) (lined_next starts i now (drop (i + 1) es)) ∙ ap (λ x. h.front ++ x ∷ lined starts (i + 1) (drop (i + 1) es)) (sym mine) ∙ sym (append_assoc h.front (e ∷ []) (lined starts (i + 1) (drop (i + 1) es)));
      over = ap (λ l. slice_set l i e) (h.over ∙ ap (λ l. h.front ++ l) gone) ∙ ap (λ n. slice_set (h.front ++ get_or old i no_entry ∷ drop (i + 1) old) n e) (sym h.count)
          ∙ set-append_seam h.front (get_or old i no_entry) (drop (i + 1) old) e ∙ sym (append_assoc h.front (e ∷ []) (drop (i + 1) old));
      few = subst (λ k. k ≤ length starts) (sym is) (begun_most starts i);
      begun = begun_next starts i ∙ ap (λ k. k + begun (drop k starts) (i + 1)) (sym is);
    }

-- all of them stand there, or as many as there is room for
pub all_written : (starts : List ℕ) (es old room : List IrigEntry) (i line : ℕ) → HasWritten starts es old room i line → i ≡ min (length old) (length es) → room ≡ written_over old (lined starts 0 es)
all_written starts es old room i line h end = elim (cases_lt (length old) (length es)) [
  | inl less ↦
      let last : i ≡ length old = end ∙ omega (arith, less) in
      let full : length old ≡ length h.front = sym last ∙ sym h.count in
      let none : drop i old ≡ [] = drop_of_length-le old (omega (arith, last)) in
      let past : drop (length (lined starts 0 es)) old ≡ [] = drop_of_length-le old (omega (arith, less, lined_length starts 0 es)) in
      let front : take (length old) (lined starts 0 es) ≡ h.front = ap (λ n. take n (lined starts 0 es)) full ∙ ap (take (length h.front)) h.all ∙ take-append_seam h.front (lined starts i (drop i es)) in
      h.over ∙ ap (λ l. h.front ++ l) none ∙ ap (λ l. l ++ []) (sym front) ∙ ap (λ l. take (length old) (lined starts 0 es) ++ l) (sym past)
  | inr fits ↦
      let last : i ≡ length es = end ∙ omega (arith, fits) in
      let none : drop i es ≡ [] = drop_of_length-le es (omega (arith, last)) in
      let whole : lined starts 0 es ≡ h.front = h.all ∙ ap (λ l. h.front ++ lined starts i l) none ∙ ap (λ l. h.front ++ l) (none_lined starts i) ∙ append-nil h.front in
      let long : length (lined starts 0 es) ≡ i = lined_length starts 0 es ∙ sym last in
      h.over ∙ ap (λ l. l ++ drop i old) (sym whole ∙ sym (take_all (length old) (lined starts 0 es) (omega (arith, fits, lined_length starts 0 es)))) ∙ ap (λ n. take (length old) (lined starts 0 es) ++ drop n old) (sym long)
]

-- ---- what a whole run keeps

nothing_over : (room : List IrigEntry) → written_over room [] ≡ room
nothing_over [] = refl
nothing_over (e ∷ es) = refl

kept_lines : (text items : List ℕ) (es : List IrigEntry) (more : List ℕ) (at : Option Scene) → at ≡ (meaning_of text).scene → es ≡ heard_in at
    → items ≡ starts_from scenario entries_in true (lines text) 1 None ++ more → (more ≡ []) ⊎ (more ≡ noted_at entries_in true at) → lined items 0 es ≡ entries_of text
kept_lines text items es more at same heard noted last =
    let starts = starts_from scenario entries_in true (lines text) 1 None in
    let all : lined starts 0 es ≡ entries_of text = ap (lined starts 0) (heard ∙ ap heard_in same) in
    elim last [
      | inl none ↦ ap (λ l. lined l 0 es) (noted ∙ ap (λ l. starts ++ l) none ∙ append-nil starts) ∙ all
      | inr one ↦ ap (λ l. lined l 0 es) (noted ∙ ap (λ l. starts ++ l) one) ∙ lined_more starts (entry_count entries_in at) 0 es (omega (arith, count_in es at heard)) ∙ all
    ]

-- without a failure it is known what was heard
heard_whole : (answer : Result Outcome SceneFault) (listener : Option EntryLog) (notes : List ℕ) (bytes : List ℕ) → HeardFor scenario entries_in HoldsEntries true answer listener notes (lines bytes) 1 None → HasWholeLog (status_of answer) → HasHeard scenario entries_in HoldsEntries true listener notes (lines bytes) 1 None
heard_whole (Ok o) listener notes bytes h whole = h
heard_whole (Err (Refused line refusal)) listener notes bytes h whole = h
heard_whole (Err Read) listener notes bytes h (inl none) = absurd (omega (arith, none))
heard_whole (Err Read) listener notes bytes h (inr none) = absurd (omega (arith, none))
heard_whole (Err Write) listener notes bytes h (inl none) = absurd (omega (arith, none))
heard_whole (Err Write) listener notes bytes h (inr none) = absurd (omega (arith, none))
heard_whole (Err Memory) listener notes bytes h (inl none) = absurd (omega (arith, none))
heard_whole (Err Memory) listener notes bytes h (inr none) = absurd (omega (arith, none))

heard : (text : List ℕ) (run : Run EntryLog) → HasHeardEntries text run → HasWholeLog (status_of run.answer) → HasHeard scenario entries_in HoldsEntries true run.listener run.starts.items (lines text) 1 None
heard text run h whole = subst (λ (x : List ℕ). HasHeard scenario entries_in HoldsEntries true run.listener run.starts.items (lines x) 1 None) h.ran.of_input (heard_whole run.answer run.listener run.starts.items h.ran.bytes h.ran.heard whole)

holds_some : (log : EntryLog) (at : Option Scene) → IsAt HoldsEntries (Some log) at → log.entries.items ≡ heard_in at
holds_some log None at = absurd at
holds_some log (Some x) at = at

holds_none : (at : Option Scene) → IsAt {A = EntryLog} HoldsEntries None at → heard_in at ≡ []
holds_none None at = refl
holds_none (Some x) at = absurd at

module _ (text : List ℕ) (run : Run EntryLog) (h : HasHeardEntries text run) (whole : HasWholeLog (status_of run.answer)) where
  pub kept_entries : (log : EntryLog) → run.listener ≡ Some log → lined run.starts.items 0 log.entries.items ≡ entries_of text
  kept_entries log is =
      let all = heard text run h whole in
      let at : IsAt HoldsEntries (Some log) (meaning_of text).scene = subst (λ (l : Option EntryLog). IsAt HoldsEntries l (meaning_of text).scene) is all.stands in
      kept_lines text run.starts.items log.entries.items all.more (meaning_of text).scene refl (holds_some log (meaning_of text).scene at) all.noted all.last

  pub kept_count : (log : EntryLog) → run.listener ≡ Some log → length log.entries.items ≡ length (entries_of text)
  kept_count log is = sym (lined_length run.starts.items 0 log.entries.items) ∙ ap length (kept_entries log is)

  pub none_kept : run.listener ≡ None → entries_of text ≡ []
  none_kept is =
      let all = heard text run h whole in
      let at : IsAt {A = EntryLog} HoldsEntries None (meaning_of text).scene = subst (λ (l : Option EntryLog). IsAt HoldsEntries l (meaning_of text).scene) is all.stands in
      ap (lined (starts_from scenario entries_in true (lines text) 1 None) 0) (holds_none (meaning_of text).scene at) ∙ none_lined (starts_from scenario entries_in true (lines text) 1 None) 0

  pub none_over : (room : List IrigEntry) → run.listener ≡ None → room ≡ written_over room (entries_of text)
  none_over room is = sym (ap (written_over room) (none_kept is) ∙ nothing_over room)
