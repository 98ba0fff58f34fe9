-- Instances of the records of a run that hold, and instances that do not, so that none of their
-- fields can be dropped or turned.
use Rattle.std.proofs.Common.{◌≡◌, ◌≢◌, ℕ, ◌<◌, true, false, List, [], ◌∷◌, ◌++◌, length, map, All, Option, Some, None, inl, inr, refl, sym, ap, subst, ◌∙◌, append_assoc, append-nil, arith, codes}
use Rattle.std.specs.List.{AllByRecursion}
use Rattle.std.specs.Fmt.{digits}
use Rattle.std.specs.Str.{is_utf8, chars}
use Rattle.std.specs.Prelude.{◌^◌, slice_get, unwrap_or, reverse, take, Ok, Err}
use Rattle.std.proofs.lemmas.List.Elements.{recursion_from_All, All-from_recursion}
use Rattle.std.proofs.lemmas.Option.{same_Some, none-some}
use Rattle.std.proofs.lemmas.List.{append_cancel_left, length-append, reverse-append}
use Rattle.irig_control.specs.declared.parity.Parity.TheVariants.{Even}
use Rattle.irig_time.specs.declared.second.UtcSecond.{UtcSecond}
use Rattle.irig_time.specs.declared.leap.Leap.TheVariants as leap
use Rattle.irig_time.specs.Timelines.{TimelineValue, times, second_at}
use Rattle.irig_time.specs.Tables.{TableValue, table}
use Rattle.irig_time.specs.Texts.{time_text}
use Rattle.irig_time.specs.TextValues.{day_text, second_text}
use Rattle.irig_time.specs.declared.rules.Sense.TheVariants.{Add}
use Rattle.irig_time.specs.declared.rules.SbsUse.TheVariants.{Ignore}
use Rattle.irig_time.proofs.TextValueLaws.{known_second_text}
use Rattle.irig_time.proofs.StandardFacts.{known_month_end}
use Rattle.irig_hold.specs.Truth.{IsTrueTable}
use Rattle.irig_plant.specs.declared.event.Event.{Event}
use Rattle.irig_plant.specs.declared.event.Event.TheVariants.{Tick}
use Rattle.irig_plant.specs.Schedule.{setup, no_generator, setup_at, ticks_of}
use Rattle.irig_plant.specs.Audits.{is_broken_now}
use Rattle.irig_plant.specs.Premises.{IsKeptUpTo}
use Rattle.irig_plant.specs.declared.audit.Audit.{Audit}
use Rattle.irig_plant.specs.declared.audit.Audit.TheVariants.{Kept, Broken}
use Rattle.irig_plant.proofs.KeptLaws.{empty_true}
use Rattle.irig_device.specs.Lines.{HasNoNewline}
use Rattle.text_faults.specs.declared.refusal.Refusal.{Refusal}
use Rattle.text_faults.specs.declared.refusal.Refusal.TheVariants.{Json, NoPlant, Shape}
use Rattle.scenario_values.specs.Names.{are_names, is_name}
use Rattle.scenario_line.specs.PlantLine.{plan_in_line}
use Rattle.scenario_json.specs.Json.{json_of}
use Rattle.report_run.specs.Lines.{lines, unlines, first_lines, after_lines, shown_by}
use Rattle.report_log.specs.LogLines.{whole_lines, Shows, ShowsNothing}
use Rattle.irig_scene.specs.LogLines.{IsTimeOf, IsTrueLine, IsTrueLineIfKept, TellsTruth, IsTrueLog, VouchesForItself, OfWritten}
use Rattle.irig_scene.specs.declared.outcome.Outcome.{Outcome}
use Rattle.report_run.specs.declared.fault.SceneFault.TheVariants as fault
use Rattle.report_log.specs.Text.{entries_alone, refusal_text}
use Rattle.irig_scene.specs.Scene.{scenario, Scene, scene, meaning_of, audit_in, log_text}
use Rattle.report_run.specs.Meanings.{step, Refused, meaning, meaning_from, refusal_at}
use Rattle.irig_scene.specs.Run.{IsDone, StoppedReading, StoppedInLine, Ran}
use Rattle.report_run.specs.Runs.{IsRefused, IsOfOneLine, AreBytesOf, read_of}
use Rattle.report_run.specs.Meanings.{AreTaken}
use Rattle.report_log.proofs.LogLaws.{not_newline}
use Rattle.report_log.proofs.LogLaws.{NoNewline, shows_digit, shown_once, one_whole, whole_along}
use Rattle.report_log.proofs.WordLaws.{AreNames}
use Rattle.irig_scene.proofs.NameLaws.{are_names_named}

-- ---- lines

-- a part without newline at the end is no line, and two newlines give an empty one
pub known_whole_lines : map whole_lines (codes "a\nb\n" ∷ codes "a\nb" ∷ codes "a\n\nb\n" ∷ codes "b" ∷ [] ∷ [])
    ≡ (codes "a" ∷ codes "b" ∷ []) ∷ (codes "a" ∷ []) ∷ (codes "a" ∷ [] ∷ codes "b" ∷ []) ∷ [] ∷ [] ∷ []
unfolding whole_lines
known_whole_lines = refl

-- the first lines with their newlines, and all if there are no more
pub known_first_lines : map (λ n. first_lines n (codes "a\n\nb")) (0 ∷ 1 ∷ 2 ∷ 3 ∷ 4 ∷ [])
    ≡ [] ∷ codes "a\n" ∷ codes "a\n\n" ∷ codes "a\n\nb" ∷ codes "a\n\nb" ∷ []
unfolding first_lines
known_first_lines = refl

-- and what comes after them
pub known_after_lines : map (λ n. after_lines n (codes "a\n\nb")) (0 ∷ 1 ∷ 2 ∷ 3 ∷ 4 ∷ [])
    ≡ codes "a\n\nb" ∷ codes "\nb" ∷ codes "b" ∷ [] ∷ [] ∷ []
unfolding after_lines
known_after_lines = refl

-- line 2 of three is shown by the first two; a line past the last by all bytes
pub known_shown : map (λ n. shown_by n (codes "a\nbb\nc")) (1 ∷ 2 ∷ 3 ∷ 4 ∷ [])
    ≡ codes "a\n" ∷ codes "a\nbb\n" ∷ codes "a\nbb\nc" ∷ codes "a\nbb\nc" ∷ []
unfolding first_lines after_lines
known_shown = refl

-- one byte more than the limit, 65,536 for a line up to number 1,000,000 and none for a later one
known_limit : (bs : List ℕ) → (shown_by 1 bs ≡ take 65537 (first_lines 1 bs)) × (shown_by 1000001 bs ≡ first_lines 1000000 bs ++ take 1 (first_lines 1 (after_lines 1000000 bs)))
unfolding first_lines after_lines
known_limit bs = (refl, refl)

-- ---- what a line shows

abbrev names : List (List ℕ)
names = codes "r1" ∷ []

abbrev time : List ℕ
time = codes "2016-12-31T23:59:60Z"

abbrev line : List ℕ
line = codes "12 r1 2016-12-31T23:59:60Z locked voted"

no_blank : AllByRecursion (λ (b : ℕ). b ≢ 32) time
no_blank = search arith

all_no_blank : All (λ b. b ≢ 32) time
all_no_blank = All-from_recursion (λ b. b ≢ 32) time no_blank

shows : Shows names line 0 12 time
unfolding digits
shows = record { number = omega arith; named = omega arith; word = all_no_blank; more = codes "locked voted"; is = refl }

-- another edge, a reader that is not there, and another time
named : AreNames names
unfolding are_names is_name
named = are_names_named names refl

not_edge_13 : ¬ Shows names line 0 13 time
not_edge_13 h = omega (arith, (shown_once names line 0 13 0 12 time time named h shows).edge)

not_reader_1 : ¬ Shows names line 1 12 time
not_reader_1 h = omega (arith, h.named)

not_time : ¬ Shows names line 0 12 (codes "-")
not_time h = omega (arith, ap length (shown_once names line 0 12 0 12 (codes "-") time named h shows).time_is)

not_past_64_bits : ¬ Shows names (codes "18446744073709551616 r1 - x") 0 (2 ^ 64) (codes "-")
not_past_64_bits h = omega (arith, h.number)

-- a time with a blank
not_two_words : ¬ Shows names line 0 12 (codes "2016-12-31T23:59:60Z locked")
not_two_words h = (recursion_from_All (λ b. b ≢ 32) (codes "2016-12-31T23:59:60Z locked") h.word).1.1.1.1.1.1.1.1.1.1.1.1.1.1.1.1.1.1.1.1.0 refl

-- a last line
last_shows_nothing : ShowsNothing names (codes "premises kept")
last_shows_nothing r n time h = omega (arith, shows_digit names 112 _ r n time h)

-- ---- true lines

-- from 23:59:58 on, with an inserted second: T(2) is 23:59:60
abbrev inserted : UtcSecond
inserted = record { day = 6209; sod = 86400 }

abbrev leap_year : TimelineValue
leap_year = times (record { day = 6209; sod = 86398 }) ((6209, leap.Insert) ∷ [])

is_time_of_2 : IsTimeOf leap_year 2 time
unfolding second_at
is_time_of_2 = record { second = inserted; is_true = refl; written = known_second_text }

seconds_apart : ¬ (second_text inserted ≡ second_text (record { day = 6209; sod = 86399 }))
unfolding second_text
seconds_apart e = omega (arith, ap (λ (text : List ℕ). unwrap_or (slice_get text 7) 0) (append_cancel_left (day_text 6209) (time_text 23 59 60) (time_text 23 59 59) e))

not_time_of_1 : ¬ IsTimeOf leap_year 1 time
unfolding second_at
not_time_of_1 h =
    let is : ◌≡◌ {A = Option UtcSecond} (Some (record { day = 6209; sod = 86399 })) (Some h.second) = h.is_true in
    let same : ◌≡◌ {A = UtcSecond} h.second (record { day = 6209; sod = 86399 }) = cc in
    seconds_apart (sym known_second_text ∙ h.written ∙ ap second_text same)

-- a plant of these seconds without events, whose reader has this table
abbrev plain : TableValue → Scene
plain t = scene (record {
  setup = setup leap_year (no_generator ∷ no_generator ∷ no_generator ∷ []) (record { parity = Even; sense = Add; sbs = Ignore }) (record { rules = record { lock_after = 1; holdover = 0 }; table = t } ∷ []);
  names = names;
}) []

abbrev right_line : List ℕ
right_line = codes "2 r1 2016-12-31T23:59:60Z locked voted"

abbrev wrong_line : List ℕ
wrong_line = codes "1 r1 2016-12-31T23:59:60Z locked voted"

abbrev silent_line : List ℕ
silent_line = codes "1 r1 - unlocked no-vote"

right_shows : Shows names right_line 0 2 time
unfolding digits
right_shows = record { number = omega arith; named = omega arith; word = all_no_blank; more = codes "locked voted"; is = refl }

wrong_shows : Shows names wrong_line 0 1 time
unfolding digits
wrong_shows = record { number = omega arith; named = omega arith; word = all_no_blank; more = codes "locked voted"; is = refl }

silent_shows : Shows names silent_line 0 1 (codes "-")
unfolding digits
silent_shows = record { number = omega arith; named = omega arith; word = All-from_recursion (λ b. b ≢ 32) (codes "-") (search arith); more = codes "unlocked no-vote"; is = refl }

no_dash : time ≢ codes "-"
no_dash e = omega (arith, ap length e)

module _ (t : TableValue) where
  true_line : IsTrueLine (plain t) right_line
  true_line r n text s apart =
      let one = shown_once names right_line r n 0 2 text time named s right_shows in
      subst (λ m. IsTimeOf leap_year m text) (sym one.edge) (subst (λ l. IsTimeOf leap_year 2 l) (sym one.time_is) is_time_of_2)

  -- no time is no wrong one, and a last line is true
  true_silence : IsTrueLine (plain t) silent_line
  true_silence r n text s apart = absurd (apart (shown_once names silent_line r n 0 1 text (codes "-") named s silent_shows).time_is)

  true_last : IsTrueLine (plain t) (codes "premises kept")
  true_last r n text s apart = absurd (last_shows_nothing r n text s)

  false_line : ¬ IsTrueLine (plain t) wrong_line
  false_line h = not_time_of_1 (h 0 1 time wrong_shows no_dash)

  true_if_kept : IsTrueLineIfKept (plain t) right_line
  true_if_kept r n text s apart table kept = true_line r n text s apart

  nothing_broken : (r n : ℕ) → IsKeptUpTo (plain t).plan.setup r n []
  nothing_broken r n = record { ticks = at }
    where
      at : (later earlier : List Event) → [] ≡ later ++ (Tick r ∷ earlier) → ticks_of r earlier < n → is_broken_now (plain t).plan.setup r earlier ≡ false
      at [] earlier is low = absurd cc
      at (x ∷ later) earlier is low = absurd cc

-- under the premises a wrong second is refused, and with a false table it is not
false_if_kept : ¬ IsTrueLineIfKept (plain (table 0 [])) wrong_line
false_if_kept h = not_time_of_1 (h 0 1 time wrong_shows no_dash (empty_true leap_year (omega arith)) (nothing_broken (table 0 []) 0 1))

denies : ¬ IsTrueTable leap_year (table 6209 [])
denies h = let none : None ≡ Some leap.Insert = h.leaps 6209 known_month_end (omega arith) (omega arith) in cc

excused : IsTrueLineIfKept (plain (table 6209 [])) wrong_line
excused r n text s apart true_table kept =
    let one = shown_once names wrong_line r n 0 1 text time named s wrong_shows in
    absurd (denies (subst (λ q. IsTrueTable leap_year (setup_at (plain (table 6209 [])).plan.setup.readers q).table) one.reader true_table))

-- ---- logs

-- for bytes that mean this scene
module _ (x : List ℕ) (means : (meaning_of x).scene ≡ Some (plain (table 0 []))) where
  true_log : IsTrueLog x (right_line ∷ [])
  true_log = record { scene = plain (table 0 []); means = means; lines = All-from_recursion (IsTrueLine (plain (table 0 []))) (right_line ∷ []) (true_line (table 0 []), tt) }

  false_log : ¬ IsTrueLog x (wrong_line ∷ [])
  false_log h =
      let is : Some (plain (table 0 [])) ≡ Some h.scene = sym means ∙ h.means in
      let same : h.scene ≡ plain (table 0 []) = cc in
      false_line (table 0 []) (subst (λ y. IsTrueLine y wrong_line) same (recursion_from_All (IsTrueLine h.scene) (wrong_line ∷ []) h.lines).0)

  -- a log whose last whole line is `premises kept` needs true lines above it
  vouches : VouchesForItself x (codes "2 r1 2016-12-31T23:59:60Z locked voted\npremises kept\n")
  unfolding whole_lines
  vouches [] is = absurd (omega (arith, ap length is))
  vouches (a ∷ []) is = let same : a ≡ right_line = ap (λ (ls : List (List ℕ)). unwrap_or (slice_get ls 0) []) (sym is) in subst (λ l. IsTrueLog x (l ∷ [])) (sym same) true_log
  vouches (a ∷ b ∷ ls) is = absurd (omega (arith, ap length is, length-append ls (codes "premises kept" ∷ [])))

  not_vouches : ¬ VouchesForItself x (codes "1 r1 2016-12-31T23:59:60Z locked voted\npremises kept\n")
  unfolding whole_lines
  not_vouches h = false_log (h (wrong_line ∷ []) refl)

  -- a log that ends otherwise vouches for nothing
  ends_otherwise : VouchesForItself x (codes "1 r1 2016-12-31T23:59:60Z locked voted\n")
  unfolding whole_lines
  ends_otherwise [] is = let long : 38 ≡ 13 = ap (λ (ls : List (List ℕ)). length (unwrap_or (slice_get ls 0) [])) is in absurd (omega (arith, long))
  ends_otherwise (a ∷ ls) is = absurd (omega (arith, ap length is, length-append ls (codes "premises kept" ∷ [])))

  -- the headline is for whole lines
  tells_truth : TellsTruth x (codes "2 r1 2016-12-31T23:59:60Z locked voted\n1 r1 2016-12-31T23:59:60Z locked voted")
  unfolding whole_lines
  tells_truth y is =
      let both : Some (plain (table 0 [])) ≡ Some y = sym means ∙ is in
      let same : plain (table 0 []) ≡ y = cc in
      subst (λ z. All (IsTrueLineIfKept z) (right_line ∷ [])) same (All-from_recursion (IsTrueLineIfKept (plain (table 0 []))) (right_line ∷ []) (true_if_kept (table 0 []), tt))

  not_tells_truth : ¬ TellsTruth x (codes "1 r1 2016-12-31T23:59:60Z locked voted\n")
  unfolding whole_lines
  not_tells_truth h = false_if_kept (recursion_from_All (IsTrueLineIfKept (plain (table 0 []))) (wrong_line ∷ []) (h (plain (table 0 [])) means)).0

-- without a plant there is no log that vouches for itself
no_plant_vouches : ¬ VouchesForItself [] (codes "premises kept\n")
unfolding whole_lines meaning_from lines
no_plant_vouches h = let none : None ≡ Some (h [] refl).scene = (h [] refl).means in absurd cc

-- what was written is what was appended
appended : OfWritten (Some (codes "a")) (Some (codes "ab")) (λ w. w ≡ codes "b")
appended w is = cc

not_all : ¬ OfWritten (Some (codes "a")) (Some (codes "ab")) (λ w. w ≡ codes "ab")
not_all h = omega (arith, ap length (h (codes "b") refl))

-- ---- answers

module _ (x : Scene) (kept : audit_in x ≡ Kept) where
  abbrev outcome : ℕ → Audit → Outcome
  outcome lines audit = record { lines = lines; audit = audit }

  done : IsDone (meaning (Some x) None) 3 (outcome 3 Kept)
  done = record { accepted = refl; scene = x; left = refl; ended = record { lines = refl; audit = sym kept } }

  not_other_count : ¬ IsDone (meaning (Some x) None) 3 (outcome 4 Kept)
  not_other_count h = omega (arith, h.ended.lines)

  not_refused : ¬ IsDone (meaning (Some x) (Some (refusal_at 3 Json))) 3 (outcome 3 Kept)
  not_refused h = let none : Some (refusal_at 3 Json) ≡ None = h.accepted in absurd cc

  not_without_plant : ¬ IsDone (meaning None None) 3 (outcome 3 Kept)
  not_without_plant h = let none : None ≡ Some h.scene = h.left in absurd cc

  not_other_audit : ¬ IsDone (meaning (Some x) None) 3 (outcome 3 (Broken 0 1))
  not_other_audit h =
      let left : Some x ≡ Some h.scene = h.left in
      let same : h.scene ≡ x = cc in
      let is : Broken 0 1 ≡ Kept = h.ended.audit ∙ ap audit_in same ∙ kept in
      absurd cc

module _ (at : Option Scene) where
  refused : IsRefused (meaning at (Some (refusal_at 3 Json))) 3 Json
  refused = refl

  not_other_line : ¬ IsRefused (meaning at (Some (refusal_at 3 Json))) 4 Json
  not_other_line h =
      let same : refusal_at 3 Json ≡ refusal_at 4 Json = same_Some (refusal_at 3 Json) (refusal_at 4 Json) h in
      omega (arith, ap (λ (k : Refused). k.line) same)

  not_other_refusal : ¬ IsRefused (meaning at (Some (refusal_at 3 Json))) 3 Shape
  not_other_refusal h =
      let same : refusal_at 3 Json ≡ refusal_at 3 Shape = same_Some (refusal_at 3 Json) (refusal_at 3 Shape) h in
      let refusals : Json ≡ Shape = ap (λ (k : Refused). k.refusal) same in
      absurd cc

  not_accepted : ¬ IsRefused (meaning at None) 3 Json
  not_accepted h = absurd (none-some (refusal_at 3 Json) h)

-- ---- what is read

same_bytes : AreBytesOf (Some (codes "a")) (codes "a") × AreBytesOf None (codes "a")
same_bytes = (refl, tt)

not_other_bytes : ¬ AreBytesOf (Some (codes "ab")) (codes "a")
not_other_bytes e = omega (arith, ap length e)

-- all bytes, or those up to the refused line
known_read : map (λ k. read_of k (codes "a\nbb\nc")) (None ∷ Some (refusal_at 2 Json) ∷ []) ≡ codes "a\nbb\nc" ∷ codes "a\nbb\n" ∷ []
unfolding first_lines after_lines
known_read = refl

-- a line has one newline, at its end, or none
one_line : IsOfOneLine (codes "a\n") × IsOfOneLine (codes "a") × IsOfOneLine []
one_line = (
  record { line = codes "a"; unlined = All-from_recursion (λ b. b ≢ 10) (codes "a") (search arith); is = inr refl },
  record { line = codes "a"; unlined = All-from_recursion (λ b. b ≢ 10) (codes "a") (search arith); is = inl refl },
  record { line = []; unlined = All-from_recursion (λ b. b ≢ 10) [] tt; is = inl refl },
)

not_two_lines : ¬ IsOfOneLine (codes "a\nb")
not_two_lines h = elim h.is [
  | inl e ↦ (recursion_from_All (λ b. b ≢ 10) (codes "a\nb") (subst HasNoNewline (sym e) h.unlined)).1.0 refl
  | inr e ↦ within h.line h.unlined e
]
  where
    within : (l : List ℕ) → HasNoNewline l → ¬ (codes "a\nb" ≡ l ++ 10 ∷ [])
    within [] u e = omega (arith, ap length e)
    within (a ∷ []) u e = omega (arith, ap length e)
    within (a ∷ b ∷ l) u e = let second : 10 ≡ b = ap (λ (l : List ℕ). unwrap_or (slice_get l 1) 0) e in (recursion_from_All (λ b. b ≢ 10) (a ∷ b ∷ l) u).1.0 (sym second)

-- ---- stopped

-- a read failed after two empty lines and a part: they say nothing, so nothing is written
stopped : StoppedReading (codes "\n\n ") (entries_alone true) (Some (codes "\n\n ")) (Some []) (Some (codes "a")) (Some (codes "a"))
unfolding meaning_from step lines
stopped = record { whole = [] ∷ [] ∷ []; part = codes " "; lined = All-from_recursion HasNoNewline ([] ∷ [] ∷ []) (All-from_recursion (λ b. b ≢ 10) [] tt, (All-from_recursion (λ b. b ≢ 10) [] tt, tt)); taken = (refl, (refl, tt)); unlined = All-from_recursion (λ b. b ≢ 10) (codes " ") (search arith); rest = []; of_bytes = refl; read = refl; wrote = refl }

-- and stopped in the part, or in the second line
stopped_in : StoppedInLine (codes "\n\n ") (entries_alone true) (Some (codes "\n\n ")) (Some []) (Some (codes "a")) (Some (codes "a"))
unfolding meaning_from step lines
stopped_in = record { whole = [] ∷ [] ∷ []; part = codes " "; lined = All-from_recursion HasNoNewline ([] ∷ [] ∷ []) (All-from_recursion (λ b. b ≢ 10) [] tt, (All-from_recursion (λ b. b ≢ 10) [] tt, tt)); taken = (refl, (refl, tt)); in_hand = record { line = codes " "; unlined = All-from_recursion (λ b. b ≢ 10) (codes " ") (search arith); is = inl refl }; rest = []; of_bytes = refl; read = refl; more = []; wrote = refl }

-- lines are cut in one way
no_whole : (l : List ℕ) → NoNewline l → whole_lines l ≡ []
unfolding whole_lines
no_whole [] h = refl
no_whole (b ∷ bs) h = rw (not_newline b h.0, no_whole bs h.1) refl

wholes : (ls : List (List ℕ)) (rest : List ℕ) → All HasNoNewline ls → whole_lines (unlines ls ++ rest) ≡ ls ++ whole_lines rest
wholes ls rest h = go ls (recursion_from_All HasNoNewline ls h)
  where
    go : (ls : List (List ℕ)) → AllByRecursion HasNoNewline ls → whole_lines (unlines ls ++ rest) ≡ ls ++ whole_lines rest
    go [] h = refl
    go (l ∷ ls) h =
        let cut : (l ++ 10 ∷ []) ++ unlines ls ++ rest ≡ l ++ (10 ∷ (unlines ls ++ rest)) = simp append_assoc in
        ap whole_lines cut ∙ whole_along l (unlines ls ++ rest) (recursion_from_All (λ b. b ≢ 10) l h.0) ∙ ap (λ z. l ∷ z) (go ls h.1)

-- no read that failed after a line that is refused
not_past_a_refusal : (l : List ℕ) (k : Refusal) (old new : Option (List ℕ)) → HasNoNewline l → (step scenario 1 None l).refusal ≡ Some k
    → ¬ StoppedReading (l ++ 10 ∷ []) (entries_alone true) (Some (l ++ 10 ∷ [])) (Some []) old new
not_past_a_refusal l k old new unlined refused h =
    let bytes : unlines h.whole ++ h.part ≡ l ++ 10 ∷ [] = sym (h.read ∙ append-nil (unlines h.whole ++ h.part)) in
    let cut : h.whole ++ whole_lines h.part ≡ l ∷ [] = sym (wholes h.whole h.part h.lined) ∙ ap whole_lines bytes ∙ one_whole l (recursion_from_All (λ b. b ≢ 10) l unlined) in
    let whole : h.whole ≡ l ∷ [] = sym (append-nil h.whole) ∙ ap (λ ls. h.whole ++ ls) (sym (no_whole h.part (recursion_from_All (λ b. b ≢ 10) h.part h.unlined))) ∙ cut in
    let taken : AreTaken scenario (l ∷ []) 1 None = subst (λ ls. AreTaken scenario ls 1 None) whole h.taken in
    let clash : ◌≡◌ {A = Option Refusal} None (Some k) = sym taken.0 ∙ refused in
    absurd cc

-- if the log of a line is "a", it stands once the line was read
module _ (l : List ℕ) (unlined : HasNoNewline l) (log : log_text (entries_alone true) (meaning_of (l ++ 10 ∷ [])).scene ≡ codes "a") where
  one : (ls : List (List ℕ)) → ls ≡ l ∷ [] → log_text (entries_alone true) (meaning_of (unlines ls)).scene ≡ codes "a"
  one ls e = ap (λ ks. log_text (entries_alone true) (meaning_of (unlines ks)).scene) e ∙ ap (λ bs. log_text (entries_alone true) (meaning_of bs).scene) (append-nil (l ++ 10 ∷ [])) ∙ log

  line_whole : whole_lines (l ++ 10 ∷ []) ≡ l ∷ []
  line_whole = one_whole l (recursion_from_All (λ b. b ≢ 10) l unlined)

  not_unwritten : ¬ StoppedReading (l ++ 10 ∷ []) (entries_alone true) (Some (l ++ 10 ∷ [])) (Some []) (Some []) (Some [])
  not_unwritten h =
      let bytes : unlines h.whole ++ h.part ≡ l ++ 10 ∷ [] = sym (h.read ∙ append-nil (unlines h.whole ++ h.part)) in
      let cut : h.whole ++ whole_lines h.part ≡ l ∷ [] = sym (wholes h.whole h.part h.lined) ∙ ap whole_lines bytes ∙ line_whole in
      let whole : h.whole ≡ l ∷ [] = sym (append-nil h.whole) ∙ ap (λ ls. h.whole ++ ls) (sym (no_whole h.part (recursion_from_All (λ b. b ≢ 10) h.part h.unlined))) ∙ cut in
      omega (arith, ap length (h.wrote ∙ one h.whole whole))

  -- nothing of the next line was read before that
  not_ahead : ¬ StoppedInLine (l ++ codes "\nb") (entries_alone true) (Some (l ++ codes "\nb")) (Some []) (Some []) (Some [])
  not_ahead h = elim h.in_hand.is [
    | inl e ↦ (
        let none : whole_lines h.part ≡ [] = ap whole_lines e ∙ no_whole h.in_hand.line (recursion_from_All (λ b. b ≢ 10) h.in_hand.line h.in_hand.unlined) in
        let whole : h.whole ≡ l ∷ [] = sym (append-nil h.whole) ∙ ap (λ ls. h.whole ++ ls) (sym none) ∙ cut in
        omega (arith, ap length (h.wrote ∙ ap (λ t. t ++ h.more) (one h.whole whole))))
    | inr e ↦ (
        let last : (unlines h.whole ++ h.in_hand.line) ++ 10 ∷ [] ≡ l ++ codes "\nb" = append_assoc (unlines h.whole) h.in_hand.line (10 ∷ []) ∙ ap (λ p. unlines h.whole ++ p) (sym e) ∙ bytes in
        let turned : 10 ∷ reverse (unlines h.whole ++ h.in_hand.line) ≡ 98 ∷ 10 ∷ reverse l = sym (reverse-append (unlines h.whole ++ h.in_hand.line) (10 ∷ [])) ∙ ap reverse last ∙ reverse-append l (codes "\nb") in
        omega (arith, ap (λ (bs : List ℕ). unwrap_or (slice_get bs 0) 0) turned))
  ]
    where
      bytes : unlines h.whole ++ h.part ≡ l ++ codes "\nb"
      bytes = sym (h.read ∙ append-nil (unlines h.whole ++ h.part))

      cut : h.whole ++ whole_lines h.part ≡ l ∷ []
      cut = sym (wholes h.whole h.part h.lined) ∙ ap whole_lines bytes ∙ whole_along l (codes "b") (recursion_from_All (λ b. b ≢ 10) l unlined) ∙ ap (λ ls. l ∷ ls) (no_whole (codes "b") (search arith))

-- ---- runs

-- no bytes are refused for want of a plant
no_plant : Ran (Err (fault.Refused 1 NoPlant)) true (Some []) (Some []) (Some (codes "a")) (Some (codes "arefused: line 1: 29 NoPlant\n"))
unfolding meaning_from step lines refusal_text digits first_lines after_lines
no_plant = record { bytes = []; of_input = refl; ran = (refl, refl, refl) }

-- they are not run
not_run : (o : Outcome) (new : List ℕ) → ¬ Ran (Ok o) true (Some []) (Some []) (Some []) (Some new)
unfolding meaning_from step lines
not_run o new h =
    let none : (meaning_of []).refused ≡ None = ap (λ bs. (meaning_of bs).refused) (sym h.of_input) ∙ h.ran.1.accepted in
    absurd cc

-- a line that is no UTF-8, and nothing after it is read
no_json : plan_in_line (255 ∷ []) ≡ Err Json
unfolding plan_in_line json_of is_utf8 chars
no_json = refl

stops : Ran (Err (fault.Refused 1 Json)) true (Some (255 ∷ codes "\nx")) (Some (codes "x")) (Some []) (Some (codes "refused: line 1: 24 Json\n"))
unfolding meaning_from step lines refusal_text digits first_lines after_lines
stops = record { bytes = 255 ∷ codes "\nx"; of_input = refl; ran = rw no_json (refl, refl, refl) }

not_all_read : ¬ Ran (Err (fault.Refused 1 Json)) true (Some (255 ∷ codes "\nx")) (Some []) (Some []) (Some (codes "refused: line 1: 24 Json\n"))
unfolding meaning_from step lines first_lines after_lines
not_all_read h =
    let first : (meaning_of h.bytes).refused ≡ Some (refusal_at 1 Json) = ap (λ bs. (meaning_of bs).refused) h.of_input ∙ rw no_json refl in
    let read : read_of (meaning_of h.bytes).refused h.bytes ≡ 255 ∷ 10 ∷ [] = ap (λ k. read_of k h.bytes) first ∙ ap (λ bs. shown_by 1 bs) h.of_input in
    omega (arith, ap length (h.ran.2 ∙ ap (λ bs. bs ++ []) read))

-- another line is not what was refused
not_line_2 : ¬ Ran (Err (fault.Refused 2 Json)) true (Some (255 ∷ codes "\nx")) (Some (codes "x")) (Some []) (Some (codes "refused: line 1: 24 Json\n"))
unfolding meaning_from step lines
not_line_2 h =
    let is : Some (refusal_at 1 Json) ≡ Some (refusal_at 2 Json) = sym (ap (λ bs. (meaning_of bs).refused) h.of_input ∙ rw no_json refl) ∙ h.ran.1 in
    let same : refusal_at 1 Json ≡ refusal_at 2 Json = same_Some (refusal_at 1 Json) (refusal_at 2 Json) is in
    omega (arith, ap (λ (k : Refused). k.line) same)
