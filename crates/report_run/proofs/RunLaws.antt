-- What the loop over the lines has done so far, and what each way out of it tells.
use Rattle.std.proofs.Common.{◌≡◌, ℕ, ◌+◌, ◌<◌, Bool, true, false, not, cond, ◌-◌, ◌≤◌, List, [], ◌∷◌, ◌++◌, length, length-append, All, inl, inr, Option, Some, None, Result, Ok, Err, refl, ap, sym, subst, ◌∙◌, append_assoc, append-nil, arith, rules, nat_lt}
use Rattle.std.specs.Prelude.{⊤, ◌⊎◌, IfSome, is_some, unwrap_or}
use Rattle.std.specs.List.{find}
use Rattle.std.specs.Io.KnownBytes.{Appends, Consumes}
use Rattle.std.proofs.KnownBytes.{Consumes-trans, Consumes-nil, Appends-trans, Appends-nil}
use Rattle.std.proofs.lemmas.List.Elements.{All-push}
use Rattle.std.proofs.lemmas.Grind.{flat_map-append}
use Rattle.irig_device.specs.declared.line.LineEnd.{LineEnd}
use Rattle.irig_device.specs.declared.line.LineEnd.TheVariants.{Newline, EndOfInput, TooLong}
use Rattle.irig_device.specs.Lines.{HasNoNewline, HasLength, spelling, GivesLine, GivesPart}
use Rattle.irig_device.specs.Watched.{AppendsPart}
use Rattle.text_faults.specs.declared.refusal.Refusal.{Refusal}
use Rattle.text_faults.specs.declared.refusal.Refusal.TheVariants as refusal
use Rattle.report_run.specs.declared.fault.SceneFault.{SceneFault}
use Rattle.report_run.specs.declared.fault.SceneFault.TheVariants.{Refused, Read, Write, Memory}
use Rattle.report_run.specs.Faults.{IsFaultOfReading}
use Rattle.report_run.specs.Lines.{too_long}
use Rattle.report_run.specs.Faults.{IsOfLine}
use Rattle.report_run.specs.Lines.{lines, unlines, is_blank, max_line, max_lines, limit_of, shown_by}
use Rattle.report_run.specs.Meanings.{Language, Next, Step, step_to, step_of_first, step_of_next, step_of_line, step, Meaning, meaning, refusal_at, meaning_from, meaning_of, meaning_at_end, AreTaken}
use Rattle.report_run.proofs.LineLaws.{line_first, no_line, lines_after, one_line, Opens, opens}
use Rattle.report_run.proofs.ReadLaws.{shown_with_newline, shown_too_long, shown_at_end, refused_later}
use Rattle.report_run.proofs.StepLaws.{meaning_goes, meaning_stops, meaning_ends, step_many, step_long}
use Rattle.report_run.specs.Texts.{Texts, Stays, text_of, first_of, closing_of, meaning_text, whole_text}
use Rattle.report_run.specs.Runs.{IsOfOneLine, read_of, AreBytesOf, IsAt, TextMore, TookTo, IsFirst, WroteStop, WrotePart, RunsLine, EndsFor, LeavesFor, RestFor, StoppedInLine, HasHeard, HeardFor, RunFor, RanTo}
use Rattle.report_run.specs.Starts.{noted_at, starts_from}
use Rattle.report_run.proofs.TakenLaws.{TextFront, front_of_meaning, nothing_more, more_on}
use Rattle.report_run.proofs.RestLaws.{rest_on, refused_rest}
use Rattle.report_run.proofs.StartLaws.{starts_goes, heard_refused, leaves_at}

-- ---- a line that was read

as_newline : (end : LineEnd) (line : List ℕ) (in1 in2 : Option (List ℕ)) → end ≡ Newline → Consumes in1 in2 (spelling end line) → Consumes in1 in2 (line ++ 10 ∷ [])
as_newline end line in1 in2 is took = subst (λ end. Consumes in1 in2 (spelling end line)) is took

-- ---- the input, if it tells its bytes

-- what a line took is followed by what is left, or by nothing if that is not told
known_rest : (was left : Option (List ℕ)) (spelled : List ℕ) → Consumes was left spelled → (rest : List ℕ) × AreBytesOf was (spelled ++ rest)
known_rest None left spelled took = ([], tt)
known_rest (Some y) None spelled took = absurd took
known_rest (Some y) (Some rest) spelled took = (rest, sym took)

all_bytes : (in0 in1 : Option (List ℕ)) (front y : List ℕ) → Consumes in0 in1 front → AreBytesOf in1 y → AreBytesOf in0 (front ++ y)
all_bytes None in1 front y took is = tt
all_bytes (Some x) None front y took is = absurd took
all_bytes (Some x) (Some z) front y took is = ap (λ y. front ++ y) is ∙ sym took

module _ {S : Type 0} (lang : Language S) where
  stops_long : (n : ℕ) (at : Option S) (line more : List ℕ) → limit_of n < length line → step lang n at (line ++ more) ≡ step_to at (Some (too_long n))
  stops_long n at line more long = elim (nat_lt max_lines n) as (λ b. nat_lt max_lines n ≡ b → step lang n at (line ++ more) ≡ step_to at (Some (too_long n))) [
    | true ↦ λ many. step_many lang n at (line ++ more) (search rules) ∙ ap (λ b. step_to at (Some (cond b refusal.TooManyLines refusal.TooLong))) (sym many)
    | false ↦ λ few.
        let limit : limit_of n ≡ max_line = ap (λ b. cond b 0 max_line) few in
        step_long lang n at (line ++ more) (search rules) (omega (arith, limit, long, length-append line more)) ∙ ap (λ b. step_to at (Some (cond b refusal.TooManyLines refusal.TooLong))) (sym few)
  ] refl

-- ---- the first line that is not blank

abbrev is_full : List ℕ → Bool
is_full line = not (is_blank line)

abbrev first_in : List (List ℕ) → Option (List ℕ)
first_in ls = find is_full ls

-- so far all lines are blank before there is a plant, and then one is not
abbrev pub IsPlanted : {S : Type 0} → Option S → List (List ℕ) → Type 0
IsPlanted None past = first_in past ≡ None
IsPlanted (Some x) past = is_some (first_in past) ≡ true

find_past : (ls more : List (List ℕ)) → first_in ls ≡ None → first_in (ls ++ more) ≡ first_in more
find_past [] more h = refl
find_past (l ∷ ls) more h = elim (is_full l) as (λ b. cond b (Some l) (first_in ls) ≡ None → cond b (Some l) (first_in (ls ++ more)) ≡ first_in more) [
  | true ↦ λ h. absurd cc
  | false ↦ λ h. find_past ls more h
] h

find_within : (ls more : List (List ℕ)) → is_some (first_in ls) ≡ true → first_in (ls ++ more) ≡ first_in ls
find_within [] more h = absurd cc
find_within (l ∷ ls) more h = elim (is_full l) as (λ b. is_some (cond b (Some l) (first_in ls)) ≡ true → cond b (Some l) (first_in (ls ++ more)) ≡ cond b (Some l) (first_in ls)) [
  | true ↦ λ h. refl
  | false ↦ λ h. find_within ls more h
] h

full_first : (l : List ℕ) (ls : List (List ℕ)) → is_blank l ≡ false → first_in (l ∷ ls) ≡ Some l
full_first l ls h = rw h refl

blank_first : (l : List ℕ) → is_blank l ≡ true → first_in (l ∷ []) ≡ None
blank_first l h = rw h refl

stays_some : (past : List (List ℕ)) (l : List ℕ) → is_some (first_in past) ≡ true → is_some (first_in (past ++ l ∷ [])) ≡ true
stays_some past l h = ap is_some (find_within past (l ∷ []) h) ∙ h

module _ {S : Type 0} (lang : Language S) where
  -- the next line, if it is the first
  pub first_is : (at : Option S) (past : List (List ℕ)) (l : List ℕ) (rest : List (List ℕ)) → IsPlanted at past → IsFirst at l (first_of (past ++ l ∷ rest))
  first_is (Some x) past l rest h = tt
  first_is None past l rest h = λ full. ap (λ o. unwrap_or o []) (find_past past (l ∷ rest) h ∙ full_first l rest full)

  -- so of the last one, which may be empty
  first_last : (at : Option S) (past : List (List ℕ)) (l : List ℕ) → HasNoNewline l → IsPlanted at past → IsFirst at l (first_of (past ++ lines l))
  first_last (Some x) past l whole h = tt
  first_last None past [] whole h = λ full. absurd cc
  first_last None past (b ∷ bs) whole h =
      subst (λ ls. IsFirst {S = S} None (b ∷ bs) (first_of (past ++ ls))) (sym (one_line (b ∷ bs) whole (omega arith))) (first_is None past (b ∷ bs) [] h)

  next_some : (next : Next S) (past : List (List ℕ)) (l : List ℕ) → is_some (first_in past) ≡ true → IsPlanted (step_of_next next).scene (past ++ l ∷ [])
  next_some next past l h = stays_some past l h

  begun_some : (past : List (List ℕ)) (l : List ℕ) (p : Result S Refusal) → first_in past ≡ None → is_blank l ≡ false → (step_of_first p).refusal ≡ None → IsPlanted (step_of_first p).scene (past ++ l ∷ [])
  begun_some past l (Ok x) h full taken = ap is_some (find_past past (l ∷ []) h ∙ full_first l [] full)
  begun_some past l (Err k) h full taken = absurd cc

  planted_line : (at : Option S) (past : List (List ℕ)) (l : List ℕ) → IsPlanted at past → is_blank l ≡ false → (step_of_line lang at l).refusal ≡ None → IsPlanted (step_of_line lang at l).scene (past ++ l ∷ [])
  planted_line None past l h full taken = begun_some past l (lang.begin l) h full taken
  planted_line (Some x) past l h full taken = next_some (lang.next x l) past l h

  planted_blank : (at : Option S) (past : List (List ℕ)) (l : List ℕ) → IsPlanted at past → is_blank l ≡ true → IsPlanted at (past ++ l ∷ [])
  planted_blank None past l h blank = find_past past (l ∷ []) h ∙ blank_first l blank
  planted_blank (Some x) past l h blank = stays_some past l h

  planted_next : (n : ℕ) (at : Option S) (past : List (List ℕ)) (l : List ℕ) → IsPlanted at past → (step lang n at l).refusal ≡ None → IsPlanted (step lang n at l).scene (past ++ l ∷ [])
  unfolding step
  planted_next n at past l h taken = by_tests (nat_lt max_lines n) (nat_lt max_line (length l)) (is_blank l) refl taken
    where
      by_tests : (many long blank : Bool) → is_blank l ≡ blank
          → (cond many (step_to at (Some refusal.TooManyLines)) (cond long (step_to at (Some refusal.TooLong)) (cond blank (step_to at None) (step_of_line lang at l)))).refusal ≡ None
          → IsPlanted (cond many (step_to at (Some refusal.TooManyLines)) (cond long (step_to at (Some refusal.TooLong)) (cond blank (step_to at None) (step_of_line lang at l)))).scene (past ++ l ∷ [])
      by_tests true long blank is taken = absurd cc
      by_tests false true blank is taken = absurd cc
      by_tests false false true is taken = planted_blank at past l h is
      by_tests false false false is taken = planted_line at past l h is taken

-- ---- what is read

ended_scene : {S : Type 0} (n : ℕ) (at : Option S) → (meaning_at_end n at).scene ≡ at
ended_scene n None = refl
ended_scene n (Some x) = refl

-- what is read for an answer: as much as the bytes ask for, or a part of one line
abbrev ReadsFor : {S O : Type 0} → Language S → Result O SceneFault → List ℕ → List ℕ → List ℕ → Type 0
ReadsFor lang (Ok o) x read spelled = read_of (meaning_of lang x).refused x ≡ read
ReadsFor lang (Err (Refused line refusal)) x read spelled = read_of (meaning_of lang x).refused x ≡ read
ReadsFor lang (Err Read) x read spelled = ⊤
ReadsFor lang (Err Write) x read spelled = IsOfOneLine spelled
ReadsFor lang (Err Memory) x read spelled = IsOfOneLine spelled

module _ {S : Type 0} (O : Type 0) (lang : Language S) where
  reads_refused : (e : SceneFault) (x read spelled : List ℕ) (n : ℕ) (k : Refusal) → (meaning_of lang x).refused ≡ Some (refusal_at n k) → shown_by n x ≡ read → IsOfOneLine spelled → ReadsFor {O = O} lang (Err e) x read spelled
  reads_refused (Refused line refusal) x read spelled n k is shown one = ap (λ refused. read_of refused x) is ∙ shown
  reads_refused Read x read spelled n k is shown one = tt
  reads_refused Write x read spelled n k is shown one = one
  reads_refused Memory x read spelled n k is shown one = one

module _ {S O : Type 0} (lang : Language S) (ends : S → ℕ → O → Type 0) (texts : Texts S) where
  -- the text so far does not rest on later lines
  grew_to : (at : Option S) (past rest : List (List ℕ)) (old new : Option (List ℕ)) → IsPlanted at past → TextMore texts (first_of past) None at old new → TextMore texts (first_of (past ++ rest)) None at old new
  grew_to None past rest old new h grew = record { text = grew.text; more = grew.more; wrote = grew.wrote }
  grew_to (Some x) past rest old new h grew = subst (λ o. TextMore texts (unwrap_or o []) None (Some x) old new) (sym (find_within past rest h)) grew

  stopped_in_line : (x rest first : List ℕ) (was left out0 out1 out2 : Option (List ℕ)) (past : List (List ℕ)) (spelled : List ℕ) (at : Option S) (m : Meaning S) → All HasNoNewline past → AreTaken lang past 1 None → x ≡ (unlines past ++ spelled) ++ rest → Consumes was left (unlines past ++ spelled)
      → TextMore texts (first_of past) None at out0 out1 → (meaning_of lang (unlines past)).scene ≡ at → WrotePart texts first at m out1 out2 → IsOfOneLine spelled → StoppedInLine lang texts x was left out0 out2
  stopped_in_line x rest first was left out0 out1 out2 past spelled at m lined taken of_bytes took grew means here one = record {
    whole = past;
    part = spelled;
    rest = rest;
    lined = lined;
    taken = taken;
    in_hand = one;
    of_bytes = of_bytes;
    read = took;
    more = here.wrote.front;
    wrote = Appends-trans out0 out1 out2 _ _ (subst (Appends out0 out1) (sym (ap (text_of texts (first_of past)) means ∙ grew.more)) grew.wrote) here.wrote.wrote;
  }

  conclude : (r : Result O SceneFault) (x rest first : List ℕ) (was left out0 out1 out2 : Option (List ℕ)) (past : List (List ℕ)) (spelled : List ℕ) (at : Option S) → All HasNoNewline past → AreTaken lang past 1 None → x ≡ (unlines past ++ spelled) ++ rest → Consumes was left (unlines past ++ spelled)
      → TextMore texts (first_of past) None at out0 out1 → TextMore texts first None at out0 out1 → first ≡ first_of (lines x) → (meaning_of lang (unlines past)).scene ≡ at
      → RestFor ends texts r (meaning_of lang x) (length (lines x)) first at out1 out2 → ReadsFor lang r x (unlines past ++ spelled) spelled → RunFor lang ends texts r x was left out0 out2
  conclude (Ok o) x rest first was left out0 out1 out2 past spelled at lined taken of_bytes took grew so e means here reads =
      let h = rest_on lang ends texts (Ok o) (meaning_of lang x) (length (lines x)) first None at out0 out1 out2 so here in
      (subst (Appends out0 out2) (sym (ap (λ f. meaning_text texts f (meaning_of lang x)) (sym e) ∙ h.1.is)) h.1.wrote, h.0, subst (Consumes was left) (sym reads) took)
  conclude (Err (Refused line refusal)) x rest first was left out0 out1 out2 past spelled at lined taken of_bytes took grew so e means here reads =
      let h = rest_on lang ends texts (Err (Refused line refusal)) (meaning_of lang x) (length (lines x)) first None at out0 out1 out2 so here in
      (subst (Appends out0 out2) (sym (ap (λ f. meaning_text texts f (meaning_of lang x)) (sym e) ∙ h.1.is)) h.1.wrote, h.0, subst (Consumes was left) (sym reads) took)
  conclude (Err Read) x rest first was left out0 out1 out2 past spelled at lined taken of_bytes took grew so e means here reads = absurd here
  conclude (Err Write) x rest first was left out0 out1 out2 past spelled at lined taken of_bytes took grew so e means here reads =
      let h = rest_on lang ends texts (Err Write) (meaning_of lang x) (length (lines x)) first None at out0 out1 out2 so here in
      (subst (AppendsPart out0 out2) (sym (ap (λ f. meaning_text texts f (meaning_of lang x)) (sym e) ∙ h.is)) h.wrote, stopped_in_line x rest first was left out0 out1 out2 past spelled at (meaning_of lang x) lined taken of_bytes took grew means here reads)
  conclude (Err Memory) x rest first was left out0 out1 out2 past spelled at lined taken of_bytes took grew so e means here reads =
      let h = rest_on lang ends texts (Err Memory) (meaning_of lang x) (length (lines x)) first None at out0 out1 out2 so here in
      (subst (AppendsPart out0 out2) (sym (ap (λ f. meaning_text texts f (meaning_of lang x)) (sym e) ∙ h.is)) h.wrote, stopped_in_line x rest first was left out0 out1 out2 past spelled at (meaning_of lang x) lined taken of_bytes took grew means here reads)

-- ---- the loop

-- it stands before line n: these whole lines were played, and what is said of them was written
pub record HasRun {A S : Type 0} (lang : Language S) (entries : S → ℕ) (stands_for : A → S → Type 0) (counts : Bool) (texts : Texts S) (r : Option A) (notes : List ℕ) (in0 in1 out0 out1 : Option (List ℕ)) (n : ℕ) : Type 0 where
  pub at : Option S
  pub stands : IsAt stands_for r at
  pub past : List (List ℕ)
  pub whole : All HasNoNewline past
  pub taken : (rest : List (List ℕ)) → AreTaken lang rest n at → AreTaken lang (past ++ rest) 1 None
  pub count : n ≡ length past + 1
  pub took : Consumes in0 in1 (unlines past)
  pub means : (rest : List (List ℕ)) → meaning_from lang (past ++ rest) 1 None ≡ meaning_from lang rest n at
  pub planted : IsPlanted at past
  pub grew : TextMore texts (first_of past) None at out0 out1
  pub noted : (rest : List (List ℕ)) → starts_from lang entries counts (past ++ rest) 1 None ≡ notes ++ starts_from lang entries counts rest n at

module _ {A S O : Type 0} (lang : Language S) (ends : S → ℕ → O → Type 0) (entries : S → ℕ) (stands_for : A → S → Type 0) (counts : Bool) (texts : Texts S) where
  pub has_begun : (in0 out0 : Option (List ℕ)) (notes : List ℕ) → notes ≡ [] → HasRun lang entries stands_for counts texts None notes in0 in0 out0 out0 1
  has_begun in0 out0 notes none = record {
    at = None;
    stands = tt;
    past = [];
    whole = search rules;
    taken = λ rest more. more;
    count = refl;
    took = Consumes-nil in0;
    means = λ rest. refl;
    planted = refl;
    grew = nothing_more texts [] None out0;
    noted = λ rest. ap (λ (t : List ℕ). t ++ starts_from lang entries counts rest 1 None) (sym none);
  }

  pub line_done : (was is : Option A) (notes more : List ℕ) (in0 in1 in2 out0 out1 out2 : Option (List ℕ)) (n limit : ℕ) (l line : List ℕ) (end : LineEnd) (run : HasRun lang entries stands_for counts texts was notes in0 in1 out0 out1 n)
      → more ≡ notes ++ noted_at entries counts run.at
      → GivesLine end limit line in1 in2 → end ≡ Newline → l ≡ line → RunsLine lang ends stands_for texts was n l (Ok _) is out1 out2 → HasRun lang entries stands_for counts texts is more in0 in2 out0 out2 (n + 1)
  line_done was is notes more in0 in1 in2 out0 out1 out2 n limit l line end run noted got closed same runs =
      let h : HasNoNewline l = subst HasNoNewline (sym same) got.whole in
      let read : Consumes in1 in2 (l ++ 10 ∷ []) = subst (λ l. Consumes in1 in2 (l ++ 10 ∷ [])) (sym same) (as_newline end line in1 in2 closed got.taken) in
      let first = first_of (run.past ++ l ∷ []) in
      let took : TookTo stands_for texts (step lang n run.at l) first run.at is None out1 out2 = runs run.at first run.stands (first_is lang run.at run.past l [] run.planted) in
      let grown : unlines (run.past ++ l ∷ []) ≡ unlines run.past ++ (l ++ 10 ∷ []) =
      flat_map-append (λ l. l ++ 10 ∷ []) run.past (l ∷ []) ∙ ap (λ more. unlines run.past ++ more) (append-nil (l ++ 10 ∷ [])) in
      record {
        at = (step lang n run.at l).scene;
        stands = took.stands;
        past = run.past ++ l ∷ [];
        whole = All-push HasNoNewline _ _ run.whole h;
        taken = λ rest more. subst (λ ls. AreTaken lang ls 1 None) (sym (append_assoc run.past (l ∷ []) rest)) (run.taken (l ∷ rest) (took.refused, more));
        count = omega (arith, run.count, length-append run.past (l ∷ []));
        took = subst (Consumes in0 in2) (sym grown) (Consumes-trans in0 in1 in2 _ _ run.took read);
        means = λ rest. ap (λ ls. meaning_from lang ls 1 None) (append_assoc run.past (l ∷ []) rest) ∙ run.means (l ∷ rest) ∙ meaning_goes lang l rest n run.at took.refused;
        planted = planted_next lang n run.at run.past l run.planted took.refused;
        grew = more_on texts first None run.at (step lang n run.at l).scene out0 out1 out2 (grew_to lang ends texts run.at run.past (l ∷ []) out0 out1 run.planted run.grew) took.grew;
        noted = λ rest. ap (λ ls. starts_from lang entries counts ls 1 None) (append_assoc run.past (l ∷ []) rest) ∙ run.noted (l ∷ rest) ∙ ap (λ (t : List ℕ). notes ++ t) (starts_goes lang entries counts l rest n run.at took.refused)
            ∙ sym (append_assoc notes (noted_at entries counts run.at) (starts_from lang entries counts rest (n + 1) (step lang n run.at l).scene)) ∙ ap (λ (t : List ℕ). t ++ starts_from lang entries counts rest (n + 1) (step lang n run.at l).scene) (sym noted);
      }

-- ---- the ways out

module _ {A S O : Type 0} (lang : Language S) (ends : S → ℕ → O → Type 0) (entries : S → ℕ) (stands_for : A → S → Type 0) (counts : Bool) (texts : Texts S) (stays : Stays lang texts) (f : Option A) (notes : List ℕ) (in0 in1 out0 out1 : Option (List ℕ)) (n : ℕ) (run : HasRun lang entries stands_for counts texts f notes in0 in1 out0 out1 n) (more : List ℕ)
    (noted : more ≡ notes ++ noted_at entries counts run.at) where
  -- the next line is the first, if none was yet
  pub line_first_is : (l : List ℕ) → IsFirst run.at l (first_of (run.past ++ l ∷ []))
  line_first_is l = first_is lang run.at run.past l [] run.planted

  pub last_first_is : (limit : ℕ) (l line : List ℕ) (end : LineEnd) (in2 : Option (List ℕ)) → GivesLine end limit line in1 in2 → l ≡ line → IsFirst run.at l (first_of (run.past ++ lines l))
  last_first_is limit l line end in2 got same = first_last lang run.at run.past l (subst HasNoNewline (sym same) got.whole) run.planted

  -- the lines that are left mean what all of them mean
  left_means : (y : List ℕ) → meaning_of lang (unlines run.past ++ y) ≡ meaning_from lang (lines y) n run.at
  left_means y = ap (λ ls. meaning_from lang ls 1 None) (lines_after run.past y run.whole) ∙ run.means (lines y)

  left_count : (y : List ℕ) → n - 1 + length (lines y) ≡ length (lines (unlines run.past ++ y))
  left_count y =
      let sum : length (lines (unlines run.past ++ y)) ≡ length run.past + length (lines y) = ap length (lines_after run.past y run.whole) ∙ length-append run.past (lines y) in
      omega (arith, run.count, sum)

  past_scene : (meaning_of lang (unlines run.past)).scene ≡ run.at
  past_scene =
      let cut : lines (unlines run.past) ≡ run.past ++ [] = ap lines (sym (append-nil (unlines run.past))) ∙ lines_after run.past [] run.whole ∙ ap (λ more. run.past ++ more) no_line in
      ap (λ (m : Meaning S). m.scene) (ap (λ ls. meaning_from lang ls 1 None) cut ∙ run.means [] ∙ meaning_ends lang n run.at) ∙ ended_scene n run.at

  past_taken : AreTaken lang run.past 1 None
  past_taken = subst (λ ls. AreTaken lang ls 1 None) (append-nil run.past) (run.taken [] tt)

  of_parts : (spelled rest y : List ℕ) → y ≡ spelled ++ rest → unlines run.past ++ y ≡ (unlines run.past ++ spelled) ++ rest
  of_parts spelled rest y begins = ap (λ y. unlines run.past ++ y) begins ∙ sym (append_assoc (unlines run.past) spelled rest)

  -- what was heard of the lines that are left was heard of all
  has_heard : (p : Option A) (all ls : List (List ℕ)) → all ≡ run.past ++ ls → HasHeard lang entries stands_for counts p (noted_at entries counts run.at) ls n run.at → HasHeard lang entries stands_for counts p more all 1 None
  has_heard p all ls are h =
      let means : meaning_from lang all 1 None ≡ meaning_from lang ls n run.at = ap (λ ls. meaning_from lang ls 1 None) are ∙ run.means ls in
      let begun : starts_from lang entries counts all 1 None ≡ notes ++ starts_from lang entries counts ls n run.at = ap (λ ls. starts_from lang entries counts ls 1 None) are ∙ run.noted ls in
      record {
        stands = subst (λ (m : Meaning S). IsAt stands_for p m.scene) (sym means) h.stands;
        more = h.more;
        noted = noted ∙ ap (λ (t : List ℕ). notes ++ t) h.noted ∙ sym (append_assoc notes (starts_from lang entries counts ls n run.at) h.more) ∙ ap (λ (t : List ℕ). t ++ h.more) (sym begun);
        last = subst (λ (m : Meaning S). (h.more ≡ []) ⊎ (h.more ≡ noted_at entries counts m.scene)) (sym means) h.last;
      }

  heard_of_all : (r : Result O SceneFault) (p : Option A) (all ls : List (List ℕ)) → all ≡ run.past ++ ls → HeardFor {O = O} lang entries stands_for counts r p (noted_at entries counts run.at) ls n run.at → HeardFor {O = O} lang entries stands_for counts r p more all 1 None
  heard_of_all (Ok o) p all ls are h = has_heard p all ls are h
  heard_of_all (Err (Refused line refusal)) p all ls are h = has_heard p all ls are h
  heard_of_all (Err Read) p all ls are h = tt
  heard_of_all (Err Write) p all ls are h = tt
  heard_of_all (Err Memory) p all ls are h = tt

  -- y is left, of which a part is read
  exit : (r : Result O SceneFault) (p : Option A) (in2 out2 : Option (List ℕ)) (spelled rest y : List ℕ) (ls : List (List ℕ)) → y ≡ spelled ++ rest → Consumes in1 in2 spelled → AreBytesOf in1 y → lines y ≡ ls
      → RestFor ends texts r (meaning_from lang ls n run.at) (n - 1 + length ls) (first_of (run.past ++ ls)) run.at out1 out2 → ReadsFor {O = O} lang r (unlines run.past ++ y) (unlines run.past ++ spelled) spelled
      → HeardFor {O = O} lang entries stands_for counts r p (noted_at entries counts run.at) ls n run.at → RanTo lang ends entries stands_for counts texts r p more in0 in2 out0 out2
  exit r p in2 out2 spelled rest y ls begins took of_y is tells reads heard =
      let x = unlines run.past ++ y in
      let first = first_of (run.past ++ ls) in
      let counted : n - 1 + length ls ≡ length (lines x) = ap (λ ls. n - 1 + length ls) (sym is) ∙ left_count y in
      let here : RestFor ends texts r (meaning_of lang x) (length (lines x)) first run.at out1 out2 =
      subst (λ k. RestFor ends texts r (meaning_of lang x) k first run.at out1 out2) counted
      (subst (λ (m : Meaning S). RestFor ends texts r m (n - 1 + length ls) first run.at out1 out2) (sym (left_means y ∙ ap (λ ls. meaning_from lang ls n run.at) is)) tells) in
      record {
        bytes = x;
        of_input = all_bytes in0 in1 (unlines run.past) y run.took of_y;
        ran = conclude lang ends texts r x rest first in0 in2 out0 out1 out2 run.past spelled run.at run.whole past_taken (of_parts spelled rest y begins) (Consumes-trans in0 in1 in2 _ _ run.took took)
            run.grew (grew_to lang ends texts run.at run.past ls out0 out1 run.planted run.grew) (ap first_of (sym (lines_after run.past y run.whole ∙ ap (λ ls. run.past ++ ls) is))) past_scene here reads;
        heard = heard_of_all r p (lines x) ls (lines_after run.past y run.whole ∙ ap (λ ls. run.past ++ ls) is) heard;
      }

  -- line n is refused: what shows that
  refused_at : (y : List ℕ) (l : List ℕ) (ls : List (List ℕ)) (k : Refusal) → lines y ≡ l ∷ ls → (step lang n run.at l).refusal ≡ Some k → (meaning_of lang (unlines run.past ++ y)).refused ≡ Some (refusal_at n k)
  refused_at y l ls k is stops = ap (λ (m : Meaning S). m.refused) (left_means y ∙ ap (λ ls. meaning_from lang ls n run.at) is ∙ meaning_stops lang l ls n run.at k stops)

  -- line n ended the run
  reads_ended : (e : SceneFault) (y l first : List ℕ) (ls : List (List ℕ)) (count : ℕ) (out2 : Option (List ℕ)) (read spelled : List ℕ) → lines y ≡ l ∷ ls → IsOfLine n e → RestFor ends texts (Err e) (meaning_from lang (l ∷ ls) n run.at) count first run.at out1 out2
      → shown_by n (unlines run.past ++ y) ≡ read → IsOfOneLine spelled → ReadsFor {O = O} lang (Err e) (unlines run.past ++ y) read spelled
  reads_ended (Refused line refusal) y l first ls count out2 read spelled is here ran shows one =
      ap (λ refused. read_of refused (unlines run.past ++ y)) (ap (λ (m : Meaning S). m.refused) (left_means y ∙ ap (λ ls. meaning_from lang ls n run.at) is) ∙ ran.0 ∙ ap (λ n. Some (refusal_at n refusal)) here) ∙ shows
  reads_ended Read y l first ls count out2 read spelled is here ran shows one = tt
  reads_ended Write y l first ls count out2 read spelled is here ran shows one = one
  reads_ended Memory y l first ls count out2 read spelled is here ran shows one = one

  -- ---- a line with its newline

  pub left_ended : (e : SceneFault) (is : Option A) (in2 out2 : Option (List ℕ)) (limit : ℕ) (l line : List ℕ) (end : LineEnd)
      → GivesLine end limit line in1 in2 → end ≡ Newline → l ≡ line → limit ≡ limit_of n → RunsLine lang ends stands_for texts f n l (Err e) is out1 out2
      → ((at : Option S) → IsAt stands_for f at → LeavesFor stands_for e is (step lang n at l)) → RanTo lang ends entries stands_for counts texts (Err e) is more in0 in2 out0 out2
  left_ended e is in2 out2 limit l line end got closed same limited runs leaves =
      let h : HasNoNewline l = subst HasNoNewline (sym same) got.whole in
      let read : Consumes in1 in2 (l ++ 10 ∷ []) = subst (λ l. Consumes in1 in2 (l ++ 10 ∷ [])) (sym same) (as_newline end line in1 in2 closed got.taken) in
      let short : length l ≤ limit_of n = omega (arith, ap length same, limited, subst (λ end. HasLength end limit line) closed got.has_length) in
      let known = known_rest in1 in2 (l ++ 10 ∷ []) read in
      let y = (l ++ 10 ∷ []) ++ known.0 in
      let ls = lines known.0 in
      let first = first_of (run.past ++ l ∷ ls) in
      let count = n - 1 + length (l ∷ ls) in
      let ended : EndsFor lang ends texts e n l first run.at out1 out2 = runs run.at first run.stands (first_is lang run.at run.past l ls run.planted) in
      exit (Err e) is in2 out2 (l ++ 10 ∷ []) known.0 y (l ∷ ls) refl read known.1 (line_first l known.0 h)
      (ended.ran ls count)
      (reads_ended e y l first ls count out2 _ _ (line_first l known.0 h) ended.numbered (ended.ran ls count)
      (shown_with_newline run.past n l known.0 run.whole run.count h short) (record { line = l; unlined = h; is = inr refl }))
      (heard_refused O lang entries stands_for counts e is l ls n run.at (leaves run.at run.stands))

  -- ---- a line that is too long

  pub left_too_long : (e : SceneFault) (in2 out2 : Option (List ℕ)) (limit : ℕ) (line : List ℕ) (end : LineEnd) (k : Refusal)
      → GivesLine end limit line in1 in2 → end ≡ TooLong → limit ≡ limit_of n → k ≡ too_long n → ((at : Option S) → IsAt stands_for f at → WroteStop e n k (closing_of texts at) out1 out2) → RanTo lang ends entries stands_for counts texts (Err e) f more in0 in2 out0 out2
  left_too_long e in2 out2 limit line end k got closed limited is tells =
      let beyond : length line ≡ limit + 1 = subst (λ end. HasLength end limit line) closed got.has_length in
      let long : limit_of n < length line = omega (arith, beyond, limited) in
      let read : Consumes in1 in2 line = subst (λ end. Consumes in1 in2 (spelling end line)) closed got.taken in
      let known = known_rest in1 in2 line read in
      let y = line ++ known.0 in
      let first : Opens y line = opens line known.0 y got.whole (omega (arith, beyond)) refl in
      let l = line ++ first.more in
      let stop : step lang n run.at l ≡ step_to run.at (Some k) = stops_long lang n run.at line first.more long ∙ ap (λ k. step_to run.at (Some k)) (sym is) in
      let means : meaning_from lang (l ∷ first.others) n run.at ≡ meaning run.at (Some (refusal_at n k)) =
      meaning_stops lang l first.others n run.at k (ap (λ (s : Step S). s.refusal) stop) ∙ ap (λ (s : Step S). meaning s.scene (Some (refusal_at n k))) stop in
      exit (Err e) f in2 out2 line known.0 y (l ∷ first.others) refl read known.1 first.is
      (refused_rest lang ends texts e (first_of (run.past ++ l ∷ first.others)) run.at (meaning_from lang (l ∷ first.others) n run.at) (n - 1 + length (l ∷ first.others)) n k out1 out2 means (tells run.at run.stands))
      (reads_refused O lang e (unlines run.past ++ y) _ _ n k (refused_at y l first.others k first.is (ap (λ (s : Step S). s.refusal) stop))
      (shown_too_long run.past n line known.0 run.whole run.count got.whole (omega (arith, beyond, limited))) (record { line = line; unlined = got.whole; is = inl refl }))
      (heard_refused O lang entries stands_for counts e f l first.others n run.at (leaves_at lang stands_for e f (step lang n run.at l) k (ap (λ (s : Step S). s.refusal) stop) (subst (λ (s : Step S). IsAt stands_for f s.scene) (sym stop) run.stands)))

  -- ---- the end of the input

  reads_last : (r : Result O SceneFault) (l first : List ℕ) (count : ℕ) (out2 : Option (List ℕ)) → HasNoNewline l → length l ≤ limit_of n → RestFor ends texts r (meaning_from lang (lines l) n run.at) count first run.at out1 out2 → ReadsFor {O = O} lang r (unlines run.past ++ l) (unlines run.past ++ l) l
  reads_last (Ok o) l first count out2 h short tells = ap (λ refused. read_of refused (unlines run.past ++ l)) (ap (λ (m : Meaning S). m.refused) (left_means l) ∙ tells.0.accepted)
  reads_last (Err (Refused line refusal)) l first count out2 h short tells =
      ap (λ refused. read_of refused (unlines run.past ++ l)) (ap (λ (m : Meaning S). m.refused) (left_means l) ∙ tells.0)
      ∙ shown_at_end run.past n l line run.whole run.count h short (refused_later lang (lines l) n run.at line refusal tells.0)
  reads_last (Err Read) l first count out2 h short tells = tt
  reads_last (Err Write) l first count out2 h short tells = record { line = l; unlined = h; is = inl refl }
  reads_last (Err Memory) l first count out2 h short tells = record { line = l; unlined = h; is = inl refl }

  ended_bytes : (l line : List ℕ) → l ≡ line → IfSome in1 (λ left. left ≡ line) → AreBytesOf in1 l
  ended_bytes l line same at_end = elim in1 as (λ in1. IfSome in1 (λ left. left ≡ line) → AreBytesOf in1 l) [
    | None ↦ λ at_end. tt
    | Some left ↦ λ at_end. same ∙ sym at_end
  ] at_end

  pub left_last : (r : Result O SceneFault) (is : Option A) (in2 out2 : Option (List ℕ)) (limit : ℕ) (l line : List ℕ) (end : LineEnd)
      → GivesLine end limit line in1 in2 → end ≡ EndOfInput → l ≡ line → limit ≡ limit_of n
      → ((at : Option S) (first : List ℕ) → IsAt stands_for f at → IsFirst at l first → RestFor ends texts r (meaning_from lang (lines l) n at) (n - 1 + length (lines l)) first at out1 out2)
      → ((at : Option S) → IsAt stands_for f at → HeardFor {O = O} lang entries stands_for counts r is (noted_at entries counts at) (lines l) n at) → RanTo lang ends entries stands_for counts texts r is more in0 in2 out0 out2
  left_last r is in2 out2 limit l line end got closed same limited tells heard =
      let first = first_of (run.past ++ lines l) in
      let h : HasNoNewline l = subst HasNoNewline (sym same) got.whole in
      let read : Consumes in1 in2 l = subst (Consumes in1 in2) (sym same) (subst (λ end. Consumes in1 in2 (spelling end line)) closed got.taken) in
      let short : length l ≤ limit_of n = omega (arith, ap length same, limited, subst (λ end. HasLength end limit line) closed got.has_length) in
      let here = tells run.at first run.stands (first_last lang run.at run.past l h run.planted) in
      exit r is in2 out2 l [] l (lines l) (sym (append-nil l)) read (ended_bytes l line same (got.at_end closed)) refl here (reads_last r l first (n - 1 + length (lines l)) out2 h short here) (heard run.at run.stands)

  -- ---- a failed read

  pub left_read : (e : SceneFault) (in2 : Option (List ℕ)) → IsFaultOfReading e → GivesPart in1 in2 → RanTo lang ends entries stands_for counts texts (Err e) f more in0 in2 out0 out1
  left_read (Refused line refusal) in2 kind got = absurd kind
  left_read Read in2 kind got =
      let known = known_rest in1 in2 got.part got.taken in
      let y = got.part ++ known.0 in
      let x = unlines run.past ++ y in
      let first = first_of (lines x) in
      let grew : TextMore texts first None run.at out0 out1 = subst (λ ls. TextMore texts (first_of ls) None run.at out0 out1) (sym (lines_after run.past y run.whole)) (grew_to lang ends texts run.at run.past (lines y) out0 out1 run.planted run.grew) in
      let front : TextFront texts first run.at (whole_text lang texts x) = subst (λ (m : Meaning S). TextFront texts first run.at (meaning_text texts first m)) (sym (left_means y)) (front_of_meaning lang texts stays first (lines y) n run.at) in
      record {
        bytes = x;
        of_input = all_bytes in0 in1 (unlines run.past) y run.took known.1;
        ran = (
          record { front = grew.text; rest = front.rest; whole = front.is ∙ ap (λ t. t ++ front.rest) grew.more; wrote = grew.wrote },
          record {
            whole = run.past;
            part = got.part;
            rest = known.0;
            lined = run.whole;
            taken = past_taken;
            unlined = got.whole;
            of_bytes = of_parts got.part known.0 y refl;
            read = Consumes-trans in0 in1 in2 _ _ run.took got.taken;
            wrote = subst (Appends out0 out1) (sym (ap (text_of texts (first_of run.past)) past_scene ∙ run.grew.more)) run.grew.wrote;
          },
        );
        heard = tt;
      }
  left_read Write in2 kind got = absurd kind
  left_read Memory in2 kind got =
      let known = known_rest in1 in2 got.part got.taken in
      let y = got.part ++ known.0 in
      let first = first_of (run.past ++ lines y) in
      let front = front_of_meaning lang texts stays first (lines y) n run.at in
      exit (Err Memory) f in2 out1 got.part known.0 y (lines y) refl got.taken known.1 refl
      (record { rest = front.rest; is = front.is; wrote = record { front = []; rest = front.rest; whole = refl; wrote = Appends-nil out1 } })
      (record { line = got.part; unlined = got.whole; is = inl refl })
      tt

-- there was no memory to note that a line begins
pub left_unnoted : {A S O : Type 0} (lang : Language S) (ends : S → ℕ → O → Type 0) (entries : S → ℕ) (stands_for : A → S → Type 0) (counts : Bool) (texts : Texts S) (stays : Stays lang texts) (f : Option A) (notes : List ℕ) (in0 in1 out0 out1 : Option (List ℕ)) (n : ℕ) (run : HasRun lang entries stands_for counts texts f notes in0 in1 out0 out1 n) (more : List ℕ) → RanTo lang ends entries stands_for counts texts (Err Memory) f more in0 in1 out0 out1
left_unnoted lang ends entries stands_for counts texts stays f notes in0 in1 out0 out1 n run more =
    let h = left_read lang ends entries stands_for counts texts stays f notes in0 in1 out0 out1 n run (notes ++ noted_at entries counts run.at) refl Memory in1 tt (record { part = []; whole = search rules; taken = Consumes-nil in1 }) in
    record { bytes = h.bytes; of_input = h.of_input; ran = h.ran; heard = tt }

-- ---- whom a player tells

module _ {A B S O : Type 0} (lang : Language S) (ends : S → ℕ → O → Type 0) (entries : S → ℕ) (stands_for : A → S → Type 0) (heard_by : B → S → Type 0) (p : Option A) (l : Option B) (of_player : (at : Option S) → IsAt stands_for p at → IsAt heard_by l at) where
  of_listener : (counts : Bool) (notes : List ℕ) (ls : List (List ℕ)) (n : ℕ) (at : Option S) → HasHeard lang entries stands_for counts p notes ls n at → HasHeard lang entries heard_by counts l notes ls n at
  of_listener counts notes ls n at h = record { stands = of_player (meaning_from lang ls n at).scene h.stands; more = h.more; noted = h.noted; last = h.last }

  heard_by_it : (counts : Bool) (r : Result O SceneFault) (notes : List ℕ) (ls : List (List ℕ)) (n : ℕ) (at : Option S) → HeardFor {O = O} lang entries stands_for counts r p notes ls n at → HeardFor {O = O} lang entries heard_by counts r l notes ls n at
  heard_by_it counts (Ok o) notes ls n at h = of_listener counts notes ls n at h
  heard_by_it counts (Err (Refused line refusal)) notes ls n at h = of_listener counts notes ls n at h
  heard_by_it counts (Err Read) notes ls n at h = tt
  heard_by_it counts (Err Write) notes ls n at h = tt
  heard_by_it counts (Err Memory) notes ls n at h = tt

  pub ran_to : (counts : Bool) (texts : Texts S) (r : Result O SceneFault) (notes : List ℕ) (was left old new : Option (List ℕ)) → RanTo lang ends entries stands_for counts texts r p notes was left old new → RanTo lang ends entries heard_by counts texts r l notes was left old new
  ran_to counts texts r notes was left old new h = record { bytes = h.bytes; of_input = h.of_input; ran = h.ran; heard = heard_by_it counts r notes (lines h.bytes) 1 None h.heard }
