-- What a line gives, and what is written of the lines after it.
use Rattle.std.proofs.Common.{◌≡◌, ℕ, ◌+◌, ◌≤◌, Bool, true, false, cond, List, [], ◌∷◌, ◌++◌, length, Option, Some, None, Result, Ok, Err, refl, ap, sym, subst, ◌∙◌, append-nil, append_assoc, nat_lt, inl, inr}
use Rattle.std.proofs.KnownBytes.{Appends-trans, Appends-nil}
use Rattle.irig_device.specs.Watched.{AppendsPart}
use Rattle.text_faults.specs.declared.refusal.Refusal.{Refusal}
use Rattle.text_faults.specs.declared.refusal.Refusal.TheVariants.{TooManyLines, TooLong}
use Rattle.report_run.specs.declared.stop.Stop.{Stop}
use Rattle.report_run.specs.declared.stop.Stop.TheVariants.{Refused, Failed}
use Rattle.report_run.specs.Lines.{is_blank, max_line, max_lines}
use Rattle.report_run.specs.Meanings.{Language, Step, step_to, step_of_first, step_of_next, step_of_line, step, Meaning, meaning, refusal_at, unless_stopped, meaning_from, meaning_at_end}
use Rattle.report_run.specs.Texts.{Texts, Stays, text_of, ending_of, meaning_text}
use Rattle.report_run.specs.Runs.{IsAt, TextMore, TextPart, TookTo, Took, IsFirst, TakesLine, TakesNext, Begins}
use Rattle.report_run.proofs.StepLaws.{step_taken}

-- ---- the text grows

-- the text of one scene is in front of a text
pub record TextFront {S : Type 0} (texts : Texts S) (first : List ℕ) (from : Option S) (whole : List ℕ) : Type 0 where
  pub rest : List ℕ
  pub is : whole ≡ text_of texts first from ++ rest

module _ {S : Type 0} (texts : Texts S) where
  front_same : (first : List ℕ) (at : Option S) → TextFront texts first at (text_of texts first at)
  front_same first at = record { rest = []; is = sym (append-nil (text_of texts first at)) }

  front_none : (first whole : List ℕ) → TextFront texts first None whole
  front_none first whole = record { rest = whole; is = refl }

  front_on : (first : List ℕ) (a b : Option S) (whole : List ℕ) → TextFront texts first a (text_of texts first b) → TextFront texts first b whole → TextFront texts first a whole
  front_on first a b whole h k = record { rest = h.rest ++ k.rest; is = k.is ∙ ap (λ t. t ++ k.rest) h.is ∙ append_assoc (text_of texts first a) h.rest k.rest }

  front_ended : (first : List ℕ) (n : ℕ) (at : Option S) → TextFront texts first at (meaning_text texts first (meaning_at_end n at))
  front_ended first n None = front_none first (meaning_text texts first (meaning_at_end n None))
  front_ended first n (Some x) = record { rest = texts.end x; is = refl }

  front_unless : (first : List ℕ) (n : ℕ) (from at : Option S) (k : Option Refusal) (rest : Meaning S)
      → TextFront texts first from (text_of texts first at) → TextFront texts first at (meaning_text texts first rest) → TextFront texts first from (meaning_text texts first (unless_stopped n at k rest))
  front_unless first n from at None rest h l = front_on first from at (meaning_text texts first rest) h l
  front_unless first n from at (Some k) rest h l =
      front_on first from at (meaning_text texts first (meaning at (Some (refusal_at n k)))) h (record { rest = ending_of texts (Some (refusal_at n k)) at; is = refl })

  -- ---- the output

  pub nothing_more : (first : List ℕ) (at : Option S) (out : Option (List ℕ)) → TextMore texts first at at out out
  nothing_more first at out = record { text = []; more = sym (append-nil (text_of texts first at)); wrote = Appends-nil out }

  pub more_on : (first : List ℕ) (a b c : Option S) (o0 o1 o2 : Option (List ℕ)) → TextMore texts first a b o0 o1 → TextMore texts first b c o1 o2 → TextMore texts first a c o0 o2
  more_on first a b c o0 o1 o2 h k = record {
    text = h.text ++ k.text;
    more = k.more ∙ ap (λ t. t ++ k.text) h.more ∙ append_assoc (text_of texts first a) h.text k.text;
    wrote = Appends-trans o0 o1 o2 _ _ h.wrote k.wrote;
  }

module _ {S : Type 0} (lang : Language S) (texts : Texts S) (stays : Stays lang texts) where
  front_next : (first : List ℕ) (x : S) (line : List ℕ) → TextFront texts first (Some x) (text_of texts first (step_of_next (lang.next x line)).scene)
  front_next first x line =
      let grown = stays x line in
      record { rest = grown.0; is = ap (λ t. texts.first first ++ t) grown.1 ∙ sym (append_assoc (texts.first first) (texts.said x) grown.0) }

  front_taken : (first : List ℕ) (at : Option S) (line : List ℕ) → TextFront texts first at (text_of texts first (step_of_line lang at line).scene)
  front_taken first None line = front_none texts first (text_of texts first (step_of_first (lang.begin line)).scene)
  front_taken first (Some x) line = front_next first x line

  front_if : (first : List ℕ) (at : Option S) (line : List ℕ) (many long blank : Bool)
      → TextFront texts first at (text_of texts first (cond many (step_to at (Some TooManyLines)) (cond long (step_to at (Some TooLong)) (cond blank (step_to at None) (step_of_line lang at line)))).scene)
  front_if first at line true long blank = front_same texts first at
  front_if first at line false true blank = front_same texts first at
  front_if first at line false false true = front_same texts first at
  front_if first at line false false false = front_taken first at line

  front_of_step : (first : List ℕ) (n : ℕ) (at : Option S) (line : List ℕ) → TextFront texts first at (text_of texts first (step lang n at line).scene)
  unfolding step
  front_of_step first n at line = front_if first at line (nat_lt max_lines n) (nat_lt max_line (length line)) (is_blank line)

  pub front_of_meaning : (first : List ℕ) (ls : List (List ℕ)) (n : ℕ) (at : Option S) → TextFront texts first at (meaning_text texts first (meaning_from lang ls n at))
  unfolding meaning_from
  front_of_meaning first [] n at = front_ended texts first n at
  front_of_meaning first (l ∷ ls) n at =
      front_unless texts first n at (step lang n at l).scene (step lang n at l).refusal (meaning_from lang ls (n + 1) (step lang n at l).scene)
      (front_of_step first n at l) (front_of_meaning first ls (n + 1) (step lang n at l).scene)

module _ {A S : Type 0} (lang : Language S) (stands_for : A → S → Type 0) (texts : Texts S) where
  -- ---- a line that isn't skipped

  took_at : (r : Result (Unit {0}) Stop) (f is : A) (n : ℕ) (line first : List ℕ) (old new : Option (List ℕ)) (at : Option S)
      → n ≤ max_lines → length line ≤ max_line → is_blank line ≡ false → IsAt stands_for (Some f) at → TakesNext lang stands_for texts f line r is old new → Took stands_for texts r (step lang n at line) first at (Some is) old new
  took_at r f is n line first old new None few short full stands takes = absurd stands
  took_at r f is n line first old new (Some x) few short full stands takes =
      subst (λ (st : Step S). Took stands_for texts r st first (Some x) (Some is) old new) (sym (step_taken lang n (Some x) line few short full)) (takes x first stands)

  pub following_takes : (r : Result (Unit {0}) Stop) (was : Option A) (f is : A) (n : ℕ) (line : List ℕ) (old new : Option (List ℕ))
      → was ≡ Some f → n ≤ max_lines → length line ≤ max_line → is_blank line ≡ false → TakesNext lang stands_for texts f line r is old new → TakesLine lang stands_for texts was n line r (Some is) old new
  following_takes r was f is n line old new same few short full takes = λ at first stands here.
      took_at r f is n line first old new at few short full (subst (λ w. IsAt stands_for w at) same stands) takes

  -- ---- the first line

  no_scene : (was : Option A) (at : Option S) → was ≡ None → IsAt stands_for was at → at ≡ None
  no_scene None None is stands = refl
  no_scene None (Some x) is stands = absurd stands
  no_scene (Some f) at is stands = absurd cc

  first_text : (line first : List ℕ) (x : S) → first ≡ line → texts.said x ≡ [] → text_of texts first (Some x) ≡ texts.first line
  first_text line first x e none = ap (λ t. texts.first first ++ t) none ∙ append-nil (texts.first first) ∙ ap texts.first e

  begins : (line first : List ℕ) (f : A) (old new : Option (List ℕ)) → first ≡ line → Begins lang stands_for texts line (Ok f) old new → TookTo stands_for texts (step_of_line lang None line) first None (Some f) None old new
  begins line first f old new e (x, is, none, stands, wrote) =
      let same : step_of_line lang None line ≡ step_to (Some x) None = ap step_of_first is in
      record {
        refused = ap (λ (st : Step S). st.refusal) same;
        stands = subst (λ (st : Step S). IsAt stands_for (Some f) st.scene) (sym same) stands;
        grew = record {
          text = texts.first line;
          more = ap (λ (st : Step S). text_of texts first st.scene) same ∙ first_text line first x e none;
          wrote = wrote;
        };
      }

  begun_in_part : (line first : List ℕ) (x : S) (old new : Option (List ℕ)) → first ≡ line → lang.begin line ≡ Ok x → texts.said x ≡ [] → AppendsPart old new (texts.first line) → TextPart texts first None (step_of_line lang None line).scene old new
  begun_in_part line first x old new e is none wrote =
      let same : step_of_line lang None line ≡ step_to (Some x) None = ap step_of_first is in
      record {
        text = texts.first line;
        more = ap (λ (st : Step S). text_of texts first st.scene) same ∙ first_text line first x e none;
        wrote = wrote;
      }

  stops_at_first : (s : Stop) (line first : List ℕ) (old new : Option (List ℕ)) → first ≡ line → Begins lang stands_for texts line (Err s) old new → Took stands_for texts (Err s) (step_of_line lang None line) first None None old new
  stops_at_first (Refused k) line first old new e begun =
      let to : step_of_line lang None line ≡ step_to None (Some k) = ap step_of_first begun.0 in
      record {
        refused = ap (λ (st : Step S). st.refusal) to;
        stands = subst (λ (at : Option S). IsAt stands_for None at) (ap (λ (st : Step S). st.scene) (sym to)) tt;
        grew = record { text = []; more = ap (λ (st : Step S). text_of texts first st.scene) to; wrote = begun.1 };
      }
  stops_at_first (Failed f) line first old new e (inl (x, is, none, wrote)) = begun_in_part line first x old new e is none wrote
  stops_at_first (Failed f) line first old new e (inr none) =
      let whole = text_of texts first (step_of_line lang None line).scene in
      record { text = whole; more = refl; wrote = record { front = []; rest = whole; whole = refl; wrote = none } }

  pub beginning_takes : (was : Option A) (n : ℕ) (line : List ℕ) (f : A) (old new : Option (List ℕ)) → was ≡ None
      → n ≤ max_lines → length line ≤ max_line → is_blank line ≡ false → Begins lang stands_for texts line (Ok f) old new → TakesLine lang stands_for texts was n line (Ok _) (Some f) old new
  beginning_takes was n line f old new is few short full begun = λ at first stands here. begins_at first at (no_scene was at is stands) here
    where
      begins_at : (first : List ℕ) (at : Option S) → at ≡ None → IsFirst at line first → TookTo stands_for texts (step lang n at line) first at (Some f) None old new
      begins_at first None none here =
          subst (λ (st : Step S). TookTo stands_for texts st first None (Some f) None old new) (sym (step_taken lang n None line few short full)) (begins line first f old new (here full) begun)
      begins_at first (Some x) none here = absurd cc

  pub beginning_stops : (s : Stop) (was : Option A) (n : ℕ) (line : List ℕ) (old new : Option (List ℕ)) → was ≡ None
      → n ≤ max_lines → length line ≤ max_line → is_blank line ≡ false → Begins lang stands_for texts line (Err s) old new → TakesLine lang stands_for texts was n line (Err s) was old new
  beginning_stops s was n line old new is few short full begun = λ at first stands here.
      subst (λ (w : Option A). Took stands_for texts (Err s) (step lang n at line) first at w old new) (sym is) (stops_at first at (no_scene was at is stands) here)
    where
      stops_at : (first : List ℕ) (at : Option S) → at ≡ None → IsFirst at line first → Took stands_for texts (Err s) (step lang n at line) first at None old new
      stops_at first None none here =
          subst (λ (st : Step S). Took stands_for texts (Err s) st first None None old new) (sym (step_taken lang n None line few short full)) (stops_at_first s line first old new (here full) begun)
      stops_at first (Some x) none here = absurd cc
