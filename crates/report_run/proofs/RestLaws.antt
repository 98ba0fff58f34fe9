-- What the parts of a run tell together.
use Rattle.std.proofs.Common.{◌≡◌, ◌↔◌, ℕ, ◌+◌, ◌-◌, ◌<◌, ◌≤◌, arith, Bool, true, false, List, [], ◌∷◌, ◌++◌, length, Option, Some, None, Result, Ok, Err, refl, ap, sym, subst, ◌∙◌, append_assoc}
use Rattle.std.specs.Io.KnownBytes.{Appends}
use Rattle.std.proofs.KnownBytes.{Appends-trans}
use Rattle.irig_device.specs.Lines.{HasNoNewline}
use Rattle.irig_device.specs.Watched.{AppendsPart}
use Rattle.text_faults.specs.declared.refusal.Refusal.{Refusal}
use Rattle.text_faults.specs.declared.refusal.Refusal.TheVariants.{NoPlant}
use Rattle.report_log.specs.Text.{refusal_text}
use Rattle.report_run.specs.declared.fault.SceneFault.{SceneFault}
use Rattle.report_run.specs.declared.fault.SceneFault.TheVariants as fault
use Rattle.report_run.specs.declared.stop.Failure.{Failure}
use Rattle.report_run.specs.declared.stop.Failure.TheVariants as failure
use Rattle.report_run.specs.declared.stop.Stop.{Stop}
use Rattle.report_run.specs.declared.stop.Stop.TheVariants.{Refused, Failed}
use Rattle.report_run.specs.Faults.{fault_of}
use Rattle.report_run.specs.Faults.{WroteRefusal, IsOfLine}
use Rattle.report_run.specs.Lines.{lines}
use Rattle.report_run.specs.Meanings.{Language, step, Meaning, meaning, refusal_at, meaning_from, meaning_at_end}
use Rattle.report_run.proofs.LineLaws.{no_line, one_line}
use Rattle.report_run.proofs.StepLaws.{meaning_goes, meaning_stops, meaning_ends}
use Rattle.report_run.specs.Texts.{Texts, Stays, text_of, closing_of, ending_of, meaning_text}
use Rattle.report_run.specs.Runs.{IsAt, TextMore, TextPart, TookTo, Took, WroteStop, WroteRest, WrotePart, RestFor, EndsFor}
use Rattle.report_run.proofs.TakenLaws.{TextFront, front_of_meaning}

-- ---- a refusal

-- it is this line's
of_line : (e : SceneFault) (n : ℕ) (k : Refusal) (closing : List ℕ) (old new : Option (List ℕ)) → WroteStop e n k closing old new → IsOfLine n e
of_line (fault.Refused line refusal) n k closing old new h = h.0
of_line fault.Read n k closing old new h = tt
of_line fault.Write n k closing old new h = tt
of_line fault.Memory n k closing old new h = tt

of_failure : (f : Failure) (n : ℕ) → IsOfLine n (fault_of f)
of_failure failure.Write n = tt
of_failure failure.Memory n = tt

-- nothing else is left to be written
pub stop_alone : (e : SceneFault) (n : ℕ) (k : Refusal) (old new : Option (List ℕ)) → WroteRefusal e n k old new → WroteStop e n k [] old new
stop_alone (fault.Refused line refusal) n k old new h = h
stop_alone fault.Read n k old new h = h
stop_alone fault.Write n k old new h = h
stop_alone fault.Memory n k old new h = h

then_part : (a b : List ℕ) (o0 o1 o2 : Option (List ℕ)) → Appends o0 o1 a → AppendsPart o1 o2 b → AppendsPart o0 o2 (a ++ b)
then_part a b o0 o1 o2 h k = record {
  front = a ++ k.front;
  rest = k.rest;
  whole = ap (λ t. a ++ t) k.whole ∙ sym (append_assoc a k.front k.rest);
  wrote = Appends-trans o0 o1 o2 _ _ h k.wrote;
}

-- what is left was written, and then the refusal
pub stop_then : (e : SceneFault) (n : ℕ) (k : Refusal) (closing : List ℕ) (o0 o1 o2 : Option (List ℕ)) → Appends o0 o1 closing → WroteRefusal e n k o1 o2 → WroteStop e n k closing o0 o2
stop_then (fault.Refused line refusal) n k closing o0 o1 o2 h l = (l.0, l.1, Appends-trans o0 o1 o2 _ _ h l.2)
stop_then fault.Read n k closing o0 o1 o2 h l = absurd l
stop_then fault.Write n k closing o0 o1 o2 h l = then_part closing (refusal_text n k) o0 o1 o2 h l
stop_then fault.Memory n k closing o0 o1 o2 h l = then_part closing (refusal_text n k) o0 o1 o2 h l

longer_part : (a b : List ℕ) (old new : Option (List ℕ)) → AppendsPart old new a → AppendsPart old new (a ++ b)
longer_part a b old new h = record {
  front = h.front;
  rest = h.rest ++ b;
  whole = ap (λ t. t ++ b) h.whole ∙ append_assoc h.front h.rest b;
  wrote = h.wrote;
}

-- or that failed
pub stop_fails : (f : Failure) (n : ℕ) (k : Refusal) (closing : List ℕ) (old new : Option (List ℕ)) → AppendsPart old new closing → WroteStop (fault_of f) n k closing old new
stop_fails failure.Write n k closing old new h = longer_part closing (refusal_text n k) old new h
stop_fails failure.Memory n k closing old new h = longer_part closing (refusal_text n k) old new h

module _ {S O : Type 0} (lang : Language S) (ends : S → ℕ → O → Type 0) (texts : Texts S) where
  wrote_on : (first : List ℕ) (from at : Option S) (m : Meaning S) (o0 o1 o2 : Option (List ℕ)) → TextMore texts first from at o0 o1 → WroteRest texts first at m o1 o2 → WroteRest texts first from m o0 o2
  wrote_on first from at m o0 o1 o2 h l = record {
    rest = h.text ++ l.rest;
    is = l.is ∙ ap (λ t. t ++ l.rest) h.more ∙ append_assoc (text_of texts first from) h.text l.rest;
    wrote = Appends-trans o0 o1 o2 _ _ h.wrote l.wrote;
  }

  part_on : (first : List ℕ) (from at : Option S) (m : Meaning S) (o0 o1 o2 : Option (List ℕ)) → TextMore texts first from at o0 o1 → WrotePart texts first at m o1 o2 → WrotePart texts first from m o0 o2
  part_on first from at m o0 o1 o2 h l = record {
    rest = h.text ++ l.rest;
    is = l.is ∙ ap (λ t. t ++ l.rest) h.more ∙ append_assoc (text_of texts first from) h.text l.rest;
    wrote = record {
      front = h.text ++ l.wrote.front;
      rest = l.wrote.rest;
      whole = ap (λ t. h.text ++ t) l.wrote.whole ∙ sym (append_assoc h.text l.wrote.front l.wrote.rest);
      wrote = Appends-trans o0 o1 o2 _ _ h.wrote l.wrote.wrote;
    };
  }

  -- what was written before belongs to it
  pub rest_on : (r : Result O SceneFault) (m : Meaning S) (count : ℕ) (first : List ℕ) (from at : Option S) (o0 o1 o2 : Option (List ℕ))
      → TextMore texts first from at o0 o1 → RestFor ends texts r m count first at o1 o2 → RestFor ends texts r m count first from o0 o2
  rest_on (Ok o) m count first from at o0 o1 o2 h l = (l.0, wrote_on first from at m o0 o1 o2 h l.1)
  rest_on (Err (fault.Refused line refusal)) m count first from at o0 o1 o2 h l = (l.0, wrote_on first from at m o0 o1 o2 h l.1)
  rest_on (Err fault.Read) m count first from at o0 o1 o2 h l = absurd l
  rest_on (Err fault.Write) m count first from at o0 o1 o2 h l = part_on first from at m o0 o1 o2 h l
  rest_on (Err fault.Memory) m count first from at o0 o1 o2 h l = part_on first from at m o0 o1 o2 h l

  part_rest : (first : List ℕ) (from at : Option S) (m : Meaning S) (old new : Option (List ℕ)) → TextPart texts first from at old new → TextFront texts first at (meaning_text texts first m) → WrotePart texts first from m old new
  part_rest first from at m old new h front = record {
    rest = h.text ++ front.rest;
    is = front.is ∙ ap (λ t. t ++ front.rest) h.more ∙ append_assoc (text_of texts first from) h.text front.rest;
    wrote = record {
      front = h.wrote.front;
      rest = h.wrote.rest ++ front.rest;
      whole = ap (λ t. t ++ front.rest) h.wrote.whole ∙ append_assoc h.wrote.front h.wrote.rest front.rest;
      wrote = h.wrote.wrote;
    };
  }

  -- something failed in the midst of a line
  failed_rest : (f : Failure) (at : Option S) (m : Meaning S) (count : ℕ) (first : List ℕ) (from : Option S) (old new : Option (List ℕ))
      → TextPart texts first from at old new → TextFront texts first at (meaning_text texts first m) → RestFor ends texts (Err (fault_of f)) m count first from old new
  failed_rest failure.Write at m count first from old new h front = part_rest first from at m old new h front
  failed_rest failure.Memory at m count first from old new h front = part_rest first from at m old new h front

  -- a line's refusal, and what was written of it
  pub refused_rest : (e : SceneFault) (first : List ℕ) (at : Option S) (m : Meaning S) (count n : ℕ) (k : Refusal) (old new : Option (List ℕ)) → m ≡ meaning at (Some (refusal_at n k))
      → WroteStop e n k (closing_of texts at) old new → RestFor ends texts (Err e) m count first at old new
  refused_rest (fault.Refused line refusal) first at m count n k old new e tells = (
    ap (λ (w : Meaning S). w.refused) e ∙ ap (λ l. Some (refusal_at l k)) (sym tells.0) ∙ ap (λ r. Some (refusal_at line r)) (sym tells.1),
    record { rest = closing_of texts at ++ refusal_text n k; is = ap (meaning_text texts first) e; wrote = tells.2 },
  )
  refused_rest fault.Read first at m count n k old new e tells = absurd tells
  refused_rest fault.Write first at m count n k old new e tells = record { rest = closing_of texts at ++ refusal_text n k; is = ap (meaning_text texts first) e; wrote = tells }
  refused_rest fault.Memory first at m count n k old new e tells = record { rest = closing_of texts at ++ refusal_text n k; is = ap (meaning_text texts first) e; wrote = tells }

  -- ---- a line, and others after it

  alike : (r : Result O SceneFault) (m w : Meaning S) (i j : ℕ) (first : List ℕ) (from : Option S) (old new : Option (List ℕ)) → m ≡ w → i ≡ j → RestFor ends texts r m i first from old new → RestFor ends texts r w j first from old new
  alike r m w i j first from old new e same tells = subst (λ (w : Meaning S). RestFor ends texts r w j first from old new) e (subst (λ j. RestFor ends texts r m j first from old new) same tells)

  front_after : (stays : Stays lang texts) (first l : List ℕ) (ls : List (List ℕ)) (n : ℕ) (at : Option S) (k : Option Refusal) → (step lang n at l).refusal ≡ k
      → TextFront texts first (step lang n at l).scene (meaning_text texts first (meaning_from lang (l ∷ ls) n at))
  front_after stays first l ls n at None h =
      subst (λ (m : Meaning S). TextFront texts first (step lang n at l).scene (meaning_text texts first m)) (sym (meaning_goes lang l ls n at h)) (front_of_meaning lang texts stays first ls (n + 1) (step lang n at l).scene)
  front_after stays first l ls n at (Some k) h =
      subst (λ (m : Meaning S). TextFront texts first (step lang n at l).scene (meaning_text texts first m)) (sym (meaning_stops lang l ls n at k h)) (record { rest = ending_of texts (Some (refusal_at n k)) (step lang n at l).scene; is = refl })

  -- ---- the last line

  pub last_empty : (r : Result O SceneFault) (line : List ℕ) (n : ℕ) (first : List ℕ) (at : Option S) (old new : Option (List ℕ)) → line ≡ []
      → RestFor ends texts r (meaning_at_end n at) (n - 1) first at old new → RestFor ends texts r (meaning_from lang (lines line) n at) (n - 1 + length (lines line)) first at old new
  last_empty r line n first at old new e tells =
      let none : lines line ≡ [] = ap lines e ∙ no_line in
      alike r (meaning_at_end n at) (meaning_from lang (lines line) n at) (n - 1) (n - 1 + length (lines line)) first at old new (sym (ap (λ ls. meaning_from lang ls n at) none ∙ meaning_ends lang n at)) (omega (arith, ap length none)) tells

  pub last_ends : (e : SceneFault) (line : List ℕ) (n count : ℕ) (first : List ℕ) (at : Option S) (old new : Option (List ℕ)) → 0 < length line → HasNoNewline line
      → EndsFor lang ends texts e n line first at old new → RestFor ends texts (Err e) (meaning_from lang (lines line) n at) count first at old new
  last_ends e line n count first at old new some whole ended =
      alike (Err e) (meaning_from lang (line ∷ []) n at) (meaning_from lang (lines line) n at) count count first at old new (ap (λ ls. meaning_from lang ls n at) (sym (one_line line whole some))) refl (ended.ran [] count)

  -- ---- what ends a run is no failed read

  pub no_read_failed : (r : Result O SceneFault) (m : Meaning S) (count : ℕ) (first : List ℕ) (at : Option S) (old new : Option (List ℕ)) (failed : Bool) → RestFor ends texts r m count first at old new → failed ≡ false → (r ≡ Err fault.Read) ↔ (failed ≡ true)
  no_read_failed (Ok done) m count first at old new failed ran none = (λ is. absurd cc, λ is. absurd cc)
  no_read_failed (Err (fault.Refused line refusal)) m count first at old new failed ran none = (λ is. absurd cc, λ is. absurd cc)
  no_read_failed (Err fault.Read) m count first at old new failed ran none = absurd ran
  no_read_failed (Err fault.Write) m count first at old new failed ran none = (λ is. absurd cc, λ is. absurd cc)
  no_read_failed (Err fault.Memory) m count first at old new failed ran none = (λ is. absurd cc, λ is. absurd cc)

module _ {A S O : Type 0} (lang : Language S) (ends : S → ℕ → O → Type 0) (stands_for : A → S → Type 0) (texts : Texts S) where
  -- with a plant
  pub stops_with : (e : SceneFault) (r : A) (n : ℕ) (k : Refusal) (at : Option S) (o0 o1 o2 : Option (List ℕ)) → IsAt stands_for (Some r) at
      → ((x : S) → stands_for r x → Appends o0 o1 (texts.closing x)) → WroteRefusal e n k o1 o2 → WroteStop e n k (closing_of texts at) o0 o2
  stops_with e r n k None o0 o1 o2 at_x wrote refused = absurd at_x
  stops_with e r n k (Some x) o0 o1 o2 at_x wrote refused = stop_then e n k (texts.closing x) o0 o1 o2 (wrote x at_x) refused

  pub fails_with : (f : Failure) (r : A) (n : ℕ) (k : Refusal) (at : Option S) (old new : Option (List ℕ)) → IsAt stands_for (Some r) at
      → ((x : S) → stands_for r x → AppendsPart old new (texts.closing x)) → WroteStop (fault_of f) n k (closing_of texts at) old new
  fails_with f r n k None old new at_x wrote = absurd at_x
  fails_with f r n k (Some x) old new at_x wrote = stop_fails f n k (texts.closing x) old new (wrote x at_x)

  -- ---- a line that is taken, or ends the run

  line_goes : (r : Result O SceneFault) (l first : List ℕ) (ls : List (List ℕ)) (n count : ℕ) (at : Option S) (f : Option A) (o0 o1 o2 : Option (List ℕ))
      → TookTo stands_for texts (step lang n at l) first at f None o0 o1 → RestFor ends texts r (meaning_from lang ls (n + 1) (step lang n at l).scene) count first (step lang n at l).scene o1 o2 → RestFor ends texts r (meaning_from lang (l ∷ ls) n at) count first at o0 o2
  line_goes r l first ls n count at f o0 o1 o2 took tells =
      alike lang ends texts r (meaning_from lang ls (n + 1) (step lang n at l).scene) (meaning_from lang (l ∷ ls) n at) count count first at o0 o2 (sym (meaning_goes lang l ls n at took.refused)) refl
      (rest_on lang ends texts r (meaning_from lang ls (n + 1) (step lang n at l).scene) count first at (step lang n at l).scene o0 o1 o2 took.grew tells)

  -- a line that is refused ends the run
  pub line_stops : (s : Stop) (e : SceneFault) (n : ℕ) (l first : List ℕ) (at : Option S) (f : Option A) (k : Refusal) (o0 o1 o2 : Option (List ℕ))
      → s ≡ Refused k → Took stands_for texts (Err s) (step lang n at l) first at f o0 o1 → ((at : Option S) → IsAt stands_for f at → WroteStop e n k (closing_of texts at) o1 o2) → EndsFor lang ends texts e n l first at o0 o2
  line_stops s e n l first at f k o0 o1 o2 is was wrote =
      let took : TookTo stands_for texts (step lang n at l) first at f (Some k) o0 o1 = subst (λ (s : Stop). Took stands_for texts (Err s) (step lang n at l) first at f o0 o1) is was in
      let here = wrote (step lang n at l).scene took.stands in
      record {
        numbered = of_line e n k (closing_of texts (step lang n at l).scene) o1 o2 here;
        ran = λ ls count. rest_on lang ends texts (Err e) (meaning_from lang (l ∷ ls) n at) count first at (step lang n at l).scene o0 o1 o2 took.grew
            (refused_rest lang ends texts e first (step lang n at l).scene (meaning_from lang (l ∷ ls) n at) count n k o1 o2 (meaning_stops lang l ls n at k took.refused) here);
      }

  -- and so does one in which something fails
  pub line_fails : (stays : Stays lang texts) (s : Stop) (f : Failure) (n : ℕ) (l first : List ℕ) (at : Option S) (is : Option A) (old new : Option (List ℕ))
      → s ≡ Failed f → Took stands_for texts (Err s) (step lang n at l) first at is old new → EndsFor lang ends texts (fault_of f) n l first at old new
  line_fails stays s f n l first at is old new same was =
      let part : TextPart texts first at (step lang n at l).scene old new = subst (λ (s : Stop). Took stands_for texts (Err s) (step lang n at l) first at is old new) same was in
      record {
        numbered = of_failure f n;
        ran = λ ls count. failed_rest lang ends texts f (step lang n at l).scene (meaning_from lang (l ∷ ls) n at) count first at old new part (front_after lang ends texts stays first l ls n at (step lang n at l).refusal refl);
      }

  -- ---- the end of the input

  pub ends_with : (r : A) (o : O) (n count : ℕ) (first : List ℕ) (at : Option S) (old new : Option (List ℕ)) → IsAt stands_for (Some r) at
      → ((x : S) → stands_for r x → ends x count o) → ((x : S) → stands_for r x → Appends old new (texts.end x)) → RestFor ends texts (Ok o) (meaning_at_end n at) count first at old new
  ends_with r o n count first None old new at_x ended wrote = absurd at_x
  ends_with r o n count first (Some x) old new at_x ended wrote = (record { accepted = refl; scene = x; left = refl; ended = ended x at_x }, record { rest = texts.end x; is = refl; wrote = wrote x at_x })

  pub ends_in_part : (f : Failure) (r : A) (n count : ℕ) (first : List ℕ) (at : Option S) (old new : Option (List ℕ)) → IsAt stands_for (Some r) at
      → ((x : S) → stands_for r x → AppendsPart old new (texts.end x)) → RestFor ends texts (Err (fault_of f)) (meaning_at_end n at) count first at old new
  ends_in_part f r n count first None old new at_x wrote = absurd at_x
  ends_in_part failure.Write r n count first (Some x) old new at_x wrote = record { rest = texts.end x; is = refl; wrote = wrote x at_x }
  ends_in_part failure.Memory r n count first (Some x) old new at_x wrote = record { rest = texts.end x; is = refl; wrote = wrote x at_x }

  pub ends_without : (e : SceneFault) (n count : ℕ) (first : List ℕ) (at : Option S) (old new : Option (List ℕ)) → IsAt {A = A} stands_for None at → WroteRefusal e n NoPlant old new → RestFor ends texts (Err e) (meaning_at_end n at) count first at old new
  ends_without e n count first (Some x) old new at_x wrote = absurd at_x
  ends_without e n count first None old new at_x wrote = refused_rest lang ends texts e first None (meaning_at_end n None) count n NoPlant old new refl (stop_alone e n NoPlant old new wrote)

  pub last_goes : (r : Result O SceneFault) (line : List ℕ) (n : ℕ) (first : List ℕ) (at : Option S) (f : Option A) (o0 o1 o2 : Option (List ℕ)) → 0 < length line → HasNoNewline line → 1 ≤ n
      → TookTo stands_for texts (step lang n at line) first at f None o0 o1 → RestFor ends texts r (meaning_at_end (n + 1) (step lang n at line).scene) (n + 1 - 1) first (step lang n at line).scene o1 o2
      → RestFor ends texts r (meaning_from lang (lines line) n at) (n - 1 + length (lines line)) first at o0 o2
  last_goes r line n first at f o0 o1 o2 some whole least took tells =
      let next = (step lang n at line).scene in
      let one = one_line line whole some in
      alike lang ends texts r (meaning_from lang (line ∷ []) n at) (meaning_from lang (lines line) n at) (n + 1 - 1) (n - 1 + length (lines line)) first at o0 o2 (ap (λ ls. meaning_from lang ls n at) (sym one)) (omega (arith, ap length one, least))
      (line_goes r line first [] n (n + 1 - 1) at f o0 o1 o2 took (alike lang ends texts r (meaning_at_end (n + 1) next) (meaning_from lang [] (n + 1) next) (n + 1 - 1) (n + 1 - 1) first next o1 o2 (sym (meaning_ends lang (n + 1) next)) refl tells))
