-- A run in a language that has another within it is a run in that one.
use Rattle.std.proofs.Common.{◌≡◌, ℕ, List, ◌++◌, All, length, Option, Some, None, Result, Ok, Err, refl, ap, sym, subst, ◌∙◌, append_assoc}
use Rattle.std.specs.Io.KnownBytes.{Appends, Consumes}
use Rattle.irig_device.specs.Lines.{HasNoNewline}
use Rattle.irig_device.specs.Watched.{AppendsPart}
use Rattle.report_run.specs.declared.fault.SceneFault.{SceneFault}
use Rattle.report_run.specs.declared.fault.SceneFault.TheVariants.{Refused, Read, Write, Memory}
use Rattle.report_run.specs.Lines.{lines, unlines}
use Rattle.report_run.specs.Meanings.{Language, Refused as RefusedLine, Meaning, meaning, meaning_of}
use Rattle.report_run.specs.Texts.{Texts}
use Rattle.report_run.specs.Runs.{IsDone, StoppedReading, StoppedInLine, read_of, RunFor}
use Rattle.report_run.proofs.LineLaws.{lines_after}
use Rattle.report_run.specs.Sides.{meaning_as}
use Rattle.report_run.specs.Alone.{AnswersAs}
use Rattle.report_run.proofs.FirstLaws.{first_full, BeginBy, first_in_front}
use Rattle.report_run.proofs.WithinLaws.{IsWithin, meaning_within, takes_within}
use Rattle.report_run.proofs.TextLaws.{AreWithin, whole_within, so_far_within}

-- whole lines in front of bytes begin as these do
front_begins : (P : List ℕ → Type 0) (x : List ℕ) (whole : List (List ℕ)) (part rest : List ℕ) → All HasNoNewline whole → x ≡ (unlines whole ++ part) ++ rest → BeginBy P (lines x) → BeginBy P whole
front_begins P x whole part rest lined is h line first =
    let here : lines x ≡ whole ++ lines (part ++ rest) = ap lines (is ∙ append_assoc (unlines whole) part rest) ∙ lines_after whole (part ++ rest) lined in
    h line (ap first_full here ∙ first_in_front whole (lines (part ++ rest)) line first)

-- how a run of the one ends is how one of the other does, as another value
abbrev pub EndsWithin : {S T O P : Type 0} → (S → T) → (O → P) → (S → ℕ → O → Type 0) → (T → ℕ → P → Type 0) → Type 0
EndsWithin {S} {T} {O} {P} f g ends other = (x : S) (n : ℕ) (p : P) → other (f x) n p → (o : O) × (p ≡ g o) × ends x n o

module _ {S T O P : Type 0} (f : S → T) (g : O → P) (ends : S → ℕ → O → Type 0) (other : T → ℕ → P → Type 0) (within : EndsWithin f g ends other) where
  -- a run is done, as one of the other is
  pub record DoneAs (m : Meaning S) (count : ℕ) (p : P) : Type 0 where
    pub outcome : O
    pub is : p ≡ g outcome
    pub done : IsDone ends m count outcome

  done_at : (at : Option S) (k : Option RefusedLine) (count : ℕ) (p : P) → IsDone other (meaning_as f (meaning at k)) count p → DoneAs (meaning at k) count p
  done_at None k count p h = let left = h.left in absurd cc
  done_at (Some x) k count p h =
      let same : h.scene ≡ f x = let left = h.left in cc in
      let by = within x count p (subst (λ y. other y count p) same h.ended) in
      record { outcome = by.0; is = by.1; done = record { accepted = h.accepted; scene = x; left = refl; ended = by.2 } }

  pub done_within : (m : Meaning S) (count : ℕ) (p : P) → IsDone other (meaning_as f m) count p → DoneAs m count p
  done_within m count p h = done_at m.scene m.refused count p h

module _ {S T : Type 0} (f : S → T) (P : List ℕ → Type 0) (a : Language S) (b : Language T) (within : IsWithin f P a b) (t : Texts S) (u : Texts T) (texts : AreWithin f P t u) where
  read_within : (x : List ℕ) (was left old new : Option (List ℕ)) → BeginBy P (lines x) → StoppedReading b u x was left old new → StoppedReading a t x was left old new
  read_within x was left old new h stop =
      let first = front_begins P x stop.whole stop.part stop.rest stop.lined stop.of_bytes h in
      record {
        whole = stop.whole;
        part = stop.part;
        rest = stop.rest;
        lined = stop.lined;
        taken = takes_within f P a b within stop.whole 1 None (λ none. first) stop.taken;
        unlined = stop.unlined;
        of_bytes = stop.of_bytes;
        read = stop.read;
        wrote = subst (Appends old new) (so_far_within f P a b within t u texts stop.whole stop.lined first) stop.wrote;
      }

  line_within : (x : List ℕ) (was left old new : Option (List ℕ)) → BeginBy P (lines x) → StoppedInLine b u x was left old new → StoppedInLine a t x was left old new
  line_within x was left old new h stop =
      let first = front_begins P x stop.whole stop.part stop.rest stop.lined stop.of_bytes h in
      record {
        whole = stop.whole;
        part = stop.part;
        rest = stop.rest;
        lined = stop.lined;
        taken = takes_within f P a b within stop.whole 1 None (λ none. first) stop.taken;
        in_hand = stop.in_hand;
        of_bytes = stop.of_bytes;
        read = stop.read;
        more = stop.more;
        wrote = subst (λ s. Appends old new (s ++ stop.more)) (so_far_within f P a b within t u texts stop.whole stop.lined first) stop.wrote;
      }

  module _ {O Q : Type 0} (g : O → Q) (ends : S → ℕ → O → Type 0) (other : T → ℕ → Q → Type 0) (both : EndsWithin f g ends other) where
    -- so a run of bytes that begin so
    pub run_within : (r : Result Q SceneFault) (x : List ℕ) (was left old new : Option (List ℕ)) → BeginBy P (lines x) → RunFor b other u r x was left old new
        → AnswersAs g r (λ answer. RunFor a ends t answer x was left old new)
    run_within (Ok p) x was left old new h ran =
        let same = meaning_within f P a b within x h in
        let done = done_within f g ends other both (meaning_of a x) (length (lines x)) p (subst (λ (m : Meaning T). IsDone other m (length (lines x)) p) same ran.1) in
        record {
          answer = Ok done.outcome;
          is = ap Ok done.is;
          holds = (subst (Appends old new) (whole_within f P a b within t u texts x h) ran.0, done.done, subst (λ (m : Meaning T). Consumes was left (read_of m.refused x)) same ran.2);
        }
    run_within (Err (Refused line k)) x was left old new h ran =
        let same = meaning_within f P a b within x h in
        record {
          answer = Err (Refused line k);
          is = refl;
          holds = (subst (Appends old new) (whole_within f P a b within t u texts x h) ran.0, sym (ap (λ (m : Meaning T). m.refused) same) ∙ ran.1, subst (λ (m : Meaning T). Consumes was left (read_of m.refused x)) same ran.2);
        }
    run_within (Err Read) x was left old new h ran = record {
      answer = Err Read;
      is = refl;
      holds = (subst (AppendsPart old new) (whole_within f P a b within t u texts x h) ran.0, read_within x was left old new h ran.1);
    }
    run_within (Err Write) x was left old new h ran = record {
      answer = Err Write;
      is = refl;
      holds = (subst (AppendsPart old new) (whole_within f P a b within t u texts x h) ran.0, line_within x was left old new h ran.1);
    }
    run_within (Err Memory) x was left old new h ran = record {
      answer = Err Memory;
      is = refl;
      holds = (subst (AppendsPart old new) (whole_within f P a b within t u texts x h) ran.0, line_within x was left old new h ran.1);
    }
