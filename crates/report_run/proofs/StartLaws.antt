-- What is noted where lines begin, and what a listener heard when a run ends.
use Rattle.std.proofs.Common.{◌≡◌, ℕ, ◌+◌, Bool, true, List, [], ◌∷◌, ◌++◌, inl, inr, Option, Some, None, Result, Ok, Err, refl, ap, sym, subst, ◌∙◌, append-nil}
use Rattle.text_faults.specs.declared.refusal.Refusal.{Refusal}
use Rattle.report_run.specs.declared.fault.SceneFault.{SceneFault}
use Rattle.report_run.specs.declared.fault.SceneFault.TheVariants.{Refused, Read, Write, Memory}
use Rattle.report_run.specs.Lines.{lines}
use Rattle.report_run.specs.Meanings.{Language, Step, step, Meaning, meaning_from}
use Rattle.report_run.specs.declared.stop.Stop.{Stop}
use Rattle.report_run.specs.declared.stop.Stop.TheVariants as stop
use Rattle.report_run.specs.declared.stop.Failure.{Failure}
use Rattle.report_run.specs.declared.stop.Failure.TheVariants as failure
use Rattle.report_run.specs.Faults.{fault_of}
use Rattle.report_run.specs.Texts.{Texts}
use Rattle.report_run.specs.Runs.{IsAt, IsFirst, Took, TookTo, LeavesFor, HasHeard, HeardFor}
use Rattle.report_run.specs.Starts.{entry_count, noted_at, unless_over, starts_from}
use Rattle.report_run.proofs.LineLaws.{no_line}
use Rattle.report_run.proofs.StepLaws.{meaning_goes, meaning_stops, meaning_ends}

-- ---- what is noted

module _ {S : Type 0} (lang : Language S) (entries : S → ℕ) (counts : Bool) where
  pub starts_goes : (l : List ℕ) (ls : List (List ℕ)) (n : ℕ) (at : Option S) → (step lang n at l).refusal ≡ None → starts_from lang entries counts (l ∷ ls) n at ≡ noted_at entries counts at ++ starts_from lang entries counts ls (n + 1) (step lang n at l).scene
  unfolding starts_from
  starts_goes l ls n at h = ap (λ k. noted_at entries counts at ++ unless_over k (starts_from lang entries counts ls (n + 1) (step lang n at l).scene)) h

  starts_stops : (l : List ℕ) (ls : List (List ℕ)) (n : ℕ) (at : Option S) (k : Refusal) → (step lang n at l).refusal ≡ Some k → starts_from lang entries counts (l ∷ ls) n at ≡ noted_at entries counts at
  unfolding starts_from
  starts_stops l ls n at k h = ap (λ k. noted_at entries counts at ++ unless_over k (starts_from lang entries counts ls (n + 1) (step lang n at l).scene)) h ∙ append-nil (noted_at entries counts at)

  starts_none : (n : ℕ) (at : Option S) → starts_from lang entries counts [] n at ≡ []
  unfolding starts_from
  starts_none n at = refl

  starts_one : (l : List ℕ) (n : ℕ) (at : Option S) → (step lang n at l).refusal ≡ None → starts_from lang entries counts (l ∷ []) n at ≡ noted_at entries counts at
  starts_one l n at h = starts_goes l [] n at h ∙ ap (λ (t : List ℕ). noted_at entries counts at ++ t) (starts_none (n + 1) (step lang n at l).scene) ∙ append-nil (noted_at entries counts at)

-- ---- what was heard

-- a line is as good as the first, whatever it comes after
pub any_first : {S : Type 0} (at : Option S) (l : List ℕ) → IsFirst at l l
any_first None l = λ full. refl
any_first (Some x) l = tt

ended_scene : {S : Type 0} (lang : Language S) (n : ℕ) (at : Option S) → (meaning_from lang [] n at).scene ≡ at
ended_scene {S = S} lang n None = ap (λ (m : Meaning S). m.scene) (meaning_ends lang n None)
ended_scene {S = S} lang n (Some x) = ap (λ (m : Meaning S). m.scene) (meaning_ends lang n (Some x))

module _ {A S : Type 0} (lang : Language S) (stands_for : A → S → Type 0) where
  pub leaves_at : (e : SceneFault) (p : Option A) (s : Step S) (k : Refusal) → s.refusal ≡ Some k → IsAt stands_for p s.scene → LeavesFor stands_for e p s
  leaves_at (Refused line refusal) p s k refused stands = record { refusal = k; refused = refused; stands = stands }
  leaves_at Read p s k refused stands = tt
  leaves_at Write p s k refused stands = tt
  leaves_at Memory p s k refused stands = tt

  -- a line that is refused
  pub leaves_refused : (texts : Texts S) (e : SceneFault) (n : ℕ) (l : List ℕ) (at : Option S) (is : Option A) (s : Stop) (k : Refusal) (old new : Option (List ℕ)) → s ≡ stop.Refused k
      → Took stands_for texts (Err s) (step lang n at l) l at is old new → LeavesFor stands_for e is (step lang n at l)
  leaves_refused texts e n l at is s k old new same took =
      let to : TookTo stands_for texts (step lang n at l) l at is (Some k) old new = subst (λ (s : Stop). Took stands_for texts (Err s) (step lang n at l) l at is old new) same took in
      leaves_at e is (step lang n at l) k to.refused to.stands

  -- what failed leaves nothing to say
  pub leaves_failed : (f : Failure) (p : Option A) (s : Step S) → LeavesFor stands_for (fault_of f) p s
  leaves_failed failure.Write p s = tt
  leaves_failed failure.Memory p s = tt

module _ {A S : Type 0} (O : Type 0) (lang : Language S) (entries : S → ℕ) (stands_for : A → S → Type 0) (counts : Bool) where
  for_any : (r : Result O SceneFault) (p : Option A) (notes : List ℕ) (ls : List (List ℕ)) (n : ℕ) (at : Option S) → HasHeard lang entries stands_for counts p notes ls n at → HeardFor {O = O} lang entries stands_for counts r p notes ls n at
  for_any (Ok o) p notes ls n at h = h
  for_any (Err (Refused line refusal)) p notes ls n at h = h
  for_any (Err Read) p notes ls n at h = tt
  for_any (Err Write) p notes ls n at h = tt
  for_any (Err Memory) p notes ls n at h = tt

  -- a line was refused
  pub heard_refused : (e : SceneFault) (p : Option A) (l : List ℕ) (ls : List (List ℕ)) (n : ℕ) (at : Option S) → LeavesFor stands_for e p (step lang n at l) → HeardFor {O = O} lang entries stands_for counts (Err e) p (noted_at entries counts at) (l ∷ ls) n at
  heard_refused (Refused line refusal) p l ls n at h = record {
    stands = subst (λ (m : Meaning S). IsAt stands_for p m.scene) (sym (meaning_stops lang l ls n at h.refusal h.refused)) h.stands;
    more = [];
    noted = sym (starts_stops lang entries counts l ls n at h.refusal h.refused) ∙ sym (append-nil (starts_from lang entries counts (l ∷ ls) n at));
    last = inl refl;
  }
  heard_refused Read p l ls n at h = tt
  heard_refused Write p l ls n at h = tt
  heard_refused Memory p l ls n at h = tt

  -- the last line was
  pub heard_last_refused : (e : SceneFault) (p : Option A) (l : List ℕ) (n : ℕ) (at : Option S) → lines l ≡ l ∷ [] → LeavesFor stands_for e p (step lang n at l) → HeardFor {O = O} lang entries stands_for counts (Err e) p (noted_at entries counts at) (lines l) n at
  heard_last_refused e p l n at one h = subst (λ ls. HeardFor {O = O} lang entries stands_for counts (Err e) p (noted_at entries counts at) ls n at) (sym one) (heard_refused e p l [] n at h)

  -- no line was left
  pub heard_none : (r : Result O SceneFault) (p : Option A) (l : List ℕ) (n : ℕ) (at : Option S) → l ≡ [] → IsAt stands_for p at → HeardFor {O = O} lang entries stands_for counts r p (noted_at entries counts at) (lines l) n at
  heard_none r p l n at none stands =
      subst (λ ls. HeardFor {O = O} lang entries stands_for counts r p (noted_at entries counts at) ls n at) (sym (ap lines none ∙ no_line))
      (for_any r p (noted_at entries counts at) [] n at (record {
        stands = subst (IsAt stands_for p) (sym (ended_scene lang n at)) stands;
        more = noted_at entries counts at;
        noted = ap (λ (t : List ℕ). t ++ noted_at entries counts at) (sym (starts_none lang entries counts n at));
        last = inr (ap (noted_at entries counts) (sym (ended_scene lang n at)));
      }))

  -- the last line was taken
  pub heard_last : (r : Result O SceneFault) (p : Option A) (l : List ℕ) (n : ℕ) (at : Option S) → lines l ≡ l ∷ [] → (step lang n at l).refusal ≡ None → IsAt stands_for p (step lang n at l).scene → HeardFor {O = O} lang entries stands_for counts r p (noted_at entries counts at) (lines l) n at
  heard_last r p l n at one taken stands =
      let scene : (meaning_from lang (l ∷ []) n at).scene ≡ (step lang n at l).scene = ap (λ (m : Meaning S). m.scene) (meaning_goes lang l [] n at taken) ∙ ended_scene lang (n + 1) (step lang n at l).scene in
      subst (λ ls. HeardFor {O = O} lang entries stands_for counts r p (noted_at entries counts at) ls n at) (sym one)
      (for_any r p (noted_at entries counts at) (l ∷ []) n at (record {
        stands = subst (IsAt stands_for p) (sym scene) stands;
        more = [];
        noted = sym (starts_one lang entries counts l n at taken) ∙ sym (append-nil (starts_from lang entries counts (l ∷ []) n at));
        last = inl refl;
      }))

-- ---- who is asked

module _ {A S : Type 0} (entries : S → ℕ) (stands_for : A → S → Type 0) (r : Option A) where
  -- so many entries are counted with a plant
  pub counted : (p : A) (at : Option S) (count : ℕ) → r ≡ Some p → IsAt stands_for r at → ((x : S) → stands_for p x → count ≡ entry_count entries (Some x)) → count ≡ entry_count entries at
  counted p None count is stands of = absurd (subst (λ (r : Option A). IsAt stands_for r None) is stands)
  counted p (Some x) count is stands of = of x (subst (λ (r : Option A). IsAt stands_for r (Some x)) is stands)

  -- and none without one
  pub uncounted : (at : Option S) (count : ℕ) → r ≡ None → IsAt stands_for r at → count ≡ 0 → count ≡ entry_count entries at
  uncounted None count is stands none = none
  uncounted (Some x) count is stands none = absurd (subst (λ (r : Option A). IsAt stands_for r (Some x)) is stands)

pub noted : {S : Type 0} (entries : S → ℕ) (counts : Bool) (at : Option S) (count : ℕ) (old new : List ℕ) → counts ≡ true → count ≡ entry_count entries at → new ≡ old ++ count ∷ [] → new ≡ old ++ noted_at entries counts at
noted entries counts at count old new is counted pushed = pushed ∙ ap (λ n. old ++ n ∷ []) counted ∙ ap (λ b. old ++ noted_at entries b at) (sym is)
