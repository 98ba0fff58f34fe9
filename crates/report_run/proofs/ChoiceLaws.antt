-- Each of two plays is within the choice of both, and so runs as it does alone.
use Rattle.std.proofs.Common.{◌≡◌, ℕ, Bool, true, false, cond, List, [], Option, Result, refl, ap, sym, ◌∙◌, inl, inr}
use Rattle.std.specs.Prelude.{◌⊎◌, unwrap_or}
use Rattle.report_run.specs.declared.fault.SceneFault.{SceneFault}
use Rattle.report_run.specs.Lines.{lines}
use Rattle.report_run.specs.Meanings.{Language, meaning_of}
use Rattle.report_run.specs.Texts.{Texts, whole_text}
use Rattle.report_run.specs.Runs.{RunFor, RanTo}
use Rattle.report_run.specs.declared.either.EitherOutcome.{EitherOutcome}
use Rattle.report_run.specs.declared.either.EitherOutcome.TheVariants.{First, Second}
use Rattle.report_run.specs.Sides.{given_as, meaning_as}
use Rattle.report_run.specs.Choice.{either_of, either_texts, EndsForEither}
use Rattle.report_run.specs.Alone.{chooses, AnswersAs, RanAlone}
use Rattle.report_run.proofs.FirstLaws.{BeginBy}
use Rattle.report_run.proofs.WithinLaws.{IsWithin, meaning_within}
use Rattle.report_run.proofs.TextLaws.{AreWithin, whole_within}
use Rattle.report_run.proofs.EitherRuns.{EndsWithin, run_within}

module _ (chosen : List ℕ → Bool) where
  -- a line that chooses the first play, or the second
  abbrev pub Chooses : Bool → List ℕ → Type 0
  Chooses b line = chosen line ≡ b

  pub begin_so : (x : List ℕ) (b : Bool) → chooses chosen x ≡ b → BeginBy (Chooses b) (lines x)
  begin_so x b h line is = sym (ap (λ found. chosen (unwrap_or found [])) is) ∙ h

module _ {S T : Type 0} (chosen : List ℕ → Bool) (a : Language S) (b : Language T) where
  first_is_within : IsWithin inl (Chooses chosen false) a (either_of chosen a b)
  first_is_within = record {
    begins = λ line h. ap (λ c. cond c (given_as inr (b.begin line)) (given_as inl (a.begin line))) h;
    goes_on = λ x line. refl;
  }

  second_is_within : IsWithin inr (Chooses chosen true) b (either_of chosen a b)
  second_is_within = record {
    begins = λ line h. ap (λ c. cond c (given_as inr (b.begin line)) (given_as inl (a.begin line))) h;
    goes_on = λ y line. refl;
  }

  pub first_means : (x : List ℕ) → chooses chosen x ≡ false → meaning_of (either_of chosen a b) x ≡ meaning_as inl (meaning_of a x)
  first_means x h = meaning_within inl (Chooses chosen false) a (either_of chosen a b) first_is_within x (begin_so chosen x false h)

  pub second_means : (x : List ℕ) → chooses chosen x ≡ true → meaning_of (either_of chosen a b) x ≡ meaning_as inr (meaning_of b x)
  second_means x h = meaning_within inr (Chooses chosen true) b (either_of chosen a b) second_is_within x (begin_so chosen x true h)

  module _ (t : Texts S) (u : Texts T) where
    first_are_within : AreWithin inl (Chooses chosen false) t (either_texts chosen t u)
    first_are_within = record {
      first = λ line h. ap (λ c. cond c (u.first line) (t.first line)) h;
      said = λ x. refl;
      closing = λ x. refl;
      end = λ x. refl;
    }

    second_are_within : AreWithin inr (Chooses chosen true) u (either_texts chosen t u)
    second_are_within = record {
      first = λ line h. ap (λ c. cond c (u.first line) (t.first line)) h;
      said = λ y. refl;
      closing = λ y. refl;
      end = λ y. refl;
    }

    pub first_text : (x : List ℕ) → chooses chosen x ≡ false → whole_text (either_of chosen a b) (either_texts chosen t u) x ≡ whole_text a t x
    first_text x h = whole_within inl (Chooses chosen false) a (either_of chosen a b) first_is_within t (either_texts chosen t u) first_are_within x (begin_so chosen x false h)

    pub second_text : (x : List ℕ) → chooses chosen x ≡ true → whole_text (either_of chosen a b) (either_texts chosen t u) x ≡ whole_text b u x
    second_text x h = whole_within inr (Chooses chosen true) b (either_of chosen a b) second_is_within u (either_texts chosen t u) second_are_within x (begin_so chosen x true h)

    module _ {O P : Type 0} (f : S → ℕ → O → Type 0) (g : T → ℕ → P → Type 0) where
      first_ends : EndsWithin inl First f (EndsForEither f g)
      first_ends x n (First o) h = (o, refl, h)
      first_ends x n (Second p) h = absurd h

      second_ends : EndsWithin inr Second g (EndsForEither f g)
      second_ends y n (First o) h = absurd h
      second_ends y n (Second p) h = (p, refl, h)

      pub first_runs : (r : Result (EitherOutcome O P) SceneFault) (x : List ℕ) (was left old new : Option (List ℕ)) → chooses chosen x ≡ false
          → RunFor (either_of chosen a b) (EndsForEither f g) (either_texts chosen t u) r x was left old new
          → AnswersAs First r (λ answer. RunFor a f t answer x was left old new)
      first_runs r x was left old new h ran =
          run_within inl (Chooses chosen false) a (either_of chosen a b) first_is_within t (either_texts chosen t u) first_are_within First f (EndsForEither f g) first_ends
          r x was left old new (begin_so chosen x false h) ran

      pub second_runs : (r : Result (EitherOutcome O P) SceneFault) (x : List ℕ) (was left old new : Option (List ℕ)) → chooses chosen x ≡ true
          → RunFor (either_of chosen a b) (EndsForEither f g) (either_texts chosen t u) r x was left old new
          → AnswersAs Second r (λ answer. RunFor b g u answer x was left old new)
      second_runs r x was left old new h ran =
          run_within inr (Chooses chosen true) b (either_of chosen a b) second_is_within u (either_texts chosen t u) second_are_within Second g (EndsForEither f g) second_ends
          r x was left old new (begin_so chosen x true h) ran

      pub either_runs_alone : {A : Type 0} (entries : S ⊎ T → ℕ) (stands_for : A → S ⊎ T → Type 0) (counts : Bool) (r : Result (EitherOutcome O P) SceneFault) (player : Option A) (notes : List ℕ) (was left old new : Option (List ℕ))
          → RanTo (either_of chosen a b) (EndsForEither f g) entries stands_for counts (either_texts chosen t u) r player notes was left old new
          → RanAlone chosen a b f g t u r was left old new
      either_runs_alone entries stands_for counts r player notes was left old new h = record {
        bytes = h.bytes;
        of_input = h.of_input;
        first = λ at. first_runs r h.bytes was left old new at h.ran;
        second = λ at. second_runs r h.bytes was left old new at h.ran;
      }
