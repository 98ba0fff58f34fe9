-- One of two plays begins and takes lines as it does alone.
use Rattle.std.proofs.Common.{◌≡◌, ℕ, Bool, true, false, List, ◌++◌, Option, Some, Result, Ok, Err, refl, ap, sym, ◌∙◌, append_assoc, inl, inr}
use Rattle.std.specs.Prelude.{◌⊎◌}
use Rattle.std.proofs.lemmas.List.{append_cancel_left}
use Rattle.report_run.specs.declared.stop.Stop.{Stop}
use Rattle.report_run.specs.declared.stop.Stop.TheVariants.{Refused, Failed}
use Rattle.report_run.specs.Meanings.{Language, Next, step_of_next}
use Rattle.report_run.specs.Texts.{Texts}
use Rattle.report_run.specs.Runs.{TextMore, TextPart, Took, TakesNext, Begins}
use Rattle.report_run.specs.declared.either.Either.{Either}
use Rattle.report_run.specs.declared.either.Either.TheVariants.{First, Second}
use Rattle.report_run.specs.Sides.{given_as, next_as}
use Rattle.report_run.specs.Choice.{either_of, either_texts, StandsForEither}

-- ---- what is said of a scene, behind another first line

module _ {S T : Type 0} (f : S → T) (t : Texts S) (u : Texts T) (said : (x : S) → u.said (f x) ≡ t.said x) where
  same_growth : (first : List ℕ) (x y : S) (text : List ℕ) → t.first first ++ t.said y ≡ (t.first first ++ t.said x) ++ text
      → u.first first ++ u.said (f y) ≡ (u.first first ++ u.said (f x)) ++ text
  same_growth first x y text is =
      let more : t.said y ≡ t.said x ++ text = append_cancel_left (t.first first) (t.said y) (t.said x ++ text) (is ∙ append_assoc (t.first first) (t.said x) text) in
      ap (λ s. u.first first ++ s) (said y ∙ more ∙ ap (λ s. s ++ text) (sym (said x))) ∙ sym (append_assoc (u.first first) (u.said (f x)) text)

  more_as : (first : List ℕ) (x y : S) (old new : Option (List ℕ)) → TextMore t first (Some x) (Some y) old new → TextMore u first (Some (f x)) (Some (f y)) old new
  more_as first x y old new h = record { text = h.text; more = same_growth first x y h.text h.more; wrote = h.wrote }

  part_as : (first : List ℕ) (x y : S) (old new : Option (List ℕ)) → TextPart t first (Some x) (Some y) old new → TextPart u first (Some (f x)) (Some (f y)) old new
  part_as first x y old new h = record { text = h.text; more = same_growth first x y h.text h.more; wrote = h.wrote }

  module _ {A B : Type 0} (stands_for : A → S → Type 0) (other : B → T → Type 0) (is : A) (now : B) (still : (x : S) → stands_for is x → other now (f x)) where
    took_as : (r : Result (Unit {0}) Stop) (next : Next S) (first : List ℕ) (x : S) (old new : Option (List ℕ))
        → Took stands_for t r (step_of_next next) first (Some x) (Some is) old new
        → Took other u r (step_of_next (next_as f next)) first (Some (f x)) (Some now) old new
    took_as (Ok done) next first x old new h = record { refused = h.refused; stands = still next.scene h.stands; grew = more_as first x next.scene old new h.grew }
    took_as (Err (Refused k)) next first x old new h = record { refused = h.refused; stands = still next.scene h.stands; grew = more_as first x next.scene old new h.grew }
    took_as (Err (Failed e)) next first x old new h = part_as first x next.scene old new h

module _ {A B S T : Type 0} (chosen : List ℕ → Bool) (a : Language S) (b : Language T) (stands_for : A → S → Type 0) (other : B → T → Type 0) (t : Texts S) (u : Texts T) where
  -- ---- a further line

  first_took : (was is : A) (line : List ℕ) (r : Result (Unit {0}) Stop) (old new : Option (List ℕ)) → TakesNext a stands_for t was line r is old new
      → (x : S ⊎ T) (first : List ℕ) → StandsForEither stands_for other (First was) x
      → Took (StandsForEither stands_for other) (either_texts chosen t u) r (step_of_next ((either_of chosen a b).next x line)) first (Some x) (Some (First is)) old new
  first_took was is line r old new takes (inl x) first stands =
      took_as inl t (either_texts chosen t u) (λ x. refl) stands_for (StandsForEither stands_for other) is (First is) (λ x h. h) r (a.next x line) first x old new (takes x first stands)
  first_took was is line r old new takes (inr y) first stands = absurd stands

  second_took : (was is : B) (line : List ℕ) (r : Result (Unit {0}) Stop) (old new : Option (List ℕ)) → TakesNext b other u was line r is old new
      → (x : S ⊎ T) (first : List ℕ) → StandsForEither stands_for other (Second was) x
      → Took (StandsForEither stands_for other) (either_texts chosen t u) r (step_of_next ((either_of chosen a b).next x line)) first (Some x) (Some (Second is)) old new
  second_took was is line r old new takes (inl x) first stands = absurd stands
  second_took was is line r old new takes (inr y) first stands =
      took_as inr u (either_texts chosen t u) (λ y. refl) other (StandsForEither stands_for other) is (Second is) (λ y h. h) r (b.next y line) first y old new (takes y first stands)

  pub first_takes : (play now : Either A B) (was is : A) (line : List ℕ) (r : Result (Unit {0}) Stop) (old new : Option (List ℕ)) → play ≡ First was → now ≡ First is
      → TakesNext a stands_for t was line r is old new
      → TakesNext (either_of chosen a b) (StandsForEither stands_for other) (either_texts chosen t u) play line r now old new
  first_takes play now was is line r old new before after takes = rw (before, after) (first_took was is line r old new takes)

  pub second_takes : (play now : Either A B) (was is : B) (line : List ℕ) (r : Result (Unit {0}) Stop) (old new : Option (List ℕ)) → play ≡ Second was → now ≡ Second is
      → TakesNext b other u was line r is old new
      → TakesNext (either_of chosen a b) (StandsForEither stands_for other) (either_texts chosen t u) play line r now old new
  second_takes play now was is line r old new before after takes = rw (before, after) (second_took was is line r old new takes)

  -- ---- the first line

  pub first_begins : (line : List ℕ) (r : Result A Stop) (old new : Option (List ℕ)) → chosen line ≡ false → Begins a stands_for t line r old new
      → Begins (either_of chosen a b) (StandsForEither stands_for other) (either_texts chosen t u) line (given_as First r) old new
  first_begins line (Ok p) old new h (x, is, none, stands, wrote) = rw h (inl x, ap (given_as inl) is, none, stands, wrote)
  first_begins line (Err (Refused k)) old new h begun = rw h (ap (given_as inl) begun.0, begun.1)
  first_begins line (Err (Failed e)) old new h (inl (x, is, none, wrote)) = rw h (inl (inl x, ap (given_as inl) is, none, wrote))
  first_begins line (Err (Failed e)) old new h (inr none) = inr none

  pub second_begins : (line : List ℕ) (r : Result B Stop) (old new : Option (List ℕ)) → chosen line ≡ true → Begins b other u line r old new
      → Begins (either_of chosen a b) (StandsForEither stands_for other) (either_texts chosen t u) line (given_as Second r) old new
  second_begins line (Ok p) old new h (y, is, none, stands, wrote) = rw h (inr y, ap (given_as inr) is, none, stands, wrote)
  second_begins line (Err (Refused k)) old new h begun = rw h (ap (given_as inr) begun.0, begun.1)
  second_begins line (Err (Failed e)) old new h (inl (y, is, none, wrote)) = rw h (inl (inr y, ap (given_as inr) is, none, wrote))
  second_begins line (Err (Failed e)) old new h (inr none) = inr none
