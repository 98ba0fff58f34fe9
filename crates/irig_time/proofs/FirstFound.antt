-- The first in a list that passes a test, if the list is made of parts.
use Rattle.std.proofs.Common.{◌≡◌, ◌↔◌, ℕ, zero, suc, ◌+◌, ◌<◌, ◌≤◌, Bool, true, false, List, [], ◌∷◌, ◌++◌, map, Option, Some, None, cond, refl, sym, ap, subst, ◌∙◌, arith, ◌⊎◌, inl, inr}
use Rattle.std.specs.List.{find, flat_map, range_with_len}
use Rattle.std.proofs.lemmas.Bool.{both_ways}

-- it is one of these
abbrev pub IsIn : {X : Type 0} → X → List X → Type 0
IsIn x [] = ⊥
IsIn x (y ∷ ys) = (x ≡ y) ⊎ IsIn x ys

in_first : {X : Type 0} → (x : X) (xs ys : List X) → IsIn x xs → IsIn x (xs ++ ys)
in_first x [] ys h = absurd h
in_first x (y ∷ xs) ys (inl e) = inl e
in_first x (y ∷ xs) ys (inr h) = inr (in_first x xs ys h)

in_second : {X : Type 0} → (x : X) (xs ys : List X) → IsIn x ys → IsIn x (xs ++ ys)
in_second x [] ys h = h
in_second x (y ∷ xs) ys h = inr (in_second x xs ys h)

in_either : {X : Type 0} → (x : X) (xs ys : List X) → IsIn x (xs ++ ys) → IsIn x xs ⊎ IsIn x ys
in_either x [] ys h = inr h
in_either x (y ∷ xs) ys (inl e) = inl (inl e)
in_either x (y ∷ xs) ys (inr h) = elim (in_either x xs ys h) [ inl k ↦ inl (inr k) | inr k ↦ inr k ]

pub in_map : {A X : Type 0} (f : A → X) → (a : A) (xs : List A) → IsIn a xs → IsIn (f a) (map f xs)
in_map f a [] h = absurd h
in_map f a (b ∷ xs) (inl e) = inl (ap f e)
in_map f a (b ∷ xs) (inr h) = inr (in_map f a xs h)

pub from_map : {A X : Type 0} (f : A → X) → (x : X) (xs : List A) → IsIn x (map f xs) → (a : A) × IsIn a xs × (x ≡ f a)
from_map f x [] h = absurd h
from_map f x (b ∷ xs) (inl e) = (b, inl refl, e)
from_map f x (b ∷ xs) (inr h) = let w = from_map f x xs h in (w.0, inr w.1, w.2)

pub in_flat_map : {A X : Type 0} (f : A → List X) → (a : A) (x : X) (xs : List A) → IsIn a xs → IsIn x (f a) → IsIn x (flat_map f xs)
in_flat_map f a x [] h k = absurd h
in_flat_map f a x (b ∷ xs) (inl e) k = in_first x (f b) (flat_map f xs) (subst (λ c. IsIn x (f c)) e k)
in_flat_map f a x (b ∷ xs) (inr h) k = in_second x (f b) (flat_map f xs) (in_flat_map f a x xs h k)

pub from_flat_map : {A X : Type 0} (f : A → List X) → (x : X) (xs : List A) → IsIn x (flat_map f xs) → (a : A) × IsIn a xs × IsIn x (f a)
from_flat_map f x [] h = absurd h
from_flat_map f x (b ∷ xs) h =
    elim (in_either x (f b) (flat_map f xs) h) [
      | inl k ↦ (b, inl refl, k)
      | inr k ↦ let w = from_flat_map f x xs k in (w.0, inr w.1, w.2)
    ]

pub same_or_above : (k a : ℕ) → a ≤ k → (k ≡ a) ⊎ (a < k)
same_or_above zero zero h = inl refl
same_or_above zero (suc a) h = absurd (omega arith)
same_or_above (suc k) zero h = inr (omega arith)
same_or_above (suc k) (suc a) h = elim (same_or_above k a (omega arith)) [ inl e ↦ inl (ap suc e) | inr lt ↦ inr (omega arith) ]

pub in_range : (k a n : ℕ) → a ≤ k → k < a + n → IsIn k (range_with_len a n)
in_range k a zero low high = absurd (omega arith)
in_range k a (suc n) low high = elim (same_or_above k a low) [ inl e ↦ inl e | inr lt ↦ inr (in_range k (a + 1) n (omega arith) (omega arith)) ]

pub from_range : (k a n : ℕ) → IsIn k (range_with_len a n) → (a ≤ k) × (k < a + n)
from_range k a zero h = absurd h
from_range k a (suc n) (inl e) = (omega (arith, e), omega (arith, e))
from_range k a (suc n) (inr h) = let w = from_range k (a + 1) n h in (omega (arith, w.0), omega (arith, w.1))

-- ---- the first one

passed : {X : Type 0} (p : X → Bool) → (x y : X) (xs : List X) (b : Bool) → p x ≡ b → (find p xs ≡ Some y → (p y ≡ true) × IsIn y xs)
    → cond b (Some x) (find p xs) ≡ Some y → (p y ≡ true) × IsIn y (x ∷ xs)
passed p x y xs true e h f = let same : x ≡ y = cc in (subst (λ z. p z ≡ true) same e, inl (sym same))
passed p x y xs false e h f = let k = h f in (k.0, inr k.1)

pub found_passes : {X : Type 0} (p : X → Bool) → (y : X) (xs : List X) → find p xs ≡ Some y → (p y ≡ true) × IsIn y xs
found_passes p y [] f = absurd cc
found_passes p y (x ∷ xs) f = passed p x y xs (p x) refl (found_passes p y xs) f

failed : {X : Type 0} (p : X → Bool) → (x y : X) (xs : List X) (b : Bool) → p x ≡ b → (find p xs ≡ None → IsIn y xs → p y ≡ false)
    → cond b (Some x) (find p xs) ≡ None → IsIn y (x ∷ xs) → p y ≡ false
failed p x y xs true e h f k = absurd cc
failed p x y xs false e h f (inl same) = ap p same ∙ e
failed p x y xs false e h f (inr k) = h f k

none_passes : {X : Type 0} (p : X → Bool) → (y : X) (xs : List X) → find p xs ≡ None → IsIn y xs → p y ≡ false
none_passes p y [] f k = absurd k
none_passes p y (x ∷ xs) f k = failed p x y xs (p x) refl (none_passes p y xs) f k

-- what is found fits: a list that finds nothing has none that passes
fitting : {X : Type 0} (p : X → Bool) → (xs : List X) (r o : Option X) → find p xs ≡ r → ((x : X) → (o ≡ Some x) ↔ ((p x ≡ true) × IsIn x xs)) → o ≡ r
fitting p xs (Some y) o f h = (h y).1 (found_passes p y xs f)
fitting p xs None None f h = refl
fitting p xs None (Some x) f h = let k = (h x).0 refl in absurd (both_ways (p x) (none_passes p x xs f k.1) k.0)

-- what is told of exactly those in the list that pass, is the first that passes
pub first_is : {X : Type 0} (p : X → Bool) → (xs : List X) (o : Option X) → ((x : X) → (o ≡ Some x) ↔ ((p x ≡ true) × IsIn x xs)) → o ≡ find p xs
first_is p xs o h = fitting p xs (find p xs) o refl h
