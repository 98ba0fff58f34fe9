-- What is left of pulses, one step on, and what it shows.
use Rattle.std.proofs.Common.{◌≡◌, ◌∙◌, ℕ, ◌+◌, ◌<◌, ◌≤◌, Bool, true, false, List, [], ◌∷◌, length, take, drop, reverse, get_or, Option, Some, None, slice_set, refl, sym, ap, arith, length-drop}
use Rattle.std.specs.Prelude.{if◌then◌else◌, nat_lt}
use Rattle.std.proofs.lemmas.List.{take_more, drop_more, reverse-append}
use Rattle.std.proofs.lemmas.Bool.{lt-ltb}
use Rattle.irig_frame.specs.declared.symbol.Symbol.{Symbol}
use Rattle.irig_frame.specs.declared.symbol.Symbol.TheVariants.{Marker}
use Rattle.record_pulses.specs.declared.edge.Pulse.{Pulse}
use Rattle.record_short.specs.Seen.{Begun, IsBegunAt, ahead, are_markers, begun_in, behind, newest_first, nothing_shown, begins_by, seen_by, seen_from, seen_in}

pub pick_true : {A : Type 0} (b : Bool) (x y : A) → b ≡ true → (if b then x else y) ≡ x
pick_true true x y e = refl
pick_true false x y e = cc

pub pick_false : {A : Type 0} (b : Bool) (x y : A) → b ≡ false → (if b then x else y) ≡ y
pick_false true x y e = cc
pick_false false x y e = refl

-- the first of those that are left
pub next_is : (xs : List Pulse) (n : ℕ) (d : Pulse) → n < length xs → drop n xs ≡ get_or xs n d ∷ drop (n + 1) xs
next_is xs n d lt = drop_more xs n d lt

-- the last of the first ones
pub last_is : (xs : List Pulse) (n : ℕ) (d : Pulse) → n < length xs
    → newest_first (take (n + 1) xs) ≡ get_or xs n d ∷ newest_first (take n xs)
last_is xs n d lt =
    ap (λ (ys : List Pulse). reverse ys) (take_more xs n d lt)
    ∙ reverse-append (take n xs) (get_or xs n d ∷ [])

-- ---- the two markers

module _ (xs : List Pulse) (n : ℕ) (d : Pulse) (lt : n + 1 < length xs) where
  abbrev pub p : Pulse
  p = get_or xs n d

  abbrev pub q : Pulse
  q = get_or xs (n + 1) d

  low : n < length xs
  low = omega arith

  two_left : drop n xs ≡ p ∷ (q ∷ drop (n + 1 + 1) xs)
  two_left = next_is xs n d low ∙ ap (λ (ys : List Pulse). p ∷ ys) (next_is xs (n + 1) d lt)

  abbrev pub begun : Option Begun
  begun = Some (record { before = p ∷ newest_first (take n xs); marker = q; after = drop (n + 1 + 1) xs })

  pub begun_later : are_markers p q ≡ false
      → begun_in (newest_first (take n xs)) (drop n xs) ≡ begun_in (newest_first (take (n + 1) xs)) (drop (n + 1) xs)
  begun_later is_not =
      ap (λ (ys : List Pulse). begun_in (newest_first (take n xs)) ys) two_left
      ∙ pick_false (are_markers p q) begun (begun_in (p ∷ newest_first (take n xs)) (q ∷ drop (n + 1 + 1) xs)) is_not
      ∙ ap (λ (ys : List Pulse). begun_in ys (q ∷ drop (n + 1 + 1) xs)) (sym (last_is xs n d low))
      ∙ ap (λ (ys : List Pulse). begun_in (newest_first (take (n + 1) xs)) ys) (sym (next_is xs (n + 1) d lt))

  pub begun_here : are_markers p q ≡ true
      → begun_in (newest_first (take n xs)) (drop n xs)
      ≡ Some (record { before = newest_first (take (n + 1) xs); marker = q; after = drop (n + 1 + 1) xs })
  begun_here is_so =
      ap (λ (ys : List Pulse). begun_in (newest_first (take n xs)) ys) two_left
      ∙ pick_true (are_markers p q) begun (begun_in (p ∷ newest_first (take n xs)) (q ∷ drop (n + 1 + 1) xs)) is_so
      ∙ ap (λ (ys : List Pulse). Some (record { before = ys; marker = q; after = drop (n + 1 + 1) xs })) (sym (last_is xs n d low))

short_begins_none : (b xs : List Pulse) → length xs ≤ 1 → begun_in b xs ≡ None
short_begins_none b [] h = refl
short_begins_none b (p ∷ []) h = refl
short_begins_none b (p ∷ (q ∷ xs)) h = absurd (omega arith)

pub none_begins : (b xs : List Pulse) (n : ℕ) → length xs ≤ n + 1 → begun_in b (drop n xs) ≡ None
none_begins b xs n h = short_begins_none b (drop n xs) (omega (arith, length-drop n xs))

-- ---- what is seen

pub seen_is : (xs : List Pulse) (at : ℕ) (m : Pulse) (begins : ℕ) (shown : List Symbol) → (h : IsBegunAt xs at) → m ≡ h.marker
    → m.rise_us < 3600000000 → begins ≡ begins_by 200 m.rise_us (newest_first (take at xs))
    → shown ≡ ahead 200 m.rise_us (drop (at + 1) xs) (behind 200 m.rise_us (newest_first (take at xs)) (slice_set nothing_shown 200 Marker))
    → (if nat_lt begins 3600000000 then Some (record { begins_us = begins; shown = shown }) else None) ≡ seen_in xs
seen_is xs at m begins shown h same early is_begun is =
    let there : Begun = record { before = newest_first (take at xs); marker = m; after = drop (at + 1) xs } in
    let begun : begun_in [] xs ≡ Some there =
    h.begun ∙ ap (λ (k : Pulse). Some (record { before = newest_first (take at xs); marker = k; after = drop (at + 1) xs })) (sym same) in
    ap (λ (s : List Symbol). if nat_lt begins 3600000000 then Some (record { begins_us = begins; shown = s }) else None) is
    ∙ ap (λ (n : ℕ). seen_from n there) is_begun
    ∙ sym (pick_true (nat_lt m.rise_us 3600000000) (seen_from (begins_by 200 m.rise_us (newest_first (take at xs))) there) None (lt-ltb m.rise_us 3600000000 early))
    ∙ ap seen_by (sym begun)
