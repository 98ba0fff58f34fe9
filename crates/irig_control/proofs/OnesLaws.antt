-- The ones that the parity counts stand between the marker places.
use Rattle.std.proofs.Common.{◌≡◌, ℕ, zero, suc, ◌+◌, ◌≤◌, cond, List, [], ◌∷◌, length, Some, slice_get, take, drop, refl, sym, ◌∙◌, arith, sum_by}
use Rattle.std.specs.List.{range_with_len}
use Rattle.std.proofs.lemmas.List.Sums.{sum_by-cons, sum_by-append}
use Rattle.irig_frame.specs.declared.symbol.Symbol.{Symbol}
use Rattle.irig_frame.specs.Values.{is_one}
use Rattle.irig_control.specs.Parity.{is_counted, ones}

-- 1 if the frame has a one at the element, else 0
abbrev one_at : List Symbol → ℕ → ℕ
one_at s i = cond (is_one (slice_get s i)) 1 0

-- 1 for a one, else 0
abbrev one_of : Symbol → ℕ
one_of x = cond (is_one (Some x)) 1 0

shifted : (x : Symbol) (s : List Symbol) (a n : ℕ) → sum_by (one_at (x ∷ s)) (range_with_len (suc a) n) ≡ sum_by (one_at s) (range_with_len a n)
shifted x s a zero = refl
shifted x s a (suc n) =
    let next : suc a + 1 ≡ suc (a + 1) = omega arith in
    rw (sum_by-cons (one_at (x ∷ s)) (suc a) (range_with_len (suc a + 1) n), sum_by-cons (one_at s) a (range_with_len (a + 1) n), next, shifted x s (a + 1) n) refl

from_front : (s : List Symbol) (n : ℕ) → n ≤ length s → sum_by one_of (take n s) ≡ sum_by (one_at s) (range_with_len 0 n)
from_front s zero h = refl
from_front [] (suc n) h = absurd (omega (arith, h))
from_front (x ∷ s) (suc n) h =
    rw (sum_by-cons one_of x (take n s), sum_by-cons (one_at (x ∷ s)) 0 (range_with_len 1 n), shifted x s 0 n, from_front s n (omega (arith, h))) refl

-- the ones of a slice
in_slice : (s : List Symbol) (a n : ℕ) → a + n ≤ length s → sum_by one_of (take n (drop a s)) ≡ sum_by (one_at s) (range_with_len a n)
in_slice s zero n h = from_front s n (omega (arith, h))
in_slice [] (suc a) n h = absurd (omega (arith, h))
in_slice (x ∷ s) (suc a) n h = in_slice s a n (omega (arith, h)) ∙ sym (shifted x s a n)

abbrev counted : List Symbol → ℕ → ℕ
counted s i = cond (is_counted s i) 1 0

abbrev from : List Symbol → ℕ → ℕ → ℕ
from s a n = sum_by (counted s) (range_with_len a n)

between_markers : (s : List Symbol) → ones s ≡ from s 1 8 + from s 10 9 + from s 20 9 + from s 30 9 + from s 40 9 + from s 50 9 + from s 60 9 + from s 70 6
unfolding ones
between_markers s =
    let a : from s 1 75 ≡ from s 1 8 + from s 9 67 = sum_by-append (counted s) (range_with_len 1 8) (range_with_len 9 67) in
    let b : from s 9 67 ≡ from s 10 9 + from s 19 57 = sum_by-append (counted s) (range_with_len 9 10) (range_with_len 19 57) in
    let c : from s 19 57 ≡ from s 20 9 + from s 29 47 = sum_by-append (counted s) (range_with_len 19 10) (range_with_len 29 47) in
    let d : from s 29 47 ≡ from s 30 9 + from s 39 37 = sum_by-append (counted s) (range_with_len 29 10) (range_with_len 39 37) in
    let e : from s 39 37 ≡ from s 40 9 + from s 49 27 = sum_by-append (counted s) (range_with_len 39 10) (range_with_len 49 27) in
    let f : from s 49 27 ≡ from s 50 9 + from s 59 17 = sum_by-append (counted s) (range_with_len 49 10) (range_with_len 59 17) in
    let g : from s 59 17 ≡ from s 60 9 + from s 70 6 = sum_by-append (counted s) (range_with_len 59 10) (range_with_len 69 7) in
    omega (arith, a, b, c, d, e, f, g)

-- the ones of the slices between the marker places
pub ones_are : (s : List Symbol) → 76 ≤ length s → ones s
    ≡ sum_by one_of (take 8 (drop 1 s)) + sum_by one_of (take 9 (drop 10 s)) + sum_by one_of (take 9 (drop 20 s)) + sum_by one_of (take 9 (drop 30 s))
    + sum_by one_of (take 9 (drop 40 s)) + sum_by one_of (take 9 (drop 50 s)) + sum_by one_of (take 9 (drop 60 s)) + sum_by one_of (take 6 (drop 70 s))
ones_are s h =
    let long : (n : ℕ) → n ≤ 76 → n ≤ length s = λ n le. omega (arith, h, le) in
    rw (
      in_slice s 1 8 (long 9 (omega arith)),
      in_slice s 10 9 (long 19 (omega arith)),
      in_slice s 20 9 (long 29 (omega arith)),
      in_slice s 30 9 (long 39 (omega arith)),
      in_slice s 40 9 (long 49 (omega arith)),
      in_slice s 50 9 (long 59 (omega arith)),
      in_slice s 60 9 (long 69 (omega arith)),
      in_slice s 70 6 (long 76 (omega arith)),
    )
    (between_markers s)
