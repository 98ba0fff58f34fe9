-- What the numbers of a reader add up to, by 64 bits.
use Rattle.std.proofs.Common.{◌≡◌, ◌<◌, ℕ, ◌+◌, ◌*◌, ◌%◌, ◌-◌, List, [], ◌∷◌, ◌++◌, length, refl, sym, ap, subst, ◌∙◌, arith, length-append}
use Rattle.std.proofs.lemmas.Nat.{mul-mod_second}
use Rattle.c_numbers.specs.declared.table.IrigLeap.{IrigLeap}
use Rattle.c_numbers.specs.declared.reader.IrigReader.{IrigReader}
use Rattle.c_numbers.specs.declared.sums.Sums.{Sums}
use Rattle.c_numbers.specs.CheckWord.{leap_numbers, numbers_of, port_numbers, setup_numbers, state_numbers, table_numbers, total, weighted, AreSumsOf}

-- ---- numbers by their sum and their places

-- a first weight that is w greater makes the sum of the numbers, w times, more
more_weight : (w v : ℕ) (ns : List ℕ) → w * total ns + weighted v ns ≡ weighted (w + v) ns
more_weight w v [] = omega arith
more_weight w v (n ∷ ns) =
    let rest : w * total ns + weighted (v + 2) ns ≡ weighted (w + v + 2) ns = more_weight w (v + 2) ns ∙ ap (λ (x : ℕ). weighted x ns) (same w v) in
    step w v n (total ns) (weighted (v + 2) ns) (weighted (w + v + 2) ns) rest
  where
    same : (w v : ℕ) → w + (v + 2) ≡ w + v + 2
    same w v = omega arith

    step : (w v n s a b : ℕ) → w * s + a ≡ b → w * (n + s) + (v * n + a) ≡ (w + v) * n + b
    step w v n s a b is = grind arith

spread : (w : ℕ) (ns : List ℕ) → w * total ns + weighted 0 ns ≡ weighted w ns
spread w ns = more_weight w 0 ns ∙ ap (λ (x : ℕ). weighted x ns) (zero-more w)
  where
    zero-more : (w : ℕ) → w + 0 ≡ w
    zero-more w = omega arith

-- a first number moves the others by one place
pub first_sums : (s : Sums) (n : ℕ) (ns : List ℕ) → AreSumsOf s ns
    → AreSumsOf (record { sum = (s.sum + n) % 18446744073709551616; places = (s.places + s.sum) % 18446744073709551616 }) (n ∷ ns)
first_sums s n ns h = record {
  sum = plain s.sum (total ns) n h.sum;
  places = moved s.places s.sum (total ns) (weighted 0 ns) (weighted 2 ns) n h.sum h.places (spread 2 ns);
}
  where
    plain : (s t n : ℕ) → s ≡ t % 18446744073709551616 → (s + n) % 18446744073709551616 ≡ (n + t) % 18446744073709551616
    plain s t n is = omega (arith, is)

    moved : (p s t w v n : ℕ) → s ≡ t % 18446744073709551616 → (p * 2) % 18446744073709551616 ≡ w % 18446744073709551616 → 2 * t + w ≡ v
        → (((p + s) % 18446744073709551616) * 2) % 18446744073709551616 ≡ (0 * n + v) % 18446744073709551616
    moved p s t w v n sum places is = omega (arith, sum, places, is)

pub led : {s : Sums} {n m : ℕ} {ns : List ℕ} → n ≡ m → AreSumsOf s (n ∷ ns) → AreSumsOf s (m ∷ ns)
led {s} {n} {m} {ns} same h = subst (λ (k : ℕ). AreSumsOf s (k ∷ ns)) same h

-- by one product
pub by_one_product : (w : ℕ) (s : Sums) (ns : List ℕ) → AreSumsOf s ns
    → ((w * s.sum) % 18446744073709551616 + (s.places * 2) % 18446744073709551616) % 18446744073709551616 ≡ weighted w ns % 18446744073709551616
by_one_product w s ns h =
    rw (h.sum, h.places) (of_rest w (total ns) (weighted 0 ns)) ∙ ap (λ (n : ℕ). n % 18446744073709551616) (spread w ns)
  where
    of_rest : (w p s : ℕ) → ((w * (p % 18446744073709551616)) % 18446744073709551616 + s % 18446744073709551616) % 18446744073709551616 ≡ (w * p + s) % 18446744073709551616
    of_rest w p s = omega (arith, mul-mod_second w p 18446744073709551616)

-- what is added to the one sum to give the other
change_adds : (w p s p2 s2 y z : ℕ) → (p + y) % 18446744073709551616 ≡ p2 % 18446744073709551616 → (s + z) % 18446744073709551616 ≡ s2 % 18446744073709551616
    → (w * p + s + ((w * y) % 18446744073709551616 + z) % 18446744073709551616) % 18446744073709551616 ≡ (w * p2 + s2) % 18446744073709551616
change_adds w p s p2 s2 y z plain more =
    let product : (w * p + w * y) % 18446744073709551616 ≡ (w * p2) % 18446744073709551616 =
    ap (λ (n : ℕ). n % 18446744073709551616) (mul-distrib w p y)
    ∙ (sym (mul-mod_second w (p + y) 18446744073709551616) ∙ (ap (λ (n : ℕ). (w * n) % 18446744073709551616) plain ∙ mul-mod_second w p2 18446744073709551616)) in
    omega (arith, product, more)
  where
    mul-distrib : (w p y : ℕ) → w * p + w * y ≡ w * (p + y)
    mul-distrib w p y = grind arith

-- by how much other numbers add up to more
pub change_is : (w : ℕ) (s u : Sums) (ms ns : List ℕ) → s.places < 18446744073709551616 → AreSumsOf s ms → AreSumsOf u ns
    → (weighted w ms + ((w * ((u.sum + (18446744073709551616 - s.sum)) % 18446744073709551616)) % 18446744073709551616
    + (((u.places + (18446744073709551616 - s.places)) % 18446744073709551616) * 2) % 18446744073709551616) % 18446744073709551616) % 18446744073709551616
    ≡ weighted w ns % 18446744073709551616
change_is w s u ms ns fits was is =
    let y : ℕ = (u.sum + (18446744073709551616 - s.sum)) % 18446744073709551616 in
    let z : ℕ = (((u.places + (18446744073709551616 - s.places)) % 18446744073709551616) * 2) % 18446744073709551616 in
    ap (λ (n : ℕ). (n + ((w * y) % 18446744073709551616 + z) % 18446744073709551616) % 18446744073709551616) (sym (spread w ms))
    ∙ (change_adds w (total ms) (weighted 0 ms) (total ns) (weighted 0 ns) y z (sums s.sum u.sum (total ms) (total ns) was.sum is.sum) (places s.places u.places (weighted 0 ms) (weighted 0 ns) fits was.places is.places)
    ∙ ap (λ (n : ℕ). n % 18446744073709551616) (spread w ns))
  where
    sums : (a b t q : ℕ) → a ≡ t % 18446744073709551616 → b ≡ q % 18446744073709551616
        → (t + (b + (18446744073709551616 - a)) % 18446744073709551616) % 18446744073709551616 ≡ q % 18446744073709551616
    sums a b t q was is = omega (arith, was, is)

    places : (a b t q : ℕ) → a < 18446744073709551616 → (a * 2) % 18446744073709551616 ≡ t % 18446744073709551616 → (b * 2) % 18446744073709551616 ≡ q % 18446744073709551616
        → (t + (((b + (18446744073709551616 - a)) % 18446744073709551616) * 2) % 18446744073709551616) % 18446744073709551616 ≡ q % 18446744073709551616
    places a b t q fits was is = omega (arith, fits, was, is)

-- ---- parts

weighted-append : (w : ℕ) (a b : List ℕ) → weighted w (a ++ b) ≡ weighted w a + weighted (w + 2 * length a) b
weighted-append w [] b =
    let same : w ≡ w + 2 * 0 = omega arith in
    omega (arith, ap (λ (x : ℕ). weighted x b) same)
weighted-append w (n ∷ ns) b =
    let same : w + 2 + 2 * length ns ≡ w + 2 * length (n ∷ ns) = omega arith in
    let rest : weighted (w + 2) (ns ++ b) ≡ weighted (w + 2) ns + weighted (w + 2 + 2 * length ns) b = weighted-append (w + 2) ns b in
    let moved : weighted (w + 2 + 2 * length ns) b ≡ weighted (w + 2 * length (n ∷ ns)) b = ap (λ (x : ℕ). weighted x b) same in
    ap (λ (x : ℕ). w * n + x) (rest ∙ ap (λ (x : ℕ). weighted (w + 2) ns + x) moved) ∙ three (w * n) (weighted (w + 2) ns) (weighted (w + 2 * length (n ∷ ns)) b)
  where
    three : (a c d : ℕ) → a + (c + d) ≡ a + c + d
    three a c d = omega arith

-- the same, if the second weight is known
pub append_at : (w v : ℕ) (a b : List ℕ) → w + 2 * length a ≡ v → weighted w (a ++ b) ≡ weighted w a + weighted v b
append_at w v a b same = weighted-append w a b ∙ ap (λ (x : ℕ). weighted w a + weighted x b) same

pub length-leaps : (ls : List IrigLeap) → length (leap_numbers ls) ≡ 2 * length ls
length-leaps [] = refl
length-leaps (l ∷ ls) = omega (arith, length-leaps ls)

-- what all numbers add up to is what their parts do
pub by_parts : (r : IrigReader) → length r.table.leaps ≡ 64
    → weighted 3 (numbers_of r) ≡ weighted 3 (setup_numbers r.setup) + weighted 19 (table_numbers r.table) + weighted 279 (state_numbers r.state) + weighted 291 (port_numbers r.ports)
by_parts r long =
    let setup = setup_numbers r.setup in
    let table = table_numbers r.table in
    let state = state_numbers r.state in
    let ports = port_numbers r.ports in
    let leaps = length-leaps r.table.leaps in
    let two = length-append setup table in
    let three = length-append (setup ++ table) state in
    append_at 3 291 (setup ++ table ++ state) ports (omega (arith, leaps, long, two, three))
    ∙ ap (λ (n : ℕ). n + weighted 291 ports)
    (append_at 3 279 (setup ++ table) state (omega (arith, leaps, long, two)) ∙ ap (λ (n : ℕ). n + weighted 279 state) (append_at 3 19 setup table (omega arith)))
