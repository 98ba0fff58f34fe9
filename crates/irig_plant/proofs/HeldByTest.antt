-- The function that tells held edges tells what is said of them.
use Rattle.std.specs.Prelude.{◌↔◌, not, ◌&&◌, nat_lt, nat_le}
use Rattle.std.proofs.Common.{◌≡◌, ◌==◌, eqb-true, ltb-true, leb-true, ℕ, zero, suc, ◌+◌, ◌-◌, ◌<◌, ◌≤◌, Bool, true, false, Option, Some, None, refl, sym, ap, ◌∙◌, inl, inr, arith}
use Rattle.std.proofs.lemmas.Bool.{false≢true, cases_Bool, cases_lt, eq-eqb, lt-ltb, le-leb, and_from, and_parts, or_left, or_right, not_from_false}
use Rattle.irig_time.specs.declared.second.UtcSecond.{UtcSecond}
use Rattle.irig_time.specs.Days.{is_month_end}
use Rattle.irig_time.specs.Timelines.{second_at}
use Rattle.irig_plant.specs.Edges.{VotedEdges, IsGuard, HasVote, IsHeld, each_from, one_from, is_58_above, is_guard, has_vote, is_locked_since, is_held}

-- ---- numbers from one on

abbrev Each : ℕ → ℕ → (ℕ → Bool) → Type 0
Each first count test = (i : ℕ) → first ≤ i → i < first + count → test i ≡ true

each_passes : (first count : ℕ) (test : ℕ → Bool) → each_from first count test ≡ true → Each first count test
each_passes first zero test e i from to = absurd (omega (arith, from, to))
each_passes first (suc count) test e i from to =
    let parts = and_parts (each_from first count test) (test (first + count)) e in
    elim (cases_lt i (first + count)) [
      | inl lt ↦ each_passes first count test parts.0 i from lt
      | inr ge ↦ let last : i ≡ first + count = omega (arith, to, ge) in ap test last ∙ parts.1
    ]

each_holds : (first count : ℕ) (test : ℕ → Bool) → Each first count test → each_from first count test ≡ true
each_holds first zero test each = refl
each_holds first (suc count) test each =
    and_from (each_from first count test) (test (first + count)) (each_holds first count test (λ i from to. each i from (omega (arith, to)))) (each (first + count) (omega arith) (omega arith))

record One (first count : ℕ) (test : ℕ → Bool) : Type 0 where
  number : ℕ
  from : first ≤ number
  to : number < first + count
  passes : test number ≡ true

one_found : (first count : ℕ) (test : ℕ → Bool) → one_from first count test ≡ true → One first count test
one_found first zero test e = absurd cc
one_found first (suc count) test e =
    elim (cases_Bool (one_from first count test)) [
      | inl before ↦ let one = one_found first count test before in record { number = one.number; from = one.from; to = omega (arith, one.to); passes = one.passes }
      | inr none ↦ let last : test (first + count) ≡ true = rw none at e in record { number = first + count; from = omega arith; to = omega arith; passes = last }
    ]

one_is : (first count : ℕ) (test : ℕ → Bool) → One first count test → one_from first count test ≡ true
one_is first zero test one = absurd (omega (arith, one.from, one.to))
one_is first (suc count) test one =
    elim (cases_lt one.number (first + count)) [
      | inl lt ↦ or_left (one_from first count test) (test (first + count)) (one_is first count test (record { number = one.number; from = one.from; to = lt; passes = one.passes }))
      | inr ge ↦
          let last : one.number ≡ first + count = omega (arith, one.to, ge) in
          or_right (one_from first count test) (test (first + count)) (sym (ap test last) ∙ one.passes)
    ]

not_true : (b : Bool) → not b ≡ true → b ≡ false
not_true true e = absurd cc
not_true false e = refl

-- ---- the guard

module _ (x : VotedEdges) where
  unheard : (before : ℕ) → Each (before - 56) (suc before - (before - 56)) (λ i. not (x.voted i)) → (i : ℕ) → suc before ≤ i + 57 → i < suc before → x.voted i ≡ false
  unheard before each i from to = not_true (x.voted i) (each i (omega (arith, from)) (omega (arith, from, to)))

  guard_of : (before : ℕ) (o : Option UtcSecond) → second_at x.times before ≡ o → is_58_above x.table o ≡ true → x.voted (suc before) ≡ false
      → Each (before - 56) (suc before - (before - 56)) (λ i. not (x.voted i)) → IsGuard x (suc before)
  guard_of before None is above unvoted each = absurd cc
  guard_of before (Some u) is above unvoted each =
      let tests = and_parts ((u.sod == 86398) && is_month_end u.day) (nat_lt x.table.until u.day) above in
      let ends = and_parts (u.sod == 86398) (is_month_end u.day) tests.0 in
      record {
        before = before;
        is_before = omega arith;
        second = u;
        at = is;
        at_58 = eqb-true u.sod 86398 ends.0;
        at_month_end = ends.1;
        above = ltb-true x.table.until u.day tests.1;
        unvoted = unvoted;
        unheard = unheard before each;
      }

  guard_found : (j : ℕ) → is_guard x j ≡ true → IsGuard x j
  guard_found zero e = absurd cc
  guard_found (suc before) e =
      let above : Bool = is_58_above x.table (second_at x.times before) in
      let each : Bool = each_from (before - 56) (suc before - (before - 56)) (λ i. not (x.voted i)) in
      let parts = and_parts (above && each) (not (x.voted (suc before))) e in
      let tests = and_parts above each parts.0 in
      guard_of before (second_at x.times before) refl tests.0 (not_true (x.voted (suc before)) parts.1) (each_passes (before - 56) (suc before - (before - 56)) (λ i. not (x.voted i)) tests.1)

  guard_tested : (j : ℕ) → IsGuard x j → is_guard x j ≡ true
  guard_tested zero g = absurd (omega (arith, g.is_before))
  guard_tested (suc before) g =
      let here : g.before ≡ before = omega (arith, g.is_before) in
      let u : UtcSecond = g.second in
      let at : second_at x.times before ≡ Some u = ap (second_at x.times) (sym here) ∙ g.at in
      let ends = and_from (u.sod == 86398) (is_month_end u.day) (eq-eqb u.sod 86398 g.at_58) g.at_month_end in
      let above = and_from ((u.sod == 86398) && is_month_end u.day) (nat_lt x.table.until u.day) ends (lt-ltb x.table.until u.day g.above) in
      let each = each_holds (before - 56) (suc before - (before - 56)) (λ i. not (x.voted i)) (λ i from to. not_from_false (x.voted i) (g.unheard i (omega (arith, from)) (omega (arith, from, to)))) in
      and_from _ _ (and_from _ _ (ap (is_58_above x.table) at ∙ above) each) (not_from_false (x.voted (suc before)) g.unvoted)

  unguarded : (j : ℕ) → (not (is_guard x j) ≡ true) ↔ (IsGuard x j → ⊥)
  unguarded j = (
    λ e g. false≢true (sym (not_true (is_guard x j) e) ∙ guard_tested j g),
    λ none. elim (cases_Bool (is_guard x j)) [ inl is ↦ absurd (none (guard_found j is)) | inr is_not ↦ not_from_false (is_guard x j) is_not ],
  )

  -- ---- votes

  vote_is : (m j limit : ℕ) → (has_vote x m j limit ≡ true) ↔ HasVote x m j limit
  vote_is m j limit = (found, tested)
    where
      test : ℕ → Bool
      test i = nat_le j (i + limit) && x.voted i

      found : has_vote x m j limit ≡ true → HasVote x m j limit
      found e =
          let one = one_found m (suc j - m) test e in
          let parts = and_parts (nat_le j (one.number + limit)) (x.voted one.number) one.passes in
          record { edge = one.number; from = one.from; to = omega (arith, one.from, one.to); near = leb-true j (one.number + limit) parts.0; is = parts.1 }

      tested : HasVote x m j limit → has_vote x m j limit ≡ true
      tested h =
          one_is m (suc j - m) test (record {
            number = h.edge;
            from = h.from;
            to = omega (arith, h.from, h.to);
            passes = and_from (nat_le j (h.edge + limit)) (x.voted h.edge) (le-leb j (h.edge + limit) h.near) h.is;
          })

  -- ---- held edges

  module _ (n lock : ℕ) where
    abbrev count : ℕ
    count = x.reader_rules.lock_after

    abbrev first : ℕ
    first = suc lock - count

    record IsLockedSince : Type 0 where
      enough : count ≤ lock
      votes : Each first count x.voted
      unbroken : Each first (n - first) (λ i. not (x.restarted i))
      fresh : Each lock (suc n - lock) (λ j. has_vote x lock j x.reader_rules.holdover)
      unguarded_since : Each (suc lock) (n - lock) (λ j. not (is_guard x j))

    locked_found : is_locked_since x n lock ≡ true → IsLockedSince
    locked_found e =
        let d = and_parts _ _ e in
        let c = and_parts _ _ d.0 in
        let b = and_parts _ _ c.0 in
        let a = and_parts _ _ b.0 in
        record {
          enough = leb-true count lock a.0;
          votes = each_passes first count x.voted a.1;
          unbroken = each_passes first (n - first) (λ i. not (x.restarted i)) b.1;
          fresh = each_passes lock (suc n - lock) (λ j. has_vote x lock j x.reader_rules.holdover) c.1;
          unguarded_since = each_passes (suc lock) (n - lock) (λ j. not (is_guard x j)) d.1;
        }

    locked_tested : IsLockedSince → is_locked_since x n lock ≡ true
    locked_tested h =
        let a = and_from _ _ (le-leb count lock h.enough) (each_holds first count x.voted h.votes) in
        let b = and_from _ _ a (each_holds first (n - first) (λ i. not (x.restarted i)) h.unbroken) in
        let c = and_from _ _ b (each_holds lock (suc n - lock) (λ j. has_vote x lock j x.reader_rules.holdover) h.fresh) in
        and_from _ _ c (each_holds (suc lock) (n - lock) (λ j. not (is_guard x j)) h.unguarded_since)

  held_found : (n : ℕ) → is_held x n ≡ true → IsHeld x n
  held_found n e =
      let one = one_found 0 (suc n) (is_locked_since x n) e in
      let h = locked_found n one.number one.passes in
      record {
        lock = one.number;
        enough = h.enough;
        before = omega (arith, one.to);
        votes = λ i from to. h.votes i (omega (arith, from)) (omega (arith, from, to, h.enough));
        unbroken = λ i from to. not_true (x.restarted i) (h.unbroken i (omega (arith, from)) (omega (arith, from, to)));
        fresh = λ j from to. (vote_is one.number j x.reader_rules.holdover).0 (h.fresh j from (omega (arith, from, to)));
        unguarded = λ j from to. (unguarded j).0 (h.unguarded_since j (omega (arith, from)) (omega (arith, from, to)));
      }

  held_tested : (n : ℕ) → IsHeld x n → is_held x n ≡ true
  held_tested n h =
      one_is 0 (suc n) (is_locked_since x n) (record {
        number = h.lock;
        from = omega arith;
        to = omega (arith, h.before);
        passes = locked_tested n h.lock (record {
          enough = h.enough;
          votes = λ i from to. h.votes i (omega (arith, from, h.enough)) (omega (arith, from, to, h.enough));
          unbroken = λ i from to. not_from_false (x.restarted i) (h.unbroken i (omega (arith, from, h.enough)) (omega (arith, from, to)));
          fresh = λ j from to. (vote_is h.lock j x.reader_rules.holdover).1 (h.fresh j from (omega (arith, from, to)));
          unguarded_since = λ j from to. (unguarded j).1 (h.unguarded j (omega (arith, from)) (omega (arith, from, to)));
        });
      })

  pub held_is : (n : ℕ) → (is_held x n ≡ true) ↔ IsHeld x n
  held_is n = (held_found n, held_tested n)
