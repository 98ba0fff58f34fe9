-- Held edges and runs of voted edges, one edge on.
use Rattle.std.proofs.Common.{◌≡◌, ℕ, ◌+◌, ◌-◌, ◌<◌, ◌≤◌, true, false, ◌⊎◌, inl, inr, sym, ◌∙◌, ap, subst, arith}
use Rattle.std.proofs.lemmas.Bool.{false≢true, cases_lt, cases_eq}
use Rattle.irig_plant.specs.Edges.{VotedEdges, IsGuard, HasVote, IsHeld, IsRun, IsLongestRun, IsLastVote}

-- an edge up to the next one is one up to this one, or the next one
up_to : (j n : ℕ) → j ≤ n + 1 → (j ≤ n) ⊎ (j ≡ n + 1)
up_to j n h = elim (cases_lt n j) [ inl a ↦ inr (omega arith) | inr a ↦ inl a ]

module _ (x : VotedEdges) where
  -- a lock that was reached before the edge was one at the edge before
  pub held_back : (n : ℕ) → 1 ≤ x.reader_rules.lock_after → (h : IsHeld x (n + 1)) → h.lock ≤ n → IsHeld x n × (x.restarted n ≡ false)
  held_back n some h early = (
    record {
      lock = h.lock;
      enough = h.enough;
      before = early;
      votes = h.votes;
      unbroken = λ i a b. h.unbroken i a (omega arith);
      fresh = λ j a b. h.fresh j a (omega arith);
      unguarded = λ j a b. h.unguarded j a (omega arith);
    },
    h.unbroken n (omega arith) (omega arith),
  )

  lock_is_voted : (n : ℕ) → 1 ≤ x.reader_rules.lock_after → (h : IsHeld x n) → x.voted h.lock ≡ true
  lock_is_voted n some h = h.votes h.lock (omega arith) (omega arith)

  -- if the edge isn't voted, the lock is older
  pub lock_is_before : (n : ℕ) → 1 ≤ x.reader_rules.lock_after → x.voted (n + 1) ≡ false → (h : IsHeld x (n + 1)) → h.lock ≤ n
  lock_is_before n some v h =
      elim (up_to h.lock n h.before) [
        | inl a ↦ a
        | inr a ↦ absurd (false≢true (sym v ∙ ap x.voted (sym a) ∙ lock_is_voted (n + 1) some h))
      ]

  -- a lock at the edge itself is a run
  pub run_of_lock : (n : ℕ) → 1 ≤ x.reader_rules.lock_after → (h : IsHeld x n) → h.lock ≡ n → IsRun x n x.reader_rules.lock_after
  run_of_lock n some h e = record {
    some = some;
    fits = omega (arith, h.enough);
    votes = λ i a b. h.votes i (omega arith) (omega arith);
    unbroken = λ i a b. h.unbroken i (omega arith) b;
  }

  pub lock_of_run : (n : ℕ) → IsRun x n x.reader_rules.lock_after → IsHeld x n
  lock_of_run n r = record {
    lock = n;
    enough = r.fits;
    before = omega arith;
    votes = r.votes;
    unbroken = r.unbroken;
    fresh = λ j a b. record { edge = n; from = omega arith; to = a; near = omega arith; is = r.votes n (omega (arith, r.some)) (omega arith) };
    unguarded = λ j a b. absurd (omega arith);
  }

  held_on : (n : ℕ) → (h : IsHeld x n) → x.restarted n ≡ false → HasVote x h.lock (n + 1) x.reader_rules.holdover → ¬ IsGuard x (n + 1) → IsHeld x (n + 1)
  held_on n h r f g = record {
    lock = h.lock;
    enough = h.enough;
    before = omega (arith, h.before);
    votes = h.votes;
    unbroken = λ i a b. elim (cases_eq i n) [ inl c ↦ ap x.restarted c ∙ r | inr c ↦ h.unbroken i a (omega (arith, b, c)) ];
    fresh = λ j a b. elim (up_to j n b) [
      | inl c ↦ h.fresh j a c
      | inr c ↦ subst (λ i. HasVote x h.lock i x.reader_rules.holdover) (sym c) f
    ];
    unguarded = λ j a b. elim (up_to j n b) [
      | inl c ↦ h.unguarded j a c
      | inr c ↦ λ q. g (subst (IsGuard x) c q)
    ];
  }

  pub held_voted : (n : ℕ) → (h : IsHeld x n) → x.restarted n ≡ false → x.voted (n + 1) ≡ true → IsHeld x (n + 1)
  held_voted n h r v =
      held_on n h r (record { edge = n + 1; from = omega (arith, h.before); to = omega arith; near = omega arith; is = v }) (λ q. false≢true (sym q.unvoted ∙ v))

  -- a lock isn't reached after the last vote
  lock_is_early : (n age : ℕ) → 1 ≤ x.reader_rules.lock_after → (h : IsHeld x n) → (l : IsLastVote x n age) → h.lock ≤ l.edge
  lock_is_early n age some h l =
      elim (cases_lt l.edge h.lock) [
        | inl a ↦ absurd (false≢true (sym (l.none_since h.lock a h.before) ∙ lock_is_voted n some h))
        | inr a ↦ a
      ]

  pub held_alone : (n age : ℕ) → 1 ≤ x.reader_rules.lock_after → IsHeld x n → IsLastVote x n age → x.restarted n ≡ false → age < x.reader_rules.holdover → ¬ IsGuard x (n + 1) → IsHeld x (n + 1)
  held_alone n age some h l r young g =
      held_on n h r (record { edge = l.edge; from = lock_is_early n age some h l; to = omega (arith, l.is_at); near = omega (arith, l.is_at); is = l.is }) g

  -- past the holdover
  pub not_held_late : (n age : ℕ) → IsLastVote x n age → x.reader_rules.holdover ≤ age → x.voted (n + 1) ≡ false → ¬ IsHeld x (n + 1)
  not_held_late n age l old v h =
      let f : HasVote x h.lock (n + 1) x.reader_rules.holdover = h.fresh (n + 1) h.before (omega arith) in
      elim (up_to f.edge n f.to) [
        | inl b ↦ elim (cases_lt l.edge f.edge) [
          | inl c ↦ false≢true (sym (l.none_since f.edge c b) ∙ f.is)
          | inr c ↦ omega (arith, l.is_at, f.near)
        ]
        | inr b ↦ false≢true (sym v ∙ ap x.voted (sym b) ∙ f.is)
      ]

  pub not_held_guard : (n : ℕ) → 1 ≤ x.reader_rules.lock_after → IsGuard x (n + 1) → ¬ IsHeld x (n + 1)
  not_held_guard n some g h = h.unguarded (n + 1) (let early : h.lock ≤ n = lock_is_before n some g.unvoted h in omega arith) (omega arith) g

  -- ---- runs

  -- a run is one shorter an edge before
  run_back : (n k : ℕ) → 2 ≤ k → IsRun x (n + 1) k → IsRun x n (k - 1) × (x.restarted n ≡ false)
  run_back n k two r = (
    record {
      some = omega arith;
      fits = omega (arith, r.fits);
      votes = λ i a b. r.votes i (omega arith) (omega arith);
      unbroken = λ i a b. r.unbroken i (omega arith) (omega arith);
    },
    r.unbroken n (omega arith) (omega arith),
  )

  run_one : (n : ℕ) → x.voted (n + 1) ≡ true → IsRun x (n + 1) 1
  run_one n v = record {
    some = omega arith;
    fits = omega arith;
    votes = λ i a b. let e : i ≡ n + 1 = omega arith in ap x.voted e ∙ v;
    unbroken = λ i a b. absurd (omega arith);
  }

  run_on : (n k : ℕ) → IsRun x n k → x.restarted n ≡ false → x.voted (n + 1) ≡ true → IsRun x (n + 1) (k + 1)
  run_on n k r q v = record {
    some = omega arith;
    fits = omega (arith, r.fits);
    votes = λ i a b. elim (up_to i n b) [ inl c ↦ r.votes i (omega arith) c | inr c ↦ ap x.voted c ∙ v ];
    unbroken = λ i a b. elim (cases_eq i n) [ inl c ↦ ap x.restarted c ∙ q | inr c ↦ r.unbroken i (omega arith) (omega (arith, b, c)) ];
  }

  -- the first voted edge of a run
  pub first_run : (n : ℕ) → (x.voted n ≡ true → x.restarted n ≡ false → ⊥) → x.voted (n + 1) ≡ true → IsLongestRun x (n + 1) 1
  first_run n f v = record {
    run = run_one n v;
    longest = λ j r. elim (cases_lt 1 j) [
      | inl two ↦ let p : IsRun x n (j - 1) × (x.restarted n ≡ false) = run_back n j two r in absurd (f (p.0.votes n (omega arith) (omega arith)) p.1)
      | inr one ↦ one
    ];
  }

  -- and a further one
  pub next_run : (n k : ℕ) → IsLongestRun x n k → x.restarted n ≡ false → x.voted (n + 1) ≡ true → IsLongestRun x (n + 1) (k + 1)
  next_run n k r q v = record {
    run = run_on n k r.run q v;
    longest = λ j s. elim (cases_lt 1 j) [
      | inl two ↦ let p : IsRun x n (j - 1) × (x.restarted n ≡ false) = run_back n j two s in let m : j - 1 ≤ k = r.longest (j - 1) p.0 in omega (arith, m)
      | inr one ↦ omega arith
    ];
  }

  -- ---- the last voted edge

  pub now_last : (n : ℕ) → x.voted n ≡ true → IsLastVote x n 0
  now_last n v = record { edge = n; is_at = omega arith; is = v; none_since = λ j a b. absurd (omega arith) }

  pub older_last : (n age : ℕ) → IsLastVote x n age → x.voted (n + 1) ≡ false → IsLastVote x (n + 1) (age + 1)
  older_last n age l v = record {
    edge = l.edge;
    is_at = omega (arith, l.is_at);
    is = l.is;
    none_since = λ j a b. elim (up_to j n b) [
      | inl c ↦ l.none_since j a c
      | inr c ↦ ap x.voted c ∙ v
    ];
  }
