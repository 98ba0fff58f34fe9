-- How many ports tell a claim.
use Rattle.std.proofs.Common.{rules, ◌≡◌, ◌↔◌, ℕ, ◌+◌, ◌-◌, ◌*◌, ◌<◌, ◌≤◌, nat_lt, Bool, true, false, cond, List, [], ◌∷◌, length, Option, Some, refl, ap, subst, sym, ◌∙◌, arith, inl, inr}
use Rattle.std.proofs.lemmas.Bool.{cases_Bool, both_ways, ltb-true, ltb-false}
use Rattle.std.proofs.lemmas.List.Sums.{sum_by-cons}
use Rattle.irig_time.specs.declared.claim.Claim.{Claim}
use Rattle.irig_port.specs.declared.told.Told.{Told}
use Rattle.irig_port.specs.declared.told.Told.TheVariants as tells
use Rattle.irig_time.specs.Claims.{same_claim}
use Rattle.irig_vote.specs.Vote.{f_of, ports_of, is_told, carriers, first_told, vote_of, is_other, others}
use Rattle.irig_vote.specs.declared.redundancy.Redundancy.{Redundancy}
use Rattle.irig_vote.specs.declared.redundancy.Redundancy.TheVariants.{One, Three, Five}
use Rattle.irig_vote.specs.declared.votes.Tells.{Tells}

pub carriers-cons : (c : Claim) (t : Told) (ts : List Told) → carriers c (t ∷ ts) ≡ cond (is_told c t) 1 0 + carriers c ts
carriers-cons c t ts = sum_by-cons (λ u. cond (is_told c u) 1 0) t ts

others-cons : (c : Claim) (t : Told) (ts : List Told) → others c (t ∷ ts) ≡ cond (is_other c t) 1 0 + others c ts
others-cons c t ts = sum_by-cons (λ u. cond (is_other c u) 1 0) t ts

-- ---- the tests

pub told_is : (c : Claim) (t : Told) → is_told c t ≡ true → t ≡ tells.Claim c
told_is c t h = search rules

pub same_is : (c d : Claim) → same_claim c d ≡ true → c ≡ d
same_is c d h = search rules

pub same_itself : (c : Claim) → same_claim c c ≡ true
same_itself c = search rules

-- ---- two claims share the ports

one_of_two : (c d : Claim) (t : Told) → (c ≡ d → ⊥) → cond (is_told c t) 1 0 + cond (is_told d t) 1 0 ≤ 1
one_of_two c d t differ =
    elim (cases_Bool (is_told c t)) [
      | inl a ↦ elim (cases_Bool (is_told d t)) [
        | inl b ↦ absurd (differ (let p = told_is c t a in let q = told_is d t b in cc))
        | inr b ↦ rw (a, b) (omega arith)
      ]
      | inr a ↦ elim (cases_Bool (is_told d t)) [
        | inl b ↦ rw (a, b) (omega arith)
        | inr b ↦ rw (a, b) (omega arith)
      ]
    ]

pub two_claims : (c d : Claim) (ports : List Told) → (c ≡ d → ⊥) → carriers c ports + carriers d ports ≤ length ports
two_claims c d [] differ = omega arith
two_claims c d (t ∷ ts) differ =
    omega (arith, carriers-cons c t ts, carriers-cons d t ts, one_of_two c d t differ, two_claims c d ts differ)

-- so at most one is told by more than half of them
pub one_claim : (enough : ℕ) (ports : List Told) (c d : Claim) → length ports < 2 * enough → enough ≤ carriers c ports → enough ≤ carriers d ports → c ≡ d
one_claim enough ports c d short h k =
    elim (cases_Bool (same_claim c d)) [
      | inl same ↦ same_is c d same
      | inr other ↦ absurd (omega (arith, two_claims c d ports (λ e. both_ways (same_claim c d) other (subst (λ (x : Claim). same_claim c x ≡ true) e (same_itself c)))))
    ]

pub none_of : (b : Bool) → b ≡ false → ◌≡◌ {A = ℕ} (cond b 1 0) 0
none_of b e = rw e refl

one_of : (b : Bool) → b ≡ true → ◌≡◌ {A = ℕ} (cond b 1 0) 1
one_of b e = rw e refl

many_told : (f n : ℕ) → f < n → nat_lt f n ≡ true
many_told f n more = search rules

-- ---- the first claim that more than f tell

first_many : (f : ℕ) (ports ts : List Told) (c : Claim) → first_told f ports ts ≡ Some c → f < carriers c ports
first_many f ports [] c e = absurd cc
first_many f ports (tells.Claim d ∷ ts) c e =
    elim (cases_Bool (nat_lt f (carriers d ports))) [
      | inl many ↦
          let is : Some d ≡ Some c = rw many at e in
          let same : d ≡ c = cc in
          subst (λ (x : Claim). f < carriers x ports) same (ltb-true f (carriers d ports) many)
      | inr few ↦ first_many f ports ts c (rw few at e)
    ]
first_many f ports (_ ∷ ts) c e = first_many f ports ts c e

many_first : (f : ℕ) (ports ts : List Told) (c : Claim) → length ports ≤ 2 * f + 1 → f < carriers c ports → 0 < carriers c ts → first_told f ports ts ≡ Some c
many_first f ports [] c short many some = absurd (omega arith)
many_first f ports (tells.Claim d ∷ ts) c short many some =
    elim (cases_Bool (nat_lt f (carriers d ports))) [
      | inl enough ↦ rw enough (ap (λ (x : Claim). Some x) (one_claim (f + 1) ports d c (omega arith) (omega (arith, ltb-true f (carriers d ports) enough)) (omega arith)))
      | inr few ↦ rw few (many_first f ports ts c short many
          (elim (cases_Bool (same_claim c d)) [
            | inl same ↦ absurd (let is = same_is c d same in omega (arith, ltb-false f (carriers d ports) few, subst (λ (x : Claim). f < carriers x ports) is many))
            | inr other ↦ omega (arith, carriers-cons c (tells.Claim d) ts, none_of (same_claim c d) other)
          ]))
    ]
many_first f ports (t ∷ ts) c short many some = many_first f ports ts c short many (omega (arith, carriers-cons c t ts))

-- if they are more than half of the ports, it is the one claim that so many tell
pub enough_told : (enough : ℕ) (ports : List Told) (vote : Option Claim) (c : Claim) → length ports < 2 * enough → vote ≡ first_told (enough - 1) ports ports → (vote ≡ Some c) ↔ (enough ≤ carriers c ports)
enough_told enough ports vote c short is =
    (λ e. omega (arith, first_many (enough - 1) ports ports c (sym is ∙ e)), λ h. is ∙ many_first (enough - 1) ports ports c (omega arith) (omega arith) (omega arith))

-- ---- the vote

pub vote_counts : (t : Tells) (r : Redundancy) (c : Claim) → (vote_of t r ≡ Some c) ↔ (f_of r + 1 ≤ carriers c (ports_of t r))
unfolding vote_of
vote_counts t One c = enough_told 1 (ports_of t One) (vote_of t One) c (omega arith) refl
vote_counts t Three c = enough_told 2 (ports_of t Three) (vote_of t Three) c (omega arith) refl
vote_counts t Five c = enough_told 3 (ports_of t Five) (vote_of t Five) c (omega arith) refl

-- the first ports are enough, if they agree
pub two_agree : (t : Tells) (c : Claim) → t.a ≡ tells.Claim c → is_told c t.b ≡ true → Some c ≡ vote_of t Three
unfolding vote_of
two_agree t c a b =
    let ports = ports_of t Three in
    let first : is_told c t.a ≡ true = subst (λ (u : Told). is_told c u ≡ true) (sym a) (same_itself c) in
    let many : nat_lt 1 (carriers c ports) ≡ true = many_told 1 (carriers c ports) (omega (arith, carriers-cons c t.a (t.b ∷ t.c ∷ []), carriers-cons c t.b (t.c ∷ []), one_of (is_told c t.a) first, one_of (is_told c t.b) b)) in
    sym (ap (λ (u : Told). first_told 1 ports (u ∷ t.b ∷ t.c ∷ [])) a ∙ rw many refl)

pub three_agree : (t : Tells) (c : Claim) → t.a ≡ tells.Claim c → is_told c t.b ≡ true → is_told c t.c ≡ true → Some c ≡ vote_of t Five
unfolding vote_of
three_agree t c a b d =
    let ports = ports_of t Five in
    let rest = t.d ∷ t.e ∷ [] in
    let first : is_told c t.a ≡ true = subst (λ (u : Told). is_told c u ≡ true) (sym a) (same_itself c) in
    let many : nat_lt 2 (carriers c ports) ≡ true = many_told 2 (carriers c ports) (omega (arith, carriers-cons c t.a (t.b ∷ t.c ∷ rest), carriers-cons c t.b (t.c ∷ rest), carriers-cons c t.c rest, one_of (is_told c t.a) first, one_of (is_told c t.b) b, one_of (is_told c t.c) d)) in
    sym (ap (λ (u : Told). first_told 2 ports (u ∷ t.b ∷ t.c ∷ rest)) a ∙ rw many refl)

-- ports that tell this claim tell another than any other
carriers-others : (c d : Claim) (ports : List Told) → same_claim c d ≡ false → carriers d ports ≤ others c ports
carriers-others c d [] differ = omega arith
carriers-others c d (t ∷ ts) differ =
    elim (cases_Bool (is_told d t)) [
      | inl told ↦
          let other : is_other c t ≡ true = subst (λ (u : Told). is_other c u ≡ true) (sym (told_is d t told)) (rw differ refl) in
          omega (arith, carriers-cons d t ts, others-cons c t ts, one_of (is_told d t) told, one_of (is_other c t) other, carriers-others c d ts differ)
      | inr silent ↦ omega (arith, carriers-cons d t ts, others-cons c t ts, none_of (is_told d t) silent, carriers-others c d ts differ)
    ]

pub few_tell_others : (t : Tells) (r : Redundancy) (c d : Claim) → others c (ports_of t r) ≤ f_of r → vote_of t r ≡ Some d → d ≡ c
few_tell_others t r c d few e =
    elim (cases_Bool (same_claim c d)) [
      | inl same ↦ sym (same_is c d same)
      | inr differ ↦ absurd (omega (arith, (vote_counts t r d).0 e, carriers-others c d (ports_of t r) differ))
    ]
