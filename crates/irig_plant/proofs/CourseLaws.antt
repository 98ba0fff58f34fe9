-- What later events leave as it was: votes, restarts and ticks of a reader up to an edge; and what
-- its votes are.
use Rattle.std.specs.Prelude.{◌==◌, ◌&&◌, is_some}
use Rattle.std.proofs.Common.{◌≡◌, ℕ, ◌+◌, ◌<◌, ◌≤◌, Bool, true, false, List, [], ◌∷◌, ◌++◌, length, Option, Some, None, inl, inr, refl, sym, ap, subst, ◌∙◌, arith, eqb-true}
use Rattle.std.proofs.lemmas.Bool.{false≢true, cases_Bool, cases_lt, eq-eqb, ne_eqb, and_right, ltb-true, lt-ltb, le-ltb}
use Rattle.irig_time.specs.declared.claim.Claim.{Claim}
use Rattle.irig_time.specs.Timelines.{truth_at, IsTrueClaim}
use Rattle.irig_time.proofs.SecondAt.{claim_is}
use Rattle.irig_vote.specs.declared.redundancy.Redundancy.{Redundancy}
use Rattle.irig_vote.specs.declared.votes.Tells.{Tells}
use Rattle.irig_vote.specs.Vote.{f_of, ports_of, carriers, vote_of}
use Rattle.irig_vote.proofs.CountLaws.{vote_counts}
use Rattle.irig_reader.specs.History.{told_at_tick, vote_at_tick}
use Rattle.irig_plant.specs.declared.event.Event.{Event}
use Rattle.irig_plant.specs.declared.event.Event.TheVariants.{Tick, Restart}
use Rattle.irig_vote.specs.Vote.{redundancy_of}
use Rattle.irig_plant.specs.Schedule.{ports_now, Setup, ticks_of, history_of}
use Rattle.irig_plant.specs.Audits.{untrue_ports, is_broken_now}
use Rattle.irig_plant.specs.Edges.{is_carried, is_voted_now, is_voted, is_restarted, IsVoted, IsRestarted}
use Rattle.irig_plant.proofs.HeadlineVotes.{ports_told, few_untrue_told, true_vote, vote_is_true}

-- ---- later events

pub ticks_grow : (r : ℕ) (later ev : List Event) → ticks_of r ev ≤ ticks_of r (later ++ ev)
ticks_grow r [] ev = omega arith
ticks_grow r (Tick x ∷ later) ev =
    elim (cases_Bool (x == r)) [
      | inl here ↦ rw here (omega (arith, ticks_grow r later ev))
      | inr other ↦ rw other (ticks_grow r later ev)
    ]
ticks_grow r (e ∷ later) ev = ticks_grow r later ev

pub ticks_now : (r : ℕ) (ev : List Event) → ticks_of r (Tick r ∷ ev) ≡ ticks_of r ev + 1
ticks_now r ev = rw (eq-eqb r r refl) refl

later_voted : (s : Setup) (r : ℕ) (later ev : List Event) (i : ℕ) → i ≤ ticks_of r ev → is_voted s r (later ++ ev) i ≡ is_voted s r ev i
later_voted s r [] ev i low = refl
later_voted s r (Tick x ∷ later) ev i low =
    let before : (i == (ticks_of r (later ++ ev) + 1)) ≡ false = ne_eqb i (ticks_of r (later ++ ev) + 1) (λ e. omega (arith, e, low, ticks_grow r later ev)) in
    rw (and_right (x == r) (i == (ticks_of r (later ++ ev) + 1)) before) (later_voted s r later ev i low)
later_voted s r (e ∷ later) ev i low = later_voted s r later ev i low

later_restarted : (r : ℕ) (later ev : List Event) (i : ℕ) → i < ticks_of r ev → is_restarted r (later ++ ev) i ≡ is_restarted r ev i
later_restarted r [] ev i low = refl
later_restarted r (Restart x ∷ later) ev i low =
    let before : (i == ticks_of r (later ++ ev)) ≡ false = ne_eqb i (ticks_of r (later ++ ev)) (λ e. omega (arith, e, low, ticks_grow r later ev)) in
    rw (and_right (x == r) (i == ticks_of r (later ++ ev)) before) (later_restarted r later ev i low)
later_restarted r (e ∷ later) ev i low = later_restarted r later ev i low

-- a restart stays one
stays_restarted : (r : ℕ) (later ev : List Event) (i : ℕ) → is_restarted r ev i ≡ true → is_restarted r (later ++ ev) i ≡ true
stays_restarted r [] ev i h = h
stays_restarted r (Restart x ∷ later) ev i h =
    elim (cases_Bool ((x == r) && (i == ticks_of r (later ++ ev)))) [
      | inl here ↦ rw here refl
      | inr other ↦ rw other (stays_restarted r later ev i h)
    ]
stays_restarted r (e ∷ later) ev i h = stays_restarted r later ev i h

-- none falls after a tick that is still to come
pub none_restarted : (r : ℕ) (ev : List Event) (i : ℕ) → ticks_of r ev < i → is_restarted r ev i ≡ false
none_restarted r [] i low = refl
none_restarted r (Tick x ∷ ev) i low =
    elim (cases_Bool (x == r)) [
      | inl here ↦ none_restarted r ev i (let less : ticks_of r ev + 1 < i = rw here at low in omega arith)
      | inr other ↦ none_restarted r ev i (rw other at low)
    ]
none_restarted r (Restart x ∷ ev) i low =
    let before : (i == ticks_of r ev) ≡ false = ne_eqb i (ticks_of r ev) (λ e. omega (arith, e, low)) in
    rw (and_right (x == r) (i == ticks_of r ev) before) (none_restarted r ev i low)
none_restarted r (e ∷ ev) i low = none_restarted r ev i low

-- there is no tick of number 0
pub none_voted : (s : Setup) (r : ℕ) (ev : List Event) → is_voted s r ev 0 ≡ false
none_voted s r [] = refl
none_voted s r (Tick x ∷ ev) =
    let before : (0 == (ticks_of r ev + 1)) ≡ false = ne_eqb 0 (ticks_of r ev + 1) (λ e. omega (arith, e)) in
    rw (and_right (x == r) (0 == (ticks_of r ev + 1)) before) (none_voted s r ev)
none_voted s r (e ∷ ev) = none_voted s r ev

-- ---- at a tick, and at a restart

pub voted_at : (s : Setup) (r : ℕ) (all later ev : List Event) → all ≡ later ++ (Tick r ∷ ev) → is_voted s r all (ticks_of r ev + 1) ≡ is_voted_now s r ev
voted_at s r all later ev e =
    let now : is_voted s r (Tick r ∷ ev) (ticks_of r ev + 1) ≡ is_voted_now s r ev = rw (eq-eqb r r refl, eq-eqb (ticks_of r ev + 1) (ticks_of r ev + 1) refl) refl in
    ap (λ (es : List Event). is_voted s r es (ticks_of r ev + 1)) e ∙ later_voted s r later (Tick r ∷ ev) (ticks_of r ev + 1) (omega (arith, ticks_now r ev)) ∙ now

pub restarted_before : (r : ℕ) (all later ev : List Event) → all ≡ later ++ (Tick r ∷ ev) → is_restarted r all (ticks_of r ev) ≡ is_restarted r ev (ticks_of r ev)
restarted_before r all later ev e =
    ap (λ (es : List Event). is_restarted r es (ticks_of r ev)) e ∙ later_restarted r later (Tick r ∷ ev) (ticks_of r ev) (omega (arith, ticks_now r ev))

pub restarted_at : (r : ℕ) (all later ev : List Event) → all ≡ later ++ (Restart r ∷ ev) → is_restarted r all (ticks_of r ev) ≡ true
restarted_at r all later ev e =
    let now : is_restarted r (Restart r ∷ ev) (ticks_of r ev) ≡ true = rw (eq-eqb r r refl, eq-eqb (ticks_of r ev) (ticks_of r ev) refl) refl in
    ap (λ (es : List Event). is_restarted r es (ticks_of r ev)) e ∙ stays_restarted r later (Restart r ∷ ev) (ticks_of r ev) now

-- ---- where a tick lies

pub record HasTick (r : ℕ) (ev : List Event) (before : ℕ) : Type 0 where
  pub later : List Event
  pub earlier : List Event
  pub is : ev ≡ later ++ (Tick r ∷ earlier)
  pub ticks : ticks_of r earlier ≡ before

one_later : (r : ℕ) (e : Event) (ev : List Event) (before : ℕ) → HasTick r ev before → HasTick r (e ∷ ev) before
one_later r e ev before h = record { later = e ∷ h.later; earlier = h.earlier; is = ap (λ es. e ∷ es) h.is; ticks = h.ticks }

pub has_tick : (r : ℕ) (ev : List Event) (before : ℕ) → before < ticks_of r ev → HasTick r ev before
has_tick r [] before low = absurd (omega arith)
has_tick r (Tick x ∷ ev) before low =
    elim (cases_Bool (x == r)) [
      | inl here ↦
          let is : x ≡ r = eqb-true x r here in
          elim (cases_lt before (ticks_of r ev)) [
            | inl more ↦ one_later r (Tick x) ev before (has_tick r ev before more)
            | inr last ↦ record { later = []; earlier = ev; is = ap (λ k. Tick k ∷ ev) is; ticks = let up : before < ticks_of r ev + 1 = rw here at low in omega arith }
          ]
      | inr other ↦ one_later r (Tick x) ev before (has_tick r ev before (rw other at low))
    ]
has_tick r (e ∷ ev) before low = one_later r e ev before (has_tick r ev before low)

-- ---- a vote under the premise

vote_there : (t : Tells) (r : Redundancy) (truth vote : Option Claim) → untrue_ports truth (ports_of t r) ≤ f_of r → vote ≡ vote_of t r → is_some vote ≡ is_carried (f_of r) (ports_of t r) truth
vote_there t r None None few e = refl
vote_there t r (Some c) None few e =
    elim (cases_lt (f_of r) (carriers c (ports_of t r))) [
      | inl many ↦ let voted : None ≡ Some c = e ∙ (vote_counts t r c).1 (omega (arith, many)) in absurd cc
      | inr some ↦ sym (le-ltb (f_of r) (carriers c (ports_of t r)) some)
    ]
vote_there t r truth (Some d) few e =
    let many : f_of r + 1 ≤ carriers d (ports_of t r) = (vote_counts t r d).0 (sym e) in
    let is : truth ≡ Some d = elim (true_vote t r truth (Some d) few e) [ inl none ↦ absurd cc | inr same ↦ sym same ] in
    rw is (sym (lt-ltb (f_of r) (carriers d (ports_of t r)) (omega (arith, many))))

pub vote_is_there : (s : Setup) (r : ℕ) (ev : List Event) → is_broken_now s r ev ≡ false → is_some (vote_at_tick (history_of s r ev)) ≡ is_voted_now s r ev
vote_is_there s r ev kept =
    let redundancy = redundancy_of (length s.generators) in
    let told = told_at_tick (history_of s r ev) in
    let truth = truth_at s.times (ticks_of r ev) in
    vote_there told redundancy truth (vote_at_tick (history_of s r ev)) (few_untrue_told s r ev kept) refl
    ∙ ap (λ ports. is_carried (f_of redundancy) ports truth) (ports_told s r ev)

pub vote_is_right : (s : Setup) (r : ℕ) (ev : List Event) (c : Claim) → is_broken_now s r ev ≡ false → vote_at_tick (history_of s r ev) ≡ Some c → IsTrueClaim s.times (ticks_of r ev + 1) c
vote_is_right s r ev c kept e =
    elim (vote_is_true s r ev kept) [
      | inl none ↦ let clash : None ≡ Some c = sym none ∙ e in absurd cc
      | inr same ↦ (claim_is s.times (ticks_of r ev) c).0 (sym same ∙ e)
    ]

-- ---- voted edges and restarts as relations

both_true : (a b : Bool) → (a && b) ≡ true → (a ≡ true) × (b ≡ true)
both_true true b h = (refl, h)
both_true false b h = absurd (false≢true h)

earlier_voted : (s : Setup) (r : ℕ) (e : Event) (ev : List Event) (i : ℕ) → IsVoted s r ev i → IsVoted s r (e ∷ ev) i
earlier_voted s r e ev i h = record {
  later = e ∷ h.later;
  earlier = h.earlier;
  tick = ap (λ es. e ∷ es) h.tick;
  edge = h.edge;
  claim = h.claim;
  is_true = h.is_true;
  carried = h.carried;
}

voted_here : (s : Setup) (r : ℕ) (ev : List Event) (truth : Option Claim) → truth ≡ truth_at s.times (ticks_of r ev) → is_carried (f_of (redundancy_of (length s.generators))) (ports_now s r ev) truth ≡ true
    → IsVoted s r (Tick r ∷ ev) (ticks_of r ev + 1)
voted_here s r ev None e h = absurd (false≢true h)
voted_here s r ev (Some c) e h = record {
  later = [];
  earlier = ev;
  tick = refl;
  edge = refl;
  claim = c;
  is_true = (claim_is s.times (ticks_of r ev) c).0 (sym e);
  carried = let many = ltb-true (f_of (redundancy_of (length s.generators))) (carriers c (ports_now s r ev)) h in omega (arith, many);
}

pub voted_by_test : (s : Setup) (r : ℕ) (ev : List Event) (i : ℕ) → is_voted s r ev i ≡ true → IsVoted s r ev i
voted_by_test s r [] i h = absurd (false≢true h)
voted_by_test s r (Tick x ∷ ev) i h =
    elim (cases_Bool ((x == r) && (i == (ticks_of r ev + 1)))) [
      | inl both ↦
          let parts = both_true (x == r) (i == (ticks_of r ev + 1)) both in
          let is : x ≡ r = eqb-true x r parts.0 in
          let at : i ≡ ticks_of r ev + 1 = eqb-true i (ticks_of r ev + 1) parts.1 in
          let now : is_voted_now s r ev ≡ true = rw both at h in
          rw (is, at) (voted_here s r ev (truth_at s.times (ticks_of r ev)) refl now)
      | inr other ↦ earlier_voted s r (Tick x) ev i (voted_by_test s r ev i (rw other at h))
    ]
voted_by_test s r (e ∷ ev) i h = earlier_voted s r e ev i (voted_by_test s r ev i h)

pub test_by_voted : (s : Setup) (r : ℕ) (ev : List Event) (i : ℕ) → IsVoted s r ev i → is_voted s r ev i ≡ true
test_by_voted s r ev i h =
    let redundancy = redundancy_of (length s.generators) in
    let true_claim : IsTrueClaim s.times (ticks_of r h.earlier + 1) h.claim = subst (λ (k : ℕ). IsTrueClaim s.times k h.claim) h.edge h.is_true in
    let truth : truth_at s.times (ticks_of r h.earlier) ≡ Some h.claim = (claim_is s.times (ticks_of r h.earlier) h.claim).1 true_claim in
    let now : is_voted_now s r h.earlier ≡ true =
    ap (is_carried (f_of redundancy) (ports_now s r h.earlier)) truth ∙ lt-ltb (f_of redundancy) (carriers h.claim (ports_now s r h.earlier)) (omega (arith, h.carried)) in
    ap (is_voted s r ev) h.edge ∙ voted_at s r ev h.later h.earlier h.tick ∙ now

earlier_restarted : (r : ℕ) (e : Event) (ev : List Event) (i : ℕ) → IsRestarted r ev i → IsRestarted r (e ∷ ev) i
earlier_restarted r e ev i h = record { later = e ∷ h.later; earlier = h.earlier; restart = ap (λ es. e ∷ es) h.restart; edge = h.edge }

pub restarted_by_test : (r : ℕ) (ev : List Event) (i : ℕ) → is_restarted r ev i ≡ true → IsRestarted r ev i
restarted_by_test r [] i h = absurd (false≢true h)
restarted_by_test r (Restart x ∷ ev) i h =
    elim (cases_Bool ((x == r) && (i == ticks_of r ev))) [
      | inl both ↦
          let parts = both_true (x == r) (i == ticks_of r ev) both in
          record { later = []; earlier = ev; restart = ap (λ k. Restart k ∷ ev) (eqb-true x r parts.0); edge = eqb-true i (ticks_of r ev) parts.1 }
      | inr other ↦ earlier_restarted r (Restart x) ev i (restarted_by_test r ev i (rw other at h))
    ]
restarted_by_test r (e ∷ ev) i h = earlier_restarted r e ev i (restarted_by_test r ev i h)

pub test_by_restarted : (r : ℕ) (ev : List Event) (i : ℕ) → IsRestarted r ev i → is_restarted r ev i ≡ true
test_by_restarted r ev i h = ap (is_restarted r ev) h.edge ∙ restarted_at r ev h.later h.earlier h.restart
