-- The tests of a tick count the ports that heard what carries a true claim, or an untrue one.
use Rattle.std.specs.Prelude.{All, nat_lt}
use Rattle.std.proofs.Common.{◌≡◌, ◌↔◌, ℕ, ◌+◌, ◌<◌, ◌≤◌, Bool, true, false, List, [], ◌∷◌, length, Option, Some, None, inl, inr, refl, sym, ap, subst, ◌∙◌, arith}
use Rattle.std.proofs.lemmas.Bool.{false≢true, cases_Bool, ltb-true, ltb-false, lt-ltb, le-ltb}
use Rattle.std.proofs.lemmas.List.Elements.{All-head}
use Rattle.irig_time.specs.declared.claim.Claim.{Claim}
use Rattle.irig_time.specs.Carries.{Carries}
use Rattle.irig_time.specs.Claims.{same_claim}
use Rattle.irig_time.specs.Timelines.{truth_at, IsTrueClaim}
use Rattle.irig_time.proofs.SecondAt.{claim_is}
use Rattle.irig_port.specs.declared.told.Told.{Told}
use Rattle.irig_port.specs.declared.told.Told.TheVariants as tells
use Rattle.irig_port.specs.Heard.{symbols_of}
use Rattle.irig_port.proofs.CarriesLaws.{carries_is_told}
use Rattle.irig_vote.specs.Vote.{ports_in, is_told, carriers, redundancy_of}
use Rattle.irig_vote.specs.Counts.{AtLeast, AtMost}
use Rattle.irig_vote.proofs.CountLaws.{told_is, same_itself}
use Rattle.irig_vote.proofs.NumberedLaws.{at_least, at_most}
use Rattle.irig_plant.specs.declared.event.Event.{Event}
use Rattle.irig_plant.specs.Schedule.{Setup, heard_at, told_now, ports_now, ticks_of}
use Rattle.irig_plant.specs.Audits.{differs, is_untrue, untrue_ports, is_broken_now}
use Rattle.irig_plant.specs.Edges.{is_carried, is_voted_now}
use Rattle.irig_plant.specs.Ports.{f_in, IsTruePort, IsUntruePort}
use Rattle.irig_plant.proofs.HeadlineVotes.{the_same}

-- ---- what a port tells

differs_from : (truth : Option Claim) (c : Claim) → differs truth c ≡ true → ¬ (truth ≡ Some c)
differs_from None c h e = cc
differs_from (Some d) c h e =
    let same : d ≡ c = cc in
    let itself : same_claim c d ≡ true = subst (λ (x : Claim). same_claim c x ≡ true) (sym same) (same_itself c) in
    false≢true (rw itself at h)

is_other : (truth : Option Claim) (c : Claim) → ¬ (truth ≡ Some c) → differs truth c ≡ true
is_other truth c differ = elim (cases_Bool (differs truth c)) [ inl other ↦ other | inr same ↦ absurd (differ (the_same truth c same)) ]

untrue_claim : (truth : Option Claim) (told : Told) → is_untrue truth told ≡ true → (c : Claim) × (told ≡ tells.Claim c) × (differs truth c ≡ true)
untrue_claim truth (tells.Claim c) h = (c, refl, h)
untrue_claim truth told h = absurd (false≢true h)

some_such : (IsSuch : ℕ → Type 0) (ns : List ℕ) → All IsSuch ns → 1 ≤ length ns → (n : ℕ) × IsSuch n
some_such IsSuch [] such some = absurd (omega arith)
some_such IsSuch (n ∷ ns) such some = (n, All-head IsSuch n ns such)

-- ---- a reader's ports

module _ (s : Setup) (r : ℕ) (ev : List Event) where
  carried : (p : ℕ) (c : Claim) → (told_now s r ev p ≡ tells.Claim c) ↔ Carries s.rules (symbols_of (heard_at s r p ev)) c
  carried p c = carries_is_told s.rules (symbols_of (heard_at s r p ev)) c

  truth_is : (c : Claim) → (truth_at s.times (ticks_of r ev) ≡ Some c) ↔ IsTrueClaim s.times (ticks_of r ev + 1) c
  truth_is c = claim_is s.times (ticks_of r ev) c

  abbrev ports : List Told
  ports = ports_now s r ev

  abbrev is_untrue_now : Told → Bool
  is_untrue_now = is_untrue (truth_at s.times (ticks_of r ev))

  untrue_told : (p : ℕ) → IsUntruePort s r ev p → (p < ports_in (redundancy_of (length s.generators))) × (is_untrue_now (told_now s r ev p) ≡ true)
  untrue_told p h = (
    h.heard.port,
    ap is_untrue_now ((carried p h.claim).1 h.heard.carries) ∙ is_other (truth_at s.times (ticks_of r ev)) h.claim (λ e. h.untrue ((truth_is h.claim).0 e)),
  )

  untrue_port : (p : ℕ) → p < ports_in (redundancy_of (length s.generators)) → is_untrue_now (told_now s r ev p) ≡ true → IsUntruePort s r ev p
  untrue_port p low h =
      let told = untrue_claim (truth_at s.times (ticks_of r ev)) (told_now s r ev p) h in
      record {
        claim = told.0;
        heard = record { port = low; carries = (carried p told.0).0 told.1 };
        untrue = λ is. differs_from (truth_at s.times (ticks_of r ev)) told.0 told.2 ((truth_is told.0).1 is);
      }

  abbrev untrue_now : ℕ
  untrue_now = untrue_ports (truth_at s.times (ticks_of r ev)) ports

  pub broken_by_ports : (is_broken_now s r ev ≡ true) ↔ AtLeast (f_in s + 1) (IsUntruePort s r ev)
  broken_by_ports =
      let counts = at_least is_untrue_now (told_now s r ev) (IsUntruePort s r ev) (ports_in (redundancy_of (length s.generators))) untrue_told untrue_port (f_in s + 1) in (
        λ h. counts.0 (omega (arith, ltb-true (f_in s) untrue_now h)),
        λ h. lt-ltb (f_in s) untrue_now (omega (arith, counts.1 h)),
      )

  pub few_untrue : (few : ℕ) → (untrue_now ≤ few) ↔ AtMost few (IsUntruePort s r ev)
  few_untrue few =
      let counts = at_most is_untrue_now (told_now s r ev) (IsUntruePort s r ev) (ports_in (redundancy_of (length s.generators))) untrue_told untrue_port few in
      (λ h. counts.0 (omega (arith, h)), λ h. omega (arith, counts.1 h))

  pub kept_by_ports : (is_broken_now s r ev ≡ false) ↔ AtMost (f_in s) (IsUntruePort s r ev)
  kept_by_ports = (
    λ h. (few_untrue (f_in s)).0 (ltb-false (f_in s) untrue_now h),
    λ h. le-ltb (f_in s) untrue_now ((few_untrue (f_in s)).1 h),
  )

  module _ (c : Claim) (truth : truth_at s.times (ticks_of r ev) ≡ Some c) where
    true_told : (p : ℕ) → IsTruePort s r ev p → (p < ports_in (redundancy_of (length s.generators))) × (is_told c (told_now s r ev p) ≡ true)
    true_told p h =
        let is : ◌≡◌ {A = Option Claim} (Some h.claim) (Some c) = sym ((truth_is h.claim).1 h.is_true) ∙ truth in
        let same : h.claim ≡ c = cc in
        (h.heard.port, ap (is_told c) ((carried p h.claim).1 h.heard.carries) ∙ subst (λ (x : Claim). same_claim c x ≡ true) (sym same) (same_itself c))

    true_port : (p : ℕ) → p < ports_in (redundancy_of (length s.generators)) → is_told c (told_now s r ev p) ≡ true → IsTruePort s r ev p
    true_port p low h = record {
      claim = c;
      heard = record { port = low; carries = (carried p c).0 (told_is c (told_now s r ev p) h) };
      is_true = (truth_is c).0 truth;
    }

    voted_by_claim : (nat_lt (f_in s) (carriers c ports) ≡ true) ↔ AtLeast (f_in s + 1) (IsTruePort s r ev)
    voted_by_claim =
        let counts = at_least (is_told c) (told_now s r ev) (IsTruePort s r ev) (ports_in (redundancy_of (length s.generators))) true_told true_port (f_in s + 1) in (
          λ h. counts.0 (omega (arith, ltb-true (f_in s) (carriers c ports) h)),
          λ h. lt-ltb (f_in s) (carriers c ports) (omega (arith, counts.1 h)),
        )

  voted_by_truth : (truth : Option Claim) → truth_at s.times (ticks_of r ev) ≡ truth → (is_carried (f_in s) ports truth ≡ true) ↔ AtLeast (f_in s + 1) (IsTruePort s r ev)
  voted_by_truth None none = (
    λ h. absurd (false≢true h),
    λ h.
        let port = some_such (IsTruePort s r ev) h.numbers h.such (omega (arith, h.many)) in
        let clash : ◌≡◌ {A = Option Claim} None (Some port.1.claim) = sym none ∙ (truth_is port.1.claim).1 port.1.is_true in
        absurd cc,
  )
  voted_by_truth (Some c) truth = voted_by_claim c truth

  pub voted_by_ports : (is_voted_now s r ev ≡ true) ↔ AtLeast (f_in s + 1) (IsTruePort s r ev)
  voted_by_ports = voted_by_truth (truth_at s.times (ticks_of r ev)) refl
