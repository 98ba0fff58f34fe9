-- A vote at a tick that keeps the premise is for the true claim.
use Rattle.std.proofs.Common.{◌≡◌, ℕ, ◌+◌, ◌≤◌, true, false, cond, List, [], ◌∷◌, length, Option, Some, None, refl, sym, subst, ap, ◌∙◌, arith, inl, inr, ◌⊎◌}
use Rattle.std.specs.Prelude.{nat_lt}
use Rattle.std.proofs.lemmas.Bool.{cases_Bool, ltb-false}
use Rattle.std.proofs.lemmas.List.Sums.{sum_by-cons}
use Rattle.irig_time.specs.declared.claim.Claim.{Claim}
use Rattle.irig_time.specs.Timelines.{truth_at}
use Rattle.irig_port.specs.declared.told.Told.{Told}
use Rattle.irig_vote.specs.declared.redundancy.Redundancy.{Redundancy}
use Rattle.irig_vote.specs.declared.votes.Tells.{Tells}
use Rattle.irig_time.specs.Claims.{same_claim}
use Rattle.irig_vote.specs.Vote.{f_of, ports_of, is_told, carriers, vote_of}
use Rattle.irig_vote.proofs.CountLaws.{told_is, same_is, carriers-cons, none_of, vote_counts}
use Rattle.irig_vote.proofs.NumberedLaws.{one_of}
use Rattle.irig_reader.specs.History.{told_at_tick, vote_at_tick}
use Rattle.irig_plant.specs.declared.event.Event.{Event}
use Rattle.irig_vote.specs.Vote.{redundancy_of}
use Rattle.irig_reader.proofs.CleanHearing.{ports_are}
use Rattle.irig_plant.specs.Schedule.{Setup, told_now, ports_now, ticks_of, history_of}
use Rattle.irig_plant.specs.Audits.{differs, is_untrue, untrue_ports, is_broken_now}

untrue-cons : (truth : Option Claim) (t : Told) (ts : List Told) → untrue_ports truth (t ∷ ts) ≡ cond (is_untrue truth t) 1 0 + untrue_ports truth ts
untrue-cons truth t ts = sum_by-cons (λ u. cond (is_untrue truth u) 1 0) t ts

-- ports that tell a claim which isn't the true one are untrue
carriers_untrue : (truth : Option Claim) (c : Claim) (ports : List Told) → differs truth c ≡ true → carriers c ports ≤ untrue_ports truth ports
carriers_untrue truth c [] other = omega arith
carriers_untrue truth c (t ∷ ts) other =
    elim (cases_Bool (is_told c t)) [
      | inl told ↦
          let untrue : is_untrue truth t ≡ true = subst (λ (u : Told). is_untrue truth u ≡ true) (sym (told_is c t told)) other in
          omega (arith, carriers-cons c t ts, untrue-cons truth t ts, one_of (is_told c t) told, one_of (is_untrue truth t) untrue, carriers_untrue truth c ts other)
      | inr silent ↦ omega (arith, carriers-cons c t ts, untrue-cons truth t ts, none_of (is_told c t) silent, carriers_untrue truth c ts other)
    ]

pub the_same : (truth : Option Claim) (c : Claim) → differs truth c ≡ false → truth ≡ Some c
the_same None c e = absurd cc
the_same (Some truth) c e =
    elim (cases_Bool (same_claim c truth)) [
      | inl same ↦ ap (λ (d : Claim). let o : Option Claim = Some d in o) (sym (same_is c truth same))
      | inr other ↦ absurd (let on : true ≡ false = rw other at e in cc)
    ]

-- so if at most f are untrue, what is voted is the truth
voted_is_true : (t : Tells) (r : Redundancy) (truth : Option Claim) (c : Claim) → untrue_ports truth (ports_of t r) ≤ f_of r → vote_of t r ≡ Some c → truth ≡ Some c
voted_is_true t r truth c few e =
    elim (cases_Bool (differs truth c)) [
      | inl other ↦ absurd (omega (arith, few, (vote_counts t r c).0 e, carriers_untrue truth c (ports_of t r) other))
      | inr same ↦ the_same truth c same
    ]

pub true_vote : (t : Tells) (r : Redundancy) (truth vote : Option Claim) → untrue_ports truth (ports_of t r) ≤ f_of r → vote ≡ vote_of t r → (vote ≡ None) ⊎ (vote ≡ truth)
true_vote t r truth None few e = inl refl
true_vote t r truth (Some c) few e = inr (sym (voted_is_true t r truth c few (sym e)))

-- the ports by their numbers are those that the reader's history names
pub ports_told : (s : Setup) (r : ℕ) (ev : List Event) → ports_of (told_at_tick (history_of s r ev)) (redundancy_of (length s.generators)) ≡ ports_now s r ev
ports_told s r ev = ports_are (told_now s r ev) (redundancy_of (length s.generators))

pub few_untrue_told : (s : Setup) (r : ℕ) (ev : List Event) → is_broken_now s r ev ≡ false
    → untrue_ports (truth_at s.times (ticks_of r ev)) (ports_of (told_at_tick (history_of s r ev)) (redundancy_of (length s.generators))) ≤ f_of (redundancy_of (length s.generators))
few_untrue_told s r ev kept =
    let redundancy = redundancy_of (length s.generators) in
    let truth = truth_at s.times (ticks_of r ev) in
    ltb-false (f_of redundancy) _ (ap (λ ports. nat_lt (f_of redundancy) (untrue_ports truth ports)) (ports_told s r ev) ∙ kept)

pub vote_is_true : (s : Setup) (r : ℕ) (ev : List Event) → is_broken_now s r ev ≡ false
    → (vote_at_tick (history_of s r ev) ≡ None) ⊎ (vote_at_tick (history_of s r ev) ≡ truth_at s.times (ticks_of r ev))
vote_is_true s r ev kept =
    let redundancy = redundancy_of (length s.generators) in
    let told = told_at_tick (history_of s r ev) in
    let truth = truth_at s.times (ticks_of r ev) in
    true_vote told redundancy truth (vote_at_tick (history_of s r ev)) (few_untrue_told s r ev kept) refl
