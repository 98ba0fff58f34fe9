-- Edges without a vote, what a reader then holds over and for how long, and where it stands, so that a
-- wrong definition does not check. It is noon of 2000-01-31.
use Rattle.std.proofs.Common.{◌≡◌, ℕ, ◌+◌, ◌≤◌, [], ◌∷◌, Option, Some, None, refl, sym, ap, subst, ◌∙◌, arith, inl, inr}
use Rattle.std.specs.Prelude.{IfSome}
use Rattle.std.proofs.lemmas.List.Elements.{All-head, All-cons, All-nil}
use Rattle.irig_time.specs.declared.mark.Mark.TheVariants.{Unspoken, Insert}
use Rattle.irig_time.specs.declared.claim.Claim.{Claim}
use Rattle.irig_time.specs.Claims.{IsMarkedLate}
use Rattle.irig_time.specs.Timelines.{IsSecond, IsTrueClaim}
use Rattle.irig_time.specs.Tables.{TableValue, table}
use Rattle.irig_time.proofs.SecondAt.{claim_is}
use Rattle.irig_time.proofs.StandardFacts.{known_first_end}
use Rattle.irig_hold.specs.Steps.{HoldValue, hold_value}
use Rattle.irig_reader.specs.declared.rules.ReaderRules.{ReaderRules}
use Rattle.irig_reader.specs.declared.report.Lock.TheVariants as lock
use Rattle.irig_reader.specs.declared.report.Cause.TheVariants as cause
use Rattle.irig_reader.specs.declared.rule.State.TheVariants.{Idle, Acquiring, Locked}
use Rattle.irig_reader.specs.declared.rule.Step.{Step}
use Rattle.irig_reader.specs.Rule.{stop_step, announce_step, step_of, state_of, report_of}
use Rattle.irig_reader.specs.Held.{AreMarkedLate, IsSince, IsTrueSince}
use Rattle.irig_reader.specs.Standing.{StandsAtTruth}
use Rattle.irig_reader.proofs.CleanFacts.{at, noon, claim, hold, truth}

abbrev vote : ℕ → Option Claim
vote sod = Some (claim sod)

abbrev lost : Option Claim
lost = None

abbrev nothing : TableValue
nothing = table 0 []

-- one vote locks, and it holds over for two edges
abbrev rules : ReaderRules
rules = record { lock_after = 1; holdover = 2 }

abbrev aged : ℕ → ℕ → HoldValue
aged sod age = hold_value (at sod) age Unspoken

-- ---- the last vote

pub two_edges_back : IsSince (lost ∷ lost ∷ vote 43200 ∷ []) 2
two_edges_back = record { claim = claim 43200; earlier = []; are = refl }

pub not_two_edges_back : ¬ IsSince (lost ∷ vote 43200 ∷ []) 2
not_two_edges_back h = let both : lost ∷ vote 43200 ∷ [] ≡ lost ∷ lost ∷ Some h.claim ∷ h.earlier = h.are in cc

-- it was the true claim of T(0), and not of T(1)
pub true_since : IsTrueSince noon 0 (lost ∷ lost ∷ vote 43200 ∷ []) 2
true_since = record { claim = claim 43200; earlier = []; are = refl; truth = (claim_is noon 0 (claim 43200)).0 truth }

pub not_true_since : ¬ IsTrueSince noon 1 (lost ∷ lost ∷ vote 43200 ∷ []) 2
not_true_since h =
    let both : lost ∷ lost ∷ vote 43200 ∷ [] ≡ lost ∷ lost ∷ Some h.claim ∷ h.earlier = h.are in
    let same : claim 43200 ≡ h.claim = cc in
    let truth : IsTrueClaim noon 2 (claim 43200) = subst (IsTrueClaim noon 2) (sym same) h.truth in
    omega (arith, truth.second.1, truth.second.2.sum)

-- a vote that speaks of no leap, and one that speaks of one at noon
pub unspoken : AreMarkedLate (lost ∷ vote 43200 ∷ [])
unspoken =
    All-cons (λ v. IfSome v IsMarkedLate) lost (vote 43200 ∷ []) tt
    (All-cons (λ v. IfSome v IsMarkedLate) (vote 43200) [] (inl refl) (All-nil (λ v. IfSome v IsMarkedLate)))

abbrev early : Option Claim
early = Some (record { at = at 43200; mark = Insert })

pub marked_at_noon : ¬ AreMarkedLate (early ∷ [])
marked_at_noon h =
    elim (All-head (λ v. IfSome v IsMarkedLate) early [] h) [
      | inl none ↦ let same : Insert ≡ Unspoken = none in cc
      | inr late ↦ omega (arith, late.1)
    ]

-- ---- held seconds

begins : step_of rules nothing Idle (vote 43200) ≡ announce_step (aged 43201 0) (at 43201) lock.Locked cause.Voted
unfolding step_of
begins = rw known_first_end refl

one_over : step_of rules nothing (Locked (aged 43201 0)) lost ≡ announce_step (aged 43202 1) (at 43202) (lock.Holdover 1) cause.Held
unfolding step_of
one_over = rw known_first_end refl

two_over : step_of rules nothing (Locked (aged 43202 1)) lost ≡ announce_step (aged 43203 2) (at 43203) (lock.Holdover 2) cause.Held
unfolding step_of
two_over = rw known_first_end refl

three_over : step_of rules nothing (Locked (aged 43203 2)) lost ≡ stop_step cause.Expired
unfolding step_of
three_over = refl

-- the vote is of 12:00:00, which is T(0), and two edges after its own begins T(3)
pub held : report_of rules nothing lost (lost ∷ vote 43200 ∷ []) ≡ record { announce = Some (at 43203); lock = lock.Holdover 2; cause = cause.Held }
held = rw (begins, one_over, two_over, report_of, state_of) refl

second : (n sod : ℕ) → 43200 + n ≡ sod → sod ≤ 86399 → IsSecond noon n (at sod)
second n sod is low = record { from = omega arith; to = omega arith; sod = omega (arith, low); sum = omega (arith, is) }

pub held_is_true : IsSecond noon 3 (at 43203)
held_is_true = second 3 43203 refl (omega arith)

pub not_the_next : ¬ IsSecond noon 3 (at 43204)
not_the_next h = omega (arith, h.sum)

-- the limit is two edges
pub at_the_limit : (step_of rules nothing (Locked (aged 43202 1)) lost).report.lock ≡ lock.Holdover 2
at_the_limit = ap (λ (s : Step). s.report.lock) two_over

pub not_beyond : ¬ ((step_of rules nothing (Locked (aged 43203 2)) lost).report.lock ≡ lock.Holdover 3)
not_beyond h = let both : lock.Unlocked ≡ lock.Holdover 3 = sym (ap (λ (s : Step). s.report.lock) three_over) ∙ h in cc

-- ---- where it stands

pub stands : StandsAtTruth noon 1 (Locked (hold 43201)) × StandsAtTruth noon 1 (Acquiring (hold 43201) 3) × StandsAtTruth noon 1 Idle
stands = (record { last = second 1 43201 refl (omega arith); heard = inl refl }, record { last = second 1 43201 refl (omega arith); heard = inl refl }, tt)

pub stands_elsewhere : ¬ StandsAtTruth noon 1 (Locked (hold 43202))
stands_elsewhere h = omega (arith, h.last.sum)
