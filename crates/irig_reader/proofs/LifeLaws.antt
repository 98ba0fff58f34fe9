-- A reader by true votes, and by clean ticks, one after another.
use Rattle.std.proofs.Common.{◌≡◌, ℕ, zero, suc, ◌+◌, ◌<◌, List, [], ◌∷◌, ◌++◌, Option, Some, None, refl, sym, subst, ap, ◌∙◌, inl, inr, ◌⊎◌, true, arith}
use Rattle.std.specs.Prelude.{IfSome, is_some, length}
use Rattle.std.proofs.lemmas.List.Elements.{All-cons}
use Rattle.irig_time.specs.declared.second.UtcSecond.{UtcSecond}
use Rattle.irig_time.specs.declared.claim.Claim.{Claim}
use Rattle.irig_time.specs.Claims.{IsMarkedLate}
use Rattle.irig_time.specs.Tables.{TableValue}
use Rattle.irig_time.specs.Timelines.{TimelineValue, IsSecond, IsTrueClaim}
use Rattle.irig_time.specs.TimelineFaults.{IsTimeline}
use Rattle.irig_time.proofs.SecondAt.{claim_is}
use Rattle.irig_vote.specs.declared.redundancy.Redundancy.{Redundancy}
use Rattle.irig_vote.specs.declared.votes.Tells.{Tells}
use Rattle.irig_vote.specs.Vote.{vote_of}
use Rattle.irig_vote.proofs.CountLaws.{vote_counts}
use Rattle.irig_hold.specs.declared.hold.Turn.TheVariants as turn
use Rattle.irig_hold.specs.Steps.{HoldValue, alone_by}
use Rattle.irig_hold.specs.Truth.{IsOnTime, HasHeardLate, HasComeTo}
use Rattle.irig_hold.proofs.HoldLaws.{HasHeardInTime, started_true, started_in_time, voted_true, voted_on_time, voted_in_time, alone_true, alone_short, alone_in_time}
use Rattle.irig_reader.specs.declared.rules.ReaderRules.{ReaderRules}
use Rattle.irig_reader.specs.declared.rule.State.{State}
use Rattle.irig_reader.specs.declared.rule.State.TheVariants.{Idle, Acquiring, Locked}
use Rattle.irig_reader.specs.Rule.{step_of, state_of, report_of}
use Rattle.irig_reader.specs.Clean.{IsClean}
use Rattle.irig_reader.specs.Held.{AreMarkedLate, then_none}
use Rattle.irig_reader.specs.Lives.{votes_over, AreClean, HasVoted, KnowsMonthEnds}
use Rattle.irig_reader.proofs.StepCases.{none_cases}
use Rattle.irig_reader.proofs.OneEdge.{SaysNext, voted_says}
use Rattle.irig_reader.proofs.HeldEdges.{IfHold, IfItGoes, voted_has, late_state}

module _ (t : TimelineValue) (rules : ReaderRules) (table : TableValue) (sound : IsTimeline t) (knows : KnowsMonthEnds t rules table) where
  -- the hold stands at T(n), and will know how its month ends
  abbrev pub IsSure : ℕ → HoldValue → Type 0
  IsSure n h = IsOnTime t n h × HasHeardInTime h

  -- a hold that a true vote makes sure
  abbrev IsMended : ℕ → HoldValue → Type 0
  IsMended n h = HasHeardLate h ⊎ IsOnTime t n h

  goes_by_vote : (n : ℕ) (c : Claim) → IsTrueClaim t (n + 1) c → (h : HoldValue) → IsMended n h → IfItGoes table c (IsSure (n + 1)) h
  goes_by_vote n c claim h (inl late) u e = (voted_on_time t table n h c u sound late claim e, voted_in_time t table n h c u claim e)
  goes_by_vote n c claim h (inr on_time) u e = ((voted_true t table n h c u sound on_time claim e).on_time, voted_in_time t table n h c u claim e)

  if_hold : (P Q : HoldValue → Type 0) → ((h : HoldValue) → P h → Q h) → (state : State) → IfHold state P → IfHold state Q
  if_hold P Q f Idle p = tt
  if_hold P Q f (Acquiring h count) p = f h p
  if_hold P Q f (Locked h) p = f h p

  by_vote : (n : ℕ) (state : State) (c : Claim) → IsTrueClaim t (n + 1) c → IfHold state (IsMended n) → IfHold (step_of rules table state (Some c)).state (IsSure (n + 1))
  by_vote n state c claim mended =
      voted_has (IsSure (n + 1)) rules table state c (λ h e. (started_true t table n c h sound claim e, started_in_time t table n c h claim e))
      (if_hold (IsMended n) (IfItGoes table c (IsSure (n + 1))) (goes_by_vote n c claim) state mended)

  comes_alone : (n : ℕ) (h : HoldValue) (u : UtcSecond) → IsSure n h → (alone_by table h rules.holdover).answer ≡ turn.Now u → HasComeTo t (n + 1) u (alone_by table h rules.holdover).new
  comes_alone n h u sure e = elim knows [
    | inl tables ↦ alone_true t table n rules.holdover h u sound tables sure.0 e
    | inr short ↦ alone_short t table n rules.holdover h u sound short sure.0 sure.1 e
  ]

  locked : (n : ℕ) (state : State) (h : HoldValue) → IfHold state (IsSure n) → state ≡ Locked h → IsSure n h
  locked n state h sure is = subst (λ (s : State). IfHold s (IsSure n)) is sure

  by_none : (n : ℕ) (state : State) → IfHold state (IsSure n) → IfHold (step_of rules table state None).state (IsSure (n + 1))
  by_none n state sure =
      none_cases (λ step. IfHold step.state (IsSure (n + 1))) rules table state (λ c. tt)
      (λ h u is e. let at = locked n state h sure is in ((comes_alone n h u at e).on_time, alone_in_time table h rules.holdover u at.1 e))

  says_alone : (n : ℕ) (state : State) → IfHold state (IsSure n) → SaysNext t n (step_of rules table state None)
  says_alone n state sure =
      none_cases (SaysNext t n) rules table state (λ c u e. absurd cc)
      (λ h v is e u says. let same : v ≡ u = cc in subst (IsSecond t (n + 1)) same (comes_alone n h v (locked n state h sure is) e).second)

  -- ---- behind a true vote

  late_mended : (n : ℕ) (votes : List (Option Claim)) → AreMarkedLate votes → IfHold (state_of rules table votes) (IsMended n)
  late_mended n votes marked = if_hold HasHeardLate (IsMended n) (λ h late. inl late) (state_of rules table votes) (late_state rules table votes marked)

  stands_since : (n age : ℕ) (votes : List (Option Claim)) (c : Claim) → AreMarkedLate votes → IsTrueClaim t (n + 1) c → IfHold (state_of rules table (then_none age (Some c ∷ votes))) (IsSure (n + 1 + age))
  stands_since n zero votes c marked claim =
      let same : n + 1 ≡ n + 1 + 0 = omega arith in
      let state : State = state_of rules table votes in
      subst (λ (m : ℕ). IfHold (step_of rules table state (Some c)).state (IsSure m)) same (by_vote n state c claim (late_mended n votes marked))
  stands_since n (suc age) votes c marked claim =
      let same : n + 1 + age + 1 ≡ n + 1 + suc age = omega arith in
      let state : State = state_of rules table (then_none age (Some c ∷ votes)) in
      subst (λ (m : ℕ). IfHold (step_of rules table state None).state (IsSure m)) same (by_none (n + 1 + age) state (stands_since n age votes c marked claim))

  -- a held second stands on the vote so many edges back
  pub held_is_true : (n age : ℕ) (vote : Option Claim) (votes earlier : List (Option Claim)) (c : Claim) (u : UtcSecond) → AreMarkedLate earlier → IsTrueClaim t (n + 1) c → vote ∷ votes ≡ then_none age (Some c ∷ earlier)
      → 0 < age → (report_of rules table vote votes).announce ≡ Some u → IsSecond t (n + 1 + age) u
  held_is_true n zero vote votes earlier c u marked claim are some says = absurd (omega (arith, some))
  held_is_true n (suc age) (Some d) votes earlier c u marked claim are some says = absurd cc
  held_is_true n (suc age) None votes earlier c u marked claim are some says =
      let rest : votes ≡ then_none age (Some c ∷ earlier) = cc in
      let state : State = state_of rules table (then_none age (Some c ∷ earlier)) in
      let says_so : (step_of rules table state None).report.announce ≡ Some u = subst (λ (vs : List (Option Claim)). (report_of rules table None vs).announce ≡ Some u) rest says in
      let same : n + 1 + age + 1 ≡ n + 1 + suc age = omega arith in
      subst (λ (m : ℕ). IsSecond t m u) same (says_alone (n + 1 + age) state (stands_since n age earlier c marked claim) u says_so)

  -- ---- a clean tick

  true_vote : (n : ℕ) (told : Tells) (r : Redundancy) (c : Claim) → IsClean t n told r → vote_of told r ≡ Some c → IsTrueClaim t (n + 1) c
  true_vote n told r c clean is = (claim_is t n c).0 (clean.no_other c ((vote_counts told r c).0 is))

  sure_mended : (n : ℕ) (state : State) → IfHold state (IsSure n) → IfHold state (IsMended n)
  sure_mended n = if_hold (IsSure n) (IsMended n) (λ h sure. inr sure.0)

  after_tick : (n : ℕ) (told : Tells) (r : Redundancy) (state : State) → IsClean t n told r → IfHold state (IsSure n) → IfHold (step_of rules table state (vote_of told r)).state (IsSure (n + 1))
  after_tick n told r state clean sure = of (vote_of told r) refl
    where
      of : (vote : Option Claim) → vote_of told r ≡ vote → IfHold (step_of rules table state vote).state (IsSure (n + 1))
      of None is = by_none n state sure
      of (Some c) is = by_vote n state c (true_vote n told r c clean is) (sure_mended n state sure)

  says_at_tick : (n : ℕ) (told : Tells) (r : Redundancy) (state : State) → IsClean t n told r → IfHold state (IsSure n) → SaysNext t n (step_of rules table state (vote_of told r))
  says_at_tick n told r state clean sure = of (vote_of told r) refl
    where
      of : (vote : Option Claim) → vote_of told r ≡ vote → SaysNext t n (step_of rules table state vote)
      of None is = says_alone n state sure
      of (Some c) is = voted_says t n rules table state c sound (true_vote n told r c clean is)

  -- ---- all of them

  module _ (n : ℕ) (r : Redundancy) where
    next : (before : List Tells) (state : State) → IfHold state (IsSure (n + length before + 1)) → (told : Tells) → IfHold state (IsSure (n + length (told ∷ before)))
    next before state sure told =
        let same : n + length before + 1 ≡ n + length (told ∷ before) = omega arith in
        subst (λ (m : ℕ). IfHold state (IsSure m)) same sure

    stands : (ticks : List Tells) → AreClean t n r ticks → IfHold (state_of rules table (votes_over r ticks)) (IsSure (n + length ticks))
    stands [] clean = tt
    stands (told ∷ before) clean =
        let state : State = state_of rules table (votes_over r before) in
        next before _ (after_tick (n + length before) told r state clean.0 (stands before clean.1)) told

    pub true_life : (told : Tells) (before : List Tells) (u : UtcSecond) → AreClean t n r (told ∷ before) → (report_of rules table (vote_of told r) (votes_over r before)).announce ≡ Some u
        → IsSecond t (n + length before + 1) u
    true_life told before u clean says = says_at_tick (n + length before) told r (state_of rules table (votes_over r before)) clean.0 (stands before clean.1) u says

    -- ---- behind other votes

    module _ (earlier : List (Option Claim)) (marked : AreMarkedLate earlier) where
      -- none of the ticks had a vote yet, or the reader is sure
      abbrev IsOnTheWay : List Tells → Type 0
      IsOnTheWay ticks = (AreMarkedLate (votes_over r ticks ++ earlier) × (HasVoted r ticks → ⊥)) ⊎ IfHold (state_of rules table (votes_over r ticks ++ earlier)) (IsSure (n + length ticks))

      silent_tick : (told : Tells) → vote_of told r ≡ None → ¬ (is_some (vote_of told r) ≡ true)
      silent_tick told is some = let none : Option Claim = None in let both : is_some none ≡ true = sym (ap is_some is) ∙ some in cc

      unvoted : (told : Tells) (before : List Tells) → vote_of told r ≡ None → (HasVoted r before → ⊥) → HasVoted r (told ∷ before) → ⊥
      unvoted told before is none (inl some) = silent_tick told is some
      unvoted told before is none (inr voted) = none voted

      on_the_way : (ticks : List Tells) → AreClean t n r ticks → IsOnTheWay ticks
      on_the_way [] clean = inl (marked, λ voted. voted)
      on_the_way (told ∷ before) clean = of (vote_of told r) refl (on_the_way before clean.1)
        where
          state : State
          state = state_of rules table (votes_over r before ++ earlier)

          of : (vote : Option Claim) → vote_of told r ≡ vote → IsOnTheWay before → IsOnTheWay (told ∷ before)
          of None is (inl late) = inl (subst (λ (vote : Option Claim). AreMarkedLate (vote ∷ (votes_over r before ++ earlier))) (sym is) (All-cons (λ vote. IfSome vote IsMarkedLate) None (votes_over r before ++ earlier) tt late.0), unvoted told before is late.1)
          of None is (inr sure) = inr (next before _ (after_tick (n + length before) told r state clean.0 sure) told)
          of (Some c) is (inl late) =
              inr (next before _ (rw is (by_vote (n + length before) state c (true_vote (n + length before) told r c clean.0 is) (late_mended (n + length before) (votes_over r before ++ earlier) late.0))) told)
          of (Some c) is (inr sure) = inr (next before _ (after_tick (n + length before) told r state clean.0 sure) told)

      pub healed : (told : Tells) (before : List Tells) (u : UtcSecond) → AreClean t n r (told ∷ before) → HasVoted r (told ∷ before)
          → (report_of rules table (vote_of told r) (votes_over r before ++ earlier)).announce ≡ Some u → IsSecond t (n + length before + 1) u
      healed told before u clean voted says = of (vote_of told r) refl says
        where
          state : State
          state = state_of rules table (votes_over r before ++ earlier)

          before_it : vote_of told r ≡ None → HasVoted r before
          before_it is = elim voted [ inl some ↦ absurd (silent_tick told is some) | inr there ↦ there ]

          of : (vote : Option Claim) → vote_of told r ≡ vote → (step_of rules table state vote).report.announce ≡ Some u → IsSecond t (n + length before + 1) u
          of (Some c) is says = voted_says t (n + length before) rules table state c sound (true_vote (n + length before) told r c clean.0 is) u says
          of None is says = elim (on_the_way before clean.1) [
            | inl late ↦ absurd (late.1 (before_it is))
            | inr sure ↦ says_alone (n + length before) state sure u says
          ]
