-- A reader under the premises, event by event: where it stands, and what it says at each tick.
use Rattle.std.specs.Prelude.{◌==◌, is_some, All, ⊤}
use Rattle.std.proofs.Common.{◌≡◌, ℕ, ◌+◌, ◌<◌, ◌≤◌, Bool, true, false, List, [], ◌∷◌, ◌++◌, length, Option, Some, None, refl, sym, ap, subst, ◌∙◌, arith, inl, inr, eqb-true}
use Rattle.std.proofs.lemmas.Bool.{false≢true, cases_Bool, cases_lt}
use Rattle.std.proofs.lemmas.List.{append_assoc, get_or_past}
use Rattle.irig_time.specs.declared.second.UtcSecond.{UtcSecond}
use Rattle.irig_time.specs.declared.claim.Claim.{Claim}
use Rattle.irig_time.specs.Timelines.{TimelineValue, second_at, IsTrueClaim}
use Rattle.irig_time.specs.Tables.{TableValue}
use Rattle.irig_time.proofs.SecondAt.{second_is}
use Rattle.irig_reader.specs.declared.rules.ReaderRules.{ReaderRules}
use Rattle.irig_reader.specs.declared.report.Cause.TheVariants as cause
use Rattle.irig_reader.specs.declared.rule.State.{State}
use Rattle.irig_reader.specs.declared.rule.State.TheVariants.{Idle, Acquiring, Locked}
use Rattle.irig_reader.specs.declared.rule.Step.{Step}
use Rattle.irig_reader.specs.Rule.{stop_step, step_of}
use Rattle.irig_reader.specs.History.{vote_at_tick}
use Rattle.irig_plant.specs.declared.event.Event.{Event}
use Rattle.irig_plant.specs.declared.event.Event.TheVariants.{Tick, Restart}
use Rattle.irig_plant.specs.declared.setup.ReaderSetup.{ReaderSetup}
use Rattle.irig_plant.specs.Schedule.{Setup, no_reader, setup_at, ticks_of, history_of}
use Rattle.irig_plant.specs.Audits.{is_broken_now}
use Rattle.irig_plant.specs.Premises.{IsKeptUpTo}
use Rattle.irig_plant.specs.Edges.{VotedEdges, voted_edges_of, is_voted, is_restarted, CanLock}
use Rattle.irig_plant.proofs.Headline.{IsFit, state_at}
use Rattle.irig_time.proofs.NoGaps.{second_before}
use Rattle.irig_plant.proofs.CourseLaws.{voted_at, restarted_before, restarted_at, none_restarted, none_voted, vote_is_there, vote_is_right}
use Rattle.irig_plant.proofs.TickLaws.{Standing, Ready, Ticked, live, over, ticks}

-- ---- where T(n) is there, and where the years have ended

pub data Stood (x : VotedEdges) (n : ℕ) (state : State) : Type 0 where
  alive : Standing x n state → Stood x n state
  ended : second_at x.times n ≡ None → state ≡ Idle → Stood x n state

-- a reader that has something to go on was not restarted since its last tick
abbrev Unbroken : Bool → State → Type 0
Unbroken restarted Idle = ⊤
Unbroken restarted (Acquiring h count) = restarted ≡ false
Unbroken restarted (Locked h) = restarted ≡ false

pub record IsStanding (x : VotedEdges) (n : ℕ) (state : State) (restarted : Bool) : Type 0 where
  pub stood : Stood x n state
  pub unbroken : Unbroken restarted state

ready : (x : VotedEdges) (n : ℕ) (state : State) → Standing x n state → Unbroken (x.restarted n) state → Ready x n state
ready x n Idle h u = h
ready x n (Acquiring g count) h u = (u, h)
ready x n (Locked g) h u = (u, h)

after : (x : VotedEdges) (n : ℕ) (step : Step) → Ticked x n step → Stood x (n + 1) step.state
after x n step (live v e standing said) = alive standing
after x n step (over c none is k) = ended none (ap (λ (z : Step). z.state) is)

unbroken_after : (state : State) (restarted : Bool) → restarted ≡ false → Unbroken restarted state
unbroken_after Idle restarted e = tt
unbroken_after (Acquiring h count) restarted e = e
unbroken_after (Locked h) restarted e = e

-- ---- past the end

pub none_after : (t : TimelineValue) (n : ℕ) (o : Option UtcSecond) → second_at t n ≡ None → second_at t (n + 1) ≡ o → o ≡ None
none_after t n None none e = refl
none_after t n (Some v) none e =
    let before = second_before t n v ((second_is t (n + 1) v).0 e) in
    let clash : None ≡ Some before.0 = sym none ∙ (second_is t n before.0).1 before.1 in
    absurd cc

no_claim : (t : TimelineValue) (n : ℕ) (vote : Option Claim) → second_at t n ≡ None → ((c : Claim) → vote ≡ Some c → IsTrueClaim t (n + 1) c) → vote ≡ None
no_claim t n None none truth = refl
no_claim t n (Some c) none truth =
    let claim : IsTrueClaim t (n + 1) c = truth c refl in
    let m : claim.second.0 ≡ n = omega (arith, claim.second.1) in
    let at : second_at t n ≡ Some c.at = ap (second_at t) (sym m) ∙ (second_is t claim.second.0 c.at).1 claim.second.2 in
    let clash : None ≡ Some c.at = sym none ∙ at in
    absurd cc

idle_step : (reader_rules : ReaderRules) (table : TableValue) → step_of reader_rules table Idle None ≡ stop_step cause.NoVote
unfolding step_of
idle_step reader_rules table = refl

past_end : (x : VotedEdges) (n : ℕ) (state : State) (vote : Option Claim) → second_at x.times n ≡ None → state ≡ Idle → vote ≡ None → Ticked x n (step_of x.reader_rules x.table state vote)
past_end x n state vote none idle silent =
    rw (idle, silent) (over cause.NoVote (none_after x.times n (second_at x.times (n + 1)) none refl) (idle_step x.reader_rules x.table) refl)

-- ---- rules in range

pub can_lock : (s : Setup) (r : ℕ) → All CanLock s.readers → 1 ≤ (setup_at s.readers r).rules.lock_after
can_lock s r all =
    elim (cases_lt r (length s.readers)) [
      | inl low ↦ all r no_reader low
      | inr far ↦ subst (λ (x : ReaderSetup). CanLock x) (sym (get_or_past s.readers r no_reader far)) (omega arith)
    ]

-- ---- event by event

module _ (s : Setup) (r : ℕ) (all : List Event) (fit : IsFit s r) (some : 1 ≤ (setup_at s.readers r).rules.lock_after) where
  abbrev pub NowTicked : List Event → Type 0
  NowTicked ev = Ticked (voted_edges_of s r all) (ticks_of r ev) (step_of (setup_at s.readers r).rules (setup_at s.readers r).table (state_at s r ev) (vote_at_tick (history_of s r ev)))

  abbrev Stands : List Event → Type 0
  Stands ev = IsStanding (voted_edges_of s r all) (ticks_of r ev) (state_at s r ev) (is_restarted r ev (ticks_of r ev))

  tick_from : (later ev : List Event) → all ≡ later ++ (Tick r ∷ ev) → is_broken_now s r ev ≡ false → Stands ev → NowTicked ev
  tick_from later ev e kept h =
      let x : VotedEdges = voted_edges_of s r all in
      let n : ℕ = ticks_of r ev in
      let there : is_some (vote_at_tick (history_of s r ev)) ≡ is_voted s r all (ticks_of r ev + 1) = vote_is_there s r ev kept ∙ sym (voted_at s r all later ev e) in
      elim h.stood [
        | alive standing ↦
            ticks x fit.sound fit.true_table some n (state_at s r ev) (vote_at_tick (history_of s r ev)) there (λ c. vote_is_right s r ev c kept)
            (ready x n (state_at s r ev) standing (subst (λ b. Unbroken b (state_at s r ev)) (sym (restarted_before r all later ev e)) h.unbroken))
        | ended none idle ↦ past_end x n (state_at s r ev) (vote_at_tick (history_of s r ev)) none idle (no_claim s.times n (vote_at_tick (history_of s r ev)) none (λ c. vote_is_right s r ev c kept))
      ]

  begins : Stands []
  begins = record {
    stood = alive (record {
      unheld = λ h _. omega (arith, some, h.enough, h.before);
      unvoted = λ v _. false≢true (sym (none_voted s r all) ∙ v);
    });
    unbroken = tt;
  }

  one_later : (later : List Event) (e : Event) (ev : List Event) → all ≡ later ++ (e ∷ ev) → all ≡ (later ++ (e ∷ [])) ++ ev
  one_later later e ev is = is ∙ sym (append_assoc later (e ∷ []) ev)

  stands : (n : ℕ) → IsKeptUpTo s r n all → (later ev : List Event) → all ≡ later ++ ev → ticks_of r ev ≤ n → Stands ev
  stands n kept later [] e low = begins
  stands n kept later (Tick x ∷ ev) e low =
      elim (cases_Bool (x == r)) [
        | inl here ↦
            let is : x ≡ r = eqb-true x r here in
            let now : all ≡ later ++ (Tick r ∷ ev) = subst (λ (k : ℕ). all ≡ later ++ (Tick k ∷ ev)) is e in
            let room : ticks_of r ev < n = omega (arith, rw here at low) in
            let before : Stands ev = stands n kept (later ++ (Tick x ∷ [])) ev (one_later later (Tick x) ev e) (omega (arith, room)) in
            let ticked : NowTicked ev = tick_from later ev now (kept.ticks later ev now room) before in
            rw here (record { stood = after (voted_edges_of s r all) (ticks_of r ev) _ ticked; unbroken = unbroken_after _ _ (none_restarted r ev (ticks_of r ev + 1) (omega arith)) })
        | inr other ↦ rw other (stands n kept (later ++ (Tick x ∷ [])) ev (one_later later (Tick x) ev e) (rw other at low))
      ]
  stands n kept later (Restart x ∷ ev) e low =
      elim (cases_Bool (x == r)) [
        | inl here ↦
            let is : x ≡ r = eqb-true x r here in
            let now : all ≡ later ++ (Restart r ∷ ev) = subst (λ (k : ℕ). all ≡ later ++ (Restart k ∷ ev)) is e in
            let broken : is_restarted r all (ticks_of r ev) ≡ true = restarted_at r all later ev now in
            rw here (record {
              stood = alive (record { unheld = λ _ u. false≢true (sym u ∙ broken); unvoted = λ _ u. false≢true (sym u ∙ broken) });
              unbroken = tt;
            })
        | inr other ↦ rw other (stands n kept (later ++ (Restart x ∷ [])) ev (one_later later (Restart x) ev e) low)
      ]
  stands n kept later (x ∷ ev) e low = stands n kept (later ++ (x ∷ [])) ev (one_later later x ev e) low

  -- a tick of r among the events
  pub ticked_at : (later ev : List Event) → all ≡ later ++ (Tick r ∷ ev) → IsKeptUpTo s r (ticks_of r ev + 1) all → NowTicked ev
  ticked_at later ev e kept =
      tick_from later ev e (kept.ticks later ev e (omega arith)) (stands (ticks_of r ev + 1) kept (later ++ (Tick r ∷ [])) ev (one_later later (Tick r) ev e) (omega arith))
