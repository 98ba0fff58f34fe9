-- If every port of every tick so far heard just what its generator sends, and no reader was
-- restarted: all edges are voted, no premise is broken, and what readers say is known.
use Rattle.std.specs.Prelude.{is_some, All, ⊤}
use Rattle.std.specs.List.{Contains}
use Rattle.std.proofs.Common.{◌≡◌, ℕ, ◌+◌, ◌-◌, ◌<◌, ◌≤◌, true, false, List, [], ◌∷◌, ◌++◌, length, Option, Some, inl, inr, refl, sym, ap, subst, ◌∙◌, arith}
use Rattle.std.proofs.lemmas.Bool.{false≢true, cases_Bool, cases_lt, lt-ltb, le-ltb}
use Rattle.std.proofs.lemmas.List.Elements.{All-nil, All-cons, All-head, All-weaker, All-contains, Contains-push}
use Rattle.irig_time.specs.declared.second.UtcSecond.{UtcSecond}
use Rattle.irig_time.specs.declared.claim.Claim.{Claim}
use Rattle.irig_time.specs.Timelines.{second_at, truth_at, IsTrueClaim}
use Rattle.irig_port.specs.declared.told.Told.{Told}
use Rattle.irig_port.specs.declared.told.Told.TheVariants as tells
use Rattle.irig_port.specs.Heard.{symbols_of}
use Rattle.irig_port.proofs.CarriesLaws.{carries_is_told}
use Rattle.irig_vote.specs.declared.redundancy.Redundancy.{Redundancy}
use Rattle.irig_vote.specs.declared.redundancy.Redundancy.TheVariants.{One, Three, Five}
use Rattle.irig_vote.specs.Vote.{f_of, ports_in, redundancy_of}
use Rattle.irig_reader.specs.declared.report.Lock.TheVariants as lock
use Rattle.irig_reader.specs.declared.report.Cause.TheVariants as cause
use Rattle.irig_reader.specs.declared.report.Report.{Report}
use Rattle.irig_reader.specs.declared.rules.ReaderRules.{ReaderRules}
use Rattle.irig_reader.specs.Rules.{IsReaderRules}
use Rattle.irig_plant.specs.declared.event.Event.{Event}
use Rattle.irig_plant.specs.declared.event.Event.TheVariants.{Tick, Restart}
use Rattle.irig_plant.specs.Schedule.{Setup, setup_at, heard_at, ticks_of, entry_of, log_of}
use Rattle.irig_plant.specs.Audits.{is_broken_now}
use Rattle.irig_plant.specs.Edges.{voted_edges_of, is_voted_now, is_voted, is_restarted, CanLock, IsHeld, IsRun}
use Rattle.irig_vote.specs.Counts.{AtLeast, AtMost}
use Rattle.irig_plant.specs.Ports.{f_in, IsTruePort, IsUntruePort}
use Rattle.irig_plant.specs.Premises.{IsKeptUpTo, IsKept}
use Rattle.irig_plant.specs.Exactly.{silence, IsServed, AnnouncesWhenHeld, WasHeld, IsSilence, HasItsCause}
use Rattle.irig_plant.specs.Health.{IsHealthyPort}
use Rattle.irig_plant.specs.HealthyPlant.{IsHealthyPlant, healthy_report}
use Rattle.irig_plant.proofs.PortLaws.{kept_by_ports}
use Rattle.irig_plant.proofs.CourseLaws.{ticks_now, voted_at, HasTick, has_tick}
use Rattle.irig_plant.proofs.HealthLaws.{healthy_is_true, healthy_votes, run_announces}
use Rattle.irig_plant.proofs.ExactLaws.{log_when_held, log_tells_cause}
use Rattle.irig_plant.proofs.Standing.{can_lock}
use Rattle.irig_plant.proofs.KeptLaws.{starts_late, table_true}

-- a tick of r that comes now has a truth, and each port heard just what carries it
pub record IsHealthyTick (s : Setup) (r : ℕ) (ev : List Event) : Type 0 where
  pub claim : Claim
  pub truth : truth_at s.times (ticks_of r ev) ≡ Some claim
  pub ports : (p : ℕ) → p < ports_in (redundancy_of (length s.generators)) → IsHealthyPort s r ev p

-- all ticks so far were such, and no reader was restarted
abbrev pub AllHealthy : Setup → List Event → Type 0
AllHealthy s [] = ⊤
AllHealthy s (Tick r ∷ ev) = IsHealthyTick s r ev × AllHealthy s ev
AllHealthy s (Restart r ∷ ev) = ⊥
AllHealthy s (_ ∷ ev) = AllHealthy s ev

healthy_at : (s : Setup) (r : ℕ) (later ev : List Event) → AllHealthy s (later ++ (Tick r ∷ ev)) → IsHealthyTick s r ev
healthy_at s r [] ev h = h.0
healthy_at s r (Tick x ∷ later) ev h = healthy_at s r later ev h.1
healthy_at s r (Restart x ∷ later) ev h = absurd h
healthy_at s r (e ∷ later) ev h = healthy_at s r later ev h

unrestarted : (s : Setup) (r i : ℕ) (ev : List Event) → AllHealthy s ev → is_restarted r ev i ≡ false
unrestarted s r i [] h = refl
unrestarted s r i (Tick x ∷ ev) h = unrestarted s r i ev h.1
unrestarted s r i (Restart x ∷ ev) h = absurd h
unrestarted s r i (e ∷ ev) h = unrestarted s r i ev h

-- ---- a healthy tick is voted, and breaks no premise

majority : (redundancy : Redundancy) (IsSuch : ℕ → Type 0) → ((p : ℕ) → p < ports_in redundancy → IsSuch p) → AtLeast (f_of redundancy + 1) IsSuch
majority One IsSuch all = record {
  numbers = 0 ∷ [];
  rising = (omega arith, tt);
  such = All-cons IsSuch 0 [] (all 0 (omega arith)) (All-nil IsSuch);
  many = omega arith;
}
majority Three IsSuch all = record {
  numbers = 0 ∷ 1 ∷ [];
  rising = (omega arith, (omega arith, tt));
  such = All-cons IsSuch 0 (1 ∷ []) (all 0 (omega arith)) (All-cons IsSuch 1 [] (all 1 (omega arith)) (All-nil IsSuch));
  many = omega arith;
}
majority Five IsSuch all = record {
  numbers = 0 ∷ 1 ∷ 2 ∷ [];
  rising = (omega arith, (omega arith, (omega arith, tt)));
  such = All-cons IsSuch 0 (1 ∷ 2 ∷ []) (all 0 (omega arith)) (All-cons IsSuch 1 (2 ∷ []) (all 1 (omega arith)) (All-cons IsSuch 2 [] (all 2 (omega arith)) (All-nil IsSuch)));
  many = omega arith;
}

none_such : (few : ℕ) (IsSuch : ℕ → Type 0) → ((p : ℕ) → ¬ IsSuch p) → AtMost few IsSuch
none_such few IsSuch none [] rising such = omega arith
none_such few IsSuch none (p ∷ ns) rising such = absurd (none p (All-head IsSuch p ns such))

module _ (s : Setup) (plant : IsHealthyPlant s) where
  module _ (r : ℕ) (ev : List Event) (h : IsHealthyTick s r ev) where
    -- a port carries one claim at most
    not_untrue : (p : ℕ) → ¬ IsUntruePort s r ev p
    not_untrue p bad =
        let good : IsTruePort s r ev p = healthy_is_true s r ev h.claim p plant.timeline plant.generators h.truth (h.ports p bad.heard.port) in
        let symbols = symbols_of (heard_at s r p ev) in
        let told : ◌≡◌ {A = Told} (tells.Claim good.claim) (tells.Claim bad.claim) =
        sym ((carries_is_told s.rules symbols good.claim).1 good.heard.carries) ∙ (carries_is_told s.rules symbols bad.claim).1 bad.heard.carries in
        let same : good.claim ≡ bad.claim = cc in
        bad.untrue (subst (λ (c : Claim). IsTrueClaim s.times (ticks_of r ev + 1) c) same good.is_true)

    kept_tick : is_broken_now s r ev ≡ false
    kept_tick = (kept_by_ports s r ev).1 (none_such (f_in s) (IsUntruePort s r ev) not_untrue)

    voted_tick : is_voted_now s r ev ≡ true
    voted_tick = healthy_votes s r ev h.claim plant.timeline plant.generators h.truth (majority (redundancy_of (length s.generators)) (IsHealthyPort s r ev) h.ports)

  -- ---- the premises, and the votes

  kept_up_to : (r n : ℕ) (ev : List Event) → AllHealthy s ev → IsKeptUpTo s r n ev
  kept_up_to r n ev h = record {
    ticks = λ later earlier is low. kept_tick r earlier (healthy_at s r later earlier (subst (λ (es : List Event). AllHealthy s es) is h));
  }

  pub kept_by_health : (ev : List Event) → AllHealthy s ev → IsKept s ev
  kept_by_health ev h = record { tables = plant.tables; ticks = λ r n. kept_up_to r n ev h }

  voted_up_to : (r i : ℕ) (ev : List Event) → AllHealthy s ev → 1 ≤ i → i ≤ ticks_of r ev → is_voted s r ev i ≡ true
  voted_up_to r i ev h from to =
      let tick : HasTick r ev (i - 1) = has_tick r ev (i - 1) (omega arith) in
      let at : i ≡ ticks_of r tick.earlier + 1 = omega (arith, tick.ticks) in
      ap (is_voted s r ev) at ∙ voted_at s r ev tick.later tick.earlier tick.is
      ∙ voted_tick r tick.earlier (healthy_at s r tick.later tick.earlier (subst (λ (es : List Event). AllHealthy s es) tick.is h))

  -- so many edges are a run
  run_to : (r n count : ℕ) (ev : List Event) → AllHealthy s ev → n ≤ ticks_of r ev → 1 ≤ count → count ≤ n → IsRun (voted_edges_of s r ev) n count
  run_to r n count ev h low some fits = record {
    some = some;
    fits = fits;
    votes = λ i from to. voted_up_to r i ev h (omega arith) (omega arith);
    unbroken = λ i from to. unrestarted s r i ev h;
  }

  -- ---- what a reader says

  all_can_lock : All CanLock s.readers
  all_can_lock = All-weaker (λ x. IsReaderRules x.rules) CanLock (λ x h. h.lock_after.0) s.readers plant.readers.range

  counts_all : (r n : ℕ) (ev : List Event) (held : Type 0) (said : Report) → AllHealthy s ev → 1 ≤ n → n ≤ ticks_of r ev → IsSilence (voted_edges_of s r ev) held n said → said ≡ silence (lock.Acquiring n) cause.Acquiring
  counts_all r n ev held said h from to (inl counting) =
      let all : n ≤ counting.count = counting.run.longest n (run_to r n n ev h to from (omega arith)) in
      let same : counting.count ≡ n = omega (arith, all, counting.run.run.fits) in
      counting.report ∙ ap (λ (k : ℕ). silence (lock.Acquiring k) cause.Acquiring) same
  counts_all r n ev held said h from to (inr (inl expired)) = absurd (false≢true (sym expired.unvoted ∙ voted_up_to r n ev h from to))
  counts_all r n ev held said h from to (inr (inr (inl stopped))) = absurd (false≢true (sym stopped.unvoted ∙ voted_up_to r n ev h from to))
  counts_all r n ev held said h from to (inr (inr (inr voteless))) = absurd (false≢true (sym voteless.unvoted ∙ voted_up_to r n ev h from to))

  module _ (r : ℕ) (ev : List Event) (h : AllHealthy s (Tick r ∷ ev)) (v : UtcSecond) (second : second_at s.times (ticks_of r ev + 1) ≡ Some v) where
    abbrev reader_rules : ReaderRules
    reader_rules = (setup_at s.readers r).rules

    abbrev edge : ℕ
    edge = ticks_of r ev + 1

    abbrev logged : Contains (log_of s (Tick r ∷ ev)) (entry_of s r ev)
    logged = Contains-push (log_of s ev) (entry_of s r ev)

    served : IsServed s (Tick r ∷ ev) (entry_of s r ev) v
    served = record {
      second = second;
      premises = record { true_table = table_true s.times s.readers r (starts_late s.times plant.timeline) plant.tables; kept = kept_up_to r edge (Tick r ∷ ev) h };
    }

    reached : edge ≤ ticks_of r (Tick r ∷ ev)
    reached = omega (arith, ticks_now r ev)

    announces : reader_rules.lock_after ≤ edge → (entry_of s r ev).report ≡ record { announce = Some v; lock = lock.Locked; cause = cause.Voted }
    announces late =
        run_announces s (Tick r ∷ ev) (entry_of s r ev) v plant.timeline all_can_lock logged served (run_to r edge reader_rules.lock_after (Tick r ∷ ev) h reached (can_lock s r all_can_lock) late)

    counts : edge < reader_rules.lock_after → (entry_of s r ev).report ≡ silence (lock.Acquiring edge) cause.Acquiring
    counts early =
        let exact : AnnouncesWhenHeld s (Tick r ∷ ev) (entry_of s r ev) =
        All-contains (AnnouncesWhenHeld s (Tick r ∷ ev)) (log_of s (Tick r ∷ ev)) (entry_of s r ev) (log_when_held s (Tick r ∷ ev) plant.timeline all_can_lock) logged in
        let told : HasItsCause s (Tick r ∷ ev) (entry_of s r ev) =
        All-contains (HasItsCause s (Tick r ∷ ev)) (log_of s (Tick r ∷ ev)) (entry_of s r ev) (log_tells_cause s (Tick r ∷ ev) plant.timeline all_can_lock) logged in
        let silent : is_some (entry_of s r ev).report.announce ≡ false =
        elim (cases_Bool (is_some (entry_of s r ev).report.announce)) [
          | inl says ↦
              let held : IsHeld (voted_edges_of s r (Tick r ∷ ev)) edge = (exact.exactly v served).0 says in
              absurd (omega (arith, early, held.enough, held.before))
          | inr none ↦ none
        ] in
        counts_all r edge (Tick r ∷ ev) (WasHeld s (Tick r ∷ ev) r edge) (entry_of s r ev).report h (omega arith) reached (told.cause v served silent)

    pub says_healthy : (entry_of s r ev).report ≡ healthy_report s.times reader_rules edge
    says_healthy =
        elim (cases_lt edge reader_rules.lock_after) [
          | inl early ↦ rw (lt-ltb edge reader_rules.lock_after early) (counts early)
          | inr late ↦ rw (le-ltb edge reader_rules.lock_after late) (announces late ∙ ap (λ (o : Option UtcSecond). let said : Report = record { announce = o; lock = lock.Locked; cause = cause.Voted } in said) (sym second))
        ]
