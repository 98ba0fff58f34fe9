-- What events that spare a port leave of it; and that a frame that came whole is a true vote.
use Rattle.std.specs.Prelude.{◌↔◌, All, is_some}
use Rattle.std.specs.List.{Contains}
use Rattle.std.proofs.Common.{◌≡◌, ℕ, ◌+◌, ◌-◌, ◌≤◌, true, List, [], ◌∷◌, ◌++◌, Some, inl, inr, refl, sym, ap, subst, ◌∙◌, arith}
use Rattle.std.proofs.lemmas.Bool.{cases_Bool}
use Rattle.std.proofs.lemmas.List.Elements.{All-head, All-tail, All-weaker, All-contains}
use Rattle.irig_time.specs.declared.second.UtcSecond.{UtcSecond}
use Rattle.irig_time.specs.declared.claim.Claim.{Claim}
use Rattle.irig_time.specs.Timelines.{second_at, truth_at}
use Rattle.irig_time.specs.TimelineFaults.{IsTimeline}
use Rattle.irig_reader.specs.declared.report.Lock.TheVariants as lock
use Rattle.irig_reader.specs.declared.report.Cause.TheVariants as cause
use Rattle.irig_plant.specs.declared.event.Event.{Event}
use Rattle.irig_plant.specs.declared.event.Event.TheVariants.{GenEdge, Tick, Carry, Damage, Replay, Raw, Fault, Repair, Restart}
use Rattle.irig_plant.specs.declared.entry.Entry.{Entry}
use Rattle.irig_plant.specs.Schedule.{Setup, setup_at, heard_at, pulses_sent_at, ticks_of, log_of}
use Rattle.irig_plant.specs.Edges.{CanLock, is_voted_now, is_voted, is_restarted, voted_edges_of, IsRun}
use Rattle.irig_vote.specs.Counts.{AtLeast}
use Rattle.irig_plant.specs.Ports.{f_in}
use Rattle.irig_plant.specs.Exactly.{announcement, IsServed}
use Rattle.irig_plant.specs.Health.{HasGenerators, IsHealthyPort}
use Rattle.irig_plant.specs.WholeCarry.{SparesPort, HasWholeCarry, HasWholeRun}
use Rattle.irig_plant.proofs.CourseLaws.{ticks_grow, ticks_now, voted_at, HasTick, has_tick, restarted_by_test}
use Rattle.irig_plant.proofs.Standing.{can_lock}
use Rattle.irig_plant.proofs.ExactLaws.{log_at}
use Rattle.irig_plant.proofs.HealthLaws.{carried_is_healthy, healthy_votes, run_announces}
use Rattle.irig_plant.proofs.HealthyLaws.{truth_there, earlier_there, is_there}

-- ---- one event

spared_heard : (s : Setup) (r p : ℕ) (e : Event) (ev : List Event) → SparesPort r p e → heard_at s r p (e ∷ ev) ≡ heard_at s r p ev
spared_heard s r p (GenEdge g) ev h = refl
spared_heard s r p (Tick x) ev h = rw h.keeps refl
spared_heard s r p (Carry g q) ev h = rw h.brings_none refl
spared_heard s r p (Damage g q at width) ev h = rw h.brings_none refl
spared_heard s r p (Replay g q edge) ev h = rw h.brings_none refl
spared_heard s r p (Raw g q widths) ev h = rw h.brings_none refl
spared_heard s r p (Fault g kind) ev h = refl
spared_heard s r p (Repair g) ev h = refl
spared_heard s r p (Restart x) ev h = rw h.keeps refl

spared_ticks : (r p : ℕ) (e : Event) (ev : List Event) → SparesPort r p e → ticks_of r (e ∷ ev) ≡ ticks_of r ev
spared_ticks r p (Tick x) ev h = rw h.keeps refl
spared_ticks r p e ev h = refl

-- a healthy port stays healthy, and one that is not stays so
pub spared_health : (s : Setup) (r p : ℕ) (e : Event) (ev : List Event) → SparesPort r p e → IsHealthyPort s r (e ∷ ev) p ↔ IsHealthyPort s r ev p
spared_health s r p e ev h =
    let heard = spared_heard s r p e ev h in
    let sent = ap (λ (n : ℕ). pulses_sent_at s p n []) (spared_ticks r p e ev h) in (
      λ healthy. record { port = healthy.port; heard = sym heard ∙ healthy.heard ∙ sent },
      λ healthy. record { port = healthy.port; heard = heard ∙ healthy.heard ∙ sym sent },
    )

-- ---- frames that came whole

stays_healthy : (s : Setup) (r p : ℕ) (later ev : List Event) → All (SparesPort r p) later → IsHealthyPort s r ev p → IsHealthyPort s r (later ++ ev) p
stays_healthy s r p [] ev spared h = h
stays_healthy s r p (e ∷ later) ev spared h =
    (spared_health s r p e (later ++ ev) (All-head (SparesPort r p) e later spared)).1 (stays_healthy s r p later ev (All-tail (SparesPort r p) e later spared) h)

pub whole_is_healthy : (s : Setup) (r p : ℕ) (ev : List Event) → HasWholeCarry s r ev p → IsHealthyPort s r ev p
whole_is_healthy s r p ev h =
    subst (λ (es : List Event). IsHealthyPort s r es p) (sym h.carry)
    (stays_healthy s r p h.later (Carry p r ∷ h.earlier) h.spared (carried_is_healthy s r p h.earlier h.port h.faultless h.edge h.empty))

pub whole_votes : (s : Setup) (r : ℕ) (ev : List Event) (c : Claim) → IsTimeline s.times → HasGenerators s → truth_at s.times (ticks_of r ev) ≡ Some c → AtLeast (f_in s + 1) (HasWholeCarry s r ev) → is_voted_now s r ev ≡ true
whole_votes s r ev c line gens truth h =
    healthy_votes s r ev c line gens truth (record {
      numbers = h.numbers;
      rising = h.rising;
      such = All-weaker (HasWholeCarry s r ev) (IsHealthyPort s r ev) (λ p whole. whole_is_healthy s r p ev whole) h.numbers h.such;
      many = h.many;
    })

-- ---- runs of them

run_of_carries : (s : Setup) (r : ℕ) (ev : List Event) (n count : ℕ) → IsTimeline s.times → HasGenerators s → n ≤ ticks_of r ev → is_some (second_at s.times n) ≡ true → 1 ≤ count → HasWholeRun s r ev n count
    → IsRun (voted_edges_of s r ev) n count
run_of_carries s r ev n count line gens ticked there some run = record {
  some = some;
  fits = run.fits;
  votes = λ i from to.
      let tick : HasTick r ev (i - 1) = has_tick r ev (i - 1) (omega (arith, from, to, ticked, run.fits)) in
      let k : ℕ = ticks_of r tick.earlier in
      let at : i ≡ k + 1 = omega (arith, from, run.fits, tick.ticks) in
      let last : k + (n - k) ≡ n = omega (arith, at, to) in
      let truth = truth_there s.times k (earlier_there s.times k (n - k) (ap (λ (m : ℕ). is_some (second_at s.times m)) last ∙ there)) in
      ap (is_voted s r ev) at ∙ voted_at s r ev tick.later tick.earlier tick.is
      ∙ whole_votes s r tick.earlier truth.0 line gens truth.1 (run.carried tick.later tick.earlier tick.is (omega (arith, at, from)) (omega (arith, at, to)));
  unbroken = λ i from to.
      elim (cases_Bool (is_restarted r ev i)) [
        | inl broken ↦
            let restart = restarted_by_test r ev i broken in
            elim (run.unbroken restart.later restart.earlier restart.restart) [
              | inl before ↦ absurd (omega (arith, before, from, restart.edge))
              | inr after ↦ absurd (omega (arith, after, to, restart.edge))
            ]
        | inr whole ↦ whole
      ];
}

-- what is logged of a tick has come
logged_ticks : (s : Setup) (ev : List Event) → All (λ (e : Entry). e.edge ≤ ticks_of e.reader ev) (log_of s ev)
logged_ticks s ev =
    log_at s ev (λ (e : Entry). e.edge ≤ ticks_of e.reader ev)
    (λ r later earlier is. subst (λ (es : List Event). ticks_of r earlier + 1 ≤ ticks_of r es) (sym is) (omega (arith, ticks_now r earlier, ticks_grow r later (Tick r ∷ earlier)))) [] ev refl

pub whole_run_announces : (s : Setup) (ev : List Event) (e : Entry) (v : UtcSecond) → IsTimeline s.times → HasGenerators s → All CanLock s.readers → Contains (log_of s ev) e → IsServed s ev e v
    → HasWholeRun s e.reader ev e.edge (setup_at s.readers e.reader).rules.lock_after → e.report ≡ announcement v lock.Locked cause.Voted
whole_run_announces s ev e v line gens ruled logged served run =
    let ticked : e.edge ≤ ticks_of e.reader ev = All-contains (λ (x : Entry). x.edge ≤ ticks_of x.reader ev) (log_of s ev) e (logged_ticks s ev) logged in
    let there : is_some (second_at s.times e.edge) ≡ true = is_there (second_at s.times e.edge) v served.second in
    run_announces s ev e v line ruled logged served
    (run_of_carries s e.reader ev e.edge (setup_at s.readers e.reader).rules.lock_after line gens ticked there (can_lock s e.reader ruled) run)
