-- A healthy plant takes whole seconds as long as its timeline has them, its log is known, and its
-- audit is kept.
use Rattle.std.specs.Prelude.{◌↔◌, nat_lt, is_some, map, cond}
use Rattle.std.specs.List.{flat_map, range_with_len}
use Rattle.std.specs.Option.{option_map}
use Rattle.std.proofs.Common.{◌≡◌, ℕ, zero, suc, ◌+◌, ◌-◌, ◌<◌, ◌≤◌, Bool, true, false, List, [], ◌∷◌, ◌++◌, length, Option, Some, None, inl, inr, refl, sym, ap, subst, ◌∙◌, arith, append-nil, append_assoc}
use Rattle.std.proofs.lemmas.Bool.{cases_lt, lt-ltb, le-ltb, ltb-true, ltb-false}
use Rattle.irig_time.specs.declared.second.UtcSecond.{UtcSecond}
use Rattle.irig_time.specs.declared.claim.Claim.{Claim}
use Rattle.irig_time.specs.Timelines.{TimelineValue, IsSecond, day_length, seconds_in, true_claim, second_at, truth_at}
use Rattle.irig_time.specs.TimelineFaults.{first_leap_fault, start_fault, IsTimeline}
use Rattle.irig_time.specs.declared.timeline.TimelineFault.{TimelineFault}
use Rattle.irig_time.proofs.TimeLaws.{neither}
use Rattle.irig_time.proofs.SecondAt.{second_is}
use Rattle.irig_time.proofs.NoGaps.{seconds_before}
use Rattle.irig_gen.specs.Frames.{GeneratorValue}
use Rattle.irig_gen.specs.Sent.{frame_of}
use Rattle.irig_port.specs.declared.told.Told.TheVariants as tells
use Rattle.irig_port.specs.Told.{told_of_widths}
use Rattle.irig_port.proofs.ToldLaws.{none_told}
use Rattle.irig_vote.specs.declared.votes.Tells.{Tells}
use Rattle.irig_vote.specs.Vote.{redundancy_of}
use Rattle.irig_reader.specs.declared.report.Report.{Report}
use Rattle.irig_reader.specs.History.{told_at_tick}
use Rattle.irig_plant.specs.declared.event.Event.{Event}
use Rattle.irig_plant.specs.declared.event.Event.TheVariants.{GenEdge, Tick, Carry}
use Rattle.irig_plant.specs.declared.entry.Entry.{Entry}
use Rattle.irig_plant.specs.declared.audit.Audit.TheVariants.{Kept}
use Rattle.irig_plant.specs.declared.fault.PlantFault.{PlantFault}
use Rattle.irig_plant.specs.Widths.{widths_of}
use Rattle.irig_plant.specs.Schedule.{Setup, no_generator, generator_at, heard_at, pulses_sent, pulses_sent_at, ticks_of, setup_at, history_of, entry_of, log_of}
use Rattle.irig_plant.specs.Refusals.{unless_second}
use Rattle.irig_plant.specs.Runs.{events_after, AreAccepted}
use Rattle.irig_plant.specs.Audits.{audit_of}
use Rattle.irig_plant.specs.History.{IsNew}
use Rattle.irig_plant.specs.Health.{HasGenerators}
use Rattle.irig_plant.specs.WholeSecond.{second_of, times}
use Rattle.irig_plant.specs.HealthyPlant.{seconds_of, IsHealthyPlant, healthy_report, told_of_truth, tells_if_there, all_tell, healthy_entry, healthy_log}
use Rattle.irig_plant.proofs.AuditLaws.{kept_is}
use Rattle.irig_plant.proofs.HealthLaws.{ports_are_generators, healthy_tells, frame_kept, sent_plain}
use Rattle.irig_plant.proofs.SecondEvents.{after_both, carried, carried_to_all, ticked, stepped, Stays, all_carried_stays, heard_beyond, heard_by_all, ticked_generator, other_ticks, other_heard, ticks_by_all, emptied, stepped_ticks, stepped_heard, stepped_log, other_step, stepped_by_all}
use Rattle.irig_plant.proofs.HealthyTicks.{IsHealthyTick, AllHealthy, kept_by_health, says_healthy}

-- ---- the seconds of a timeline

pub some_is : {A : Type 0} (o : Option A) → is_some o ≡ true → (x : A) × (o ≡ Some x)
some_is None h = absurd cc
some_is (Some x) h = (x, refl)

pub is_there : {A : Type 0} (o : Option A) (x : A) → o ≡ Some x → is_some o ≡ true
is_there o x e = ap is_some e

-- a timeline has no gaps
pub earlier_there : (t : TimelineValue) (k n : ℕ) → is_some (second_at t (k + n)) ≡ true → is_some (second_at t k) ≡ true
earlier_there t k n h =
    let last = some_is (second_at t (k + n)) h in
    let u = seconds_before t k n last.0 ((second_is t (k + n) last.0).0 last.1) in
    is_there (second_at t k) u.0 ((second_is t k u.0).1 u.1)

-- and has its start
starts_there : (b c d : Bool) → cond b (Some TimelineFault.BadStart) (cond c (Some TimelineFault.BadStart) (cond d None (Some TimelineFault.BadStart))) ≡ None → (c ≡ false) × (d ≡ true)
starts_there true c d h = absurd cc
starts_there false true d h = absurd cc
starts_there false false true h = (refl, refl)
starts_there false false false h = absurd cc

first_there : (t : TimelineValue) → IsTimeline t → is_some (second_at t 0) ≡ true
first_there t line =
    let sound = (neither (first_leap_fault [] t.leaps) (start_fault t.leaps t.start) line.sound).1 in
    let start = starts_there (nat_lt t.start.day 1) (nat_lt 36523 t.start.day) (nat_lt t.start.sod (day_length t.leaps t.start.day)) sound in
    let none : t.start.day - t.start.day ≡ 0 = omega arith in
    let at : IsSecond t 0 t.start = record {
      from = omega arith;
      to = ltb-false 36523 t.start.day start.0;
      sod = ltb-true t.start.sod (day_length t.leaps t.start.day) start.1;
      sum = omega (arith, ap (seconds_in t.leaps t.start.day) none);
    } in
    is_there (second_at t 0) t.start ((second_is t 0 t.start).1 at)

pub truth_there : (t : TimelineValue) (k : ℕ) → is_some (second_at t k) ≡ true → (c : Claim) × (truth_at t k ≡ Some c)
truth_there t k h =
    let u = some_is (second_at t k) h in
    (true_claim t.leaps u.0, ap (option_map (true_claim t.leaps)) u.1)

-- ---- lists

log_more : {A : Type 0} (f : ℕ → List A) (from n at : ℕ) → from + n ≡ at → flat_map f (range_with_len from (suc n)) ≡ flat_map f (range_with_len from n) ++ f at
log_more f from zero at e = let same : from ≡ at = omega (arith, e) in append-nil (f from) ∙ ap f same
log_more f from (suc n) at e =
    ap (λ rest. f from ++ rest) (log_more f (from + 1) n at (omega (arith, e))) ∙ sym (append_assoc (f from) (flat_map f (range_with_len (from + 1) n)) (f at))

module _ (s : Setup) where
  abbrev generators : ℕ
  generators = length s.generators

  abbrev readers : ℕ
  readers = length s.readers

  abbrev whole_second : List Event
  whole_second = second_of generators readers

  -- ---- where whole seconds leave a plant

  pub record AtSecond (k : ℕ) (ev : List Event) : Type 0 where
    pub ticks : (r : ℕ) → r < readers → ticks_of r ev ≡ k
    pub empty : (r p : ℕ) → r < readers → heard_at s r p ev ≡ []
    pub edges : (g : ℕ) → g < generators → (generator_at s g ev).edge ≡ k
    pub plain : (g : ℕ) → g < generators → (generator_at s g ev).fault ≡ None

  at_start : HasGenerators s → AtSecond 0 []
  at_start gens = record {
    ticks = λ r low. refl;
    empty = λ r p low. refl;
    edges = λ g low. let new : IsNew s.rules (generator_at s g []) = gens.new.new g no_generator low in new.edge;
    plain = λ g low. let new : IsNew s.rules (generator_at s g []) = gens.new.new g no_generator low in new.fault;
  }

  -- the three parts of a second
  abbrev once_carried : List Event → List Event
  once_carried ev = events_after (carried_to_all generators 0 readers) ev

  abbrev once_ticked : List Event → List Event
  once_ticked ev = events_after (ticked 0 readers) (once_carried ev)

  abbrev once_stepped : List Event → List Event
  once_stepped ev = events_after (stepped 0 generators) (once_ticked ev)

  in_parts : (ev : List Event) → events_after whole_second ev ≡ once_stepped ev
  in_parts ev =
      after_both (carried_to_all generators 0 readers) (ticked 0 readers ++ stepped 0 generators) ev
      ∙ after_both (ticked 0 readers) (stepped 0 generators) (once_carried ev)

  module _ (k : ℕ) (ev : List Event) (at : AtSecond k ev) where
    abbrev frames_leave : Stays s ev (once_carried ev)
    frames_leave = all_carried_stays s generators 0 readers ev

    before_steps : (g : ℕ) → generator_at s g (once_ticked ev) ≡ generator_at s g ev
    before_steps g = ticked_generator s g 0 readers (once_carried ev) ∙ frames_leave.generators g

    then_at : AtSecond (k + 1) (once_stepped ev)
    then_at = record {
      ticks = λ r low.
          stepped_ticks s r 0 generators (once_ticked ev) ∙ ticks_by_all s r 0 readers (once_carried ev) (omega arith) (omega (arith, low))
          ∙ ap (λ (n : ℕ). n + 1) (frames_leave.ticks r ∙ at.ticks r low);
      empty = λ r p low. stepped_heard s r p 0 generators (once_ticked ev) ∙ emptied s r p 0 readers (once_carried ev) (omega arith) (omega (arith, low));
      edges = λ g low.
          ap (λ (x : GeneratorValue). x.edge) (stepped_by_all s g 0 generators (once_ticked ev) (omega arith) (omega (arith, low)))
          ∙ ap (λ (x : GeneratorValue). x.edge + 1) (before_steps g) ∙ ap (λ (n : ℕ). n + 1) (at.edges g low);
      plain = λ g low.
          ap (λ (x : GeneratorValue). x.fault) (stepped_by_all s g 0 generators (once_ticked ev) (omega arith) (omega (arith, low)))
          ∙ ap (λ (x : GeneratorValue). x.fault) (before_steps g) ∙ at.plain g low;
    }

  second_later : (k : ℕ) (ev : List Event) → AtSecond k ev → AtSecond (k + 1) (events_after whole_second ev)
  second_later k ev at = subst (λ (es : List Event). AtSecond (k + 1) es) (sym (in_parts ev)) (then_at k ev at)

  -- ---- what is accepted

  pub both_accepted : (a b ev : List Event) → AreAccepted s a ev → AreAccepted s b (events_after a ev) → AreAccepted s (a ++ b) ev
  both_accepted [] b ev h k = k
  both_accepted (e ∷ a) b ev h k = (h.0, both_accepted a b (e ∷ ev) h.1 k)

  pub parts_accepted : (a b ev : List Event) → AreAccepted s (a ++ b) ev → AreAccepted s a ev × AreAccepted s b (events_after a ev)
  parts_accepted [] b ev h = (tt, h)
  parts_accepted (e ∷ a) b ev h = let rest = parts_accepted a b (e ∷ ev) h.1 in ((h.0, rest.0), rest.1)

  frames_accepted : (r g n : ℕ) (ev : List Event) → r < readers → g + n ≤ generators → AreAccepted s (carried r g n) ev
  frames_accepted r g zero ev low few = tt
  frames_accepted r g (suc n) ev low few =
      (rw (lt-ltb r readers low, lt-ltb g generators (omega (arith, few))) refl, frames_accepted r (g + 1) n (Carry g r ∷ ev) low (omega (arith, few)))

  carries_accepted : (r n : ℕ) (ev : List Event) → r + n ≤ readers → AreAccepted s (carried_to_all generators r n) ev
  carries_accepted r zero ev few = tt
  carries_accepted r (suc n) ev few =
      both_accepted (carried r 0 generators) (carried_to_all generators (r + 1) n) ev (frames_accepted r 0 generators ev (omega (arith, few)) (omega arith))
      (carries_accepted (r + 1) n (events_after (carried r 0 generators) ev) (omega (arith, few)))

  ticks_accepted : (k r n : ℕ) (ev : List Event) → is_some (second_at s.times k) ≡ true → r + n ≤ readers → ((q : ℕ) → r ≤ q → q < readers → ticks_of q ev ≡ k) → AreAccepted s (ticked r n) ev
  ticks_accepted k r zero ev there few at = tt
  ticks_accepted k r (suc n) ev there few at = (
    rw (lt-ltb r readers (omega (arith, few)), at r (omega arith) (omega (arith, few)), there) refl,
    ticks_accepted k (r + 1) n (Tick r ∷ ev) there (omega (arith, few)) (λ q from low. other_ticks s q r ev (λ e. omega (arith, e, from)) ∙ at q (omega (arith, from)) low),
  )

  steps_accepted : (k g n : ℕ) (ev : List Event) → is_some (second_at s.times (k + 1)) ≡ true → g + n ≤ generators → ((x : ℕ) → g ≤ x → x < generators → (generator_at s x ev).edge ≡ k) → AreAccepted s (stepped g n) ev
  steps_accepted k g zero ev there few at = tt
  steps_accepted k g (suc n) ev there few at = (
    rw (lt-ltb g generators (omega (arith, few)), at g (omega arith) (omega (arith, few)), there) refl,
    steps_accepted k (g + 1) n (GenEdge g ∷ ev) there (omega (arith, few))
        (λ x from low. ap (λ (y : GeneratorValue). y.edge) (other_step s x g ev (λ e. omega (arith, e, from))) ∙ at x (omega (arith, from)) low),
  )

  there_unless : (b : Bool) → ◌≡◌ {A = Option PlantFault} (cond b None (Some PlantFault.EndOfYears)) None → b ≡ true
  there_unless true h = refl
  there_unless false h = absurd cc

  first_step : (k n : ℕ) (ev : List Event) → 1 ≤ n → n ≤ generators → (generator_at s 0 ev).edge ≡ k → AreAccepted s (stepped 0 n) ev → is_some (second_at s.times (k + 1)) ≡ true
  first_step k zero ev some few at h = absurd (omega (arith, some))
  first_step k (suc n) ev some few at h =
      let step : unless_second s (k + 1) ≡ None = rw (lt-ltb 0 generators (omega (arith, few)), at) at h.0 in
      there_unless (is_some (second_at s.times (k + 1))) step

  module _ (gens : HasGenerators s) where
    some_generator : 1 ≤ generators
    some_generator = elim gens.new.count [ inl three ↦ omega (arith, three) | inr five ↦ omega (arith, five) ]

    -- a second is taken if the next one exists
    pub second_accepted : (k : ℕ) (ev : List Event) → AtSecond k ev → is_some (second_at s.times k) ≡ true → (AreAccepted s whole_second ev) ↔ (is_some (second_at s.times (k + 1)) ≡ true)
    second_accepted k ev at there = (
      λ h.
          let late = parts_accepted (carried_to_all generators 0 readers) (ticked 0 readers ++ stepped 0 generators) ev h in
          let last = parts_accepted (ticked 0 readers) (stepped 0 generators) (once_carried ev) late.1 in
          first_step k generators (once_ticked ev) some_generator (omega arith) (edge_then 0 (omega (arith, some_generator))) last.1,
      λ next.
          both_accepted (carried_to_all generators 0 readers) (ticked 0 readers ++ stepped 0 generators) ev (carries_accepted 0 readers ev (omega arith))
          (both_accepted (ticked 0 readers) (stepped 0 generators) (once_carried ev)
          (ticks_accepted k 0 readers (once_carried ev) there (omega arith) (λ q from low. (frames_leave k ev at).ticks q ∙ at.ticks q low))
          (steps_accepted k 0 generators (once_ticked ev) next (omega arith) (λ x from low. edge_then x low))),
    )
      where
        edge_then : (x : ℕ) → x < generators → (generator_at s x (once_ticked ev)).edge ≡ k
        edge_then x low = ap (λ (y : GeneratorValue). y.edge) (before_steps k ev at x) ∙ at.edges x low

    seconds_accepted : (n k : ℕ) (ev : List Event) → AtSecond k ev → is_some (second_at s.times k) ≡ true → (AreAccepted s (times n whole_second) ev) ↔ (is_some (second_at s.times (k + n)) ≡ true)
    seconds_accepted zero k ev at there = let same : k + 0 ≡ k = omega arith in (λ h. ap (λ (m : ℕ). is_some (second_at s.times m)) same ∙ there, λ h. tt)
    seconds_accepted (suc n) k ev at there =
        let next : k + suc n ≡ k + 1 + n = omega arith in (
          λ h.
              let parts = parts_accepted whole_second (times n whole_second) ev h in
              let more = (second_accepted k ev at there).0 parts.0 in
              ap (λ (m : ℕ). is_some (second_at s.times m)) next ∙ (seconds_accepted n (k + 1) (events_after whole_second ev) (second_later k ev at) more).0 parts.1,
          λ h.
              let last = sym (ap (λ (m : ℕ). is_some (second_at s.times m)) next) ∙ h in
              let more = earlier_there s.times (k + 1) n last in
              both_accepted whole_second (times n whole_second) ev ((second_accepted k ev at there).1 more)
              ((seconds_accepted n (k + 1) (events_after whole_second ev) (second_later k ev at) more).1 last),
        )

  -- ---- what is logged

  log_of_second : (k : ℕ) → healthy_log s (k + 1) ≡ healthy_log s k ++ map (healthy_entry s (k + 1)) (range_with_len 0 readers)
  log_of_second k = let next : k + 1 ≡ suc k = omega arith in ap (healthy_log s) next ∙ log_more (λ edge. map (healthy_entry s edge) (range_with_len 0 readers)) 1 k (k + 1) (omega arith)

  carries_healthy : (r g n : ℕ) (ev : List Event) → AllHealthy s ev → AllHealthy s (events_after (carried r g n) ev)
  carries_healthy r g zero ev h = h
  carries_healthy r g (suc n) ev h = carries_healthy r (g + 1) n (Carry g r ∷ ev) h

  all_carries_healthy : (r n : ℕ) (ev : List Event) → AllHealthy s ev → AllHealthy s (events_after (carried_to_all generators r n) ev)
  all_carries_healthy r zero ev h = h
  all_carries_healthy r (suc n) ev h =
      subst (λ (es : List Event). AllHealthy s es) (sym (after_both (carried r 0 generators) (carried_to_all generators (r + 1) n) ev))
      (all_carries_healthy (r + 1) n (events_after (carried r 0 generators) ev) (carries_healthy r 0 generators ev h))

  steps_healthy : (g n : ℕ) (ev : List Event) → AllHealthy s ev → AllHealthy s (events_after (stepped g n) ev)
  steps_healthy g zero ev h = h
  steps_healthy g (suc n) ev h = steps_healthy (g + 1) n (GenEdge g ∷ ev) h

  -- the reader's ticks so far are k, and each of its ports heard what its generator sends of edge k
  record IsReady (k : ℕ) (ev : List Event) (r : ℕ) : Type 0 where
    ticks : ticks_of r ev ≡ k
    heard : (p : ℕ) → p < generators → heard_at s r p ev ≡ pulses_sent_at s p k []
    silent : (p : ℕ) → generators ≤ p → heard_at s r p ev ≡ []

  record IsHealthySince (ev after : List Event) (more : List Entry) : Type 0 where
    healthy : AllHealthy s after
    log : log_of s after ≡ log_of s ev ++ more

  module _ (plant : IsHealthyPlant s) where
    ready_once : (k : ℕ) (ev : List Event) → AtSecond k ev → (r : ℕ) → r < readers → IsReady k (once_carried ev) r
    ready_once k ev at r low = record {
      ticks = (frames_leave k ev at).ticks r ∙ at.ticks r low;
      heard = λ p port.
          let sent : pulses_sent s p ev ≡ pulses_sent_at s p k [] =
          ap widths_of (sent_plain (generator_at s p ev) s.times (at.plain p port) ∙ ap (frame_of None (generator_at s p ev) s.times) (at.edges p port) ∙ frame_kept s p ev k) in
          heard_by_all s generators r p 0 readers ev port (omega arith) (omega (arith, low)) ∙ ap (λ (w : List ℕ). w ++ pulses_sent s p ev) (at.empty r p low) ∙ sent;
      silent = λ p beyond. heard_beyond s generators r p 0 readers ev beyond ∙ at.empty r p low;
    }

    ready_tick : (k r : ℕ) (ev : List Event) (c : Claim) → truth_at s.times k ≡ Some c → IsReady k ev r → IsHealthyTick s r ev
    ready_tick k r ev c truth ready = record {
      claim = c;
      truth = ap (truth_at s.times) ready.ticks ∙ truth;
      ports = λ p low. record {
        port = low;
        heard = ready.heard p (omega (arith, low, ports_are_generators s plant.generators)) ∙ ap (λ (m : ℕ). pulses_sent_at s p m []) (sym ready.ticks);
      };
    }

    tells_it : (k r : ℕ) (ev : List Event) (c : Claim) → truth_at s.times k ≡ Some c → IsReady k ev r → (p : ℕ) → told_of_widths s.rules (heard_at s r p ev) ≡ tells_if_there generators (tells.Claim c) p
    unfolding ready_tick
    tells_it k r ev c truth ready p =
        let tick = ready_tick k r ev c truth ready in
        elim (cases_lt p generators) [
          | inl low ↦ rw (lt-ltb p generators low) (healthy_tells s r p ev c plant.timeline plant.generators tick.truth (tick.ports p (omega (arith, low, ports_are_generators s plant.generators))))
          | inr high ↦ rw (le-ltb p generators high, ready.silent p high) (none_told s.rules [] refl)
        ]

    all_tell_it : (k r : ℕ) (ev : List Event) (c : Claim) → truth_at s.times k ≡ Some c → IsReady k ev r → told_at_tick (history_of s r ev) ≡ all_tell generators (tells.Claim c)
    all_tell_it k r ev c truth ready =
        let tells = tells_it k r ev c truth ready in rw (tells 0, tells 1, tells 2, tells 3, tells 4) refl

    abbrev logged : ℕ → ℕ → Report → Tells → Option Claim → Entry
    logged r n said told truth = record { reader = r; edge = n; report = said; redundancy = redundancy_of generators; told = told; truth = truth }

    entry_there : (k r : ℕ) (ev : List Event) (c : Claim) (v : UtcSecond) → truth_at s.times k ≡ Some c → second_at s.times (k + 1) ≡ Some v → IsReady k ev r → AllHealthy s (Tick r ∷ ev) → entry_of s r ev ≡ healthy_entry s (k + 1) r
    entry_there k r ev c v truth second ready h =
        let ticks = ready.ticks in
        let says = says_healthy s plant r ev h v (ap (λ (m : ℕ). second_at s.times (m + 1)) ticks ∙ second) in
        let said : ℕ → Report = healthy_report s.times (setup_at s.readers r).rules in
        let before : k ≡ k + 1 - 1 = omega arith in
        ap (λ (x : Report). logged r (ticks_of r ev + 1) x (told_at_tick (history_of s r ev)) (truth_at s.times (ticks_of r ev))) says
        ∙ ap (λ (x : Tells). logged r (ticks_of r ev + 1) (said (ticks_of r ev + 1)) x (truth_at s.times (ticks_of r ev))) (all_tell_it k r ev c truth ready)
        ∙ ap (λ (m : ℕ). logged r (m + 1) (said (m + 1)) (all_tell generators (tells.Claim c)) (truth_at s.times m)) ticks
        ∙ ap (λ (o : Option Claim). logged r (k + 1) (said (k + 1)) (all_tell generators (told_of_truth o)) (truth_at s.times k)) (sym truth)
        ∙ ap (λ (m : ℕ). logged r (k + 1) (said (k + 1)) (all_tell generators (told_of_truth (truth_at s.times m))) (truth_at s.times m)) before

    other_ready : (k r q : ℕ) (ev : List Event) → ¬ (r ≡ q) → IsReady k ev q → IsReady k (Tick r ∷ ev) q
    other_ready k r q ev other ready = record { ticks = other_ticks s q r ev other ∙ ready.ticks; heard = λ p port. other_heard s q p r ev other ∙ ready.heard p port; silent = λ p beyond. other_heard s q p r ev other ∙ ready.silent p beyond }

    ticks_log : (k r n : ℕ) (ev : List Event) (c : Claim) (v : UtcSecond) → truth_at s.times k ≡ Some c → second_at s.times (k + 1) ≡ Some v → ((q : ℕ) → r ≤ q → q < r + n → IsReady k ev q) → AllHealthy s ev
        → IsHealthySince ev (events_after (ticked r n) ev) (map (healthy_entry s (k + 1)) (range_with_len r n))
    ticks_log k r zero ev c v truth second ready h = record { healthy = h; log = sym (append-nil (log_of s ev)) }
    ticks_log k r (suc n) ev c v truth second ready h =
        let here : IsReady k ev r = ready r (omega arith) (omega arith) in
        let now : AllHealthy s (Tick r ∷ ev) = (ready_tick k r ev c truth here, h) in
        let rest =
        ticks_log k (r + 1) n (Tick r ∷ ev) c v truth second (λ q from low. other_ready k r q ev (λ e. omega (arith, e, from)) (ready q (omega (arith, from)) (omega (arith, low)))) now in
        let others = map (healthy_entry s (k + 1)) (range_with_len (r + 1) n) in
        record {
          healthy = rest.healthy;
          log = rest.log ∙ append_assoc (log_of s ev) (entry_of s r ev ∷ []) others ∙ ap (λ (e : Entry). log_of s ev ++ e ∷ others) (entry_there k r ev c v truth second here now);
        }

    pub record HasHealthyLog (k : ℕ) (ev : List Event) : Type 0 where
      pub at : AtSecond k ev
      pub healthy : AllHealthy s ev
      pub log : log_of s ev ≡ healthy_log s k

    pub one_second : (k : ℕ) (ev : List Event) → HasHealthyLog k ev → is_some (second_at s.times (k + 1)) ≡ true → HasHealthyLog (k + 1) (events_after whole_second ev)
    one_second k ev h there =
        let truth = truth_there s.times k (earlier_there s.times k 1 there) in
        let next = some_is (second_at s.times (k + 1)) there in
        let ticked_on =
        ticks_log k 0 readers (once_carried ev) truth.0 next.0 truth.1 next.1 (λ q from low. ready_once k ev h.at q (omega (arith, low))) (all_carries_healthy 0 readers ev h.healthy) in
        subst (λ (es : List Event). HasHealthyLog (k + 1) es) (sym (in_parts ev)) (record {
          at = then_at k ev h.at;
          healthy = steps_healthy 0 generators (once_ticked ev) ticked_on.healthy;
          log = stepped_log s 0 generators (once_ticked ev) ∙ ticked_on.log ∙ ap (λ l. l ++ map (healthy_entry s (k + 1)) (range_with_len 0 readers)) ((frames_leave k ev h.at).log ∙ h.log) ∙ sym (log_of_second k);
        })

    many_seconds : (n k : ℕ) (ev : List Event) → HasHealthyLog k ev → is_some (second_at s.times (k + n)) ≡ true → HasHealthyLog (k + n) (events_after (times n whole_second) ev)
    many_seconds zero k ev h there = let same : k ≡ k + 0 = omega arith in subst (λ (m : ℕ). HasHealthyLog m ev) same h
    many_seconds (suc n) k ev h there =
        let next : k + suc n ≡ k + 1 + n = omega arith in
        let last = sym (ap (λ (m : ℕ). is_some (second_at s.times m)) next) ∙ there in
        let rest = many_seconds n (k + 1) (events_after whole_second ev) (one_second k ev h (earlier_there s.times (k + 1) n last)) last in
        subst (λ (es : List Event). HasHealthyLog (k + suc n) es) (sym (after_both whole_second (times n whole_second) ev)) (subst (λ (m : ℕ). HasHealthyLog m (events_after (times n whole_second) (events_after whole_second ev))) (sym next) rest)

    pub from_start : (n : ℕ) → is_some (second_at s.times n) ≡ true → HasHealthyLog n (events_after (seconds_of s n) [])
    from_start n there =
        let same : 0 + n ≡ n = omega arith in
        subst (λ (m : ℕ). HasHealthyLog m (events_after (seconds_of s n) [])) same
        (many_seconds n 0 [] (record { at = at_start plant.generators; healthy = tt; log = refl }) (ap (λ (m : ℕ). is_some (second_at s.times m)) same ∙ there))

-- ---- the law

-- whatever the tables and the rules of its readers
pub takes_seconds_so_far : (s : Setup) (n : ℕ) → IsTimeline s.times → HasGenerators s → (AreAccepted s (seconds_of s n) []) ↔ (is_some (second_at s.times n) ≡ true)
takes_seconds_so_far s n line gens =
    let same : 0 + n ≡ n = omega arith in
    subst (λ (m : ℕ). (AreAccepted s (seconds_of s n) []) ↔ (is_some (second_at s.times m) ≡ true)) same
    (seconds_accepted s gens n 0 [] (at_start s gens) (first_there s.times line))

pub takes_seconds : (s : Setup) (n : ℕ) → IsHealthyPlant s → (AreAccepted s (seconds_of s n) []) ↔ (is_some (second_at s.times n) ≡ true)
takes_seconds s n plant = takes_seconds_so_far s n plant.timeline plant.generators

pub logs_health : (s : Setup) (n : ℕ) → IsHealthyPlant s → is_some (second_at s.times n) ≡ true → log_of s (events_after (seconds_of s n) []) ≡ healthy_log s n
logs_health s n plant there = (from_start s plant n there).log

pub keeps_health : (s : Setup) (n : ℕ) → IsHealthyPlant s → is_some (second_at s.times n) ≡ true → audit_of s (events_after (seconds_of s n) []) ≡ Kept
keeps_health s n plant there =
    let ev = events_after (seconds_of s n) [] in
    (kept_is s ev).1 (kept_by_health s plant ev (from_start s plant n there).healthy)
