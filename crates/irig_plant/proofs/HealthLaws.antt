-- A port that heard what a generator without fault sends carries the true claim, and a run of edges
-- at which enough ports do is announced.
use Rattle.std.specs.Prelude.{◌==◌, All, is_some}
use Rattle.std.specs.List.{Contains}
use Rattle.std.proofs.Common.{◌≡◌, ℕ, ◌+◌, ◌<◌, Bool, true, false, cond, List, [], ◌∷◌, length, get_or, Option, Some, None, inl, inr, refl, ap, subst, ◌∙◌, arith}
use Rattle.std.proofs.lemmas.Bool.{eq-eqb, cases_Bool, cases_lt}
use Rattle.std.proofs.lemmas.List.Elements.{All-contains, All-weaker}
use Rattle.irig_time.specs.declared.second.UtcSecond.{UtcSecond}
use Rattle.irig_time.specs.declared.claim.Claim.{Claim}
use Rattle.irig_time.specs.declared.rules.Rules.{Rules}
use Rattle.irig_time.specs.Timelines.{TimelineValue, second_at, truth_at}
use Rattle.irig_time.specs.TimelineFaults.{IsTimeline}
use Rattle.irig_time.proofs.SecondAt.{claim_is}
use Rattle.irig_gen.specs.Frames.{GeneratorValue}
use Rattle.irig_gen.specs.declared.fault.GenFault.{GenFault}
use Rattle.irig_gen.specs.Sent.{frame_with, frame_of, sent_of}
use Rattle.irig_port.specs.declared.told.Told.TheVariants as tells
use Rattle.irig_port.specs.Heard.{symbols_of}
use Rattle.irig_port.specs.Told.{told_of_widths}
use Rattle.irig_port.proofs.CarriesLaws.{carries_is_told}
use Rattle.irig_vote.specs.Vote.{ports_in, redundancy_of}
use Rattle.irig_reader.specs.declared.report.Lock.TheVariants as lock
use Rattle.irig_reader.specs.declared.report.Cause.TheVariants as cause
use Rattle.irig_reader.specs.declared.report.Report.{Report}
use Rattle.irig_plant.specs.declared.event.Event.{Event}
use Rattle.irig_plant.specs.declared.event.Event.TheVariants.{GenEdge, Carry, Fault, Repair}
use Rattle.irig_plant.specs.declared.entry.Entry.{Entry}
use Rattle.irig_plant.specs.Widths.{widths_of}
use Rattle.irig_plant.specs.Schedule.{Setup, no_generator, setup_at, generator_at, heard_at, pulses_sent, pulses_sent_at, ticks_of, log_of}
use Rattle.irig_plant.specs.Edges.{VotedEdges, voted_edges_of, is_voted_now, CanLock, IsHeld, IsRun, KeepsLock}
use Rattle.irig_vote.specs.Counts.{AtLeast}
use Rattle.irig_plant.specs.Ports.{f_in, IsTruePort}
use Rattle.irig_plant.specs.Health.{HasGenerators, IsHealthyPort}
use Rattle.irig_plant.specs.History.{IsNew}
use Rattle.irig_plant.specs.Exactly.{announcement, IsServed, AnnouncesWhenHeld, IsAnnouncement, HasItsLock}
use Rattle.irig_plant.proofs.PortLaws.{voted_by_ports}
use Rattle.irig_plant.proofs.FrameLaws.{true_frame_told}
use Rattle.irig_plant.proofs.ExactLaws.{log_when_held, log_tells_lock}

-- ---- whatever happens to a generator, its frames without fault stay the same, and those with one

same_frame : (sent : Option GenFault) (x : GeneratorValue) (edge since : ℕ) (fault : Option GenFault) (t : TimelineValue) (n : ℕ) → frame_of sent (record x { edge = edge; fault = fault; since = since }) t n ≡ frame_of sent x t n
unfolding frame_of
same_frame sent x edge since fault t n = by_second (second_at t n)
  where
    by_second : (o : Option UtcSecond) → frame_with sent (record x { edge = edge; fault = fault; since = since }) t o ≡ frame_with sent x t o
    by_second None = refl
    by_second (Some u) = refl

either : (P : GeneratorValue → Type 0) (b : Bool) (x y : GeneratorValue) → P x → P y → P (cond b x y)
either P true x y h k = h
either P false x y h k = k

pub faulted_frame_kept : (sent : Option GenFault) (s : Setup) (g : ℕ) (ev : List Event) (n : ℕ) → frame_of sent (generator_at s g ev) s.times n ≡ frame_of sent (generator_at s g []) s.times n
faulted_frame_kept sent s g [] n = refl
faulted_frame_kept sent s g (GenEdge k ∷ ev) n =
    let x = generator_at s g ev in
    let was = faulted_frame_kept sent s g ev n in
    either (λ y. frame_of sent y s.times n ≡ frame_of sent (generator_at s g []) s.times n) (k == g) _ x (same_frame sent x (x.edge + 1) x.since x.fault s.times n ∙ was) was
faulted_frame_kept sent s g (Fault k kind ∷ ev) n =
    let x = generator_at s g ev in
    let was = faulted_frame_kept sent s g ev n in
    either (λ y. frame_of sent y s.times n ≡ frame_of sent (generator_at s g []) s.times n) (k == g) _ x (same_frame sent x x.edge x.edge (Some kind) s.times n ∙ was) was
faulted_frame_kept sent s g (Repair k ∷ ev) n =
    let x = generator_at s g ev in
    let was = faulted_frame_kept sent s g ev n in
    either (λ y. frame_of sent y s.times n ≡ frame_of sent (generator_at s g []) s.times n) (k == g) _ x (same_frame sent x x.edge x.since None s.times n ∙ was) was
faulted_frame_kept sent s g (e ∷ ev) n = faulted_frame_kept sent s g ev n

pub frame_kept : (s : Setup) (g : ℕ) (ev : List Event) (n : ℕ) → frame_of None (generator_at s g ev) s.times n ≡ frame_of None (generator_at s g []) s.times n
frame_kept = faulted_frame_kept None

-- ---- healthy ports

pub ports_are_generators : (s : Setup) → HasGenerators s → ports_in (redundancy_of (length s.generators)) ≡ length s.generators
ports_are_generators s h = elim h.new.count [ inl three ↦ rw three refl | inr five ↦ rw five refl ]

pub healthy_tells : (s : Setup) (r p : ℕ) (ev : List Event) (c : Claim) → IsTimeline s.times → HasGenerators s → truth_at s.times (ticks_of r ev) ≡ Some c → IsHealthyPort s r ev p
    → told_of_widths s.rules (heard_at s r p ev) ≡ tells.Claim c
healthy_tells s r p ev c line gens truth h =
    let low : p < length s.generators = omega (arith, h.port, ports_are_generators s gens) in
    let made : GeneratorValue = get_or s.generators p no_generator in
    let first : IsNew s.rules made = gens.new.new p no_generator low in
    let told : told_of_widths made.rules (pulses_sent_at s p (ticks_of r ev) []) ≡ tells.Claim c = true_frame_told made s.times (ticks_of r ev) c (gens.zones p no_generator low) line truth in
    ap (told_of_widths s.rules) h.heard ∙ subst (λ (x : Rules). told_of_widths x (pulses_sent_at s p (ticks_of r ev) []) ≡ tells.Claim c) first.ruled told

pub healthy_is_true : (s : Setup) (r : ℕ) (ev : List Event) (c : Claim) (p : ℕ) → IsTimeline s.times → HasGenerators s → truth_at s.times (ticks_of r ev) ≡ Some c → IsHealthyPort s r ev p → IsTruePort s r ev p
healthy_is_true s r ev c p line gens truth h = record {
  claim = c;
  heard = record { port = h.port; carries = (carries_is_told s.rules (symbols_of (heard_at s r p ev)) c).0 (healthy_tells s r p ev c line gens truth h) };
  is_true = (claim_is s.times (ticks_of r ev) c).0 truth;
}

pub healthy_votes : (s : Setup) (r : ℕ) (ev : List Event) (c : Claim) → IsTimeline s.times → HasGenerators s → truth_at s.times (ticks_of r ev) ≡ Some c → AtLeast (f_in s + 1) (IsHealthyPort s r ev) → is_voted_now s r ev ≡ true
healthy_votes s r ev c line gens truth h =
    (voted_by_ports s r ev).1 (record {
      numbers = h.numbers;
      rising = h.rising;
      such = All-weaker (IsHealthyPort s r ev) (IsTruePort s r ev) (λ p healthy. healthy_is_true s r ev c p line gens truth healthy) h.numbers h.such;
      many = h.many;
    })

pub sent_plain : (g : GeneratorValue) (t : TimelineValue) → g.fault ≡ None → sent_of g t ≡ frame_of None g t g.edge
unfolding sent_of
sent_plain g t plain = rw plain refl

-- a frame that a generator without fault carries to an empty port, at the edge of the last tick
pub carried_is_healthy : (s : Setup) (r p : ℕ) (ev : List Event) → p < ports_in (redundancy_of (length s.generators)) → (generator_at s p ev).fault ≡ None → (generator_at s p ev).edge ≡ ticks_of r ev
    → heard_at s r p ev ≡ [] → IsHealthyPort s r (Carry p r ∷ ev) p
carried_is_healthy s r p ev low plain edge empty =
    let sent : pulses_sent s p ev ≡ pulses_sent_at s p (ticks_of r ev) [] =
    ap widths_of (sent_plain (generator_at s p ev) s.times plain ∙ ap (frame_of None (generator_at s p ev) s.times) edge ∙ frame_kept s p ev (ticks_of r ev)) in
    record { port = low; heard = rw (eq-eqb r r refl, eq-eqb p p refl, empty) sent }

-- ---- runs

held_by_run : (x : VotedEdges) (n : ℕ) → IsRun x n x.reader_rules.lock_after → IsHeld x n
held_by_run x n run = record {
  lock = n;
  enough = run.fits;
  before = omega arith;
  votes = run.votes;
  unbroken = run.unbroken;
  fresh = λ j from to. record { edge = n; from = omega arith; to = from; near = omega (arith, to); is = run.votes n (omega (arith, run.some)) (omega arith) };
  unguarded = λ j after to. absurd (omega (arith, after, to));
}

pub run_announces : (s : Setup) (ev : List Event) (e : Entry) (v : UtcSecond) → IsTimeline s.times → All CanLock s.readers → Contains (log_of s ev) e → IsServed s ev e v
    → IsRun (voted_edges_of s e.reader ev) e.edge (setup_at s.readers e.reader).rules.lock_after → e.report ≡ announcement v lock.Locked cause.Voted
run_announces s ev e v sound ruled logged served run =
    let x = voted_edges_of s e.reader ev in
    let exact : AnnouncesWhenHeld s ev e = All-contains (AnnouncesWhenHeld s ev) (log_of s ev) e (log_when_held s ev sound ruled) logged in
    let locked : HasItsLock s ev e = All-contains (HasItsLock s ev) (log_of s ev) e (log_tells_lock s ev sound ruled) logged in
    let says : is_some e.report.announce ≡ true = (exact.exactly v served).1 (held_by_run x e.edge run) in
    (locked.lock v served says).voted (run.votes e.edge (omega (arith, run.some)) (omega arith))

-- ---- after a run

held_later : (x : VotedEdges) (m n : ℕ) → IsRun x m x.reader_rules.lock_after → KeepsLock x m n → IsHeld x n
held_later x m n run keeps = record {
  lock = m;
  enough = run.fits;
  before = keeps.after;
  votes = run.votes;
  unbroken = λ i from to. elim (cases_lt i m) [ inl early ↦ run.unbroken i from early | inr late ↦ keeps.unbroken i late to ];
  fresh = keeps.fresh;
  unguarded = keeps.unguarded;
}

told_second : (x : VotedEdges) (n : ℕ) (v : UtcSecond) (said : Report) → IsAnnouncement x n v said → said.announce ≡ Some v
told_second x n v said h =
    elim (cases_Bool (x.voted n)) [
      | inl voted ↦ ap (λ (r : Report). r.announce) (h.voted voted)
      | inr unvoted ↦ ap (λ (r : Report). r.announce) (h.held unvoted).report
    ]

pub run_announces_later : (s : Setup) (ev : List Event) (e : Entry) (v : UtcSecond) (m : ℕ) → IsTimeline s.times → All CanLock s.readers → Contains (log_of s ev) e → IsServed s ev e v
    → IsRun (voted_edges_of s e.reader ev) m (setup_at s.readers e.reader).rules.lock_after → KeepsLock (voted_edges_of s e.reader ev) m e.edge → e.report.announce ≡ Some v
run_announces_later s ev e v m sound ruled logged served run keeps =
    let x = voted_edges_of s e.reader ev in
    let exact : AnnouncesWhenHeld s ev e = All-contains (AnnouncesWhenHeld s ev) (log_of s ev) e (log_when_held s ev sound ruled) logged in
    let locked : HasItsLock s ev e = All-contains (HasItsLock s ev) (log_of s ev) e (log_tells_lock s ev sound ruled) logged in
    let says : is_some e.report.announce ≡ true = (exact.exactly v served).1 (held_later x m e.edge run keeps) in
    told_second x e.edge v e.report (locked.lock v served says)
