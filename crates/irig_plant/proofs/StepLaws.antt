-- What one event does to what each part of a plant stands for.
use Rattle.std.proofs.Common.{◌≡◌, ◌≢◌, ℕ, ◌+◌, ◌-◌, ◌^◌, ◌<◌, ◌≤◌, min, Bool, true, false, List, ◌∷◌, length, get_or, set, refl, sym, ◌∙◌, ap, subst, inl, inr, arith, Option, Some, None}
use Rattle.std.specs.Prelude.{is_some, if◌then◌else◌}
use Rattle.std.specs.Option.{option_or}
use Rattle.std.proofs.lemmas.Bool.{cases_lt, eq-eqb, lt-ltb, le-ltb}
use Rattle.irig_time.specs.declared.second.UtcSecond.{UtcSecond}
use Rattle.irig_time.specs.Timelines.{TimelineValue, second_at}
use Rattle.irig_time.proofs.SecondAt.{second_is}
use Rattle.irig_time.proofs.TimeLaws.{few}
use Rattle.irig_gen.specs.declared.fault.GenFault.{GenFault}
use Rattle.irig_gen.specs.Frames.{GeneratorValue}
use Rattle.irig_gen.specs.Sent.{sent_of}
use Rattle.irig_port.specs.declared.port.Port.{Ghosts}
use Rattle.irig_port.specs.Heard.{symbols_heard}
use Rattle.irig_reader.specs.History.{after_tick, after_restart, with_widths, after_pulses}
use Rattle.irig_reader.specs.Readers.{HasReaderHistory}
use Rattle.irig_plant.specs.declared.event.Event.{Event}
use Rattle.irig_plant.specs.declared.event.Event.TheVariants.{GenEdge, Tick, Carry, Damage, Replay, Raw, Fault, Repair, Restart}
use Rattle.irig_plant.specs.declared.fault.PlantFault.{PlantFault}
use Rattle.irig_plant.specs.declared.fault.PlantFault.TheVariants.{NoSuchReader, EndOfYears}
use Rattle.irig_plant.specs.declared.plant.TickedReader.{TickedReader}
use Rattle.irig_plant.specs.Schedule.{Setup, generator_at_next_edge, generator_with_fault, generator_without_fault, generator_at, Delivery, delivery, delivery_of, empties, with_delivery, heard_at, fed_at, ticks_of, votes_of, history_of, log_of}
use Rattle.irig_plant.specs.Widths.{widths_of}
use Rattle.irig_plant.specs.Refusals.{unless_reader, unless_generator, unless_second}
use Rattle.irig_plant.specs.Audits.{TickOfReader, first_broken, verdict, audit_after}
use Rattle.irig_plant.specs.History.{IsTickedReaderAt, IsCachedPort}
use Rattle.irig_plant.proofs.ListLaws.{apart, each_set}
use Rattle.irig_plant.proofs.FeedLaws.{fed_if, fed_ports}

-- ---- refusals

pub no_reader : (s : Setup) (r : ℕ) (rest : Option PlantFault) → length s.readers ≤ r → unless_reader s r rest ≡ Some NoSuchReader
no_reader s r rest h = rw (le-ltb r (length s.readers) h) refl

pub a_generator : (s : Setup) (g : ℕ) (rest : Option PlantFault) → g < length s.generators → unless_generator s g rest ≡ rest
a_generator s g rest h = rw (lt-ltb g (length s.generators) h) refl

-- ---- the end of the timeline

late : (t : TimelineValue) (n : ℕ) (o : Option UtcSecond) → o ≡ second_at t n → 2 ^ 32 ≤ n → is_some o ≡ false
late t n None e far = refl
late t n (Some u) e far = absurd (omega (arith, far, few t n u ((second_is t n u).0 (sym e))))

pub no_second : (s : Setup) (n : ℕ) → is_some (second_at s.times (min n (2 ^ 64 - 1))) ≡ false → unless_second s n ≡ Some EndOfYears
no_second s n h =
    elim (cases_lt n (2 ^ 64)) [
      | inl lt ↦ let same : min n (2 ^ 64 - 1) ≡ n = omega arith in rw (rw same at h) refl
      | inr ge ↦ rw (late s.times n (second_at s.times n) refl (omega arith)) refl
    ]

-- ---- an event that delivers something does nothing else

pub record IsPlain (s : Setup) (e : Event) (ev : List Event) : Type 0 where
  pub keeps : (r : ℕ) → empties r e ≡ false
  pub ticks : (r : ℕ) → ticks_of r (e ∷ ev) ≡ ticks_of r ev
  pub votes : (r : ℕ) → votes_of s r (e ∷ ev) ≡ votes_of s r ev
  pub generators : (g : ℕ) → generator_at s g (e ∷ ev) ≡ generator_at s g ev
  pub log : log_of s (e ∷ ev) ≡ log_of s ev
  pub broken : first_broken s (e ∷ ev) ≡ first_broken s ev

pub delivers : (s : Setup) (e : Event) (ev : List Event) (d : Delivery) → delivery_of s e ev ≡ Some d → IsPlain s e ev
delivers s (Carry g r) ev d h = record { keeps = λ _. refl; ticks = λ _. refl; votes = λ _. refl; generators = λ _. refl; log = refl; broken = refl }
delivers s (Damage g r at width) ev d h = record { keeps = λ _. refl; ticks = λ _. refl; votes = λ _. refl; generators = λ _. refl; log = refl; broken = refl }
delivers s (Replay g r edge) ev d h = record { keeps = λ _. refl; ticks = λ _. refl; votes = λ _. refl; generators = λ _. refl; log = refl; broken = refl }
delivers s (Raw g r widths) ev d h = record { keeps = λ _. refl; ticks = λ _. refl; votes = λ _. refl; generators = λ _. refl; log = refl; broken = refl }
delivers s (GenEdge g) ev d h = absurd cc
delivers s (Tick r) ev d h = absurd cc
delivers s (Fault g kind) ev d h = absurd cc
delivers s (Repair g) ev d h = absurd cc
delivers s (Restart r) ev d h = absurd cc

-- what a port has heard after a delivery
pub heard_is : (s : Setup) (e : Event) (ev : List Event) (d : Delivery) (r p : ℕ) → delivery_of s e ev ≡ Some d → heard_at s r p (e ∷ ev) ≡ with_delivery r p (Some d) (heard_at s r p ev)
heard_is s e ev d r p h = rw ((delivers s e ev d h).keeps r, h) refl

-- the reader to which it comes
pub fed_here : (s : Setup) (e : Event) (ev : List Event) (g r : ℕ) (ws : List ℕ) → g < 5 → delivery_of s e ev ≡ Some (delivery g r ws) → history_of s r (e ∷ ev) ≡ after_pulses (history_of s r ev) g ws
fed_here s e ev g r ws low h =
    let votes = (delivers s e ev (delivery g r ws) h).votes r in
    let heard : (p : ℕ) → heard_at s r p (e ∷ ev) ≡ fed_if g p ws (heard_at s r p ev) = λ p. heard_is s e ev (delivery g r ws) r p h ∙ rw (eq-eqb r r refl) refl in
    let fed : fed_at s r (e ∷ ev) ≡ with_widths (fed_at s r ev) g ws = rw (heard 0, heard 1, heard 2, heard 3, heard 4) (fed_ports (fed_at s r ev) g ws low) in
    rw (votes, fed) refl

-- and all others
pub fed_elsewhere : (s : Setup) (e : Event) (ev : List Event) (d : Delivery) (r : ℕ) → r ≢ d.reader → delivery_of s e ev ≡ Some d → history_of s r (e ∷ ev) ≡ history_of s r ev
fed_elsewhere s e ev d r other h =
    let votes = (delivers s e ev d h).votes r in
    let heard : (p : ℕ) → heard_at s r p (e ∷ ev) ≡ heard_at s r p ev = λ p. heard_is s e ev d r p h ∙ rw (apart d.reader r (λ e. other (sym e))) refl in
    rw (votes, heard 0, heard 1, heard 2, heard 3, heard 4) refl

-- ---- readers

module _ {P : Type 0} {g : Ghosts P} where
  -- what stands at reader i after the event does so for all, if the event leaves the others
  pub set_reader : (s : Setup) (ev ev' : List Event) (xs : List (TickedReader P g)) (i : ℕ) (x y : TickedReader P g)
      → length xs ≡ length s.readers → i < length s.readers
      → ((r : ℕ) (d : TickedReader P g) → r < length s.readers → IsTickedReaderAt s ev r (get_or xs r d))
      → x ≡ get_or xs i x
      → ((r : ℕ) (z : TickedReader P g) → r ≢ i → IsTickedReaderAt s ev r z → IsTickedReaderAt s ev' r z)
      → (IsTickedReaderAt s ev i x → IsTickedReaderAt s ev' i y)
      → (r : ℕ) (d : TickedReader P g) → r < length s.readers → IsTickedReaderAt s ev' r (get_or (set xs i y) r d)
  set_reader s ev ev' xs i x y n l h v other here =
      each_set (IsTickedReaderAt s ev) (IsTickedReaderAt s ev') (length s.readers) xs i y (omega arith) h other
      (here (subst (λ z. IsTickedReaderAt s ev i z) (sym v) (h i x l)))

  pub tick_other : (s : Setup) (ev : List Event) (i r : ℕ) (z : TickedReader P g) → r ≢ i → IsTickedReaderAt s ev r z → IsTickedReaderAt s (Tick i ∷ ev) r z
  tick_other s ev i r z q h = rw (apart i r (λ e. q (sym e))) h

  pub tick_here : (s : Setup) (ev : List Event) (i : ℕ) (x y : TickedReader P g) → HasReaderHistory y.reader (after_tick (history_of s i ev)) → y.ticks ≡ x.ticks + 1 → IsTickedReaderAt s ev i x → IsTickedReaderAt s (Tick i ∷ ev) i y
  tick_here s ev i x y r e h = rw (eq-eqb i i refl) (record { reader = r; ticked = e ∙ ap (λ n. n + 1) h.ticked })

  pub restart_other : (s : Setup) (ev : List Event) (i r : ℕ) (z : TickedReader P g) → r ≢ i → IsTickedReaderAt s ev r z → IsTickedReaderAt s (Restart i ∷ ev) r z
  restart_other s ev i r z q h = rw (apart i r (λ e. q (sym e))) h

  pub restart_here : (s : Setup) (ev : List Event) (i : ℕ) (x y : TickedReader P g) → HasReaderHistory y.reader (after_restart (history_of s i ev)) → y.ticks ≡ x.ticks → IsTickedReaderAt s ev i x → IsTickedReaderAt s (Restart i ∷ ev) i y
  restart_here s ev i x y r e h = rw (eq-eqb i i refl) (record { reader = r; ticked = e ∙ h.ticked })

  pub feed_other : (s : Setup) (e : Event) (ev : List Event) (d : Delivery) → delivery_of s e ev ≡ Some d → (r : ℕ) (z : TickedReader P g) → r ≢ d.reader → IsTickedReaderAt s ev r z → IsTickedReaderAt s (e ∷ ev) r z
  feed_other s e ev d h r z q old = rw (fed_elsewhere s e ev d r q h, (delivers s e ev d h).ticks r) old

  pub feed_here : (s : Setup) (e : Event) (ev : List Event) (k i : ℕ) (ws : List ℕ) (x y : TickedReader P g) → k < 5 → delivery_of s e ev ≡ Some (delivery k i ws)
      → HasReaderHistory y.reader (after_pulses (history_of s i ev) k ws) → y.ticks ≡ x.ticks → IsTickedReaderAt s ev i x → IsTickedReaderAt s (e ∷ ev) i y
  feed_here s e ev k i ws x y low h r same old =
      rw (fed_here s e ev k i ws low h, (delivers s e ev (delivery k i ws) h).ticks i) (record { reader = r; ticked = same ∙ old.ticked })

-- ---- generators

-- what stands at generator i after the event does so for all, if the event leaves the others
pub set_generator : (s : Setup) (ev ev' : List Event) (xs : List GeneratorValue) (i : ℕ) (x y : GeneratorValue)
    → length xs ≡ length s.generators → i < length s.generators
    → ((k : ℕ) (d : GeneratorValue) → k < length s.generators → get_or xs k d ≡ generator_at s k ev)
    → x ≡ get_or xs i x
    → ((k : ℕ) → k ≢ i → generator_at s k ev' ≡ generator_at s k ev)
    → (x ≡ generator_at s i ev → y ≡ generator_at s i ev')
    → (k : ℕ) (d : GeneratorValue) → k < length s.generators → get_or (set xs i y) k d ≡ generator_at s k ev'
set_generator s ev ev' xs i x y n l h v other here =
    each_set (λ k z. z ≡ generator_at s k ev) (λ k z. z ≡ generator_at s k ev') (length s.generators) xs i y (omega arith) h
    (λ k z q e. e ∙ sym (other k q)) (here (v ∙ h i x l))

pub step_other : (s : Setup) (ev : List Event) (i k : ℕ) → k ≢ i → generator_at s k (GenEdge i ∷ ev) ≡ generator_at s k ev
step_other s ev i k q = rw (apart i k (λ e. q (sym e))) refl

pub step_here : (s : Setup) (ev : List Event) (i : ℕ) (x y : GeneratorValue) → y ≡ generator_at_next_edge x → x ≡ generator_at s i ev → y ≡ generator_at s i (GenEdge i ∷ ev)
step_here s ev i x y next h = rw (eq-eqb i i refl) (next ∙ ap generator_at_next_edge h)

pub fault_other : (s : Setup) (ev : List Event) (i k : ℕ) (kind : GenFault) → k ≢ i → generator_at s k (Fault i kind ∷ ev) ≡ generator_at s k ev
fault_other s ev i k kind q = rw (apart i k (λ e. q (sym e))) refl

pub fault_here : (s : Setup) (ev : List Event) (i : ℕ) (kind : GenFault) (x y : GeneratorValue) → y ≡ generator_with_fault kind x → x ≡ generator_at s i ev → y ≡ generator_at s i (Fault i kind ∷ ev)
fault_here s ev i kind x y faulty h = rw (eq-eqb i i refl) (faulty ∙ ap (generator_with_fault kind) h)

pub repair_other : (s : Setup) (ev : List Event) (i k : ℕ) → k ≢ i → generator_at s k (Repair i ∷ ev) ≡ generator_at s k ev
repair_other s ev i k q = rw (apart i k (λ e. q (sym e))) refl

pub repair_here : (s : Setup) (ev : List Event) (i : ℕ) (x y : GeneratorValue) → y ≡ generator_without_fault x → x ≡ generator_at s i ev → y ≡ generator_at s i (Repair i ∷ ev)
repair_here s ev i x y whole h = rw (eq-eqb i i refl) (whole ∙ ap generator_without_fault h)

-- ---- cached ports

module _ {P : Type 0} (g : Ghosts P) where
  -- a cached port stays while its generator does
  pub cached_port_after : (s : Setup) (ev ev' : List Event) (k : ℕ) (w : Option P) → generator_at s k ev' ≡ generator_at s k ev → IsCachedPort g s ev k w → IsCachedPort g s ev' k w
  cached_port_after s ev ev' k None same h = tt
  cached_port_after s ev ev' k (Some port) same h =
      subst (λ (x : GeneratorValue). g.stands_for port s.rules (symbols_heard (widths_of (sent_of x s.times)))) (sym same) h

  -- a new cached port of generator i, or none, if the event leaves the other generators
  pub set_cached_port : (s : Setup) (ev ev' : List Event) (xs : List (Option P)) (i : ℕ) (w : Option P)
      → i < length xs
      → ((k : ℕ) (d : Option P) → k < length s.generators → IsCachedPort g s ev k (get_or xs k d))
      → ((k : ℕ) → k ≢ i → generator_at s k ev' ≡ generator_at s k ev)
      → IsCachedPort g s ev' i w
      → (k : ℕ) (d : Option P) → k < length s.generators → IsCachedPort g s ev' k (get_or (set xs i w) k d)
  set_cached_port s ev ev' xs i w l h other here =
      each_set (IsCachedPort g s ev) (IsCachedPort g s ev') (length s.generators) xs i w l h (λ k z q. cached_port_after s ev ev' k z (other k q)) here

-- ---- the audit

pub audit_tick : (false_table : Option ℕ) (broken : Option TickOfReader) (at : TickOfReader) (now : Bool) → audit_after (verdict false_table broken) at now ≡ verdict false_table (option_or broken (if now then Some at else None))
audit_tick (Some r) broken at now = refl
audit_tick None (Some p) at now = refl
audit_tick None None at true = refl
audit_tick None None at false = refl
