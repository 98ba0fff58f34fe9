-- What the events of a whole second leave: of frames, of ticks and of steps, one after another.
use Rattle.std.specs.Prelude.{◌==◌, map}
use Rattle.std.specs.List.{flat_map, range_with_len}
use Rattle.std.proofs.Common.{◌≡◌, ◌≢◌, ℕ, zero, suc, ◌+◌, ◌<◌, ◌≤◌, List, [], ◌∷◌, ◌++◌, inl, inr, refl, sym, ap, subst, ◌∙◌, arith}
use Rattle.std.proofs.lemmas.Bool.{cases_eq, eq-eqb, and_right}
use Rattle.irig_gen.specs.Frames.{GeneratorValue}
use Rattle.irig_gen.specs.Sent.{sent_of}
use Rattle.irig_plant.specs.declared.event.Event.{Event}
use Rattle.irig_plant.specs.declared.event.Event.TheVariants.{GenEdge, Tick, Carry}
use Rattle.irig_plant.specs.Widths.{widths_of}
use Rattle.irig_plant.specs.Schedule.{Setup, generator_at_next_edge, generator_at, pulses_sent, heard_at, ticks_of, log_of}
use Rattle.irig_plant.specs.Runs.{events_after}
use Rattle.irig_plant.proofs.ListLaws.{apart}

pub after_both : (a b ev : List Event) → events_after (a ++ b) ev ≡ events_after b (events_after a ev)
after_both [] b ev = refl
after_both (e ∷ a) b ev = after_both a b (e ∷ ev)

-- the frames of so many generators, from g on, to reader r
abbrev pub carried : ℕ → ℕ → ℕ → List Event
carried r g n = map (λ x. Carry x r) (range_with_len g n)

-- those of all generators to so many readers, from r on
abbrev pub carried_to_all : ℕ → ℕ → ℕ → List Event
carried_to_all generators r n = flat_map (λ x. carried x 0 generators) (range_with_len r n)

-- the ticks of so many readers, from r on
abbrev pub ticked : ℕ → ℕ → List Event
ticked r n = map (λ x. Tick x) (range_with_len r n)

-- the steps of so many generators, from g on
abbrev pub stepped : ℕ → ℕ → List Event
stepped g n = map (λ x. GenEdge x) (range_with_len g n)

module _ (s : Setup) where
  -- ---- frames

  -- no reader has ticked, and no generator has stepped
  pub record Stays (ev after : List Event) : Type 0 where
    pub ticks : (r : ℕ) → ticks_of r after ≡ ticks_of r ev
    pub generators : (g : ℕ) → generator_at s g after ≡ generator_at s g ev
    pub log : log_of s after ≡ log_of s ev

  carried_stays : (r g n : ℕ) (ev : List Event) → Stays ev (events_after (carried r g n) ev)
  carried_stays r g zero ev = record { ticks = λ q. refl; generators = λ x. refl; log = refl }
  carried_stays r g (suc n) ev =
      let rest = carried_stays r (g + 1) n (Carry g r ∷ ev) in
      record { ticks = rest.ticks; generators = rest.generators; log = rest.log }

  same_pulses : (p : ℕ) (ev after : List Event) → Stays ev after → pulses_sent s p after ≡ pulses_sent s p ev
  same_pulses p ev after h = ap (λ (x : GeneratorValue). widths_of (sent_of x s.times)) (h.generators p)

  -- what is carried to another reader, or from generators further on
  heard_apart : (r q p g n : ℕ) (ev : List Event) → r ≢ q → heard_at s q p (events_after (carried r g n) ev) ≡ heard_at s q p ev
  heard_apart r q p g zero ev other = refl
  heard_apart r q p g (suc n) ev other = heard_apart r q p (g + 1) n (Carry g r ∷ ev) other ∙ rw (apart r q other) refl

  not_from : (r q p g : ℕ) (ev : List Event) → g ≢ p → heard_at s q p (Carry g r ∷ ev) ≡ heard_at s q p ev
  not_from r q p g ev other = rw (and_right (r == q) (g == p) (apart g p other)) refl

  heard_below : (r p g n : ℕ) (ev : List Event) → p < g → heard_at s r p (events_after (carried r g n) ev) ≡ heard_at s r p ev
  heard_below r p g zero ev low = refl
  heard_below r p g (suc n) ev low = heard_below r p (g + 1) n (Carry g r ∷ ev) (omega arith) ∙ not_from r r p g ev (λ e. omega (arith, e, low))

  heard_above : (r q p g n : ℕ) (ev : List Event) → g + n ≤ p → heard_at s q p (events_after (carried r g n) ev) ≡ heard_at s q p ev
  heard_above r q p g zero ev high = refl
  heard_above r q p g (suc n) ev high = heard_above r q p (g + 1) n (Carry g r ∷ ev) (omega (arith, high)) ∙ not_from r q p g ev (λ e. omega (arith, e, high))

  from_it : (r p : ℕ) (ev : List Event) → heard_at s r p (Carry p r ∷ ev) ≡ heard_at s r p ev ++ pulses_sent s p ev
  from_it r p ev = rw (eq-eqb r r refl, eq-eqb p p refl) refl

  heard_carried : (r p g n : ℕ) (ev : List Event) → g ≤ p → p < g + n → heard_at s r p (events_after (carried r g n) ev) ≡ heard_at s r p ev ++ pulses_sent s p ev
  heard_carried r p g zero ev from to = absurd (omega (arith, from, to))
  heard_carried r p g (suc n) ev from to =
      elim (cases_eq g p) [
        | inl same ↦ heard_below r p (g + 1) n (Carry g r ∷ ev) (omega (arith, same)) ∙ subst (λ (k : ℕ). heard_at s r p (Carry k r ∷ ev) ≡ heard_at s r p ev ++ pulses_sent s p ev) (sym same) (from_it r p ev)
        | inr other ↦
            heard_carried r p (g + 1) n (Carry g r ∷ ev) (omega (arith, from, other)) (omega (arith, to))
            ∙ ap (λ (w : List ℕ). w ++ pulses_sent s p ev) (not_from r r p g ev other)
      ]

  -- ---- to all readers

  first_then : (generators r n : ℕ) (ev : List Event) → events_after (carried_to_all generators r (suc n)) ev ≡ events_after (carried_to_all generators (r + 1) n) (events_after (carried r 0 generators) ev)
  first_then generators r n ev = after_both (carried r 0 generators) (carried_to_all generators (r + 1) n) ev

  stays_on : (a b c : List Event) → Stays a b → Stays b c → Stays a c
  stays_on a b c h k = record { ticks = λ r. k.ticks r ∙ h.ticks r; generators = λ g. k.generators g ∙ h.generators g; log = k.log ∙ h.log }

  pub all_carried_stays : (generators r n : ℕ) (ev : List Event) → Stays ev (events_after (carried_to_all generators r n) ev)
  all_carried_stays generators r zero ev = record { ticks = λ q. refl; generators = λ x. refl; log = refl }
  all_carried_stays generators r (suc n) ev =
      let first = events_after (carried r 0 generators) ev in
      subst (λ (es : List Event). Stays ev es) (sym (first_then generators r n ev))
      (stays_on ev first (events_after (carried_to_all generators (r + 1) n) first) (carried_stays r 0 generators ev) (all_carried_stays generators (r + 1) n first))

  heard_earlier : (generators q p r n : ℕ) (ev : List Event) → q < r → heard_at s q p (events_after (carried_to_all generators r n) ev) ≡ heard_at s q p ev
  heard_earlier generators q p r zero ev low = refl
  heard_earlier generators q p r (suc n) ev low =
      ap (heard_at s q p) (first_then generators r n ev) ∙ heard_earlier generators q p (r + 1) n (events_after (carried r 0 generators) ev) (omega arith)
      ∙ heard_apart r q p 0 generators ev (λ e. omega (arith, e, low))

  -- a port without a generator has heard nothing more
  pub heard_beyond : (generators q p r n : ℕ) (ev : List Event) → generators ≤ p
      → heard_at s q p (events_after (carried_to_all generators r n) ev) ≡ heard_at s q p ev
  heard_beyond generators q p r zero ev high = refl
  heard_beyond generators q p r (suc n) ev high =
      ap (heard_at s q p) (first_then generators r n ev) ∙ heard_beyond generators q p (r + 1) n (events_after (carried r 0 generators) ev) high
      ∙ heard_above r q p 0 generators ev (omega (arith, high))

  -- each port has heard one frame more
  pub heard_by_all : (generators q p r n : ℕ) (ev : List Event) → p < generators → r ≤ q → q < r + n
      → heard_at s q p (events_after (carried_to_all generators r n) ev) ≡ heard_at s q p ev ++ pulses_sent s p ev
  heard_by_all generators q p r zero ev port from to = absurd (omega (arith, from, to))
  heard_by_all generators q p r (suc n) ev port from to =
      let first = events_after (carried r 0 generators) ev in
      ap (heard_at s q p) (first_then generators r n ev)
      ∙ elim (cases_eq r q) [
        | inl same ↦
            heard_earlier generators q p (r + 1) n first (omega (arith, same))
            ∙ subst (λ (k : ℕ). heard_at s q p (events_after (carried k 0 generators) ev) ≡ heard_at s q p ev ++ pulses_sent s p ev) (sym same) (heard_carried q p 0 generators ev (omega arith) (omega (arith, port)))
        | inr other ↦
            heard_by_all generators q p (r + 1) n first port (omega (arith, from, other)) (omega (arith, to))
            ∙ ap (λ (w : List ℕ). w ++ pulses_sent s p first) (heard_apart r q p 0 generators ev other)
            ∙ ap (λ (w : List ℕ). heard_at s q p ev ++ w) (same_pulses p ev first (carried_stays r 0 generators ev))
      ]

  -- ---- ticks

  pub ticked_generator : (g r n : ℕ) (ev : List Event) → generator_at s g (events_after (ticked r n) ev) ≡ generator_at s g ev
  ticked_generator g r zero ev = refl
  ticked_generator g r (suc n) ev = ticked_generator g (r + 1) n (Tick r ∷ ev)

  -- the readers before them
  ticks_earlier : (q r n : ℕ) (ev : List Event) → q < r → ticks_of q (events_after (ticked r n) ev) ≡ ticks_of q ev
  ticks_earlier q r zero ev low = refl
  ticks_earlier q r (suc n) ev low = ticks_earlier q (r + 1) n (Tick r ∷ ev) (omega arith) ∙ rw (apart r q (λ e. omega (arith, e, low))) refl

  unticked : (q p r n : ℕ) (ev : List Event) → q < r → heard_at s q p (events_after (ticked r n) ev) ≡ heard_at s q p ev
  unticked q p r zero ev low = refl
  unticked q p r (suc n) ev low = unticked q p (r + 1) n (Tick r ∷ ev) (omega arith) ∙ rw (apart r q (λ e. omega (arith, e, low))) refl

  -- another reader's tick
  pub other_ticks : (q r : ℕ) (ev : List Event) → r ≢ q → ticks_of q (Tick r ∷ ev) ≡ ticks_of q ev
  other_ticks q r ev other = rw (apart r q other) refl

  pub other_heard : (q p r : ℕ) (ev : List Event) → r ≢ q → heard_at s q p (Tick r ∷ ev) ≡ heard_at s q p ev
  other_heard q p r ev other = rw (apart r q other) refl

  one_tick : (q : ℕ) (ev : List Event) → ticks_of q (Tick q ∷ ev) ≡ ticks_of q ev + 1
  one_tick q ev = rw (eq-eqb q q refl) refl

  empty_then : (q p : ℕ) (ev : List Event) → heard_at s q p (Tick q ∷ ev) ≡ []
  empty_then q p ev = rw (eq-eqb q q refl) refl

  -- each has ticked, and its ports are empty
  pub ticks_by_all : (q r n : ℕ) (ev : List Event) → r ≤ q → q < r + n → ticks_of q (events_after (ticked r n) ev) ≡ ticks_of q ev + 1
  ticks_by_all q r zero ev from to = absurd (omega (arith, from, to))
  ticks_by_all q r (suc n) ev from to =
      elim (cases_eq r q) [
        | inl same ↦ ticks_earlier q (r + 1) n (Tick r ∷ ev) (omega (arith, same)) ∙ subst (λ (k : ℕ). ticks_of q (Tick k ∷ ev) ≡ ticks_of q ev + 1) (sym same) (one_tick q ev)
        | inr other ↦ ticks_by_all q (r + 1) n (Tick r ∷ ev) (omega (arith, from, other)) (omega (arith, to)) ∙ ap (λ (k : ℕ). k + 1) (other_ticks q r ev other)
      ]

  pub emptied : (q p r n : ℕ) (ev : List Event) → r ≤ q → q < r + n → heard_at s q p (events_after (ticked r n) ev) ≡ []
  emptied q p r zero ev from to = absurd (omega (arith, from, to))
  emptied q p r (suc n) ev from to =
      elim (cases_eq r q) [
        | inl same ↦ unticked q p (r + 1) n (Tick r ∷ ev) (omega (arith, same)) ∙ subst (λ (k : ℕ). heard_at s q p (Tick k ∷ ev) ≡ []) (sym same) (empty_then q p ev)
        | inr other ↦ emptied q p (r + 1) n (Tick r ∷ ev) (omega (arith, from, other)) (omega (arith, to))
      ]

  -- ---- steps

  pub stepped_ticks : (q g n : ℕ) (ev : List Event) → ticks_of q (events_after (stepped g n) ev) ≡ ticks_of q ev
  stepped_ticks q g zero ev = refl
  stepped_ticks q g (suc n) ev = stepped_ticks q (g + 1) n (GenEdge g ∷ ev)

  pub stepped_heard : (q p g n : ℕ) (ev : List Event) → heard_at s q p (events_after (stepped g n) ev) ≡ heard_at s q p ev
  stepped_heard q p g zero ev = refl
  stepped_heard q p g (suc n) ev = stepped_heard q p (g + 1) n (GenEdge g ∷ ev)

  pub stepped_log : (g n : ℕ) (ev : List Event) → log_of s (events_after (stepped g n) ev) ≡ log_of s ev
  stepped_log g zero ev = refl
  stepped_log g (suc n) ev = stepped_log (g + 1) n (GenEdge g ∷ ev)

  pub other_step : (x g : ℕ) (ev : List Event) → g ≢ x → generator_at s x (GenEdge g ∷ ev) ≡ generator_at s x ev
  other_step x g ev other = rw (apart g x other) refl

  one_step : (x : ℕ) (ev : List Event) → generator_at s x (GenEdge x ∷ ev) ≡ generator_at_next_edge (generator_at s x ev)
  one_step x ev = rw (eq-eqb x x refl) refl

  stepped_earlier : (x g n : ℕ) (ev : List Event) → x < g → generator_at s x (events_after (stepped g n) ev) ≡ generator_at s x ev
  stepped_earlier x g zero ev low = refl
  stepped_earlier x g (suc n) ev low = stepped_earlier x (g + 1) n (GenEdge g ∷ ev) (omega arith) ∙ other_step x g ev (λ e. omega (arith, e, low))

  -- each generator is an edge further
  pub stepped_by_all : (x g n : ℕ) (ev : List Event) → g ≤ x → x < g + n → generator_at s x (events_after (stepped g n) ev) ≡ generator_at_next_edge (generator_at s x ev)
  stepped_by_all x g zero ev from to = absurd (omega (arith, from, to))
  stepped_by_all x g (suc n) ev from to =
      elim (cases_eq g x) [
        | inl same ↦
            stepped_earlier x (g + 1) n (GenEdge g ∷ ev) (omega (arith, same))
            ∙ subst (λ (k : ℕ). generator_at s x (GenEdge k ∷ ev) ≡ generator_at_next_edge (generator_at s x ev)) (sym same) (one_step x ev)
        | inr other ↦
            stepped_by_all x (g + 1) n (GenEdge g ∷ ev) (omega (arith, from, other)) (omega (arith, to)) ∙ ap generator_at_next_edge (other_step x g ev other)
      ]
