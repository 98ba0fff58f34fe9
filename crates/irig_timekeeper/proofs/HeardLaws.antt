-- Whether a pulse came on a line within a second before the last tick.
use Rattle.std.specs.Prelude.{◌==◌, ◌&&◌, not, nat_lt}
use Rattle.std.proofs.Common.{◌≡◌, ◌∙◌, ℕ, ◌+◌, ◌-◌, ◌%◌, ◌^◌, ◌<◌, ◌≤◌, Bool, true, false, cond, List, [], ◌∷◌, refl, sym, ap, subst, arith, inl, inr, Some}
use Rattle.std.proofs.lemmas.Bool.{cases_Bool, cases_lt, eqb-true, eqb-false, ltb-true, ltb-false}
use Rattle.irig_sync.specs.declared.sync.Sync.{Sync}
use Rattle.irig_sync.specs.Sync.{clock_gap, is_idle, idle_of}
use Rattle.irig_sync.specs.Lines.{Pulse, pulse_at, IsAfter, IsIdle}
use Rattle.irig_port.specs.Limits.{told_within, quality_in}
use Rattle.irig_reader.proofs.FedLaws.{at_most_five}
use Rattle.irig_lines.specs.declared.lines.Line.{Line}
use Rattle.irig_lines.specs.declared.lines.Lines.{Lines}
use Rattle.irig_lines.specs.Steps.{is_pulse, line_at, line_heard, line_settled, line_taken, settled, IsNewLine}
use Rattle.irig_timekeeper.specs.Keeping.{Keeping, heard_then, after_pulse, after_tick}
use Rattle.irig_timekeeper.specs.Life.{Call, after_calls, pulses_on, last_tick, AreInOrder}
use Rattle.irig_timekeeper.specs.Life.Call.{Hear, Tick}
use Rattle.irig_timekeeper.proofs.LifeLaws.{line_same, line_other, line_settles, line_takes, ticked, own_pulses, others_pulses, no_pulse}

-- its synchroniser knows when its last pulse rose
abbrev pub KnowsRise : (rise_us : ℕ) → List Pulse → Type 0
KnowsRise rise_us [] = Unit {0}
KnowsRise rise_us (p ∷ ps) = rise_us ≡ p.rise % 2 ^ 32

-- that rose less than a second before the tick
abbrev pub RoseSince : ℕ → List Pulse → Type 0
RoseSince tick [] = ⊥
RoseSince tick (p ∷ ps) = tick < p.rise + 1000000

pub record IsHeardAt (line : Line) (pulses : List Pulse) (tick : ℕ) : Type 0 where
  pub knows : KnowsRise line.sync.rise_us pulses
  pub lately : line.is_heard ≡ true → RoseSince tick pulses
  pub idle : line.is_heard ≡ false → IsIdle pulses tick

-- ---- a tick

same_rise : (s : Sync) (clock : ℕ) → (idle_of s clock).rise_us ≡ s.rise_us
same_rise s clock = by (is_idle (clock_gap s.rise_us clock))
  where
    by : (b : Bool) → (cond b (record s { place = 0; was_marker = 1 }) s).rise_us ≡ s.rise_us
    by true = refl
    by false = refl

gap_is : (r rise now : ℕ) → r ≡ rise % 2 ^ 32 → rise ≤ now → now < rise + 2 ^ 31 → clock_gap r (now % 2 ^ 32) ≡ now - rise
gap_is r rise now clock order near = omega (arith, clock, order, near)

gap_ahead : (r rise now : ℕ) → r ≡ rise % 2 ^ 32 → now < rise → rise ≤ now + 4000 → 2 ^ 31 ≤ clock_gap r (now % 2 ^ 32)
gap_ahead r rise now clock order near = omega (arith, clock, order, near)

idle_parts : (g : ℕ) → is_idle g ≡ true → (1000000 ≤ g) × (g < 2 ^ 31)
idle_parts g e = by (nat_lt g 1000000) (nat_lt g (2 ^ 31)) refl refl e
  where
    by : (a b : Bool) → nat_lt g 1000000 ≡ a → nat_lt g (2 ^ 31) ≡ b → (not a && b) ≡ true → (1000000 ≤ g) × (g < 2 ^ 31)
    by true b p q e = absurd cc
    by false true p q e = (ltb-false g 1000000 p, ltb-true g (2 ^ 31) q)
    by false false p q e = absurd cc

idle_is : (g : ℕ) → 1000000 ≤ g → g < 2 ^ 31 → is_idle g ≡ true
idle_is g more less = grind (arith, more, less)

module _ (tick now : ℕ) (order : tick ≤ now) (half : now + 504000 < tick + 1800000000) where
  still_since : (r : ℕ) (pulses : List Pulse) → KnowsRise r pulses → RoseSince tick pulses → is_idle (clock_gap r (now % 2 ^ 32)) ≡ false → RoseSince now pulses
  still_since r [] knows since live = since
  still_since r (p ∷ ps) knows since live = elim (cases_lt now (p.rise + 1000000)) [
    | inl soon ↦ soon
    | inr long ↦
        let gap = gap_is r p.rise now knows (omega (arith, long)) (omega (arith, since, half)) in
        let idle = idle_is (clock_gap r (now % 2 ^ 32)) (omega (arith, gap, long)) (omega (arith, gap, since, half)) in
        absurd (let both : true ≡ false = sym idle ∙ live in cc)
  ]

  now_idle : (r : ℕ) (pulses : List Pulse) → KnowsRise r pulses → RoseSince tick pulses → IsAfter pulses (now + 4000) → is_idle (clock_gap r (now % 2 ^ 32)) ≡ true → IsIdle pulses now
  now_idle r [] knows since risen idle = tt
  now_idle r (p ∷ ps) knows since risen idle =
      let parts = idle_parts (clock_gap r (now % 2 ^ 32)) idle in
      elim (cases_lt now p.rise) [
        | inl ahead ↦ absurd (let far = gap_ahead r p.rise now knows ahead risen in omega (arith, far, parts.1))
        | inr come ↦ (let gap = gap_is r p.rise now knows come (omega (arith, since, half)) in omega (arith, gap, parts.0, come))
      ]

  idle_still : (pulses : List Pulse) → IsIdle pulses tick → IsIdle pulses now
  idle_still [] idle = tt
  idle_still (p ∷ ps) idle = omega (arith, idle, order)

  heard_tick : (line : Line) (pulses : List Pulse) → IsAfter pulses (now + 4000) → IsHeardAt line pulses tick → IsHeardAt (line_settled (now % 2 ^ 32) line) pulses now
  heard_tick line pulses risen h = record {
    knows = subst (λ (r : ℕ). KnowsRise r pulses) (sym (same_rise line.sync (now % 2 ^ 32))) h.knows;
    lately = λ e. lately line.is_heard (is_idle (clock_gap line.sync.rise_us (now % 2 ^ 32))) refl refl e;
    idle = λ e. idle line.is_heard (is_idle (clock_gap line.sync.rise_us (now % 2 ^ 32))) refl refl e;
  }
    where
      lately : (a b : Bool) → line.is_heard ≡ a → is_idle (clock_gap line.sync.rise_us (now % 2 ^ 32)) ≡ b → (a && not b) ≡ true → RoseSince now pulses
      lately true false p q e = still_since line.sync.rise_us pulses h.knows (h.lately p) q
      lately true true p q e = absurd cc
      lately false b p q e = absurd cc

      idle : (a b : Bool) → line.is_heard ≡ a → is_idle (clock_gap line.sync.rise_us (now % 2 ^ 32)) ≡ b → (a && not b) ≡ false → IsIdle pulses now
      idle true true p q e = now_idle line.sync.rise_us pulses h.knows (h.lately p) risen q
      idle true false p q e = absurd cc
      idle false b p q e = idle_still pulses (h.idle p)

-- ---- a life

module _ (new : Keeping) (start i : ℕ) (small : i < 5) where
  abbrev pub IsHeard : List Call → Type 0
  IsHeard calls = IsHeardAt (line_at (after_calls new calls).state.lines i) (pulses_on i calls) (last_tick start calls)

  module _ (port rise width : ℕ) (calls : List Call) (order : AreInOrder start new.clock.redundancy (Hear port rise width ∷ calls)) (before : IsHeard calls) where
    abbrev k : Keeping
    k = after_calls new calls

    abbrev there : Line
    there = line_at (after_pulse k port (rise % 2 ^ 32) width).state.lines i

    own : is_pulse width ≡ true → (i == port) ≡ true → IsHeard (Hear port rise width ∷ calls)
    own narrow same =
        let at : i ≡ port = eqb-true i port same in
        let near : last_tick start calls ≤ rise + 500000 = (order.1 narrow).1 in
        let more : IsHeardAt (line_heard k.clock (line_at k.state.lines i) (rise % 2 ^ 32) width (told_within (Some k.clock.limits.limits) k.rules (heard_then k i (rise % 2 ^ 32) width)) (quality_in (heard_then k i (rise % 2 ^ 32) width))) (pulse_at rise width ∷ pulses_on i calls) (last_tick start calls) = record {
          knows = refl;
          lately = λ e. omega (arith, near);
          idle = λ e. absurd cc;
        } in
        let is : there ≡ line_heard k.clock (line_at k.state.lines i) (rise % 2 ^ 32) width (told_within (Some k.clock.limits.limits) k.rules (heard_then k i (rise % 2 ^ 32) width)) (quality_in (heard_then k i (rise % 2 ^ 32) width)) =
        subst (λ (j : ℕ). line_at (after_pulse k j (rise % 2 ^ 32) width).state.lines i ≡ line_heard k.clock (line_at k.state.lines i) (rise % 2 ^ 32) width (told_within (Some k.clock.limits.limits) k.rules (heard_then k i (rise % 2 ^ 32) width)) (quality_in (heard_then k i (rise % 2 ^ 32) width))) at (rw narrow (line_same k.state.lines i _ small)) in
        subst (λ (ps : List Pulse). IsHeardAt there ps (last_tick start calls)) (sym (own_pulses i port rise width calls narrow same))
        (subst (λ (x : Line). IsHeardAt x (pulse_at rise width ∷ pulses_on i calls) (last_tick start calls)) (sym is) more)

    others : is_pulse width ≡ true → (i == port) ≡ false → IsHeard (Hear port rise width ∷ calls)
    others narrow other =
        let low : port < 5 = omega (arith, order.0, at_most_five new.clock.redundancy) in
        let is : there ≡ line_at k.state.lines i = rw narrow (line_other k.state.lines port _ i low small (eqb-false i port other)) in
        subst (λ (ps : List Pulse). IsHeardAt there ps (last_tick start calls)) (sym (others_pulses i port rise width calls other))
        (subst (λ (x : Line). IsHeardAt x (pulses_on i calls) (last_tick start calls)) (sym is) before)

    wide : is_pulse width ≡ false → IsHeard (Hear port rise width ∷ calls)
    wide stuck =
        let is : line_at k.state.lines i ≡ there = rw stuck refl in
        subst (λ (ps : List Pulse). IsHeardAt there ps (last_tick start calls)) (sym (no_pulse i port rise width calls stuck))
        (subst (λ (x : Line). IsHeardAt x (pulses_on i calls) (last_tick start calls)) is before)

  after_it : (k : Keeping) (clock : ℕ) (pulses : List Pulse) (now : ℕ) → IsHeardAt (line_settled clock (line_at k.state.lines i)) pulses now → IsHeardAt (line_at (after_tick k clock).state.lines i) pulses now
  after_it k clock pulses now h = elim (ticked k clock) [
    | inl stays ↦ subst (λ (x : Line). IsHeardAt x pulses now) (line_settles clock k.state.lines i small ∙ ap (λ (x : Lines). line_at x i) (sym stays)) h
    | inr gives ↦
        let gone : IsHeardAt (line_taken (line_settled clock (line_at k.state.lines i))) pulses now = record { knows = h.knows; lately = h.lately; idle = h.idle } in
        subst (λ (x : Line). IsHeardAt x pulses now) (ap line_taken (line_settles clock k.state.lines i small) ∙ line_takes (settled clock k.state.lines) i small ∙ ap (λ (x : Lines). line_at x i) (sym gives)) gone
  ]

  pub heard_in : IsNewLine (line_at new.state.lines i) → (calls : List Call) → AreInOrder start new.clock.redundancy calls → IsHeard calls
  heard_in fresh [] order = record { knows = tt; lately = λ e. (let both : true ≡ false = sym e ∙ fresh.heard in absurd cc); idle = λ e. tt }
  heard_in fresh (Hear port rise width ∷ calls) order =
      let before = heard_in fresh calls order.2 in
      elim (cases_Bool (is_pulse width)) [
        | inr stuck ↦ wide port rise width calls order before stuck
        | inl narrow ↦ elim (cases_Bool (i == port)) [
          | inl same ↦ own port rise width calls order before narrow same
          | inr other ↦ others port rise width calls order before narrow other
        ]
      ]
  heard_in fresh (Tick now ∷ calls) order =
      after_it (after_calls new calls) (now % 2 ^ 32) (pulses_on i calls) now
      (heard_tick (last_tick start calls) now order.0 order.1 (line_at (after_calls new calls).state.lines i) (pulses_on i calls) (order.2 i) (heard_in fresh calls order.3))
